-- Patterns: their rules in grammar's table, and the heads of their records.
-- Assumes nothing.
use Rattle.std.proofs.Common.{◌≡◌, ℕ, ◌<◌, ◌≤◌, Bool, true, false, cond, not, ◌&&◌, ◌||◌, T, eqb, ◌⊎◌, List, [], ◌∷◌, sym, refl, ap, ◌∙◌, ap₂, inl, inr, arith, eq-eqb, ne_eqb, eqb-true}
use mathlib.Core.Option.{none, some}
use Rattle.text.specs.Part.{part_of}
use Rattle.text.specs.Ascii.{ascii}
use Rattle.text.specs.Same.{same}
use Rattle.text.proofs.Same.{differ}
use Rattle.lexer.specs.Classes as t
use Rattle.theory.specs.Grammar.{Sym, tok, nt, on, look, row, alt, pick}
use Rattle.theory.specs.Machine.{choose, expand}
use Rattle.theory.specs.Ebnf as shape
use Rattle.theory.specs.Ebnf.{sort_of, kinds_of}
use Rattle.theory.specs.Same.{ex}
use Rattle.own.specs.Tree.{Tok}
use Rattle.own.specs.Law.{Sort, word}
use Rattle.own.specs.Kinds as kind
use Rattle.grammar.specs.Shapes.Shapes.{shapes}
use Rattle.grammar.specs.Shapes.Tables.{means, table}
use Rattle.grammar.specs.Records.Records.{Head, head, plain, head_of, form_of, pattern_name_head, text_of, first_tok, opening, aMark, role_of}
use Rattle.grammar.specs.Shapes.ShapeKind.{ArrayPatternShape, NamePatternShape, TuplePatternShape}
use Rattle.grammar.specs.Shapes.TablesIndex.{n-identifier, n-list-pattern, n-pattern, n-tail-pattern}
use Rattle.parse.specs.Contract.{Text, text, tok_at, Stands, PatternKind, opening_class, closing_class, pattern_choice, pattern_kind}
use Rattle.parse.specs.declared.token.Brackets.{Brackets}
use Rattle.parse.specs.declared.token.Brackets.TheVariants as brackets
use Rattle.parse.specs.declared.State.{State}
use Rattle.parse.specs.declared.token.Source.{Source}
use Rattle.parse.specs.Choice as choice
use Rattle.parse.proofs.choice.Chosen.{Unpicked, no-alternative, only-class, alone-there, pos-there, Optionally, optionally, hit, miss, goes}
use Rattle.parse.proofs.Rule.Marks.{keeping, keeping-mark, keeps-between}
use Rattle.parse.proofs.Rule.Amid.{Amid}
use Rattle.parse.proofs.Rule.Steps.{decided}
use Rattle.std.proofs.lemmas.Bool.{or_cases, or_right}
use Rattle.parse.proofs.Rule.Closing.{Rule}
use Rattle.parse.proofs.Rule.Commas.{Rows}
use Rattle.parse.proofs.Rule.Heads.{faultless}

-- The rules of patterns.
abbrev pub named_rhs : List Sym
named_rhs = nt n-identifier ∷ []

abbrev pub list_rhs : Brackets → List Sym
list_rhs b = tok (opening_class b) ∷ nt n-list-pattern ∷ tok (closing_class b) ∷ []

abbrev pub list_shape : Brackets → ℕ
list_shape brackets.Round = TuplePatternShape
list_shape brackets.Square = ArrayPatternShape

pub named_rule : Rule n-pattern choice.NamePattern NamePatternShape named_rhs
unfolding ex means kinds_of shapes row table alt pick
named_rule = record { category = refl; from_one = refl; kind = refl; rule = refl }

pub list-rule : (b : Brackets) → Rule n-pattern (pattern_choice b) (list_shape b) (list_rhs b)
unfolding ex means kinds_of shapes row table alt pick
list-rule brackets.Round = record { category = refl; from_one = refl; kind = refl; rule = refl }
list-rule brackets.Square = record { category = refl; from_one = refl; kind = refl; rule = refl }

-- The tokens that they begin with.
module _ (c : ℕ) where
  pub at_named : choose table n-pattern c ≡ choice.NamePattern → expand table n-identifier c ≡ some (tok c ∷ [])
  unfolding choose row table look alt pick
  at_named e = alone-there n-pattern n-identifier choice.NamePattern tt tt c e

  pub named-pos : choose table n-pattern c ≡ choice.NamePattern → 0 < c
  unfolding choose row table look
  named-pos e = pos-there n-pattern choice.NamePattern tt tt c e

  pub at-list : (b : Brackets) → choose table n-pattern c ≡ pattern_choice b → c ≡ opening_class b
  unfolding choose row table look
  at-list brackets.Round e = only-class n-pattern choice.TuplePattern t.LParen tt tt c e
  at-list brackets.Square e = only-class n-pattern choice.ArrayPattern t.LBracket tt tt c e

-- A list has no refusal of its own, and is a pattern.
pub list-faultless : (b : Brackets) → T (faultless (list_shape b))
list-faultless brackets.Round = tt
list-faultless brackets.Square = tt

pub list-unturned : (b : Brackets) → T (not (eqb (pattern_kind b) kind.Match))
list-unturned brackets.Round = tt
list-unturned brackets.Square = tt

pub list-kind : (b : Brackets) → PatternKind (pattern_kind b)
list-kind brackets.Round = (omega arith, omega arith)
list-kind brackets.Square = (omega arith, omega arith)

pub flat-named : sort_of (ex means (nt n-identifier)) ≡ shape.flat
unfolding sort_of ex means
flat-named = refl

-- No pattern begins with another class.
pub no-pattern : (c i : ℕ) → i ≡ choose table n-pattern c → Unpicked 3 i → expand table n-pattern c ≡ none
unfolding row table
no-pattern = no-alternative n-pattern

-- A list ends at `)` and at `]`.
abbrev pub Closes : ℕ → Type 0
Closes c = (eqb c t.RParen || eqb c t.RBracket) ≡ true

closes-not : (c d : ℕ) (e : (eqb c t.RParen || eqb c t.RBracket) ≡ true → ⊥) → (d ≡ t.RParen) ⊎ (d ≡ t.RBracket) → c ≡ d → ⊥
closes-not c d e (inl f) g = e (rw (eq-eqb c t.RParen (g ∙ f)) refl)
closes-not c d e (inr f) g = e (or_right (eqb c t.RParen) (eqb c t.RBracket) (eq-eqb c t.RBracket (g ∙ f)))

-- What `closes` says.
pub open_at : {r : Bool} (c : ℕ) → r ≡ (eqb c t.RParen || eqb c t.RBracket) → not r ≡ true → Closes c → ⊥
open_at {r = true} c e f h = differ f
open_at {r = false} c e f h = differ (e ∙ h)

pub shut_at : {r : Bool} (c : ℕ) → r ≡ (eqb c t.RParen || eqb c t.RBracket) → not r ≡ false → Closes c
shut_at {r = true} c e f = sym e
shut_at {r = false} c e f = absurd (differ (sym f))

-- The rows of a list that ends at both.
pub both_ends : (c : ℕ) → Closes c → look (on t.RParen 1 ∷ on t.RBracket 1 ∷ []) 2 c ≡ 1
both_ends c h = go (or_cases (eqb c t.RParen) (eqb c t.RBracket) h)
  where
    go : (eqb c t.RParen ≡ true) ⊎ (eqb c t.RBracket ≡ true) → look (on t.RParen 1 ∷ on t.RBracket 1 ∷ []) 2 c ≡ 1
    go (inl e) = hit t.RParen 1 (on t.RBracket 1 ∷ []) 2 (eqb-true c t.RParen e)
    go (inr e) = both (eqb c t.RParen) refl (eqb-true c t.RBracket e)
      where
        both : (b : Bool) → eqb c t.RParen ≡ b → c ≡ t.RBracket → look (on t.RParen 1 ∷ on t.RBracket 1 ∷ []) 2 c ≡ 1
        both true f g = hit t.RParen 1 (on t.RBracket 1 ∷ []) 2 (eqb-true c t.RParen f)
        both false f g = miss t.RParen 1 (on t.RBracket 1 ∷ []) 2 (λ h. differ (sym f ∙ eq-eqb c t.RParen h)) (hit t.RBracket 1 [] 2 g)

pub both-more : (c : ℕ) → (Closes c → ⊥) → look (on t.RParen 1 ∷ on t.RBracket 1 ∷ []) 2 c ≡ 2
unfolding look
both-more c h = miss t.RParen 1 (on t.RBracket 1 ∷ []) 2 (closes-not c t.RParen h (inl refl)) (miss t.RBracket 1 [] 2 (closes-not c t.RBracket h (inr refl)) refl)

pub rows-to-brackets : {L T A : ℕ} → sort_of (ex means (nt L)) ≡ shape.flat → ((c : ℕ) → choose table L c ≡ look (on t.RParen 1 ∷ on t.RBracket 1 ∷ []) 2 c)
    → alt table L 1 ≡ some [] → alt table L 2 ≡ some (nt A ∷ nt T ∷ []) → Optionally T t.Comma (tok t.Comma ∷ nt L ∷ []) → Rows L T A Closes
rows-to-brackets {L} f e g h z = record {
  flat_list = f;
  flat_tail = z.flat;
  ends = λ c p. goes L 1 c (e c ∙ both_ends c p) g;
  more = λ c n. goes L 2 c (e c ∙ both-more c n) h;
  stops = z.elsewhere;
  goes = z.there;
}

pub pattern-rows : Rows n-list-pattern n-tail-pattern n-pattern Closes
unfolding sort_of ex means choose row look table alt pick
pattern-rows = rows-to-brackets refl (λ c. refl) refl refl (optionally refl (λ c. refl) refl refl)

-- The heads of patterns.
module _ {x : Text} {K : ℕ} {N : ℕ → Type 0} {full left : List Sym} {st : State} {l : List ℕ} {w : List Sort} {ms : List Tok} {m : ℕ} {st₁ : State} {l₁ : List ℕ} where
  pub list-head : (b : Brackets) → Amid x K N full left st l w ms m st₁ l₁ → decided x (list_shape b) w ms ≡ head (pattern_kind b) 0 0
  unfolding head_of form_of
  list-head brackets.Round d = refl
  list-head brackets.Square d = refl

name-kind : (p : List ℕ) (c : ℕ) → ((pattern_name_head p c).kind ≡ kind.IgnorePattern) ⊎ ((pattern_name_head p c).kind ≡ kind.IdentifierPattern)
unfolding pattern_name_head
name-kind p c = go (eqb c t.Ident && same p (ascii "_"))
  where
    go : (b : Bool) → ((cond b (plain kind.IgnorePattern) (plain kind.IdentifierPattern)).kind ≡ kind.IgnorePattern) ⊎ ((cond b (plain kind.IgnorePattern) (plain kind.IdentifierPattern)).kind ≡ kind.IdentifierPattern)
    go true = inl refl
    go false = inr refl

module _ {k : ℕ} (p : List ℕ) (c : ℕ) (e : plain k ≡ pattern_name_head p c) where
  kind-is : (kind.IdentifierPattern ≤ k) × (k ≤ kind.IgnorePattern)
  kind-is = go (name-kind p c)
    where
      f : k ≡ (pattern_name_head p c).kind
      f = ap (λ (u : Head). u.kind) e

      go : ((pattern_name_head p c).kind ≡ kind.IgnorePattern) ⊎ ((pattern_name_head p c).kind ≡ kind.IdentifierPattern) → (kind.IdentifierPattern ≤ k) × (k ≤ kind.IgnorePattern)
      go (inl g) = (omega (arith, f, g), omega (arith, f, g))
      go (inr g) = (omega (arith, f, g), omega (arith, f, g))

  pub named-kind : (kind.IdentifierPattern ≤ k) × (k ≤ kind.ArrayPattern)
  named-kind = (kind-is.0, omega (arith, kind-is.1))

  pub named-unturned : T (not (eqb k kind.Match))
  named-unturned = rw (ne_eqb k kind.Match (λ f. omega (arith, kind-is.1))) tt

  keeping-kind : T (keeping k)
  keeping-kind = keeps-between kind.IdentifierPattern kind.IgnorePattern k tt kind-is.0 kind-is.1

  pub named-role : (d : ℕ) → role_of k d ≡ aMark
  named-role d = keeping-mark k d keeping-kind

pub named-head : (x : Source) {st : State} (r : State) {k : ℕ} → Stands (text x) st → r.at ≡ st.at → plain k ≡ pattern_name_head (part_of x.draft.now st.start st.stop) st.class
    → decided (text x) NamePatternShape (word st.class ∷ []) (tok_at (text x) r.at ∷ []) ≡ head k 0 0
unfolding head_of form_of opening text_of first_tok text
named-head x {st} r s a e =
    ap (λ (i : ℕ). pattern_name_head (part_of x.draft.now (tok_at (text x) i).start (tok_at (text x) i).stop) st.class) a
    ∙ ap₂ (λ (i j : ℕ). pattern_name_head (part_of x.draft.now i j) st.class) (sym s.start_is) (sym s.stop_is) ∙ sym e
