-- Expressions that are no calls: their rules in grammar's table, and the heads of their records.
-- Assumes nothing.
use Rattle.std.proofs.Common.{◌≡◌, ℕ, suc, ◌<◌, ◌≤◌, Bool, true, false, cond, not, ◌&&◌, ◌||◌, T, eqb, List, [], ◌∷◌, ◌++◌, get_or, sym, refl, ap, ◌∙◌, ap₂, arith, ne_eqb}
use mathlib.Core.Option.{none, some}
use Rattle.lexer.specs.Classes as t
use Rattle.theory.specs.Grammar.{Sym, tok, nt, look, row, alt, pick}
use Rattle.theory.specs.Machine.{choose, expand}
use Rattle.theory.specs.Ebnf as shape
use Rattle.theory.specs.Ebnf.{sort_of, kinds_of}
use Rattle.theory.specs.Same.{ex}
use Rattle.theory.specs.Walk.{n-flat, k_in}
use Rattle.own.specs.Tree.{Tok}
use Rattle.own.specs.Law.{Sort, word, child}
use Rattle.own.specs.Kinds as kind
use Rattle.grammar.specs.Shapes.Shapes.{shapes}
use Rattle.grammar.specs.Shapes.Tables.{means, table}
use Rattle.grammar.specs.Records.Records.{Head, head, plain, sees, head_of, form_of, opening, literal_head, lone, part_count, unended}
use Rattle.grammar.specs.Shapes.ShapeKind.{ArrayShape, AssignmentShape, BlockShape, ListShape, LiteralShape, ParensShape}
use Rattle.grammar.specs.Shapes.TablesIndex.{n-assignment, n-block, n-elements, n-expression, n-list-expression, n-literal, n-pattern, n-single, n-tail-expression, n-type}
use Rattle.parse.specs.Contract.{Text, classes, Ready, Info, as_items, Parsed, read, stuck, ExprKind, opening_class, closing_class, single_choice, single_kind}
use Rattle.parse.specs.declared.token.Brackets.{Brackets}
use Rattle.parse.specs.declared.token.Brackets.TheVariants as brackets
use Rattle.parse.specs.declared.Step.{Step}
use Rattle.parse.specs.declared.State.{State}
use Rattle.parse.specs.Choice as choice
use Rattle.parse.proofs.choice.Chosen.{Unpicked, no-alternative, only-class, alone-there, pos-there, Forked, forked, optionally, hit}
use Rattle.parse.proofs.Rule.Marks.{keeping, keeps-between}
use Rattle.parse.proofs.Rule.Amid.{Amid}
use Rattle.parse.proofs.Rule.Steps.{decided}
use Rattle.parse.proofs.Rule.Closing.{Rule}
use Rattle.parse.proofs.Rule.Commas.{Rows}
use Rattle.parse.proofs.Rule.Heads.{faultless}
use Rattle.parse.proofs.pattern.Forms.{Closes, rows-to-brackets}

-- The rules.
abbrev pub literal_rhs : List Sym
literal_rhs = nt n-literal ∷ []

pub literal-rule : Rule n-single choice.Literal LiteralShape literal_rhs
unfolding ex means kinds_of shapes row table alt pick
literal-rule = record { category = refl; from_one = refl; kind = refl; rule = refl }

abbrev pub bracketed_rhs : Brackets → List Sym
bracketed_rhs b = tok (opening_class b) ∷ nt n-list-expression ∷ tok (closing_class b) ∷ []

abbrev pub bracketed_shape : Brackets → ℕ
bracketed_shape brackets.Round = ParensShape
bracketed_shape brackets.Square = ArrayShape

pub bracketed-rule : (b : Brackets) → Rule n-single (single_choice b) (bracketed_shape b) (bracketed_rhs b)
unfolding ex means kinds_of shapes row table alt pick
bracketed-rule brackets.Round = record { category = refl; from_one = refl; kind = refl; rule = refl }
bracketed-rule brackets.Square = record { category = refl; from_one = refl; kind = refl; rule = refl }

abbrev pub listed_rhs : List Sym
listed_rhs = tok t.list! ∷ tok t.LBracket ∷ nt n-list-expression ∷ tok t.RBracket ∷ []

pub listed-rule : Rule n-single choice.List ListShape listed_rhs
unfolding ex means kinds_of shapes row table alt pick
listed-rule = record { category = refl; from_one = refl; kind = refl; rule = refl }

abbrev pub block_rhs : List Sym
block_rhs = tok t.LBrace ∷ nt n-elements ∷ tok t.RBrace ∷ []

pub block-rule : Rule n-block 1 BlockShape block_rhs
unfolding ex means kinds_of shapes row table alt pick
block-rule = record { category = refl; from_one = refl; kind = refl; rule = refl }

abbrev pub assign_rhs : List Sym
assign_rhs = tok t.Let ∷ nt n-pattern ∷ tok t.Colon ∷ nt n-type ∷ tok t.Eq ∷ nt n-expression ∷ []

pub assign-rule : Rule n-assignment 1 AssignmentShape assign_rhs
unfolding ex means kinds_of shapes row table alt pick
assign-rule = record { category = refl; from_one = refl; kind = refl; rule = refl }

-- The tokens that they begin with.
module _ (c : ℕ) where
  pub at_literal : choose table n-single c ≡ choice.Literal → expand table n-literal c ≡ some (tok c ∷ [])
  unfolding choose row table look alt pick
  at_literal e = alone-there n-single n-literal choice.Literal tt tt c e

  pub literal-pos : choose table n-single c ≡ choice.Literal → 0 < c
  unfolding choose row table look
  literal-pos e = pos-there n-single choice.Literal tt tt c e

  pub at-bracketed : (b : Brackets) → choose table n-single c ≡ single_choice b → c ≡ opening_class b
  unfolding choose row table look
  at-bracketed brackets.Round e = only-class n-single choice.Parens t.LParen tt tt c e
  at-bracketed brackets.Square e = only-class n-single choice.Array t.LBracket tt tt c e

  pub at_listed : choose table n-single c ≡ choice.List → c ≡ t.list!
  unfolding choose row table look
  at_listed e = only-class n-single choice.List t.list! tt tt c e

  pub at_block : c ≡ t.LBrace → choose table n-block c ≡ 1
  unfolding choose row table look
  at_block e = hit t.LBrace 1 [] 0 e

  pub at-assign : c ≡ t.Let → choose table n-assignment c ≡ 1
  unfolding choose row table look
  at-assign e = hit t.Let 1 [] 0 e

pub flat-literal : sort_of (ex means (nt n-literal)) ≡ shape.flat
unfolding sort_of ex means
flat-literal = refl

-- An expression is a block at a brace, otherwise any other.
pub expression-choice : Forked n-expression t.LBrace (nt n-block ∷ []) (nt n-single ∷ [])
unfolding sort_of ex means choose row look table alt pick
expression-choice = forked refl (λ c. refl) refl refl

-- No expression begins with another class.
pub no-single : (c i : ℕ) → i ≡ choose table n-single c → Unpicked 12 i → expand table n-single c ≡ none
unfolding row table
no-single = no-alternative n-single

pub expression-rows : Rows n-list-expression n-tail-expression n-expression Closes
unfolding sort_of ex means choose row table look alt pick
expression-rows = rows-to-brackets refl (λ c. refl) refl refl (optionally refl (λ c. refl) refl refl)

-- A part that is another: read as the one it is read as the other.
pub as-part : {A B : ℕ} {x : Text} {st : State} {I : Info} {l l' : List ℕ} {s : Step} → sort_of (ex means (nt A)) ≡ shape.flat → Ready x st → expand table A st.class ≡ some (nt B ∷ [])
    → Parsed x (nt B ∷ []) as_items I st l l' s → Parsed x (nt A ∷ []) as_items I st l l' s
as-part {A} {B} {x} {st} f y e (read q) =
    let g : expand table A (get_or (classes x) st.at 0) ≡ some (nt B ∷ []) = ap (expand table A) (sym y.stands.class_is) ∙ e in
    read (record { items = q.items; L = q.L; m = q.m; reads = n-flat f g q.reads; lays = q.lays; info = q.info })
as-part {A} {B} {x} {st} f y e (stuck h g) =
    let k : expand table A (get_or (classes x) st.at 0) ≡ some (nt B ∷ []) = ap (expand table A) (sym y.stands.class_is) ∙ e in
    stuck h (λ τ. k_in k (g τ))

-- What brackets enclose.
lone-in : (a b : ℕ) (W : List Sort) → eqb a t.Comma ≡ false → eqb b t.Comma ≡ false → lone (word a ∷ (W ++ (word b ∷ []))) ≡ lone W
unfolding lone part_count sees
lone-in a b W p q =
    ap₂ (λ (n : ℕ) (s : Bool). eqb n 1 && not s) (parts W) (ap (λ (u : Bool). u || sees t.Comma (W ++ (word b ∷ []))) p ∙ seen W)
  where
    parts : (W : List Sort) → part_count (W ++ (word b ∷ [])) ≡ part_count W
    parts [] = refl
    parts (word c ∷ w) = parts w
    parts (child k l h c ∷ w) = ap suc (parts w)

    seen : (W : List Sort) → sees t.Comma (W ++ (word b ∷ [])) ≡ sees t.Comma W
    seen [] = ap (λ (u : Bool). u || false) q
    seen (word c ∷ w) = ap (λ (u : Bool). eqb c t.Comma || u) (seen w)
    seen (child k l h c ∷ w) = seen w

unended-in : (b : Bool) (W : List Sort) → unended b (W ++ (word t.RBrace ∷ [])) ≡ unended b W
unfolding unended
unended-in true [] = refl
unended-in false [] = refl
unended-in b (word c ∷ w) = unended-in (b && not (eqb c t.Semi)) w
unended-in b (child k l h c ∷ w) = unended-in true w

-- The heads.
kind-of : (b : Bool) → cond b (plain kind.Parenthesised) (plain kind.Tuple) ≡ plain (cond b kind.Parenthesised kind.Tuple)
kind-of true = refl
kind-of false = refl

module _ {x : Text} {K : ℕ} {N : ℕ → Type 0} {full left : List Sym} {st : State} {l : List ℕ} {ms : List Tok} {m : ℕ} {st₁ : State} {l₁ : List ℕ} where
  pub bracketed-head : (b : Brackets) (W : List Sort) (a : ℕ) {k : ℕ} → Amid x K N full left st l (word (opening_class b) ∷ (W ++ (word (closing_class b) ∷ []))) ms m st₁ l₁ → lone W ≡ eqb a 1 → k ≡ single_kind b a
      → decided x (bracketed_shape b) (word (opening_class b) ∷ (W ++ (word (closing_class b) ∷ []))) ms ≡ head k 0 0
  unfolding head_of form_of
  bracketed-head brackets.Round W a d e f = ap (λ (b : Bool). cond b (plain kind.Parenthesised) (plain kind.Tuple)) (lone-in t.LParen t.RParen W refl refl ∙ e) ∙ kind-of (eqb a 1) ∙ ap plain (sym f)
  bracketed-head brackets.Square W a d e f = ap plain (sym f)

  pub block-head : (W : List Sort) {a : ℕ} → Amid x K N full left st l (word t.LBrace ∷ (W ++ (word t.RBrace ∷ []))) ms m st₁ l₁ → a ≡ cond (unended false W) 1 0
      → decided x BlockShape (word t.LBrace ∷ (W ++ (word t.RBrace ∷ []))) ms ≡ head kind.Block a 0
  unfolding head_of form_of unended
  block-head W d e = ap (λ (b : Bool). head kind.Block (cond b 1 0) 0) (unended-in false W) ∙ ap (λ (n : ℕ). head kind.Block n 0) (sym e)

  module _ {w : List Sort} where
    pub listed-head : Amid x K N full left st l w ms m st₁ l₁ → decided x ListShape w ms ≡ head kind.List 0 0
    unfolding head_of form_of
    listed-head d = refl

    pub assign-head : Amid x K N full left st l w ms m st₁ l₁ → decided x AssignmentShape w ms ≡ head kind.Let 0 0
    unfolding head_of form_of
    assign-head d = refl

-- What brackets enclose has no refusal of its own, and is no match.
pub bracketed-faultless : (b : Brackets) → T (faultless (bracketed_shape b))
bracketed-faultless brackets.Round = tt
bracketed-faultless brackets.Square = tt

pub bracketed-kind : (b : Brackets) (a : ℕ) {k : ℕ} → k ≡ single_kind b a → (kind.Parenthesised ≤ k) × (k ≤ kind.Array)
bracketed-kind brackets.Square a e = (omega (arith, e), omega (arith, e))
bracketed-kind brackets.Round a {k} e = go (eqb a 1) e
  where
    go : (b : Bool) → k ≡ cond b kind.Parenthesised kind.Tuple → (kind.Parenthesised ≤ k) × (k ≤ kind.Array)
    go true f = (omega arith, omega arith)
    go false f = (omega arith, omega arith)

pub expr-kind : {k : ℕ} → (kind.Block ≤ k) × (k ≤ kind.EnumMatch) → ExprKind k
expr-kind h = (h.0, omega (arith, h.1), (λ e. omega (arith, h.1)), (λ e. omega (arith, h.1)))

pub not-match : {k n : ℕ} → k ≤ n → n < kind.Match → T (not (eqb k kind.Match))
not-match {k} h g = rw (ne_eqb k kind.Match (λ f. omega arith)) tt

pub keeping-low : (k : ℕ) → (kind.Alias ≤ k) × (k ≤ kind.List) → T (keeping k)
keeping-low k h = keeps-between kind.Alias kind.List k tt h.0 h.1

-- Literals.
abbrev by : Bool → Bool → Bool → Bool → Bool → Bool → Head
by a b d e f g = cond a (head kind.Boolean 0 0) (cond b (head kind.Boolean 1 0) (cond d (plain kind.Decimal) (cond e (plain kind.Hexadecimal) (cond f (plain kind.Binary) (cond g (plain kind.Witness) (plain kind.ParameterValue))))))

literal-heads : (c : ℕ) → (kind.Boolean ≤ (literal_head c).kind) × ((literal_head c).kind ≤ kind.ParameterValue)
unfolding literal_head
literal-heads c = go (eqb c t.false) (eqb c t.true) (eqb c t.DecLiteral) (eqb c t.HexLiteral) (eqb c t.BinLiteral) (eqb c t.Witness)
  where
    go : (a b d e f g : Bool) → (kind.Boolean ≤ (by a b d e f g).kind) × ((by a b d e f g).kind ≤ kind.ParameterValue)
    go true b d e f g = (omega arith, omega arith)
    go false true d e f g = (omega arith, omega arith)
    go false false true e f g = (omega arith, omega arith)
    go false false false true f g = (omega arith, omega arith)
    go false false false false true g = (omega arith, omega arith)
    go false false false false false true = (omega arith, omega arith)
    go false false false false false false = (omega arith, omega arith)

module _ {k low high : ℕ} (c : ℕ) (e : head k low high ≡ literal_head c) where
  pub literal-kind : (kind.Boolean ≤ k) × (k ≤ kind.ParameterValue)
  literal-kind = let h = literal-heads c in let f : k ≡ (literal_head c).kind = ap (λ (u : Head). u.kind) e in (omega arith, omega arith)

  pub literal-head : (x : Text) (t : Tok) → decided x LiteralShape (word c ∷ []) (t ∷ []) ≡ head k low high
  unfolding head_of form_of opening
  literal-head x t = sym e
