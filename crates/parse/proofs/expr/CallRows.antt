-- Calls: their rules in grammar's table, the tokens that they begin with, and what may follow those.
-- An alternative of a type, a pattern, an expression and a head is named (specs/Choice.antt). Elsewhere its number is its place within its
-- own nonterminal, as the row of the table has it: nothing, then the part; the first of two, then the second. No other nonterminal moves it.
-- Assumes nothing.
use Rattle.std.proofs.Common.{◌≡◌, ℕ, ◌+◌, ◌<◌, Bool, true, false, cond, not, ◌&&◌, ◌||◌, T, eqb, ltb, List, [], ◌∷◌, length, get_or, sym, refl, ap, subst, ap₂, arith}
use mathlib.Core.Option.{some}
use Rattle.text.proofs.Table.{not-true}
use Rattle.text.specs.Lists.{has}
use Rattle.kinds.specs.Rules.{wrappers}
use Rattle.lexer.specs.Classes as t
use Rattle.theory.specs.Grammar.{Sym, tok, nt, on, look, row, alt, pick}
use Rattle.theory.specs.Machine.{choose, expand}
use Rattle.theory.specs.Ebnf as shape
use Rattle.theory.specs.Ebnf.{sort_of, kinds_of}
use Rattle.theory.specs.Same.{ex}
use Rattle.own.specs.Kinds as kind
use Rattle.grammar.specs.Shapes.Shapes.{shapes}
use Rattle.grammar.specs.Shapes.Tables.{means, table}
use Rattle.grammar.specs.Records.Records.{aMark, asName, as_number, role_of}
use Rattle.grammar.specs.Shapes.ShapeKind.{BareShape, CastCallShape, FoldingShape, ForWhileShape, NamedShape, SimpleCallShape, TypedShape}
use Rattle.grammar.specs.Shapes.TablesIndex.{
  n-arguments,
  n-bare-optional-DoubleColon,
  n-bare-word,
  n-folding-optional-DoubleColon,
  n-folding-optional-DoubleColon-choice,
  n-folding-word,
  n-for_while-optional-DoubleColon,
  n-for_while-optional-DoubleColon-choice,
  n-function_name,
  n-identifier,
  n-named-optional,
  n-named-word,
  n-path,
  n-path-many-DoubleColon,
  n-path-optional,
  n-simple_call-word,
  n-single,
  n-type,
  n-typed-optional-DoubleColon,
  n-typed-optional-DoubleColon-choice,
  n-typed-word,
}
use Rattle.parse.specs.Contract.{Text, classes, Read, callees}
use Rattle.parse.specs.Choice as choice
use Rattle.parse.proofs.choice.Chosen.{where-chosen, only-class, alone-there, pos-there, yes-there, no-there, Forked, Optionally, forked, optionally, alone, hit, miss, goes}
use Rattle.parse.proofs.Rule.Marks.{a_word, word-mark}
use Rattle.parse.proofs.Rule.ByClass.{past_classes, run, and_both}
use Rattle.parse.proofs.Rule.Steps.{reads-tok, reads-one}
use Rattle.parse.proofs.Rule.Closing.{Rule}

-- The rules of calls.
abbrev pub simple_rhs : List Sym
simple_rhs = nt n-simple_call-word ∷ nt n-arguments ∷ []

abbrev pub cast_rhs : List Sym
cast_rhs = tok t.LAngle ∷ nt n-type ∷ tok t.RAngle ∷ tok t.DoubleColon ∷ tok t.into ∷ nt n-arguments ∷ []

abbrev pub named_rhs : List Sym
named_rhs = nt n-named-word ∷ nt n-named-optional ∷ []

abbrev pub bare_rhs : List Sym
bare_rhs = nt n-bare-word ∷ nt n-bare-optional-DoubleColon ∷ []

abbrev pub typed_rhs : List Sym
typed_rhs = nt n-typed-word ∷ nt n-typed-optional-DoubleColon ∷ []

abbrev pub folding_rhs : List Sym
folding_rhs = nt n-folding-word ∷ nt n-folding-optional-DoubleColon ∷ []

abbrev pub whiles_rhs : List Sym
whiles_rhs = tok t.for_while ∷ nt n-for_while-optional-DoubleColon ∷ []

pub simple-rule : Rule n-single choice.SimpleCall SimpleCallShape simple_rhs
unfolding ex means kinds_of shapes row table alt pick
simple-rule = record { category = refl; from_one = refl; kind = refl; rule = refl }

pub cast-rule : Rule n-single choice.CastCall CastCallShape cast_rhs
unfolding ex means kinds_of shapes row table alt pick
cast-rule = record { category = refl; from_one = refl; kind = refl; rule = refl }

pub named_rule : Rule n-single choice.Named NamedShape named_rhs
unfolding ex means kinds_of shapes row table alt pick
named_rule = record { category = refl; from_one = refl; kind = refl; rule = refl }

pub bare-rule : Rule n-single choice.Bare BareShape bare_rhs
unfolding ex means kinds_of shapes row table alt pick
bare-rule = record { category = refl; from_one = refl; kind = refl; rule = refl }

pub typed-rule : Rule n-single choice.Typed TypedShape typed_rhs
unfolding ex means kinds_of shapes row table alt pick
typed-rule = record { category = refl; from_one = refl; kind = refl; rule = refl }

pub folding-rule : Rule n-single choice.Folding FoldingShape folding_rhs
unfolding ex means kinds_of shapes row table alt pick
folding-rule = record { category = refl; from_one = refl; kind = refl; rule = refl }

pub whiles-rule : Rule n-single choice.ForWhile ForWhileShape whiles_rhs
unfolding ex means kinds_of shapes row table alt pick
whiles-rule = record { category = refl; from_one = refl; kind = refl; rule = refl }

-- The symbol s stands for one token, of the class c.
pub record For (s : Sym) (c : ℕ) : Type 0 where
  pub pos : 0 < c
  pub reads : (x : Text) (at : ℕ) → get_or (classes x) at 0 ≡ c → at < length x.ts → Read x (s ∷ []) at (shape.word c shape.nil) (at + 1)

for-tok : (c : ℕ) → 0 < c → For (tok c) c
for-tok c h = record { pos = h; reads = λ x at e i. reads-tok x c e i }

for-nt : (A c : ℕ) → 0 < c → sort_of (ex means (nt A)) ≡ shape.flat → expand table A c ≡ some (tok c ∷ []) → For (nt A) c
for-nt A c h f g = record { pos = h; reads = λ x at e i. reads-one x A c f g e i }

-- What the class of a call's first token is not: `<`, `::`, `,`, a decimal.
abbrev apart : ℕ → Bool
apart a = not (eqb a t.LAngle) && (not (eqb a t.DoubleColon) && (not (eqb a t.Comma) && not (eqb a t.DecLiteral)))

pub record Apart (c : ℕ) : Type 0 where
  pub angle : eqb c t.LAngle ≡ false
  pub colons : eqb c t.DoubleColon ≡ false
  pub comma : eqb c t.Comma ≡ false
  pub decimal : eqb c t.DecLiteral ≡ false

is-apart : (c : ℕ) → T (apart c) → Apart c
is-apart c h =
    let p = and_both (not (eqb c t.LAngle)) (not (eqb c t.DoubleColon) && (not (eqb c t.Comma) && not (eqb c t.DecLiteral))) h in
    let q = and_both (not (eqb c t.DoubleColon)) (not (eqb c t.Comma) && not (eqb c t.DecLiteral)) p.1 in
    let r = and_both (not (eqb c t.Comma)) (not (eqb c t.DecLiteral)) q.1 in
    record { angle = not-true (eqb c t.LAngle) p.0; colons = not-true (eqb c t.DoubleColon) q.0; comma = not-true (eqb c t.Comma) r.0; decimal = not-true (eqb c t.DecLiteral) r.1 }

-- The classes of an alternative each stand for themselves in the nonterminal that its rule begins with.
for-chosen : (A i c : ℕ) → sort_of (ex means (nt A)) ≡ shape.flat → T (not (eqb (row table n-single).other i)) → T (run (λ a. not (eqb (choose table n-single a) i) || ltb 0 a) past_classes 0)
    → T (run (λ a. not (eqb (choose table n-single a) i) || alone (expand table A a) a) past_classes 0) → choose table n-single c ≡ i → For (nt A) c
for-chosen A i c f o g h e = for-nt A c (pos-there n-single i o g c e) f (alone-there n-single A i o h c e)

-- The tokens that calls begin with.
module _ (c : ℕ) where
  pub for-simple : choose table n-single c ≡ choice.SimpleCall → For (nt n-simple_call-word) c
  unfolding sort_of ex means choose row table look alt pick
  for-simple e = for-chosen n-simple_call-word choice.SimpleCall c refl tt tt tt e

  pub at-cast : choose table n-single c ≡ choice.CastCall → c ≡ t.LAngle
  unfolding choose row table look
  at-cast e = only-class n-single choice.CastCall t.LAngle tt tt c e

  pub for-named : choose table n-single c ≡ choice.Named → For (nt n-named-word) c
  unfolding sort_of ex means choose row table look alt pick
  for-named e = for-chosen n-named-word choice.Named c refl tt tt tt e

  pub for-bare : choose table n-single c ≡ choice.Bare → For (nt n-bare-word) c
  unfolding sort_of ex means choose row table look alt pick
  for-bare e = for-chosen n-bare-word choice.Bare c refl tt tt tt e

  pub for-typed : choose table n-single c ≡ choice.Typed → For (nt n-typed-word) c
  unfolding sort_of ex means choose row table look alt pick
  for-typed e = for-chosen n-typed-word choice.Typed c refl tt tt tt e

  pub for-folding : choose table n-single c ≡ choice.Folding → For (nt n-folding-word) c
  unfolding sort_of ex means choose row table look alt pick
  for-folding e = for-chosen n-folding-word choice.Folding c refl tt tt tt e

  pub at-whiles : choose table n-single c ≡ choice.ForWhile → c ≡ t.for_while
  unfolding choose row table look
  at-whiles e = only-class n-single choice.ForWhile t.for_while tt tt c e

  pub for-whiles : choose table n-single c ≡ choice.ForWhile → For (tok t.for_while) c
  for-whiles e = subst (λ a. For (tok t.for_while) a) (sym (at-whiles e)) (for-tok t.for_while (omega arith))

  -- What they are not,
  pub simple-apart : choose table n-single c ≡ choice.SimpleCall → Apart c
  unfolding choose row table look
  simple-apart e = is-apart c (where-chosen n-single choice.SimpleCall apart tt tt c e)

  pub named-apart : choose table n-single c ≡ choice.Named → Apart c
  unfolding choose row table look
  named-apart e = is-apart c (where-chosen n-single choice.Named apart tt tt c e)

  pub folding-apart : choose table n-single c ≡ choice.Folding → Apart c
  unfolding choose row table look
  folding-apart e = is-apart c (where-chosen n-single choice.Folding apart tt tt c e)

  -- no wrappers,
  pub simple-unwrapped : choose table n-single c ≡ choice.SimpleCall → has wrappers c ≡ false
  unfolding choose row table look has
  simple-unwrapped e = no-there n-single choice.SimpleCall (has wrappers) tt tt c e

  -- names,
  pub named-name : choose table n-single c ≡ choice.Named → has t.identifiers c ≡ true
  unfolding choose row table look has
  named-name e = yes-there n-single choice.Named (has t.identifiers) tt tt c e

  pub bare-name : choose table n-single c ≡ choice.Bare → has t.identifiers c ≡ true
  unfolding choose row table look has
  bare-name e = yes-there n-single choice.Bare (has t.identifiers) tt tt c e

  pub typed-name : choose table n-single c ≡ choice.Typed → has t.identifiers c ≡ true
  unfolding choose row table look has
  typed-name e = yes-there n-single choice.Typed (has t.identifiers) tt tt c e

  pub folding-name : choose table n-single c ≡ choice.Folding → has t.identifiers c ≡ true
  unfolding choose row table look has
  folding-name e = yes-there n-single choice.Folding (has t.identifiers) tt tt c e

  pub whiles-name : choose table n-single c ≡ choice.ForWhile → has t.identifiers c ≡ true
  unfolding choose row table look has
  whiles-name e = yes-there n-single choice.ForWhile (has t.identifiers) tt tt c e

  -- other than `None`,
  pub named-variable : choose table n-single c ≡ choice.Named → eqb c t.None ≡ false
  unfolding choose row table look
  named-variable e = no-there n-single choice.Named (λ a. eqb a t.None) tt tt c e

  -- and marks of a call.
  pub typed-mark : choose table n-single c ≡ choice.Typed → role_of kind.Call c ≡ aMark
  unfolding choose row table look
  typed-mark e = word-mark c (where-chosen n-single choice.Typed a_word tt tt c e)

  pub folding-mark : choose table n-single c ≡ choice.Folding → role_of kind.Call c ≡ aMark
  unfolding choose row table look
  folding-mark e = word-mark c (where-chosen n-single choice.Folding a_word tt tt c e)

  pub whiles-mark : choose table n-single c ≡ choice.ForWhile → role_of kind.Call c ≡ aMark
  unfolding choose row table look
  whiles-mark e = word-mark c (where-chosen n-single choice.ForWhile a_word tt tt c e)

-- The token that a call begins with is a name of its own or a mark.
pub called-role : (c : ℕ) → has callees c ≡ true → role_of kind.Call c ≡ asName
unfolding role_of has
called-role c h = ap (λ (b : Bool). cond b asName (cond (eqb c t.DecLiteral) as_number aMark)) h

pub marked-role : (c : ℕ) → has callees c ≡ false → eqb c t.DecLiteral ≡ false → role_of kind.Call c ≡ aMark
unfolding role_of has
marked-role c h g = ap₂ (λ (a b : Bool). cond a asName (cond b as_number aMark)) h g

pub number-role : role_of kind.Call t.DecLiteral ≡ as_number
unfolding role_of has
number-role = refl

-- What may follow a name: nothing, or `::` and what follows that,
pub bare-optional : Optionally n-bare-optional-DoubleColon t.DoubleColon (tok t.DoubleColon ∷ nt n-path ∷ [])
unfolding sort_of ex means choose row look table alt pick
bare-optional = optionally refl (λ c. refl) refl refl

pub typed-optional : Optionally n-typed-optional-DoubleColon t.DoubleColon (tok t.DoubleColon ∷ nt n-typed-optional-DoubleColon-choice ∷ [])
unfolding sort_of ex means choose row look table alt pick
typed-optional = optionally refl (λ c. refl) refl refl

pub folding-optional : Optionally n-folding-optional-DoubleColon t.DoubleColon (tok t.DoubleColon ∷ nt n-folding-optional-DoubleColon-choice ∷ [])
unfolding sort_of ex means choose row look table alt pick
folding-optional = optionally refl (λ c. refl) refl refl

pub whiles-optional : Optionally n-for_while-optional-DoubleColon t.DoubleColon (tok t.DoubleColon ∷ nt n-for_while-optional-DoubleColon-choice ∷ [])
unfolding sort_of ex means choose row look table alt pick
whiles-optional = optionally refl (λ c. refl) refl refl

-- which is `<` and what it opens, or a path;
pub typed-choice : Forked n-typed-optional-DoubleColon-choice t.LAngle (tok t.LAngle ∷ nt n-type ∷ tok t.RAngle ∷ nt n-arguments ∷ []) (nt n-path ∷ [])
unfolding sort_of ex means choose row look table alt pick
typed-choice = forked refl (λ c. refl) refl refl

pub folding-choice : Forked n-folding-optional-DoubleColon-choice t.LAngle (tok t.LAngle ∷ nt n-function_name ∷ tok t.Comma ∷ tok t.DecLiteral ∷ tok t.RAngle ∷ nt n-arguments ∷ []) (nt n-path ∷ [])
unfolding sort_of ex means choose row look table alt pick
folding-choice = forked refl (λ c. refl) refl refl

pub whiles-choice : Forked n-for_while-optional-DoubleColon-choice t.LAngle (tok t.LAngle ∷ nt n-function_name ∷ tok t.RAngle ∷ nt n-arguments ∷ []) (nt n-path ∷ [])
unfolding sort_of ex means choose row look table alt pick
whiles-choice = forked refl (λ c. refl) refl refl

-- behind a path arguments or nothing;
pub path-optional : Optionally n-path-optional t.LParen (nt n-arguments ∷ [])
unfolding sort_of ex means choose row look table alt pick
path-optional = optionally refl (λ c. refl) refl refl

-- behind a name that is called nothing, arguments, or `::` and a path.
module _ {a : ℕ} where
  pub named-alone : (a ≡ t.DoubleColon → ⊥) → (a ≡ t.LParen → ⊥) → expand table n-named-optional a ≡ some []
  unfolding choose row table look alt pick
  named-alone h g = goes n-named-optional 1 a (miss t.DoubleColon 3 (on t.LParen 2 ∷ []) 1 h (miss t.LParen 2 [] 1 g refl)) refl

  pub named-args : a ≡ t.LParen → expand table n-named-optional a ≡ some (nt n-arguments ∷ [])
  unfolding choose row table look alt pick
  named-args h = goes n-named-optional 2 a (miss t.DoubleColon 3 (on t.LParen 2 ∷ []) 1 (λ (e : a ≡ t.DoubleColon). omega (arith, h, e)) (hit t.LParen 2 [] 1 h)) refl

  pub named-colons : a ≡ t.DoubleColon → expand table n-named-optional a ≡ some (tok t.DoubleColon ∷ nt n-path ∷ [])
  unfolding choose row table look alt pick
  named-colons h = goes n-named-optional 3 a (hit t.DoubleColon 3 (on t.LParen 2 ∷ []) 1 h) refl

pub flat-named : sort_of (ex means (nt n-named-optional)) ≡ shape.flat
unfolding sort_of ex means
flat-named = refl

-- A path.
pub path-row : (a : ℕ) → expand table n-path a ≡ some (nt n-identifier ∷ nt n-path-many-DoubleColon ∷ nt n-path-optional ∷ [])
unfolding choose row table look alt pick
path-row a = refl

pub flat-path : sort_of (ex means (nt n-path)) ≡ shape.flat
unfolding sort_of ex means
flat-path = refl
