-- Types: their rules in grammar's table, and the heads of their records.
-- Assumes nothing.
use Rattle.std.proofs.Common.{◌≡◌, ℕ, ◌-◌, ◌^◌, ◌<◌, ◌≤◌, Bool, true, false, cond, not, ◌&&◌, ◌||◌, T, eqb, leb, List, [], ◌∷◌, length, take, drop, sym, refl, ap, ◌∙◌, ap₂, arith, ne_eqb}
use mathlib.Core.Option.{none, some}
use Rattle.text.specs.Part.{part_of}
use Rattle.text.specs.Refusals.{refusal_number}
use Rattle.text.specs.declared.refusal.Refusal.TheVariants as refusal
use Rattle.text.specs.Lists.{has}
use Rattle.num.specs.Digits as digits
use Rattle.num.specs.Value.{Value, decimal_from, decimal_of, number_of}
use Rattle.num.specs.Bound.{bound_ok, length_ok}
use Rattle.lexer.specs.Classes as t
use Rattle.theory.specs.Grammar.{Sym, tok, nt, look, row, alt, pick}
use Rattle.theory.specs.Machine.{choose, expand}
use Rattle.theory.specs.Ebnf as shape
use Rattle.theory.specs.Ebnf.{sort_of, kinds_of}
use Rattle.theory.specs.Same.{ex}
use Rattle.own.specs.Tree.{Tok, Items, marks}
use Rattle.own.specs.Flat.{blank_tok}
use Rattle.own.specs.Law.{Sort, word, sorts}
use Rattle.own.specs.Kinds as kind
use Rattle.grammar.specs.Shapes.Shapes.{shapes}
use Rattle.grammar.specs.Shapes.Tables.{means, table}
use Rattle.grammar.specs.Records.Records.{Head, head, wide, plain, sees, head_of, form_of, low_half, high_half, type_name_head, text_of, first_of, opening, decimal, place_in, aMark, role_of}
use Rattle.grammar.specs.Records.Faults.{unless, faults_at, earliest}
use Rattle.std.specs.Prelude.{None}
use Rattle.grammar.specs.Shapes.ShapeKind.{ArrayTypeShape, EitherTypeShape, ListTypeShape, NamedTypeShape, OptionTypeShape, TupleTypeShape}
use Rattle.grammar.specs.Shapes.TablesIndex.{n-either_type-optional-LAngle, n-list-type, n-list_type-optional-LAngle, n-named_type, n-option_type-optional-LAngle, n-tail-type, n-type}
use Rattle.parse.specs.declared.State.{State}
use Rattle.parse.specs.Contract.{Text, fault, fault_at, bound_fault, length_fault}
use Rattle.parse.specs.Choice as choice
use Rattle.parse.proofs.choice.Chosen.{Unpicked, no-alternative, only-class, alone-there, pos-there, Optionally, optionally, forked}
use Rattle.parse.proofs.Rule.Marks.{keeping, keeping-mark, keeps-between}
use Rattle.parse.proofs.Rule.Amid.{Amid}
use Rattle.parse.proofs.Rule.Steps.{number_in, decided}
use Rattle.parse.proofs.Rule.Closing.{Rule}
use Rattle.parse.proofs.Rule.Heads.{unless-is}
use Rattle.parse.proofs.Rule.Commas.{Rows, rows-to-paren}

-- The rules of types.
abbrev pub either_rhs : List Sym
either_rhs = tok t.Either ∷ nt n-either_type-optional-LAngle ∷ []

abbrev pub option_rhs : List Sym
option_rhs = tok t.Option ∷ nt n-option_type-optional-LAngle ∷ []

abbrev pub list_rhs : List Sym
list_rhs = tok t.List ∷ nt n-list_type-optional-LAngle ∷ []

abbrev pub named_rhs : List Sym
named_rhs = nt n-named_type ∷ []

abbrev pub tuple_rhs : List Sym
tuple_rhs = tok t.LParen ∷ nt n-list-type ∷ tok t.RParen ∷ []

abbrev pub array_rhs : List Sym
array_rhs = tok t.LBracket ∷ nt n-type ∷ tok t.Semi ∷ tok t.DecLiteral ∷ tok t.RBracket ∷ []

pub either-rule : Rule n-type choice.EitherType EitherTypeShape either_rhs
unfolding ex means kinds_of shapes row table alt pick
either-rule = record { category = refl; from_one = refl; kind = refl; rule = refl }

pub option-rule : Rule n-type choice.OptionType OptionTypeShape option_rhs
unfolding ex means kinds_of shapes row table alt pick
option-rule = record { category = refl; from_one = refl; kind = refl; rule = refl }

pub list-rule : Rule n-type choice.ListType ListTypeShape list_rhs
unfolding ex means kinds_of shapes row table alt pick
list-rule = record { category = refl; from_one = refl; kind = refl; rule = refl }

pub named_rule : Rule n-type choice.NamedType NamedTypeShape named_rhs
unfolding ex means kinds_of shapes row table alt pick
named_rule = record { category = refl; from_one = refl; kind = refl; rule = refl }

pub tuple-rule : Rule n-type choice.TupleType TupleTypeShape tuple_rhs
unfolding ex means kinds_of shapes row table alt pick
tuple-rule = record { category = refl; from_one = refl; kind = refl; rule = refl }

pub array-rule : Rule n-type choice.ArrayType ArrayTypeShape array_rhs
unfolding ex means kinds_of shapes row table alt pick
array-rule = record { category = refl; from_one = refl; kind = refl; rule = refl }

-- The tokens that they begin with.
module _ (c : ℕ) where
  pub at-either : choose table n-type c ≡ choice.EitherType → c ≡ t.Either
  unfolding choose row table look
  at-either e = only-class n-type choice.EitherType t.Either tt tt c e

  pub at_option : choose table n-type c ≡ choice.OptionType → c ≡ t.Option
  unfolding choose row table look
  at_option e = only-class n-type choice.OptionType t.Option tt tt c e

  pub at-list : choose table n-type c ≡ choice.ListType → c ≡ t.List
  unfolding choose row table look
  at-list e = only-class n-type choice.ListType t.List tt tt c e

  pub at_named : choose table n-type c ≡ choice.NamedType → expand table n-named_type c ≡ some (tok c ∷ [])
  unfolding choose row table look alt pick
  at_named e = alone-there n-type n-named_type choice.NamedType tt tt c e

  pub at-tuple : choose table n-type c ≡ choice.TupleType → c ≡ t.LParen
  unfolding choose row table look
  at-tuple e = only-class n-type choice.TupleType t.LParen tt tt c e

  pub at-array : choose table n-type c ≡ choice.ArrayType → c ≡ t.LBracket
  unfolding choose row table look
  at-array e = only-class n-type choice.ArrayType t.LBracket tt tt c e

pub flat-named : sort_of (ex means (nt n-named_type)) ≡ shape.flat
unfolding sort_of ex means has
flat-named = refl

-- No type begins with another class.
pub no-type : (c i : ℕ) → i ≡ choose table n-type c → Unpicked 6 i → expand table n-type c ≡ none
unfolding row table
no-type = no-alternative n-type

-- What may follow `Either`, `Option` and `List`.
pub either-optional : Optionally n-either_type-optional-LAngle t.LAngle (tok t.LAngle ∷ nt n-type ∷ tok t.Comma ∷ nt n-type ∷ tok t.RAngle ∷ [])
unfolding sort_of ex means choose row look table alt pick
either-optional = optionally refl (λ c. refl) refl refl

pub option-optional : Optionally n-option_type-optional-LAngle t.LAngle (tok t.LAngle ∷ nt n-type ∷ tok t.RAngle ∷ [])
unfolding sort_of ex means choose row look table alt pick
option-optional = optionally refl (λ c. refl) refl refl

pub list-optional : Optionally n-list_type-optional-LAngle t.LAngle (tok t.LAngle ∷ nt n-type ∷ tok t.Comma ∷ tok t.DecLiteral ∷ tok t.RAngle ∷ [])
unfolding sort_of ex means choose row look table alt pick
list-optional = optionally refl (λ c. refl) refl refl

-- The rows of lists of types and of patterns.
pub type-rows : Rows n-list-type n-tail-type n-type (λ c. c ≡ t.RParen)
unfolding sort_of ex means choose row look table alt pick
type-rows = rows-to-paren (forked refl (λ c. refl) refl refl) (optionally refl (λ c. refl) refl refl)

-- The heads of types.
module _ {x : Text} {K : ℕ} {N : ℕ → Type 0} {full left : List Sym} {st : State} {l : List ℕ} {ms : List Tok} {m : ℕ} {st₁ : State} {l₁ : List ℕ} where
  pub either-alone-head : Amid x K N full left st l (word t.Either ∷ []) ms m st₁ l₁ → decided x EitherTypeShape (word t.Either ∷ []) ms ≡ head kind.Alias 0 0
  unfolding head_of form_of sees
  either-alone-head d = refl

  pub option-alone-head : Amid x K N full left st l (word t.Option ∷ []) ms m st₁ l₁ → decided x OptionTypeShape (word t.Option ∷ []) ms ≡ head kind.Alias 0 0
  unfolding head_of form_of sees
  option-alone-head d = refl

  pub list-alone-head : Amid x K N full left st l (word t.List ∷ []) ms m st₁ l₁ → decided x ListTypeShape (word t.List ∷ []) ms ≡ head kind.Alias 0 0
  unfolding head_of form_of sees
  list-alone-head d = refl

  module _ {w : List Sort} where
    pub either-head : Amid x K N full left st l (word t.Either ∷ word t.LAngle ∷ w) ms m st₁ l₁ → decided x EitherTypeShape (word t.Either ∷ word t.LAngle ∷ w) ms ≡ wide kind.EitherType (number_in x ms)
    unfolding head_of form_of sees
    either-head d = refl

    pub option-head : Amid x K N full left st l (word t.Option ∷ word t.LAngle ∷ w) ms m st₁ l₁ → decided x OptionTypeShape (word t.Option ∷ word t.LAngle ∷ w) ms ≡ wide kind.OptionType (number_in x ms)
    unfolding head_of form_of sees
    option-head d = refl

    pub list-head : Amid x K N full left st l (word t.List ∷ word t.LAngle ∷ w) ms m st₁ l₁ → decided x ListTypeShape (word t.List ∷ word t.LAngle ∷ w) ms ≡ wide kind.ListType (number_in x ms)
    unfolding head_of form_of sees
    list-head d = refl

    pub tuple-head : Amid x K N full left st l w ms m st₁ l₁ → decided x TupleTypeShape w ms ≡ head kind.TupleType 0 0
    unfolding head_of form_of
    tuple-head d = refl

    pub array_head : Amid x K N full left st l w ms m st₁ l₁ → decided x ArrayTypeShape w ms ≡ wide kind.ArrayType (number_in x ms)
    unfolding head_of form_of
    array_head d = refl

-- Low and high are the two halves of the number.
pub wide_is : {H : Head} {K n u low high : ℕ} → H ≡ wide K n → n ≡ u → low ≡ low_half u → high ≡ high_half u → H ≡ head K low high
wide_is {K = K} e f p q = e ∙ ap (wide K) f ∙ ap₂ (head K) (sym p) (sym q)

-- Without a decimal the number is 0.
pub no_value : (draft : List ℕ) → decimal_of (text_of draft blank_tok) ≡ 0
unfolding decimal_of text_of part_of decimal_from digits.plain
no_value draft = ap decimal_of (go (leb 0 0 && leb 0 (length draft)))
  where
    go : (b : Bool) → cond b (take (0 - 0) (drop 0 draft)) [] ≡ []
    go true = refl
    go false = refl

pub zero-low : 0 ≡ low_half 0
unfolding low_half
zero-low = refl

pub zero_high : 0 ≡ high_half 0
unfolding high_half
zero_high = refl

-- The refusals of a List's bound and of an array's length.
module _ (draft : List ℕ) where
  pub list-fault : (is : Items) {w : List Sort} (v : Value) (y : Tok) → sorts is ≡ word t.List ∷ word t.LAngle ∷ w → first_of t.DecLiteral (marks is) ≡ y → v ≡ number_of (text_of draft y) → earliest (faults_at draft ListTypeShape is) ≡ fault_at (bound_fault v) y.start
  unfolding faults_at sees decimal number_of bound_fault
  list-fault is {w} v y e f g =
      (λ i. earliest (unless (not (sees t.LAngle (e i)) || bound_ok (number_of (text_of draft (f i)))) (refusal_number refusal.Bound) (f i))) ∙ (λ i. earliest (unless (bound_ok (sym g i)) (refusal_number refusal.Bound) y))
      ∙ unless-is y (bound_ok v) refusal.Bound

  pub list-alone-fault : (is : Items) → sorts is ≡ word t.List ∷ [] → earliest (faults_at draft ListTypeShape is) ≡ fault None
  unfolding faults_at sees decimal number_of unless earliest fault
  list-alone-fault is e = λ i. earliest (unless (not (sees t.LAngle (e i)) || bound_ok (number_of (text_of draft (first_of t.DecLiteral (marks is))))) (refusal_number refusal.Bound) (first_of t.DecLiteral (marks is)))

  pub array-fault : (is : Items) (v : Value) (y : Tok) → first_of t.DecLiteral (marks is) ≡ y → v ≡ number_of (text_of draft y) → earliest (faults_at draft ArrayTypeShape is) ≡ fault_at (length_fault v) y.start
  unfolding faults_at decimal number_of length_fault
  array-fault is v y f g =
      (λ i. earliest (unless (length_ok (number_of (text_of draft (f i)))) (refusal_number refusal.Length) (f i))) ∙ (λ i. earliest (unless (length_ok (sym g i)) (refusal_number refusal.Length) y))
      ∙ unless-is y (length_ok v) refusal.Length

-- A name of a type: its class is not 0, and the head of its record.
module _ (c : ℕ) where
  pub named-pos : choose table n-type c ≡ choice.NamedType → 0 < c
  unfolding choose row table look
  named-pos e = pos-there n-type choice.NamedType tt tt c e

type-kind : (c : ℕ) → (kind.Alias ≤ (type_name_head c).kind) × ((type_name_head c).kind ≤ kind.Unsigned)
unfolding type_name_head
type-kind c = go (eqb c t.bool) (has t.unsigned_types c) (has t.builtin_types c)
  where
    its : Bool → Bool → Bool → ℕ
    its x y z = (cond x (plain kind.BoolType) (cond y (head kind.Unsigned (2 ^ place_in 0 0 t.unsigned_types c) 0) (cond z (head kind.Builtin (place_in 0 0 t.builtin_types c) 0) (plain kind.Alias)))).kind

    go : (x y z : Bool) → (kind.Alias ≤ its x y z) × (its x y z ≤ kind.Unsigned)
    go true y z = (omega arith, omega arith)
    go false true z = (omega arith, omega arith)
    go false false true = (omega arith, omega arith)
    go false false false = (omega arith, omega arith)

module _ {k low high : ℕ} (c : ℕ) (e : head k low high ≡ type_name_head c) where
  kind-is : (kind.Alias ≤ k) × (k ≤ kind.Unsigned)
  kind-is = let h = type-kind c in let f : k ≡ (type_name_head c).kind = ap (λ (u : Head). u.kind) e in (omega arith, omega arith)

  pub named-kind : (kind.Alias ≤ k) × (k ≤ kind.ListType)
  named-kind = (kind-is.0, omega (arith, kind-is.1))

  pub named-unturned : T (not (eqb k kind.Match))
  named-unturned = rw (ne_eqb k kind.Match (λ f. omega (arith, kind-is.1))) tt

  keeping-kind : T (keeping k)
  keeping-kind = keeps-between kind.Alias kind.Unsigned k tt kind-is.0 kind-is.1

  pub named-role : (d : ℕ) → role_of k d ≡ aMark
  named-role d = keeping-mark k d keeping-kind

pub named-head : (x : Text) (t : Tok) (c : ℕ) {k low high : ℕ} → head k low high ≡ type_name_head c → decided x NamedTypeShape (word c ∷ []) (t ∷ []) ≡ head k low high
unfolding head_of form_of opening
named-head x t c e = sym e
