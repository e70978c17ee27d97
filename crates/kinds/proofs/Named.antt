-- What is known of a number that names no kind: the tables of the functions over kinds have nothing there.
-- Assumes nothing.
use Rattle.std.specs.Prelude.{Bool, false, List, [], ◌∷◌, ◌≡◌, ◌≢◌, ℕ, suc, ◌-◌, ◌<◌, ◌≤◌, T, eqb, length, get_or, Result, Ok, Err, MatchResult}
use Rattle.std.proofs.Common.{sym, ap, ◌∙◌, arith, eqb→eq}
use Rattle.std.proofs.Math.Decide.{dec_lt}
use mathlib.Core.Logic.{◌⊎◌, inl, inr}
use Rattle.text.specs.Lists.{all, count}
use Rattle.text.proofs.ListLaws.{all-count}
use Rattle.own.specs.Kinds as kind
use Rattle.own.specs.Numbers.{kind_number, NamesKind}
use Rattle.own.specs.declared.kind.Kind.{Kind}
use Rattle.own.specs.declared.kind.NoKind.{NoKind}
use Rattle.own.specs.declared.kind.Kind.TheVariants as kinds
use Rattle.kinds.specs.Decide.{may_own, may_hold}
use Rattle.kinds.specs.Groups.{category_set}
use Rattle.kinds.proofs.Laws.{Table, at_key, at_right}
use Rattle.kinds.proofs.Tables.{marks_table, parts_table, category_table, owns-none, holds-none}

-- Every kind, by its number from 1.
abbrev every_kind : List Kind
every_kind =
    kinds.Function ∷ kinds.Name ∷ kinds.Parameter ∷ kinds.Alias ∷ kinds.Builtin ∷ kinds.BoolType ∷ kinds.Unsigned ∷ kinds.EitherType
    ∷ kinds.OptionType ∷ kinds.TupleType ∷ kinds.ArrayType ∷ kinds.ListType ∷ kinds.IdentifierPattern ∷ kinds.IgnorePattern ∷ kinds.TuplePattern ∷ kinds.ArrayPattern
    ∷ kinds.Let ∷ kinds.Block ∷ kinds.Left ∷ kinds.Right ∷ kinds.Some ∷ kinds.None ∷ kinds.Boolean ∷ kinds.Decimal
    ∷ kinds.Hexadecimal ∷ kinds.Binary ∷ kinds.Witness ∷ kinds.ParameterValue ∷ kinds.Variable ∷ kinds.Parenthesised ∷ kinds.Tuple ∷ kinds.Array
    ∷ kinds.List ∷ kinds.EnumConstruction ∷ kinds.Match ∷ kinds.EnumMatch ∷ kinds.BuiltinArm ∷ kinds.EnumArm ∷ kinds.Call ∷ kinds.Number
    ∷ kinds.Program ∷ kinds.TypeItem
    ∷ []

kinds_listed : T (all (λ n. eqb (kind_number (get_or every_kind (n - 1) kinds.Function)) n) (count kind.Last 1))
unfolding all count
kinds_listed = tt

none_named : (n : ℕ) → ((k : Kind) → kind_number k ≢ n) → (n ≡ 0) ⊎ (kind.Last < n)
none_named n h = go (dec_lt 0 n) (dec_lt kind.Last n)
  where
    go : Dec (0 < n) → Dec (kind.Last < n) → (n ≡ 0) ⊎ (kind.Last < n)
    go (no z) d = inl (omega arith)
    go (yes p) (yes u) = inr u
    go (yes p) (no u) =
        absurd (h (get_or every_kind (n - 1) kinds.Function)
        (eqb→eq (kind_number (get_or every_kind (n - 1) kinds.Function)) n
        (all-count (λ m. eqb (kind_number (get_or every_kind (m - 1) kinds.Function)) m) kind.Last 1 n kinds_listed (omega arith) (omega arith))))

-- What is decided of a number: of its kind, where it names one, and false where it names none.
pub decided : {n : ℕ} {b : Bool} {Met : Kind → Type 0} (may : ℕ → Bool) (r : Result Kind NoKind) → NamesKind n r → MatchResult r Met (λ _. b ≡ false)
    → ((k : Kind) → Met k → b ≡ may (kind_number k)) → (((k : Kind) → kind_number k ≢ n) → may n ≡ false) → b ≡ may n
decided may (Ok k) named m each none = each k m ∙ ap may named
decided may (Err e) named m each none = m ∙ sym (none named.1)

module _ {f : ℕ → ℕ} (t : Table f) where
  -- A value at the number of a kind.
  pub its : (v : ℕ) (j : Kind) {k : Kind} → T (at_key t v (kind_number j)) → k ≡ j → v ≡ f (kind_number k)
  its v j h e = at_right t v (kind_number j) h ∙ ap (λ (i : Kind). f (kind_number i)) (sym e)

  -- A number that names no kind is 0, or past the last: the function is 0 there.
  unnamed : T (at_key t 0 0) → length t.entries ≤ suc kind.Last → (n : ℕ) → ((k : Kind) → kind_number k ≢ n) → f n ≡ 0
  unnamed z l n h = go (none_named n h)
    where
      go : (n ≡ 0) ⊎ (kind.Last < n) → f n ≡ 0
      go (inl e) = ap f e ∙ sym (at_right t 0 0 z)
      go (inr u) = t.beyond n (omega arith)

-- So such a number owns nothing, holds nothing, and is in no group.
pub owns_none : (n class : ℕ) → ((k : Kind) → kind_number k ≢ n) → may_own n class ≡ false
owns_none n class h = sym (owns-none n class (unnamed marks_table tt (omega arith) n h))

pub holds_none : (n kid : ℕ) → ((k : Kind) → kind_number k ≢ n) → may_hold n kid ≡ false
holds_none n kid h = sym (holds-none n kid (unnamed parts_table tt (omega arith) n h))

pub no_category : (n : ℕ) → ((k : Kind) → kind_number k ≢ n) → category_set n ≡ 0
no_category n h = unnamed category_table tt (omega arith) n h
