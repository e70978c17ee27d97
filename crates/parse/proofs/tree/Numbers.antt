-- A record with a number that was read: what is written is the number's two halves, where 64 bits hold it.
-- Assumes nothing.
use Rattle.std.proofs.Common.{◌≡◌, ℕ, ◌/◌, ◌%◌, ◌≤◌, T, ltb, List, length, ap, subst, arith, ltb→lt}
use Rattle.text.specs.Lists.{has}
use Rattle.text.proofs.Table.{second-of}
use Rattle.num.specs.Value.{Value, largest, fitted}
use Rattle.num.proofs.ValueLaws.{Held, whole, lost, held}
use Rattle.own.specs.Kinds as kind
use Rattle.kinds.specs.Shape.{half_range}
use Rattle.kinds.specs.Fields.{halves}
use Rattle.grammar.specs.Records.Records.{low_half, high_half}
use Rattle.parse.specs.Contract.{number_kinds, Put, PutNumber, written, unwritten}

-- Two halves hold no larger number.
halves_small : (n : ℕ) → T (halves (low_half n) (high_half n)) → n ≤ largest
unfolding halves low_half high_half
halves_small n t = let h = ltb→lt (n / half_range) half_range (second-of (ltb (n % half_range) half_range) (ltb (n / half_range) half_range) t) in omega arith

-- The kinds that hold a number.
pub array-numbered : T (has number_kinds kind.ArrayType)
unfolding has
array-numbered = tt

pub list-numbered : T (has number_kinds kind.ListType)
unfolding has
list-numbered = tt

pub number-numbered : T (has number_kinds kind.Number)
unfolding has
number-numbered = tt

pub put-number : {l l' : List ℕ} {here k b e z : ℕ} {v : Value} (n : ℕ) → v ≡ fitted n → T (has number_kinds k) → PutNumber l here k b e v z l' → Put l here k b e (low_half n) (high_half n) z l'
put-number {l} {l'} {here} {k} {b} {e} {z} n f t p = go (held n) (subst (λ u. PutNumber l here k b e u z l') f p)
  where
    go : {u : Value} → Held n u → PutNumber l here k b e u z l' → Put l here k b e (low_half n) (high_half n) z l'
    go (whole h) (written {n = m} q r) = let s : m ≡ n = cc in subst (λ i. Put l here k b e (low_half i) (high_half i) z l') s r
    go (whole h) (unwritten q r) = let o : ◌≡◌ {A = ℕ} 0 1 = cc in absurd (omega arith)
    go (lost h) (written q r) = let o : ◌≡◌ {A = ℕ} 0 1 = cc in absurd (omega arith)
    go (lost h) (unwritten q r) = record { long = ap length r; put = λ w g. absurd (omega (arith, halves_small n (w t))) }
