-- What the tests of bounds, sizes and lengths say.
-- Assumes nothing.
use Rattle.std.specs.Prelude.{None, Some, true, ◌≡◌, refl, ℕ, zero, suc, ◌^◌, ◌≤◌, eqb}
use Rattle.std.proofs.Common.{ap, arith, eq-eqb, ne_eqb, eqb→eq}
use Rattle.text.proofs.Same.{differ}
use Rattle.text.specs.Lists.{span}
use Rattle.text.proofs.Table.{is_true}
use Rattle.text.proofs.ListLaws.{some-count, count-some}
use Rattle.num.specs.Value.{Value}
use Rattle.num.specs.Bound.{is_bound, bound_ok, size_ok, length_ok, Bound, Size, Length}

-- such a power, where the test passes
pub power-of : (n : ℕ) → is_bound n ≡ true → (k : ℕ) × (1 ≤ k) × (k ≤ 63) × (n ≡ 2 ^ k)
unfolding is_bound span
power-of n e = let h = some-count (λ k. eqb n (2 ^ k)) 63 1 (rw e tt) in (h.0, h.1, omega arith, eqb→eq n (2 ^ h.0) h.3)

-- the test passes at such a power
pub power-passes : (n k : ℕ) → 1 ≤ k → k ≤ 63 → n ≡ 2 ^ k → is_bound n ≡ true
unfolding is_bound span
power-passes n k l h e = is_true (is_bound n) (count-some (λ j. eqb n (2 ^ j)) 63 1 k (rw (eq-eqb n (2 ^ k) e) tt) l (omega arith))

-- A bound is good exactly when it is 2 to the k for some k from 1 to 63.
pub bound-iff : (v : Value) → (bound_ok v ≡ true → Bound v) × (Bound v → bound_ok v ≡ true)
unfolding bound_ok
bound-iff (Some n) = (
  λ e. let h = power-of n e in (h.0, h.1, h.2, ap Some h.3),
  λ p. let q = p.3 in power-passes n p.0 p.1 p.2 (cc),
)
bound-iff None = (λ e. differ e, λ p. let q = p.3 in let z : ◌≡◌ {A = ℕ} 0 1 = cc in absurd (omega arith))

-- A size is good exactly when it is some number from 1 on.
pub size-iff : (v : Value) → (size_ok v ≡ true → Size v) × (Size v → size_ok v ≡ true)
unfolding size_ok
size-iff (Some zero) = (λ e. differ e, λ p. let q = p.2 in let z : p.0 ≡ 0 = cc in absurd (omega arith))
size-iff (Some (suc n)) = (λ e. (suc n, omega arith, refl), λ p. rw (ne_eqb (suc n) 0 (λ q. absurd (omega arith))) refl)
size-iff None = (λ e. differ e, λ p. let q = p.2 in let z : ◌≡◌ {A = ℕ} 0 1 = cc in absurd (omega arith))

-- A length is good exactly when it is some number.
pub length-iff : (v : Value) → (length_ok v ≡ true → Length v) × (Length v → length_ok v ≡ true)
unfolding length_ok
length-iff (Some n) = (λ e. (n, refl), λ p. refl)
length-iff None = (λ e. differ e, λ p. let q = p.1 in let z : ◌≡◌ {A = ℕ} 0 1 = cc in absurd (omega arith))
