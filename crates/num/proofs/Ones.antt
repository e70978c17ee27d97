-- The numbers with one bit set are the powers of two: count_ones against the test of a bound.
-- Assumes nothing.
use mathlib.Core.Bool.{Bool, true, false}
use mathlib.Core.Path.{◌≡◌, refl, sym, ◌∙◌, ap}
use Prim.Native.Nat.{ℕ, zero, suc, ◌+◌, ◌*◌, ◌/◌, ◌%◌, ◌^◌, ◌≤◌, ◌<◌}
use native.Mathlib.Nat.{pow-suc}
use native.Mathlib.Omega.{arith}
use borrow.Author.Tests.{eqb-true, eq-eqb, ne_eqb}
use lib.Count.{ones, ones_in, ones_step, ones_cat}
use lib.Dec.{eqb}
use lib.Pow.{pow_pos}
use Rattle.std.proofs.lemmas.Nat.{zero_from_ones}
use Rattle.text.proofs.Same.{differ}
use Rattle.std.specs.Prelude.{None, Some}
use Rattle.num.specs.Value.{Value}
use Rattle.num.specs.Bound.{is_bound, bound_ok}
use Rattle.num.proofs.BoundLaws.{power-of, power-passes}

-- by the lowest bit, with the claim for the others
lowest : (k n : ℕ) → n < 2 ^ suc k → ones n ≡ 1 → (n / 2 < 2 ^ k → ones (n / 2) ≡ 1 → (j : ℕ) × (j < k) × (n / 2 ≡ 2 ^ j))
    → (b : ℕ) → n % 2 ≡ b → (j : ℕ) × (j < suc k) × (n ≡ 2 ^ j)
lowest k n h e above zero q =
    let s = ones_step n in
    let p = pow-suc 2 k in
    let r = above (omega arith) (omega arith) in
    let t = pow-suc 2 r.0 in
    (suc r.0, omega arith, omega arith)
lowest k n h e above (suc b) q =
    let s = ones_step n in
    let p = pow-suc 2 k in
    let z = zero_from_ones (n / 2) (omega arith) in
    (0, omega arith, omega arith)

one_set : (k n : ℕ) → n < 2 ^ k → ones n ≡ 1 → (j : ℕ) × (j < k) × (n ≡ 2 ^ j)
unfolding ones ones_in
one_set zero n h e =
    let z : n ≡ 0 = omega arith in
    let q : ones n ≡ 0 = ap ones z in
    absurd (omega arith)
one_set (suc k) n h e = lowest k n h e (λ l q. one_set k (n / 2) l q) (n % 2) refl

positive : (n j : ℕ) → 2 ≤ n → n ≡ 2 ^ j → 1 ≤ j
positive n zero l e = absurd (omega arith)
positive n (suc j) l e = omega arith

power-ones : (k : ℕ) → ones (2 ^ k) ≡ 1
unfolding ones ones_in
power-ones k =
    let e : 2 ^ k ≡ 1 * 2 ^ k + 0 = omega arith in
    ap ones e ∙ ones_cat k 1 0 (pow_pos k)

power-two : (k : ℕ) → 1 ≤ k → 2 ≤ 2 ^ k
power-two zero l = absurd (omega arith)
power-two (suc k) l = omega (arith, pow-suc 2 k, pow_pos k)

-- tests that pass together are equal
alike : (a b : Bool) → (a ≡ true → b ≡ true) → (b ≡ true → a ≡ true) → a ≡ b
alike true true f g = refl
alike true false f g = differ (f refl)
alike false true f g = differ (g refl)
alike false false f g = refl

pub one_bit : (n : ℕ) → n < 2 ^ 64 → 2 ≤ n → eqb (ones n) 1 ≡ is_bound n
one_bit n h l =
    alike _ _
    (λ e. let r = one_set 64 n h (eqb-true _ _ e) in power-passes n r.0 (positive n r.0 l r.2) (omega arith) r.2)
    (λ e. let r = power-of n e in eq-eqb _ _ (ap ones r.3 ∙ power-ones r.0))

pub below_two : (n : ℕ) → n < 2 → false ≡ is_bound n
below_two n h = alike _ _ (λ e. differ e) (λ e. let r = power-of n e in absurd (omega (arith, power-two r.0 r.1)))

-- the tests that the code makes
other_than_one : (n : ℕ) → n < 2 ^ 64 → (n ≡ 1 → ⊥) → eqb (ones n) 1 ≡ is_bound n
unfolding ones ones_in
other_than_one zero h l = below_two 0 (omega arith)
other_than_one (suc zero) h l = absurd (l refl)
other_than_one (suc (suc n)) h l = one_bit (suc (suc n)) h (omega arith)

pub bit_bound : (v : Value) (n : ℕ) → v ≡ Some n → n < 2 ^ 64 → (n ≡ 1 → ⊥) → ones n ≡ 1 → true ≡ bound_ok v
unfolding bound_ok
bit_bound v n e h l o = rw e (sym (eq-eqb _ _ o) ∙ other_than_one n h l)

pub bits_no_bound : (v : Value) (n : ℕ) → v ≡ Some n → n < 2 ^ 64 → (n ≡ 1 → ⊥) → (ones n ≡ 1 → ⊥) → false ≡ bound_ok v
unfolding bound_ok
bits_no_bound v n e h l o = rw e (sym (ne_eqb _ _ o) ∙ other_than_one n h l)

pub one_no_bound : (v : Value) (n : ℕ) → v ≡ Some n → n ≡ 1 → false ≡ bound_ok v
unfolding bound_ok
one_no_bound v n e o = rw (e, o) (below_two 1 (omega arith))

pub no_bound : (v : Value) → v ≡ None → false ≡ bound_ok v
unfolding bound_ok
no_bound v e = rw e refl
