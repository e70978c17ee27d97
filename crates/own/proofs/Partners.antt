-- What holds of each pair of partners holds of any two.
-- Assumes nothing.
use Rattle.std.specs.Prelude.{Bool, false, ◌&&◌, ◌||◌, ◌⊎◌, ℕ, T, eqb}
use Rattle.std.proofs.Common.{inl, inr, eqb→eq}
use Rattle.text.proofs.Table.{first-of, second-of, or_cases}
use Rattle.own.specs.Tree.{partner}
use Rattle.own.specs.Arms as arm

module _ (P : ℕ → ℕ → Type 0) (lr : P arm.Left arm.Right) (ns : P arm.None arm.Some) (ft : P arm.False arm.True) (a b : ℕ) where
  abbrev are : ℕ → ℕ → Bool
  are x y = eqb a x && eqb b y

  of_pair : (x y : ℕ) → P x y → T (are x y) → P a b
  of_pair x y p t = rw (eqb→eq a x (first-of (eqb a x) (eqb b y) t), eqb→eq b y (second-of (eqb a x) (eqb b y) t)) p

  third : T (are arm.False arm.True) ⊎ T false → P a b
  third (inl t) = of_pair arm.False arm.True ft t
  third (inr t) = absurd t

  second : T (are arm.None arm.Some) ⊎ T (are arm.False arm.True || false) → P a b
  second (inl t) = of_pair arm.None arm.Some ns t
  second (inr t) = third (or_cases (are arm.False arm.True) false t)

  first : T (are arm.Left arm.Right) ⊎ T (are arm.None arm.Some || (are arm.False arm.True || false)) → P a b
  first (inl t) = of_pair arm.Left arm.Right lr t
  first (inr t) = second (or_cases (are arm.None arm.Some) (are arm.False arm.True || false) t)

  pub by-partners : T (partner a b) → P a b
  unfolding partner
  by-partners t = first (or_cases (are arm.Left arm.Right) (are arm.None arm.Some || (are arm.False arm.True || false)) t)
