-- The rows that the words of a buffer make.
-- Assumes nothing.
use Rattle.std.specs.Prelude.{List, ◌∷◌, ◌≡◌, refl, ℕ, zero, suc, ◌≤◌, take, drop}
use Rattle.std.specs.Simd.{first_chunks}
use Rattle.std.proofs.Common.{ap, arith}

-- The first rows of so many are those of the first words, whatever their width.
pub rows-taken : {X : Type 0} (wide n k : ℕ) (w : List X) → n ≤ k → take n (first_chunks wide k w) ≡ first_chunks wide n w
rows-taken wide zero k w h = refl
rows-taken wide (suc n) zero w h = absurd (omega arith)
rows-taken wide (suc n) (suc k) w h = ap (λ vs. take wide w ∷ vs) (rows-taken wide n k (drop wide w) (omega arith))
