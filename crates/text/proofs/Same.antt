-- No test answers both ways.
-- Assumes nothing.
use Rattle.std.specs.Prelude.{true, false, ◌≡◌, ℕ}
use Rattle.std.proofs.Common.{arith}

-- no test answers both ways
pub differ : {A : Type 0} → false ≡ true → A
differ e = let z : ◌≡◌ {A = ℕ} 0 1 = cc in absurd (omega arith)
