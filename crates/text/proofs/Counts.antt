-- One byte more, and a count from a place on.
-- Assumes nothing.
use Rattle.std.proofs.Math.Option.{Option, none, some}
use Rattle.std.specs.Prelude.{◌≡◌, refl, ℕ, suc, ◌+◌}
use Rattle.std.proofs.Common.{ap, arith}
use Rattle.text.specs.Counts.{more, place_of}

pub place-more : (x : Option ℕ) (j : ℕ) → place_of (more x) j ≡ place_of x (j + 1)
place-more none j = refl
place-more (some n) j = ap some (let z : j + suc n ≡ j + 1 + n = omega arith in z)

pub place-zero : (x : Option ℕ) → place_of x 0 ≡ x
place-zero none = refl
place-zero (some n) = ap some (let z : 0 + n ≡ n = omega arith in z)
