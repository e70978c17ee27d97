-- What the proof of a part set aside cites.
-- Assumes nothing.
use Rattle.std.specs.Prelude.{◌≡◌, ℕ, ◌+◌, ◌-◌, ◌≤◌, List, ◌++◌, length, drop}
use Rattle.std.proofs.Common.{ap₂, arith, length-drop}
use Rattle.std.proofs.Math.Seq.{paste}
use lib.Seq.{take_all}

-- The second part moved to the front: it stands there, and behind it is what was there.
pub moved_down : (a : List ℕ) (k : ℕ) → k ≤ length a → paste a 0 (drop k a) (length a - k) ≡ drop k a ++ drop (length a - k) a
moved_down a k h =
    let far : 0 + (length a - k) ≡ length a - k = omega arith in
    ap₂ (λ u m. u ++ drop m a) (take_all (length a - k) (drop k a) (omega (arith, length-drop k a))) far
