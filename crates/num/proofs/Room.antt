-- A digit more, from the room that eight times the number, its double and the digit leave below the largest number.
-- Assumes nothing.
use Rattle.std.specs.Prelude.{Some, ◌≡◌, ℕ, ◌+◌, ◌-◌, ◌*◌, ◌≤◌}
use Rattle.std.proofs.Common.{◌∙◌, ap, arith}
use Rattle.num.specs.Value.{largest, fitted}
use Rattle.num.proofs.Reading.{fits}

-- what the digits make, and what is left above that
pub pushed : (v d room : ℕ) → v * 10 + d ≤ largest → room ≡ largest - (v * 10 + d) → Some (largest - room) ≡ fitted (v * 10 + d)
pushed v d room h e = let s : largest - room ≡ v * 10 + d = omega arith in ap Some s ∙ fits (v * 10 + d) h
