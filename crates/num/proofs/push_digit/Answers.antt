-- Where the room behind eight times the number is too small for its double, or what is left of it for the digit, the sum of the three is too large.
-- Assumes nothing.
use Rattle.std.proofs.Common.{arith, ◌∙◌}
use Rattle.num.proofs.Reading.{too_large}
use Rattle.num.proofs.push_digit.Goals as goal

pub returns-in_err-room : goal.returns-in_err-room
returns-in_err-room c = c.from_residual.ensures ∙ too_large _ (omega (arith, c.in_err-room.ensures))

pub returns-in_err-room-2 : goal.returns-in_err-room-2
returns-in_err-room-2 c =
    let h = c.in_ok-room.ensures in
    let k = c.in_err-room-2.ensures in
    c.from_residual-in_err-room-2.ensures ∙ too_large _ (omega (arith, h, k, c.from.ensures))
