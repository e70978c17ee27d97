-- Assumes nothing.
use Rattle.lines.proofs.TwoDigits.{Paired}
use Rattle.lines.proofs.digits.digits.Given as goal

abbrev pub invariant-loop-i : goal.invariant-loop-i
invariant-loop-i g l = Paired l.fn.out l.at g.row.N l.v l.out l.above l.i
