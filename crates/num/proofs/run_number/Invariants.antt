-- The loop keeps what it has read of the run as a number.
-- Assumes nothing.
use Rattle.num.proofs.Reading.{Reading}
use Rattle.num.proofs.run_number.Given as goal

abbrev pub invariant-loop-b : goal.invariant-loop-b
invariant-loop-b l = Reading l.run l.v l.b-index
