-- The loop keeps the number so far, which a word holds with one digit more.
-- Assumes nothing.
use Rattle.load.proofs.LineLaws.{Valued}
use Rattle.load.proofs.line.value.Given as goal

abbrev pub invariant-loop-b : goal.invariant-loop-b
invariant-loop-b l = Valued l.digits l.v l.b-index
