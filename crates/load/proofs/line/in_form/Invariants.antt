-- The loop keeps that what is left of the line decides.
-- Assumes nothing.
use Rattle.load.proofs.LineLaws.{Forming}
use Rattle.load.proofs.line.in_form.Given as goal

abbrev pub invariant-loop-k : goal.invariant-loop-k
invariant-loop-k l = Forming l.line l.widths l.p l.k
