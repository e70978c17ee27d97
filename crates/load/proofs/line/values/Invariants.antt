-- The loop keeps that the fields that are left would complete the numbers.
-- Assumes nothing.
use Rattle.load.proofs.WriteLaws.{Filling}
use Rattle.load.proofs.line.values.Given as goal

abbrev pub invariant-loop-k : goal.invariant-loop-k
invariant-loop-k g l = Filling l.widths l.line l.numbers l.p l.k
