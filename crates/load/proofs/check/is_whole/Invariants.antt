-- The loop keeps that the records before stand.
-- Assumes nothing.
use Rattle.load.specs.Checks.Listed.{its_records}
use Rattle.load.proofs.CheckLaws.{Standing}
use Rattle.load.proofs.check.is_whole.Given as goal

abbrev pub invariant-loop-j : goal.invariant-loop-j
invariant-loop-j g l = Standing (its_records l.listing) l.n l.j
