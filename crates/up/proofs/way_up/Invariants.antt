-- Each record in turn: those before it have their way up.
-- Assumes nothing.
use Rattle.up.proofs.Raise.{Raised}
use Rattle.up.proofs.way_up.Given as goal

abbrev pub invariant-loop-i : goal.invariant-loop-i
invariant-loop-i l = Raised l.fn.tree l.records l.tree l.p l.i
