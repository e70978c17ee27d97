-- From the parent of the record before i from parent to parent.
-- Assumes nothing.
use Rattle.up.proofs.Climb.{Climbs}
use Rattle.up.proofs.above.Given as goal

abbrev pub invariant-loop-p : goal.invariant-loop-p
invariant-loop-p g l = Climbs (g.R.Records.sizes l.records) l.i l.p

abbrev pub decreases-loop-p : goal.decreases-loop-p
decreases-loop-p g l = l.p
