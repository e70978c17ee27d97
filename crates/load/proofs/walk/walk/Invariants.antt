-- `walk` meets its contract.
-- Assumes nothing.
use Rattle.own.specs.Flat.{children}
use Rattle.load.specs.Checks.Listed.{its_records}
use Rattle.load.specs.Checks.Judge.{as_rec, judge, begun}
use Rattle.load.proofs.Walking.{Walking}
use Rattle.load.proofs.walk.walk.Given as goal

abbrev pub invariant-loop-seen : goal.invariant-loop-seen
invariant-loop-seen g l = Walking (its_records l.listing) (as_rec l.parent) (judge (as_rec l.parent) (begun (as_rec l.parent)) (children (its_records l.listing) l.j)) l.i l.seen

abbrev pub decreases-loop-seen : goal.decreases-loop-seen
decreases-loop-seen g l = l.seen.left
