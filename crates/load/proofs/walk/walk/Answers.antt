-- `walk` meets its contract.
-- Assumes nothing.
use Rattle.std.proofs.Common.{sym, ◌∙◌, arith}
use Rattle.load.proofs.Walking.{walking_start, walking-bad, walking-end}
use Rattle.load.proofs.WalkLines.{in-listing, child-room, child-small, past-less, past-state, walking_on}
use Rattle.load.proofs.walk.walk.Goals as goal

pub overflow_add-i : goal.overflow_add-i
overflow_add-i g c = omega (arith, in-listing _ _ _ _ c.requires.size_in_bounds, c.requires.size_nonzero)

pub loop-seen-init : goal.loop-seen-init
loop-seen-init g c =
    rw (c.default.ensures.0, c.default.ensures.1.0, c.default.ensures.1.1)
    (walking_start _ _ _ c.start.ensures.is c.start.ensures.below c.requires.parent_value c.requires.size_nonzero (omega arith) c.requires.size_in_bounds
    (omega (arith, in-listing _ _ _ _ c.requires.size_in_bounds)))

pub returns-then-not-sits-clause-is : goal.returns-then-not-sits-clause-is
returns-then-not-sits-clause-is g c = walking-bad c.loop-seen.invariant c.loop-seen-test.true _ c.record-child.ensures (sym c.sits.ensures ∙ c.if-not-sits.true)

pub overflow_add-i-in-loop-seen : goal.overflow_add-i-in-loop-seen
overflow_add-i-in-loop-seen g c = omega (arith, child-room c.loop-seen.invariant _ c.if-not-sits.false c.sits.ensures)

pub past-seen-requires-clause-size_nonzero : goal.past-seen-requires-clause-size_nonzero
past-seen-requires-clause-size_nonzero g c = (child-small _ _ _ c.if-not-sits.false c.sits.ensures).0

pub past-seen-requires-clause-size_le_left : goal.past-seen-requires-clause-size_le_left
past-seen-requires-clause-size_le_left g c = (child-small _ _ _ c.if-not-sits.false c.sits.ensures).1

pub loop-seen-smaller : goal.loop-seen-smaller
loop-seen-smaller g c = past-less _ _ _ c.if-not-sits.false c.sits.ensures c.past-seen.ensures

pub loop-seen-preserved : goal.loop-seen-preserved
loop-seen-preserved g c =
    walking_on c.loop-seen.invariant c.loop-seen-test.true _ c.record-child.ensures c.if-not-sits.false c.sits.ensures c.past-seen.ensures
    (past-state _ _ c.loop-seen.invariant.small.state c.past-seen.ensures)

pub returns-clause-is : goal.returns-clause-is
returns-clause-is g c = walking-end c.loop-seen.invariant c.loop-seen-test.false
