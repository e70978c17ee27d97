-- From the parent of the record before i from parent to parent, up to the first that reaches over i.
-- Assumes nothing.
use Rattle.std.proofs.Common.{arith, ◌∙◌}
use Rattle.up.proofs.Climb.{less, climbs, resumes, held-by-none}
use Rattle.up.proofs.above.Goals as goal

pub loop-p-init : goal.loop-p-init
loop-p-init g c = resumes (omega (arith, c.if-i-eq0.false)) (omega (arith, c.if-size-gt1.false, c.size.ensures)) c.requires.before_value

pub returns-then-up-eq0-clause-is : goal.returns-then-up-eq0-clause-is
returns-then-up-eq0-clause-is g c =
    held-by-none c.loop-p.invariant (omega (arith, c.loop-p-test.true, c.size-in-loop-p.ensures)) (c.way-up.ensures ∙ c.requires.raised c.loop-p.p c.loop-p.invariant.before)
    c.if-up-eq0.true

pub overflow_sub-p : goal.overflow_sub-p
overflow_sub-p g c =
    less c.loop-p.invariant (omega (arith, c.loop-p-test.true, c.size-in-loop-p.ensures)) (c.way-up.ensures ∙ c.requires.raised c.loop-p.p c.loop-p.invariant.before)

pub loop-p-preserved : goal.loop-p-preserved
loop-p-preserved g c =
    climbs c.loop-p.invariant (omega (arith, c.loop-p-test.true, c.size-in-loop-p.ensures)) (c.way-up.ensures ∙ c.requires.raised c.loop-p.p c.loop-p.invariant.before)
    c.if-up-eq0.false
