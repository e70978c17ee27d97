-- The loop keeps that what is left of the line decides.
-- Assumes nothing.
use Rattle.std.proofs.Common.{arith}
use Rattle.load.proofs.LineLaws.{forming-no, forming-other, forming-more, forming-end}
use Rattle.load.proofs.line.in_form.Goals as goal

pub returns-then-not-are_digits : goal.returns-then-not-are_digits
returns-then-not-are_digits c = forming-no c.loop-k.invariant c.loop-k-test.true c.are_digits.ensures c.if-not-are_digits.true

pub returns-then-line-p : goal.returns-then-line-p
returns-then-line-p c = forming-other c.loop-k.invariant c.loop-k-test.true c.are_digits.ensures c.if-not-are_digits.false c.after.ensures c.if-line-p.true

pub loop-k-preserved : goal.loop-k-preserved
loop-k-preserved c = forming-more c.loop-k.invariant c.loop-k-test.true c.are_digits.ensures c.if-not-are_digits.false c.after.ensures c.if-line-p.false

pub returns : goal.returns
returns c = forming-end c.loop-k.invariant (omega arith)
