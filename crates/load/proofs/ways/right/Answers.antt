-- Each line in turn: those before it give their ways up rightly.
-- Assumes nothing.
use Rattle.std.proofs.Common.{ℕ, ◌/◌, length, ap, arith}
use Rattle.load.proofs.WaysLaws.{agreeing-more, agreeing-not, agreeing-all}
use Rattle.load.proofs.ways.right.Goals as goal

pub returns-then-way-i : goal.returns-then-way-i
returns-then-way-i g c = agreeing-not c.loop-i.invariant (ap (λ (k : ℕ). length c.args.text.now / k) c.bytes.ensures) c.above-p.ensures.is c.way.ensures c.if-way-i.true (omega arith)

pub loop-i-preserved : goal.loop-i-preserved
loop-i-preserved g c = agreeing-more c.loop-i.invariant (ap (λ (k : ℕ). length c.args.text.now / k) c.bytes.ensures) c.above-p.ensures.is c.way.ensures c.if-way-i.false (omega arith)

pub returns : goal.returns
returns g c = agreeing-all c.loop-i.invariant (ap (λ (k : ℕ). length c.args.text.now / k) c.bytes.ensures) (omega arith)
