-- `is_whole` meets its contract.
-- Assumes nothing.
use Rattle.std.proofs.Common.{arith}
use Rattle.load.proofs.CheckLaws.{one_none, one-top, one_size, standing-start, standing-more, standing-not, standing-all}
use Rattle.load.proofs.Listing.RecordLaws.{records-counted}
use Rattle.load.proofs.check.is_whole.Goals as goal

pub returns-then-n-eq0 : goal.returns-then-n-eq0
returns-then-n-eq0 g c = one_none _ (records-counted c.args.listing.now c.count-n.ensures) c.if-n-eq0.true

pub returns-then-not-is_top : goal.returns-then-not-is_top
returns-then-not-is_top g c = one-top _ _ c.record-top.ensures _ c.is_top.ensures c.if-not-is_top.true

pub returns-then-top-n : goal.returns-then-top-n
returns-then-top-n g c = one_size _ _ c.record-top.ensures (records-counted c.args.listing.now c.count-n.ensures) c.if-top-n.true

pub loop-j-init : goal.loop-j-init
loop-j-init g c = standing-start _ _

pub loop-j-preserved : goal.loop-j-preserved
loop-j-preserved g c = standing-more c.loop-j.invariant c.stands.ensures c.if-not-stands.false (omega arith)

pub returns-then-not-stands : goal.returns-then-not-stands
returns-then-not-stands g c =
    standing-not c.loop-j.invariant (records-counted c.args.listing.now c.count-n.ensures) c.stands.ensures c.if-not-stands.true (omega arith)

pub returns : goal.returns
returns g c =
    standing-all c.loop-j.invariant (records-counted c.args.listing.now c.count-n.ensures) c.record-top.ensures c.is_top.ensures c.if-not-is_top.false
    c.if-top-n.false (omega arith)
