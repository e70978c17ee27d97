-- The loop keeps the number so far, which a word holds with one digit more.
-- Assumes nothing.
use Rattle.std.proofs.Common.{arith}
use Rattle.load.proofs.LineLaws.{valued-start, valued-small, valued-more}
use Rattle.load.proofs.line.value.Goals as goal

pub loop-b-init : goal.loop-b-init
loop-b-init c = valued-start _

pub loop-b-preserved : goal.loop-b-preserved
loop-b-preserved c = valued-more c.loop-b.invariant (omega (arith, valued-small c.loop-b.invariant c.requires (omega arith))) c.digit.ensures (omega arith)
