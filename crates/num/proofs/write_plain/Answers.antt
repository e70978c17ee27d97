-- A digit more is a law of `Filled`.
-- Assumes nothing.
use Rattle.num.proofs.Fill.{stores}
use Rattle.num.proofs.write_plain.Goals as goal

pub loop-b-preserved : goal.loop-b-preserved
loop-b-preserved c = stores _ _ _ _ _ c.loop-b.invariant c.loop-b-test.true c.if-b-eq95.false c.if-n-out.false
