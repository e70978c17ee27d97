-- Assumes nothing.
use Rattle.std.proofs.Common.{arith}
use Rattle.lines.proofs.TwoDigits.{paired-start, paired-more, zeros-written}
use Rattle.lines.proofs.digits.digits.Goals as goal

pub returns-then-v-eq0 : goal.returns-then-v-eq0
returns-then-v-eq0 g c = zeros-written _ _ _ c.if-v-eq0.true (omega arith) (omega arith) (c.fill.ensures.after (λ y e. e))

pub loop-i-init : goal.loop-i-init
loop-i-init g c = paired-start _ _ _ _

pub loop-i-preserved : goal.loop-i-preserved
loop-i-preserved g c = paired-more c.loop-i.invariant (omega arith) c.pair.ensures
