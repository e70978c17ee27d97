-- Assumes nothing.
use Rattle.parse.specs.Contract.{read}
use Rattle.parse.proofs.file.Loop as loop
use Rattle.parse.proofs.Rule.Refused.{refusal}
use Rattle.parse.proofs.file.items.Goals as goal

pub loop-here-init : goal.loop-here-init
loop-here-init c = loop.items-starts c.requires

pub returns-in_default : goal.returns-in_default
returns-in_default c = loop.items-passed c.requires c.loop-here.invariant c.loop-here-test.true c.item-inner.ensures (refusal c.in_default.is)

pub loop-here-preserved : goal.loop-here-preserved
loop-here-preserved c = loop.items-again c.requires c.loop-here.invariant c.loop-here-test.true c.item-inner.ensures c.in-Next.is

pub returns : goal.returns
returns c = read (loop.items-ends c.requires c.loop-here.invariant c.loop-here-test.false)
