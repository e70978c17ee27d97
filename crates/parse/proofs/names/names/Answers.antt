-- The first name, and as long as `::` stands there one more: each is a record.
-- Assumes nothing.
use Rattle.parse.specs.Contract.{read}
use Rattle.parse.proofs.Rule.Refused.{refusal}
use Rattle.parse.proofs.names.Steps.{ready-near}
use Rattle.parse.proofs.names.Joined.{joined-starts, joined-fewer, joined-again, names-passed, first-ready, next-ready, next-passed, names-went}
use Rattle.parse.proofs.names.names.Goals as goal

pub returns-in_default : goal.returns-in_default
returns-in_default c = names-passed c.requires (refusal c.in_default.is) c.name-first.ensures

pub loop-here-init : goal.loop-here-init
loop-here-init c = joined-starts (first-ready c.requires c.name-first.ensures c.in-Next.is).stands

pub name-next-requires : goal.name-next-requires
name-next-requires c = ready-near (next-ready c.requires c.name-first.ensures c.in-Next.is c.loop-here.invariant c.loop-here-test.true c.advance-b.ensures)

pub returns-in_default-next : goal.returns-in_default-next
returns-in_default-next c = next-passed c.requires c.name-first.ensures c.in-Next.is c.loop-here.invariant c.loop-here-test.true c.advance-b.ensures (refusal c.in_default-next.is) c.name-next.ensures

pub loop-here-smaller : goal.loop-here-smaller
loop-here-smaller c = joined-fewer c.loop-here.invariant c.loop-here-test.true c.advance-b.ensures c.name-next.ensures c.in-Next-next.is

pub loop-here-preserved : goal.loop-here-preserved
loop-here-preserved c = joined-again c.loop-here.invariant c.loop-here-test.true c.advance-b.ensures c.name-next.ensures c.in-Next-next.is

pub returns : goal.returns
returns c = read (names-went c.requires c.name-first.ensures c.in-Next.is c.loop-here.invariant c.loop-here-test.false)
