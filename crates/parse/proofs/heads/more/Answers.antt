-- Assumes nothing.
use Rattle.parse.specs.Contract.{read}
use Rattle.parse.proofs.heads.PairForms as pairs
use Rattle.parse.proofs.Rule.Refused.{refusal}
use Rattle.parse.proofs.heads.more.Goals as goal

pub loop-here-init : goal.loop-here-init
loop-here-init c = pairs.more-starts c.requires

pub returns-then-a-eq-RPAREN : goal.returns-then-a-eq-RPAREN
returns-then-a-eq-RPAREN c = read (pairs.more-closes c.requires c.loop-here.invariant c.loop-here-test.true c.advance-a.ensures c.if-a-eq-RPAREN.true)

pub pair-next-requires : goal.pair-next-requires
pair-next-requires c = pairs.on-ready c.requires (pairs.more-into c.requires c.loop-here.invariant c.loop-here-test.true c.advance-a.ensures c.if-a-eq-RPAREN.false)

pub returns-in_default : goal.returns-in_default
returns-in_default c = pairs.more-passed c.requires c.loop-here.invariant c.loop-here-test.true c.advance-a.ensures c.if-a-eq-RPAREN.false (refusal c.in_default.is) c.pair-next.ensures

pub loop-here-smaller : goal.loop-here-smaller
loop-here-smaller c = pairs.more-fewer c.requires c.loop-here.invariant c.loop-here-test.true c.advance-a.ensures c.if-a-eq-RPAREN.false c.pair-next.ensures c.in-Next.is

pub loop-here-preserved : goal.loop-here-preserved
loop-here-preserved c = pairs.more-again c.requires c.loop-here.invariant c.loop-here-test.true c.advance-a.ensures c.if-a-eq-RPAREN.false c.pair-next.ensures c.in-Next.is

pub returns : goal.returns
returns c = read (pairs.more-ends c.requires c.loop-here.invariant c.loop-here-test.false)
