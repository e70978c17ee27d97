-- Each record in turn: those before it have their way up.
-- Assumes nothing.
use Rattle.up.proofs.Raise.{raised, raised-at, raise-more, raise-end, raise-nothing, raise-none}
use Rattle.up.proofs.way_up.Goals as goal

pub returns-then-tree-records : goal.returns-then-tree-records
returns-then-tree-records c = raise-none _ _ c.if-tree-records.true

pub returns-then-records-eq0 : goal.returns-then-records-eq0
returns-then-records-eq0 c = raise-nothing _ _ c.if-records-eq0.true

pub above-p-requires-clause-before_value : goal.above-p-requires-clause-before_value
above-p-requires-clause-before_value c = raised-at c.loop-i.invariant

pub above-p-requires-clause-raised : goal.above-p-requires-clause-raised
above-p-requires-clause-raised c = raised c.loop-i.invariant

pub loop-i-preserved : goal.loop-i-preserved
loop-i-preserved c = raise-more c.loop-i.invariant c.above-p.ensures.is c.loop-i-test.true

pub returns : goal.returns
returns c = raise-end c.loop-i.invariant c.loop-i-test.false
