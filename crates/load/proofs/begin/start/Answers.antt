-- `start` meets its contract.
-- Assumes nothing.
use Rattle.load.proofs.BeginLaws.{start-without, start-past, start-there, start-not}
use Rattle.load.proofs.begin.start.Goals as goal

pub returns-in_default-clause-is : goal.returns-in_default-clause-is
returns-in_default-clause-is c = (start-without _ _ _ c.in_default.is c.head_of.ensures).0

pub returns-in-Some-get : goal.returns-in-Some-get
returns-in-Some-get c =
    let e = start-there _ _ _ c.in-Some.is c.head_of.ensures c.which.ensures c.get.ensures.lookup c.besides.ensures c.if-besides.true _ c.in-Some-get.is c.from.ensures in
    record { is = e.0; below = e.1 }

pub returns-in_default-get-clause-is : goal.returns-in_default-get-clause-is
returns-in_default-get-clause-is c = (start-not _ _ _ c.in-Some.is c.head_of.ensures c.which.ensures c.besides.ensures c.if-besides.false).0

pub returns-in_default-get-2-clause-is : goal.returns-in_default-get-2-clause-is
returns-in_default-get-2-clause-is c = (start-past _ _ _ c.in-Some.is c.head_of.ensures c.which.ensures c.get.ensures.lookup c.in_default-get.is).0
