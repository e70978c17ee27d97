-- The two halves are written.
-- Assumes nothing.
use Rattle.parse.specs.Contract.{written}
use Rattle.parse.proofs.tree.decimal.Goals as goal

pub returns-clause-put_number : goal.returns-clause-put_number
returns-clause-put_number c = written c.in-Some.is (rw c.of_number.ensures at c.child.ensures.put)
