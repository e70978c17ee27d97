-- The two halves are written.
-- Assumes nothing.
use Rattle.parse.specs.Contract.{written}
use Rattle.parse.proofs.tree.close_number.Goals as goal

pub returns : goal.returns
returns c = written c.in-Some.is (rw c.of_number.ensures at c.close.ensures)
