-- The loop fills the cleared buffer.
-- Assumes nothing.
use Rattle.std.proofs.Common.{length}
use Rattle.num.proofs.Fill.{Filled}
use Rattle.num.proofs.write_plain.Given as goal

abbrev pub invariant-loop-b : goal.invariant-loop-b
invariant-loop-b l = Filled l.run l.out l.b-index l.n (length l.fn.out)
