-- A number other than 1 with one bit set is a bound.
-- Assumes nothing.
use Rattle.std.proofs.Common.{arith}
use Rattle.num.proofs.Ones.{bit_bound}
use Rattle.num.proofs.is_bound.Goals as goal

pub returns-in-Some : goal.returns-in-Some
returns-in-Some c = bit_bound _ _ c.in-Some.is (omega arith) (omega arith) (omega arith)
