-- The array has as many words as are asked for, or as many as any may have. The check finds this alone for each array; for one of them it is said here, so that
-- where a smaller array is lent the check names this fact.
-- Assumes nothing.
use Rattle.std.proofs.Common.{arith}
use Rattle.reader.proofs.arrays.with_words.Goals as goal

pub returns-in-0-to-512 : goal.returns-in-0-to-512
returns-in-0-to-512 g c = (_, omega arith, omega arith, c.in_array-in-0-to-512.ensures)
