-- The slot is computed as its definition says.
-- Assumes nothing.
use Rattle.std.proofs.Common.{ap, ◌%◌, arith}
use Rattle.words.specs.Layout.{slot_of}
use Rattle.words.proofs.lookup.Words.slot.Goals as goal

pub returns : goal.returns
unfolding slot_of
returns c = ap (λ n. n % 256) (rw (c.from.ensures, c.from-2.ensures, c.from-3.ensures, c.from-4.ensures, c.from-5.ensures, c.from-6.ensures) (omega arith))
