-- `is_bits` meets its contract.
-- Assumes nothing.
use Rattle.std.proofs.Common.{◌∙◌}
use borrow.Author.Tests.{lt-leb}
use Rattle.load.proofs.BeginLaws.{bits-over, bits-power}
use Rattle.load.proofs.begin.is_bits.Goals as goal

pub returns-then-low-le-MOST_BITS : goal.returns-then-low-le-MOST_BITS
returns-then-low-le-MOST_BITS c = bits-power _ c.if-low-le-MOST_BITS.true c.is_power_of_two.ensures

pub returns-else-low-le-MOST_BITS : goal.returns-else-low-le-MOST_BITS
returns-else-low-le-MOST_BITS c = lt-leb c.args.low 256 c.if-low-le-MOST_BITS.false ∙ bits-over _ c.if-low-le-MOST_BITS.false
