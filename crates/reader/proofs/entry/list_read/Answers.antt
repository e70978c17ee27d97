-- Within the small limits no record needs more than four digits.
-- Assumes nothing.
use Rattle.std.specs.Prelude.{length}
use Rattle.reader.proofs.LineLaws.{same_is, short-lines}
use Rattle.reader.proofs.entry.list_read.Goals as goal

pub returns-in-Ok-Small : goal.returns-in-Ok-Small
returns-in-Ok-Small c =
    same_is (length c.args.out.now) (short-lines c.args.tree.now c.args.reading c.in-Ok-Small.is-0 (c.requires.short c.in-Ok-Small.is-1)) (c.list_short.ensures.used, c.list_short.ensures.bytes)
