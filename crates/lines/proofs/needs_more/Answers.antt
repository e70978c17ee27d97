-- Assumes nothing.
use Rattle.std.proofs.Common.{rules}
use Rattle.lines.proofs.Lines.{more-before, more-up}
use Rattle.lines.proofs.needs_more.Goals as goal

pub returns-then-size-ge-PLACES : goal.returns-then-size-ge-PLACES
returns-then-size-ge-PLACES c = more-before _ (search (rules)) c.if-size-ge-PLACES.either

pub returns-else-size-ge-PLACES : goal.returns-else-size-ge-PLACES
returns-else-size-ge-PLACES c = more-up _ c.if-size-ge-PLACES.false
