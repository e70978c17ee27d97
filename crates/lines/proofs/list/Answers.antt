-- Assumes nothing.
use Rattle.std.proofs.Common.{sym, ◌∙◌}
use Rattle.lines.proofs.Listing.{listed-by}
use Rattle.lines.proofs.list.Goals as goal

pub returns-then-is_long : goal.returns-then-is_long
returns-then-is_long c =
    let e = listed-by _ _ _ c.listed-records.ensures (sym c.is_long.ensures ∙ c.if-is_long.true) (c.list_as.ensures.used, c.list_as.ensures.bytes) in
    record { used = e.0; bytes = e.1 }

pub returns-else-is_long : goal.returns-else-is_long
returns-else-is_long c =
    let e = listed-by _ _ _ c.listed-records.ensures (sym c.is_long.ensures ∙ c.if-is_long.false) (c.list_as-else-is_long.ensures.used, c.list_as-else-is_long.ensures.bytes) in
    record { used = e.0; bytes = e.1 }
