-- No more bytes are used than the lines have room for.
-- Assumes nothing.
use Rattle.std.proofs.Common.{sym, arith}
use lib.Seq.{length-take-le}
use Rattle.reader.proofs.Fits.{used-within}
use Rattle.listing.proofs.list.Goals as goal

pub slice_bounds-lines-end : goal.slice_bounds-lines-end
slice_bounds-lines-end c =
    omega (arith, used-within c.args.draft.now c.list_draft-used.ensures.used, c.list_draft-used.auto.out)

pub slice_bounds-put-end : goal.slice_bounds-put-end
slice_bounds-put-end c =
    let h = used-within c.args.draft.now c.list_draft-used.ensures.used in
    sym (length-take-le _ _ (omega (arith, h, c.list_draft-used.auto.out)))
