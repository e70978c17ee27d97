-- What came in is a front of the buffer.
-- Assumes nothing.
use Rattle.std.proofs.Common.{arith}
use Rattle.std.proofs.lemmas.List.{length-take}
use Rattle.listing.proofs.read_draft.Goals as goal

pub returns : goal.returns
returns c = let e = length-take c.in_ok-bytes.bytes c.if-bytes-buf.buf in omega (arith, e)
