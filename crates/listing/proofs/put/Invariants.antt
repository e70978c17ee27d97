-- The bytes that are left become fewer.
-- Assumes nothing.
use Rattle.std.proofs.Common.{length}
use Rattle.listing.proofs.put.Given as goal

abbrev pub decreases-loop-rest : goal.decreases-loop-rest
decreases-loop-rest g l = length l.rest
