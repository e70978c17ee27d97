-- Assumes nothing.
use Rattle.lines.proofs.Listing.{listing_start, listing-more}
use Rattle.lines.proofs.write.lines.Goals as goal

pub loop-words-init : goal.loop-words-init
loop-words-init g c = listing_start _ _ _

pub loop-words-preserved : goal.loop-words-preserved
loop-words-preserved g c = listing-more c.loop-words.invariant c.loop-words-test.true c.line-p.ensures.end c.line-p.ensures.bytes
