-- The table's rule, computed over all of its entries.
-- Assumes nothing.
use Rattle.std.proofs.Common.{ap, ◌∙◌, arith}
use Rattle.load.specs.Listing.Read.{digit_of}
use Rattle.load.proofs.Listing.DigitLaws.{digit-found}
use Rattle.load.proofs.line.digit.Goals as goal

pub returns : goal.returns
returns c = c.from-2.ensures ∙ digit-found c.from.result (omega (arith, c.from.ensures, c.ranges.b.fits)) ∙ ap digit_of c.from.ensures
