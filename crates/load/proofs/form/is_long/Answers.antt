-- The chunks are the lines, and each is long enough for its numbers.
-- Assumes nothing.
use Rattle.std.proofs.Common.{rules, tests, arith}
use Rattle.std.proofs.lemmas.Iterator.{YieldsList-from_slice}
use Rattle.std.proofs.lemmas.Iterator.Search.{any_from_yields_List}
use Rattle.std.proofs.lemmas.Iterator.Adapters.{serves_from_places}
use Rattle.lines.specs.Lines.{long_widths, long_digits, needs_more}
use Rattle.load.specs.Listing.Read.{values_of}
use Rattle.load.proofs.Listing.DigitLaws.{way-short}
use Rattle.load.proofs.ChunkLaws.{long-chunks}
use Rattle.load.proofs.form.is_long.Goals as goal

pub any-requires-clause-callable : goal.any-requires-clause-callable
any-requires-clause-callable c =
    serves_from_places (YieldsList-from_slice _ c.iter.ensures.rest) (λ x q k. search (rules, tests)) (λ x k h e. search (rules, way-short long_digits (omega arith)))

pub returns : goal.returns
returns c =
    long-chunks c.args.text.now
    (any_from_yields_List (λ l. needs_more (values_of long_widths l)) _ _ c.any.result c.any.ensures.ran (YieldsList-from_slice _ c.iter.ensures.rest) (λ x b q k. search (rules, tests)))
    c.as_chunks.ensures.front
