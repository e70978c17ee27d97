-- Assumes nothing.
use Rattle.std.proofs.Common.{refl, ap, ◌∙◌, min}
use Rattle.lines.proofs.Listing.{listed-in}
use Rattle.lines.proofs.listed.Goals as goal

pub returns : goal.returns
returns c = listed-in _ _ c.as_chunks.ensures.front (c.min.ensures ∙ ap (min c.args.records) c.as_chunks.ensures.front_len) refl
