-- The array has room for as many tokens as the draft has bytes, or as any may have. No byte is used only where the lines do not fit. Every line has 41 bytes.
-- Assumes nothing.
use Rattle.std.specs.Prelude.{length}
use Rattle.std.proofs.Common.{arith, rules}
use Rattle.reader.proofs.EntryLaws.{roomy_is}
use Rattle.reader.proofs.Fits.{nothing-used, all-short}
use Rattle.reader.proofs.entry.list_draft.Goals as goal

pub returns : goal.returns
returns c =
    let h = c.with_words.ensures in
    let e = roomy_is c.args.draft.now c.with_words.result (omega (arith, h.1, c.saturating_mul-words.ensures)) h.2 h.3.zeros h.3.lent h.3.left (search rules) in
    record { used = e.0; bytes = e.1; nothing = nothing-used c.args.draft.now (length c.args.out.now) e.0; short = all-short c.args.draft.now }
