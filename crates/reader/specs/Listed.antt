-- What `list_draft` hands over (document 01, "The listing program"): "it gets the bytes used, 36 times the lines, the rest zero. It gets 0, all
-- bytes zero, only when the lines do not fit." A line has 41 bytes now, and "the C entry counts 41 a line" (document 02, order 7). It keeps the small limits
-- (order 9).
-- Assumes nothing.
use Rattle.std.specs.Prelude.{false, Result, Ok, Err, List, [], ◌≡◌, ℕ, ◌+◌, ◌*◌}
use Rattle.std.proofs.Common.{Fits, w32}
use Rattle.text.specs.Refusals.{refused_by}
use Rattle.text.specs.Widths.{tok_wide, rec_wide}
use Rattle.text.specs.declared.refusal.Refused.{Refused}
use Rattle.lexer.specs.Limits.{small_limits}
use Rattle.lines.specs.Lines.{is_long, lines}
use Rattle.lines.specs.Written.{used, padded, held, lines_in}
use Rattle.grammar.specs.Entry.{whole_file, over}
use Rattle.up.specs.Ways.{rows, rows_in}
use Rattle.grammar.specs.Answers.Answer.{answer, records_read}
use Rattle.grammar.specs.Answers.Lines.{listed, listing}
use Rattle.reader.specs.declared.Counts.{Counts}

-- A file has no more records than it may have tokens, and that of the whole file.
abbrev pub records_most : ℕ
records_most = over whole_file + small_limits.tokens

-- The listing of a draft, by a reader of files with a buffer of so many words for its tokens, and one for as many records as a draft may have,
abbrev pub listing_by : List ℕ → ℕ → List ℕ
listing_by draft tw = listing whole_file small_limits draft tw (rec_wide * records_most)

-- and with one for as many tokens as a draft may have.
abbrev pub listing_of : List ℕ → List ℕ
listing_of draft = listing_by draft (tok_wide * small_limits.tokens)

-- The records whose lines they are, or that of a refusal's line.
abbrev pub rows_listed : List ℕ → List (List ℕ)
rows_listed draft =
    let tw = tok_wide * small_limits.tokens in
    rows (listed (answer whole_file small_limits draft tw (rec_wide * records_most)) (records_read whole_file small_limits draft tw))

-- What is handed over of a text: how many bytes of a buffer of so many are used, and every one of its bytes.
abbrev pub HandsOver : List ℕ → ℕ → ℕ → List ℕ → Type 0
HandsOver text size result bytes = (result ≡ used text size) × (bytes ≡ padded text size)

-- Of a draft's listing these are the bytes used of a buffer of so many,
unfoldable pub used_of : List ℕ → ℕ → ℕ
used_of draft size = used (listing_of draft) size

-- and every one of its bytes.
unfoldable pub bytes_of : List ℕ → ℕ → List ℕ
bytes_of draft size = padded (listing_of draft) size

-- The lines of what was read: of the records in a buffer, or of the refusal,
abbrev pub written : Result Counts Refused → List ℕ → List ℕ
written (Ok c) tree = lines_in tree c.records
written (Err r) tree = lines (listed (refused_by r) [])

-- whose place a word holds.
abbrev pub Early : Result Counts Refused → Type 0
Early (Ok c) = Unit {0}
Early (Err r) = Fits w32 r.place

-- Four digits hold all places of the records in a buffer.
abbrev pub Short : Result Counts Refused → List ℕ → Type 0
Short (Ok c) tree = is_long (rows_in (held tree c.records) tree) ≡ false
Short (Err r) tree = Unit {0}
