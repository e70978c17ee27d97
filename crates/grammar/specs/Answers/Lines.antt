-- The listing (document 01, "The listing program"): the line of a refusal, and all lines of an answer. The line of a record, and in how many digits the lines
-- of a listing are written (document 02, order 9), are in crate `lines`: a refusal's line has 49 bytes where its place needs more than four digits.
-- Assumes nothing.
use Rattle.std.specs.Prelude.{List, [], ◌∷◌, ◌++◌, ◌≡◌, refl, ℕ}
use Rattle.text.specs.Ascii.{ascii, ascii_from}
use Rattle.text.specs.Lists.{some}
use Rattle.text.specs.Answers.{Answer, accepted, refused, Values, values}
use Rattle.text.specs.Refusals.{refusal_number}
use Rattle.text.specs.declared.refusal.Refusal.TheVariants as refusal
use Rattle.lexer.specs.Limits.{Limits}
use Rattle.own.specs.Tree.{Rec}
use Rattle.lines.specs.Hex.{upper_hex, hex}
use Rattle.lines.specs.Form.{LF, line_of}
use Rattle.lines.specs.Lines.{lines_of, needs_more, is_long, listed_rows, lines}
use Rattle.grammar.specs.Entry.{Entry}
use Rattle.grammar.specs.Answers.Answer.{answer, records_read}

-- "A refusal is one line: kind 00, place twice, number as low, high 0, size 1."; its way up is 0, as that of every record that stands first.
unfoldable pub refusal_rec : Values → Rec
refusal_rec r = record { kind = 0; start = r.place; stop = r.place; low = r.number; high = 0; size = 1 }

-- The lines of an answer: of its records, or of its refusal.
abbrev pub listed : Answer → List Rec → List Rec
listed (accepted n m) rs = rs
listed (refused c p) rs = refusal_rec (values (refused c p)) ∷ []

-- The listing of a draft.
unfoldable pub listing : Entry → Limits → List ℕ → ℕ → ℕ → List ℕ
listing en l draft tw rw = lines (listed (answer en l draft tw rw) (records_read en l draft tw))

-- Refusal 8 at 31: kind 00, 31 twice, 8 as low, high 0, size 1, way up 0.
pub refusal-line : lines (listed (refused (refusal_number refusal.Misshapen) 31) []) ≡ ascii "00 001F 001F 00000008 00000000 0001 0000" ++ (LF ∷ [])
unfolding some needs_more is_long listed_rows lines_of line_of hex upper_hex refusal_rec ascii ascii_from
refusal-line = refl

-- Refusal 1 at 1,048,576, which four digits do not hold: the way up in six digits, as its place and its size.
pub long-refusal-line : lines (listed (refused (refusal_number refusal.TooLong) 1048576) []) ≡ ascii "00 100000 100000 00000001 00000000 000001 000000" ++ (LF ∷ [])
unfolding some needs_more is_long listed_rows lines_of line_of hex upper_hex refusal_rec ascii ascii_from
long-refusal-line = refl
