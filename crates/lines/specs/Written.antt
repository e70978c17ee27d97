-- Lines in a lent buffer (document 01, "The listing program"): "it gets the bytes used, 36 times the lines, the rest zero. It gets 0, all bytes
-- zero, only when the lines do not fit." A line has 41 bytes now, or 49 (document 02, orders 7 and 9).
-- Assumes nothing.
use Rattle.std.specs.Prelude.{cond, List, ◌++◌, ℕ, ◌-◌, ◌/◌, min, ltb, length, replicate}
use Rattle.text.specs.Widths.{rec_wide}
use Rattle.up.specs.Ways.{rows_in}
use Rattle.lines.specs.Lines.{listed_rows}

-- A text in a buffer of so many bytes: as many bytes as it has, or 0 if it does not fit;
abbrev pub used : List ℕ → ℕ → ℕ
used text size = cond (ltb size (length text)) 0 (length text)

-- the text, and zeros behind it, or zeros alone.
abbrev pub padded : List ℕ → ℕ → List ℕ
padded text size = cond (ltb size (length text)) (replicate size 0) (text ++ replicate (size - length text) 0)

-- How many records are listed: as many as are asked for, or all that the words hold, if those are fewer.
abbrev pub held : List ℕ → ℕ → ℕ
held words n = min n (length words / rec_wide)

-- The lines of the first n records of a tree buffer.
unfoldable pub lines_in : List ℕ → ℕ → List ℕ
lines_in words n = listed_rows (rows_in (held words n) words)
