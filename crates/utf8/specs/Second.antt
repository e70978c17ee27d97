-- The second byte of a sequence by its first.
-- Assumes nothing.
use Rattle.std.specs.Prelude.{cond, ℕ, eqb}
use Rattle.text.specs.Ranges.{Range, bytes}

-- the least and the most second byte behind the first byte of a sequence of three or four
abbrev pub least_second : ℕ → ℕ
least_second b = cond (eqb b 0xE0) 0xA0 (cond (eqb b 0xF0) 0x90 0x80)

abbrev pub most_second : ℕ → ℕ
most_second b = cond (eqb b 0xED) 0x9F (cond (eqb b 0xF4) 0x8F 0xBF)

-- the range from one to the other
abbrev pub second : ℕ → Range
second b = bytes (least_second b) (most_second b)
