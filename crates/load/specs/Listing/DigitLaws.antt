-- Bytes as digits: the table of their values, and the widths of numbers that a word holds.
-- Assumes nothing.
use Rattle.std.specs.Prelude.{List, ◌≡◌, ℕ, ◌<◌, ◌≤◌, get_or}
use Rattle.own.specs.Lists.{All}
use Rattle.lines.specs.Lines.{half_digits}
use Rattle.load.specs.Listing.Read.{digit_of}

-- A table that gives each byte its value as a digit: its length and its entries are computed.
pub record DigitTable (t : List ℕ) : Type 0 where
  pub gives : (b : ℕ) → b < 256 → get_or t b 0 ≡ digit_of b

-- Widths of numbers that a word holds: as many digits as half a 64-bit number has.
abbrev pub Short : List ℕ → Type 0
Short ws = All (λ n. n ≤ half_digits) ws
