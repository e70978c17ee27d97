-- What the code needs to know of the form of a line: that it has the six fields of a record at least, none of more digits than a half of 64 bits, and
-- how many bytes a line has.
-- Assumes nothing.
use Rattle.std.specs.Prelude.{List, ◌≡◌, ℕ, ◌<◌, ◌≤◌, length, take}
use Rattle.lines.specs.Form.{wide}
use Rattle.lines.specs.Lines.{six_widths}
use Rattle.load.specs.Listing.DigitLaws.{Short}

-- How many fields the record of a line is read from.
abbrev pub six_fields : ℕ
six_fields = length six_widths

-- and these, by their digits.
abbrev pub first_six : List ℕ → List ℕ
first_six ws = take six_fields ws

pub record LineForm (ws : List ℕ) (step : ℕ) : Type 0 where
  pub short : Short ws
  pub full : six_fields ≤ length ws
  pub bytes : step ≡ wide ws
  pub some : 0 < step
