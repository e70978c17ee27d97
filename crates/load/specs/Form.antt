-- The forms of a listing's lines (document 02, orders 7 and 9): "Each listing line ends with it in four more digits after a space, 41 bytes in all";
-- "Listings of 36-byte lines still load"; "49 bytes a line".
-- Assumes nothing: these are definitions.
use Rattle.std.specs.Prelude.{Bool, true, cond, List, map, ℕ}
use Rattle.own.specs.Tree.{Rec}
use Rattle.up.specs.Ways.{six, rows}
use Rattle.lines.specs.Lines.{place_digits, long_digits, six_widths, widths, long_widths, is_long}
use Rattle.load.specs.Listing.Read.{in_form}

-- Lines of 36 bytes; lines of 41, which end with the way up; and of 49, which have six digits for places.
pub data Form : Type 0 where
  older : Form
  newer : Form
  longer : Form

-- The fields of a line of the form, by their digits,
abbrev pub widths_of : Form → List ℕ
widths_of older = six_widths
widths_of newer = widths
widths_of longer = long_widths

-- of which those of a place are
abbrev pub digits_of : Form → ℕ
digits_of older = place_digits
digits_of newer = place_digits
digits_of longer = long_digits

-- and the numbers of the lines of records in it, a line each.
abbrev pub rows_of : Form → List Rec → List (List ℕ)
rows_of older rs = map six rs
rows_of newer rs = rows rs
rows_of longer rs = rows rs

-- The form of a listing is that of its first line; what begins with none is held against the newer.
abbrev pub form_of : List ℕ → Form
form_of text = cond (in_form six_widths text) older (cond (in_form long_widths text) longer newer)

-- The form in which records whose words are these are written.
abbrev pub form_for : List (List ℕ) → Form
form_for vs = cond (is_long vs) longer newer

-- Lines of 49 bytes are for numbers that four digits do not hold: "every other listing keeps 41".
abbrev pub needed : Form → List (List ℕ) → Bool
needed older vs = true
needed newer vs = true
needed longer vs = is_long vs
