-- The form of a line is a list of widths: a number for each of its fields, of so many digits, "one space between, LF after" (document 01,
-- "The listing program"). Everything here is said of any widths, so that a listing may have lines of another form.
-- Assumes nothing.
use Rattle.std.specs.Prelude.{List, [], ◌∷◌, ◌++◌, ℕ, zero, suc, ◌+◌, length, get_or, drop}
use Rattle.lines.specs.Hex.{hex}

abbrev pub space : ℕ
space = 32

abbrev pub LF : ℕ
LF = 10

-- The byte after a field with so many fields behind it.
abbrev pub after : ℕ → ℕ
after zero = LF
after (suc n) = space

-- The line of these values in this form.
unfoldable pub line_of : List ℕ → List ℕ → List ℕ
line_of [] vs = []
line_of (n ∷ ns) vs = hex n (get_or vs 0 0) ++ (after (length ns) ∷ line_of ns (drop 1 vs))

-- How many bytes a line of the form has: the digits of each field, and a byte after it.
abbrev pub wide : List ℕ → ℕ
wide [] = 0
wide (n ∷ ns) = n + 1 + wide ns
