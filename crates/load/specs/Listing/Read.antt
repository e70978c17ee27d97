-- Lines read back, as antt computes it: which line is the first that is not of the form, and the numbers of the lines. Said of any list of widths.
-- Assumes nothing: these are definitions. That they undo what crate `lines` writes stands in the laws beside.
use Rattle.std.specs.Prelude.{Option, Some, None, Bool, true, ◌&&◌, cond, List, [], ◌∷◌, map, ℕ, zero, suc, ◌+◌, ◌*◌, ◌/◌, ◌%◌, eqb, ltb, length, get_or, drop}
use Rattle.own.specs.Tree.{Rec}
use Rattle.own.specs.Flat.{blank}
use Rattle.own.specs.Words.{recs}
use Rattle.up.specs.Buffer.{up_place}
use Rattle.lines.specs.Hex.{upper_hex}
use Rattle.lines.specs.Form.{after, wide}

-- Where a byte stands first in a list; as many as there are, if nowhere.
unfoldable pub place_in : List ℕ → ℕ → ℕ
place_in [] b = 0
place_in (a ∷ l) b = cond (eqb a b) 0 (suc (place_in l b))

-- The value of an upper-case hexadecimal digit; 16 for any other byte.
unfoldable pub digit_of : ℕ → ℕ
digit_of b = place_in upper_hex b

abbrev pub is_digit : ℕ → Bool
is_digit b = ltb (digit_of b) 16

-- Whether the first n bytes are digits, and the number that they are; a byte that is no digit counts as 0 there.
unfoldable pub are_digits : ℕ → List ℕ → Bool
are_digits zero bs = true
are_digits (suc n) bs = are_digits n bs && ltb (digit_of (get_or bs n 0)) 16

unfoldable pub number_of : ℕ → List ℕ → ℕ
number_of zero bs = 0
number_of (suc n) bs = 16 * number_of n bs + digit_of (get_or bs n 0) % 16

-- Whether bytes begin with a line of the form, and its numbers.
unfoldable pub in_form : List ℕ → List ℕ → Bool
in_form [] bs = true
in_form (n ∷ ns) bs = are_digits n bs && (eqb (get_or bs n 0) (after (length ns)) && in_form ns (drop (n + 1) bs))

unfoldable pub values_of : List ℕ → List ℕ → List ℕ
values_of [] bs = []
values_of (n ∷ ns) bs = number_of n bs ∷ values_of ns (drop (n + 1) bs)

-- The number, from 1, of the first line that is not of the form, i lines having passed; 0 if all bytes are lines of it. At most f lines.
unfoldable pub bad_from : List ℕ → ℕ → ℕ → List ℕ → ℕ
bad_from ws zero i bs = 0
bad_from ws (suc f) i bs = cond (eqb (length bs) 0) 0 (cond (in_form ws bs) (bad_from ws f (suc i) (drop (wide ws) bs)) (suc i))

-- A line has a byte at least.
unfoldable pub bad_line : List ℕ → List ℕ → ℕ
bad_line ws text = bad_from ws (length text) 0 text

-- It as the code says it: nothing where all bytes are lines of the form.
abbrev pub first_bad : ℕ → Option ℕ
first_bad zero = None
first_bad (suc n) = Some (suc n)

-- The numbers of the first n lines, a list for each,
unfoldable pub rows_from : List ℕ → ℕ → List ℕ → List (List ℕ)
rows_from ws zero bs = []
rows_from ws (suc n) bs = values_of ws bs ∷ rows_from ws n (drop (wide ws) bs)

-- and of all lines.
unfoldable pub lines_read : List ℕ → List ℕ → List (List ℕ)
lines_read ws text = rows_from ws (length text / wide ws) text

-- The record of the numbers of one line: it is the first six of them,
abbrev pub rec_of : List ℕ → Rec
rec_of vs = get_or (recs 1 vs) 0 blank

-- and those of all lines.
abbrev pub records_in : List ℕ → List ℕ → List Rec
records_in ws text = map rec_of (lines_read ws text)

-- The way up that a line gives: the number behind those six.
abbrev pub up_of : List ℕ → ℕ
up_of vs = get_or vs up_place 0
