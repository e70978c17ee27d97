-- The lines of records (document 01, "The listing program"; document 02, orders 7 and 9).
-- Assumes nothing.
use Rattle.std.specs.Prelude.{Bool, cond, List, [], ◌∷◌, ◌++◌, ℕ, ◌<◌, leb, get_or}
use Rattle.text.specs.Lists.{some}
use Rattle.own.specs.Tree.{Rec}
use Rattle.up.specs.Ways.{rows}
use Rattle.up.specs.Buffer.{size_place, up_place}
use Rattle.lines.specs.Hex.{power}
use Rattle.lines.specs.Form.{line_of, wide}

-- "kind (2 upper-case hexadecimal digits), start, end (4 each), low, high (8 each), size (4)"
abbrev pub kind_digits : ℕ
kind_digits = 2

abbrev pub place_digits : ℕ
place_digits = 4

abbrev pub half_digits : ℕ
half_digits = 8

-- "writes all four in six digits": start, end, size and way up (document 02, order 9)
abbrev pub long_digits : ℕ
long_digits = 6

-- The form of a line before order 7: kind, start, end, low, high, size.
abbrev pub sized : ℕ → List ℕ
sized n = kind_digits ∷ n ∷ n ∷ half_digits ∷ half_digits ∷ n ∷ []

abbrev pub six_widths : List ℕ
six_widths = sized place_digits

-- "Each listing line ends with it in four more digits after a space" (document 02, order 7): a field for each word of a record, the way up as the last;
abbrev pub with_way : ℕ → List ℕ
with_way n = sized n ++ (n ∷ [])

abbrev pub widths : List ℕ
widths = with_way place_digits

-- and the same in six.
abbrev pub long_widths : List ℕ
long_widths = with_way long_digits

-- How many bytes a line has, in each form.
abbrev pub six_bytes : ℕ
six_bytes = wide six_widths

abbrev pub line_bytes : ℕ
line_bytes = wide widths

abbrev pub long_bytes : ℕ
long_bytes = wide long_widths

-- A line for each list of numbers, in any form.
unfoldable pub lines_of : List ℕ → List (List ℕ) → List ℕ
lines_of ws [] = []
lines_of ws (v ∷ vs) = line_of ws v ++ lines_of ws vs

-- Where start and end stand among the words of a record.
abbrev pub start_place : ℕ
start_place = 1

abbrev pub end_place : ℕ
end_place = 2

abbrev pub places : List ℕ
places = start_place ∷ end_place ∷ size_place ∷ up_place ∷ []

-- "any start, end, size or way up needs more than four digits", of the words of one record;
unfoldable pub needs_more : List ℕ → Bool
needs_more v = some (λ k. leb (power place_digits) (get_or v k 0)) places

-- and that four digits hold all of them, said without a test.
abbrev pub InFour : List ℕ → Type 0
InFour v =
    (get_or v start_place 0 < power place_digits)
    × (get_or v end_place 0 < power place_digits)
    × (get_or v size_place 0 < power place_digits)
    × (get_or v up_place 0 < power place_digits)

-- "A listing in which any [.. does] writes all four in six digits, 49 bytes a line; every other listing keeps 41".
unfoldable pub is_long : List (List ℕ) → Bool
is_long vs = some needs_more vs

abbrev pub widths_by : Bool → List ℕ
widths_by long = cond long long_widths widths

abbrev pub widths_for : List (List ℕ) → List ℕ
widths_for vs = widths_by (is_long vs)

-- The listing of records whose words are these, a line for each of them.
unfoldable pub listed_rows : List (List ℕ) → List ℕ
listed_rows vs = lines_of (widths_for vs) vs

-- "one line a record", its words as numbers.
abbrev pub lines : List Rec → List ℕ
lines rs = listed_rows (rows rs)
