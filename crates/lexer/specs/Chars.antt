-- The sets of bytes that document 01, "Lexemes", speaks of, and runs of them.
-- Assumes nothing.
use Rattle.std.specs.Prelude.{Bool, true, false, ◌&&◌, List, [], ◌∷◌, ◌++◌, ℕ, suc, eqb, get_or}
use Prim.Native.Char.{Char, code}
pub use Rattle.text.specs.Ranges.{Range, bytes}
unfoldable pub use Rattle.text.specs.Ranges.{among}

abbrev pub chars : Char → Char → Range
chars a b = bytes (code a) (code b)

-- "Whitespace is bytes 9 to 13 and 32."
unfoldable pub whitespace : List Range
whitespace = record { least = 9; most = 13 } ∷ record { least = 32; most = 32 } ∷ []

-- CR and LF, before which a line comment ends
unfoldable pub line_ends : List Range
line_ends = record { least = 10; most = 10 } ∷ record { least = 13; most = 13 } ∷ []

unfoldable pub plain_bytes : List Range
plain_bytes = record { least = 0; most = 127 } ∷ []

-- the digits of each base
unfoldable pub binary_digits : List Range
binary_digits = (chars "0" "1") ∷ []

unfoldable pub decimal_digits : List Range
decimal_digits = (chars "0" "9") ∷ []

unfoldable pub hex_digits : List Range
hex_digits = (chars "0" "9") ∷ (chars "a" "f") ∷ (chars "A" "F") ∷ []

unfoldable pub underscore : List Range
underscore = (chars "_" "_") ∷ []

-- "A name is a letter or `_`, then letters, digits, `_`."
unfoldable pub name_starts : List Range
name_starts = (chars "a" "z") ∷ (chars "A" "Z") ∷ underscore

unfoldable pub name_bytes : List Range
name_bytes = name_starts ++ decimal_digits

abbrev pub is : Char → ℕ → Bool
is c b = eqb b (code c)

-- the first byte, 0 if there is none
abbrev pub first : List ℕ → ℕ
first r = get_or r 0 0

-- how many bytes at the front pass the test
unfoldable pub run : (ℕ → Bool) → List ℕ → ℕ
run p [] = 0
run p (b ∷ r) = elim (p b) [ true ↦ suc (run p r) | false ↦ 0 ]

-- r begins with the bytes of w
unfoldable pub begins : List ℕ → List ℕ → Bool
begins [] r = true
begins (x ∷ w) [] = false
begins (x ∷ w) (b ∷ r) = eqb b x && begins w r
