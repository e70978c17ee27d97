-- Numbers as upper-case hexadecimal digits, a byte each.
-- Assumes nothing.
use Rattle.std.specs.Prelude.{List, [], ◌∷◌, ◌++◌, ℕ, zero, suc, ◌*◌, ◌/◌, ◌%◌, get_or}
use Rattle.text.specs.Ascii.{ascii}

-- The digits, as bytes.
unfoldable pub upper_hex : List ℕ
upper_hex = ascii "0123456789ABCDEF"

-- A number in so many upper-case hexadecimal digits.
unfoldable pub hex : ℕ → ℕ → List ℕ
hex zero v = []
hex (suc n) v = hex n (v / 16) ++ (get_or upper_hex (v % 16) 0 ∷ [])

-- How many numbers so many digits tell apart.
abbrev pub power : ℕ → ℕ
power zero = 1
power (suc n) = 16 * power n
