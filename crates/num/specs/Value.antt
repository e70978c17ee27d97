-- The number of a decimal run, on unbounded numbers, and the answer where 64 bits have to hold it.
-- Assumes nothing.
use Rattle.std.specs.Prelude.{cond, List, [], ◌∷◌, ℕ, ◌+◌, ◌-◌, ◌*◌, leb, Option, None, Some}
use Rattle.num.specs.Digits.{plain}

-- The number that the digits make after those of v. The digit of a byte is the byte less 48, 0 if it is below, also where it is no digit.
unfoldable pub decimal_from : ℕ → List ℕ → ℕ
decimal_from v [] = v
decimal_from v (b ∷ r) = decimal_from (v * 10 + (b - 48)) r

-- The number of a decimal run, of any size: of its digits with `_` dropped. A run of no digits makes 0.
unfoldable pub decimal_of : List ℕ → ℕ
decimal_of p = decimal_from 0 (plain p)

-- The largest 64-bit number.
abbrev pub largest : ℕ
largest = 18446744073709551615

-- What is known of a number that 64 bits have to hold: the number, or None where it is too large.
abbrev pub Value : Type 0
Value = Option ℕ

-- The number, or too large: over the largest 64-bit number.
unfoldable pub fitted : ℕ → Value
fitted n = cond (leb n largest) (Some n) None

-- The number of a decimal run, or that it is too large.
unfoldable pub number_of : List ℕ → Value
number_of p = fitted (decimal_of p)
