-- The digit text of a run: its bytes without `_`, and without the `0x` or `0b` of its base (document 01, "Lexemes": its text drops `_`).
-- Assumes nothing.
use Rattle.std.specs.Prelude.{Bool, cond, ◌||◌, List, [], ◌∷◌, ◌++◌, ℕ, ◌-◌, eqb, leb, length, take, drop, replicate, Option, None, Some}
use Rattle.text.specs.Ascii.{ascii}
use Rattle.text.specs.Same.{same}

-- The bytes of a run other than `_` (95).
unfoldable pub plain : List ℕ → List ℕ
plain [] = []
plain (b ∷ r) = cond (eqb b 95) [] (b ∷ []) ++ plain r

-- A hexadecimal or a binary token begins with `0x` or `0b`; no decimal run does.
unfoldable pub based : List ℕ → Bool
based p = same (take 2 p) (ascii "0x") || same (take 2 p) (ascii "0b")

-- Of a hexadecimal or a binary token what follows those two bytes; of any other all of it.
unfoldable pub after_base : List ℕ → List ℕ
after_base p = cond (based p) (drop 2 p) p

-- The digit text of a token.
unfoldable pub digits_of : List ℕ → List ℕ
digits_of p = plain (after_base p)

-- The answer for the digits d and a buffer of n bytes: how many there are, None where they do not fit.
unfoldable pub answer_of : List ℕ → ℕ → Option ℕ
answer_of d n = cond (leb (length d) n) (Some (length d)) None

-- The n bytes of that buffer: the digits, then zeros; all zeros if the digits do not fit.
unfoldable pub buffer_of : List ℕ → ℕ → List ℕ
buffer_of d n = cond (leb (length d) n) (d ++ replicate (n - length d) 0) (replicate n 0)
