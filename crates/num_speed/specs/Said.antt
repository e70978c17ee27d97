-- What crate `num` says of a run, as numbers for C.
-- Assumes nothing.
use Rattle.std.specs.Prelude.{Bool, cond, List, [], ◌∷◌, ℕ, Option, unwrap_or}
use Rattle.num.specs.Value.{Value}
use Rattle.num.specs.Bound.{bound_ok, size_ok, length_ok}

-- 1 for true
unfoldable pub flag : Bool → ℕ
flag b = cond b 1 0

-- The number, or 0 where it is too large.
unfoldable pub number_or_zero : Value → ℕ
number_or_zero v = unwrap_or v 0

-- Four words: the number, and whether it is a good length, a good size and a good bound.
unfoldable pub said_of : Value → List ℕ
said_of v = number_or_zero v ∷ flag (length_ok v) ∷ flag (size_ok v) ∷ flag (bound_ok v) ∷ []

-- How many digits were written; 0 where there was no room.
unfoldable pub count_of : Option ℕ → ℕ
count_of n = unwrap_or n 0
