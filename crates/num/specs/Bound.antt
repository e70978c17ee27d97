-- Good bounds and good sizes (document 01, refusals 9 and 10) and good lengths (document 02, order 2, refusal 19), as tests that antt computes
-- and as what they say.
-- Assumes nothing.
use Rattle.std.specs.Prelude.{None, Some, Bool, true, false, not, ◌≡◌, ℕ, ◌^◌, ◌≤◌, eqb}
use Rattle.text.specs.Lists.{some, span}
use Rattle.num.specs.Value.{Value}

-- A bound is "a power of two from 2 to 9,223,372,036,854,775,808", which is 2 to the 63.
unfoldable pub is_bound : ℕ → Bool
is_bound n = some (λ k. eqb n (2 ^ k)) (span 1 63)

-- A number that is too large is no bound.
unfoldable pub bound_ok : Value → Bool
bound_ok (Some n) = is_bound n
bound_ok None = false

-- A size is good if it is not 0 and not too large.
unfoldable pub size_ok : Value → Bool
size_ok (Some n) = not (eqb n 0)
size_ok None = false

-- A length is good if it is not too large: 0 is one.
unfoldable pub length_ok : Value → Bool
length_ok (Some n) = true
length_ok None = false

-- What the tests say: 2 to the k for some k from 1 to 63
abbrev pub Bound : Value → Type 0
Bound v = (k : ℕ) × (1 ≤ k) × (k ≤ 63) × (v ≡ Some (2 ^ k))

-- some number from 1 on
abbrev pub Size : Value → Type 0
Size v = (n : ℕ) × (1 ≤ n) × (v ≡ Some n)

-- and any number.
abbrev pub Length : Value → Type 0
Length v = (n : ℕ) × (v ≡ Some n)
