-- A rule of a table as one test that antt computes, one entry after the other.
-- Assumes nothing.
use Rattle.std.specs.Prelude.{Bool, true, ◌&&◌, List, [], ◌∷◌, ℕ, suc}

-- all tests of a list pass, and so does each
abbrev pub all : List Bool → Bool
all [] = true
all (b ∷ bs) = b && all bs

module _ {A : Type 0} where
  -- the test f passes at each entry of the list and its place, counted from i
  abbrev pub every : (ℕ → A → Bool) → ℕ → List A → Bool
  every f i [] = true
  every f i (x ∷ xs) = f i x && every f (suc i) xs
