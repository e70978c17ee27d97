-- Ranges of bytes, and sets that are several of them.
-- Assumes nothing.
use Rattle.std.specs.Prelude.{Bool, false, ◌&&◌, ◌||◌, List, [], ◌∷◌, ℕ, leb}

pub record Range : Type 0 where
  pub least : ℕ
  pub most : ℕ

abbrev pub bytes : ℕ → ℕ → Range
bytes a b = record { least = a; most = b }

-- a byte is of the range
abbrev pub of : Range → ℕ → Bool
of g b = leb g.least b && leb b g.most

-- a byte is of one of the ranges
unfoldable pub among : List Range → ℕ → Bool
among [] b = false
among (g ∷ gs) b = of g b || among gs b
