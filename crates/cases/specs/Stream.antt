-- Where a case stands in a stream.
-- Assumes nothing.
use Rattle.std.specs.Prelude.{◌≡◌, ◌≤◌, All, ℕ, List, ◌∷◌, ◌++◌, length, ◌-◌, slice_get, Some}
use Rattle.std.specs.List.{zip}

-- A line, then the text and a line end, then what is left; the last number is the length of the text.
pub record StartsWith (stream numbers text rest : List ℕ) : Type 0 where
  pub line : List ℕ
  pub parts : stream ≡ line ++ 10 ∷ (text ++ 10 ∷ rest)
  pub size : slice_get numbers (length numbers - 1) ≡ Some (length text)

-- Each number is at most its limit.
abbrev pub Within : List ℕ → List ℕ → Type 0
Within numbers limits = All (λ p. p.0 ≤ p.1) (zip numbers limits)
