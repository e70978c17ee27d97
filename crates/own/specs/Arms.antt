-- Built-in arms by the low of their record: "low 1–6: Left, Right, None, Some, False, True".
-- Assumes nothing.
use Rattle.std.specs.Prelude.{List, [], ◌∷◌, ℕ}

abbrev pub Left : ℕ
Left = 1

abbrev pub Right : ℕ
Right = 2

abbrev pub None : ℕ
None = 3

abbrev pub Some : ℕ
Some = 4

abbrev pub False : ℕ
False = 5

abbrev pub True : ℕ
True = 6

-- "Left with Right, None with Some, False with True", each pair in the canonical order.
abbrev pub partners : List (ℕ × ℕ)
partners = (Left, Right) ∷ (None, Some) ∷ (False, True) ∷ []
