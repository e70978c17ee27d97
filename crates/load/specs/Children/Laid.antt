-- The forms of the kinds table as their children stand in a listing: without marks, and of two built-in arms the canonical order only.
-- Assumes nothing.
use Rattle.std.specs.Prelude.{cond, ℕ, eqb}
use mathlib.Core.List.{foldr}
use Rattle.own.specs.Kinds as kind
use Rattle.own.specs.Arms as arm
use Rattle.kinds.specs.Shape.{arm, Shape, never, part, ◌▸◌, ◌¦◌}
use Rattle.kinds.specs.Rules.{Form, expression}
use Rattle.load.specs.Bare.{bare_shape}

-- Two built-in arms, one after the other; those that are partners.
abbrev pub turn : ℕ → ℕ → Shape
turn a b = part (arm a) ▸ part (arm b)

abbrev pub in_turn : Shape
in_turn = foldr (λ p s. turn p.0 p.1 ¦ s) never arm.partners

unfoldable pub laid : Form → Shape
laid f = cond (eqb f.kind kind.Match) (expression ▸ in_turn) (bare_shape f.shape)
