-- Trees that are right: whose tokens are in order, each of whose nodes spells the rule of its kind.
-- Assumes nothing.
use Rattle.std.specs.Prelude.{Bool, true, false, ◌&&◌, ◌||◌, List, [], ◌∷◌, ℕ, suc}
use Rattle.own.specs.Tree.{Node, roots, Each, InOrder, tokens}
use Rattle.own.specs.Law.{Sort, word, child, Keeps}
use Rattle.kinds.specs.Shape.{Shape, nothing, never, part, ◌▸◌, ◌¦◌, many}
use Rattle.kinds.specs.Shape as shape
use Rattle.kinds.specs.Spelled.{Spelled}

-- Whether every sequence of a shape has a mark.
unfoldable pub marked : Shape → Bool
marked nothing = false
marked never = true
marked (shape.mark cs) = true
marked (part p) = false
marked (a ▸ b) = marked a || marked b
marked (a ¦ b) = marked a && marked b
marked (many a) = false

-- How many marks a sequence has.
unfoldable pub words : List Sort → ℕ
words [] = 0
words (word c ∷ w) = suc (words w)
words (child k l h c ∷ w) = words w

-- Trees that the laws speak of: tokens in order, and every node spells the rule of its kind.
pub record Right (ns : List Node) : Type 0 where
  pub ordered : InOrder 0 (tokens ns)
  pub spelled : Each (Keeps Spelled) (roots ns)
