-- Whether a shape has a sequence, as a test that antt computes: piece by piece, what is left of the shape after it.
-- Assumes nothing.
use Rattle.std.specs.Prelude.{Bool, true, false, ◌&&◌, ◌||◌, cond, List, [], ◌∷◌, ℕ}
use Rattle.text.specs.Lists.{has}
use Rattle.own.specs.Law.{Sort, word, child}
use Rattle.kinds.specs.Shape.{Part, fits, Shape, nothing, never, mark, part, ◌▸◌, ◌¦◌, many}

-- Whether a shape has the empty sequence.
unfoldable pub blank : Shape → Bool
blank nothing = true
blank never = false
blank (mark cs) = false
blank (part p) = false
blank (a ▸ b) = blank a && blank b
blank (a ¦ b) = blank a || blank b
blank (many a) = true

-- Whether a shape is the one that has no sequence.
unfoldable pub dead : Shape → Bool
dead nothing = false
dead never = true
dead (mark cs) = false
dead (part p) = false
dead (a ▸ b) = false
dead (a ¦ b) = false
dead (many a) = false

-- One after the other, and none at all if the first has no sequence.
unfoldable pub then : Shape → Shape → Shape
then a b = cond (dead a) never (a ▸ b)

-- Either, and the second if the first has no sequence.
unfoldable pub either : Shape → Shape → Shape
either a b = cond (dead a) b (a ¦ b)

-- Whether a piece is a mark of one of these classes.
unfoldable pub is_mark : List ℕ → Sort → Bool
is_mark cs (word c) = has cs c
is_mark cs (child k l h c) = false

-- Whether a piece is the part.
unfoldable pub is_part : Part → Sort → Bool
is_part p (word c) = false
is_part p (child k l h c) = fits p k l h c

-- What is left of a shape after a piece.
unfoldable pub after : Sort → Shape → Shape
after s nothing = never
after s never = never
after s (mark cs) = cond (is_mark cs s) nothing never
after s (part p) = cond (is_part p s) nothing never
after s (a ▸ b) = either (then (after s a) b) (cond (blank a) (after s b) never)
after s (a ¦ b) = either (after s a) (after s b)
after s (many a) = then (after s a) (many a)

-- Whether a shape has a sequence.
unfoldable pub spells : Shape → List Sort → Bool
spells a [] = blank a
spells a (s ∷ w) = spells (after s a) w
