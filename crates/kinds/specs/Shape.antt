-- The language that the rules of the kinds are written in: what a record owns and its children, in order of place, as a sequence of
-- marks and parts (document 01, "Well-shaped drafts" and the kinds table). `Spells` says which sequences a shape has.
-- Assumes nothing.
use Rattle.std.specs.Prelude.{Bool, ◌&&◌, List, [], ◌∷◌, ◌++◌, ℕ, ◌+◌, ◌*◌, T, eqb, ltb}
use Rattle.text.specs.Lists.{has}
use Rattle.num.specs.Bound.{is_bound}
use Rattle.own.specs.Law.{Sort, word, child}
use Rattle.own.specs.Kinds as kind

-- How many numbers a half of 32 bits may be, and the 64-bit number that low and high hold together.
abbrev pub half_range : ℕ
half_range = 4294967296

unfoldable pub number : ℕ → ℕ → ℕ
number low high = low + half_range * high

-- A child that a rule asks for: of one of these kinds; a name of one of these classes; a built-in arm of this low; a number that is a bound, or is from 1.
pub data Part : Type 0 where
  of name : List ℕ → Part
  arm : ℕ → Part
  bound size : Part

-- Whether a child of this kind, low and high, whose first token is of this class, is the part.
unfoldable pub fits : Part → ℕ → ℕ → ℕ → ℕ → Bool
fits (of ks) k low high class = has ks k
fits (name cs) k low high class = eqb k kind.Name && has cs class
fits (arm n) k low high class = eqb k kind.BuiltinArm && eqb low n
fits bound k low high class = eqb k kind.Number && is_bound (number low high)
fits size k low high class = eqb k kind.Number && ltb 0 (number low high)

-- A shape: nothing; none at all; a token of one of these classes; a part; one after the other; either; any number of times.
infixr 60 ◌▸◌
infixr 50 ◌¦◌
pub data Shape : Type 0 where
  nothing never : Shape
  mark : List ℕ → Shape
  part : Part → Shape
  ◌▸◌ ◌¦◌ : Shape → Shape → Shape
  many : Shape → Shape

-- The sequences that a shape has.
pub data Spells : Shape → List Sort → Type 0 where
  empty : Spells nothing []
  one_mark : {cs : List ℕ} (c : ℕ) → T (has cs c) → Spells (mark cs) (word c ∷ [])
  one_part : {p : Part} (k l h c : ℕ) → T (fits p k l h c) → Spells (part p) (child k l h c ∷ [])
  seq : {a b : Shape} {v w : List Sort} → Spells a v → Spells b w → Spells (a ▸ b) (v ++ w)
  left : {a b : Shape} {w : List Sort} → Spells a w → Spells (a ¦ b) w
  right : {a b : Shape} {w : List Sort} → Spells b w → Spells (a ¦ b) w
  stop : {a : Shape} → Spells (many a) []
  more : {a : Shape} {v w : List Sort} → Spells a v → Spells (many a) w → Spells (many a) (v ++ w)
