-- What low and high of a record hold, by its kind (document 01, the kinds table): "Low and high are 0 unless named; together they hold
-- a 64-bit number where `number` stands".
-- Assumes nothing.
use Rattle.std.specs.Prelude.{Bool, cond, ◌&&◌, List, [], ◌∷◌, ℕ, ◌+◌, eqb, ltb}
use Rattle.text.specs.Lists.{has}
use Rattle.num.specs.Bound.{is_bound}
use Rattle.own.specs.Law.{Sort, word, child}
use Rattle.own.specs.Kinds as kind
use Rattle.kinds.specs.Shape.{half_range, number}
use Rattle.kinds.specs.Families as family

-- What low and high hold: 0; a number; a bound; low the names; low the names, high the pairs; this low; this low, high the parameters; a low of these.
pub data Fields : Type 0 where
  plain wide bounded names pairs : Fields
  low parameters : ℕ → Fields
  among : List ℕ → Fields

-- How many children are of one of these kinds.
unfoldable pub counted : List ℕ → List Sort → ℕ
counted ks [] = 0
counted ks (word c ∷ w) = counted ks w
counted ks (child k l h c ∷ w) = cond (has ks k) 1 0 + counted ks w

unfoldable pub halves : ℕ → ℕ → Bool
halves l h = ltb l half_range && ltb h half_range

-- Whether low and high are what the fields say, of a record with these pieces.
unfoldable pub holds : Fields → ℕ → ℕ → List Sort → Bool
holds plain l h w = eqb l 0 && eqb h 0
holds (low n) l h w = eqb l n && eqb h 0
holds (among ns) l h w = has ns l && eqb h 0
holds wide l h w = halves l h
holds bounded l h w = halves l h && is_bound (number l h)
holds (parameters n) l h w = eqb l n && eqb h (counted (kind.Parameter ∷ []) w)
holds names l h w = eqb l (counted (kind.Name ∷ []) w) && eqb h 0
holds pairs l h w = eqb l (counted (kind.Name ∷ []) w) && eqb h (counted family.patterns w)
