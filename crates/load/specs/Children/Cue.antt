-- The cue of a child: children that no rule tells apart have the same. Those of one category of crate `kinds` do, save that built-in arms go by their
-- low, and numbers by whether they are a bound, or from 1.
-- Assumes nothing: these are definitions.
use Rattle.std.specs.Prelude.{◌&&◌, cond, List, [], ◌∷◌, map, ℕ, suc, ◌+◌, ◌^◌, eqb, ltb, leb, get_or}
use Rattle.text.specs.Lists.{count}
use Rattle.num.specs.Bound.{is_bound}
use Rattle.own.specs.Law.{Sort, child}
use Rattle.own.specs.Arms as arm
use Rattle.kinds.specs.Groups.{category_set}
use Rattle.kinds.specs.Shape.{number}
use Rattle.load.specs.Children.Table.{cue_kinds, cue_lows}

-- How many categories there are.
abbrev pub category_count : ℕ
category_count = 12

-- Those that are spoken of, by name. An arm that a rule names has its low behind `Arms`; `Arm` is one of any other low, `Zero` the number 0.
abbrev pub Other : ℕ
Other = 0

abbrev pub Name : ℕ
Name = 1

abbrev pub Parameter : ℕ
Parameter = 2

abbrev pub Pattern : ℕ
Pattern = 4

abbrev pub Arm : ℕ
Arm = 8

abbrev pub Zero : ℕ
Zero = 10

abbrev pub Arms : ℕ
Arms = category_count

abbrev pub Bound : ℕ
Bound = 19

abbrev pub Size : ℕ
Size = 20

-- How many there are.
abbrev pub cues : ℕ
cues = 21

-- The cue of a category, which is its place among them from 1, by the bit that `category_set` has for it.
unfoldable pub place_from : ℕ → List ℕ → ℕ → ℕ
place_from i [] s = Other
place_from i (a ∷ l) s = cond (eqb s a) i (place_from (suc i) l s)

abbrev pub category_bits : List ℕ
category_bits = map (λ i. 2 ^ i) (count category_count 0)

unfoldable pub kind_cue : ℕ → ℕ
kind_cue k = place_from Name category_bits (category_set k)

unfoldable pub arm_cue : ℕ → ℕ
arm_cue low = cond (ltb 0 low && leb low arm.True) (Arms + low) Arm

unfoldable pub number_cue : ℕ → ℕ
number_cue n = cond (is_bound n) Bound (cond (ltb 0 n) Size Zero)

-- The cue of a child of this kind, low and high.
unfoldable pub refined : ℕ → ℕ → ℕ → ℕ
refined c low high = cond (eqb c Arm) (arm_cue low) (cond (eqb c Zero) (number_cue (number low high)) c)

unfoldable pub cue : ℕ → ℕ → ℕ → ℕ
cue k low high = refined (kind_cue k) low high

-- A child that stands for all of a cue.
abbrev pub rep : ℕ → Sort
rep c = child (get_or cue_kinds c 0) (get_or cue_lows c 0) 0 0
