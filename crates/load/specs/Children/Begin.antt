-- The state that the children of a record begin in, by its kind, low and high; and what low and high say of how many children there are.
-- Assumes nothing: these are definitions.
use Rattle.std.specs.Prelude.{Bool, true, ◌&&◌, ◌||◌, cond, List, [], ◌∷◌, map, ℕ, ◌+◌, ◌*◌, ◌^◌, eqb, ltb, get_or}
use Rattle.text.specs.Lists.{has, span}
use Rattle.text.specs.Same.{same}
use Rattle.num.specs.Bound.{is_bound}
use Rattle.kinds.specs.Shape.{number}
use Rattle.kinds.specs.Fields as fields
use Rattle.kinds.specs.Fields.{Fields}
use Rattle.load.specs.Children.Table.{heads}
use Rattle.load.specs.Children.Cues.{kinds_end}

-- What a kind asks of low and high: one of its lows, and high 0; one of its lows, and high the parameters; a number; a bound; low the names, and high 0;
-- low the names, and high the pairs; low the bits of an unsigned type, and high 0.
abbrev pub Low : ℕ
Low = 1

abbrev pub Parameters : ℕ
Parameters = 2

abbrev pub Wide : ℕ
Wide = 3

abbrev pub Bounded : ℕ
Bounded = 4

abbrev pub Names : ℕ
Names = 5

abbrev pub Pairs : ℕ
Pairs = 6

abbrev pub Bits : ℕ
Bits = 7

-- The bits of the unsigned types, `u1` to `u256`.
unfoldable pub bits : List ℕ
bits = map (λ i. 2 ^ i) (span 0 8)

-- That of a form of the kinds table.
unfoldable pub asked : Fields → ℕ
asked fields.plain = Low
asked (fields.low n) = Low
asked (fields.among ns) = cond (same ns bits) Bits Low
asked (fields.parameters n) = Parameters
asked fields.wide = Wide
asked fields.bounded = Bounded
asked fields.names = Names
asked fields.pairs = Pairs

-- The lows that a form names; one stands for all where it names none.
unfoldable pub lows_for : Fields → List ℕ
lows_for fields.plain = 0 ∷ []
lows_for (fields.low n) = n ∷ []
lows_for (fields.among ns) = cond (same ns bits) (0 ∷ []) ns
lows_for (fields.parameters n) = n ∷ []
lows_for fields.wide = 0 ∷ []
lows_for fields.bounded = 0 ∷ []
lows_for fields.names = 0 ∷ []
lows_for fields.pairs = 0 ∷ []

-- Which of the lows it is; what is asked besides, before the children are seen; and after, of the numbers of names, parameters and patterns.
unfoldable pub which : ℕ → ℕ → ℕ
which a low = cond (eqb a Low || eqb a Parameters) low 0

unfoldable pub besides : ℕ → ℕ → ℕ → Bool
besides a low high =
    cond (eqb a Low) (eqb high 0)
    (cond (eqb a Bounded) (is_bound (number low high))
    (cond (eqb a Names) (eqb high 0)
    (cond (eqb a Bits) (has bits low && eqb high 0) true)))

unfoldable pub agrees : ℕ → ℕ → ℕ → ℕ → ℕ → ℕ → Bool
agrees a low high names parameters patterns =
    cond (eqb a Parameters) (eqb high parameters)
    (cond (eqb a Names) (eqb low names)
    (cond (eqb a Pairs) (eqb low names && eqb high patterns) true))

-- What the table has of a kind: what is asked, how many lows are looked up, and the state of each, the dead one for a low that no form has.
abbrev pub columns : ℕ
columns = 3

unfoldable pub asked_of : ℕ → ℕ
asked_of k = cond (ltb k kinds_end) (get_or heads (columns * k) 0) 0

unfoldable pub first_of : ℕ → ℕ
first_of k = get_or heads (columns * k + 1) 0

unfoldable pub lows_of : ℕ → ℕ
lows_of k = cond (ltb k kinds_end) (get_or heads (columns * k + 2) 0) 0

unfoldable pub state_of : ℕ → ℕ → ℕ
state_of k i = get_or heads (first_of k + i) 0

-- The state that the children of a record begin in; the dead one if no form has its low and high.
unfoldable pub start : ℕ → ℕ → ℕ → ℕ
start k low high = cond (ltb (which (asked_of k) low) (lows_of k) && besides (asked_of k) low high) (state_of k (which (asked_of k) low)) 0
