-- The way up (document 02, order 7): "Give every record a seventh word: how many records back its parent begins, 0 for the top and on a refusal's
-- line." It is found through the sizes of the records; Ups.antt has that of trees, and proofs/Parents.antt proves that both agree.
-- Assumes nothing: these are definitions.
use Rattle.std.specs.Prelude.{cond, List, [], ◌∷◌, ◌++◌, ℕ, zero, suc, ◌+◌, ◌-◌, ◌*◌, ◌/◌, ltb, length, get_or, drop}
use Rattle.std.specs.Simd.{first_chunks}
use Rattle.text.specs.Widths.{rec_wide}
use Rattle.own.specs.Tree.{Rec, concat}
use Rattle.own.specs.Flat.{blank}
use Rattle.own.specs.Words.{recs}

-- The parent of record i is the last record p before it that reaches over it, p + s p > i, where s gives the sizes: how many records back it begins, looked for
-- among those before n. 0 if none reaches over i.
abbrev pub back : (ℕ → ℕ) → ℕ → ℕ → ℕ
back s i zero = 0
back s i (suc p) = cond (ltb i (p + s p)) (i - p) (back s i p)

abbrev pub way_up : (ℕ → ℕ) → ℕ → ℕ
way_up s i = back s i i

-- The size of the record of this number.
abbrev pub size_of : List Rec → ℕ → ℕ
size_of rs i = (get_or rs i blank).size

-- What f gives from 0 on.
abbrev pub each : (ℕ → ℕ) → ℕ → List ℕ
each f zero = []
each f (suc n) = f 0 ∷ each (λ i. f (suc i)) n

-- The way up of every record.
abbrev pub ways_up : List Rec → List ℕ
ways_up rs = each (way_up (size_of rs)) (length rs)

-- The first six words of a record; and all seven, the way up as the last.
abbrev pub six : Rec → List ℕ
six r = r.kind ∷ r.start ∷ r.stop ∷ r.low ∷ r.high ∷ r.size ∷ []

abbrev pub seven : Rec → ℕ → List ℕ
seven r u = six r ++ (u ∷ [])

-- The seven words of each record, with these ways up,
abbrev pub sevens : List ℕ → List Rec → List (List ℕ)
sevens us [] = []
sevens us (r ∷ rs) = seven r (get_or us 0 0) ∷ sevens (drop 1 us) rs

-- and with its own;
abbrev pub rows : List Rec → List (List ℕ)
rows rs = sevens (ways_up rs) rs

-- one record after the other.
abbrev pub up_words : List Rec → List ℕ
up_words rs = concat (rows rs)

-- Of a buffer: the words of each of its first n records.
abbrev pub rows_in : ℕ → List ℕ → List (List ℕ)
rows_in = first_chunks rec_wide

-- A buffer whose first n records are given their ways up, where it has so many; all other words are as they were.
unfoldable pub upward : ℕ → List ℕ → List ℕ
upward n w = cond (ltb (length w / rec_wide) n) w (up_words (recs n w) ++ drop (rec_wide * n) w)
