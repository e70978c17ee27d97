-- What the way up of a record in a buffer leads to.
-- Assumes nothing.
use Rattle.std.specs.Prelude.{List, ◌≡◌, ℕ, ◌+◌, ◌-◌, ◌*◌, ◌<◌, ◌≤◌, get_or}
use Rattle.text.specs.Widths.{rec_wide}
use Rattle.own.specs.Words.{recs}
use Rattle.up.specs.Buffer.{up_place}
use Rattle.up.specs.Children.{ChildOf}

-- The record j of those of a buffer, and the way up u that it has there: 0 for the first; else the record u before it is its parent.
pub record Led (words : List ℕ) (n j : ℕ) : Type 0 where
  pub first : j ≡ 0 → get_or words (rec_wide * j + up_place) 0 ≡ 0
  pub some : 0 < j → 0 < get_or words (rec_wide * j + up_place) 0
  pub within : get_or words (rec_wide * j + up_place) 0 ≤ j
  pub child : 0 < j → ChildOf (recs n words) (j - get_or words (rec_wide * j + up_place) 0) j
