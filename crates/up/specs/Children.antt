-- When a record is a child of another, and where a way up leads.
-- Assumes nothing.
use Rattle.std.specs.Prelude.{List, ◌≡◌, ℕ, ◌+◌, ◌-◌, ◌<◌, ◌≤◌, length, get_or}
use Rattle.own.specs.Tree.{Rec}
use Rattle.own.specs.Flat.{blank, children}
use Rattle.up.specs.Ways.{back}

-- The record j is one of the children of the record k.
pub record ChildOf (rs : List Rec) (k j : ℕ) : Type 0 where
  pub number : ℕ
  pub there : number < length (children rs k)
  pub its : get_or (children rs k) number blank ≡ get_or rs j blank

-- The last record before n that reaches over i: it does, and none behind it.
pub record Found (s : ℕ → ℕ) (i n : ℕ) : Type 0 where
  pub at : ℕ
  pub before : at < n
  pub way : back s i n ≡ i - at
  pub over : i < at + s at
  pub last : (q : ℕ) → at < q → q < n → q + s q ≤ i
