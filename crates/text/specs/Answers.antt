-- What is handed over of a draft (document 01, "What the reader hands over"), whichever function hands it over.
-- Assumes nothing.
use Rattle.std.specs.Prelude.{ℕ}

-- "An accepted draft [..]: the numbers of tokens and records"; or "a refusal", by its number, at its place.
pub data Answer : Type 0 where
  accepted : ℕ → ℕ → Answer
  refused : ℕ → ℕ → Answer

pub record Values : Type 0 where
  pub number : ℕ
  pub place : ℕ
  pub tokens : ℕ
  pub records : ℕ

-- The same as four numbers. An accepted draft has no number of a refusal and no place: 0 here. "A refusal: both numbers 0".
abbrev pub values : Answer → Values
values (accepted n m) = record { number = 0; place = 0; tokens = n; records = m }
values (refused c p) = record { number = c; place = p; tokens = 0; records = 0 }
