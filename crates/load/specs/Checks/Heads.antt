-- What a row of the code's table says of a kind: the same as the table of heads (specs/Children/Table.antt), each row with its own states.
-- Assumes nothing: these are definitions.
use Rattle.std.specs.Prelude.{Option, Some, None, List, ◌≡◌, ℕ, ◌<◌, length, get_or}
use Rattle.load.specs.Children.Begin as begin
use Rattle.load.specs.Children.Begin.{asked_of, lows_of, state_of}
use Rattle.load.specs.Children.Cues.{kinds_end}
use Rattle.load.specs.declared.begin.Asked.{Asked}
use Rattle.load.specs.declared.begin.Asked.TheVariants.{Low, Parameters, Wide, Bounded, Names, Pairs, Bits}
use Rattle.load.specs.declared.begin.Head.{Head}

-- What is asked, as a number of the table.
abbrev pub asked_number : Asked → ℕ
asked_number Low = begin.Low
asked_number Parameters = begin.Parameters
asked_number Wide = begin.Wide
asked_number Bounded = begin.Bounded
asked_number Names = begin.Names
asked_number Pairs = begin.Pairs
asked_number Bits = begin.Bits

-- A row has what the kind asks, and the states of as many lows as it has.
pub record RowOf (kind : ℕ) (h : Head) : Type 0 where
  pub asked : asked_number h.asked ≡ asked_of kind
  pub lows : length h.begins.now ≡ lows_of kind
  pub states : (i : ℕ) → i < length h.begins.now → get_or h.begins.now i 0 ≡ state_of kind i

-- Where there is no row, the kind asks nothing and has no lows.
abbrev pub HeadOf : ℕ → Option Head → Type 0
HeadOf kind (Some h) = RowOf kind h
HeadOf kind None = (asked_of kind ≡ 0) × (lows_of kind ≡ 0)

-- The code's table has a row for each kind.
pub record AllHeads (rows : List (Option Head)) : Type 0 where
  pub as_many : length rows ≡ kinds_end
  pub each : (k : ℕ) → k < kinds_end → HeadOf k (get_or rows k None)
