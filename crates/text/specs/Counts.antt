-- A number of bytes that there may be or not.
-- Assumes nothing.
use Rattle.std.proofs.Math.Option.{Option, none, some}
use Rattle.std.specs.Prelude.{ℕ, suc, ◌+◌}

-- one byte more
abbrev pub more : Option ℕ → Option ℕ
more none = none
more (some n) = some (suc n)

-- counted from place j on
abbrev pub place_of : Option ℕ → ℕ → Option ℕ
place_of none j = none
place_of (some n) j = some (j + n)
