-- The size and the way up among the words of a record in a buffer.
-- Assumes nothing.
use Rattle.std.specs.Prelude.{List, ℕ, ◌+◌, ◌*◌, get_or}
use Rattle.text.specs.Widths.{rec_wide}

abbrev pub size_place : ℕ
size_place = 5

abbrev pub up_place : ℕ
up_place = 6

-- The size of the record of this number;
abbrev pub size_in : List ℕ → ℕ → ℕ
size_in w i = get_or w (rec_wide * i + size_place) 0

-- and its way up, as it stands there.
abbrev pub up_in : List ℕ → ℕ → ℕ
up_in w i = get_or w (rec_wide * i + up_place) 0
