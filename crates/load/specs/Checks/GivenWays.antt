-- What the code reads to test the ways up that lines give: the sizes of their records, and those ways.
-- Assumes nothing: these are definitions.
use Rattle.std.specs.Prelude.{List, map, ℕ, get_or}
use Rattle.up.specs.Ways.{size_of}
use Rattle.load.specs.Listing.Read.{lines_read, records_in, up_of}

abbrev pub sizes_in : List ℕ → List ℕ → ℕ → ℕ
sizes_in ws text p = size_of (records_in ws text) p

abbrev pub ups_in : List ℕ → List ℕ → List ℕ
ups_in ws text = map up_of (lines_read ws text)

abbrev pub given_in : List ℕ → List ℕ → ℕ → ℕ
given_in ws text p = get_or (ups_in ws text) p 0
