-- The part of a draft between a start and an end (document 01, "Lexemes": the raw text of a start and an end).
-- Assumes nothing.
use Rattle.std.specs.Prelude.{cond, ◌&&◌, List, [], ℕ, ◌-◌, leb, length, take, drop}

-- The bytes from start up to end; none if start exceeds end or end exceeds the length.
unfoldable pub part_of : List ℕ → ℕ → ℕ → List ℕ
part_of draft start end = cond (leb start end && leb end (length draft)) (take (end - start) (drop start draft)) []
