-- The buffers of a listing: how many bytes, and which words are used.
-- Assumes nothing.
use Rattle.std.specs.Prelude.{ℕ, ◌*◌}
use Rattle.lines.specs.Lines.{line_bytes}
use Rattle.reader.specs.Listed.{records_most}

-- The bytes of as many lines as there may be records, the most that there can be.
abbrev pub most : ℕ
most = records_most

abbrev pub enough : ℕ
enough = line_bytes * most
