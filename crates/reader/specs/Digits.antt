-- How many digits hold every start, end, size and way up of a draft within either set of limits (document 02, order 9): a line within the small limits has
-- four, as before; six hold those within the large ones.
-- Assumes nothing.
use Rattle.std.specs.Prelude.{ℕ}
use Rattle.lexer.specs.declared.Limits.{Limits}
use Rattle.lexer.specs.declared.Limits.TheVariants.{Small, Large}
use Rattle.lines.specs.Lines.{place_digits, long_digits}

abbrev pub digits_for : Limits → ℕ
digits_for Small = place_digits
digits_for Large = long_digits
