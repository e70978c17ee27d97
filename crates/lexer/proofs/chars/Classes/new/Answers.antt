-- The table's rule, computed over all of its entries.
-- Assumes nothing.
use Rattle.std.proofs.Common.{refl}
use Rattle.text.specs.Ascii.{ascii, ascii_from}
use Rattle.text.specs.Same.{same}
use Rattle.lexer.specs.Chars.{among, whitespace, line_ends, plain_bytes, binary_digits, decimal_digits, hex_digits, underscore, name_starts}
use Rattle.lexer.specs.Lexemes.{marks}
use Rattle.lexer.specs.Bytes.{mark_class, byte_class}
use Rattle.lexer.proofs.ByteClasses.{table-rule}
use Rattle.lexer.proofs.chars.Classes.new.Goals as goal

pub invariant_of-result : goal.invariant_of-result
unfolding byte_class mark_class marks same ascii ascii_from among whitespace line_ends plain_bytes binary_digits decimal_digits hex_digits underscore name_starts
invariant_of-result c = record { right = table-rule _ refl tt }
