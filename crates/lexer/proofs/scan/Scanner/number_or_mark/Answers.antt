-- The class of the first byte chooses.
-- Assumes nothing.
use Rattle.std.proofs.Common.{arith}
use Rattle.lexer.proofs.ByteClasses.{digit-class}
use Rattle.lexer.proofs.scan.Scanner.number_or_mark.Goals as goal

pub plain_number-requires : goal.plain_number-requires
plain_number-requires c = digit-class _ _ c.args.self.classed (omega arith) (omega arith)
