-- The first byte is a digit other than 0.
-- Assumes nothing.
use Rattle.std.proofs.Common.{◌∙◌, ap}
use Rattle.lexer.specs.Classes as t
use Rattle.lexer.specs.declared.Step.TheVariants.{Token}
use Rattle.lexer.proofs.ByteClasses.{starts_run}
use Rattle.lexer.proofs.Bytes.{at-no-zero}
use Rattle.lexer.proofs.Runs.{run_in}
use Rattle.lexer.proofs.scan.Scanner.plain_number.Goals as goal

pub returns : goal.returns
returns c =
    ap (Token t.DecLiteral) (c.run_end-e.ensures ∙ run_in _ _ _ c.args.self.within (starts_run _ c.requires))
    ∙ at-no-zero _ _ c.args.self.within c.requires c.if-self-eq48.false
