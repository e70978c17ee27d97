-- The class of the first byte chooses.
-- Assumes nothing.
use Rattle.std.proofs.Common.{◌≤◌, ◌∙◌, arith}
use Rattle.lexer.specs.Bytes as byte
use Rattle.lexer.proofs.ByteClasses.{class-in, starts_name, digit-class}
use Rattle.lexer.proofs.Bytes.{at-space}
use Rattle.lexer.proofs.Runs.{run_in}
use Rattle.lexer.proofs.scan.Scanner.lexeme.Goals as goal

pub plain_name-requires : goal.plain_name-requires
plain_name-requires c =
    let l : c.args.self.class ≤ byte.Letter = grind arith in
    (starts_name _ _ c.args.self.classed l (λ a b. absurd (grind (arith, a, b))), class-in _ _ _ _ c.args.self.classed (omega arith) l)

pub plain_number-requires : goal.plain_number-requires
plain_number-requires c = digit-class _ _ c.args.self.classed (omega arith) (omega arith)

pub returns-in-29-to-30-clause-found : goal.returns-in-29-to-30-clause-found
returns-in-29-to-30-clause-found c = at-space _ _ _ c.args.self.within c.args.self.classed (omega arith) (omega arith) _ (c.run_end.ensures ∙ run_in _ _ _ c.args.self.within (class-in _ _ _ _ c.args.self.classed (omega arith) (omega arith)))
