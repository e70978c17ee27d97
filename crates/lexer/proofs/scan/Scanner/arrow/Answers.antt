-- The byte behind `-` decides.
-- Assumes nothing.
use Rattle.std.proofs.Common.{sym, ◌∙◌}
use Rattle.lexer.proofs.Marks.{at-arrow, at-dash}
use Rattle.lexer.proofs.scan.Scanner.arrow.Goals as goal

pub returns-then-peek-ne62 : goal.returns-then-peek-ne62
returns-then-peek-ne62 c =
    c.refused.ensures ∙ at-dash _ _ _ c.args.self.within (sym c.requires ∙ c.args.self.classed) c.peek.ensures c.if-peek-ne62.true

pub returns : goal.returns
returns c = at-arrow _ _ _ c.args.self.within (sym c.requires ∙ c.args.self.classed) c.peek.ensures c.if-peek-ne62.false
