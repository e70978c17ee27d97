-- The byte after the `/` decides.
-- Assumes nothing.
use Rattle.std.proofs.Common.{◌∙◌}
use Rattle.lexer.proofs.Comments.{at-slash}
use Rattle.lexer.proofs.scan.Scanner.slash.Goals as goal

pub returns : goal.returns
returns c = c.refused.ensures ∙ at-slash _ _ _ c.args.self.within c.requires c.peek-b.ensures c.if-b-eq47.false c.if-b-eq42.false
