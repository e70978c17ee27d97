-- The byte behind the name decides.
-- Assumes nothing.
use Rattle.std.proofs.Common.{◌∙◌}
use Rattle.lexer.proofs.Names.{named, not-module, no-macro}
use Rattle.lexer.proofs.scan.Scanner.name.Goals as goal

pub word-requires : goal.word-requires
word-requires c =
    let v = named _ _ _ c.args.self.within c.requires c.run_end-end.ensures in
    (not-module _ _ _ v (λ z. c.if-b-eq58.false (c.peek-b.ensures ∙ z)), no-macro _ _ _ v (λ z. c.if-b-eq33.false (c.peek-b.ensures ∙ z)))
