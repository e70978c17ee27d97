-- The walk over the comment ends where it is closed, never, or at a bad sequence.
-- Assumes nothing.
use Rattle.std.proofs.Common.{refl, ◌∙◌}
use Rattle.lexer.proofs.Comments.{block-broken, block-whole, block-unclosed}
use Rattle.lexer.proofs.scan.Scanner.block.Goals as goal

pub returns-in-Closed : goal.returns-in-Closed
returns-in-Closed c =
    let e = c.in-Closed.ensures in
    let b = e.1 refl in
    block-whole _ _ c.requires _ b.0 b.1 e.0

pub returns-in-Unclosed : goal.returns-in-Unclosed
returns-in-Unclosed c = c.refused.ensures ∙ block-unclosed _ _ c.requires c.in-Unclosed.ensures

pub returns-in-Bad : goal.returns-in-Bad
returns-in-Bad c =
    let e = c.in-Bad.ensures in
    c.broken.ensures ∙ block-broken _ _ c.requires _ _ e.2 e.5 e.4
