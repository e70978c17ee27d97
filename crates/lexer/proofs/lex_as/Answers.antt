-- Refusal 1, then what the pass over the draft finds.
-- Assumes nothing.
use Rattle.lexer.proofs.Kept.{some_words}
use Rattle.lexer.proofs.lex_as.Goals as goal

pub nonzero_div-out : goal.nonzero_div-out
nonzero_div-out g c = some_words _ c.requires.width
