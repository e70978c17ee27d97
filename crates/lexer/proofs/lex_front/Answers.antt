-- With all of each token.
-- Assumes nothing.
use Rattle.lexer.specs.Limits.{room, lexed_of}
use Rattle.lexer.proofs.Kept.{whole-kept, held_as}
use Rattle.lexer.proofs.lex_front.Goals as goal

pub returns-clause-result_value : goal.returns-clause-result_value
unfolding lexed_of room
returns-clause-result_value c = c.lex_as.ensures.result_value

pub returns-clause-held : goal.returns-clause-held
returns-clause-held c = held_as (whole-kept _) c.lex_as.ensures.held
