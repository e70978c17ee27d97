-- Where it is not the start alone, all of the token lies within the buffer.
-- Assumes nothing.
use Rattle.lexer.proofs.Kept.{all-within}
use Rattle.lexer.proofs.buffer.put.Goals as goal

pub put_whole-requires : goal.put_whole-requires
put_whole-requires g c = all-within _ c.requires.width c.if-this-eq-START_WORDS.false _ _ c.requires.in_bounds
