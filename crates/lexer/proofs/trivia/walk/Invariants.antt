-- The loop keeps where the comment ends, that no more comments are open than bytes are passed, and, where it goes by sequences, that they stand up to here.
-- Assumes nothing.
use Rattle.std.proofs.Common.{◌-◌, length, not, eqb}
use Rattle.lexer.proofs.CommentWalks.{InBlock}
use Rattle.lexer.proofs.trivia.walk.Given as goal

abbrev pub invariant-loop-j : goal.invariant-loop-j
invariant-loop-j g l = InBlock (not (eqb g.row.SEQUENCES 0)) l.s l.from l.inner l.j l.depth

abbrev pub decreases-loop-j : goal.decreases-loop-j
decreases-loop-j g l = length l.s - l.j
