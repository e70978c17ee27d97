-- The loop keeps where the line ends, and that sequences stand up to here.
-- Assumes nothing.
use Rattle.std.proofs.Common.{◌-◌, length}
use Rattle.lexer.proofs.CommentWalks.{InLine}
use Rattle.lexer.proofs.scan.Scanner.line.Given as goal

abbrev pub invariant-loop-j : goal.invariant-loop-j
invariant-loop-j l = InLine l.fn.self.draft.now l.fn.self.at l.j

abbrev pub decreases-loop-j : goal.decreases-loop-j
decreases-loop-j l = length l.fn.self.draft.now - l.j
