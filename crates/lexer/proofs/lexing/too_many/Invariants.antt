-- What is said of the lexemes that are left is said of all.
-- Assumes nothing.
use Rattle.std.proofs.Common.{◌≡◌, ◌-◌, length}
use Rattle.lexer.proofs.Filling.{over_from}
use Rattle.lexer.proofs.lexing.too_many.Given as goal

abbrev pub invariant-loop-end : goal.invariant-loop-end
invariant-loop-end l = over_from l.draft l.over l.over ≡ over_from l.draft l.over l.at

abbrev pub decreases-loop-end : goal.decreases-loop-end
decreases-loop-end l = length l.draft - l.at
