-- The lexemes that are left, with the tokens found, are those of the draft.
-- Assumes nothing.
use Rattle.std.proofs.Common.{◌-◌, length}
use Rattle.lexer.specs.Nesting.{known}
use Rattle.lexer.proofs.Filling.{Filling}
use Rattle.lexer.proofs.lexing.fill.Given as goal

abbrev pub invariant-loop-kind : goal.invariant-loop-kind
invariant-loop-kind g l = Filling g.row.WORDS l.draft l.room l.fn.out l.at l.n (known l.nest) l.out

abbrev pub decreases-loop-kind : goal.decreases-loop-kind
decreases-loop-kind g l = length l.draft - l.at
