-- What is left of the text bounds the calls; the loop keeps a list of patterns with its commas.
-- Assumes nothing.
use Rattle.std.proofs.Common.{◌+◌, ◌-◌, ◌*◌, length}
use Rattle.grammar.specs.Shapes.TablesIndex.{n-list-pattern}
use Rattle.parse.specs.Contract.{text}
use Rattle.parse.proofs.Rule.Commas.{Lined}
use Rattle.parse.proofs.pattern.+pattern.Given as goal

abbrev pub decreases-bracketed : goal.decreases-bracketed
decreases-bracketed l = 4 * (length (text l.source.now).ts - l.st.at)

abbrev pub decreases-pattern : goal.decreases-pattern
decreases-pattern l = 4 * (length (text l.source.now).ts - l.st.at) + 1

abbrev pub decreases-patterns : goal.decreases-patterns
decreases-patterns l = 4 * (length (text l.source.now).ts - l.st.at) + 2

abbrev pub invariant-patterns-loop-tree : goal.invariant-patterns-loop-tree
invariant-patterns-loop-tree l = Lined (text l.source) n-list-pattern (λ w. Unit {0}) l.initial.here l.initial.tree l.here l.tree

abbrev pub decreases-patterns-loop-tree : goal.decreases-patterns-loop-tree
decreases-patterns-loop-tree l = length (text l.source).ts - l.here.at
