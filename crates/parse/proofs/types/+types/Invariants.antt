-- What is left of the text bounds the calls; the loop keeps a list of types with its commas.
-- Assumes nothing.
use Rattle.std.proofs.Common.{◌+◌, ◌-◌, ◌*◌, length}
use Rattle.grammar.specs.Shapes.TablesIndex.{n-list-type}
use Rattle.parse.specs.Contract.{text}
use Rattle.parse.proofs.Rule.Commas.{Lined}
use Rattle.parse.proofs.types.+types.Given as goal

abbrev pub decreases-array : goal.decreases-array
decreases-array l = 4 * (length (text l.source.now).ts - l.st.at)

abbrev pub decreases-either : goal.decreases-either
decreases-either l = 4 * (length (text l.source.now).ts - l.st.at)

abbrev pub decreases-list : goal.decreases-list
decreases-list l = 4 * (length (text l.source.now).ts - l.st.at)

abbrev pub decreases-option : goal.decreases-option
decreases-option l = 4 * (length (text l.source.now).ts - l.st.at)

abbrev pub decreases-tuple : goal.decreases-tuple
decreases-tuple l = 4 * (length (text l.source.now).ts - l.st.at)

abbrev pub decreases-ty : goal.decreases-ty
decreases-ty l = 4 * (length (text l.source.now).ts - l.st.at) + 1

abbrev pub decreases-types : goal.decreases-types
decreases-types l = 4 * (length (text l.source.now).ts - l.st.at) + 2

abbrev pub invariant-types-loop-here : goal.invariant-types-loop-here
invariant-types-loop-here l = Lined (text l.source) n-list-type (λ w. Unit {0}) l.initial.here l.initial.tree l.here l.tree

abbrev pub decreases-types-loop-here : goal.decreases-types-loop-here
decreases-types-loop-here l = length (text l.source).ts - l.here.at
