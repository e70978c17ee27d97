-- Assumes nothing.
use Rattle.std.proofs.Common.{◌-◌, length}
use Rattle.grammar.specs.Shapes.TablesIndex.{n-list-parameter}
use Rattle.parse.specs.Contract.{text}
use Rattle.parse.proofs.Rule.Commas.{Lined}
use Rattle.parse.proofs.program.Forms as form
use Rattle.parse.proofs.program.parameters.Given as goal

abbrev pub invariant-loop-here : goal.invariant-loop-here
invariant-loop-here l = Lined (text l.source) n-list-parameter (form.Many l.number l.fn.st l.here) l.fn.st l.fn.tree l.here l.tree

abbrev pub decreases-loop-here : goal.decreases-loop-here
decreases-loop-here l = length (text l.source).ts - l.here.at
