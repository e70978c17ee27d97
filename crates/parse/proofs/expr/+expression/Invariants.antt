-- The measure of each member: eight times the tokens that are left, and a number for the calls that take none.
-- Assumes nothing.
use Rattle.std.proofs.Common.{◌+◌, ◌-◌, ◌*◌, length}
use Rattle.grammar.specs.Shapes.TablesIndex.{n-list-expression}
use Rattle.parse.specs.Contract.{text}
use Rattle.parse.proofs.Rule.Commas.{Lined}
use Rattle.parse.proofs.expr.Elements as elem
use Rattle.parse.proofs.expr.ArmsLoop as arm-loop
use Rattle.parse.proofs.expr.+expression.Given as goal

abbrev pub decreases-expr : goal.decreases-expr
decreases-expr l = 8 * (length (text l.source.now).ts - l.st.at) + 4

abbrev pub decreases-single : goal.decreases-single
decreases-single l = 8 * (length (text l.source.now).ts - l.st.at) + 3

abbrev pub decreases-block : goal.decreases-block
decreases-block l = 8 * (length (text l.source.now).ts - l.st.at) + 2

abbrev pub decreases-elems : goal.decreases-elems
decreases-elems l = 8 * (length (text l.source.now).ts - l.st.at) + 5

abbrev pub decreases-exprs : goal.decreases-exprs
decreases-exprs l = 8 * (length (text l.source.now).ts - l.st.at) + 5

abbrev pub decreases-assign : goal.decreases-assign
decreases-assign l = 8 * (length (text l.source.now).ts - l.st.at) + 1

abbrev pub decreases-bracketed : goal.decreases-bracketed
decreases-bracketed l = 8 * (length (text l.source.now).ts - l.st.at) + 1

abbrev pub decreases-list : goal.decreases-list
decreases-list l = 8 * (length (text l.source.now).ts - l.st.at) + 1

abbrev pub decreases-cases : goal.decreases-cases
decreases-cases l = 8 * (length (text l.source.now).ts - l.st.at) + 1

abbrev pub decreases-arms : goal.decreases-arms
decreases-arms l = 8 * (length (text l.source.now).ts - l.st.at) + 5

abbrev pub decreases-arm : goal.decreases-arm
decreases-arm l = 8 * (length (text l.source.now).ts - l.st.at) + 4

abbrev pub decreases-body : goal.decreases-body
decreases-body l = 8 * (length (text l.source.now).ts - l.st.at) + 4

abbrev pub decreases-c::args : goal.decreases-c::args
decreases-c::args l = 8 * (length (text l.source.now).ts - l.st.at)

abbrev pub decreases-c::close_call : goal.decreases-c::close_call
decreases-c::close_call l = 8 * (length (text l.source.now).ts - l.a.at) + 1

abbrev pub decreases-c::close_angled : goal.decreases-c::close_angled
decreases-c::close_angled l = 8 * (length (text l.source.now).ts - l.a.at)

abbrev pub decreases-c::simple : goal.decreases-c::simple
decreases-c::simple l = 8 * (length (text l.source.now).ts - l.st.at) + 1

abbrev pub decreases-c::cast : goal.decreases-c::cast
decreases-c::cast l = 8 * (length (text l.source.now).ts - l.st.at) + 1

abbrev pub decreases-c::named : goal.decreases-c::named
decreases-c::named l = 8 * (length (text l.source.now).ts - l.st.at) + 2

abbrev pub decreases-c::called : goal.decreases-c::called
decreases-c::called l = 8 * (length (text l.source.now).ts - l.st.at) + 1

abbrev pub decreases-c::wrap : goal.decreases-c::wrap
decreases-c::wrap l = 8 * (length (text l.source.now).ts - l.st.at)

abbrev pub decreases-c::built : goal.decreases-c::built
decreases-c::built l = 8 * (length (text l.source.now).ts - l.st.at) + 1

abbrev pub decreases-c::path : goal.decreases-c::path
decreases-c::path l = 8 * (length (text l.source.now).ts - l.st.at) + 2

abbrev pub decreases-c::generic : goal.decreases-c::generic
decreases-c::generic l = 8 * (length (text l.source.now).ts - l.st.at) + 2

abbrev pub decreases-c::of_type : goal.decreases-c::of_type
decreases-c::of_type l = 8 * (length (text l.source.now).ts - l.st.at)

abbrev pub decreases-c::bound : goal.decreases-c::bound
decreases-c::bound l = 8 * (length (text l.source.now).ts - l.st.at)

abbrev pub decreases-c::loops : goal.decreases-c::loops
decreases-c::loops l = 8 * (length (text l.source.now).ts - l.st.at)

abbrev pub invariant-arms-loop-here : goal.invariant-arms-loop-here
invariant-arms-loop-here l = arm-loop.ArmsInv (text l.source) l.initial.here l.initial.tree l.here l.tree l.order l.mid

abbrev pub decreases-arms-loop-here : goal.decreases-arms-loop-here
decreases-arms-loop-here l = length (text l.source).ts - l.here.at

abbrev pub invariant-elems-loop-here : goal.invariant-elems-loop-here
invariant-elems-loop-here l = elem.Elemed (text l.source) l.initial.here l.initial.tree l.here l.tree

abbrev pub decreases-elems-loop-here : goal.decreases-elems-loop-here
decreases-elems-loop-here l = length (text l.source).ts - l.here.at

abbrev pub invariant-exprs-loop-tree : goal.invariant-exprs-loop-tree
invariant-exprs-loop-tree l = Lined (text l.source) n-list-expression (elem.Counted l.lone) l.initial.here l.initial.tree l.here l.tree

abbrev pub decreases-exprs-loop-tree : goal.decreases-exprs-loop-tree
decreases-exprs-loop-tree l = length (text l.source).ts - l.here.at
