-- The names up to the state, and the tokens ahead.
-- Assumes nothing.
use Rattle.std.proofs.Common.{◌-◌, length}
use Rattle.parse.specs.Contract.{text}
use Rattle.parse.proofs.names.Joined.{Joined}
use Rattle.parse.proofs.names.names.Given as goal

abbrev pub invariant-loop-here : goal.invariant-loop-here
invariant-loop-here l = Joined (text l.source) l.initial.here l.initial.tree l.here l.tree l.number

abbrev pub decreases-loop-here : goal.decreases-loop-here
decreases-loop-here l = length (text l.source).ts - l.here.at
