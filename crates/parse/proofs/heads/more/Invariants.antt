-- The loop keeps what the pairs so far are; it ends where the tokens do.
-- Assumes nothing.
use Rattle.std.proofs.Common.{◌-◌, length}
use Rattle.parse.specs.Contract.{text}
use Rattle.parse.proofs.heads.PairForms as pairs
use Rattle.parse.proofs.heads.more.Given as goal

abbrev pub invariant-loop-here : goal.invariant-loop-here
invariant-loop-here l = pairs.More (text l.source) l.initial.here l.initial.tree l.here l.tree l.number

abbrev pub decreases-loop-here : goal.decreases-loop-here
decreases-loop-here l = length (text l.source).ts - l.here.at
