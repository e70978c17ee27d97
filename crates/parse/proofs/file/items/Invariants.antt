-- Assumes nothing.
use Rattle.std.proofs.Common.{◌-◌, length}
use Rattle.parse.specs.Contract.{text}
use Rattle.parse.proofs.file.Loop.{ItemsInv}
use Rattle.parse.proofs.file.items.Given as goal

abbrev pub invariant-loop-here : goal.invariant-loop-here
invariant-loop-here l = ItemsInv (text l.source) l.fn.st l.fn.tree l.here l.tree

abbrev pub decreases-loop-here : goal.decreases-loop-here
decreases-loop-here l = length (text l.source).ts - l.here.at
