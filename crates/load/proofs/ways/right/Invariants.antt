-- Each line in turn: those before it give their ways up rightly.
-- Assumes nothing.
use Rattle.lines.specs.Lines.{with_way}
use Rattle.load.proofs.WaysLaws.{Agreeing}
use Rattle.load.proofs.ways.right.Given as goal

abbrev pub invariant-loop-i : goal.invariant-loop-i
invariant-loop-i g l = Agreeing (with_way g.row.N) l.text l.n l.p l.i
