-- Assumes nothing.
use Rattle.lines.specs.Lines.{with_way}
use Rattle.lines.proofs.Listing.{Listing}
use Rattle.lines.proofs.write.lines.Given as goal

abbrev pub invariant-loop-words : goal.invariant-loop-words
invariant-loop-words g l = Listing l.fn.out (with_way g.row.N) l.records l.out l.p l.words-index
