-- The loop keeps that the first records are those of as many lines.
-- Assumes nothing.
use Rattle.load.specs.Checks.Listed.{fields}
use Rattle.load.proofs.WriteLaws.{Writing}
use Rattle.load.proofs.form.Listing.write.Given as goal

abbrev pub invariant-loop-i : goal.invariant-loop-i
invariant-loop-i g l = Writing (fields l.self) l.self.text.now l.n l.fn.tree l.tree l.i
