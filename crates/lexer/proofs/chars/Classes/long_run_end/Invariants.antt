-- From the place reached the run ends where it did from the first one.
-- Assumes nothing.
use Rattle.std.proofs.Common.{◌-◌, ◌≤◌, ◌≡◌, length}
use Rattle.lexer.specs.Bytes.{in_classes}
use Rattle.lexer.proofs.Runs.{run_end}
use Rattle.lexer.proofs.chars.Classes.long_run_end.Given as goal

abbrev pub invariant-loop-at : goal.invariant-loop-at
invariant-loop-at l = (l.at ≤ length l.fn.s) × (run_end (in_classes l.fn.least l.fn.most) l.fn.s l.at ≡ run_end (in_classes l.fn.least l.fn.most) l.fn.s l.fn.i)

abbrev pub decreases-loop-at : goal.decreases-loop-at
decreases-loop-at l = length l.fn.s - l.at
