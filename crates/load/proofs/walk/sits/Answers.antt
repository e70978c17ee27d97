-- Where the tests before it pass the end of the child decides: said by a law, so that where the code tests another place the check names this fact.
-- Assumes nothing.
use Rattle.std.proofs.Common.{sym, ◌∙◌, true≢false, le-ltb}
use Rattle.load.specs.Checks.Judge.{as_rec}
use Rattle.load.proofs.Checks.Small.{sits-by-end}
use Rattle.load.proofs.walk.sits.Goals.{then-child-gt0, else-child-gt0, then-child-left, else-child-left}
use Rattle.load.proofs.walk.sits.Goals as goal

pub returns-then-parent-child : goal.returns-then-parent-child
returns-then-parent-child c =
    elim c.if-child-left.branch [
      | then-child-left w ↦ elim c.if-child-gt0.branch [
        | then-child-gt0 v ↦ sits-by-end c.args.left (as_rec c.args.parent) (as_rec c.args.child) v.if-child-gt0.true v.value-is w.if-child-left.true w.value-is c.if-parent-child.true
        | else-child-gt0 v ↦ absurd (true≢false (sym w.if-child-left.true ∙ v.value-is ∙ le-ltb 0 c.args.child.size v.if-child-gt0.false))
      ]
      | else-child-left w ↦ absurd (true≢false (sym c.if-parent-child.true ∙ w.value-is ∙ w.if-child-left.false))
    ]
