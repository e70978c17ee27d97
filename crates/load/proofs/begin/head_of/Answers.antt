-- A kind that is past the table has no row.
-- Assumes nothing.
use Rattle.std.proofs.Common.{sym, subst}
use Rattle.load.specs.Checks.Heads.{HeadOf}
use Rattle.load.proofs.BeginLaws.{head-not}
use Rattle.load.proofs.begin.head_of.Goals as goal

pub returns-in_err-get : goal.returns-in_err-get
returns-in_err-get c = subst (HeadOf c.args.kind) (sym c.from_residual.ensures) (head-not c.heads.ensures _ c.get.ensures.lookup c.in_err-get.was)
