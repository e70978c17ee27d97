-- Assumes nothing.
use Rattle.lines.proofs.TwoDigits.{pair-written}
use Rattle.lines.proofs.digits.pair.Goals as goal

pub returns : goal.returns
returns c = pair-written c.args.v _ _
