-- A number that is neither a bound nor 0 is a size: said by a law, so that where the code has another cue for it the check names this fact.
-- Assumes nothing.
use Rattle.load.proofs.CueLaws.{number-size}
use Rattle.load.proofs.cue.number_cue.Goals as goal

pub returns : goal.returns
returns c = number-size _ c.is_bound.ensures c.if-is_bound.false c.if-n-eq0.false
