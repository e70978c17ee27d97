-- `ends` meets its contract.
-- Assumes nothing.
use Rattle.std.proofs.Common.{refl}
use Rattle.load.proofs.WalkLaws.{ends-is}
use Rattle.load.proofs.walk.ends.Goals as goal

pub returns : goal.returns
returns c = ends-is c.args.state c.requires.state_lt_state_count refl
