-- `next` meets its contract.
-- Assumes nothing.
use Rattle.load.proofs.WalkLaws.{next-is}
use Rattle.load.proofs.walk.next.Goals as goal

pub returns : goal.returns
returns c =
    let e = next-is c.args.state c.requires.state_lt_state_count c.args.cue c.requires.cue_lt_cues c.from.ensures in
    record { is = e.0; below = e.1 }
