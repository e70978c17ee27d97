-- `past` meets its contract.
-- Assumes nothing.
use Rattle.load.specs.Checks.Judge.{as_rec}
use Rattle.load.proofs.WalkLaws.{cue-within, as-one, past_is}
use Rattle.load.proofs.walk.past.Goals as goal

pub next-requires-clause-cue_lt_cues : goal.next-requires-clause-cue_lt_cues
next-requires-clause-cue_lt_cues c = cue-within _ _ _ c.cue-its.ensures

pub returns : goal.returns
returns c = past_is c.args.seen (as_rec c.args.child) c.cue-its.ensures c.next.ensures.is (as-one _ _ c.from.ensures) (as-one _ _ c.from-2.ensures) (as-one _ _ c.from-3.ensures)
