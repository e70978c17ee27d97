-- Each entry stands where the constants say.
-- Assumes nothing.
use Rattle.std.proofs.Common.{arith, rules}
use Rattle.words.proofs.Constants.{places}
use Rattle.words.proofs.Laws.{stands}
use Rattle.words.proofs.lookup.text_of.Goals as goal

pub slice_bounds-result-end : goal.slice_bounds-result-end
unfolding places
slice_bounds-result-end c = search (rules, c.from-start.ensures, c.from.ensures, stands c.args.e (omega (arith, c.requires.1)))
