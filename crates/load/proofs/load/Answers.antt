-- `load` meets its contract, in either code.
-- Assumes nothing.
use Rattle.std.proofs.Common.{ap}
use Rattle.text.specs.Answers.{values}
use Rattle.load.proofs.LoadLaws.{handed}
use Rattle.load.proofs.load.Goals as goal

pub returns-in-Longer-clause-laws : goal.returns-in-Longer-clause-laws
returns-in-Longer-clause-laws c = handed _ _ c.load_lines.ensures.answer c.load_lines.ensures.words

pub returns-in_default : goal.returns-in_default
returns-in_default c =
    let a = c.load_lines-in_default.ensures.answer in
    let w = c.load_lines-in_default.ensures.words in
    record { answer = a; values = ap values a; words = w; laws = handed _ _ a w }
