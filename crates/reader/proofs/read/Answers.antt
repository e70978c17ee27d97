-- What is handed over is what is promised.
-- Assumes nothing.
use Rattle.grammar.proofs.Answers.Laws.{promised}
use Rattle.reader.proofs.read.Goals as goal

pub returns-clause-laws : goal.returns-clause-laws
returns-clause-laws c = promised c.read_as.ensures.answer c.read_as.ensures.tokens c.read_as.ensures.tree
