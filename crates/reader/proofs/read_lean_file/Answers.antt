-- What is handed over is what is promised.
-- Assumes nothing.
use Rattle.reader.proofs.LeanLaws.{promised}
use Rattle.reader.proofs.read_lean_file.Goals as goal

pub returns-clause-laws : goal.returns-clause-laws
returns-clause-laws c = promised c.read_as.ensures.answer c.read_as.ensures.starts c.read_as.ensures.tree
