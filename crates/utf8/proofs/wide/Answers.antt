-- What the number says of the text is said of whatever is answered.
-- Assumes nothing.
use Rattle.utf8.proofs.Founds.{lawful}
use Rattle.utf8.proofs.wide.Goals as goal

pub returns-clause-law : goal.returns-clause-law
returns-clause-law c = lawful _ c.wide_found.ensures
