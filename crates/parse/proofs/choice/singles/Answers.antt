-- The table's rule, computed over all classes, and past them.
-- Assumes nothing.
use Rattle.std.proofs.Common.{◌∙◌}
use Rattle.parse.proofs.choice.Tables.{single_choices}
use Rattle.parse.proofs.choice.Checks.{single-entry}
use Rattle.parse.proofs.choice.singles.Goals as goal

pub returns : goal.returns
unfolding single_choices
returns c = c.at.ensures ∙ single-entry c.args.class
