-- The table's rule, computed over all classes, and past them.
-- Assumes nothing.
use Rattle.std.proofs.Common.{◌∙◌}
use Rattle.parse.proofs.choice.Tables.{type_choices}
use Rattle.parse.proofs.choice.Checks.{type-entry}
use Rattle.parse.proofs.choice.types.Goals as goal

pub returns : goal.returns
unfolding type_choices
returns c = c.at.ensures ∙ type-entry c.args.class
