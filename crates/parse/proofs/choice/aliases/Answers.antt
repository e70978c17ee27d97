-- The table's rule, computed over all classes, and past them.
-- Assumes nothing.
use Rattle.std.proofs.Common.{◌∙◌}
use Rattle.parse.proofs.choice.Tables.{alias_choices}
use Rattle.parse.proofs.choice.Checks.{alias-entry}
use Rattle.parse.proofs.choice.aliases.Goals as goal

pub returns : goal.returns
unfolding alias_choices
returns c = c.at.ensures ∙ alias-entry c.args.class
