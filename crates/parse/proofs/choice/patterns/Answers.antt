-- The table's rule, computed over all classes, and past them.
-- Assumes nothing.
use Rattle.std.proofs.Common.{◌∙◌}
use Rattle.parse.proofs.choice.Tables.{pattern_choices}
use Rattle.parse.proofs.choice.Checks.{pattern-entry}
use Rattle.parse.proofs.choice.patterns.Goals as goal

pub returns : goal.returns
unfolding pattern_choices
returns c = c.at.ensures ∙ pattern-entry c.args.class
