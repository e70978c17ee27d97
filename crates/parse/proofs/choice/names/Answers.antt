-- The table's rule, computed over all classes, and past them.
-- Assumes nothing.
use Rattle.std.proofs.Common.{◌∙◌}
use Rattle.parse.specs.Choice as choice
use Rattle.parse.specs.Contract.{name_sort}
use Rattle.parse.proofs.choice.Tables.{name_choices}
use Rattle.parse.proofs.choice.Checks.{entry-is, name-at, name-named, name-past}
use Rattle.parse.proofs.choice.names.Goals as goal

pub returns : goal.returns
unfolding name_choices
returns c = c.at.ensures ∙ entry-is name_sort name_choices choice.FunctionName name-at name-named name-past c.args.class
