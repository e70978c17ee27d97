-- The table's rule, computed over all classes, and past them.
-- Assumes nothing.
use Rattle.std.proofs.Common.{◌∙◌}
use Rattle.parse.specs.Choice as choice
use Rattle.parse.specs.Contract.{head_sort}
use Rattle.parse.proofs.choice.Tables.{head_choices}
use Rattle.parse.proofs.choice.Checks.{entry-is, head_at, head-named, head-past}
use Rattle.parse.proofs.choice.heads.Goals as goal

pub returns : goal.returns
unfolding head_choices
returns c = c.at.ensures ∙ entry-is head_sort head_choices choice.NamedHead head_at head-named head-past c.args.class
