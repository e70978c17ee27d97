-- Assumes nothing.
use Rattle.std.proofs.Common.{rules, ◌∙◌}
use borrow.Author.Tests.{tests}
use Rattle.std.proofs.lemmas.Iterator.{YieldsList-from_slice}
use Rattle.std.proofs.lemmas.Iterator.Search.{any_from_yields_List}
use Rattle.lines.specs.Lines.{needs_more}
use Rattle.lines.proofs.Lines.{long-any}
use Rattle.lines.proofs.is_long.Goals as goal

pub returns : goal.returns
returns c =
    any_from_yields_List needs_more _ _ _ c.any.ensures.ran (YieldsList-from_slice c.args.records.now cc) (λ x b q k. search (rules, tests))
    ∙ long-any c.args.records.now
