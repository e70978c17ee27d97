-- The token without the first base that it begins with.
-- Assumes nothing.
use Rattle.std.proofs.Common.{◌∙◌, ap, unwrap_or}
use Rattle.text.specs.Ascii.{ascii, ascii_from}
use Rattle.num.proofs.Base.{stripped}
use Rattle.num.proofs.after_base.Goals as goal

pub returns : goal.returns
unfolding ascii ascii_from
returns c =
    ap (λ x. x.now) (c.unwrap_or.ensures ∙ ap (λ r. unwrap_or r c.args.token) c.or.ensures)
    ∙ stripped _ _ _ c.strip_prefix.ensures.cases c.strip_prefix-2.ensures.cases
