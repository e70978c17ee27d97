-- What is shorter than a line begins with none.
-- Assumes nothing.
use Rattle.std.proofs.Common.{sym, ◌∙◌, arith, length}
use Rattle.std.proofs.lemmas.Bool.{lt-leb}
use Rattle.text.proofs.Table.{is_false}
use Rattle.load.specs.Listing.Read.{in_form}
use Rattle.load.proofs.Listing.LineLaws.{form-long}
use Rattle.load.proofs.line.begins.Goals as goal

pub returns-else-bytes-step : goal.returns-else-bytes-step
returns-else-bytes-step c =
    let ws = c.args.widths.now in
    let bs = c.args.bytes.now in
    lt-leb c.args.step (length bs) c.if-bytes-step.false ∙ sym (is_false (in_form ws bs) (λ t. omega (arith, form-long ws bs t, c.requires, c.if-bytes-step.false)))
