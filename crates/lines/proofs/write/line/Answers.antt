-- Assumes nothing.
use Rattle.std.proofs.Common.{◌∙◌, arith}
use Rattle.lines.specs.Form.{line_of}
use Rattle.lines.specs.Lines.{with_way}
use Rattle.lines.proofs.Fields.{field-then}
use Rattle.lines.proofs.write.line.Goals as goal

pub returns-clause-bytes : goal.returns-clause-bytes
unfolding line_of
returns-clause-bytes g c =
    let next = field-then (with_way g.row.N) c.args.words.now in
    next 6 _ _ _ _ (omega arith) c.field.ensures.bytes c.field.ensures.end
    ∙ next 5 _ _ _ _ (omega arith) c.field-way.ensures.bytes c.field-way.ensures.end
    ∙ next 4 _ _ _ _ (omega arith) c.field-size.ensures.bytes c.field-size.ensures.end
    ∙ next 3 _ _ _ _ (omega arith) c.field-high.ensures.bytes c.field-high.ensures.end
    ∙ next 2 _ _ _ _ (omega arith) c.field-low.ensures.bytes c.field-low.ensures.end
    ∙ next 1 _ _ _ _ (omega arith) c.field-end.ensures.bytes c.field-end.ensures.end
    ∙ next 0 _ _ _ _ (omega arith) c.field-start.ensures.bytes c.field-start.ensures.end
