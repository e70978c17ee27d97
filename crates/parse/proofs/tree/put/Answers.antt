-- The words that are written are those of the record.
-- Assumes nothing.
use Rattle.std.proofs.Common.{◌*◌, [], ap, ◌∙◌, rules, arith}
use Rattle.text.specs.Widths.{rec_wide}
use Rattle.own.specs.Words.{rec_then}
use Rattle.lines.proofs.Part.{part-written}
use Rattle.parse.proofs.tree.put.Goals as goal

pub returns-then-base-tree : goal.returns-then-base-tree
returns-then-base-tree c =
    let a = c.args in
    let words = c.copy_from_slice.ensures.after ∙ ap (λ k. rec_then k a.start a.end a.head.low a.head.high a.size []) c.from.ensures in
    record { long = search rules; put = λ w g. part-written (rec_wide * a.here) _ a.tree.now words (omega arith) (omega arith) }
