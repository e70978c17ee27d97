-- Assumes nothing.
use Rattle.std.proofs.Common.{length, arith}
use Rattle.parse.proofs.file.Forms as form
use Rattle.parse.proofs.Rule.Refused.{refusal}
use Rattle.parse.proofs.file.file.Goals as goal

pub offset_bounds-tree-from : goal.offset_bounds-tree-from
offset_bounds-tree-from c = omega (arith, c.first_words-from.ensures, form.behind-few (length c.args.tree.now))

pub slice_bounds-items-count : goal.slice_bounds-items-count
slice_bounds-items-count c = omega (arith, c.first_words-from.ensures, form.behind-within (length c.args.tree.now))

pub slice_bounds-items-start : goal.slice_bounds-items-start
slice_bounds-items-start c = omega (arith, c.first_words-from.ensures, form.behind-within (length c.args.tree.now))

pub returns-in_default : goal.returns-in_default
returns-in_default c =
    form.file-refused (length c.args.source.now.draft.now) c.args.tree.now _ (form.lent-words c.args.tree.now c.first_words-from.ensures) c.items-step.ensures (refusal c.in_default.is)

pub returns : goal.returns
returns c =
    form.file-closed (length c.args.source.now.draft.now) c.args.tree.now _ (form.lent-words c.args.tree.now c.first_words-from.ensures) c.items-step.ensures c.in-Next.is (form.all_words c.args.tree.now c.first_words-from.ensures _) c.reserve-all.ensures c.top.ensures
