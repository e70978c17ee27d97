-- What is behind the words that were written is cleared; on a refusal every word is.
-- Assumes nothing.
use Rattle.std.proofs.Common.{arith, length, refl, ◌∙◌}
use Rattle.parse.specs.Entry.{entry_of}
use Rattle.reader.proofs.Laws.{no-counts}
use Rattle.reader.proofs.LeanLaws as law
use Rattle.reader.proofs.lean.read_as.Goals as goal

pub overflow_mul-counts : goal.overflow_mul-counts
overflow_mul-counts c =
    let r = c.read_front-reading in
    let h = law.lean-records-fit (entry_of c.args.what) c.args.draft.now c.args.tree.now (length c.args.starts.now) r.result r.ensures.answer _ (no-counts r.result c.unwrap_or_default-counts.ensures) refl in
    omega (arith, h)

pub returns-clause-starts : goal.returns-clause-starts
returns-clause-starts c =
    let r = c.read_front-reading in
    c.clear_from.ensures
    ∙ law.its-starts (entry_of c.args.what) c.args.draft.now c.args.starts.now (length c.args.tree.now) r.result r.ensures.answer _ (no-counts r.result c.unwrap_or_default-counts.ensures) refl r.auto.starts r.ensures.starts

pub returns-clause-tree : goal.returns-clause-tree
returns-clause-tree c =
    let r = c.read_front-reading in
    c.clear_from-2.ensures
    ∙ law.its-lean-tree (entry_of c.args.what) c.args.draft.now c.args.tree.now (length c.args.starts.now) r.result r.ensures.answer _ (no-counts r.result c.unwrap_or_default-counts.ensures) refl r.auto.tree r.ensures.tree
