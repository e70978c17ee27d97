-- What is behind the words that were written is cleared; on a refusal every word is.
-- Assumes nothing.
use Rattle.std.proofs.Common.{arith, length, refl, ◌∙◌}
use Rattle.parse.specs.Entry.{entry_of}
use Rattle.reader.proofs.Laws as law
use Rattle.reader.proofs.read_as.Goals as goal

pub overflow_mul-counts : goal.overflow_mul-counts
overflow_mul-counts c =
    let r = c.read_front-reading in
    let h = law.its-tokens-fit (entry_of c.args.what) c.args.draft.now c.args.tokens.now (length c.args.tree.now) r.result r.ensures.answer _ (law.no-counts r.result c.unwrap_or_default-counts.ensures) refl in
    omega (arith, h)

pub overflow_mul-counts-2 : goal.overflow_mul-counts-2
overflow_mul-counts-2 c =
    let r = c.read_front-reading in
    let h = law.its-records-fit (entry_of c.args.what) c.args.draft.now c.args.tree.now (length c.args.tokens.now) r.result r.ensures.answer _ (law.no-counts r.result c.unwrap_or_default-counts.ensures) refl in
    omega (arith, h)

pub returns-clause-tokens : goal.returns-clause-tokens
returns-clause-tokens c =
    let r = c.read_front-reading in
    c.clear_from.ensures
    ∙ law.its-tokens (entry_of c.args.what) c.args.draft.now c.args.tokens.now (length c.args.tree.now) r.result r.ensures.answer _ (law.no-counts r.result c.unwrap_or_default-counts.ensures) refl r.auto.tokens r.ensures.tokens

pub returns-clause-tree : goal.returns-clause-tree
returns-clause-tree c =
    let r = c.read_front-reading in
    c.clear_from-2.ensures
    ∙ law.its-tree (entry_of c.args.what) c.args.draft.now c.args.tree.now (length c.args.tokens.now) r.result r.ensures.answer _ (law.no-counts r.result c.unwrap_or_default-counts.ensures) refl r.auto.tree r.ensures.tree
