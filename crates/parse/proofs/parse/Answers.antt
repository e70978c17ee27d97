-- Behind the records the buffer is cleared, and on a refusal all of it.
-- Assumes nothing.
use Rattle.std.proofs.Common.{arith, ◌*◌, ◌-◌, ◌++◌, length, take, replicate, ap, ◌∙◌}
use Rattle.text.specs.Widths.{rec_wide}
use Rattle.lexer.specs.Limits.{large_limits}
use Rattle.parse.specs.Entry.{entry_of}
use Rattle.parse.proofs.entry.Cleared as law
use Rattle.parse.proofs.parse.Goals as goal

pub returns-clause-tree : goal.returns-clause-tree
returns-clause-tree c =
    let a = c.parse_front-answer in
    c.clear_from.ensures
    ∙ ap (λ u. take (rec_wide * u) a.new.tree ++ replicate (length a.new.tree - rec_wide * u) 0) c.unwrap_or-used.ensures
    ∙ law.cleared-tree (entry_of c.args.what) large_limits.tokens c.args.draft.now c.args.tokens.now c.args.tree.now c.args.count a.result a.ensures.answer a.new.tree a.auto.tree a.ensures.held

pub overflow_mul-used : goal.overflow_mul-used
overflow_mul-used c =
    let a = c.parse_front-answer in
    let h = law.records-fit (entry_of c.args.what) large_limits.tokens c.args.draft.now c.args.tokens.now c.args.tree.now c.args.count a.result a.ensures.answer in
    omega (arith, h, c.unwrap_or-used.ensures)
