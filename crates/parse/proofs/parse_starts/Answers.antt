-- Assumes nothing.
use Rattle.std.proofs.Common.{arith, take, length, sym, ◌∙◌}
use Rattle.lexer.specs.Limits.{large_limits}
use Rattle.lexer.specs.Starts.{tokens_at}
use Rattle.parse.specs.Entry.{entry_of, starts_answer}
use Rattle.parse.proofs.entry.Laws as law
use Rattle.parse.proofs.entry.Ends as ends
use Rattle.parse.proofs.parse_starts.Goals as goal

pub returns-then-too_many_starts-clause-answer : goal.returns-then-too_many_starts-clause-answer
unfolding starts_answer
returns-then-too_many_starts-clause-answer c =
    let a = c.args in
    law.too-many-answer (entry_of a.what) a.draft.now (tokens_at a.draft.now (take a.count a.starts.now)) (length a.tree.now)
    (sym c.too_many_starts.ensures ∙ c.if-too_many_starts.true)

pub lean_source-found-requires : goal.lean_source-found-requires
lean_source-found-requires c = (ends.few-starts large_limits.tokens c.args.count (length c.args.starts.now) c.too_many_starts.ensures c.if-too_many_starts.false).1

pub records-requires : goal.records-requires
records-requires c =
    let h = ends.few-starts large_limits.tokens c.args.count (length c.args.starts.now) c.too_many_starts.ensures c.if-too_many_starts.false in
    omega (arith, h.0, c.lean_source-found.ensures.count)

pub returns-clause-answer : goal.returns-clause-answer
unfolding starts_answer
returns-clause-answer c =
    let s = c.lean_source-found.ensures in
    law.front-answer (entry_of c.args.what) c.lean_source-found.result s.draft s.tokens s.count c.records.result (length c.args.tree.now)
    (sym c.too_many_starts.ensures ∙ c.if-too_many_starts.false) c.records.ensures.answer

pub returns-clause-held : goal.returns-clause-held
returns-clause-held c =
    let s = c.lean_source-found.ensures in
    law.front-held (entry_of c.args.what) c.lean_source-found.result s.draft s.tokens s.count c.records.result c.records.ensures.held
