-- Assumes nothing.
use Rattle.std.proofs.Common.{arith, length, sym, ◌∙◌}
use Rattle.lexer.specs.Limits.{large_limits}
use Rattle.lexer.specs.Buffer.{tokens_in}
use Rattle.parse.specs.Entry.{entry_of, answer_of}
use Rattle.parse.proofs.entry.Laws as law
use Rattle.parse.proofs.entry.Ends as ends
use Rattle.parse.proofs.parse_front.Goals as goal

pub returns-then-too_many-clause-answer : goal.returns-then-too_many-clause-answer
unfolding answer_of
returns-then-too_many-clause-answer c =
    let a = c.args in
    law.too-many-answer (entry_of a.what) a.draft.now (tokens_in a.count a.tokens.now) (length a.tree.now) (sym c.too_many.ensures ∙ c.if-too_many.true)

pub source-source-requires : goal.source-source-requires
source-source-requires c = (ends.few-tokens large_limits.tokens c.args.count (length c.args.tokens.now) c.too_many.ensures c.if-too_many.false).1

pub records-requires : goal.records-requires
records-requires c =
    let h = ends.few-tokens large_limits.tokens c.args.count (length c.args.tokens.now) c.too_many.ensures c.if-too_many.false in
    omega (arith, h.0, c.source-source.ensures.count)

pub returns-clause-answer : goal.returns-clause-answer
unfolding answer_of
returns-clause-answer c =
    let s = c.source-source.ensures in
    law.front-answer (entry_of c.args.what) c.source-source.result s.draft s.tokens s.count c.records.result (length c.args.tree.now)
    (sym c.too_many.ensures ∙ c.if-too_many.false) c.records.ensures.answer

pub returns-clause-held : goal.returns-clause-held
returns-clause-held c =
    let s = c.source-source.ensures in
    law.front-held (entry_of c.args.what) c.source-source.result s.draft s.tokens s.count c.records.result c.records.ensures.held
