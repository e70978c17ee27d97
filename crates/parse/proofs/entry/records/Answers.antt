-- Too long a file, or what is read.
-- Assumes nothing.
use Rattle.std.proofs.Common.{arith, length, sym, ◌∙◌}
use Rattle.parse.specs.Contract.{source_tokens}
use Rattle.parse.specs.Entry.{entry_of}
use Rattle.parse.proofs.token.Tokens.{length-text}
use Rattle.parse.proofs.entry.Laws as law
use Rattle.parse.proofs.entry.Ends as ends
use Rattle.parse.proofs.entry.records.Goals as goal

pub returns-then-too_long-clause-answer : goal.returns-then-too_long-clause-answer
returns-then-too_long-clause-answer c =
    let src = c.args.source.now in
    law.too-long-answer (entry_of c.args.what) src.draft.now (source_tokens src) (length c.args.tree.now) (sym c.too_long.ensures ∙ c.if-too_long.true)

pub whole-step-requires-clause-ready : goal.whole-step-requires-clause-ready
whole-step-requires-clause-ready c = ends.starts-ready c.start-st.ensures (omega (arith, length-text c.args.source.now, c.requires))

pub returns-clause-answer : goal.returns-clause-answer
returns-clause-answer c =
    law.read-answer c.args.source.now c.start-st.ensures c.args.tree.now c.requires (entry_of c.args.what) c.whole-step.ensures c.whole-step.auto.tree c.judge.ensures
    (sym c.too_long.ensures ∙ c.if-too_long.false)

pub returns-clause-held : goal.returns-clause-held
returns-clause-held c =
    law.read-held c.args.source.now c.start-st.ensures c.args.tree.now c.requires (entry_of c.args.what) c.whole-step.ensures c.whole-step.auto.tree c.judge.ensures
