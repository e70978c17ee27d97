-- Assumes nothing.
use Rattle.std.proofs.Common.{sym, ◌∙◌, arith}
use Rattle.parse.specs.Contract.{text, read, raw}
use Rattle.parse.proofs.Rule.Amid.{went}
use Rattle.parse.proofs.Rule.Chain.{then-eats, onward}
use Rattle.parse.proofs.Rule.Entered.{part-passed, part-lacks}
use Rattle.parse.proofs.Rule.Marks.{keeping-mark}
use Rattle.parse.proofs.heads.Forms as form
use Rattle.parse.proofs.heads.Steps as step
use Rattle.lexer.specs.Classes as class
use Rattle.own.specs.Kinds as kind
use Rattle.own.specs.Law.{sorts}
use Rattle.parse.proofs.heads.wrapped.Goals as goal

pub pair-inner-requires : goal.pair-inner-requires
pair-inner-requires c = onward c.requires.ready (step.wrapped₁ c.args.tree.now c.requires.ready c.requires.class_value c.advance-a.ensures c.if-a-ne-LPAREN.false c.advance-b.ensures)

pub returns-in_default : goal.returns-in_default
returns-in_default c = part-passed (step.wrapped₁ c.args.tree.now c.requires.ready c.requires.class_value c.advance-a.ensures c.if-a-ne-LPAREN.false c.advance-b.ensures) c.in_default.is c.pair-inner.ensures

pub returns-in_default-paren : goal.returns-in_default-paren
returns-in_default-paren c =
    part-lacks (step.wrapped₂ c.args.tree.now c.requires.ready c.requires.class_value c.advance-a.ensures c.if-a-ne-LPAREN.false c.advance-b.ensures (went c.in-Next.is c.pair-inner.ensures)) c.in_default-paren.is c.eat-paren.ensures

pub returns : goal.returns
returns c =
    let k = c.args.st.class in
    let e = c.requires.class_value in
    let q = went c.in-Next.is c.pair-inner.ensures in
    let d = then-eats (step.wrapped₂ c.args.tree.now c.requires.ready c.requires.class_value c.advance-a.ensures c.if-a-ne-LPAREN.false c.advance-b.ensures q)
    (omega arith) c.eat-paren.ensures c.in-Next-paren.is (keeping-mark kind.BuiltinArm class.RParen tt) in
    let b = c.from.ensures ∙ c.wrapper.ensures in
    let g = form.wrapper-low k b in
    let u = form.unseen-pair (sorts (raw (text c.args.source.now) c.advance-b.result.at q.items)) q.info.paths in
    read (form.built_in c.from.result d (form.no-colons (form.word-name k e)) u (form.word-place k e ∙ sym b) g.0 g.1)
