-- Assumes nothing.
use Rattle.std.proofs.Common.{arith}
use Rattle.own.specs.Numbers.{kind_number}
use Rattle.parse.specs.Contract.{text, tok_at, ExprKind}
use Rattle.parse.proofs.Rule.Amid.{starts}
use Rattle.parse.proofs.Rule.Entered as entered
use Rattle.parse.proofs.Rule.Chain.{advances-one}
use Rattle.parse.proofs.Rule.Marks.{keeping-mark}
use Rattle.parse.proofs.Rule.Commas.{AnyN}
use Rattle.parse.proofs.expr.Forms as form
use Rattle.parse.proofs.expr.literal.Goals as goal

pub returns : goal.returns
returns c =
    let s = c.args.st.class in
    let q = kind_number c.literal.result.kind in
    let n = entered.by form.literal-rule c.requires.ready c.requires.class_value c.reserve.ensures in
    let k = form.literal-kind s c.literal.ensures in
    let d0 = starts q AnyN form.literal_rhs c.args.tree.now n.opened.stands in
    let d1 = advances-one d0 form.flat-literal (form.at_literal s n.chosen) n.opened.class_is (form.literal-pos s n.chosen) c.advance-a.ensures (keeping-mark q s (form.keeping-low q (omega arith, omega arith))) in
    entered.closes n tt d1 (omega arith) (form.literal-head s c.literal.ensures (text c.args.source.now) (tok_at (text c.args.source.now) c.reserve.result.at)) (form.not-match k.1 (omega arith))
    ExprKind (form.expr-kind (omega arith, omega arith)) c.close.ensures
