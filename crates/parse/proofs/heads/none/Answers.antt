-- Assumes nothing.
use Rattle.std.proofs.Common.{[], ◌∷◌, arith}
use Rattle.theory.specs.Grammar.{tok, nt}
use Rattle.parse.specs.Contract.{read}
use Rattle.parse.proofs.Rule.Amid.{starts}
use Rattle.parse.proofs.Rule.Chain.{turns, advances}
use Rattle.parse.proofs.Rule.Marks.{keeping-mark}
use Rattle.parse.proofs.Rule.Commas.{AnyN}
use Rattle.parse.proofs.heads.Forms as form
use Rattle.lexer.specs.Classes as class
use Rattle.own.specs.Kinds as kind
use Rattle.own.specs.Arms as arm
use Rattle.grammar.specs.Shapes.TablesIndex.{n-head, n-head-optional}
use Rattle.parse.proofs.heads.none.Goals as goal

pub returns-then-a-ne-DOUBLE_COLON : goal.returns-then-a-ne-DOUBLE_COLON
returns-then-a-ne-DOUBLE_COLON c =
    let i = c.args in
    let y = c.requires.ready in
    let e = c.requires.class_value in
    let k = form.at_none i.st.class e in
    let a0 = turns (tok class.None ∷ nt n-head-optional ∷ []) (starts kind.BuiltinArm AnyN (nt n-head ∷ []) i.tree.now y.stands) form.flat-head (form.none_row i.st.class e) in
    let a1 = advances a0 k (omega arith) c.advance-a.ensures (keeping-mark kind.BuiltinArm class.None tt) in
    let a2 = turns [] a1 form.path-optional.flat (form.path-optional.elsewhere c.advance-a.result.class c.if-a-ne-DOUBLE_COLON.true) in
    rw c.from.ensures (read (form.built_in arm.None a2 (λ h. omega arith) form.unseen-nil form.none-place (omega arith) (omega arith)))
