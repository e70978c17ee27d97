-- Assumes nothing.
use Rattle.std.proofs.Common.{rules, sym, ◌∙◌, arith}
use Rattle.parse.specs.Contract.{read}
use Rattle.parse.proofs.heads.Forms as form
use Rattle.parse.proofs.heads.Steps as step
use Rattle.lexer.specs.Classes as class
use Rattle.own.specs.Arms as arm
use Rattle.parse.proofs.heads.head.Goals as goal

pub returns-in-1 : goal.returns-in-1
returns-in-1 c =
    let k = c.args.st.class in
    let e = sym c.heads.ensures ∙ c.in-1.is in
    rw c.from.ensures (read (step.word-went c.args.tree.now c.requires class.false arm.False (form.false-row k e) (form.at-false k e) (omega arith) c.advance-a.ensures
    (λ h. omega arith) form.false-place (omega arith) (omega arith)))

pub returns-in-2 : goal.returns-in-2
returns-in-2 c =
    let k = c.args.st.class in
    let e = sym c.heads.ensures ∙ c.in-2.is in
    rw c.from-in-2.ensures (read (step.word-went c.args.tree.now c.requires class.true arm.True (form.true-row k e) (form.at_true k e) (omega arith) c.advance-b.ensures
    (λ h. omega arith) form.true-place (omega arith) (omega arith)))

pub returns-in_default : goal.returns-in_default
returns-in_default c = form.no-head c.heads.result c.requires c.heads.ensures (search rules)
