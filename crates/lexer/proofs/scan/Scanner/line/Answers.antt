-- Each byte is past CR, begins a sequence, ends the line, or is of it too.
-- Assumes nothing.
use Rattle.std.proofs.Common.{sym, ◌∙◌, arith}
use Rattle.lexer.proofs.Comments.{line-cr, line-lf, line-other}
use Rattle.lexer.proofs.CommentWalks.{line-begins, line-over, line-left, line-bad, line-plain, line-passes}
use Rattle.lexer.proofs.scan.Scanner.line.Goals as goal
use Rattle.lexer.proofs.scan.Scanner.line.Goals.{then-b-eq13-via-then-b-eq13, then-b-eq13-via-else-b-eq13+then-b-eq10}

pub loop-j-init : goal.loop-j-init
loop-j-init c = line-begins c.requires

pub loop-j-preserved-then-b-le-LAST_ASCII : goal.loop-j-preserved-then-b-le-LAST_ASCII
loop-j-preserved-then-b-le-LAST_ASCII c =
    line-plain c.loop-j.invariant c.loop-j-test.true
    (line-other _ c.if-b-le-LAST_ASCII.true (λ e. absurd (omega (arith, c.if-b-gt13.true, e))) (λ e. absurd (omega (arith, c.if-b-gt13.true, e))))

pub returns-in_default : goal.returns-in_default
returns-in_default c =
    line-bad c.requires c.loop-j.invariant c.loop-j-test.true (omega (arith, c.if-b-gt-LAST_ASCII.true)) (sym c.in_default.is ∙ c.wide.ensures.answer)

pub overflow_add-j-then-b-gt-LAST_ASCII : goal.overflow_add-j-then-b-gt-LAST_ASCII
overflow_add-j-then-b-gt-LAST_ASCII c =
    let v = line-passes c.loop-j.invariant c.loop-j-test.true _ (omega (arith, c.if-b-gt-LAST_ASCII.true)) (sym c.in-Some.is ∙ c.wide.ensures.answer) in
    omega (arith, v.within)

pub loop-j-preserved-then-b-gt-LAST_ASCII : goal.loop-j-preserved-then-b-gt-LAST_ASCII
loop-j-preserved-then-b-gt-LAST_ASCII c =
    line-passes c.loop-j.invariant c.loop-j-test.true _ (omega (arith, c.if-b-gt-LAST_ASCII.true)) (sym c.in-Some.is ∙ c.wide.ensures.answer)

pub returns-then-b-eq13 : goal.returns-then-b-eq13
returns-then-b-eq13 c =
    line-left c.requires c.loop-j.invariant c.loop-j-test.true
    (elim c.then-b-eq13.branch [
      | then-b-eq13-via-then-b-eq13 w ↦ line-cr _ w.if-b-eq13.true
      | then-b-eq13-via-else-b-eq13+then-b-eq10 w ↦ line-lf _ w.if-b-eq10.true
    ])
    (omega (arith, c.if-b-gt-LAST_ASCII.false))

pub loop-j-preserved : goal.loop-j-preserved
loop-j-preserved c =
    line-plain c.loop-j.invariant c.loop-j-test.true (line-other _ (omega (arith, c.if-b-gt-LAST_ASCII.false)) c.if-b-eq13.false c.if-b-eq10.false)

pub returns : goal.returns
returns c = line-over c.requires c.loop-j.invariant c.loop-j-test.false
