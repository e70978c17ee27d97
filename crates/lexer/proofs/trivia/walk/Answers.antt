-- Each byte is plain or begins a sequence, or two bytes open a comment, close one, or do neither.
-- Assumes nothing.
use Rattle.std.proofs.Common.{not, ap, sym, ◌∙◌, arith}
use borrow.Author.Tests.{ne_eqb, eq-eqb}
use Rattle.text.proofs.Same.{differ}
use Rattle.lexer.proofs.CommentWalks.{block-never, block-on, block-past, block-passes, block-bad, block-opens, block-closes, block-closed}
use Rattle.lexer.proofs.trivia.walk.Goals as goal
use Rattle.lexer.proofs.trivia.walk.Goals.{else-this-ne0-via-then-this-ne0+else-b-gt-LAST_ASCII, else-this-ne0-via-else-this-ne0}

pub loop-j-preserved-then-plain : goal.loop-j-preserved-then-plain
loop-j-preserved-then-plain g c = block-past c.loop-j.invariant (omega (arith, c.loop-j-test.true)) (sym c.plain.ensures ∙ c.if-plain.true)

pub returns-in_default : goal.returns-in_default
returns-in_default g c =
    block-bad c.loop-j.invariant (omega (arith, c.loop-j-test.true)) (ap not (ne_eqb g.row.SEQUENCES 0 c.if-this-ne0.true)) (sym c.in_default.is ∙ c.wide.ensures.answer)

pub overflow_add-j-then-b-gt-LAST_ASCII : goal.overflow_add-j-then-b-gt-LAST_ASCII
overflow_add-j-then-b-gt-LAST_ASCII g c =
    let v = block-passes c.loop-j.invariant (omega (arith, c.loop-j-test.true)) _ (omega (arith, c.if-b-gt-LAST_ASCII.true)) (sym c.in-Some.is ∙ c.wide.ensures.answer) in
    omega (arith, v.within)

pub loop-j-preserved-then-b-gt-LAST_ASCII : goal.loop-j-preserved-then-b-gt-LAST_ASCII
loop-j-preserved-then-b-gt-LAST_ASCII g c =
    block-passes c.loop-j.invariant (omega (arith, c.loop-j-test.true)) _ (omega (arith, c.if-b-gt-LAST_ASCII.true)) (sym c.in-Some.is ∙ c.wide.ensures.answer)

pub loop-j-preserved-in-Opens : goal.loop-j-preserved-in-Opens
loop-j-preserved-in-Opens g c = block-opens c.loop-j.invariant (omega (arith, c.loop-j-test.true)) (sym c.in-Opens.is ∙ c.edge_at.ensures)

pub returns-then-depth-eq0 : goal.returns-then-depth-eq0
returns-then-depth-eq0 g c =
    block-closed c.loop-j.invariant (omega (arith, c.loop-j-test.true)) (sym c.in-Closes.is ∙ c.edge_at.ensures) c.if-depth-eq0.true

pub loop-j-preserved-in-Closes : goal.loop-j-preserved-in-Closes
loop-j-preserved-in-Closes g c =
    block-closes c.loop-j.invariant (omega (arith, c.loop-j-test.true)) (sym c.in-Closes.is ∙ c.edge_at.ensures) c.if-depth-eq0.false

pub loop-j-preserved : goal.loop-j-preserved
loop-j-preserved g c =
    block-on c.loop-j.invariant (omega (arith, c.loop-j-test.true)) (sym c.in-Neither.is ∙ c.edge_at.ensures)
    (λ w. elim c.else-this-ne0.branch [
      | else-this-ne0-via-then-this-ne0+else-b-gt-LAST_ASCII b ↦ omega (arith, b.if-b-gt-LAST_ASCII.false)
      | else-this-ne0-via-else-this-ne0 b ↦ differ (sym (ap not (eq-eqb g.row.SEQUENCES 0 b.if-this-ne0.false)) ∙ w)
    ])

pub returns : goal.returns
returns g c = block-never c.loop-j.invariant (omega (arith, c.loop-j-test.false))
