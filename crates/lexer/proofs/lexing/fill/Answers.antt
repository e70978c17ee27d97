-- The lexemes that are left, with the tokens found, are those of the draft.
-- Assumes nothing.
use Rattle.std.proofs.Common.{sym, ◌∙◌, ap, arith}
use Rattle.lexer.specs.Limits.{judged_in}
use Rattle.lexer.proofs.Filling.{fill_start, leads-to, nearer-token, nearer-trivia, fill-trivia, fill-token, fill-over, fill-refused, fill-answer, fill-held}
use Rattle.lexer.proofs.lexing.fill.Goals as goal

pub loop-kind-init : goal.loop-kind-init
loop-kind-init g c = fill_start _ _ _ _ _ c.outside-nest.ensures

pub overflow_cast-end : goal.overflow_cast-end
overflow_cast-end g c =
    let m = leads-to _ _ _ (sym c.step_with-found.ensures ∙ c.in-Token.is) in
    omega (arith, m.1, c.requires.short)

pub loop-kind-smaller-in-Token : goal.loop-kind-smaller-in-Token
loop-kind-smaller-in-Token g c = nearer-token _ _ _ _ (sym c.step_with-found.ensures ∙ c.in-Token.is)

pub loop-kind-preserved-in-Token : goal.loop-kind-preserved-in-Token
loop-kind-preserved-in-Token g c =
    let l = c.loop-kind in
    rw (c.after-nest.ensures, c.put.ensures)
    (fill-token l.invariant _ _ (sym c.step_with-found.ensures ∙ c.in-Token.is) c.requires.width c.requires.in_bounds
    (omega (arith, l.invariant.fits, c.if-n-room.false)))

pub loop-kind-smaller : goal.loop-kind-smaller
loop-kind-smaller g c = nearer-trivia _ _ _ (sym c.step_with-found.ensures ∙ c.in-Trivia.is)

pub loop-kind-preserved : goal.loop-kind-preserved
loop-kind-preserved g c = fill-trivia c.loop-kind.invariant _ (sym c.step_with-found.ensures ∙ c.in-Trivia.is)

pub returns-then-n-room-clause-result_value : goal.returns-then-n-room-clause-result_value
returns-then-n-room-clause-result_value g c =
    c.too_many.ensures ∙ fill-over c.loop-kind.invariant _ _ (sym c.step_with-found.ensures ∙ c.in-Token.is) c.if-n-room.true

pub returns-in-Refused-clause-result_value : goal.returns-in-Refused-clause-result_value
returns-in-Refused-clause-result_value g c =
    sym (ap (judged_in _) (fill-refused c.loop-kind.invariant _ (sym c.step_with-found.ensures ∙ c.in-Refused.is)))

pub returns-in-Nothing-clause-result_value : goal.returns-in-Nothing-clause-result_value
returns-in-Nothing-clause-result_value g c = c.count.ensures ∙ fill-answer c.loop-kind.invariant (sym c.step_with-found.ensures ∙ c.in-Nothing.is)

pub returns-in-Nothing-clause-held : goal.returns-in-Nothing-clause-held
returns-in-Nothing-clause-held g c = fill-held c.loop-kind.invariant c.requires.width _ (sym c.step_with-found.ensures ∙ c.in-Nothing.is)
