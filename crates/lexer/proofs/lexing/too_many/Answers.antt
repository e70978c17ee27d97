-- A refusal of the bytes that are left, or, at the end, too many tokens.
-- Assumes nothing.
use Rattle.std.proofs.Common.{sym, ◌∙◌}
use Rattle.lexer.proofs.Filling.{nearer-token, nearer-trivia, over-token, over-trivia, over-refused, over-end}
use Rattle.lexer.proofs.lexing.too_many.Goals as goal

pub loop-end-smaller-in-Token : goal.loop-end-smaller-in-Token
loop-end-smaller-in-Token c = nearer-token _ _ _ _ (sym c.step_with.ensures ∙ c.in-Token.is)

pub loop-end-preserved-in-Token : goal.loop-end-preserved-in-Token
loop-end-preserved-in-Token c = c.loop-end.invariant ∙ over-token _ _ _ _ _ (sym c.step_with.ensures ∙ c.in-Token.is)

pub loop-end-smaller : goal.loop-end-smaller
loop-end-smaller c = nearer-trivia _ _ _ (sym c.step_with.ensures ∙ c.in-Trivia.is)

pub loop-end-preserved : goal.loop-end-preserved
loop-end-preserved c = c.loop-end.invariant ∙ over-trivia _ _ _ _ (sym c.step_with.ensures ∙ c.in-Trivia.is)

pub returns-in-Refused : goal.returns-in-Refused
returns-in-Refused c = sym (c.loop-end.invariant ∙ over-refused _ _ _ _ (sym c.step_with.ensures ∙ c.in-Refused.is))

pub returns-in-Nothing : goal.returns-in-Nothing
returns-in-Nothing c = sym (c.loop-end.invariant ∙ over-end _ _ _ (sym c.step_with.ensures ∙ c.in-Nothing.is))
