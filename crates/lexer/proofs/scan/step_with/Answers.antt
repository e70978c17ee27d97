-- There is a lexeme up to the end.
-- Assumes nothing.
use Rattle.std.proofs.Common.{sym, ◌∙◌}
use Rattle.lexer.proofs.Steps.{step_in, step-out}
use Rattle.lexer.proofs.scan.step_with.Goals as goal

pub returns-then-at-draft : goal.returns-then-at-draft
returns-then-at-draft c = sym (step-out _ _ c.if-at-draft.true)

pub returns-in_default : goal.returns-in_default
returns-in_default c = c.rare.ensures ∙ sym (step_in _ _ c.if-at-draft.false)

pub returns : goal.returns
returns c = c.in-Some.ensures.found ∙ sym (step_in _ _ c.if-at-draft.false)
