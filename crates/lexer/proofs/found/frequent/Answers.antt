-- There is a lexeme up to the end.
-- Assumes nothing.
use Rattle.std.proofs.Common.{sym, ◌∙◌}
use Rattle.lexer.proofs.Steps.{step_in}
use Rattle.lexer.proofs.found.frequent.Goals as goal

pub told-requires : goal.told-requires
told-requires c = c.in-Some.ensures ∙ sym (step_in _ _ c.requires.0)
