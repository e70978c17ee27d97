-- A step that is a token says which is there; after any other one there is none.
-- Assumes nothing.
use Rattle.std.specs.Prelude.{◌+◌, ◌*◌, ◌%◌, ◌^◌}
use Rattle.std.proofs.Common.{ap, ◌∙◌}
use Rattle.lexer.proofs.FoundSteps.{token-found, none-found}
use Rattle.lexer.proofs.found.told.Goals as goal

pub returns-in_default : goal.returns-in_default
returns-in_default c = none-found c.args.draft.now c.args.start c.args.step c.requires c.in_default.not-Token

pub returns : goal.returns
returns c = ap (λ n. n * 2 ^ 32 + c.in-Token.end % 2 ^ 32) c.from.ensures ∙ token-found c.args.draft.now c.args.start c.requires c.in-Token.is c.class-class.ensures.answer
