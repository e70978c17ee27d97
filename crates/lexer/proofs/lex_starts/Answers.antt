-- With one word of each, of which as many fit as the buffer has words.
-- Assumes nothing.
use Rattle.std.proofs.Common.{ℕ, ap, ◌∙◌}
use Rattle.std.proofs.Math.Nat.{div-one}
use Rattle.std.specs.Prelude.{min}
use Rattle.lexer.specs.Limits.{lexed_in, limits_for}
use Rattle.lexer.specs.Starts.{start_room, starts_lexed}
use Rattle.lexer.proofs.Kept.{starts-kept, held_as}
use Rattle.lexer.proofs.lex_starts.Goals as goal

pub returns-clause-result_value : goal.returns-clause-result_value
unfolding starts_lexed start_room
returns-clause-result_value c =
    let l = limits_for c.args.limits in
    c.lex_as.ensures.result_value ∙ ap (λ (n : ℕ). lexed_in l c.args.draft.now (min l.tokens n)) (div-one _)

pub returns-clause-held : goal.returns-clause-held
returns-clause-held c = held_as (starts-kept _) c.lex_as.ensures.held
