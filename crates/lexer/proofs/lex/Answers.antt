-- Behind the tokens that are accepted, or from the beginning, every word is cleared.
-- Assumes nothing.
use Rattle.std.proofs.Common.{◌∙◌, arith, rules, tests}
use Rattle.std.proofs.iter.Serving.{serving}
use Rattle.lexer.proofs.Order.{tokens-fit, buffer-cleared}
use Rattle.lexer.proofs.lex.Goals as goal

pub map_or-requires : goal.map_or-requires
map_or-requires c = λ x e a b. let h = tokens-fit _ _ _ _ c.lex_front-lexed.ensures.result_value e c.lex_front-lexed.auto.out in grind (serving, arith, h)

pub returns-clause-out_after : goal.returns-clause-out_after
returns-clause-out_after c =
    c.clear_from.ensures
    ∙ buffer-cleared _ _ _ _ _ c.lex_front-lexed.ensures.result_value c.lex_front-lexed.ensures.held c.lex_front-lexed.auto.out c.map_or.ensures (λ n k. search (rules, tests))
