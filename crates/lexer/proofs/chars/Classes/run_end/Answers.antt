-- A run ends at the first byte that is not of it, or at the end.
-- Assumes nothing.
use Rattle.std.proofs.Common.{drop, rules, tests, not, ◌∙◌, arith}
use Rattle.std.proofs.lemmas.List.{take_all, length-drop}
use Rattle.std.proofs.lemmas.Iterator.{YieldsList-from_slice}
use Rattle.std.proofs.lemmas.Iterator.Search.{position_from_yields_List}
use Rattle.lexer.specs.Bytes.{in_classes}
use Rattle.lexer.proofs.Runs.{run_placed}
use Rattle.lexer.proofs.chars.Classes.run_end.Goals as goal

pub returns : goal.returns
unfolding in_classes
returns c =
    let test = in_classes c.args.least c.args.most in
    let rest = drop c.args.i c.args.s.now in
    let whole = c.iter.ensures.rest ∙ take_all _ rest (omega (arith, length-drop c.args.i c.args.s.now)) in
    let found =
    position_from_yields_List (λ b. not (test b)) _ _ c.position.result c.position.ensures.ran (YieldsList-from_slice rest whole) (λ x b q k. search (rules, tests)) in
    run_placed test c.args.i c.args.s.now c.map_or.result c.requires found c.map_or.ensures (λ n k. search (rules, tests))
