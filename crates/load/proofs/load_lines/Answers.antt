-- `load_lines` meets its contract.
-- Assumes nothing.
use Rattle.std.proofs.Common.{◌∙◌, arith}
use Rattle.load.proofs.LoadLaws.{loaded-fits, lines-held, as-formed, words-handed}
use Rattle.load.proofs.load_lines.Goals as goal

pub write-requires : goal.write-requires
write-requires g c =
    let n = c.unwrap_or-n.ensures in
    let a = c.answer-loaded.ensures in
    (omega arith, (omega (arith, lines-held _ _ _ _ c.requires a, n), omega (arith, loaded-fits _ _ _ c.requires a, n)))

pub overflow_mul-n : goal.overflow_mul-n
overflow_mul-n g c = omega (arith, loaded-fits _ _ _ c.requires c.answer-loaded.ensures, c.unwrap_or-n.ensures)

pub returns-clause-answer : goal.returns-clause-answer
returns-clause-answer g c = as-formed _ _ c.requires c.answer-loaded.ensures

pub returns-clause-words : goal.returns-clause-words
returns-clause-words g c =
    words-handed _ c.args.tree.now _ _ c.requires c.write.auto.tree (c.way_up.auto.tree ∙ c.write.auto.tree) _ c.answer-loaded.ensures c.unwrap_or-n.ensures
    c.write.ensures c.way_up.ensures c.clear_from.ensures
