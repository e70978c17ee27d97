-- The first chunk that is no line is that of the first bad line.
-- Assumes nothing.
use Rattle.std.specs.Prelude.{length}
use Rattle.std.proofs.Common.{rules, tests, ◌∙◌}
use Rattle.std.specs.List.{position_or_len}
use Rattle.std.proofs.lemmas.Iterator.Search.{position_from_yields_List}
use Rattle.load.proofs.ChunkLaws.{chunks_of, chunks-listed, is_bad, from-place, first-bad}
use Rattle.load.proofs.line.bad_line.Goals as goal

pub returns : goal.returns
returns c =
    let ws = c.args.widths.now in
    let text = c.args.text.now in
    let chunks = chunks_of c.args.step (length text) text in
    let given = chunks-listed c.args.step text c.chunks.result c.requires.step_nonzero c.chunks.ensures.size c.chunks.ensures.rest in
    let found = position_from_yields_List (is_bad ws) _ _ c.position.result c.position.ensures.ran given (λ x b q k. search (rules, tests)) in
    from-place (position_or_len (is_bad ws) chunks) (length chunks) found c.map.ensures.cases (λ x y k. search (rules, tests)) ∙ first-bad ws c.args.step c.requires.step_value text
