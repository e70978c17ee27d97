-- The rows are the first of those that the words make, and say the tokens of those words.
-- Assumes nothing.
use Rattle.std.proofs.Common.{ap, map, take, ◌∙◌, arith}
use Rattle.std.proofs.lemmas.List.{append-nil}
use Rattle.text.specs.Widths.{tok_wide}
use Rattle.lines.proofs.Rows.{rows-taken}
use Rattle.parse.specs.Contract.{row_token}
use Rattle.parse.proofs.entry.Laws.{rows-tokens}
use Rattle.parse.proofs.entry.source.Goals as goal

pub returns-clause-tokens : goal.returns-clause-tokens
returns-clause-tokens c =
    append-nil _ ∙ ap (map row_token) (ap (take c.args.count) c.as_chunks.ensures.front ∙ rows-taken tok_wide c.args.count _ c.args.tokens.now (omega (arith, c.requires)))
    ∙ rows-tokens c.args.count c.args.tokens.now
