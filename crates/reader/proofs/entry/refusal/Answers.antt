-- What `lines::list` makes of the words of a refusal is its line.
-- Assumes nothing.
use Rattle.std.specs.Prelude.{length}
use Rattle.std.proofs.Common.{ap, ◌∙◌}
use Rattle.text.specs.Refusals.{refusal_number}
use Rattle.lines.specs.Written.{lines_in}
use Rattle.reader.proofs.LineLaws.{same_is, refusal_words, refusal_is}
use Rattle.reader.proofs.entry.refusal.Goals as goal

pub returns : goal.returns
returns c =
    let r = c.args.refused in
    same_is (length c.args.out.now) (ap (λ n. lines_in (refusal_words n r.place) 1) c.from.ensures ∙ refusal_is (refusal_number r.refusal) r.place) (c.list.ensures.used, c.list.ensures.bytes)
