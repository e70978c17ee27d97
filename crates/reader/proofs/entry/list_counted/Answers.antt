-- There are no more tokens than the small limits have, and the array has room for the records of as many.
-- Assumes nothing.
use Rattle.std.specs.Prelude.{◌*◌, length}
use Rattle.std.proofs.Common.{ap, ◌∙◌, arith, rules}
use Rattle.text.specs.Widths.{rec_wide}
use Rattle.lexer.specs.Limits.{limits_for}
use Rattle.grammar.specs.Entry.{whole_file}
use Rattle.grammar.specs.Answers.Lines.{listing}
use Rattle.reader.specs.Listed.{records_most}
use Rattle.reader.proofs.Short.{same-records}
use Rattle.reader.proofs.LineLaws.{same_is}
use Rattle.reader.proofs.EntryLaws.{few-lexed, lent_is}
use Rattle.reader.proofs.entry.list_counted.Goals as goal

pub overflow_add-words : goal.overflow_add-words
overflow_add-words c = omega (arith, few-lexed c.args.lexed.now c.requires)

pub overflow_mul-words : goal.overflow_mul-words
overflow_mul-words c = omega (arith, few-lexed c.args.lexed.now c.requires)

pub returns : goal.returns
returns c =
    let l = c.args.lexed.now in
    let h = c.with_words.ensures in
    let tw = length l.words.now in
    let few = few-lexed l c.requires in
    same_is (length c.args.out.now)
    (same-records (limits_for l.limits) l.draft.now l.count tw h.0 (rec_wide * records_most) l.counted (omega (arith, h.1, few)) (omega (arith, few))
    ∙ ap (λ k. listing whole_file (limits_for k) l.draft.now tw (rec_wide * records_most)) c.requires)
    (lent_is (listing whole_file (limits_for l.limits) l.draft.now tw) h.0 h.3.zeros h.3.lent h.3.left (search rules))
