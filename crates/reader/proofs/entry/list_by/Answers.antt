-- What was read is the draft's listing; a word holds the place of a refusal, and four digits the places of a small draft.
-- Assumes nothing.
use Rattle.std.specs.Prelude.{length}
use Rattle.lexer.specs.Limits.{limits_for}
use Rattle.grammar.specs.Entry.{whole_file}
use Rattle.reader.proofs.BothLimits.{early}
use Rattle.reader.proofs.LineLaws.{same_is}
use Rattle.reader.proofs.EntryLaws.{written-is, short-is}
use Rattle.reader.proofs.entry.list_by.Goals as goal

pub list_read-requires-clause-early : goal.list_read-requires-clause-early
list_read-requires-clause-early c =
    let l = c.args.lexed.now in
    early whole_file l.limits l.draft.now (length l.words.now) (length c.args.tree.now) c.parsed-reading.result c.parsed-reading.ensures.answer

pub list_read-requires-clause-short : goal.list_read-requires-clause-short
list_read-requires-clause-short c =
    let l = c.args.lexed.now in
    let r = c.parsed-reading in
    short-is whole_file l.limits l.draft.now c.args.tree.now (length l.words.now) r.result r.ensures.answer r.ensures.tree

pub returns : goal.returns
returns c =
    let l = c.args.lexed.now in
    let r = c.parsed-reading in
    same_is (length c.args.out.now) (written-is whole_file (limits_for l.limits) l.draft.now c.args.tree.now (length l.words.now) r.result r.ensures.answer r.ensures.tree) c.list_read.ensures
