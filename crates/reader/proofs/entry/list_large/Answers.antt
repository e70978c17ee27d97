-- What `read_file` leaves in the buffers is listed. No byte is used only where the lines do not fit.
-- Assumes nothing.
use Rattle.std.specs.Prelude.{refl, length}
use Rattle.lexer.specs.Limits.{large_limits}
use Rattle.lexer.specs.declared.Limits.TheVariants.{Large}
use Rattle.grammar.specs.Entry.{whole_file}
use Rattle.grammar.proofs.Answers.Laws.{promised}
use Rattle.reader.proofs.BothLimits.{early}
use Rattle.reader.proofs.LineLaws.{same_is}
use Rattle.reader.proofs.EntryLaws.{buffer-written}
use Rattle.reader.proofs.Nothing.{nothing-only}
use Rattle.reader.proofs.entry.list_large.Goals as goal

pub list_read-requires-clause-early : goal.list_read-requires-clause-early
list_read-requires-clause-early c =
    let r = c.read_file-reading in
    early whole_file Large c.args.draft.now (length c.args.tokens.now) (length c.args.tree.now) r.result r.ensures.answer

pub returns : goal.returns
returns c =
    let r = c.read_file-reading in
    let tw = length c.args.tokens.now in
    let e =
    same_is (length c.args.out.now)
    (buffer-written whole_file large_limits c.args.draft.now tw (length c.args.tree.now) r.result r.ensures.answer r.ensures.tree)
    c.list_read.ensures in
    record {
      used = e.0;
      bytes = e.1;
      tokens = r.ensures.tokens;
      tree = r.ensures.tree;
      laws = promised refl r.ensures.tokens r.ensures.tree;
      nothing = nothing-only large_limits c.args.draft.now tw (length c.args.tree.now) (length c.args.out.now) e.0;
    }
