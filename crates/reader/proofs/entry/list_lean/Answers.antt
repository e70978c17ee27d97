-- What `read_lean_file` leaves in the buffers is listed. No byte is used only where the lines do not fit.
-- Assumes nothing.
use Rattle.std.specs.Prelude.{refl, length}
use Rattle.lexer.specs.Limits.{large_limits}
use Rattle.grammar.specs.Entry.{whole_file}
use Rattle.grammar.proofs.Answers.LeanLaws.{listed-as-other}
use Rattle.reader.proofs.LeanLaws.{promised, lean-early, lean-listed, lean-nothing}
use Rattle.reader.proofs.entry.list_lean.Goals as goal

pub list_read-requires-clause-early : goal.list_read-requires-clause-early
list_read-requires-clause-early c =
    let r = c.read_lean_file-reading in
    lean-early c.args.draft.now (length c.args.starts.now) (length c.args.tree.now) r.result r.ensures.answer

pub returns : goal.returns
returns c =
    let r = c.read_lean_file-reading in
    let sw = length c.args.starts.now in
    let rw = length c.args.tree.now in
    let e = lean-listed c.args.draft.now sw rw r.result r.ensures.answer (length c.args.out.now) r.ensures.tree c.list_read.ensures in
    record {
      used = e.0;
      bytes = e.1;
      starts = r.ensures.starts;
      tree = r.ensures.tree;
      laws = promised refl r.ensures.starts r.ensures.tree;
      as_other = listed-as-other whole_file large_limits c.args.draft.now sw rw (length c.args.out.now) e.0 e.1;
      nothing = lean-nothing c.args.draft.now sw rw (length c.args.out.now) e.0;
    }
