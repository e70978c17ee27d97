-- Assumes nothing.
use Rattle.std.proofs.Common.{arith}
use Rattle.text.specs.Part.{part_of}
use Rattle.own.specs.Numbers.{kind_number}
use Rattle.parse.specs.Contract.{PatternKind}
use Rattle.parse.proofs.Rule.Entered as entered
use Rattle.parse.proofs.Rule.Entered.{first-one, closes}
use Rattle.parse.proofs.pattern.Forms as form
use Rattle.parse.proofs.pattern.named.Goals as goal

pub returns : goal.returns
returns c =
    let n = entered.by form.named_rule c.requires.ready c.requires.class_value c.reserve.ensures in
    let k = c.args.st.class in
    let p = part_of c.args.source.now.draft.now c.args.st.start c.args.st.stop in
    let h = c.pattern_name-kind.ensures in
    let d = first-one (kind_number c.pattern_name-kind.result) c.args.tree.now n.opened form.flat-named (form.at_named k n.chosen) (form.named-pos k n.chosen) c.advance-a.ensures (form.named-role p k h k) in
    closes n tt d (omega arith) (form.named-head c.args.source.now c.reserve.result n.ready.stands n.opened.at_is h) (form.named-unturned p k h) PatternKind (form.named-kind p k h) (rw c.plain.ensures at c.close.ensures)
