-- Assumes nothing.
use Rattle.std.proofs.Common.{arith}
use Rattle.own.specs.Numbers.{kind_number}
use Rattle.parse.specs.Contract.{text, tok_at, TypeKind}
use Rattle.parse.proofs.Rule.Entered as entered
use Rattle.parse.proofs.Rule.Entered.{first-one, closes}
use Rattle.parse.proofs.types.Forms as form
use Rattle.parse.proofs.types.named.Goals as goal

pub returns : goal.returns
returns c =
    let n = entered.by form.named_rule c.requires.ready c.requires.class_value c.reserve.ensures in
    let k = c.args.st.class in
    let h = c.type_name-h.ensures in
    let d = first-one (kind_number c.type_name-h.result.kind) c.args.tree.now n.opened form.flat-named (form.at_named k n.chosen) (form.named-pos k n.chosen) c.advance-a.ensures (form.named-role k h k) in
    closes n tt d (omega arith) (form.named-head (text c.args.source.now) (tok_at (text c.args.source.now) c.reserve.result.at) k h) (form.named-unturned k h) TypeKind (form.named-kind k h) c.close.ensures
