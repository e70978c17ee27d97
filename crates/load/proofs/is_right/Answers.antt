-- Both tests of the lines, of which the older form needs one.
-- Assumes nothing.
use Rattle.std.proofs.Common.{refl, ap}
use Rattle.load.specs.Load.{ways_right}
use Rattle.load.specs.Meant.{as_form}
use Rattle.load.proofs.LoadLaws.{right-as, right-given}
use Rattle.load.proofs.is_right.Goals as goal

pub returns-in-Older : goal.returns-in-Older
unfolding ways_right
returns-in-Older g c = right-as _ _ c.is_whole.ensures c.if-not-is_whole.false (ap as_form c.in-Older.is) refl

pub returns-in_default : goal.returns-in_default
returns-in_default g c =
    let l = c.args.listing.now in
    right-as _ _ c.is_whole.ensures c.if-not-is_whole.false refl (right-given l.form l.text.now c.in_default.not-Older l.digits c.right.ensures)
