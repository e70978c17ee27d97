-- The loop keeps that the first records are those of as many lines.
-- Assumes nothing.
use Rattle.std.proofs.Common.{◌*◌, drop, ◌∙◌, arith}
use Rattle.lines.specs.Form.{wide}
use Rattle.lines.proofs.Part.{part-written}
use Rattle.load.specs.Checks.Listed.{fields}
use Rattle.load.specs.Meant.{as_form}
use Rattle.load.proofs.Listing.LineForm.{its-form}
use Rattle.load.proofs.Listing.RecordLaws.{six-long}
use Rattle.load.proofs.WriteLaws.{record_fits, writing-start, writing-more}
use Rattle.load.proofs.form.Listing.write.Goals as goal

pub loop-i-init : goal.loop-i-init
loop-i-init g c = writing-start _ _ _ _

pub loop-i-preserved : goal.loop-i-preserved
loop-i-preserved g c =
    let l = c.args.self.now in
    let ws = fields l in
    let its = its-form (as_form l.form) in
    writing-more c.loop-i.invariant its (omega arith) c.requires.n_in_words
    (part-written _ _ _ (c.copy_from_slice.ensures.after ∙ c.numbers.ensures) (omega (arith, six-long ws (drop (wide ws * c.loop-i.i) c.args.self.now.text.now) its.full)) (omega (arith, c.loop-i.invariant.long, record_fits c.loop-i.invariant (omega arith) c.requires.n_in_words)))
