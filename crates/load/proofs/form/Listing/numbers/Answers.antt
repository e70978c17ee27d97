-- The line is there, with its first six fields.
-- Assumes nothing.
use Rattle.std.proofs.Common.{refl, ◌∙◌, arith}
use Rattle.load.specs.Form.{older, longer}
use Rattle.load.specs.Meant.{as_form}
use Rattle.load.proofs.Listing.LineForm.{first-short, six-by, other-digits}
use Rattle.load.proofs.WalkLines.{its-line, line-room, line-numbers}
use Rattle.load.proofs.form.Listing.numbers.Goals as goal

pub overflow_mul-line : goal.overflow_mul-line
overflow_mul-line g c = omega (arith, its-line c.args.self.now c.args.i c.bytes.ensures c.requires)

pub slice_bounds-line-count : goal.slice_bounds-line-count
slice_bounds-line-count g c = omega (arith, its-line c.args.self.now c.args.i c.bytes.ensures c.requires)

pub slice_bounds-line-start : goal.slice_bounds-line-start
slice_bounds-line-start g c = omega (arith, its-line c.args.self.now c.args.i c.bytes.ensures c.requires)

pub values-requires : goal.values-requires
values-requires g c =
    let six = six-by (as_form c.args.self.now.form) (c.args.self.now.digits ∙ c.if-this-eq-LONG_DIGITS.true) in
    (omega arith, (first-short longer, (refl, line-room c.args.self.now c.args.i c.bytes.ensures six c.requires)))

pub values-requires-2 : goal.values-requires-2
values-requires-2 g c =
    let f = as_form c.args.self.now.form in
    let six = six-by f (c.args.self.now.digits ∙ other-digits f c.args.self.now.digits c.if-this-eq-LONG_DIGITS.false) in
    (omega arith, (first-short older, (refl, line-room c.args.self.now c.args.i c.bytes.ensures six c.requires)))

pub returns-then-this-eq-LONG_DIGITS : goal.returns-then-this-eq-LONG_DIGITS
returns-then-this-eq-LONG_DIGITS g c =
    line-numbers c.args.self.now c.args.i c.bytes.ensures (six-by (as_form c.args.self.now.form) (c.args.self.now.digits ∙ c.if-this-eq-LONG_DIGITS.true)) c.values.ensures

pub returns : goal.returns
returns g c =
    let f = as_form c.args.self.now.form in
    let six = six-by f (c.args.self.now.digits ∙ other-digits f c.args.self.now.digits c.if-this-eq-LONG_DIGITS.false) in
    line-numbers c.args.self.now c.args.i c.bytes.ensures six c.values-2.ensures
