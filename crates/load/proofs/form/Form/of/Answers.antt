-- The form is told by the tests of the first line, said by a law, so that where the code answers with another form the check names this fact.
-- Assumes nothing.
use Rattle.std.proofs.Common.{refl}
use Rattle.load.proofs.FormLaws.{form-told}
use Rattle.load.proofs.form.Form.of.Goals as goal

pub returns-then-begins : goal.returns-then-begins
returns-then-begins c = form-told _ c.begins.ensures c.if-begins.true refl refl

pub returns-then-begins-2 : goal.returns-then-begins-2
returns-then-begins-2 c = form-told _ c.begins.ensures c.if-begins.false c.begins-2.ensures c.if-begins-2.true

pub returns : goal.returns
returns c = form-told _ c.begins.ensures c.if-begins.false c.begins-2.ensures c.if-begins-2.false
