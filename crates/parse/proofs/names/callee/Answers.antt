-- By the two tests: a record is written, or nothing is.
-- Assumes nothing.
use Rattle.std.proofs.Common.{sym, refl, ◌∙◌}
use Rattle.parse.specs.Contract.{named, marked}
use Rattle.parse.proofs.names.Tests.{jet-called, name-called, none-called}
use Rattle.parse.proofs.names.callee.Goals as goal
use Rattle.parse.proofs.names.callee.Goals.{then-st-eq-JET-via-then-st-eq-JET, then-st-eq-JET-via-else-st-eq-JET+then-names-eq-FUNCTION_NAME}

pub returns-then-st-eq-JET : goal.returns-then-st-eq-JET
returns-then-st-eq-JET c =
    let d = c.name.ensures in
    elim c.then-st-eq-JET.branch [
      | then-st-eq-JET-via-then-st-eq-JET w ↦ named (jet-called _ w.if-st-eq-JET.true) d.put d.value
      | then-st-eq-JET-via-else-st-eq-JET+then-names-eq-FUNCTION_NAME w ↦ named (name-called _ (sym w.names.ensures ∙ w.if-names-eq-FUNCTION_NAME.true)) d.put d.value
    ]

pub returns : goal.returns
returns c = marked (none-called _ c.if-st-eq-JET.false (λ e. c.if-names-eq-FUNCTION_NAME.false (c.names.ensures ∙ e))) refl refl
