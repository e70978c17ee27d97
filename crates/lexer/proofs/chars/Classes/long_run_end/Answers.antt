-- Each byte that is of the run moves its start on; the first that is not ends it.
-- Assumes nothing.
use Rattle.std.proofs.Common.{sym, ◌∙◌, arith}
use Rattle.lexer.proofs.Runs.{run-ends, run-behind-one, run-behind-two, run-behind-three, run-behind-four}
use Rattle.lexer.proofs.chars.Classes.long_run_end.Goals as goal

pub returns-then-not-within : goal.returns-then-not-within
returns-then-not-within c = run-ends _ _ _ _ c.loop-at.invariant.1 (omega (arith, c.loop-at-test.true)) (sym c.within.ensures ∙ c.if-not-within.true)

pub returns-then-not-within-2 : goal.returns-then-not-within-2
returns-then-not-within-2 c =
    let one = sym c.within.ensures ∙ c.if-not-within.false in
    let v = run-behind-one _ _ _ _ c.loop-at.invariant.1 (omega (arith, c.loop-at-test.true)) one in
    run-ends _ _ _ _ v (omega (arith, c.loop-at-test.true)) (sym c.within-in-loop-at.ensures ∙ c.if-not-within-2.true)

pub returns-then-not-within-3 : goal.returns-then-not-within-3
returns-then-not-within-3 c =
    let one = sym c.within.ensures ∙ c.if-not-within.false in
    let two = sym c.within-in-loop-at.ensures ∙ c.if-not-within-2.false in
    let v = run-behind-two _ _ _ _ c.loop-at.invariant.1 (omega (arith, c.loop-at-test.true)) one two in
    run-ends _ _ _ _ v (omega (arith, c.loop-at-test.true)) (sym c.within-in-loop-at-2.ensures ∙ c.if-not-within-3.true)

pub returns-then-not-within-4 : goal.returns-then-not-within-4
returns-then-not-within-4 c =
    let one = sym c.within.ensures ∙ c.if-not-within.false in
    let two = sym c.within-in-loop-at.ensures ∙ c.if-not-within-2.false in
    let three = sym c.within-in-loop-at-2.ensures ∙ c.if-not-within-3.false in
    let v = run-behind-three _ _ _ _ c.loop-at.invariant.1 (omega (arith, c.loop-at-test.true)) one two three in
    run-ends _ _ _ _ v (omega (arith, c.loop-at-test.true)) (sym c.within-in-loop-at-3.ensures ∙ c.if-not-within-4.true)

pub loop-at-preserved : goal.loop-at-preserved
loop-at-preserved c =
    let one = sym c.within.ensures ∙ c.if-not-within.false in
    let two = sym c.within-in-loop-at.ensures ∙ c.if-not-within-2.false in
    let three = sym c.within-in-loop-at-2.ensures ∙ c.if-not-within-3.false in
    let four = sym c.within-in-loop-at-3.ensures ∙ c.if-not-within-4.false in
    (omega (arith, c.loop-at-test.true), run-behind-four _ _ _ _ c.loop-at.invariant.1 (omega (arith, c.loop-at-test.true)) one two three four)
