-- Behind its first byte, whose class says that it is of the run, a name ends where the run does.
-- Assumes nothing.
use Rattle.std.specs.Prelude.{◌+◌, ◌*◌, ◌^◌}
use Rattle.std.proofs.Common.{sym, ap, ◌∙◌, arith}
use Rattle.lexer.proofs.ByteClasses.{class-in, starts_name}
use Rattle.lexer.proofs.Filling.{leads-to}
use Rattle.lexer.proofs.FoundSteps.{none-found, short-found}
use Rattle.lexer.proofs.Names.{named}
use Rattle.lexer.proofs.Runs.{run_in}
use Rattle.lexer.proofs.Steps.{step_in}
use Rattle.lexer.proofs.found.name.Goals as goal

pub name_to-requires : goal.name_to-requires
name_to-requires c =
    let starts = starts_name _ _ c.requires.here.1 c.requires.named.0 (λ a b. c.requires.named.1 (a, b)) in
    let first = class-in _ _ _ _ c.requires.here.1 (omega arith) c.requires.named.0 in
    named _ _ _ c.requires.here.0 starts (c.long_run_end-end.ensures ∙ run_in _ _ _ c.requires.here.0 first)

pub returns-in_default-step : goal.returns-in_default-step
returns-in_default-step c = none-found _ _ _ (c.in-Some.ensures ∙ sym (step_in _ _ c.requires.here.0)) c.in_default-step.not-Token

pub slice_bounds-text_class-end : goal.slice_bounds-text_class-end
slice_bounds-text_class-end c = (leads-to _ _ _ (sym (c.in-Some.ensures ∙ sym (step_in _ _ c.requires.here.0)) ∙ c.in-Token.is)).1

pub returns : goal.returns
returns c =
    let q = c.in-Some.ensures ∙ sym (step_in _ _ c.requires.here.0) in
    let v = leads-to _ _ _ (sym q ∙ c.in-Token.is) in
    ap (λ n. n * 2 ^ 32 + c.in-Token.end) c.from.ensures ∙ short-found _ _ q c.in-Token.is (omega (arith, c.if-end-ge-WORD_VALUES.false)) (omega (arith, v.0)) v.1 c.text_class.ensures
