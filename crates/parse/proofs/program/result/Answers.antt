-- Assumes nothing.
use Rattle.std.proofs.Common.{[], ◌∷◌}
use Rattle.lexer.specs.Classes as class
use Rattle.theory.specs.Grammar.{nt}
use Rattle.grammar.specs.Shapes.TablesIndex.{n-function-optional-Arrow}
use Rattle.parse.specs.Contract.{read}
use Rattle.parse.specs.Infos.{typed}
use Rattle.parse.proofs.Rule.Amid.{starts}
use Rattle.parse.proofs.Rule.Chain.{onward, turns, then-node}
use Rattle.parse.proofs.Rule.Commas.{AnyN}
use Rattle.parse.proofs.Rule.Entered.{part-passed}
use Rattle.parse.proofs.program.Forms as form
use Rattle.parse.proofs.program.Steps as step
use Rattle.parse.proofs.program.result.Goals as goal

pub returns-then-st-ne-ARROW : goal.returns-then-st-ne-ARROW
returns-then-st-ne-ARROW c =
    let d = starts 0 AnyN (nt n-function-optional-Arrow ∷ []) c.args.tree.now c.requires.stands in
    read (form.nothing-went class.Arrow typed tt (turns [] d form.arrow-optional.flat (form.arrow-optional.elsewhere c.args.st.class c.if-st-ne-ARROW.true)))

pub ty-inner-requires : goal.ty-inner-requires
ty-inner-requires c = onward c.requires (step.arrow₁ c.args.tree.now c.requires c.if-st-ne-ARROW.false c.advance-a.ensures)

pub returns-in_default : goal.returns-in_default
returns-in_default c = part-passed (step.arrow₁ c.args.tree.now c.requires c.if-st-ne-ARROW.false c.advance-a.ensures) c.in_default.is c.ty-inner.ensures

pub returns : goal.returns
returns c =
    let d = then-node (step.arrow₁ c.args.tree.now c.requires c.if-st-ne-ARROW.false c.advance-a.ensures) c.ty-inner.ensures c.in-Next.is in
    read (form.arrow-went d.its_kind d.amid)
