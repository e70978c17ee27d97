-- Assumes nothing.
use Rattle.std.proofs.Common.{[], ◌∷◌, arith}
use Rattle.lexer.specs.Classes as class
use Rattle.theory.specs.Grammar.{tok, nt}
use Rattle.grammar.specs.Shapes.TablesIndex.{n-function-optional-Pub}
use Rattle.parse.specs.Contract.{read}
use Rattle.parse.specs.Infos.{public}
use Rattle.parse.proofs.Rule.Amid.{starts}
use Rattle.parse.proofs.Rule.Chain.{turns, advances}
use Rattle.parse.proofs.Rule.Commas.{AnyN}
use Rattle.parse.proofs.Rule.Marks.{sign-mark}
use Rattle.parse.proofs.program.Forms as form
use Rattle.parse.proofs.program.public.Goals as goal

pub returns-then-st-ne-PUB : goal.returns-then-st-ne-PUB
returns-then-st-ne-PUB c =
    λ l. let d = starts 0 AnyN (nt n-function-optional-Pub ∷ []) l c.requires.stands in
    read (form.nothing-went class.Pub public tt (turns [] d form.public-optional.flat (form.public-optional.elsewhere c.args.st.class c.if-st-ne-PUB.true)))

pub returns : goal.returns
returns c =
    λ l. let d = starts 0 AnyN (nt n-function-optional-Pub ∷ []) l c.requires.stands in
    let e = turns (tok class.Pub ∷ []) d form.public-optional.flat (form.public-optional.there c.args.st.class c.if-st-ne-PUB.false) in
    read (form.public-went (advances e c.if-st-ne-PUB.false (omega arith) c.advance-a.ensures (sign-mark 0 class.Pub tt)))
