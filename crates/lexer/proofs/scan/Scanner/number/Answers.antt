-- The first two bytes decide.
-- Assumes nothing.
use Rattle.std.proofs.Common.{sym, ◌∙◌}
use Rattle.lexer.proofs.Bytes.{at-no-zero, at-no-base, at-hex, at-binary}
use Rattle.lexer.proofs.scan.Scanner.number.Goals as goal

pub returns-then-b-ne48 : goal.returns-then-b-ne48
returns-then-b-ne48 c = c.decimal.ensures ∙ at-no-zero _ _ c.args.self.within c.requires c.if-b-ne48.true

pub based-requires : goal.based-requires
based-requires c = at-hex _ _ c.args.self.within c.requires c.if-b-ne48.false (sym c.peek-x.ensures ∙ c.if-x-eq120.true)

pub based-requires-then-x-eq98 : goal.based-requires-then-x-eq98
based-requires-then-x-eq98 c = at-binary _ _ c.args.self.within c.requires c.if-b-ne48.false (sym c.peek-x.ensures ∙ c.if-x-eq98.true)

pub returns : goal.returns
returns c =
    c.decimal-2.ensures
    ∙ at-no-base _ _ c.args.self.within c.requires (λ z. c.if-x-eq120.false (c.peek-x.ensures ∙ z)) (λ z. c.if-x-eq98.false (c.peek-x.ensures ∙ z))
