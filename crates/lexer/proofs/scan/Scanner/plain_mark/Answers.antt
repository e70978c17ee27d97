-- The class is none with which another mark begins.
-- Assumes nothing.
use Rattle.std.proofs.Common.{refl, ◌∙◌, arith}
use Rattle.lexer.proofs.ByteClasses.{class-gap}
use Rattle.lexer.proofs.Marks.{at_alone, at-colon, at-eq}
use Rattle.lexer.proofs.scan.Scanner.plain_mark.Goals as goal

pub returns-in-15-clause-found : goal.returns-in-15-clause-found
returns-in-15-clause-found c =
    c.one_or_two.ensures ∙ at-colon _ _ _ _ c.args.self.within c.args.self.classed refl (omega arith) (omega arith) c.in-15.is

pub returns-in-18-clause-found : goal.returns-in-18-clause-found
returns-in-18-clause-found c =
    c.one_or_two-in-18.ensures ∙ at-eq _ _ _ _ c.args.self.within c.args.self.classed refl (omega arith) (omega arith) c.in-18.is

pub returns-in_default-clause-found : goal.returns-in_default-clause-found
returns-in_default-clause-found c =
    let m = class-gap _ _ c.args.self.classed (grind (arith, c.requires.0)) in
    rw c.from.ensures
    (at_alone _ _ _ _ c.args.self.within c.args.self.classed refl m (omega (arith, c.requires.1)) (λ z. absurd (grind (arith, z))) (λ z. absurd (grind (arith, z))) (λ z. absurd (grind (arith, z))) (λ z. absurd (grind (arith, z))))
