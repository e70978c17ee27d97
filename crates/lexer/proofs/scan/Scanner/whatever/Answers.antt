-- The class of the first byte chooses.
-- Assumes nothing.
use Rattle.std.proofs.Common.{◌∙◌, arith}
use Rattle.lexer.proofs.ByteClasses.{slash-is, digit-class, starts_name, class-gap}
use Rattle.lexer.proofs.Bytes.{at-over}
use Rattle.lexer.proofs.Marks.{at-other, over-rare}
use Rattle.lexer.proofs.scan.Scanner.whatever.Goals as goal

pub slash-requires : goal.slash-requires
slash-requires c = slash-is _ _ c.args.self.classed c.in-5.is

pub number-requires : goal.number-requires
number-requires c = digit-class _ _ c.args.self.classed (omega arith) (omega arith)

pub name-requires : goal.name-requires
name-requires c = starts_name _ _ c.args.self.classed (grind arith) (λ a b. absurd (grind (arith, a, b)))

pub returns-in-28 : goal.returns-in-28
returns-in-28 c = c.refused.ensures ∙ at-other _ _ _ c.args.self.within c.args.self.classed c.in-28.is

pub returns-in_default : goal.returns-in_default
returns-in_default c =
    let m = class-gap _ _ c.args.self.classed (grind arith) in
    c.refused-in_default.ensures ∙ at-over _ _ _ c.args.self.within c.args.self.classed (over-rare _ c.requires (omega arith) (λ z. absurd (omega arith)))
