-- Kinds that are neither between the brackets' nor that of `match` are not counted.
-- Assumes nothing.
use Rattle.std.proofs.Common.{arith}
use Rattle.lexer.proofs.Nesting.{uncounted}
use Rattle.lexer.proofs.depth.Nest.after.Goals as goal

pub returns-then-kind-gt-RANGLE : goal.returns-then-kind-gt-RANGLE
returns-then-kind-gt-RANGLE c = c.ended.ensures _ _ (uncounted c.args.kind (λ z. absurd (omega arith)) (λ b h l e. absurd (omega arith)))

pub returns : goal.returns
returns c = c.ended-2.ensures _ _ (uncounted c.args.kind c.if-kind-eq-MATCH.false (λ b h l e. absurd (omega arith)))
