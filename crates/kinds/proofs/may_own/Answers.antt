-- The sets of a kind and a class meet where the kind may own the class; a number that names no kind owns nothing. The check finds this alone, but where the code
-- tests otherwise it names this fact only for the answer.
-- Assumes nothing.
use Rattle.std.proofs.Common.{arith}
use borrow.Author.Tests.{tests}
use Rattle.own.specs.Numbers.{kind_number}
use Rattle.kinds.specs.Decide.{may_own}
use Rattle.kinds.proofs.Tables.{owns_at}
use Rattle.kinds.proofs.Named.{decided, owns_none}
use Rattle.kinds.proofs.may_own.Goals as goal

pub returns : goal.returns
returns c =
    decided (λ n. may_own n c.args.class) _ c.try_from.ensures c.is_ok_and.ensures (λ k m. grind (arith, tests, owns_at (kind_number k) c.args.class)) (owns_none _ _)
