-- Each pair passes the test of its two numbers.
-- Assumes nothing.
use Rattle.std.proofs.Common.{arith, ◌≤◌, ◌<◌}
use Rattle.std.proofs.lemmas.Bool.Decides.{when_true}
use Rattle.std.proofs.lemmas.Iterator.{YieldsList-from_slice, YieldsList-from_zip, cases_from_all}
use Rattle.std.proofs.lemmas.List.Elements.{All-from_all_within}
use borrow.Author.Tests.{tests}
use Rattle.cases.proofs.is_within.Goals as goal

pub returns : goal.returns
returns g c e =
    All-from_all_within (λ p. p.0 ≤ p.1) _
    (when_true _ _ e
    (cases_from_all c.all.new.self _ _ (λ p. p.0 ≤ p.1) (λ p. p.1 < p.0) c.all.ensures.ran
    (YieldsList-from_zip (YieldsList-from_slice c.args.numbers.now cc) (YieldsList-from_slice c.args.limits.now cc)) (λ x q k. grind (arith, tests)) (λ x q k. grind (arith, tests))))
