-- Each word passes the test of its number, and a word that does not pass it is not 0.
-- Assumes nothing.
use Rattle.std.proofs.Common.{rules, ◌≡◌, true}
use Rattle.std.proofs.lemmas.Bool.Decides.{when_true}
use Rattle.std.proofs.lemmas.Iterator.{YieldsList-from_slice, cases_from_all}
use Rattle.std.proofs.lemmas.Iterator.Search.{true_from_All}
use Rattle.std.proofs.lemmas.List.Elements.{All-from_all_within}
use borrow.Author.Tests.{tests}
use Rattle.cases.proofs.is_zero.Goals as goal

pub returns : goal.returns
returns g c =
    let zero = c.from-zero.result in
    let Zero : g.row.T.Denot → Type 0 = λ word. g.T.PartialEq.eq word zero ≡ true in
    let Other : g.row.T.Denot → Type 0 = λ word. g.T.PartialEq.eq word zero ≡ true → ⊥ in
    let told = cases_from_all c.all.new.self _ _ Zero Other c.all.ensures.ran (YieldsList-from_slice c.args.words.now cc) (λ x q k. search (rules, tests)) (λ x q k. search (rules, tests)) in
    (zero, c.from-zero.ensures, (λ e. All-from_all_within Zero _ (when_true _ _ e told), true_from_All Zero Other _ _ (λ x z o. o z) told))
