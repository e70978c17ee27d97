-- Each pair is tested alike, by its two bytes; the pairs are equal exactly when the lists are.
-- Assumes nothing.
use Rattle.std.proofs.Common.{Bool, true, false, List, ℕ, ◌≡◌, refl, sym, ◌∙◌, rules}
use Rattle.std.proofs.lemmas.Iterator.{YieldsList-from_slice, YieldsList-from_zip, same_from_all}
use Rattle.std.specs.Bool.{Decides}
use borrow.Author.Tests.{tests}
use Rattle.text.specs.Same.{same}
use Rattle.text.proofs.SameLaws.{same_true, same_self}
use Rattle.text.proofs.Same.{differ}
use Rattle.words.proofs.lookup.spells.Goals as goal

decided : (b : Bool) (p w : List ℕ) → Decides b (p ≡ w) → b ≡ same p w
decided b p w d = go b (same p w) refl d
  where
    go : (b t : Bool) → same p w ≡ t → Decides b (p ≡ w) → b ≡ t
    go true true e d = refl
    go true false e d = differ (sym e ∙ rw (d.0 refl) (same_self w))
    go false true e d = d.1 (same_true p w e)
    go false false e d = refl

pub returns : goal.returns
returns c =
    decided _ _ _
    (same_from_all c.all.new.self _ _ _ _ c.all.ensures.ran (YieldsList-from_zip (YieldsList-from_slice c.args.p.now cc) (YieldsList-from_slice c.args.w.now cc)) c.requires
    (λ x q k. (refl, search (rules, tests))) (λ x q k. search (rules, tests)))
