-- "Of 9 to 14 the earliest place", and 19 "among" them: the refusal of a shape tree is one of its refusals, and no other of them has an earlier place.
-- Assumes nothing.
use Rattle.std.specs.Prelude.{Bool, true, false, cond, List, [], ◌∷◌, ◌↔◌, ◌≡◌, refl, ◌≤◌, ltb}
use Rattle.std.proofs.Math.Option.{Option, none, some}
use mathlib.Core.List.{cons-ne-nil}
use mathlib.Core.Option.{none-ne-some}
use Rattle.std.proofs.Common.{sym, subst, arith, ltb-true, ltb-false}
use Rattle.text.specs.Lists.{here, there}
use Rattle.own.specs.Lists.{All, nil, ◌&◌}
use Rattle.grammar.specs.Records.Faults.{Fault, earlier, earliest, EarliestFault}

no-later : (f g : Fault) (l : List Fault) → f.place ≤ g.place → All (λ h. g.place ≤ h.place) l → All (λ h. f.place ≤ h.place) l
no-later f g [] h nil = nil
no-later f g (x ∷ l) h (p & q) = let z : f.place ≤ x.place = omega arith in z & no-later f g l h q

-- Of a list with a refusal at its head, by the earliest of the rest.
earlier-first : (f : Fault) (l : List Fault) (o : Option Fault) → earliest l ≡ o → ((g : Fault) → o ≡ some g → EarliestFault g l) → (o ≡ none → l ≡ []) → (h : Fault) → earlier f o ≡ some h → EarliestFault h (f ∷ l)
unfolding earlier
earlier-first f l none e r z h q =
    let k : f ≡ h = cc in
    let self : f.place ≤ f.place = omega arith in
    subst (λ (x : Fault). EarliestFault x (f ∷ l)) k (subst (λ (m : List Fault). EarliestFault f (f ∷ m)) (sym (z refl)) (record { one_of = here refl; first = self & nil }))
earlier-first f l (some g) e r z h q = go (ltb g.place f.place) refl q
  where
    go : (b : Bool) → ltb g.place f.place ≡ b → cond b (some g) (some f) ≡ some h → EarliestFault h (f ∷ l)
    go true c y =
        let k : g ≡ h = cc in
        let s = r g refl in
        let m = ltb-true g.place f.place c in
        let before : g.place ≤ f.place = omega arith in
        subst (λ (x : Fault). EarliestFault x (f ∷ l)) k (record { one_of = there s.one_of; first = before & s.first })
    go false c y =
        let k : f ≡ h = cc in
        let s = r g refl in
        let m = ltb-false g.place f.place c in
        let self : f.place ≤ f.place = omega arith in
        subst (λ (x : Fault). EarliestFault x (f ∷ l)) k (record { one_of = here refl; first = self & no-later f g l (omega arith) s.first })

some-earlier : (f : Fault) (o : Option Fault) → earlier f o ≡ none → ⊥
unfolding earlier
some-earlier f none e = none-ne-some f (sym e)
some-earlier f (some g) e = go (ltb g.place f.place) e
  where
    go : (b : Bool) → cond b (some g) (some f) ≡ none → ⊥
    go true q = none-ne-some g (sym q)
    go false q = none-ne-some f (sym q)

-- There is no refusal exactly where the list is empty.
pub none-exactly : (l : List Fault) → (earliest l ≡ none) ↔ (l ≡ [])
unfolding earliest
none-exactly [] = (λ e. refl, λ e. refl)
none-exactly (f ∷ l) = (λ e. absurd (some-earlier f (earliest l) e), λ e. absurd (cons-ne-nil _ _ e))

-- The refusal answered is the earliest.
pub earliest-first : (l : List Fault) (f : Fault) → earliest l ≡ some f → EarliestFault f l
unfolding earliest
earliest-first [] f e = absurd (none-ne-some f e)
earliest-first (g ∷ l) f e = earlier-first g l (earliest l) refl (earliest-first l) (λ q. (none-exactly l).0 q) f e
