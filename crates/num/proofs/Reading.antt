-- What the loop over a decimal run cites of the number's definition.
-- Assumes nothing.
use Rattle.std.specs.Prelude.{None, Some}
use mathlib.Core.Bool.{Bool, true, false, cond}
use mathlib.Core.List.{List, [], ◌∷◌}
use mathlib.Core.Path.{◌≡◌, refl, ◌∙◌, ap}
use Prim.Native.Nat.{ℕ, ◌+◌, ◌-◌, ◌*◌, ◌≤◌, ◌<◌}
use native.Mathlib.Omega.{arith}
use borrow.Author.Tests.{le-leb, lt-leb, leb-true, leb-false}
use lib.Dec.{leb}
use lib.ListN.{length, get_or, drop}
use Rattle.num.specs.Digits.{plain}
use Rattle.num.specs.Value.{decimal_from, decimal_of, largest, fitted, number_of}
use Rattle.num.proofs.Runs.{passed, kept, over}

-- the test of `fitted`, both ways
pub fits : (n : ℕ) → n ≤ largest → Some n ≡ fitted n
unfolding fitted
fits n h = rw (le-leb _ _ h) refl

pub too_large : (n : ℕ) → largest < n → None ≡ fitted n
unfolding fitted
too_large n h = rw (lt-leb _ _ h) refl

module _ (n : ℕ) where
  pub fitted-number : (m : ℕ) → fitted n ≡ Some m → (m ≡ n) × (n ≤ largest)
  unfolding fitted
  fitted-number m e = go (leb n largest) refl e
    where
      go : (b : Bool) → leb n largest ≡ b → cond b (Some n) None ≡ Some m → (m ≡ n) × (n ≤ largest)
      go true q e = (cc, leb-true _ _ q)
      go false q e = let z : ◌≡◌ {A = ℕ} 0 1 = cc in absurd (omega arith)

  pub fitted-too-large : fitted n ≡ None → largest < n
  unfolding fitted
  fitted-too-large e = go (leb n largest) refl e
    where
      go : (b : Bool) → leb n largest ≡ b → cond b (Some n) None ≡ None → largest < n
      go true q e = let z : ◌≡◌ {A = ℕ} 0 1 = cc in absurd (omega arith)
      go false q e = leb-false _ _ q

-- more digits never make less
grows : (v : ℕ) (l : List ℕ) → v ≤ decimal_from v l
unfolding decimal_from
grows v [] = omega arith
grows v (b ∷ r) = omega (arith, grows (v * 10 + (b - 48)) r)

-- The loop has read the run up to i as v.
pub record Reading (run : List ℕ) (v i : ℕ) : Type 0 where
  pub within : i ≤ length run
  pub held : v ≤ largest
  pub whole : decimal_from v (plain (drop i run)) ≡ decimal_from 0 (plain run)

module _ (run : List ℕ) where
  pub starts : Reading run 0 0
  starts = record { within = omega arith; held = omega arith; whole = refl }

  module _ (v i : ℕ) (a : Reading run v i) where
    pub ends : length run ≤ i → Some v ≡ number_of run
    unfolding number_of decimal_of decimal_from
    ends h =
        let e : v ≡ decimal_from 0 (plain run) = rw (over run i h) at a.whole in
        fits v a.held ∙ ap fitted e

    module _ (h : i < length run) where
      pub passes : get_or run i 0 ≡ 95 → Reading run v (i + 1)
      passes e = record { within = omega arith; held = a.held; whole = rw (passed run i h e) at a.whole }

      module _ (e : get_or run i 0 ≡ 95 → ⊥) (d : ℕ) (q : d ≡ get_or run i 0 - 48) where
        step : decimal_from (v * 10 + d) (plain (drop (i + 1) run)) ≡ decimal_from 0 (plain run)
        unfolding decimal_from
        step = rw q (rw (kept run i h e) at a.whole)

        pub pushes : (r : ℕ) → fitted (v * 10 + d) ≡ Some r → Reading run r (i + 1)
        pushes r f =
            let g = fitted-number (v * 10 + d) r f in
            record { within = omega arith; held = omega arith; whole = ap (λ x. decimal_from x (plain (drop (i + 1) run))) g.0 ∙ step }

        pub stops : fitted (v * 10 + d) ≡ None → None ≡ number_of run
        unfolding number_of decimal_of
        stops f =
            let g : largest < v * 10 + d = fitted-too-large (v * 10 + d) f in
            too_large (decimal_from 0 (plain run)) (omega (arith, grows (v * 10 + d) (plain (drop (i + 1) run)), step))
