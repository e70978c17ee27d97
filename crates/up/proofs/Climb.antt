-- Going from parent to parent passes by no record that reaches over i.
-- Assumes nothing.
use Rattle.std.specs.Prelude.{Bool, true, false, ◌≡◌, refl, ℕ, zero, suc, ◌+◌, ◌-◌, ◌<◌, ◌≤◌, ltb}
use Rattle.std.proofs.Common.{sym, ap, ◌∙◌, subst, arith, ltb-true, ltb-false}
use Rattle.std.proofs.Math.Decide.{dec_lt}
use Rattle.up.specs.Ways.{back, way_up}
use Rattle.up.proofs.Laws.{found, passed, back-within}

module _ (s : ℕ → ℕ) where
  -- What reaches over i reaches over each p between: no parent of p, none of i;
  pub skips-all : (i p n : ℕ) → n ≤ p → p ≤ i → back s p n ≡ 0 → back s i n ≡ 0
  skips-all i p zero h k e = refl
  skips-all i p (suc m) h k e = go (ltb p (m + s m)) refl (skips-all i p m (omega arith) k)
    where
      go : (b : Bool) → ltb p (m + s m) ≡ b → (back s p m ≡ 0 → back s i m ≡ 0) → back s i (suc m) ≡ 0
      go true q f = absurd (omega (arith, sym (found s p m (ltb-true p (m + s m) q)) ∙ e))
      go false q f = let r : m + s m ≤ p = ltb-false p (m + s m) q in passed s i m (omega (arith, r)) ∙ f (sym (passed s p m r) ∙ e)

  -- and a parent of p is the next that can be one of i.
  pub skips-to : (i p n : ℕ) → n ≤ p → p ≤ i → (back s p n ≡ 0 → ⊥) → back s i n ≡ back s i (suc (p - back s p n))
  skips-to i p zero h k e = absurd (e refl)
  skips-to i p (suc m) h k e = go (ltb p (m + s m)) refl (skips-to i p m (omega arith) k)
    where
      go : (b : Bool) → ltb p (m + s m) ≡ b → ((back s p m ≡ 0 → ⊥) → back s i m ≡ back s i (suc (p - back s p m)))
          → back s i (suc m) ≡ back s i (suc (p - back s p (suc m)))
      go true q f =
          let g : m ≡ p - (p - m) = omega arith in
          ap (λ (j : ℕ). back s i (suc j)) g ∙ ap (λ (u : ℕ). back s i (suc (p - u))) (sym (found s p m (ltb-true p (m + s m) q)))
      go false q f =
          let r : m + s m ≤ p = ltb-false p (m + s m) q in
          let g : back s p (suc m) ≡ back s p m = passed s p m r in
          passed s i m (omega (arith, r)) ∙ f (λ z. e (g ∙ z)) ∙ ap (λ (u : ℕ). back s i (suc (p - u))) (sym g)

-- On the way from record to record: p is the last before i that may reach over it.
pub record Climbs (s : ℕ → ℕ) (i p : ℕ) : Type 0 where
  pub before : p < i
  pub same : back s i (suc p) ≡ way_up s i

module _ {s : ℕ → ℕ} {i p : ℕ} (c : Climbs s i p) where
  pub arrives : i - p < s p → i - p ≡ way_up s i
  arrives h = let l = c.before in sym (found s i p (omega (arith, h, l))) ∙ c.same

  module _ {u : ℕ} (h : s p ≤ i - p) (e : u ≡ way_up s p) where
    next : back s i p ≡ way_up s i
    next = let l = c.before in sym (passed s i p (omega (arith, h, l))) ∙ c.same

    pub tops : u ≡ 0 → 0 ≡ way_up s i
    tops z = let l = c.before in sym (skips-all s i p p (omega arith) (omega (arith, l)) (sym e ∙ z)) ∙ next

    pub less : u ≤ p
    less = omega (arith, back-within s p p, e)

    pub climbs : (u ≡ 0 → ⊥) → Climbs s i (p - u)
    climbs n =
        let l = c.before in
        record {
          before = omega (arith, l);
          same = ap (λ (v : ℕ). back s i (suc (p - v))) e ∙ sym (skips-to s i p p (omega arith) (omega (arith, l)) (λ z. n (e ∙ z))) ∙ next;
        }

pub starts : (s : ℕ → ℕ) (i : ℕ) → (i ≡ 0 → ⊥) → Climbs s i (i - 1)
starts s zero n = absurd (n refl)
starts s (suc i) n = record { before = omega arith; same = ap (λ (k : ℕ). back s (suc i) (suc k)) (omega arith) }

-- Where the record before i ends before it, the way goes on from the parent of that record; from the record itself, if it has none.
pub resumes : {s : ℕ → ℕ} {i p : ℕ} → 0 < i → s (i - 1) ≤ 1 → p ≡ i - 1 - way_up s (i - 1) → Climbs s i p
resumes {s} {i} {p} n h e = go (dec_lt 0 (way_up s (i - 1)))
  where
    c : Climbs s i (i - 1)
    c = starts s i (λ z. omega (arith, n, z))

    go : Dec (0 < way_up s (i - 1)) → Climbs s i p
    go (yes l) = subst (Climbs s i) (sym e) (climbs c (omega (arith, h, n)) refl (λ z. omega (arith, l, z)))
    go (no k) = let g : i - 1 ≡ p = omega (arith, k, e) in subst (Climbs s i) g c

-- One that is held by the record before it, or by another that the way comes to; and one that is held by none.
module _ {s : ℕ → ℕ} {i p : ℕ} (c : Climbs s i p) where
  pub held-by : i - p < s p → p ≡ i - way_up s i
  held-by h = let l = c.before in omega (arith, arrives c h)

  pub held-by-none : {u : ℕ} → s p ≤ i - p → u ≡ way_up s p → u ≡ 0 → i ≡ i - way_up s i
  held-by-none h e z = omega (arith, tops c h e z)

pub held-before : (s : ℕ → ℕ) (i : ℕ) → 0 < i → 1 < s (i - 1) → i - 1 ≡ i - way_up s i
held-before s i n h = held-by (starts s i (λ z. omega (arith, n, z))) (omega (arith, n, h))
