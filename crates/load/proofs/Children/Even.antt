-- A child fits a part that no cue parts exactly when the child that stands for its cue does; so what is left of a shape of such parts is the same.
-- Assumes nothing.
use Rattle.std.specs.Prelude.{Bool, ◌&&◌, cond, ◌≡◌, ℕ, ◌≤◌, get_or}
use Rattle.std.proofs.Math.Bool.{true, false, not, beq}
use Rattle.std.proofs.Math.Path.{refl, sym, ap}
use Rattle.std.proofs.Common.{◌∙◌, eqb-true}
use Rattle.std.proofs.Math.Dec.{T, eqb, ltb}
use Rattle.text.specs.Lists.{has, all, count, span}
use Rattle.text.specs.Table.{every}
use Rattle.text.proofs.Table.{not-true, first-of, second-of, beq_same}
use Rattle.num.specs.Bound.{is_bound}
use Rattle.own.specs.Law.{child}
use Rattle.own.specs.Kinds as kind
use Rattle.kinds.specs.Groups.{categories, bits, category_set}
use Rattle.kinds.specs.Derive.{blank, then, either, is_mark, is_part, after}
use Rattle.kinds.specs.Shape.{number, Part, of, name, arm, bound, size, fits, Shape, nothing, never, mark, part, ◌▸◌, ◌¦◌, many}
use Rattle.load.specs.Children.Table.{kind_cues, cue_kinds, cue_lows}
use Rattle.load.specs.Children.Cue as cue
use Rattle.load.specs.Children.Cue.{place_from, kind_cue, arm_cue, number_cue, refined, cue, rep}
use Rattle.load.specs.Children.Cues.{kinds_end, even, even_in}
use Rattle.load.proofs.Children.Cues.{has-none, by_kind, arm-stands, number-kind, number-tests, arm-told, number-told}

abbrev kind_of : ℕ → ℕ
kind_of c = get_or cue_kinds c 0

abbrev low_of : ℕ → ℕ
low_of c = get_or cue_lows c 0

-- the kind of a cue does not depend on low and high
same_kind : (c low high : ℕ) → kind_of (refined c low high) ≡ kind_of c
unfolding refined cue_kinds
same_kind c low high = go (eqb c cue.Arm) refl (eqb c cue.Zero) refl
  where
    go : (a : Bool) → eqb c cue.Arm ≡ a → (z : Bool) → eqb c cue.Zero ≡ z
        → kind_of (cond a (arm_cue low) (cond z (number_cue (number low high)) c)) ≡ kind_of c
    go true e z f = (arm-stands low).its_kind ∙ ap kind_of (sym (eqb-true c cue.Arm e))
    go false e true f = number-kind (number low high) ∙ ap kind_of (sym (eqb-true c cue.Zero f))
    go false e false f = refl

arm-cued : kind_cue kind.BuiltinArm ≡ cue.Arm
unfolding kind_cue place_from category_set categories bits has count span
arm-cued = refl

number-cued : kind_cue kind.Number ≡ cue.Zero
unfolding kind_cue place_from category_set categories bits has count span
number-cued = refl

module _ (k low high : ℕ) where
  c : ℕ
  c = cue k low high

  is-arm : k ≡ kind.BuiltinArm → c ≡ arm_cue low
  unfolding c cue refined
  is-arm e = ap (λ (x : ℕ). refined x low high) (ap kind_cue e ∙ arm-cued)

  is_number : k ≡ kind.Number → c ≡ number_cue (number low high)
  unfolding c cue refined
  is_number e = ap (λ (x : ℕ). refined x low high) (ap kind_cue e ∙ number-cued)

  kinds-same : kind_of c ≡ kind_of (kind_cue k)
  unfolding c cue
  kinds-same = same_kind (kind_cue k) low high

  numbered : (p : ℕ → Bool) → p (number low high) ≡ p (number (low_of (number_cue (number low high))) 0)
      → (eqb k kind.Number && p (number low high)) ≡ (eqb (kind_of c) kind.Number && p (number (low_of c) 0))
  unfolding c
  numbered p h = go (eqb k kind.Number) refl
    where
      go : (b : Bool) → eqb k kind.Number ≡ b → (b && p (number low high)) ≡ (eqb (kind_of c) kind.Number && p (number (low_of c) 0))
      go true e =
          let q = is_number (eqb-true k kind.Number e) in
          let n = number_cue (number low high) in
          h ∙ sym (ap (λ (x : ℕ). eqb (kind_of x) kind.Number && p (number (low_of x) 0)) q ∙ ap (λ (x : ℕ). eqb x kind.Number && p (number (low_of n) 0)) (number-kind (number low high)))
      go false e = sym (ap (λ (b : Bool). b && p (number (low_of c) 0)) (ap (λ (x : ℕ). eqb x kind.Number) kinds-same ∙ sym (number-told k) ∙ e))

  -- A child fits an even part exactly when the child that stands for its cue does.
  pub even-fits : (p : Part) → T (even p) → is_part p (child k low high 0) ≡ is_part p (rep (cue k low high))
  unfolding is_part fits even c cue_kinds
  even-fits (of ks) t =
      let a = all (λ j. ltb j kinds_end) ks in
      let b = not (has ks 0) in
      let r = every (λ j d. beq (has ks j) (has ks (kind_of d))) 0 kind_cues in
      let u = second-of a (b && r) t in
      beq_same (has ks k) (has ks (kind_of (kind_cue k)))
      (by_kind (λ j d. beq (has ks j) (has ks (kind_of d))) (second-of b r u) (past (first-of a (b && r) t) (not-true (has ks 0) (first-of b r u))) k)
      ∙ ap (has ks) (sym kinds-same)
    where
      past : T (all (λ j. ltb j kinds_end) ks) → has ks 0 ≡ false → (j : ℕ) → kinds_end ≤ j → T (beq (has ks j) (has ks (kind_of cue.Other)))
      past s z j q = rw (has-none ks kinds_end j s q, z) tt
  even-fits (name cs) t = absurd t
  even-fits (arm n) t = go (eqb k kind.BuiltinArm) refl
    where
      go : (b : Bool) → eqb k kind.BuiltinArm ≡ b → (b && eqb low n) ≡ (eqb (kind_of c) kind.BuiltinArm && eqb (low_of c) n)
      go true e =
          let q = is-arm (eqb-true k kind.BuiltinArm e) in
          let s = arm-stands low in
          s.its_low n t ∙ sym (ap (λ (x : ℕ). eqb (kind_of x) kind.BuiltinArm && eqb (low_of x) n) q ∙ ap (λ (x : ℕ). eqb x kind.BuiltinArm && eqb (low_of (arm_cue low)) n) s.its_kind)
      go false e = sym (ap (λ (b : Bool). b && eqb (low_of c) n) (ap (λ (x : ℕ). eqb x kind.BuiltinArm) kinds-same ∙ sym (arm-told k) ∙ e))
  even-fits bound t = numbered is_bound (number-tests (number low high)).0
  even-fits size t = numbered (λ n. ltb 0 n) (number-tests (number low high)).1

-- What is left of an even shape after a child is what is left after the child that stands for its cue.
pub even-after : (a : Shape) → T (even_in a) → (k low high : ℕ) → after (child k low high 0) a ≡ after (rep (cue k low high)) a
unfolding even_in after is_mark
even-after nothing t k low high = refl
even-after never t k low high = refl
even-after (mark cs) t k low high = refl
even-after (part p) t k low high = ap (λ (b : Bool). cond b nothing never) (even-fits k low high p t)
even-after (a ▸ b) t k low high =
    let p = even-after a (first-of (even_in a) (even_in b) t) k low high in
    let q = even-after b (second-of (even_in a) (even_in b) t) k low high in
    λ i. either (then (p i) b) (cond (blank a) (q i) never)
even-after (a ¦ b) t k low high =
    let p = even-after a (first-of (even_in a) (even_in b) t) k low high in
    let q = even-after b (second-of (even_in a) (even_in b) t) k low high in
    λ i. either (p i) (q i)
even-after (many a) t k low high = ap (λ (x : Shape). then x (many a)) (even-after a t k low high)
