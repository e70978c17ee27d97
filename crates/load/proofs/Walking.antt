-- What the walk over a record's children keeps: what is left to see would complete what the whole walk finds.
-- Assumes nothing.
use Rattle.std.specs.Prelude.{Option, Some, None}
use mathlib.Core.Bool.{Bool, false, cond}
use mathlib.Core.List.{List, ◌∷◌}
use mathlib.Core.Path.{◌≡◌, refl, sym, ap, ◌∙◌, subst}
use Prim.Native.Nat.{ℕ, zero, suc, ◌+◌, ◌-◌, ◌*◌, ◌<◌, ◌≤◌}
use native.Mathlib.Omega.{arith}
use borrow.Author.Tests.{eq-eqb}
use lib.Dec.{T}
use lib.ListN.{length, get_or, take, drop}
use lib.Seq.{drop-cons}
use Rattle.text.proofs.Table.{is_true}
use Rattle.own.specs.Tree.{Rec}
use Rattle.own.specs.Flat.{blank, row, children}
use Rattle.kinds.specs.Shape.{half_range}
use Rattle.load.specs.Children.Table.{state_count}
use Rattle.load.specs.Children.Begin.{start}
use Rattle.load.specs.Children.Cue as cue
use Rattle.load.specs.Children.Cue.{cue}
use Rattle.load.specs.Checks.Judge.{sits, past, judge, before, begun}
use Rattle.load.specs.Checks.Small.{Small}
use Rattle.load.proofs.Checks.Small.{sat}
use Rattle.load.specs.Checks.Parts.{left, left-next, all_left}
use Rattle.load.specs.declared.walk.Seen.{Seen}
use Rattle.load.proofs.WalkLaws.{one-small}

pub record Walking (rs : List Rec) (r : Rec) (whole : Option Seen) (i : ℕ) (s : Seen) : Type 0 where
  pub small : Small s
  pub room : i + s.left ≤ length rs
  pub fits : i + s.left < half_range * half_range
  pub rest : judge r s (left rs i s.left) ≡ whole

pub walking_start : (rs : List Rec) (r : Rec) (j : ℕ) {q : ℕ} → q ≡ start r.kind r.low r.high → q < state_count → r ≡ get_or rs j blank → 0 < r.size → r.size ≤ half_range → j + r.size ≤ length rs → j + r.size < half_range * half_range
    → Walking rs r (judge r (begun r) (children rs j)) (j + 1) (before r q)
walking_start rs r j {q} its h e s m k b =
    let at : 0 < (get_or rs j blank).size = subst (λ (x : Rec). 0 < x.size) e s in
    let in-it : j + (get_or rs j blank).size ≤ length rs = subst (λ (x : Rec). j + x.size ≤ length rs) e k in
    record {
      small = record { state = h; names = omega arith; parameters = omega arith; patterns = omega arith };
      room = omega arith;
      fits = omega arith;
      rest = ap (judge r (before r q)) (sym (all_left rs j (omega arith) at in-it ∙ ap (λ (x : Rec). left rs (j + 1) (x.size - 1)) (sym e)))
          ∙ ap (λ (x : ℕ). judge r (before r x) (children rs j)) its;
    }

module _ {rs : List Rec} {r : Rec} {whole : Option Seen} {i : ℕ} {s : Seen} (w : Walking rs r whole i s) where
  module _ (some : 0 < s.left) (c : Rec) (its : c ≡ get_or rs i blank) where
    seen_next : T (sits s.left r c) → judge r s (left rs i s.left) ≡ judge r (past s c) (left rs (i + c.size) (s.left - c.size))
    unfolding judge
    seen_next t =
        let x = sat s.left r c t in
        let a : 0 < (get_or rs i blank).size = subst (λ (y : Rec). 0 < y.size) its x.some in
        let b : (get_or rs i blank).size ≤ s.left = subst (λ (y : Rec). y.size ≤ s.left) its x.fit in
        ap (judge r s) (left-next rs i s.left some w.room a b ∙ ap (λ (y : Rec). y ∷ left rs (i + y.size) (s.left - y.size)) (sym its))
        ∙ ap (λ (b : Bool). cond b (judge r (past s c) (left rs (i + c.size) (s.left - c.size))) None) (is_true (sits s.left r c) t)

    pub walking-more : T (sits s.left r c) → (past s c).state < state_count → Walking rs r whole (i + c.size) (past s c)
    unfolding past
    walking-more t q =
        let x = sat s.left r c t in
        let m = w.small in
        let room = w.room in
        let k = cue c.kind c.low c.high in
        record {
          small = record {
            state = q;
            names = omega (arith, m.names, x.some, x.fit, one-small k cue.Name);
            parameters = omega (arith, m.parameters, x.some, x.fit, one-small k cue.Parameter);
            patterns = omega (arith, m.patterns, x.some, x.fit, one-small k cue.Pattern);
          };
          room = omega (arith, x.fit);
          fits = omega (arith, x.fit, w.fits);
          rest = sym (seen_next t) ∙ w.rest;
        }

    -- a child that has not its place
    pub walking-bad : sits s.left r c ≡ false → None ≡ whole
    unfolding judge
    walking-bad f = sym (sym w.rest ∙ first-bad s.left refl)
      where
        first-bad : (n : ℕ) → n ≡ s.left → judge r s (left rs i n) ≡ None
        first-bad zero e = absurd (omega arith)
        first-bad (suc n) e =
            let room = w.room in
            ap (λ (l : List Rec). judge r s (row (suc n) (take (suc n) l))) (drop-cons rs i blank (omega arith))
            ∙ ap (λ (b : Bool). cond b (judge r (past s (get_or rs i blank)) (row n (drop ((get_or rs i blank).size - 1) (take n (drop (suc i) rs))))) None) (ap (sits s.left r) (sym its) ∙ f)

  pub walking-end : s.left ≤ 0 → Some s ≡ whole
  unfolding judge
  walking-end h = sym (sym w.rest ∙ go s.left refl)
    where
      go : (n : ℕ) → n ≡ s.left → judge r s (left rs i n) ≡ Some s
      go zero e = ap (λ (b : Bool). cond b (Some s) None) (eq-eqb s.left 0 (sym e))
      go (suc n) e = absurd (omega arith)
