-- No rule tells apart children of one cue: a child fits a part exactly when the child that stands for its cue does.
-- Assumes nothing.
use Rattle.std.specs.Prelude.{Bool, true, false, ◌&&◌, cond, List, [], ◌∷◌, ◌≡◌, refl, ℕ, zero, suc, ◌+◌, ◌<◌, ◌≤◌, T, eqb, ltb, leb, get_or, length}
use Rattle.std.specs.Bool.{beq}
use Rattle.std.proofs.Common.{sym, ap, ◌∙◌, subst, arith, eqb-true, ltb-true, ltb-false, ne_eqb, lt-ltb, eqb→eq, ltb→lt, leb→le}
use Rattle.text.specs.Lists.{has, all, some, count, span}
use Rattle.text.proofs.ListLaws.{all-has, all-count}
use Rattle.text.proofs.Same.{differ}
use Rattle.text.specs.Table.{every}
use Rattle.text.proofs.Table.{is_true, is_false, beq_same, first-of, second-of, at}
use Rattle.num.specs.Bound.{is_bound}
use Rattle.own.specs.Kinds as kind
use Rattle.own.specs.Arms as arm
use Rattle.kinds.specs.Groups.{categories, bits, category_set}
use Rattle.kinds.specs.Shape.{number}
use Rattle.load.specs.Children.Table.{kind_cues, cue_kinds, cue_lows}
use Rattle.load.specs.Children.Cue as cue
use Rattle.load.specs.Children.Cue.{place_from, kind_cue, arm_cue, number_cue, cue}
use Rattle.load.specs.Children.Cues.{kinds_end, kind_of, named, Stand}

-- past the last of a list of numbers
pub has-none : (l : List ℕ) (n x : ℕ) → T (all (λ m. ltb m n) l) → n ≤ x → has l x ≡ false
has-none l n x t h = is_false (has l x) (λ u. let lt = ltb→lt x n (all-has (λ m. ltb m n) l x t u) in omega arith)

no_bits : (l : List (List ℕ)) (n x : ℕ) → T (all (all (λ m. ltb m n)) l) → n ≤ x → bits (λ g. has g x) l ≡ 0
unfolding all bits
no_bits [] n x t h = refl
no_bits (g ∷ l) n x t h =
    let a = all (λ m. ltb m n) g in
    let b = all (all (λ m. ltb m n)) l in
    rw (has-none g n x (first-of a b t) h, no_bits l n x (second-of a b t) h) refl

-- the cue of each kind is that of the table, and a kind past the last has none
its-cues : T (every (λ k c. eqb c (kind_cue k)) 0 kind_cues)
unfolding kind_cues kind_cue place_from category_set categories bits has count span
its-cues = tt

cue-past : (k : ℕ) → kinds_end ≤ k → kind_cue k ≡ cue.Other
unfolding kind_cue category_set categories all count span place_from
cue-past k h = rw (no_bits categories kinds_end k tt h) refl

many-kinds : length kind_cues ≡ kinds_end
unfolding kind_cues
many-kinds = refl

cue-known : (k : ℕ) → k < kinds_end → get_or kind_cues k 0 ≡ kind_cue k
cue-known k h = eqb-true (get_or kind_cues k 0) (kind_cue k) (is_true (eqb (get_or kind_cues k 0) (kind_cue k)) (at (λ k c. eqb c (kind_cue k)) kind_cues 0 its-cues k (omega (arith, many-kinds))))

-- what holds of the cue of each kind of the table, and of no cue, holds of the cue of any
pub by_kind : (p : ℕ → ℕ → Bool) → T (every p 0 kind_cues) → ((k : ℕ) → kinds_end ≤ k → T (p k cue.Other)) → (k : ℕ) → T (p k (kind_cue k))
by_kind p t f k = go (ltb k kinds_end) refl
  where
    go : (b : Bool) → ltb k kinds_end ≡ b → T (p k (kind_cue k))
    go true e = let h = ltb-true k kinds_end e in subst (λ (c : ℕ). T (p k c)) (cue-known k h) (at p kind_cues 0 t k (omega (arith, many-kinds)))
    go false e = let h = ltb-false k kinds_end e in subst (λ (c : ℕ). T (p k c)) (sym (cue-past k h)) (f k h)

-- an arm and the child that stands for its cue: the same low, or both of a low that no rule names
arms-stand : T (all (λ low. eqb (kind_of (cue.Arms + low)) kind.BuiltinArm && eqb (get_or cue_lows (cue.Arms + low) 0) low) (span arm.Left arm.True))
unfolding all count span cue_kinds cue_lows
arms-stand = tt

pub arm-stands : (low : ℕ) → Stand low (arm_cue low)
unfolding arm_cue span named cue_kinds cue_lows
arm-stands low = go (named low) refl
  where
    go : (b : Bool) → named low ≡ b → Stand low (cond b (cue.Arms + low) cue.Arm)
    go true e =
        let u : T (named low) = subst (λ (b : Bool). T b) (sym e) tt in
        let some = ltb→lt 0 low (first-of (ltb 0 low) (leb low arm.True) u) in
        let most = leb→le low arm.True (second-of (ltb 0 low) (leb low arm.True) u) in
        let k = eqb (kind_of (cue.Arms + low)) kind.BuiltinArm in
        let l = eqb (get_or cue_lows (cue.Arms + low) 0) low in
        let t : T (k && l) = all-count (λ low. eqb (kind_of (cue.Arms + low)) kind.BuiltinArm && eqb (get_or cue_lows (cue.Arms + low) 0) low) 6 arm.Left low arms-stand (omega arith) (omega arith) in
        record {
          its_kind = eqb→eq (kind_of (cue.Arms + low)) kind.BuiltinArm (first-of k l t);
          its_low = λ n v. ap (λ (m : ℕ). eqb m n) (sym (eqb→eq (get_or cue_lows (cue.Arms + low) 0) low (second-of k l t)));
        }
    go false e = record { its_kind = refl; its_low = λ n v. ne_eqb low n (λ q. absurd (no q v)) ∙ sym (ne_eqb 0 n (λ q. absurd (none q v))) }
      where
        no : {n : ℕ} → low ≡ n → T (named n) → ⊥
        no q v = subst (λ (b : Bool). T b) (ap named (sym q) ∙ e) v

        none : {n : ℕ} → 0 ≡ n → T (named n) → ⊥
        none q v = subst (λ (m : ℕ). T (named m)) (sym q) v

-- a number and the child that stands for its cue
pub number-kind : (n : ℕ) → kind_of (number_cue n) ≡ kind.Number
unfolding number_cue cue_kinds
number-kind n = go (is_bound n) (ltb 0 n)
  where
    go : (b s : Bool) → kind_of (cond b cue.Bound (cond s cue.Size cue.Zero)) ≡ kind.Number
    go true s = refl
    go false true = refl
    go false false = refl

bound_some : (n : ℕ) → is_bound n ≡ true → ltb 0 n ≡ true
unfolding is_bound some span count
bound_some zero e = differ e
bound_some (suc n) e = lt-ltb 0 (suc n) (omega arith)

pub number-tests : (n : ℕ) → (is_bound n ≡ is_bound (number (get_or cue_lows (number_cue n) 0) 0)) × (ltb 0 n ≡ ltb 0 (number (get_or cue_lows (number_cue n) 0) 0))
unfolding number_cue cue_lows number is_bound some span count
number-tests n = go (is_bound n) (ltb 0 n) (bound_some n)
  where
    go : (b s : Bool) → (b ≡ true → s ≡ true)
        → (b ≡ is_bound (number (get_or cue_lows (cond b cue.Bound (cond s cue.Size cue.Zero)) 0) 0)) × (s ≡ ltb 0 (number (get_or cue_lows (cond b cue.Bound (cond s cue.Size cue.Zero)) 0) 0))
    go true s f = (refl, f refl)
    go false true f = (refl, refl)
    go false false f = (refl, refl)

-- kinds of arms and numbers are told by the cue
told : (this : ℕ) → T (every (λ k c. beq (eqb k this) (eqb (kind_of c) this)) 0 kind_cues) → T (ltb 0 this && ltb this kinds_end) → (k : ℕ)
    → eqb k this ≡ eqb (kind_of (kind_cue k)) this
unfolding cue_kinds
told this t h k =
    beq_same (eqb k this) (eqb (kind_of (kind_cue k)) this)
    (by_kind (λ k c. beq (eqb k this) (eqb (kind_of c) this)) t (λ k q. past k q (ltb→lt 0 this (first-of (ltb 0 this) (ltb this kinds_end) h)) (ltb→lt this kinds_end (second-of (ltb 0 this) (ltb this kinds_end) h))) k)
  where
    past : (k : ℕ) → kinds_end ≤ k → 0 < this → this < kinds_end → T (beq (eqb k this) (eqb 0 this))
    past k q a b = rw (ne_eqb k this (λ e. omega arith), ne_eqb 0 this (λ e. omega arith)) tt

pub arm-told : (k : ℕ) → eqb k kind.BuiltinArm ≡ eqb (kind_of (kind_cue k)) kind.BuiltinArm
unfolding kind_cues cue_kinds
arm-told = told kind.BuiltinArm tt tt

pub number-told : (k : ℕ) → eqb k kind.Number ≡ eqb (kind_of (kind_cue k)) kind.Number
unfolding kind_cues cue_kinds
number-told = told kind.Number tt tt
