-- What the code finds of each record, against the test of the definition.
-- Assumes nothing.
use Rattle.std.specs.Prelude.{Option}
use mathlib.Core.Bool.{Bool, true, false, true≢false}
use mathlib.Core.List.{List, [], ◌∷◌}
use mathlib.Core.Path.{◌≡◌, sym, ap, ◌∙◌, subst}
use Prim.Native.Nat.{ℕ, ◌+◌, ◌-◌, ◌<◌, ◌≤◌}
use native.Mathlib.Omega.{arith}
use borrow.Author.Tests.{lt-ltb, le-leb}
use lib.Dec.{T, ltb, leb}
use lib.ListN.{length, get_or}
use Rattle.std.proofs.Common.{below_more}
use Rattle.text.proofs.Table.{is_true, is_false, pair}
use Rattle.own.specs.Tree.{Rec}
use Rattle.own.specs.Flat.{blank, children}
use Rattle.kinds.specs.Shape.{half_range}
use Rattle.kinds.specs.Fields.{halves}
use Rattle.load.specs.Function.{Right, is_top, Whole}
use Rattle.load.specs.FunctionTest.{placed, is_whole}
use Rattle.load.proofs.FunctionTest.{placed-exactly, whole-exactly}
use Rattle.load.specs.Checks.Stands.{stands}
use Rattle.load.proofs.Checks.Stands.{stands-exactly, stands-each}
use Rattle.load.specs.Checks.Judge.{judge, begun, verdict}
use Rattle.load.proofs.Checks.Verdict.{right-found, found_right}
use Rattle.load.specs.declared.walk.Seen.{Seen}
use Rattle.load.proofs.Told.{told-so}

-- Two tests that pass alike are equal.
pub alike : (a b : Bool) → (T a → T b) → (T b → T a) → a ≡ b
alike true b f g = sym (is_true b (f tt))
alike false b f g = sym (is_false b g)

-- Whether a record stands in the list with all that it counts, and is right.
module _ (rs : List Rec) (j : ℕ) (r : Rec) (its : r ≡ get_or rs j blank) where
  standing : T (stands rs j) → (j + r.size ≤ length rs) × Right r (children rs j)
  standing t =
      let s = (stands-exactly rs j).0 t in
      (subst (λ (x : Rec). j + x.size ≤ length rs) (sym its) s.room, subst (λ (x : Rec). Right x (children rs j)) (sym its) s.right)

  refuted : (T (stands rs j) → ⊥) → false ≡ stands rs j
  refuted n = sym (is_false (stands rs j) n)

  pub stands-none : r.size ≡ 0 → false ≡ stands rs j
  stands-none e = refuted (λ t. let a = (standing t).1.adds in absurd (omega arith))

  pub stands-over : {n : ℕ} → n ≡ length rs → leb r.size (n - j) ≡ false → false ≡ stands rs j
  stands-over {n} e f = refuted (λ t. let a = (standing t).0 in true≢false (sym (le-leb r.size (n - j) (omega arith)) ∙ f))

  pub stands-place : {b : Bool} → b ≡ placed r → b ≡ false → false ≡ stands rs j
  stands-place e f = refuted (λ t. subst T (sym e ∙ f) ((placed-exactly r).1 (standing t).1.place))

  small : r.low < half_range → r.high < half_range → T (halves r.low r.high)
  unfolding halves
  small a b = pair (ltb r.low half_range) (ltb r.high half_range) (subst T (sym (lt-ltb r.low half_range a)) tt) (subst T (sym (lt-ltb r.high half_range b)) tt)

  pub stands-is : r.low < half_range → r.high < half_range → 0 < r.size → j + r.size ≤ length rs → T (placed r)
      → {w : Option Seen} → w ≡ judge r (begun r) (children rs j) → {b : Bool} → b ≡ verdict r w → b ≡ stands rs j
  stands-is lo hi some room place {w} ws {b} bs =
      bs
      ∙ ap (verdict r) ws
      ∙ alike (verdict r (judge r (begun r) (children rs j))) (stands rs j)
      (λ t.
      let (counted, right) = found_right r (children rs j) (small lo hi) some ((placed-exactly r).0 place) t in
      (stands-exactly rs j).1 (record {
        room = subst (λ (x : Rec). j + x.size ≤ length rs) its room;
        some = counted;
        right = subst (λ (x : Rec). Right x (children rs j)) its right;
      }))
      (λ t. right-found r (children rs j) (small lo hi) (standing t).1 ((stands-exactly rs j).0 t).some)

-- Whether all records do, and the first is the top of them.
module _ (rs : List Rec) where
  whole : T (is_whole rs) → Whole rs
  whole t = (whole-exactly rs).0 t

  refused : (Whole rs → ⊥) → false ≡ is_whole rs
  refused n = sym (is_false (is_whole rs) (λ t. n (whole t)))

  pub one_none : {n : ℕ} → n ≡ length rs → n ≡ 0 → false ≡ is_whole rs
  one_none e z = refused (λ o. nothing rs (sym e ∙ z) o.top)
    where
      nothing : (l : List Rec) → length l ≡ 0 → T (is_top (get_or l 0 blank)) → ⊥
      nothing [] e t = t
      nothing (x ∷ l) e t = absurd (omega arith)

  module _ (r : Rec) (its : r ≡ get_or rs 0 blank) where
    -- the first is no top, or counts another number
    pub one-top : (b : Bool) → b ≡ is_top r → b ≡ false → false ≡ is_whole rs
    one-top b e f = refused (λ o. subst T (ap is_top (sym its) ∙ sym e ∙ f) o.top)

    pub one_size : {n : ℕ} → n ≡ length rs → (r.size ≡ n → ⊥) → false ≡ is_whole rs
    one_size e f = refused (λ o. f (ap (λ (x : Rec). x.size) its ∙ o.counts_all ∙ sym e))

-- What the loop over the records keeps: those before i stand.
pub record Standing (rs : List Rec) (n i : ℕ) : Type 0 where
  pub within : i ≤ n
  pub each : (q : ℕ) → q < i → T (stands rs q)

pub standing-start : (rs : List Rec) (n : ℕ) → Standing rs n 0
standing-start rs n = record { within = omega arith; each = λ q h. absurd (omega arith) }

module _ {rs : List Rec} {n i : ℕ} (x : Standing rs n i) where
  pub standing-more : {b : Bool} → b ≡ stands rs i → b ≡ true → i < n → Standing rs n (i + 1)
  standing-more e t h = record { within = omega arith; each = below_more _ _ x.each (told-so _ t e) }

  module _ (long : n ≡ length rs) where
    pub standing-not : {b : Bool} → b ≡ stands rs i → b ≡ false → i < n → false ≡ is_whole rs
    standing-not e f h = refused rs (λ o. subst T (sym e ∙ f) ((stands-exactly rs i).1 (((stands-each rs).0 o).2 i (omega arith))))

    -- where all do, under such a top, they form a whole
    pub standing-all : {r : Rec} → r ≡ get_or rs 0 blank → {b : Bool} → b ≡ is_top r → b ≡ true → r.size ≡ n → n ≤ i → true ≡ is_whole rs
    standing-all its e t size h =
        sym (is_true (is_whole rs)
        ((whole-exactly rs).1 ((stands-each rs).1
        (subst (λ (y : Rec). T (is_top y)) its (told-so _ t e), ap (λ (y : Rec). y.size) (sym its) ∙ size ∙ long, λ j k. (stands-exactly rs j).0 (x.each j (omega arith))))))
