-- That the test of equal lists says what it should, and what a loop over two lists keeps.
-- Assumes nothing.
use Rattle.std.specs.Prelude.{Bool, true, false, ◌&&◌, List, [], ◌∷◌, ◌≡◌, ℕ, suc, ◌+◌, ◌≤◌, ◌<◌, eqb, length, get_or, drop}
use Rattle.std.proofs.Math.Path.{refl}
use Rattle.std.proofs.Common.{ap, ap₂, add-one, drop_of_length-le}
use borrow.Author.Tests.{eqb-true, eq-eqb, ne_eqb}
use Rattle.std.proofs.Math.Seq.{drop-cons}
use Rattle.text.specs.Same.{same}
use Rattle.text.proofs.Same.{differ}

pub same_true : (p w : List ℕ) → same p w ≡ true → p ≡ w
unfolding same
same_true [] [] e = refl
same_true [] (y ∷ ys) e = differ e
same_true (x ∷ xs) [] e = differ e
same_true (x ∷ xs) (y ∷ ys) e = go (eqb x y) refl e (same_true xs ys)
  where
    go : (b : Bool) → eqb x y ≡ b → (b && same xs ys) ≡ true → (same xs ys ≡ true → xs ≡ ys) → x ∷ xs ≡ y ∷ ys
    go true q e r = ap₂ (λ a l. a ∷ l) (eqb-true x y q) (r e)
    go false q e r = differ e

pub same_self : (p : List ℕ) → same p p ≡ true
unfolding same
same_self [] = refl
same_self (x ∷ xs) = rw (eq-eqb x x refl) (same_self xs)

-- lists of different lengths are not equal
pub same_length : (p w : List ℕ) → (length p ≡ length w → ⊥) → same p w ≡ false
unfolding same
same_length [] [] h = absurd (h refl)
same_length [] (y ∷ ys) h = refl
same_length (x ∷ xs) [] h = refl
same_length (x ∷ xs) (y ∷ ys) h = go (eqb x y) (same_length xs ys (λ e. h (ap suc e)))
  where
    go : (b : Bool) → same xs ys ≡ false → (b && same xs ys) ≡ false
    go true e = e
    go false e = refl

-- What a loop over both lists keeps: the rests are equal exactly when the whole lists are.
module _ (p w : List ℕ) (j : ℕ) (h : j < length p) (l : j < length w) where
  pub same_more : get_or p j 0 ≡ get_or w j 0 → same (drop (j + 1) p) (drop (j + 1) w) ≡ same (drop j p) (drop j w)
  unfolding same
  same_more e = rw (add-one j, drop-cons p j 0 h, drop-cons w j 0 l, eq-eqb _ _ e) refl

  pub same_not : (get_or p j 0 ≡ get_or w j 0 → ⊥) → false ≡ same (drop j p) (drop j w)
  unfolding same
  same_not e = rw (drop-cons p j 0 h, drop-cons w j 0 l, ne_eqb _ _ e) refl

pub same_end : (p w : List ℕ) (j : ℕ) → length p ≤ j → length w ≤ j → true ≡ same (drop j p) (drop j w)
unfolding same
same_end p w j h l = rw (drop_of_length-le p h, drop_of_length-le w l) refl
