-- A rule of a table, proved at all of its entries by one test that antt computes.
-- Assumes nothing.
use Rattle.std.specs.Prelude.{Bool, true, false, ◌&&◌, ◌||◌, not, List, [], ◌∷◌, ◌⊎◌, ◌≡◌, refl, ℕ, zero, suc, ◌+◌, ◌<◌, T, eqb, length, get_or}
use Rattle.std.specs.Bool.{beq}
use Rattle.std.specs.Cmp.{booleans_Decides}
use Rattle.std.proofs.Common.{inl, inr, ◌∙◌, subst, sym, add-zero, zero-add, add-suc, suc-add, le_of_suc-le-suc, not-suc-le-zero, eqb→eq}
use Rattle.text.proofs.Same.{differ}
use Rattle.text.specs.Table.{all, every}

-- a test that passes is true, one that does not is false
pub is_true : (b : Bool) → T b → b ≡ true
is_true true t = refl
is_true false t = absurd t

pub is_false : (b : Bool) → ¬ T b → b ≡ false
is_false true f = absurd (f tt)
is_false false f = refl

pub not-true : (b : Bool) → T (not b) → b ≡ false
not-true true t = absurd t
not-true false t = refl

-- two tests that answer alike are equal
pub beq_same : (a b : Bool) → T (beq a b) → a ≡ b
beq_same a b t = (booleans_Decides a b).0 (is_true (beq a b) t)

-- both tests of a pair pass
pub first-of : (a b : Bool) → T (a && b) → T a
first-of true b t = tt
first-of false b t = t

pub second-of : (a b : Bool) → T (a && b) → T b
second-of true b t = t
second-of false b t = absurd t

pub both_left : (a b : Bool) → (a && b) ≡ true → a ≡ true
both_left true b e = refl
both_left false b e = differ e

pub both_right : (a b : Bool) → (a && b) ≡ true → b ≡ true
both_right true b e = e
both_right false b e = differ e

pub pair : (a b : Bool) → T a → T b → T (a && b)
pair true b s t = t
pair false b s t = absurd s

-- one of two passes: the first, the second, and which
pub or_left : (a b : Bool) → T a → T (a || b)
or_left true b t = tt
or_left false b t = absurd t

pub or_right : (a b : Bool) → T b → T (a || b)
or_right true b t = tt
or_right false b t = t

pub or_cases : (a b : Bool) → T (a || b) → T a ⊎ T b
or_cases true b t = inl tt
or_cases false b t = inr t

-- where the first passes the second does
pub implied : (a b : Bool) → T (not a || b) → T a → T b
implied true b t u = t
implied false b t u = absurd u

pub each : (bs : List Bool) → T (all bs) → (i : ℕ) → T (get_or bs i true)
each [] t i = tt
each (b ∷ bs) t zero = first-of b (all bs) t
each (b ∷ bs) t (suc i) = each bs (second-of b (all bs) t) i

module _ {A : Type 0} where
  from : (f : ℕ → A → Bool) (xs : List A) (d : A) (i : ℕ) → T (every f i xs) → (k : ℕ) → k < length xs → T (f (i + k) (get_or xs k d))
  from f [] d i t k h = absurd (not-suc-le-zero h)
  from f (x ∷ xs) d i t zero h = subst (λ (m : ℕ). T (f m x)) (sym (add-zero i)) (first-of (f i x) (every f (suc i) xs) t)
  from f (x ∷ xs) d i t (suc k) h =
      subst (λ (m : ℕ). T (f m (get_or xs k d))) (suc-add i k ∙ sym (add-suc i k))
      (from f xs d (suc i) (second-of (f i x) (every f (suc i) xs) t) k (le_of_suc-le-suc h))

  pub at : (f : ℕ → A → Bool) (xs : List A) (d : A) → T (every f 0 xs) → (k : ℕ) → k < length xs → T (f k (get_or xs k d))
  at f xs d t k h = subst (λ (m : ℕ). T (f m (get_or xs k d))) (zero-add k) (from f xs d 0 t k h)

-- The table of a function: its length and its entries are computed.
pub table_at : (f : ℕ → ℕ) (xs : List ℕ) (n : ℕ) → length xs ≡ n → T (every (λ k x. eqb x (f k)) 0 xs) → (k : ℕ) → k < n → get_or xs k 0 ≡ f k
table_at f xs n e t k h =
    eqb→eq (get_or xs k 0) (f k) (at (λ k x. eqb x (f k)) xs 0 t k (subst (λ (m : ℕ). k < m) (sym e) h))
