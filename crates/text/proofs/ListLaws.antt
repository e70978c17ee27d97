-- Laws of what is asked of the entries of a list.
-- Assumes nothing.
use Rattle.std.specs.Prelude.{Bool, ◌||◌, cond, ◌⊎◌, ◌≡◌, refl, eqb, length, get_or}
use Rattle.std.proofs.Math.Bool.{true, false}
use mathlib.Core.List.{List, [], ◌∷◌, ◌++◌}
use Rattle.std.proofs.Common.{inl, inr, sym, subst, arith, eqb→eq}
use Prim.Native.Nat.{ℕ, zero, suc, ◌+◌, ◌≤◌, ◌<◌}
use Rattle.std.proofs.lemmas.Bool.{eqb-false}
use Rattle.std.proofs.Math.Dec.{T}
use Rattle.text.proofs.Table.{is_true, first-of, second-of, pair, or_left, or_right, or_cases}
use Rattle.text.specs.Lists.{has, all, some, keep, count, Some, here, there}

-- In the first of two lists.
pub has_left : (l m : List ℕ) (n : ℕ) → T (has l n) → T (has (l ++ m) n)
unfolding has
has_left [] m n t = absurd t
has_left (a ∷ l) m n t = go (or_cases (eqb a n) (has l n) t) (has_left l m n)
  where
    go : T (eqb a n) ⊎ T (has l n) → (T (has l n) → T (has (l ++ m) n)) → T (eqb a n || has (l ++ m) n)
    go (inl u) r = or_left (eqb a n) (has (l ++ m) n) u
    go (inr u) r = or_right (eqb a n) (has (l ++ m) n) (r u)

-- In the second of two lists.
pub has_right : (l m : List ℕ) (n : ℕ) → T (has m n) → T (has (l ++ m) n)
unfolding has
has_right [] m n t = t
has_right (a ∷ l) m n t = or_right (eqb a n) (has (l ++ m) n) (has_right l m n t)

-- A test that all pass passes at a number that is in the list.
pub all-has : (p : ℕ → Bool) (l : List ℕ) (n : ℕ) → T (all p l) → T (has l n) → T (p n)
unfolding all has
all-has p [] n t h = absurd h
all-has p (m ∷ l) n t h = go (or_cases (eqb m n) (has l n) h) (all-has p l n (second-of (p m) (all p l) t))
  where
    go : T (eqb m n) ⊎ T (has l n) → (T (has l n) → T (p n)) → T (p n)
    go (inl u) r = subst (λ (x : ℕ). T (p x)) (eqb→eq m n u) (first-of (p m) (all p l) t)
    go (inr u) r = r u

-- A test that all of the n numbers from a on pass passes at each of them.
pub all-count : (p : ℕ → Bool) (n a x : ℕ) → T (all p (count n a)) → a ≤ x → x < a + n → T (p x)
unfolding all count
all-count p zero a x t l h = absurd (omega arith)
all-count p (suc n) a x t l h = go (eqb a x) refl (all-count p n (suc a) x (second-of (p a) (all p (count n (suc a))) t))
  where
    go : (b : Bool) → eqb a x ≡ b → (suc a ≤ x → x < suc a + n → T (p x)) → T (p x)
    go true e r = subst (λ (y : ℕ). T (p y)) (eqb→eq a x (rw e tt)) (first-of (p a) (all p (count n (suc a))) t)
    go false e r = let ne = eqb-false a x e in r (omega arith) (omega arith)

-- A test that some of them passes passes at a number between,
pub some-count : (p : ℕ → Bool) (n a : ℕ) → T (some p (count n a)) → (x : ℕ) × (a ≤ x) × (x < a + n) × T (p x)
unfolding some count
some-count p zero a t = absurd t
some-count p (suc n) a t = go (or_cases (p a) (some p (count n (suc a))) t) (some-count p n (suc a))
  where
    go : T (p a) ⊎ T (some p (count n (suc a))) → (T (some p (count n (suc a))) → (x : ℕ) × (suc a ≤ x) × (x < suc a + n) × T (p x)) → (x : ℕ) × (a ≤ x) × (x < a + suc n) × T (p x)
    go (inl u) r = (a, omega arith, omega arith, u)
    go (inr u) r = let h = r u in (h.0, omega arith, omega arith, h.3)

-- and one that passes at a number between is passed by some.
pub count-some : (p : ℕ → Bool) (n a x : ℕ) → T (p x) → a ≤ x → x < a + n → T (some p (count n a))
unfolding some count
count-some p zero a x t l h = absurd (omega arith)
count-some p (suc n) a x t l h = go (eqb a x) refl (count-some p n (suc a) x t)
  where
    go : (b : Bool) → eqb a x ≡ b → (suc a ≤ x → x < suc a + n → T (some p (count n (suc a)))) → T (p a || some p (count n (suc a)))
    go true e r = or_left (p a) (some p (count n (suc a))) (subst (λ (y : ℕ). T (p y)) (sym (eqb→eq a x (rw e tt))) t)
    go false e r = let ne = eqb-false a x e in or_right (p a) (some p (count n (suc a))) (r (omega arith) (omega arith))

module _ {A : Type 0} where
  -- A test that all pass, and the default too, passes at the entry of any number.
  pub all_get_or : (p : A → Bool) (l : List A) (d : A) → T (all p l) → T (p d) → (i : ℕ) → T (p (get_or l i d))
  unfolding all
  all_get_or p [] d t h i = h
  all_get_or p (x ∷ l) d t h zero = first-of (p x) (all p l) t
  all_get_or p (x ∷ l) d t h (suc i) = all_get_or p l d (second-of (p x) (all p l) t) h i

  -- All of those kept pass.
  pub all_keep : (p q : A → Bool) (l : List A) → T (all p l) → T (all p (keep q l))
  unfolding all
  all_keep p q [] t = tt
  all_keep p q (a ∷ l) t = go (q a) (first-of (p a) (all p l) t) (all_keep p q l (second-of (p a) (all p l) t))
    where
      go : (b : Bool) → T (p a) → T (all p (keep q l)) → T (all p (cond b (a ∷ keep q l) (keep q l)))
      go true u v = pair (p a) (all p (keep q l)) u v
      go false u v = v

  -- Where the test passes one has.
  pub some-sound : {P : A → Type 0} (p : A → Bool) → ((a : A) → T (p a) → P a) → (l : List A) → T (some p l) → Some P l
  unfolding some
  some-sound p f [] t = absurd t
  some-sound {P} p f (a ∷ l) t = go (or_cases (p a) (some p l) t) (some-sound p f l)
    where
      go : T (p a) ⊎ T (some p l) → (T (some p l) → Some P l) → Some P (a ∷ l)
      go (inl u) r = here (f a u)
      go (inr u) r = there (r u)

  -- Where one has the test passes.
  pub some-complete : {P : A → Type 0} (p : A → Bool) → ((a : A) → P a → T (p a)) → {l : List A} → Some P l → T (some p l)
  unfolding some
  some-complete p f (here {a = a} {l = l} h) = or_left (p a) (some p l) (f a h)
  some-complete p f (there {a = a} {l = l} s) = or_right (p a) (some p l) (some-complete p f s)

  -- The one that has passes too.
  pub all-some : {P : A → Type 0} (p : A → Bool) {l : List A} → T (all p l) → Some P l → Some (λ a. T (p a) × P a) l
  unfolding all
  all-some p t (here {a = a} {l = l} h) = here (first-of (p a) (all p l) t, h)
  all-some p t (there {a = a} {l = l} s) = there (all-some p (second-of (p a) (all p l) t) s)

  -- What one of a list has follows from each.
  pub from_some : {P : A → Type 0} {Q : Type 0} → ((a : A) → P a → Q) → {l : List A} → Some P l → Q
  from_some f (here {a = a} h) = f a h
  from_some f (there s) = from_some f s

  not_none : {P : A → Type 0} {l : List A} → Some P l → 0 < length l
  not_none (here h) = omega arith
  not_none (there s) = let h = not_none s in omega arith

  -- Of a list of one, that one.
  pub only_one : {P : A → Type 0} {a : A} → Some P (a ∷ []) → P a
  only_one (here h) = h
  only_one (there s) = absurd (omega (arith, not_none s))

  -- What one of a list has, another thing follows of it.
  pub some-map : {P Q : A → Type 0} {l : List A} → ((a : A) → P a → Q a) → Some P l → Some Q l
  some-map f (here {a = a} p) = here (f a p)
  some-map f (there s) = there (some-map f s)

  -- One of those kept passes, and is one of the list.
  pub some-keep : {P : A → Type 0} (q : A → Bool) (l : List A) → Some P (keep q l) → Some (λ a. T (q a) × P a) l
  some-keep {P = P} q [] s = elim s [ ]
  some-keep {P} q (a ∷ l) s = go (q a) refl s (some-keep q l)
    where
      go : (b : Bool) → q a ≡ b → Some P (cond b (a ∷ keep q l) (keep q l)) → (Some P (keep q l) → Some (λ x. T (q x) × P x) l) → Some (λ x. T (q x) × P x) (a ∷ l)
      go true e (here p) r = here (subst T (sym e) tt, p)
      go true e (there s) r = there (r s)
      go false e s r = there (r s)

  -- One of the list that passes is one of those kept.
  pub keep_some : {P : A → Type 0} (q : A → Bool) {l : List A} → Some (λ a. T (q a) × P a) l → Some P (keep q l)
  keep_some {P} q (here {a = a} {l = l} h) = subst (λ (b : Bool). Some P (cond b (a ∷ keep q l) (keep q l))) (sym (is_true (q a) h.0)) (here h.1)
  keep_some {P} q (there {a = a} {l = l} s) = go (q a) (keep_some q s)
    where
      go : (b : Bool) → Some P (keep q l) → Some P (cond b (a ∷ keep q l) (keep q l))
      go true r = there r
      go false r = r
