-- What a `match` on a number returns, against a function whose table was computed once: at an arm's keys, and between two numbers.
-- Assumes nothing.
use mathlib.Core.Bool.{Bool, true, false, ◌&&◌, ◌||◌, not, beq}
use mathlib.Core.List.{List, [], ◌∷◌}
use mathlib.Core.Logic.{◌⊎◌, inl, inr}
use mathlib.Core.Path.{◌≡◌, refl, sym, ap, ◌∙◌, subst}
use Prim.Native.Nat.{ℕ, zero, suc, ◌+◌, ◌-◌, ◌<◌, ◌≤◌}
use native.Mathlib.Omega.{arith}
use borrow.Author.Tests.{eq-eqb, ltb-true, ltb-false}
use lib.Bits.{bit_and, and_zero_l, and_zero_r}
use lib.Dec.{T, eqb, eqb→eq, ltb, ltb→lt}
use lib.ListN.{length, get_or}
use Rattle.std.proofs.Math.ListN.{get_or-eq_default}
use Rattle.std.specs.Cmp.{booleans_Decides}
use types.Run.{OneOf}
use Rattle.text.specs.Table.{every}
use Rattle.text.proofs.Table.{is_true, first-of, second-of, at, table_at, or_cases}

-- A function and its table: each entry is right, and past the table the function is 0.
pub record Table (f : ℕ → ℕ) : Type 0 where
  pub entries : List ℕ
  pub right : T (every (λ k x. eqb x (f k)) 0 entries)
  pub beyond : (x : ℕ) → length entries ≤ x → f x ≡ 0

-- A number of a list.
abbrev pub key : List ℕ → ℕ → Bool
key [] x = false
key (k ∷ ks) x = eqb k x || key ks x

-- A number of one of several lists.
abbrev pub key_of : List (List ℕ) → ℕ → Bool
key_of [] x = false
key_of (ks ∷ kss) x = key ks x || key_of kss x

-- No arm has the number as a key; the last arm stands first.
abbrev pub NoKey : List (List ℕ) → ℕ → Type 0
NoKey [] x = Unit {0}
NoKey (ks ∷ kss) x = NoKey kss x × (OneOf ks x → ⊥)

-- n numbers from a on pass the test.
abbrev pub run : (ℕ → Bool) → ℕ → ℕ → Bool
run p zero a = true
run p (suc n) a = p a && run p n (suc a)

run_at : (p : ℕ → Bool) (n a x : ℕ) → T (run p n a) → a ≤ x → x < a + n → T (p x)
run_at p zero a x t l h = absurd (omega arith)
run_at p (suc n) a x t l h = go (eqb a x) refl (first-of (p a) (run p n (suc a)) t)
    (λ ne. run_at p n (suc a) x (second-of (p a) (run p n (suc a)) t) (omega arith) (omega arith))
  where
    go : (b : Bool) → eqb a x ≡ b → T (p a) → ((a ≡ x → ⊥) → T (p x)) → T (p x)
    go true e u r = subst (λ (y : ℕ). T (p y)) (eqb→eq a x (rw e tt)) u
    go false e u r = r (λ i. no (e-is i))
      where
        e-is : a ≡ x → true ≡ false
        e-is i = sym (eq-eqb a x i) ∙ e

        no : true ≡ false → ⊥
        no z = let q : ◌≡◌ {A = ℕ} 0 1 = cc in omega arith

key_one : (k : ℕ) (ks : List ℕ) (x : ℕ) → T (key (k ∷ ks) x) → OneOf (k ∷ ks) x
key_one k [] x t = go (or_cases (eqb k x) false t)
  where
    go : T (eqb k x) ⊎ T false → x ≡ k
    go (inl u) = sym (eqb→eq k x u)
    go (inr u) = absurd u
key_one k (j ∷ ks) x t = go (or_cases (eqb k x) (key (j ∷ ks) x) t) (key_one j ks x)
  where
    go : T (eqb k x) ⊎ T (key (j ∷ ks) x) → (T (key (j ∷ ks) x) → OneOf (j ∷ ks) x) → (x ≡ k) ⊎ OneOf (j ∷ ks) x
    go (inl u) r = inl (sym (eqb→eq k x u))
    go (inr u) r = inr (r u)

key_in : (ks : List ℕ) (x : ℕ) → T (key ks x) → OneOf ks x
key_in [] x t = t
key_in (k ∷ ks) x t = key_one k ks x t

no_key : (kss : List (List ℕ)) (x : ℕ) → NoKey kss x → T (key_of kss x) → ⊥
no_key [] x n t = t
no_key (ks ∷ kss) x n t = go (or_cases (key ks x) (key_of kss x) t) (no_key kss x n.0)
  where
    go : T (key ks x) ⊎ T (key_of kss x) → (T (key_of kss x) → ⊥) → ⊥
    go (inl u) r = n.1 (key_in ks x u)
    go (inr u) r = r u

module _ {f : ℕ → ℕ} (t : Table f) where
  -- the entry x of the table
  entry : (x : ℕ) → x < length t.entries → get_or t.entries x 0 ≡ f x
  entry x h = table_at f t.entries (length t.entries) refl t.right x h

  -- a value at a key
  abbrev pub at_key : ℕ → ℕ → Bool
  at_key v k = ltb k (length t.entries) && eqb v (get_or t.entries k 0)

  pub at_right : (v k : ℕ) → T (at_key v k) → v ≡ f k
  at_right v k h =
      let a = ltb k (length t.entries) in
      let b = eqb v (get_or t.entries k 0) in
      eqb→eq v (get_or t.entries k 0) (second-of a b h) ∙ entry k (ltb→lt k (length t.entries) (first-of a b h))

  -- The function is what its table has, and 0 past it.
  pub got : (x : ℕ) → f x ≡ get_or t.entries x 0
  got x = go (ltb x (length t.entries)) refl
    where
      go : (b : Bool) → ltb x (length t.entries) ≡ b → f x ≡ get_or t.entries x 0
      go true e = sym (entry x (ltb-true x (length t.entries) e))
      go false e = let h = ltb-false x (length t.entries) e in t.beyond x h ∙ sym (get_or-eq_default t.entries 0 h)

  -- Between two numbers, where no arm has it as a key.
  pub between : {v x : ℕ} (kss : List (List ℕ)) (lo hi : ℕ) → T (run (λ k. key_of kss k || at_key v k) (hi - lo) lo) → NoKey kss x → lo ≤ x → x < hi → v ≡ f x
  between {v} {x} kss lo hi h n l u = go (or_cases (key_of kss x) (at_key v x) (run_at (λ k. key_of kss k || at_key v k) (hi - lo) lo x h l (omega arith)))
    where
      go : T (key_of kss x) ⊎ T (at_key v x) → v ≡ f x
      go (inl a) = absurd (no_key kss x n a)
      go (inr a) = at_right v x a

  -- From a number on, past the table too.
  pub upward : {x : ℕ} (kss : List (List ℕ)) (lo : ℕ) → T (run (λ k. key_of kss k || at_key 0 k) (length t.entries - lo) lo) → NoKey kss x → lo ≤ x → 0 ≡ f x
  upward {x} kss lo h n l = go (ltb x (length t.entries)) refl
    where
      go : (b : Bool) → ltb x (length t.entries) ≡ b → 0 ≡ f x
      go true e = between {v = 0} {x = x} kss lo (length t.entries) h n l (ltb→lt x (length t.entries) (rw e tt))
      go false e = sym (t.beyond x (ltb-false x (length t.entries) e))

-- Two sets meet: a decision by two tables, against a test of two numbers that is false past either table.
module _ {f g : ℕ → ℕ} (s : Table f) (t : Table g) (may : ℕ → ℕ → Bool) where
  -- The test in one row: at each entry of the second table.
  abbrev pub row : ℕ → ℕ → Bool
  row k m = every (λ c b. beq (not (eqb (bit_and m b) 0)) (may k c)) 0 t.entries

  -- The test over both tables.
  abbrev pub rows : Bool
  rows = every row 0 s.entries

  -- The decision is the test.
  pub met : T rows → ((k c : ℕ) → length s.entries ≤ k → may k c ≡ false) → ((k c : ℕ) → length t.entries ≤ c → may k c ≡ false)
      → (k c : ℕ) → not (eqb (bit_and (f k) (g c)) 0) ≡ may k c
  met r past-s past-t k c = go (ltb k (length s.entries)) refl (ltb c (length t.entries)) refl
    where
      go : (a : Bool) → ltb k (length s.entries) ≡ a → (b : Bool) → ltb c (length t.entries) ≡ b → not (eqb (bit_and (f k) (g c)) 0) ≡ may k c
      go false e b i = let h = ltb-false k (length s.entries) e in
          ap (λ (x : ℕ). not (eqb (bit_and x (g c)) 0)) (s.beyond k h) ∙ ap (λ (x : ℕ). not (eqb x 0)) (and_zero_l (g c)) ∙ sym (past-s k c h)
      go true e false i = let h = ltb-false c (length t.entries) i in
          ap (λ (x : ℕ). not (eqb (bit_and (f k) x) 0)) (t.beyond c h) ∙ ap (λ (x : ℕ). not (eqb x 0)) (and_zero_r (f k)) ∙ sym (past-t k c h)
      go true e true i =
          let p = ltb-true k (length s.entries) e in
          let q = ltb-true c (length t.entries) i in
          let its = at row s.entries 0 r k p in
          let one = at (λ d b. beq (not (eqb (bit_and (get_or s.entries k 0) b) 0)) (may k d)) t.entries 0 its c q in
          ap (λ (x : ℕ). not (eqb (bit_and x (g c)) 0)) (sym (entry s k p)) ∙ ap (λ (x : ℕ). not (eqb (bit_and (get_or s.entries k 0) x) 0)) (sym (entry t c q))
          ∙ (booleans_Decides _ _).0 (is_true _ one)
