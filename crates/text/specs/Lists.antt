-- What is asked of the entries of a list: whether a number is one of them, whether all pass a test, whether some do, which do.
-- With the lists of numbers one after the other.
-- Assumes nothing.
use Rattle.std.specs.Prelude.{Bool, true, false, ◌&&◌, ◌||◌, cond, List, [], ◌∷◌, ℕ, zero, suc, ◌-◌, eqb}

unfoldable pub has : List ℕ → ℕ → Bool
has [] n = false
has (m ∷ l) n = eqb m n || has l n

-- Whether all of a list pass a test.
unfoldable pub all {ℓ} : {A : Type ℓ} → (A → Bool) → List A → Bool
all p [] = true
all p (a ∷ l) = p a && all p l

-- Whether some of a list passes it.
unfoldable pub some {ℓ} : {A : Type ℓ} → (A → Bool) → List A → Bool
some p [] = false
some p (a ∷ l) = p a || some p l

-- Those of a list that pass it, in their order.
abbrev pub keep {ℓ} : {A : Type ℓ} → (A → Bool) → List A → List A
keep p [] = []
keep p (a ∷ l) = cond (p a) (a ∷ keep p l) (keep p l)

-- The n numbers from a on; the numbers from a to b.
unfoldable pub count : ℕ → ℕ → List ℕ
count zero a = []
count (suc n) a = a ∷ count n (suc a)

unfoldable pub span : ℕ → ℕ → List ℕ
span a b = count (suc b - a) a

pub data Some {A : Type 0} (P : A → Type 0) : List A → Type 0 where
  here : {a : A} {l : List A} → P a → Some P (a ∷ l)
  there : {a : A} {l : List A} → Some P l → Some P (a ∷ l)
