-- What tests pass exactly: a test made of others passes exactly where what they test holds.
-- Assumes nothing.
use Rattle.std.specs.Prelude.{Bool, true, false, ◌&&◌, ◌||◌, not, List, ◌↔◌, ◌≡◌, ℕ, zero, suc, ◌+◌, ◌<◌, ◌≤◌, T, eqb, ltb, leb}
use Rattle.std.proofs.Common.{subst, arith, eqb→eq, ltb→lt, lt→ltb, leb→le, le→leb}
use Rattle.std.proofs.Math.Dec.{eqb_refl}
use Rattle.text.proofs.Table.{first-of, second-of, pair}
use Rattle.text.specs.Lists.{all, some, count, Some}
use Rattle.text.proofs.ListLaws.{some-sound, some-complete, all-count}

-- Two tests both pass exactly where what each of them tests holds.
pub both : {P Q : Type 0} (a b : Bool) → T a ↔ P → T b ↔ Q → T (a && b) ↔ (P × Q)
both a b f g = (λ t. (f.0 (first-of a b t), g.0 (second-of a b t)), λ h. pair a b (f.1 h.0) (g.1 h.1))

-- What single tests test.
pub itself : (b : Bool) → T b ↔ T b
itself b = (λ t. t, λ t. t)

pub equal : (m n : ℕ) → T (eqb m n) ↔ (m ≡ n)
equal m n = (λ t. eqb→eq m n t, λ e. subst (λ (k : ℕ). T (eqb m k)) e (eqb_refl m))

pub less : (m n : ℕ) → T (ltb m n) ↔ (m < n)
less m n = (λ t. ltb→lt m n t, λ h. lt→ltb m n h)

pub no_more : (m n : ℕ) → T (leb m n) ↔ (m ≤ n)
no_more m n = (λ t. leb→le m n t, λ h. le→leb m n h)

-- Where the first passes the second does, as a test.
pub unless : {P Q : Type 0} (a b : Bool) → T a ↔ P → T b ↔ Q → T (not a || b) ↔ (P → Q)
unless true b f g = (λ t p. g.0 t, λ h. g.1 (h (f.0 tt)))
unless false b f g = (λ t p. absurd (f.1 p), λ h. tt)

-- All numbers below one pass exactly where each has what is tested.
below : (p : ℕ → Bool) (n a : ℕ) → ((j : ℕ) → a ≤ j → j < a + n → T (p j)) → T (all p (count n a))
unfolding all count
below p zero a f = tt
below p (suc n) a f = pair (p a) (all p (count n (suc a))) (f a (omega arith) (omega arith)) (below p n (suc a) (λ j l h. f j (omega arith) (omega arith)))

pub below-exactly : {P : ℕ → Type 0} (p : ℕ → Bool) → ((j : ℕ) → T (p j) ↔ P j) → (n : ℕ) → T (all p (count n 0)) ↔ ((j : ℕ) → j < n → P j)
below-exactly p f n = (λ t j h. (f j).0 (all-count p n 0 j t (omega arith) (omega arith)), λ g. below p n 0 (λ j l h. (f j).1 (g j (omega arith))))

-- Some of a list passes exactly where one has it.
pub some-exactly : {A : Type 0} {P : A → Type 0} (p : A → Bool) → ((a : A) → T (p a) ↔ P a) → (l : List A) → T (some p l) ↔ Some P l
some-exactly p f l = (some-sound p (λ a. (f a).0) l, λ s. some-complete p (λ a. (f a).1) s)
