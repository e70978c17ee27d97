-- `word_of` by membership: the bytes that it finds are those of the list.
-- Assumes nothing.
use Rattle.std.specs.Prelude.{Bool, ◌≡◌, ℕ, zero, suc, ◌<◌, T, length, get_or}
use mathlib.Core.List.{List, [], ◌∷◌, Memᴰ}
use Rattle.std.proofs.Common.{sym, subst, le_of_suc-le-suc, not-suc-le-zero, arith}
use Rattle.text.specs.Table.{every}
use Rattle.text.proofs.Table.{at}
use Rattle.words.proofs.Right.{Says, says}
use Rattle.words.specs.Words.{word_of}
use Rattle.std.specs.Prelude.{Some, None}

at-member : {A : Type 0} (l : List A) (d a : A) (k : ℕ) → k < length l → get_or l k d ≡ a → Memᴰ a l
at-member [] d a k h e = absurd (not-suc-le-zero h)
at-member (x ∷ l) d a zero h e = Memᴰ.head (sym e)
at-member (x ∷ l) d a (suc k) h e = Memᴰ.tail (at-member l d a k (le_of_suc-le-suc h) e)

member-at : {A : Type 0} (d : A) {a : A} {l : List A} → Memᴰ a l → (k : ℕ) × (k < length l) × (get_or l k d ≡ a)
member-at d (Memᴰ.head e) = (0, omega arith, sym e)
member-at d (Memᴰ.tail m) = let r = member-at d m in let h = r.1 in (suc r.0, omega arith, r.2)

-- What is found is in the list,
pub found_in : (ws : List (List ℕ)) (p : List ℕ) (k : ℕ) → word_of ws p ≡ Some k → Memᴰ p ws
found_in ws p k e = let s = subst (Says ws p) e (says ws p) in at-member ws [] p k s.0 s.1

-- and what is plain is not.
pub plain_out : (ws : List (List ℕ)) (p : List ℕ) → word_of ws p ≡ None → Memᴰ p ws → ⊥
plain_out ws p e m = let r = member-at [] m in subst (Says ws p) e (says ws p) r.0 r.1 r.2

-- A test that passes at each word of a list and its place passes at what is found.
pub found-passes : (f : ℕ → List ℕ → Bool) (ws : List (List ℕ)) → T (every f 0 ws) → (p : List ℕ) (k : ℕ) → word_of ws p ≡ Some k → T (f k p)
found-passes f ws t p k e = let s = subst (Says ws p) e (says ws p) in subst (λ w. T (f k w)) s.1 (at f ws [] t k s.0)
