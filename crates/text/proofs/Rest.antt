-- The rest of a text from a place on.
-- Assumes nothing.
use Rattle.std.specs.Prelude.{List, [], ◌∷◌, ◌≡◌, ℕ, zero, suc, ◌+◌, ◌-◌, ◌≤◌, ◌<◌, length, get_or, take, drop}
use Rattle.std.proofs.Common.{sym, ◌∙◌, ap, arith, drop-cons, drop-drop}
use Rattle.std.proofs.Math.Seq.{take-nil}

pub rest-cons : (s : List ℕ) (i b : ℕ) → i < length s → get_or s i 0 ≡ b → drop i s ≡ b ∷ drop (suc i) s
rest-cons s i b h e = drop-cons s i 0 h ∙ ap (λ x. x ∷ drop (suc i) s) e

pub rest-drop : (s : List ℕ) (i n k : ℕ) → i + n ≡ k → drop n (drop i s) ≡ drop k s
rest-drop s i n k e = drop-drop n i s ∙ ap (λ m. drop m s) e

-- the rest of a part that ends at e
pub rest-take : (s : List ℕ) (i e : ℕ) → drop i (take e s) ≡ take (e - i) (drop i s)
rest-take s zero e = ap (λ n. take n s) (let z : e ≡ e - 0 = omega arith in z)
rest-take s (suc i) zero = ap (λ n. take n (drop (suc i) s)) (let z : 0 ≡ 0 - suc i = omega arith in z)
rest-take [] (suc i) (suc e) = sym (take-nil (suc e - suc i))
rest-take (x ∷ s) (suc i) (suc e) = rest-take s i e ∙ ap (λ n. take n (drop i s)) (let z : e - i ≡ suc e - suc i = omega arith in z)

-- a part is no longer than asked, nor than the text
pub part-short : (n : ℕ) (s : List ℕ) → (length (take n s) ≤ n) × (length (take n s) ≤ length s)
part-short zero s = (omega arith, omega arith)
part-short (suc n) [] = (omega arith, omega arith)
part-short (suc n) (x ∷ s) = let h = part-short n s in let a = h.0 in let b = h.1 in (omega arith, omega arith)
