-- Runs of stores into a list, one behind the other.
-- Assumes nothing.
use Rattle.std.specs.Prelude.{List, [], ◌∷◌, ◌++◌, ◌≡◌, refl, ℕ, suc, ◌+◌, ◌<◌, ◌≤◌, length, set}
use Rattle.std.proofs.Common.{sym, ap, ◌∙◌, arith, add-zero}
use Rattle.std.proofs.lemmas.List.{set_comm}
use Rattle.std.proofs.lemmas.List.Edits.{sets}

-- Stores of two lists are those of the first, and those of the second behind it.
pub sets-append : (a b l : List ℕ) (i : ℕ) → sets l i (a ++ b) ≡ sets (sets l i a) (i + length a) b
sets-append [] b l i = ap (λ (k : ℕ). sets l k b) (sym (add-zero i))
sets-append (x ∷ a) b l i = sets-append a b (set l i x) (suc i) ∙ ap (λ (k : ℕ). sets (sets (set l i x) (suc i) a) k b) (omega arith)

-- Two runs, where the second begins behind the first, are one.
pub sets-next : (l : List ℕ) {l₁ l₂ : List ℕ} (a b : List ℕ) (i j : ℕ) → l₁ ≡ sets l i a → l₂ ≡ sets l₁ j b → i + length a ≡ j → l₂ ≡ sets l i (a ++ b)
sets-next l a b i j p q e = q ∙ (λ k. sets (p k) (sym e k) b) ∙ sym (sets-append a b l i)

-- A store in front of a run can be made after it,
pub sets-set : (ws l : List ℕ) (i j x : ℕ) → i < j → sets (set l i x) j ws ≡ set (sets l j ws) i x
sets-set [] l i j x h = refl
sets-set (w ∷ ws) l i j x h =
    ap (λ (m : List ℕ). sets m (suc j) ws) (set_comm l i j x w (omega arith)) ∙ sets-set ws (set l j w) i (suc j) x (omega arith)

-- and so can a run in front.
pub sets-sets : (vs ws l : List ℕ) (i j : ℕ) → i + length vs ≤ j → sets (sets l i vs) j ws ≡ sets (sets l j ws) i vs
sets-sets [] ws l i j h = refl
sets-sets (v ∷ vs) ws l i j h = sets-sets vs ws (set l i v) (suc i) j (omega arith) ∙ ap (λ (m : List ℕ). sets m (suc i) vs) (sets-set ws l i j v (omega arith))
