-- The rest of a draft from a place on: its first bytes, and what it begins with.
-- Assumes nothing.
use mathlib.Core.Bool.{Bool, true, false, ◌&&◌, and-true}
use mathlib.Core.List.{List, [], ◌∷◌}
use mathlib.Core.Path.{◌≡◌, refl, sym, ap}
use Prim.Native.Nat.{ℕ, suc, ◌<◌}
use native.Mathlib.Omega.{arith}
use borrow.Author.Tests.{leb-true, leb-false}
use lib.Dec.{eqb, leb, eqb-zero-suc}
use lib.ListN.{length, get_or, get_or-eq_default}
use Rattle.lexer.specs.Chars.{first, begins}
pub use Rattle.text.proofs.Rest.{rest-cons, rest-drop, rest-take}
pub use Rattle.lexer.proofs.Moves.{rest-first}

-- what a text begins with, byte by byte; no byte that is asked for is 0
pub begins-one : (x : ℕ) (r : List ℕ) → begins (suc x ∷ []) r ≡ eqb (first r) (suc x)
unfolding begins
begins-one x [] = sym (eqb-zero-suc x)
begins-one x (b ∷ r) = and-true (eqb b (suc x))

pub begins-two : (x y : ℕ) (r : List ℕ) → begins (suc x ∷ suc y ∷ []) r ≡ (eqb (first r) (suc x) && eqb (get_or r 1 0) (suc y))
unfolding begins
begins-two x y [] = rw (eqb-zero-suc x) refl
begins-two x y (b ∷ r) = ap (λ t. eqb b (suc x) && t) (begins-one y r)

-- a byte other than 0 stands within the draft
pub there : (s : List ℕ) (k x : ℕ) → get_or s k 0 ≡ suc x → k < length s
there s k x e = go (leb (length s) k) refl
  where
    go : (t : Bool) → leb (length s) k ≡ t → k < length s
    go true q = let z = get_or-eq_default s 0 (leb-true _ _ q) in absurd (omega arith)
    go false q = leb-false _ _ q
