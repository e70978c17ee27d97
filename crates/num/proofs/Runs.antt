-- The bytes of a run without `_`, from a place on: what a loop over the run keeps.
-- Assumes nothing.
use mathlib.Core.List.{List, [], ◌∷◌}
use mathlib.Core.Path.{◌≡◌, refl}
use Prim.Native.Nat.{ℕ, ◌+◌, ◌≤◌, ◌<◌}
use native.Mathlib.Numerals.{add-one}
use borrow.Author.Tests.{eq-eqb, ne_eqb}
use lib.ListN.{length, get_or, drop, drop_of_length-le}
use lib.Seq.{drop-cons}
use Rattle.num.specs.Digits.{plain}

module _ (p : List ℕ) (i : ℕ) where
  pub passed : i < length p → get_or p i 0 ≡ 95 → plain (drop i p) ≡ plain (drop (i + 1) p)
  unfolding plain
  passed h e = rw (add-one i, drop-cons p i 0 h, eq-eqb _ _ e) refl

  pub kept : i < length p → (get_or p i 0 ≡ 95 → ⊥) → plain (drop i p) ≡ get_or p i 0 ∷ plain (drop (i + 1) p)
  unfolding plain
  kept h e = rw (add-one i, drop-cons p i 0 h, ne_eqb _ _ e) refl

  pub over : length p ≤ i → plain (drop i p) ≡ []
  unfolding plain
  over h = rw (drop_of_length-le p h) refl
