-- What the cue of a child comes to, case by case of the code.
-- Assumes nothing.
use Rattle.std.specs.Prelude.{Some}
use mathlib.Core.Bool.{Bool, false, cond}
use mathlib.Core.List.{[], ◌∷◌}
use mathlib.Core.Path.{◌≡◌, refl, sym, ◌∙◌}
use Prim.Native.Nat.{ℕ}
use native.Mathlib.Omega.{arith}
use borrow.Author.Tests.{lt-ltb}
use Rattle.text.specs.Lists.{count, span}
use Rattle.num.specs.Bound.{bound_ok}
use Rattle.kinds.specs.Groups.{category_set}
use Rattle.load.specs.Children.Cue as cue
use Rattle.load.specs.Children.Cue.{place_from, kind_cue, number_cue, refined, cue}

-- The cue, by the set of the category.
pub cue_by : (k low high : ℕ) → cue k low high ≡ refined (place_from cue.Name (1 ∷ 2 ∷ 4 ∷ 8 ∷ 16 ∷ 32 ∷ 64 ∷ 128 ∷ 256 ∷ 512 ∷ 1024 ∷ 2048 ∷ []) (category_set k)) low high
unfolding cue kind_cue count span
cue_by k low high = refl

-- A number that is no bound is a size, unless it is 0.
pub number-size : (n : ℕ) {b : Bool} → b ≡ bound_ok (Some n) → b ≡ false → (n ≡ 0 → ⊥) → cue.Size ≡ number_cue n
unfolding number_cue bound_ok
number-size n e f z = λ i. cond ((sym f ∙ e) i) cue.Bound (cond (sym (lt-ltb 0 n (omega (arith, z))) i) cue.Size cue.Zero)
