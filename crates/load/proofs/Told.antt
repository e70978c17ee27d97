-- What a test of a call's result tells of what the call ensures.
-- Assumes nothing.
use mathlib.Core.Bool.{Bool, true}
use mathlib.Core.Path.{◌≡◌, sym, ◌∙◌, subst}
use lib.Dec.{T}

pub told-so : (b : Bool) {r : Bool} → b ≡ true → b ≡ r → T r
told-so b e q = subst T (sym e ∙ q) tt
