-- All of a list have, and exactly one has.
-- Assumes nothing.
use Rattle.std.specs.Prelude.{List, [], ◌∷◌}

infixr 60 ◌&◌
-- All of a list have P.
pub data All {A : Type 0} (P : A → Type 0) : List A → Type 0 where
  nil : All P []
  ◌&◌ : {a : A} {l : List A} → P a → All P l → All P (a ∷ l)

-- Exactly one has P, and all others have Q.
pub data Only {A : Type 0} (P Q : A → Type 0) : List A → Type 0 where
  here : {a : A} {l : List A} → P a → All Q l → Only P Q (a ∷ l)
  there : {a : A} {l : List A} → Q a → Only P Q l → Only P Q (a ∷ l)
