-- What document 01 says of places, children and owners, on the flat lists of tokens and records that are handed over.
-- Assumes nothing.
use Rattle.std.specs.Prelude.{Bool, ◌&&◌, not, cond, List, [], ◌∷◌, map, ◌≢◌, ◌≡◌, ℕ, zero, suc, ◌+◌, ◌-◌, ◌<◌, T, leb, ltb, length, get_or, take, drop}
use Rattle.text.specs.Lists.{some, keep}
use Rattle.own.specs.Tree.{Tok, Rec}

-- "A place holds the tokens wholly inside it".
abbrev pub holds : Rec → Tok → Bool
holds r t = leb r.start t.start && leb t.stop r.stop

abbrev pub width : Rec → ℕ
width r = r.stop - r.start

-- The token and the record past the end of a list.
abbrev pub blank_tok : Tok
blank_tok = record { class = 0; start = 0; stop = 0 }

abbrev pub blank : Rec
blank = record { kind = 0; start = 0; stop = 0; low = 0; high = 0; size = 0 }

-- The records that stand side by side from the front of a list on, each past all that is beneath the one before; at most f.
abbrev pub row : ℕ → List Rec → List Rec
row zero rs = []
row (suc f) [] = []
row (suc f) (r ∷ rs) = r ∷ row f (drop (r.size - 1) rs)

-- The children of the first record, and of the record j, through the sizes.
abbrev pub head_children : List Rec → List Rec
head_children [] = []
head_children (r ∷ rs) = row r.size (take (r.size - 1) rs)

abbrev pub children : List Rec → ℕ → List Rec
children rs j = head_children (drop j rs)

-- "A record owns what its place holds and no child's does": whether the record j owns the token.
abbrev pub owns : List Rec → ℕ → Tok → Bool
owns rs j t = holds (get_or rs j blank) t && not (some (λ c. holds c t) (children rs j))

-- The tokens that the record j owns, in the order of the text.
abbrev pub owned : List Tok → List Rec → ℕ → List Tok
owned ts rs j = keep (owns rs j) ts

abbrev pub total : (ℕ → ℕ) → ℕ → ℕ
total f zero = 0
total f (suc n) = f 0 + total (λ j. f (suc j)) n

-- A token that a record owns, or a child of it.
pub data Piece : Type 0 where
  tok : Tok → Piece
  part : Rec → Piece

abbrev pub from : Piece → ℕ
from (tok t) = t.start
from (part r) = r.start

-- A child put among pieces that are in order of place.
abbrev pub put : Rec → List Piece → List Piece
put r [] = part r ∷ []
put r (p ∷ l) = cond (ltb r.start (from p)) (part r ∷ p ∷ l) (p ∷ put r l)

-- What a record owns with its children, in order of place.
abbrev pub merge : List Rec → List Tok → List Piece
merge [] ts = map tok ts
merge (c ∷ cs) ts = put c (merge cs ts)

-- Exactly one record owns the token: its place holds it, and every other record whose place holds it is longer.
pub record Owner (rs : List Rec) (t : Tok) : Type 0 where
  pub at : ℕ
  pub there : at < length rs
  pub its : T (owns rs at t)
  pub inside : T (holds (get_or rs at blank) t)
  pub only : (j : ℕ) → j < length rs → T (owns rs j t) → j ≡ at
  pub smallest : (j : ℕ) → j < length rs → j ≢ at → T (holds (get_or rs j blank) t) → width (get_or rs at blank) < width (get_or rs j blank)
