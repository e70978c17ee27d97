-- Law 3, ownership: demand 3 on the tokens and the records that are handed over, children found through the sizes.
-- It speaks of the two lists alone. A rule is any statement on a kind, low, high and what a record owns with its children.
-- Assumes nothing.
use Rattle.std.specs.Prelude.{cond, List, [], ◌∷◌, map, ◌≢◌, ◌⊎◌, ◌≡◌, ℕ, ◌<◌, ◌≤◌, T, eqb, length, get_or}
use Rattle.own.specs.Tree.{Tok, Items, none, mark, sub, Node, yield, partner, Rec}
use Rattle.own.specs.Flat.{blank, blank_tok, children, owned, total, Piece, tok, part, merge, Owner}
use Rattle.own.specs.Kinds as kind

-- A piece as a rule sees it: a token by its class; a child by its kind, low and high and the class of the token that it begins with.
pub data Sort : Type 0 where
  word : ℕ → Sort
  child : ℕ → ℕ → ℕ → ℕ → Sort

-- The class of the token that starts at a place.
abbrev pub class_at : List Tok → ℕ → ℕ
class_at [] at = 0
class_at (t ∷ ts) at = cond (eqb t.start at) t.class (class_at ts at)

abbrev pub sort_of : List Tok → Piece → Sort
sort_of ts (tok t) = word t.class
sort_of ts (part r) = child r.kind r.low r.high (class_at ts r.start)

-- What the record j owns, with its children in order of place, as a rule sees it.
abbrev pub made : List Tok → List Rec → ℕ → List Sort
made ts rs j = map (sort_of ts) (merge (children rs j) (owned ts rs j))

-- A rule: of a kind, low and high, what is spelled.
abbrev pub Rule : Type 1
Rule = ℕ → ℕ → ℕ → List Sort → Type 0

abbrev pub first_class : List Tok → ℕ
first_class [] = 0
first_class (t ∷ ts) = t.class

-- What a node is made of, as a rule sees it.
abbrev pub sorts : Items → List Sort
sorts none = []
sorts (mark t r) = word t.class ∷ sorts r
sorts (sub k l h js r) = child k l h (first_class (yield js)) ∷ sorts r

-- A node keeps the rule of its kind, low and high.
abbrev pub Keeps : Rule → Node → Type 0
Keeps R n = R n.kind n.low n.high (sorts n.items)

-- Children in order of place between two places: each starts where the one before ends, or later.
abbrev pub Ordered : ℕ → ℕ → List Rec → Type 0
Ordered lo hi [] = lo ≤ hi
Ordered lo hi (c ∷ cs) = (lo ≤ c.start) × (c.start < c.stop) × Ordered c.stop hi cs

-- The children of a match with built-in arms: the expression, the arm that is Left, None or False, its partner; in order of place so, or the arms exchanged.
pub record Canonical (lo hi : ℕ) (cs : List Rec) : Type 0 where
  pub matched : Rec
  pub first : Rec
  pub second : Rec
  pub they_are : cs ≡ matched ∷ first ∷ second ∷ []
  pub first_arm : first.kind ≡ kind.BuiltinArm
  pub second_arm : second.kind ≡ kind.BuiltinArm
  pub partners : T (partner first.low second.low)
  pub places : Ordered lo hi (matched ∷ first ∷ second ∷ []) ⊎ Ordered lo hi (matched ∷ second ∷ first ∷ [])

-- Law 3, of the rule R, the tokens ts and the records rs.
pub record Ownership (R : Rule) (ts : List Tok) (rs : List Rec) : Type 0 where
  -- (a) Each token has exactly one owner, which holds it; every other record that holds it is longer.
  pub owner : (i : ℕ) → i < length ts → Owner rs (get_or ts i blank_tok)
  -- (b) Each record owns at least one token.
  pub some : (j : ℕ) → j < length rs → 0 < length (owned ts rs j)
  -- (c) What a record owns, with its children in order of place, spells the rule of its kind, low and high.
  pub spelled : (j : ℕ) → j < length rs → R (get_or rs j blank).kind (get_or rs j blank).low (get_or rs j blank).high (made ts rs j)
  -- (d) The number of tokens is the sum of what the records own, and there are no more records than tokens.
  pub sum : total (λ j. length (owned ts rs j)) (length rs) ≡ length ts
  pub few : length rs ≤ length ts
  -- (e) In each match with built-in arms (`kind.Match`) these are in the canonical order; all other children are in order of place.
  pub canonical : (j : ℕ) → j < length rs → (get_or rs j blank).kind ≡ kind.Match → Canonical (get_or rs j blank).start (get_or rs j blank).stop (children rs j)
  pub ordered : (j : ℕ) → j < length rs → (get_or rs j blank).kind ≢ kind.Match → Ordered (get_or rs j blank).start (get_or rs j blank).stop (children rs j)
