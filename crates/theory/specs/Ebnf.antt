-- A grammar as people write it: for each kind of node an expression over token classes and categories of nodes; and the trees that
-- it has.
-- Assumes nothing.
use Rattle.std.specs.Prelude.{◌≡◌, List, [], ◌∷◌, ◌++◌, ℕ, suc, ◌≤◌, ◌<◌, length, take, get_or}
use Rattle.std.proofs.Math.Option.{some}
use Rattle.std.proofs.Math.ListN.{get_elem?}

-- An expression: nothing; a token of a class; a node of a category; a part that has a name; one after the other; one or the other; any number of them;
-- a list of them with a token of the class after each, but perhaps not after the last (`list`); what may stand after an item of such a list (`tail`).
pub data Ex : Type 0 where
  eps : Ex
  mark child part : ℕ → Ex
  seq or : Ex → Ex → Ex
  many : Ex → Ex
  list tail : Ex → ℕ → Ex
  deriving Discrete as Ex-discrete

-- A grammar: the kinds of nodes that each category has, each kind's expression, and the expressions of the named parts.
pub record Ebnf : Type 0 where
  pub kinds : List (List ℕ)
  pub bodies : List Ex
  pub parts : List Ex

-- An expression as a row of expressions, none of which is a sequence.
unfoldable pub items : Ex → List Ex
items eps = []
items (mark c) = mark c ∷ []
items (child C) = child C ∷ []
items (part P) = part P ∷ []
items (seq e f) = items e ++ items f
items (or e f) = or e f ∷ []
items (many e) = many e ∷ []
items (list e c) = list e c ∷ []
items (tail e c) = tail e c ∷ []

-- An expression as its alternatives, none of which is a choice.
unfoldable pub branches : Ex → List (List Ex)
branches eps = [] ∷ []
branches (mark c) = (mark c ∷ []) ∷ []
branches (child C) = (child C ∷ []) ∷ []
branches (part P) = (part P ∷ []) ∷ []
branches (seq e f) = (items e ++ items f) ∷ []
branches (or e f) = branches e ++ branches f
branches (many e) = (many e ∷ []) ∷ []
branches (list e c) = (list e c ∷ []) ∷ []
branches (tail e c) = (tail e c ∷ []) ∷ []

-- What an expression may be replaced by; a token and a node by nothing, since they are matched as they are.
unfoldable pub choices : Ebnf → Ex → List (List Ex)
choices t eps = [] ∷ []
choices t (mark c) = []
choices t (child C) = []
choices t (part P) = branches (get_or t.parts P eps)
choices t (seq e f) = (items e ++ items f) ∷ []
choices t (or e f) = branches e ++ branches f
choices t (many e) = [] ∷ (items e ++ (many e ∷ [])) ∷ []
choices t (list e c) = [] ∷ (items e ++ (tail e c ∷ [])) ∷ []
choices t (tail e c) = [] ∷ (mark c ∷ list e c ∷ []) ∷ []

-- The kinds of a category, and the expressions of a node of a kind.
unfoldable pub kinds_of : Ebnf → ℕ → List ℕ
kinds_of t C = get_or t.kinds C []

unfoldable pub body_of : Ebnf → ℕ → List Ex
body_of t k = items (get_or t.bodies k eps)

-- Trees side by side: nothing; a token of a class and what follows; a node of a kind with its own items, and what follows.
pub data Items : Type 0 where
  nil : Items
  word : ℕ → Items → Items
  sub : ℕ → Items → Items → Items

unfoldable pub yield : Items → List ℕ
yield nil = []
yield (word c r) = c ∷ yield r
yield (sub k js r) = yield js ++ yield r

-- The items are what the expressions say, and so within each node.
pub data Match (t : Ebnf) : List Ex → Items → Type 0 where
  m_end : Match t [] nil
  m_word : {c : ℕ} {es : List Ex} {r : Items} → Match t es r → Match t (mark c ∷ es) (word c r)
  m_sub : {C k : ℕ} {es : List Ex} {js r : Items} (i : ℕ) → get_elem? (kinds_of t C) i ≡ some k → Match t (body_of t k) js → Match t es r → Match t (child C ∷ es) (sub k js r)
  m_choice : {e : Ex} {es α : List Ex} {r : Items} (i : ℕ) → get_elem? (choices t e) i ≡ some α → Match t (α ++ es) r → Match t (e ∷ es) r

-- Trees side by side of the expression e, with the tokens ts.
abbrev pub Tree : Ebnf → Ex → List ℕ → Type 0
Tree t e ts = (r : Items) × Match t (e ∷ []) r × (yield r ≡ ts)

-- The tokens s are first wrong at the place p: those before it begin some tree's; with the token there they begin no tree's; and if
-- there is none, at the end, they are no tree's.
pub record FirstWrong (t : Ebnf) (e : Ex) (s : List ℕ) (p : ℕ) : Type 0 where
  pub within : p ≤ length s
  pub before : (more : List ℕ) × Tree t e (take p s ++ more)
  pub further : p < length s → (more : List ℕ) → Tree t e (take (suc p) s ++ more) → ⊥
  pub ended : p ≡ length s → Tree t e s → ⊥

-- The three sorts of expressions: a token, a node, or one that is replaced by others.
pub data Sort : Type 0 where
  token : ℕ → Sort
  node : ℕ → Sort
  flat : Sort

-- The sort of an expression.
unfoldable pub sort_of : Ex → Sort
sort_of eps = flat
sort_of (mark c) = token c
sort_of (child C) = node C
sort_of (part P) = flat
sort_of (seq e f) = flat
sort_of (or e f) = flat
sort_of (many e) = flat
sort_of (list e c) = flat
sort_of (tail e c) = flat
