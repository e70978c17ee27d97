-- The record tree: what a reader finds in a draft, and the two flat lists that it hands over, tokens and records
-- (document 01, "Records and the marks they own"). One draft gives a list of trees side by side; one function is the list of one.
-- Assumes nothing.
use Rattle.std.specs.Prelude.{Bool, true, false, ◌&&◌, ◌||◌, List, [], ◌∷◌, ◌++◌, map, ◌≡◌, ℕ, ◌<◌, ◌≤◌, T, eqb, length}
use Rattle.text.specs.Lists.{some}
use Rattle.own.specs.Kinds as kind
use Rattle.own.specs.Arms as arm

-- A token: its class (the word or the macro itself, otherwise its kind), where it starts, and the byte after its end.
pub record Tok : Type 0 where
  pub class : ℕ
  pub start : ℕ
  pub stop : ℕ

unfoldable pub classes_of : List Tok → List ℕ
classes_of = map (λ t. t.class)

-- What a node is made of, in the order of the text: tokens of its own, and nodes (kind, low, high and what each is made of).
pub data Items : Type 0 where
  none : Items
  mark : Tok → Items → Items
  sub : ℕ → ℕ → ℕ → Items → Items → Items

-- A node of the tree: the fields of its record, and what it is made of.
pub record Node : Type 0 where
  pub kind : ℕ
  pub low : ℕ
  pub high : ℕ
  pub items : Items

abbrev pub node : ℕ → ℕ → ℕ → Items → Node
node k l h is = record { kind = k; low = l; high = h; items = is }

-- Trees side by side as items: what a record above them has, that owns nothing.
abbrev pub roots : List Node → Items
roots [] = none
roots (n ∷ ns) = sub n.kind n.low n.high n.items (roots ns)

-- In the order of the text: all tokens; the tokens of its own; the nodes right beneath.
abbrev pub yield : Items → List Tok
yield none = []
yield (mark t r) = t ∷ yield r
yield (sub k l h js r) = yield js ++ yield r

abbrev pub marks : Items → List Tok
marks none = []
marks (mark t r) = t ∷ marks r
marks (sub k l h js r) = marks r

abbrev pub kids : Items → List Node
kids none = []
kids (mark t r) = kids r
kids (sub k l h js r) = node k l h js ∷ kids r

-- P holds of every node beneath.
abbrev pub Each : (Node → Type 0) → Items → Type 0
Each P none = Unit {0}
Each P (mark t r) = Each P r
Each P (sub k l h js r) = P (node k l h js) × Each P js × Each P r

-- Where tokens begin, and where they end; at, if there is none.
abbrev pub begin : List Tok → ℕ
begin [] = 0
begin (t ∷ ts) = t.start

abbrev pub end : ℕ → List Tok → ℕ
end at [] = at
end at (t ∷ ts) = end t.stop ts

-- Low of a built-in arm and of its partner, in the canonical order.
unfoldable pub partner : ℕ → ℕ → Bool
unfolding some
partner a b = some (λ p. eqb a p.0 && eqb b p.1) arm.partners

-- Two built-in arms in the canonical order.
unfoldable pub canonical : Node → Node → Bool
canonical a b = eqb a.kind kind.BuiltinArm && (eqb b.kind kind.BuiltinArm && partner a.low b.low)

-- Of the parts of a match, an expression and two built-in arms: the arms are partners, in either order.
abbrev pub paired : List Node → Bool
paired [] = false
paired (e ∷ []) = false
paired (e ∷ a ∷ []) = false
paired (e ∷ a ∷ b ∷ []) = canonical a b || canonical b a
paired (e ∷ a ∷ b ∷ c ∷ l) = false

-- The arms are partners, written the other way round.
abbrev pub reversed : List Node → Bool
reversed [] = false
reversed (e ∷ []) = false
reversed (e ∷ a ∷ []) = false
reversed (e ∷ a ∷ b ∷ []) = canonical b a
reversed (e ∷ a ∷ b ∷ c ∷ l) = false

-- A node whose arms are exchanged when it is handed over: a match whose two built-in arms are written the other way round.
unfoldable pub turned : ℕ → Items → Bool
turned k is = eqb k kind.Match && reversed (kids is)

module _ {A : Type 0} where
  -- Of three, the second and the third exchanged.
  abbrev pub exchange : List A → List A
  exchange [] = []
  exchange (a ∷ []) = a ∷ []
  exchange (a ∷ b ∷ []) = a ∷ b ∷ []
  exchange (e ∷ a ∷ b ∷ []) = e ∷ b ∷ a ∷ []
  exchange (e ∷ a ∷ b ∷ c ∷ l) = e ∷ a ∷ b ∷ c ∷ l

  abbrev pub arrange : Bool → List A → List A
  arrange true l = exchange l
  arrange false l = l

  abbrev pub concat : List (List A) → List A
  concat [] = []
  concat (a ∷ l) = a ++ concat l

-- Of each node right beneath, in the order of the text: that node and all beneath it, in the order handed over.
abbrev pub groups : Items → List (List Node)
groups none = []
groups (mark t r) = groups r
groups (sub k l h js r) = (node k l h js ∷ concat (arrange (turned k js) (groups js))) ∷ groups r

-- A node and all beneath it, in the order handed over.
abbrev pub nodes : Node → List Node
nodes n = n ∷ concat (arrange (turned n.kind n.items) (groups n.items))

-- The nodes right beneath, in the order handed over.
abbrev pub below : Node → List Node
below n = arrange (turned n.kind n.items) (kids n.items)

-- A record: the first six of its words. The place runs from start to stop, the byte after its last token.
pub record Rec : Type 0 where
  pub kind : ℕ
  pub start : ℕ
  pub stop : ℕ
  pub low : ℕ
  pub high : ℕ
  pub size : ℕ

-- The record of a node: from the start of its first token to the end of its last; size counts it and all beneath it.
abbrev pub record_of : Node → Rec
record_of n =
    record { kind = n.kind; start = begin (yield n.items); stop = end 0 (yield n.items); low = n.low; high = n.high; size = length (nodes n) }

-- What is handed over of trees side by side: the tokens, in the order of the text.
abbrev pub tokens : List Node → List Tok
tokens ns = yield (roots ns)

-- What is handed over of trees side by side: their nodes, in the order handed over, and the records of these.
abbrev pub all : List Node → List Node
all ns = concat (groups (roots ns))

abbrev pub records : List Node → List Rec
records ns = map record_of (all ns)

-- Tokens in order from a place on: none is empty, and each starts where the one before ends, or later.
abbrev pub InOrder : ℕ → List Tok → Type 0
InOrder at [] = Unit {0}
InOrder at (t ∷ ts) = (at ≤ t.start) × (t.start < t.stop) × InOrder t.stop ts

-- A node has a token of its own.
abbrev pub Owning : Node → Type 0
Owning n = 0 < length (marks n.items)

-- Every node beneath has a token of its own.
abbrev pub Marked : Items → Type 0
Marked = Each Owning

-- A match has two built-in arms that are partners.
abbrev pub Paired : Node → Type 0
Paired n = n.kind ≡ kind.Match → T (paired (kids n.items))

-- The trees that the laws speak of.
pub record Fine (ns : List Node) : Type 0 where
  pub ordered : InOrder 0 (tokens ns)
  pub marked : Marked (roots ns)
  pub paired : Each Paired (roots ns)
