-- Which records a listing may have: order 1, that they "form one function by document 01's kinds table", and order 3, that it "takes both tops".
-- Flat and local: each record by itself with its children, which the sizes find.
-- Assumes nothing: these are definitions.
use Rattle.std.specs.Prelude.{Bool, ◌&&◌, ◌||◌, not, List, [], ◌∷◌, map, ◌≢◌, ◌≡◌, ℕ, suc, ◌+◌, ◌<◌, ◌≤◌, T, eqb, length, get_or}
use Rattle.text.specs.Lists.{Some}
use Rattle.own.specs.Tree.{Rec, Node, node, none, reversed}
use Rattle.own.specs.Flat.{blank, children}
use Rattle.own.specs.Lists.{All}
use Rattle.own.specs.Kinds as kind
use Rattle.kinds.specs.Rules.{Form}
use Rattle.kinds.specs.Decide.{forms_for}
use Rattle.kinds.specs.Spelled.{Written}
use Rattle.load.specs.Bare.{bare, bare_form}

-- The children are those of this form of the kinds table, with this low and high: "children in the table's order, fields and arms that its rules and
-- refusals 9 to 14 allow".
abbrev pub Fits : ℕ → ℕ → List Rec → Form → Type 0
Fits low high cs f = Written low high (map bare cs) (bare_form f)

-- A child as a node with nothing beneath.
abbrev pub alone : Rec → Node
alone r = node r.kind r.low r.high none

-- How many records stand in the list for these side by side and all beneath them.
abbrev pub sizes : List Rec → ℕ
sizes [] = 0
sizes (c ∷ cs) = c.size + sizes cs

-- A child inside the place of its parent.
pub record Inside (r c : Rec) : Type 0 where
  pub from : r.start ≤ c.start
  pub to : c.stop ≤ r.stop

-- A record with its children:
pub record Right (r : Rec) (cs : List Rec) : Type 0 where
  -- of one of the forms of its kind;
  pub formed : Some (Fits r.low r.high cs) (forms_for r.kind)
  -- "built-in arms as exchanged": no longer the other way round;
  pub exchanged : r.kind ≡ kind.Match → T (not (reversed (map alone cs)))
  -- "sizes that add up";
  pub adds : r.size ≡ suc (sizes cs)
  -- "start before end", and a program "empty or not";
  pub place : r.kind ≢ kind.Program → r.start < r.stop
  -- "each child's place inside its parent's".
  pub inside : All (Inside r) cs

-- "both tops": a function, or "a 41 starting at 0".
abbrev pub is_top : Rec → Bool
is_top r = eqb r.kind kind.Function || (eqb r.kind kind.Program && eqb r.start 0)

-- "a listing whose records form one function", or one program: the first is the top, it counts all of them, and each is right with its children.
pub record Whole (rs : List Rec) : Type 0 where
  pub top : T (is_top (get_or rs 0 blank))
  pub counts_all : (get_or rs 0 blank).size ≡ length rs
  pub each : (j : ℕ) → j < length rs → Right (get_or rs j blank) (children rs j)
