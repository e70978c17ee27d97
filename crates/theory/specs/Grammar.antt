-- A grammar as data: productions over token classes and nonterminals, with the tables of a predictive parser, and what it derives.
-- Assumes nothing.
use Rattle.std.specs.Prelude.{◌≡◌, Bool, true, false, List, [], ◌∷◌, ◌++◌, ℕ, zero, suc, eqb, get_or}
use Rattle.std.proofs.Math.Option.{Option, none, some}
use Rattle.std.proofs.Math.ListN.{get_elem?}

-- A symbol: a token of a class, or a nonterminal by its number. Class 0 is kept for the end of the tokens.
pub data Sym : Type 0 where
  tok : ℕ → Sym
  nt : ℕ → Sym

-- One entry of a row of the table: at this class, the alternative of this number.
pub data Case : Type 0 where
  on : ℕ → ℕ → Case

-- A nonterminal. `alts` are its alternatives, counted from 1: they are the grammar. The rest is the table, which `Check.good` and
-- `Fuel.paid` verify: the alternative by the class of the next token (`cases`) and at any other class (`other`, 0 for none);
-- what it may begin with (`first`) and be followed by (`follow`, with 0 for the end); whether it may be empty (`null`);
-- what the executable parser pays for it (`cost`); the number of an alternative that leads to a word (`least`).
pub record Row : Type 0 where
  pub alts : List (List Sym)
  pub cases : List Case
  pub other : ℕ
  pub first : List ℕ
  pub follow : List ℕ
  pub null : Bool
  pub cost : ℕ
  pub least : ℕ

-- What a nonterminal past the end of the table is: the empty word alone.
unfoldable pub blank : Row
blank = record { alts = [] ∷ []; cases = []; other = 0; first = []; follow = []; null = true; cost = 1; least = 1 }

-- The number that the cases have for a class, or d. (By `elim`, since `cond` would go through the cases to their end.)
unfoldable pub look : List Case → ℕ → ℕ → ℕ
look [] d a = d
look (on c i ∷ l) d a = elim (eqb a c) [ true ↦ i | false ↦ look l d a ]

-- The row of a nonterminal.
unfoldable pub row : List Row → ℕ → Row
row g A = get_or g A blank

-- The entry of a list by its number, counted from 1.
unfoldable pub pick : {X : Type 0} → List X → ℕ → Option X
pick l zero = none
pick l (suc i) = get_elem? l i

-- The alternative of a nonterminal by its number.
unfoldable pub alt : List Row → ℕ → ℕ → Option (List Sym)
alt g A i = pick (row g A).alts i

-- The symbols derive the classes of tokens, the leftmost symbol first.
pub data Der (g : List Row) : List Sym → List ℕ → Type 0 where
  d_end : Der g [] []
  d_tok : {a : ℕ} {σ : List Sym} {ts : List ℕ} → Der g σ ts → Der g (tok a ∷ σ) (a ∷ ts)
  d_nt : {A : ℕ} {σ : List Sym} {ts : List ℕ} (i : ℕ) {rhs : List Sym} → alt g A i ≡ some rhs → Der g (rhs ++ σ) ts → Der g (nt A ∷ σ) ts
