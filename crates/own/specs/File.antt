-- Law 3 of a file (document 02, order 3): above the records of its items stands that of the program, which owns nothing. "The rule on owned tokens reads
-- `all records but 41`, in choosing the smallest too, and there may be one record more than tokens".
-- Assumes nothing: these are definitions.
use Rattle.std.specs.Prelude.{List, [], ◌∷◌, ◌≡◌, ℕ, ◌+◌, ◌≤◌, length, drop}
use Rattle.own.specs.Tree.{Tok, Rec}
use Rattle.own.specs.Flat.{children, owned}
use Rattle.own.specs.Law.{Sort, made, Rule, Ordered, Ownership}
use Rattle.own.specs.Kinds as kind

-- "The top record is kind 41, a program, with place from 0 to the draft's length"; its size counts it and the records rs of its items.
abbrev pub program : ℕ → List Rec → Rec
program len rs = record { kind = kind.Program; start = 0; stop = len; low = 0; high = 0; size = 1 + length rs }

-- The records of a file of so many bytes, from those of its items.
abbrev pub filed : ℕ → List Rec → List Rec
filed len rs = program len rs ∷ rs

-- Law 3 of a file of so many bytes: of the rule R of all records but the first, and the rule P of what the first is made of.
pub record FileOwnership (R : Rule) (P : List Sort → Type 0) (len : ℕ) (ts : List Tok) (rs : List Rec) : Type 0 where
  -- The first record is the program's, and all others are inside it;
  pub top : rs ≡ filed len (drop 1 rs)
  -- "it owns nothing";
  pub nothing : owned ts rs 0 ≡ []
  -- "the items as children", in order of place.
  pub spelled : P (made ts rs 0)
  pub ordered : Ordered 0 len (children rs 0)
  -- "there may be one record more than tokens"
  pub few : length rs ≤ 1 + length ts
  -- "all records but 41": the others are owned as law 3 says. Record j of them is record j + 1 of all (proofs/FileLaws.antt).
  pub others : Ownership R ts (drop 1 rs)
