-- Brackets open and `match` tokens in a row, counted token by token until a limit is passed.
-- Assumes nothing.
use Rattle.std.specs.Prelude.{true, false, cond, ◌≡◌, List, [], ◌∷◌, ℕ}
use Rattle.std.proofs.Math.Option.{Option, none, some}
use Rattle.lexer.specs.Lexemes.{Token}
use Rattle.lexer.specs.Limits.{depth_after, row_after, passes}
use Rattle.lexer.specs.declared.depth.Nest.{Nest}
use Rattle.lexer.specs.declared.depth.Nest.TheVariants.{Within, Past}

-- d brackets open and m `match` tokens in a row, or a limit is passed, whichever, by the token at p
pub data Nesting : Type 0 where
  within : (d m : ℕ) → Nesting
  past : (p : ℕ) → Nesting

-- behind a token at i, with d brackets open and m `match` tokens in a row
abbrev pub counted : ℕ → ℕ → ℕ → Nesting
counted d m i = cond (passes d m) (past i) (within d m)

-- a kind that leaves the brackets open as they are and ends a row
pub record Uncounted (kind : ℕ) : Type 0 where
  pub depth : (d : ℕ) → depth_after kind d ≡ d
  pub row : (m : ℕ) → row_after kind m ≡ 0

-- behind one token more: once a limit is passed, nothing is counted any longer
abbrev pub nest_after : Nesting → ℕ → ℕ → Nesting
nest_after (within d m) kind start = counted (depth_after kind d) (row_after kind m) start
nest_after (past p) kind start = past p

-- behind some tokens
abbrev pub nest_of : Nesting → List Token → Nesting
nest_of x [] = x
nest_of x (t ∷ ts) = nest_of (nest_after x t.kind t.start) ts

-- before all tokens
abbrev pub outermost : Nesting
outermost = within 0 0

-- where a limit was passed
abbrev pub passed_at : Nesting → Option ℕ
passed_at (within d m) = none
passed_at (past p) = some p

-- d brackets open or m in a row are past a limit,
abbrev pub Passes : ℕ → ℕ → Type 0
Passes d m = passes d m ≡ true

-- or within both, and these are the counts
abbrev pub Counted : ℕ → ℕ → ℕ → ℕ → Type 0
Counted d m depth row = (passes d m ≡ false) × (depth ≡ d) × (row ≡ m)

-- what is known, as the code has it
abbrev pub known : Nest → Nesting
known (Within c) = within c.depth c.row
known (Past p) = past p
