-- Lines of a form (document 01, "The listing program", and document 02, order 1): a line is that of a list of numbers, as crate `lines` writes it,
-- where the digits hold them. Said of any list of widths.
-- Assumes nothing: these are definitions.
use Rattle.std.specs.Prelude.{List, [], ◌∷◌, ◌++◌, ◌≡◌, ℕ, ◌<◌}
use Rattle.own.specs.Lists.{All}
use Rattle.lines.specs.Hex.{power}
use Rattle.lines.specs.Form.{line_of}

-- As many numbers as there are widths, each of no more digits than its width.
abbrev pub Fit : List ℕ → List ℕ → Type 0
Fit [] [] = Unit {0}
Fit [] (v ∷ vs) = ⊥
Fit (n ∷ ns) [] = ⊥
Fit (n ∷ ns) (v ∷ vs) = (v < power n) × Fit ns vs

-- Lists of numbers, each of which the digits of a line hold.
abbrev pub Fitting : List ℕ → List (List ℕ) → Type 0
Fitting ws vs = All (Fit ws) vs

-- Bytes that begin with a line of the form.
pub record Begins (ws bs : List ℕ) : Type 0 where
  pub its : List ℕ
  pub rest : List ℕ
  pub fit : Fit ws its
  pub they_are : bs ≡ line_of ws its ++ rest
