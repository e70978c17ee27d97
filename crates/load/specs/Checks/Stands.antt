-- What the code tests of each record: beside that it is right, that the part that it counts ends in the list and that its children count themselves at
-- least.
-- Assumes nothing.
use Rattle.std.specs.Prelude.{Bool, ◌&&◌, List, ℕ, ◌+◌, ◌≤◌, ltb, leb, length, get_or}
use Rattle.text.specs.Lists.{all}
use Rattle.own.specs.Tree.{Rec}
use Rattle.own.specs.Flat.{blank, children}
use Rattle.own.specs.Lists.{All}
use Rattle.load.specs.Function.{Right}
use Rattle.load.specs.FunctionTest.{right}
use Rattle.load.specs.Checks.Parts.{Counts}

pub record Stands (rs : List Rec) (j : ℕ) : Type 0 where
  pub room : j + (get_or rs j blank).size ≤ length rs
  pub some : All Counts (children rs j)
  pub right : Right (get_or rs j blank) (children rs j)

-- The same as a test that antt computes.
unfoldable pub stands : List Rec → ℕ → Bool
stands rs j = leb (j + (get_or rs j blank).size) (length rs) && (all (λ c. ltb 0 c.size) (children rs j) && right (get_or rs j blank) (children rs j))
