-- Words written at the front of a buffer, where what is behind them stays; and clearing that.
-- Assumes nothing.
use Rattle.std.specs.Prelude.{List, ◌++◌, ◌≡◌, ℕ, length, drop}
use Rattle.text.specs.Answers.{Answer, accepted}

abbrev pub front : List ℕ → List ℕ → List ℕ
front ws old = ws ++ drop (length ws) old

-- Where an answer accepts, its words stand at the front of a buffer, and what was behind them is still there.
pub record Held (a : Answer) (ws old out : List ℕ) : Type 0 where
  pub holds : (n m : ℕ) → a ≡ accepted n m → out ≡ front ws old
