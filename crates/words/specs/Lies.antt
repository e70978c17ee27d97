-- What the constants of the crate are for: where a word lies among the letters, which entries are a table's words, and that a part can be one of them only.
-- Assumes nothing.
use Rattle.std.specs.Prelude.{List, [], ◌≡◌, ℕ, ◌+◌, ◌≤◌, ◌<◌, length, get_or, take, drop}
use Rattle.words.specs.declared.lookup.Words.{Words}
use Rattle.words.specs.Layout.{letters, entries, slot_of}

-- the word w stands among the letters from r on
pub record Lies (r : ℕ) (w : List ℕ) : Type 0 where
  pub inside : r + length w ≤ length letters
  pub spelt : take (length w) (drop r letters) ≡ w

-- the words that a table's constants lead to: so many entries from the first on
unfoldable pub listed : Words → List (List ℕ)
listed w = take w.count (drop w.first entries)

-- no word of the list has more than n bytes
pub record AtMost (ws : List (List ℕ)) (n : ℕ) : Type 0 where
  pub short : (k : ℕ) → k < length ws → length (get_or ws k []) ≤ n

-- each of them is found: it has two bytes or more and no more than the longest, and its slot holds its place
pub record Finds (w : Words) : Type 0 where
  pub within : w.first + w.count ≤ length entries
  pub least : (k : ℕ) → k < w.count → 2 ≤ length (get_or (listed w) k [])
  pub most : AtMost (listed w) w.longest
  pub held : (k : ℕ) → k < w.count → get_or w.slots (slot_of w.multipliers (get_or (listed w) k [])) 0 ≡ k

-- if p is a word of the list, it is word number r
pub record Only (ws : List (List ℕ)) (p : List ℕ) (r : ℕ) : Type 0 where
  pub is : (k : ℕ) → k < length ws → get_or ws k [] ≡ p → r ≡ k
