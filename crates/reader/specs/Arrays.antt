-- Calls that are lent an array of words.
-- Assumes nothing.
use Rattle.std.specs.Prelude.{List, ◌≡◌, ℕ, replicate}
use Rattle.std.specs.Fn.{Once}
use denote.Ref.{MutBor}

-- A call at `from`, a buffer that holds `old` and an array of so many words, all 0, may give this result, and leave `new` in the buffer.
pub record ReturnsAtArray {F C : Type 0} (g : Once F (C × (MutBor (List ℕ) × (MutBor (List ℕ) × Unit {0}))) (ℕ × (MutBor (List ℕ) × (MutBor (List ℕ) × Unit {0})))) (f : F) (from : C) (count : ℕ) (old : List ℕ) (r : ℕ) (new : List ℕ) : Type 0 where
  pub out : MutBor (List ℕ)
  pub lent : out.now ≡ old
  pub words : MutBor (List ℕ)
  pub zeros : words.now ≡ replicate count 0
  pub out_left : MutBor (List ℕ)
  pub left : out_left.now ≡ new
  pub words_left : MutBor (List ℕ)
  pub met : g.post f (from, (out, (words, tt))) (r, (out_left, (words_left, tt)))
