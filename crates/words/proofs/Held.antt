-- Which word of a table a part is, by the table's constants: it can only be the one whose place its slot holds.
-- Assumes nothing.
use Rattle.std.specs.Prelude.{None, List, [], ◌≡◌, ℕ, ◌+◌, ◌≤◌, ◌<◌, length, get_or}
use Rattle.std.proofs.Common.{ap, sym, ◌∙◌, arith}
use Rattle.std.specs.Bool.{then_some}
use Rattle.text.specs.Same.{same}
use Rattle.words.specs.declared.lookup.Words.{Words}
use Rattle.words.specs.Layout.{entries, slot_of}
use Rattle.words.specs.Lies.{listed, Finds, Only}
use Rattle.words.specs.Words.{word_of}
use Rattle.words.proofs.Laws.{beyond, only_at, listed-length, listed-at}
use Rattle.words.proofs.Right.{is_plain, past, other, settled}

module _ (w : Words) (p : List ℕ) (f : Finds w) where
  -- none has so few bytes or so many
  pub other_size : (2 ≤ length p → length p ≤ w.longest → ⊥) → word_of (listed w) p ≡ None
  other_size n = is_plain _ _ (beyond w p f n)

  module _ (s k : ℕ) (d : s ≡ slot_of w.multipliers p) (e : k ≡ get_or w.slots s 0) where
    only : Only (listed w) p k
    only = only_at w p f d e

    pub none_held : w.count ≤ k → word_of (listed w) p ≡ None
    none_held h = is_plain _ _ (past _ _ _ only (omega (arith, h, listed-length w f.within)))

    module _ (h : k < w.count) where
      here : get_or (listed w) k [] ≡ get_or entries (w.first + k) []
      here = listed-at w k h

      pub other_length : (length p ≡ length (get_or entries (w.first + k) []) → ⊥) → word_of (listed w) p ≡ None
      other_length n = is_plain _ _ (other _ _ _ only (λ e. n (ap length (e ∙ here))))

      pub spelt : then_some (same p (get_or entries (w.first + k) [])) k ≡ word_of (listed w) p
      spelt = ap (λ l. then_some (same p l) k) (sym here) ∙ settled _ _ _ only (omega (arith, h, listed-length w f.within))
