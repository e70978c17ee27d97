-- The size and the way up of a record in a buffer are words of it.
-- Assumes nothing.
use Rattle.std.specs.Prelude.{List, ◌≡◌, ℕ, ◌+◌, ◌-◌, ◌*◌, ◌<◌, get_or}
use Rattle.std.proofs.Common.{sym, ap, arith}
use Rattle.text.specs.Widths.{rec_wide}
use Rattle.own.specs.Tree.{Rec}
use Rattle.own.specs.Words.{recs}
use Rattle.own.proofs.WordLaws.{rec-at}
use Rattle.up.specs.Ways.{size_of}
use Rattle.up.specs.Buffer.{size_place, size_in}

-- The size is that of the records that the buffer holds.
pub size-in : (n i : ℕ) (w : List ℕ) → i < n → size_in w i ≡ size_of (recs n w) i
size-in n i w h = sym (ap (λ (r : Rec). r.size) (rec-at n i w h))

-- The size of the record before, from where the words of a record begin.
pub size-before : (l : List ℕ) {w i : ℕ} → 0 < i → w ≡ rec_wide * i → get_or l (w - rec_wide + size_place) 0 ≡ size_in l (i - 1)
size-before l {w} {i} h e = let k : w - rec_wide + size_place ≡ rec_wide * (i - 1) + size_place = omega (arith, e) in ap (λ (j : ℕ). get_or l j 0) k
