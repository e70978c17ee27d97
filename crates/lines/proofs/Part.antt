-- A part of a buffer that is written as a whole.
-- Assumes nothing.
use Rattle.std.specs.Prelude.{List, ◌++◌, ◌≡◌, ℕ, ◌+◌, ◌≤◌, length, take, drop}
use Rattle.std.proofs.Common.{sym, ap, ◌∙◌, arith, append_assoc, drop-drop}
use borrow.Rule.Slice.PartMut.{put_mid}
use Rattle.std.proofs.lemmas.List.Edits.{sets, sets-eq}

-- As many elements in the place of the k from `at` on are stored there, one after the other.
pub part-written : (at k : ℕ) (o : List ℕ) {ys vs : List ℕ} → ys ≡ vs → k ≡ length vs → at + k ≤ length o → put_mid at k o ys ≡ sets o at vs
part-written at k o {ys} {vs} e n h =
    ap (put_mid at k o) e
    ∙ ap (λ (m : List ℕ). take at o ++ (vs ++ m)) (drop-drop k at o ∙ ap (λ (j : ℕ). drop (at + j) o) n)
    ∙ sym (append_assoc (take at o) vs (drop (at + length vs) o))
    ∙ sym (sets-eq vs o at (omega arith))
