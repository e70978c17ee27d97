-- The listing of every draft has a line, so that no byte is used only where it does not fit.
-- Assumes nothing.
use Rattle.std.specs.Prelude.{Bool, true, false, cond, List, ◌↔◌, ◌≡◌, refl, ℕ, ◌*◌, ◌≤◌, ◌<◌, ltb, length}
use Rattle.std.proofs.Common.{ap, arith, ltb-true, ltb-false}
use Rattle.lexer.specs.Limits.{Limits}
use Rattle.grammar.specs.Entry.{whole_file}
use Rattle.text.specs.Answers.{Answer, accepted, refused}
use Rattle.grammar.specs.Answers.Answer.{answer, records_in, records_read}
use Rattle.grammar.proofs.Answers.OutcomeLaws.{read-faultless}
use Rattle.grammar.proofs.Answers.Laws.{law-1}
use Rattle.own.specs.Tree.{Rec}
use Rattle.up.specs.Ways.{rows}
use Rattle.lines.specs.Form.{wide}
use Rattle.lines.specs.Lines.{is_long, lines, widths_by}
use Rattle.lines.specs.Written.{used}
use Rattle.lines.proofs.Lines.{lines-length}
use Rattle.grammar.specs.Answers.Lines.{listed, listing}

-- A line has a byte at least.
lines-least : (rs : List Rec) → length rs ≤ length (lines rs)
lines-least rs = go (is_long (rows rs)) (lines-length rs)
  where
    go : (b : Bool) → length (lines rs) ≡ wide (widths_by b) * length rs → length rs ≤ length (lines rs)
    go true e = omega arith
    go false e = omega arith

module _ (l : Limits) (draft : List ℕ) (tw rw : ℕ) where
  -- An accepted draft has a record, that of the whole file,
  some-line : (x : Answer) → answer whole_file l draft tw rw ≡ x → 1 ≤ length (listed x (records_read whole_file l draft tw))
  unfolding records_read
  some-line (refused c p) e = omega arith
  some-line (accepted n m) e =
      let a = (law-1 whole_file l draft tw rw n m).0 e in
      let f = read-faultless whole_file l draft tw rw a.its_tokens a.shape a.shaped a.no_fault in
      let k = ap (λ y. length (records_in y)) f in
      omega arith

  -- so that the listing of every draft has a line,
  pub listing-some : 0 < length (listing whole_file l draft tw rw)
  unfolding listing
  listing-some =
      let a = answer whole_file l draft tw rw in
      let h = some-line a refl in
      let k = lines-least (listed a (records_read whole_file l draft tw)) in
      omega (arith, h, k)

-- and no byte is used only when it does not fit: "It gets 0, all bytes zero, only when the lines do not fit."
pub nothing-only : (l : Limits) (draft : List ℕ) (tw rw size : ℕ) {n : ℕ} → n ≡ used (listing whole_file l draft tw rw) size → (n ≡ 0) ↔ (size < length (listing whole_file l draft tw rw))
nothing-only l draft tw rw size {n} e = go (ltb size (length text)) refl e
  where
    text : List ℕ
    text = listing whole_file l draft tw rw

    go : (b : Bool) → ltb size (length text) ≡ b → n ≡ cond b 0 (length text) → (n ≡ 0) ↔ (size < length text)
    go true q e = ((λ _. ltb-true size (length text) q), λ _. e)
    go false q e =
        let h = listing-some l draft tw rw in
        let k = ltb-false size (length text) q in
        ((λ z. absurd (omega arith)), λ z. absurd (omega arith))
