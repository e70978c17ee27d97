-- What a buffer holds once it is cleared: zeros on a refusal, and else the records with zeros behind them.
-- Assumes nothing.
use Rattle.std.proofs.Common.{◌≡◌, ℕ, ◌-◌, ◌*◌, ◌≤◌, Bool, true, false, cond, ltb, List, ◌++◌, length, take, replicate, sym, refl, ap, ◌∙◌, arith, ltb-false}
use Rattle.std.specs.Prelude.{Result, Ok, Err}
use Rattle.std.specs.Result.{result_unwrap_or}
use Rattle.text.specs.Answers as paper
use Rattle.text.specs.declared.refusal.Refused.{Refused}
use Rattle.text.specs.Front.{Held}
use Rattle.text.proofs.Front.{front-cleared}
use Rattle.text.specs.Refusals.{refusal_number}
use Rattle.text.specs.declared.refusal.Refusal.TheVariants as refusal
use Rattle.text.proofs.Same.{differ}
use Rattle.text.specs.Widths.{rec_wide}
use Rattle.own.specs.Words.{rec_words}
use Rattle.own.proofs.WordLaws.{record-words-length}
use Rattle.lexer.specs.Buffer.{tokens_in}
use Rattle.grammar.specs.Entry.{Entry}
use Rattle.grammar.specs.Answers.Answer.{Reading, unread, read, fitted, content, records_in}
use Rattle.parse.specs.Entry.{too_many, too_long, reading_of, meant, answer_of, tree_of}

abbrev recording : paper.Answer → Bool
recording (paper.accepted n m) = true
recording (paper.refused c p) = false

abbrev many : paper.Answer → ℕ
many (paper.accepted n m) = m
many (paper.refused c p) = 0

-- What is read, into k words.
module _ (k : ℕ) where
  abbrev kept : Reading → List ℕ
  kept r = rec_words (records_in r)

  -- Too many tokens, then too long a file, then what is read: the answer, and the words.
  abbrev answer_by : Bool → Bool → Reading → paper.Answer
  answer_by b c r = cond b (paper.refused (refusal_number refusal.TooMany) 0) (cond c (paper.refused (refusal_number refusal.TooLong) 0) (fitted k r))

  abbrev words_by : Bool → Bool → Reading → List ℕ
  words_by b c r = cond b (replicate k 0) (cond c (replicate k 0) (content (fitted k r) (kept r) k))

  record Fitting (m : ℕ) (r : Reading) (l : List ℕ) : Type 0 where
    room : rec_wide * m ≤ k
    long : length (kept r) ≡ rec_wide * m
    words_are : kept r ++ replicate (k - length (kept r)) 0 ≡ l

  fitting : (b c : Bool) (r : Reading) {i m : ℕ} → paper.accepted i m ≡ answer_by b c r → Fitting m r (words_by b c r)
  fitting true c r e = absurd (differ (sym (ap recording e)))
  fitting false true r e = absurd (differ (sym (ap recording e)))
  fitting false false (unread c p) e = absurd (differ (sym (ap recording e)))
  fitting false false (read ts rs) {i} {m} e = go (ltb k (rec_wide * length rs)) refl e
    where
      answer-if : Bool → paper.Answer
      answer-if b = cond b (paper.refused (refusal_number refusal.NoRoom) 0) (paper.accepted (length ts) (length rs))

      go : (b : Bool) → ltb k (rec_wide * length rs) ≡ b → paper.accepted i m ≡ answer-if b → Fitting m (read ts rs) (content (answer-if b) (rec_words rs) k)
      go true q f = absurd (differ (sym (ap recording f)))
      go false q f =
          let n : m ≡ length rs = ap many f in
          record { room = omega (arith, n, ltb-false k (rec_wide * length rs) q); long = omega (arith, n, record-words-length rs); words_are = refl }

  zeros : (b c : Bool) (r : Reading) {d p : ℕ} → paper.refused d p ≡ answer_by b c r → replicate k 0 ≡ words_by b c r
  zeros true c r e = refl
  zeros false true r e = refl
  zeros false false r {d} {p} e = go (fitted k r) e
    where
      go : (a : paper.Answer) → paper.refused d p ≡ a → replicate k 0 ≡ content a (kept r) k
      go (paper.accepted n m) f = absurd (differ (ap recording f))
      go (paper.refused n m) f = refl

module _ (en : Entry) (most : ℕ) (draft words' o : List ℕ) (n : ℕ) (a : Result ℕ Refused) (e : meant n a ≡ answer_of en most draft words' n (length o)) where
  -- Of a refusal the buffer is zeros;
  refused-tree : {r : Refused} → a ≡ Err r → replicate (length o) 0 ≡ tree_of en most draft words' n (length o)
  unfolding answer_of tree_of
  refused-tree q = zeros (length o) (too_many most n (length words')) (too_long en (length draft)) (reading_of en draft (tokens_in n words')) (sym (ap (meant n) q) ∙ e)

  -- and so many records fit.
  fits : {m : ℕ} → a ≡ Ok m → Fitting (length o) m (reading_of en draft (tokens_in n words')) (tree_of en most draft words' n (length o))
  unfolding answer_of tree_of
  fits q = fitting (length o) (too_many most n (length words')) (too_long en (length draft)) (reading_of en draft (tokens_in n words')) (sym (ap (meant n) q) ∙ e)

  pub records-fit : rec_wide * result_unwrap_or a 0 ≤ length o
  records-fit = go a refl
    where
      go : (r : Result ℕ Refused) → a ≡ r → rec_wide * result_unwrap_or r 0 ≤ length o
      go (Ok m) q = (fits q).room
      go (Err x) q = omega arith

  -- Behind the words of the records, of a refusal from the start on, all is cleared.
  pub cleared-tree : (out : List ℕ) → length out ≡ length o → Held (meant n a) (rec_words (records_in (reading_of en draft (tokens_in n words')))) o out
      → take (rec_wide * result_unwrap_or a 0) out ++ replicate (length out - rec_wide * result_unwrap_or a 0) 0 ≡ tree_of en most draft words' n (length o)
  cleared-tree out long h = go a refl
    where
      go : (r : Result ℕ Refused) → a ≡ r
          → take (rec_wide * result_unwrap_or r 0) out ++ replicate (length out - rec_wide * result_unwrap_or r 0) 0 ≡ tree_of en most draft words' n (length o)
      go (Err x) q = ap (λ k. replicate k 0) (omega (arith, long)) ∙ refused-tree q
      go (Ok m) q =
          ap (λ (z : List ℕ). take (rec_wide * m) z ++ replicate (length z - rec_wide * m) 0) (h.holds n m (ap (meant n) q))
          ∙ front-cleared (rec_words (records_in (reading_of en draft (tokens_in n words')))) o (rec_wide * m) (fits q).long (fits q).room
          ∙ (fits q).words_are
