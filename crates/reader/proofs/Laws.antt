-- From what the lexer and the parser ensure to what the reader hands over.
-- Assumes nothing.
use mathlib.Core.Bool.{Bool, true, false, cond, ◌||◌}
use mathlib.Core.List.{List, ◌++◌}
use mathlib.Core.Path.{◌≡◌, refl, sym, ap, ap₂, ◌∙◌}
use Prim.Native.Nat.{ℕ, ◌-◌, ◌*◌, ◌≤◌, ◌<◌}
use native.Mathlib.Omega.{arith}
use borrow.Author.Tests.{le-ltb, lt-leb}
use lib.Dec.{ltb}
use lib.ListN.{length, replicate, take, drop}
use Rattle.std.specs.Prelude.{Result, Ok, Err}
use Rattle.std.specs.Result.{ResultUnwrapsOrElse, result_unwrap_or}
use Rattle.text.specs.Front.{front, Held}
use Rattle.text.proofs.Front.{front-cleared}
use Rattle.lexer.specs.Lexemes.{Token, lexemes}
use Rattle.lexer.specs.Limits.{Limits, large_limits, limits_for, room, lexed_of, tokens_of, token_words}
use Rattle.lexer.specs.Buffer.{tokens_in}
use Rattle.lexer.proofs.Fits.{not-both, lexed-fits, lexed-short, read-back, words-fit, tokens-cleared}
use Rattle.text.specs.Widths.{tok_wide, rec_wide}
use Rattle.text.specs.Answers.{Answer, accepted, refused}
use Rattle.text.specs.Refusals.{refusal_number}
use Rattle.text.specs.declared.refusal.Refusal.TheVariants as refusal
use Rattle.text.specs.declared.refusal.Refused.{Refused}
use Rattle.own.specs.Tree.{Rec, classes_of}
use Rattle.own.specs.Words.{rec_words}
use Rattle.own.proofs.WordLaws.{record-words-length}
use Rattle.up.specs.Ways.{up_words, upward}
use Rattle.up.proofs.Laws.{up-words-long, raised-words}
use Rattle.grammar.specs.Entry.{Entry, single_function, whole_file}
use Rattle.grammar.specs.Shapes.WellShaped.{shape_of}
use Rattle.grammar.specs.Answers.Answer.{toks_of, Reading, unread, read, shaped, lexed, reading, fitted, answer, content, records_in, token_buffer, tree_buffer, records_read}
use Rattle.grammar.proofs.Answers.OutcomeLaws.{lexed-within}
use Rattle.grammar.proofs.Answers.Laws.{law-1, token-buffer-lexed, law-4-refused}
use Rattle.parse.specs.Contract.{u32_count}
use Rattle.parse.specs.Entry.{too_many, too_long, reading_of, answer_by, answer_of}
use Rattle.reader.specs.declared.Counts.{Counts}
use Rattle.reader.specs.declared.lexed.Lexed.{Lexed}
use Rattle.reader.specs.Read.{meant}
use Rattle.reader.proofs.BothLimits.{most-bytes, most-tokens}

-- The counts of a refusal are no token and no record.
pub no-counts : (r : Result Counts Refused) {k : Counts} → ResultUnwrapsOrElse r (λ (d : Counts). (d.tokens ≡ 0) × (d.records ≡ 0)) k → k ≡ result_unwrap_or r (record { tokens = 0; records = 0 })
no-counts (Ok c) h = h
no-counts (Err e) h = ap₂ (λ (t n : ℕ). record { tokens = t; records = n }) h.0 h.1

-- A buffer that is cleared behind so many words for the counts, of a refusal behind none, is this one, if it is so of each answer.
pub cleared-is : (size : Counts → ℕ) (out old : List ℕ) {buffer : List ℕ} (r : Result Counts Refused) {k : Counts} (none : Counts) → k ≡ result_unwrap_or r none → size none ≡ 0 → length out ≡ length old
    → ((c : Counts) → r ≡ Ok c → take (size c) out ++ replicate (length out - size c) 0 ≡ buffer) → ((x : Refused) → r ≡ Err x → replicate (length old) 0 ≡ buffer)
    → take (size k) out ++ replicate (length out - size k) 0 ≡ buffer
cleared-is size out old (Ok c) none q z long f g = ap (λ (c : Counts). take (size c) out ++ replicate (length out - size c) 0) q ∙ f c refl
cleared-is size out old (Err x) none q z long f g =
    ap (λ (n : ℕ). take n out ++ replicate (length out - n) 0) (ap size q ∙ z) ∙ ap (λ (n : ℕ). replicate n 0) (omega (arith, long)) ∙ g x refl

-- An accepted draft has as many records as were read.
abbrev records_of : Answer → ℕ
records_of (accepted n m) = m
records_of (refused c p) = 0

as-many : (space : ℕ) (x : Reading) {n m : ℕ} → fitted space x ≡ accepted n m → m ≡ length (records_in x)
as-many space (unread c p) e = absurd (not-both e)
as-many space (read ts rs) {n} {m} e = go (ltb space (rec_wide * length rs)) e
  where
    go : (b : Bool) → cond b (refused (refusal_number refusal.NoRoom) 0) (accepted (length ts) (length rs)) ≡ accepted n m → m ≡ length rs
    go true f = absurd (not-both f)
    go false f = sym (ap records_of f)

-- The buffer holds the draft's tokens.
pub tokens-held : (l : Limits) (draft words old : List ℕ) (n : ℕ) → lexed_of l draft (length old) ≡ accepted n 0 → words ≡ front (token_words (tokens_of (lexemes draft))) old → tokens_in n words ≡ tokens_of (lexemes draft)
tokens-held l draft words old n e w =
    let ts = tokens_of (lexemes draft) in
    ap₂ (λ (k : ℕ) (u : List ℕ). tokens_in k u) (sym (lexed-fits l draft (length old) n e).0) w ∙ read-back ts (drop (length (token_words ts)) old)

-- No draft within a limit that a word holds is too long for the parser.
pub not-long : (en : Entry) (draft : List ℕ) → length draft < u32_count → too_long en (length draft) ≡ false
unfolding too_long
not-long single_function draft h = refl
not-long whole_file draft h = lt-leb u32_count (length draft) h

-- The parser over the tokens ts that were lexed.
module _ (en : Entry) (l : Limits) (draft : List ℕ) (tw rw : ℕ) {n : ℕ} (counted : lexed_of l draft tw ≡ accepted n 0) (ts : List Token) (held : ts ≡ tokens_of (lexemes draft)) where
  its-reading : reading en l draft tw ≡ reading_of en draft ts
  unfolding reading reading_of lexed_of
  its-reading =
      ap (λ (a : Answer). lexed en a draft (tokens_of (lexemes draft))) counted
      ∙ ap (λ (ts : List Token). shaped en draft ts (shape_of en (classes_of (toks_of draft ts)))) (sym held)

  its-fitted : fitted rw (reading en l draft tw) ≡ answer en l draft tw rw
  unfolding answer
  its-fitted = refl

  -- The parser's answer is the definition's,
  pub parsed-by : {b : Bool} → b ≡ false → too_long en (length draft) ≡ false → answer_by b en draft ts rw ≡ answer en l draft tw rw
  parsed-by many long =
      ap₂ (λ (b c : Bool). cond b (refused (refusal_number refusal.TooMany) 0) (cond c (refused (refusal_number refusal.TooLong) 0) (fitted rw (reading_of en draft ts)))) many long
      ∙ ap (fitted rw) (sym its-reading) ∙ its-fitted

  -- and where the draft is accepted its records, given their ways up, are at the front of the buffer.
  pub raised-by : (old : List ℕ) {out : List ℕ} {k m : ℕ} → answer en l draft tw rw ≡ accepted k m
      → out ≡ front (rec_words (records_in (reading_of en draft ts))) old → upward m out ≡ front (up_words (records_read en l draft tw)) old
  unfolding records_read
  raised-by old {out} {k} {m} a h =
      let rs = records_in (reading en l draft tw) in
      let many : m ≡ length rs = as-many rw (reading en l draft tw) (its-fitted ∙ a) in
      let long : length (rec_words rs) ≡ length (up_words rs) = record-words-length rs ∙ sym (up-words-long rs) in
      ap₂ upward many (h ∙ ap (λ (r : Reading). front (rec_words (records_in r)) old) (sym its-reading))
      ∙ raised-words rs (drop (length (rec_words rs)) old)
      ∙ ap (λ (j : ℕ). up_words rs ++ drop j old) long

-- The same where the tokens stand in a buffer.
module _ (en : Entry) (x : Lexed) (rw : ℕ) where
  -- within the limits that they were lexed within
  abbrev l : Limits
  l = limits_for x.limits

  not-many : too_many large_limits.tokens x.count (length x.words.now) ≡ false
  unfolding too_many room
  not-many =
      let h = lexed-fits l x.draft.now (length x.words.now) x.count x.counted in
      let a = h.0 in
      let b = h.1 in
      ap₂ (λ (u v : Bool). u || v) (le-ltb large_limits.tokens x.count (omega (arith, most-tokens x.limits))) (le-ltb (length x.words.now) (tok_wide * x.count) (omega arith))

  short : length x.draft.now < u32_count
  short = omega (arith, most-bytes x.limits, lexed-short l x.draft.now (length x.words.now) x.count x.counted)

  pub parsed-answer : answer_of en large_limits.tokens x.draft.now x.words.now x.count rw ≡ answer en l x.draft.now (length x.words.now) rw
  unfolding answer_of
  parsed-answer = parsed-by en l x.draft.now (length x.words.now) rw x.counted (tokens_in x.count x.words.now) x.held not-many (not-long en x.draft.now short)

  pub parsed-raised : (old : List ℕ) {out : List ℕ} {k m : ℕ} → answer en l x.draft.now (length x.words.now) rw ≡ accepted k m
      → out ≡ front (rec_words (records_in (reading_of en x.draft.now (tokens_in x.count x.words.now)))) old → upward m out ≡ front (up_words (records_read en l x.draft.now (length x.words.now))) old
  parsed-raised = raised-by en l x.draft.now (length x.words.now) rw x.counted (tokens_in x.count x.words.now) x.held

module _ (en : Entry) where
  -- Of an accepted draft the tokens fit, and cleared behind them the buffer is the one that is handed over;
  module _ (draft old : List ℕ) (rw : ℕ) {n m : ℕ} (e : answer en large_limits draft (length old) rw ≡ accepted n m) where
    its-lexed : lexed_of large_limits draft (length old) ≡ accepted n 0
    its-lexed =
        let a = (law-1 en large_limits draft (length old) rw n m).0 e in
        lexed-within en large_limits draft (length old) rw a.its_tokens a.shaped.within ∙ ap (λ (k : ℕ). accepted k 0) (sym a.tokens_number)

    pub tokens-fit : tok_wide * n ≤ length old
    tokens-fit = (words-fit large_limits draft old n its-lexed).0

    pub accepted-tokens : {out : List ℕ} → out ≡ front (token_words (tokens_of (lexemes draft))) old → take (tok_wide * n) out ++ replicate (length out - tok_wide * n) 0 ≡ token_buffer en large_limits draft (length old) rw
    accepted-tokens h = tokens-cleared large_limits draft old n its-lexed h ∙ sym (token-buffer-lexed en large_limits draft (length old) rw n m e)

  -- and so do the records.
  module _ (draft old : List ℕ) (tw : ℕ) {n m : ℕ} (e : answer en large_limits draft tw (length old) ≡ accepted n m) where
    abbrev rs : List Rec
    rs = records_read en large_limits draft tw

    many : m ≡ length rs
    unfolding answer records_read
    many = as-many (length old) (reading en large_limits draft tw) e

    pub records-room : rec_wide * m ≤ length old
    records-room = let a = (law-1 en large_limits draft tw (length old) n m).0 e in omega (arith, a.fits, a.records_number)

    pub accepted-tree : {out : List ℕ} → out ≡ front (up_words rs) old → take (rec_wide * m) out ++ replicate (length out - rec_wide * m) 0 ≡ tree_buffer en large_limits draft tw (length old)
    unfolding tree_buffer
    accepted-tree h =
        ap (λ (z : List ℕ). take (rec_wide * m) z ++ replicate (length z - rec_wide * m) 0) h
        ∙ front-cleared (up_words rs) old (rec_wide * m) (omega (arith, many, up-words-long rs)) records-room
        ∙ sym (ap (λ (x : Answer). content x (up_words rs) (length old)) e)

  -- A refusal: every word of both buffers is 0.
  pub refused-tokens : (draft : List ℕ) (tw rw : ℕ) {c p : ℕ} → answer en large_limits draft tw rw ≡ refused c p → replicate tw 0 ≡ token_buffer en large_limits draft tw rw
  refused-tokens draft tw rw {c} {p} e = sym (law-4-refused en large_limits draft tw rw c p e).0

  pub refused-tree : (draft : List ℕ) (tw rw : ℕ) {c p : ℕ} → answer en large_limits draft tw rw ≡ refused c p → replicate rw 0 ≡ tree_buffer en large_limits draft tw rw
  refused-tree draft tw rw {c} {p} e = sym (law-4-refused en large_limits draft tw rw c p e).1

  -- Whatever is answered, of a refusal no word: the words fit, and cleared behind them both buffers are those that are handed over.
  module _ (draft old : List ℕ) (rw : ℕ) (r : Result Counts Refused) (e : meant r ≡ answer en large_limits draft (length old) rw) {k : Counts} (none : Counts) (k_is : k ≡ result_unwrap_or r none) (zero_is : none.tokens ≡ 0) where
    tokens-told : {u : Result Counts Refused} → r ≡ u → answer en large_limits draft (length old) rw ≡ meant u
    tokens-told q = sym e ∙ ap meant q

    pub its-tokens-fit : tok_wide * k.tokens ≤ length old
    its-tokens-fit = go r refl k_is
      where
        go : (u : Result Counts Refused) → r ≡ u → k ≡ result_unwrap_or u none → tok_wide * k.tokens ≤ length old
        go (Ok c) q f = let n = ap (λ c. c.tokens) f in omega (arith, n, tokens-fit draft old rw (tokens-told q))
        go (Err x) q f = let n = ap (λ c. c.tokens) f in omega (arith, n, zero_is)

    pub its-tokens : {out : List ℕ} → length out ≡ length old → Held (meant r) (token_words (tokens_of (lexemes draft))) old out
        → take (tok_wide * k.tokens) out ++ replicate (length out - tok_wide * k.tokens) 0 ≡ token_buffer en large_limits draft (length old) rw
    its-tokens {out} long h =
        cleared-is (λ c. tok_wide * c.tokens) out old r none k_is (omega (arith, zero_is)) long
        (λ c q. accepted-tokens draft old rw (tokens-told q) (h.holds _ _ (ap meant q)))
        (λ x q. refused-tokens draft (length old) rw (tokens-told q))

  module _ (draft old : List ℕ) (tw : ℕ) (r : Result Counts Refused) (e : meant r ≡ answer en large_limits draft tw (length old)) {k : Counts} (none : Counts) (k_is : k ≡ result_unwrap_or r none) (zero_is : none.records ≡ 0) where
    records-told : {u : Result Counts Refused} → r ≡ u → answer en large_limits draft tw (length old) ≡ meant u
    records-told q = sym e ∙ ap meant q

    pub its-records-fit : rec_wide * k.records ≤ length old
    its-records-fit = go r refl k_is
      where
        go : (u : Result Counts Refused) → r ≡ u → k ≡ result_unwrap_or u none → rec_wide * k.records ≤ length old
        go (Ok c) q f = let n = ap (λ c. c.records) f in omega (arith, n, records-room draft old tw (records-told q))
        go (Err x) q f = let n = ap (λ c. c.records) f in omega (arith, n, zero_is)

    pub its-tree : {out : List ℕ} → length out ≡ length old → Held (meant r) (up_words (records_read en large_limits draft tw)) old out
        → take (rec_wide * k.records) out ++ replicate (length out - rec_wide * k.records) 0 ≡ tree_buffer en large_limits draft tw (length old)
    its-tree {out} long h =
        cleared-is (λ c. rec_wide * c.records) out old r none k_is (omega (arith, zero_is)) long
        (λ c q. accepted-tree draft old tw (records-told q) (h.holds _ _ (ap meant q)))
        (λ x q. refused-tree draft tw (length old) (records-told q))

  -- What the lexer refuses is refused.
  pub lexer-refused : (l : Limits) (draft : List ℕ) (tw rw : ℕ) {c p : ℕ} → lexed_of l draft tw ≡ refused c p → answer en l draft tw rw ≡ refused c p
  unfolding answer reading lexed_of
  lexer-refused l draft tw rw e = ap (λ (x : Answer). fitted rw (lexed en x draft (tokens_of (lexemes draft)))) e
