-- Buffers that are shorter than the limits give the same listing, where they have room for the tokens of a draft: it has no more of them than bytes; and for
-- as many records, and the one over.
-- Assumes nothing.
use Rattle.std.specs.Prelude.{Bool, List, [], ◌∷◌, ◌⊎◌, ◌≡◌, ℕ, ◌+◌, ◌*◌, ◌/◌, ◌≤◌, ◌<◌, min, get_or}
use Rattle.std.proofs.Math.Bool.{true, false, cond}
use Rattle.std.proofs.Math.Path.{refl, sym, ap}
use Rattle.std.proofs.Common.{inl, inr, ◌∙◌, arith, le-ltb}
use Rattle.std.proofs.lemmas.Bool.{cases_lt}
use Rattle.std.proofs.Math.Dec.{ltb}
use Rattle.std.proofs.Math.ListN.{length}
use Rattle.lexer.specs.Lexemes.{Token, Lexemes, tokens, refused_at, lexemes}
use Rattle.lexer.specs.Limits.{Limits, limits_of, small_limits, first_too_deep, room, no_token, deep, judged, lexed_of, tokens_of}
use Rattle.lexer.proofs.Fits.{lexed-fits}
use Rattle.lexer.proofs.Tokens.{Between, tokens-between}
use Rattle.text.specs.Widths.{tok_wide, rec_wide}
use Rattle.text.specs.Refusals.{refusal_number}
use Rattle.text.specs.declared.refusal.Refusal.TheVariants as refusal
use Rattle.grammar.specs.Entry.{Entry, whole_file, over}
use Rattle.text.specs.Answers.{Answer, accepted, refused}
use Rattle.grammar.specs.Answers.Answer.{Reading, unread, read, lexed, reading, answer, fitted, records_in, records_read}
use Rattle.grammar.proofs.Answers.Laws.{space-enough}
use Rattle.lines.specs.Lines.{lines}
use Rattle.grammar.specs.Answers.Lines.{listed, listing}
use Rattle.reader.specs.Listed.{records_most, listing_of}

few-between : (at m : ℕ) (ts : List Token) → at ≤ m → Between at m ts → at + length ts ≤ m
few-between at m [] h b = omega arith
few-between at m (u ∷ ts) h b = let n = few-between u.end m ts b.2 b.3 in omega (arith, n, b.0, b.1)

-- No more tokens than bytes.
pub few-tokens : (draft : List ℕ) → length (tokens_of (lexemes draft)) ≤ length draft
few-tokens draft = go (lexemes draft) refl
  where
    go : (x : Lexemes) → lexemes draft ≡ x → length (tokens_of x) ≤ length draft
    go (refused_at c p) e = omega arith
    go (tokens ts) e = let h = few-between 0 (length draft) ts (omega arith) (tokens-between draft ts e) in omega (arith, h)

-- What the lexer answers where there is room for every token.
abbrev roomy : Lexemes → Answer
roomy (refused_at c p) = refused c p
roomy (tokens ts) = deep (first_too_deep 0 0 ts) (length ts)

module _ (draft : List ℕ) (k : ℕ) (few : length (tokens_of (lexemes draft)) ≤ k) where
  judged-roomy : (l : Limits) (tw : ℕ) → k ≤ room l tw → (x : Lexemes) → lexemes draft ≡ x → judged l tw x ≡ roomy x
  judged-roomy l tw h (refused_at c p) e = refl
  judged-roomy l tw h (tokens ts) e =
      let n = ap (λ (x : Lexemes). length (tokens_of x)) e in
      ap (λ (b : Bool). cond b (refused (refusal_number refusal.TooMany) (get_or ts (room l tw) no_token).start) (deep (first_too_deep 0 0 ts) (length ts))) (le-ltb (room l tw) (length ts) (omega (arith, n, few, h)))

  reading-roomy : (en : Entry) (bytes count tw : ℕ) → k ≤ room (limits_of bytes count) tw
      → reading en (limits_of bytes count) draft tw ≡ lexed en (cond (ltb bytes (length draft)) (refused (refusal_number refusal.TooLong) bytes) (roomy (lexemes draft))) draft (tokens_of (lexemes draft))
  unfolding reading lexed_of
  reading-roomy en bytes count tw h =
      ap (λ (x : Answer). lexed en (cond (ltb bytes (length draft)) (refused (refusal_number refusal.TooLong) bytes) x) draft (tokens_of (lexemes draft))) (judged-roomy (limits_of bytes count) tw h (lexemes draft) refl)

  -- the reading is the same with any limit of tokens and any buffer that have room for k tokens,
  same-reading : (en : Entry) (bytes count tw count' tw' : ℕ) → k ≤ room (limits_of bytes count) tw → k ≤ room (limits_of bytes count') tw'
      → reading en (limits_of bytes count) draft tw ≡ reading en (limits_of bytes count') draft tw'
  same-reading en bytes count tw count' tw' h h' = reading-roomy en bytes count tw h ∙ sym (reading-roomy en bytes count' tw' h')

  -- and with a limit of k tokens there are no more records but those over, so that they fit any buffer for as many;
  module _ (en : Entry) (bytes : ℕ) where
    records-fit : (rw rw' : ℕ) → rec_wide * (over en + k) ≤ rw → rec_wide * (over en + k) ≤ rw'
        → (x : Reading) → reading en (limits_of bytes k) draft (tok_wide * k) ≡ x → fitted rw x ≡ fitted rw' x
    unfolding answer
    records-fit rw rw' h h' (unread c p) e = refl
    records-fit rw rw' h h' (read ts rs) e =
        ap (λ (b : Bool). cond b (refused (refusal_number refusal.NoRoom) 0) (accepted (length ts) (length rs))) (enough rw h ∙ sym (enough rw' h'))
      where
        enough : (rw : ℕ) → rec_wide * (over en + k) ≤ rw → ltb rw (rec_wide * length rs) ≡ false
        enough rw h = go (ltb rw (rec_wide * length rs)) refl
          where
            go : (b : Bool) → ltb rw (rec_wide * length rs) ≡ b → b ≡ false
            go false q = refl
            go true q = absurd (space-enough en (limits_of bytes k) draft (tok_wide * k) rw h 0
                (ap (fitted rw) e ∙ ap (λ (b : Bool). cond b (refused (refusal_number refusal.NoRoom) 0) (accepted (length ts) (length rs))) q))

  -- So the listing is the same by any buffers that have room for k tokens;
  pub same-tokens : (tw tw' rw : ℕ) → k ≤ room small_limits tw → k ≤ room small_limits tw' → listing whole_file small_limits draft tw rw ≡ listing whole_file small_limits draft tw' rw
  unfolding listing answer records_read
  same-tokens tw tw' rw h h' =
      ap (λ (r : Reading). lines (listed (fitted rw r) (records_in r))) (same-reading whole_file small_limits.bytes small_limits.tokens tw small_limits.tokens tw' h h')

-- and where so many tokens are found, by any that have room for the records of as many, within any limits.
pub same-records : (l : Limits) (draft : List ℕ) (n tw rw rw' : ℕ) → lexed_of l draft tw ≡ accepted n 0 → rec_wide * (over whole_file + n) ≤ rw → rec_wide * (over whole_file + n) ≤ rw'
    → listing whole_file l draft tw rw ≡ listing whole_file l draft tw rw'
unfolding listing answer records_read room
same-records l draft n tw rw rw' e h h' =
    let f = lexed-fits l draft tw n e in
    let many = f.0 in
    let fit = f.1 in
    let en = whole_file in
    let few : length (tokens_of (lexemes draft)) ≤ n = omega (arith, many) in
    let r = reading en (limits_of l.bytes n) draft (tok_wide * n) in
    let s : reading en l draft tw ≡ r = same-reading draft n few en l.bytes l.tokens tw n (tok_wide * n) (omega (arith, many, fit)) (omega arith) in
    ap (λ (r : Reading). lines (listed (fitted rw r) (records_in r))) s
    ∙ ap (λ (x : Answer). lines (listed x (records_in r))) (records-fit draft n few en l.bytes rw rw' h h' r refl)
    ∙ sym (ap (λ (r : Reading). lines (listed (fitted rw' r) (records_in r))) s)

-- So a draft is listed as by the largest buffers, where that for its tokens has room for as many as it has bytes.
pub short-listing : (draft : List ℕ) (tw : ℕ) → length draft ≤ tw / tok_wide → tw ≤ tok_wide * small_limits.tokens → listing whole_file small_limits draft tw (rec_wide * records_most) ≡ listing_of draft
unfolding room
short-listing draft tw h k = same-tokens draft (length draft) (few-tokens draft) tw (tok_wide * small_limits.tokens) (rec_wide * records_most) (omega arith) (omega arith)

-- So it is where that buffer has room for as many tokens as the draft has bytes or as any may have, whichever are fewer.
pub roomy_listing : (draft : List ℕ) (tw : ℕ) → tok_wide * min (length draft) small_limits.tokens ≤ tw → tw ≤ tok_wide * small_limits.tokens
    → listing whole_file small_limits draft tw (rec_wide * records_most) ≡ listing_of draft
roomy_listing draft tw h k = go (cases_lt small_limits.tokens (length draft))
  where
    go : (small_limits.tokens < length draft) ⊎ (length draft ≤ small_limits.tokens) → listing whole_file small_limits draft tw (rec_wide * records_most) ≡ listing_of draft
    go (inl l) = let q : tw ≡ tok_wide * small_limits.tokens = omega (arith, h, k, l) in ap (λ (m : ℕ). listing whole_file small_limits draft m (rec_wide * records_most)) q
    go (inr l) = short-listing draft tw (omega (arith, h, l)) k

-- And by buffers for as many tokens as it has bytes, and the records of as many.
pub short-buffers : (draft : List ℕ) (k : ℕ) → length draft ≤ k → k ≤ small_limits.tokens
    → listing whole_file small_limits draft (tok_wide * k) (rec_wide * (over whole_file + k)) ≡ listing whole_file small_limits draft (tok_wide * small_limits.tokens) (rec_wide * records_most)
unfolding listing answer records_read room
short-buffers draft k short h =
    let n = few-tokens draft in
    let fit : length (tokens_of (lexemes draft)) ≤ k = omega (arith, n, short) in
    let en = whole_file in
    let bytes = small_limits.bytes in
    let most = small_limits.tokens in
    let here = rec_wide * (over en + k) in
    let few = reading en (limits_of bytes k) draft (tok_wide * k) in
    let a : reading en small_limits draft (tok_wide * k) ≡ few = same-reading draft k fit en bytes most (tok_wide * k) k (tok_wide * k) (omega (arith, h)) (omega arith) in
    let b : reading en small_limits draft (tok_wide * most) ≡ few = same-reading draft k fit en bytes most (tok_wide * most) k (tok_wide * k) (omega (arith, h)) (omega arith) in
    let c : fitted (rec_wide * records_most) few ≡ fitted here few = records-fit draft k fit en bytes (rec_wide * records_most) here (omega (arith, h)) (omega arith) few refl in
    ap (λ (r : Reading). lines (listed (fitted here r) (records_in r))) a
    ∙ sym (ap (λ (r : Reading). lines (listed (fitted (rec_wide * records_most) r) (records_in r))) b ∙ ap (λ (x : Answer). lines (listed x (records_in few))) c)
