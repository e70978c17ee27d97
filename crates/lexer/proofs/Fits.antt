-- What the lexer lets pass is short enough, and its tokens fit; and how they lie in a buffer.
-- Assumes nothing.
use Rattle.std.specs.Prelude.{Bool, true, false, cond, List, [], ◌∷◌, ◌++◌, ◌≡◌, refl, ℕ, ◌-◌, ◌*◌, ◌≤◌, ltb, length, get_or, take, replicate}
use Rattle.std.proofs.Common.{sym, ap, ◌∙◌, arith, ltb-false}
use Rattle.std.proofs.Math.Option.{Option, none, some}
use Rattle.text.proofs.Same.{differ}
use Rattle.text.specs.Answers.{Answer, accepted, refused}
use Rattle.text.specs.Refusals.{refusal_number}
use Rattle.text.specs.declared.refusal.Refusal.TheVariants as refusal
use Rattle.text.specs.Front.{front}
use Rattle.text.proofs.Front.{front-cleared}
use Rattle.text.specs.Widths.{tok_wide}
use Rattle.lexer.specs.Lexemes.{Token, Lexemes, tokens, refused_at, lexemes}
use Rattle.lexer.specs.Limits.{Limits, room, no_token, first_too_deep, deep, judged, lexed_of, tokens_of, token_words, content, buffer_of}
use Rattle.lexer.specs.Buffer.{tokens_in}

abbrev accepting : Answer → Bool
accepting (accepted n m) = true
accepting (refused c p) = false

abbrev count : Answer → ℕ
count (accepted n m) = n
count (refused c p) = 0

-- No answer is both.
pub not-both : {c p n m : ℕ} → refused c p ≡ accepted n m → ⊥
not-both e = differ (ap accepting e)

deep_is : (o : Option ℕ) {k n : ℕ} → deep o k ≡ accepted n 0 → k ≡ n
deep_is none e = ap count e
deep_is (some p) e = absurd (not-both e)

fits : (l : Limits) (tw n : ℕ) (x : Lexemes) → judged l tw x ≡ accepted n 0 → (length (tokens_of x) ≡ n) × (length (tokens_of x) ≤ room l tw)
fits l tw n (refused_at c p) e = absurd (not-both e)
fits l tw n (tokens ts) e = go (ltb (room l tw) (length ts)) refl e
  where
    go : (b : Bool) → ltb (room l tw) (length ts) ≡ b → cond b (refused (refusal_number refusal.TooMany) (get_or ts (room l tw) no_token).start) (deep (first_too_deep 0 0 ts) (length ts)) ≡ accepted n 0 → (length ts ≡ n) × (length ts ≤ room l tw)
    go true q f = absurd (not-both f)
    go false q f = (deep_is (first_too_deep 0 0 ts) f, ltb-false (room l tw) (length ts) q)

-- So many are accepted only if there are so many, and they fit.
pub lexed-fits : (l : Limits) (draft : List ℕ) (tw n : ℕ) → lexed_of l draft tw ≡ accepted n 0 → (length (tokens_of (lexemes draft)) ≡ n) × (length (tokens_of (lexemes draft)) ≤ room l tw)
unfolding lexed_of
lexed-fits l draft tw n e = go (ltb l.bytes (length draft)) e
  where
    go : (b : Bool) → cond b (refused (refusal_number refusal.TooLong) l.bytes) (judged l tw (lexemes draft)) ≡ accepted n 0 → (length (tokens_of (lexemes draft)) ≡ n) × (length (tokens_of (lexemes draft)) ≤ room l tw)
    go true f = absurd (not-both f)
    go false f = fits l tw n (lexemes draft) f

pub lexed-few : (l : Limits) (draft : List ℕ) (tw n : ℕ) → lexed_of l draft tw ≡ accepted n 0 → n ≤ l.tokens
unfolding room
lexed-few l draft tw n e =
    let h = lexed-fits l draft tw n e in
    let k = h.0 in
    let f = h.1 in
    omega (arith, k, f)

-- Then the draft is short, too.
pub lexed-short : (l : Limits) (draft : List ℕ) (tw n : ℕ) → lexed_of l draft tw ≡ accepted n 0 → length draft ≤ l.bytes
unfolding lexed_of
lexed-short l draft tw n e = go (ltb l.bytes (length draft)) refl e
  where
    go : (b : Bool) → ltb l.bytes (length draft) ≡ b → cond b (refused (refusal_number refusal.TooLong) l.bytes) (judged l tw (lexemes draft)) ≡ accepted n 0 → length draft ≤ l.bytes
    go true q f = absurd (not-both f)
    go false q f = ltb-false l.bytes (length draft) q

-- So many words a token.
pub token-words-length : (ts : List Token) → length (token_words ts) ≡ tok_wide * length ts
unfolding token_words
token-words-length [] = refl
token-words-length (t ∷ ts) = let ih = token-words-length ts in omega arith

-- The tokens at the front of a buffer are read back, whatever is behind them.
pub read-back : (ts : List Token) (z : List ℕ) → tokens_in (length ts) (token_words ts ++ z) ≡ ts
unfolding tokens_in token_words
read-back [] z = refl
read-back (t ∷ ts) z = ap (λ (us : List Token). t ∷ us) (read-back ts z)

-- Of a draft whose tokens are accepted,
module _ (l : Limits) (draft o : List ℕ) (n : ℕ) (e : lexed_of l draft (length o) ≡ accepted n 0) where
  -- the words are so many, and fit;
  pub words-fit : (tok_wide * n ≤ length o) × (length (token_words (tokens_of (lexemes draft))) ≡ tok_wide * n)
  unfolding room
  words-fit =
      let h = lexed-fits l draft (length o) n e in
      let k = h.0 in
      let f = h.1 in
      (omega (arith, k, f), omega (arith, k, token-words-length (tokens_of (lexemes draft))))

  -- and once the buffer is cleared behind them, it is the one that is handed over.
  pub tokens-cleared : {out : List ℕ} → out ≡ front (token_words (tokens_of (lexemes draft))) o → take (tok_wide * n) out ++ replicate (length out - tok_wide * n) 0 ≡ buffer_of l draft (length o)
  unfolding buffer_of
  tokens-cleared h =
      let (f, k) = words-fit in
      let ts = tokens_of (lexemes draft) in
      ap (λ (z : List ℕ). take (tok_wide * n) z ++ replicate (length z - tok_wide * n) 0) h
      ∙ front-cleared (token_words ts) o (tok_wide * n) k f
      ∙ ap (λ (m : ℕ). token_words ts ++ replicate (length o - m) 0) (token-words-length ts)
      ∙ sym (ap (λ (x : Answer). content x ts (length o)) e)
