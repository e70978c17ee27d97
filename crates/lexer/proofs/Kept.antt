-- What is kept of each token in a buffer of so many words a token, and how it is written.
-- Assumes nothing.
use Rattle.std.specs.Prelude.{Bool, true, false, cond, List, [], ◌∷◌, ◌++◌, ◌≡◌, refl, ℕ, suc, ◌+◌, ◌*◌, ◌≤◌, eqb, length, set}
use Rattle.std.proofs.Common.{sym, ap, ap₂, ◌∙◌, subst, arith}
use Rattle.std.proofs.Math.Nat.{mul-suc}
use mathlib.Core.List.{append-nil, append_assoc}
use borrow.Author.Tests.{ne_eqb}
use lib.ListN.{length-append}
use lib.Seq.{length-sets}
use Rattle.text.specs.Answers.{Answer}
use Rattle.text.specs.Front.{Held}
use Rattle.text.specs.Widths.{tok_wide}
use Rattle.lexer.specs.Buffer.{kept, Keeps, words_kept, put_at}
use Rattle.lexer.specs.Lexemes.{Token}
use Rattle.lexer.specs.Limits.{no_token, token_words}
use Rattle.lexer.specs.Starts.{start_wide, start_words}

-- ---- the two widths

-- with all of each token these are the words of the tokens,
pub whole-kept : (ts : List Token) → words_kept tok_wide ts ≡ token_words ts
unfolding words_kept token_words
whole-kept [] = refl
whole-kept (t ∷ ts) = ap (λ (l : List ℕ). t.kind ∷ t.start ∷ t.end ∷ l) (whole-kept ts)

-- and with one word each their starts.
pub starts-kept : (ts : List Token) → words_kept start_wide ts ≡ start_words ts
unfolding words_kept
starts-kept [] = refl
starts-kept (t ∷ ts) = ap (λ (l : List ℕ). t.start ∷ l) (starts-kept ts)

-- So what a buffer holds is said by either.
pub held_as : {a : Answer} {ws vs o out : List ℕ} → ws ≡ vs → Held a ws o out → Held a vs o out
held_as {a} {o = o} {out = out} e h = subst (λ (l : List ℕ). Held a l o out) e h

-- three stores are those of a whole token
pub put_whole : (out : List ℕ) (n k a e : ℕ) → set (set (set out (tok_wide * n) k) (tok_wide * n + 1) a) (tok_wide * n + 2) e ≡ put_at tok_wide out n k a e
put_whole out n k a e =
    let b : tok_wide * n + 1 ≡ suc (tok_wide * n) = omega arith in
    let d : tok_wide * n + 2 ≡ suc (suc (tok_wide * n)) = omega arith in
    ap₂ (λ (x y : ℕ). set (set (set out (tok_wide * n) k) x a) y e) b d

-- ---- words for each

module _ (w : ℕ) where
  pub kept-snoc : (ts : List Token) (t : Token) → words_kept w (ts ++ t ∷ []) ≡ words_kept w ts ++ kept w t
  unfolding words_kept
  kept-snoc [] t = append-nil (kept w t)
  kept-snoc (u ∷ ts) t = ap (λ (l : List ℕ). kept w u ++ l) (kept-snoc ts t) ∙ sym (append_assoc (kept w u) (words_kept w ts) (kept w t))

  pub length-put : (out : List ℕ) (n k a e : ℕ) → length (put_at w out n k a e) ≡ length out
  length-put out n k a e = length-sets out (w * n) (kept w (record { kind = k; start = a; end = e }))

  module _ (keeps : Keeps w) where
    -- a width is that of a start or that of a whole token, so it is not 0
    pub some_words : 1 ≤ w
    some_words = go (eqb w start_wide) (keeps no_token)
      where
        go : (b : Bool) → length (cond b (no_token.start ∷ []) (no_token.kind ∷ no_token.start ∷ no_token.end ∷ [])) ≡ w → 1 ≤ w
        go true h = omega (arith, h)
        go false h = omega (arith, h)

    pub kept-length : (ts : List Token) → length (words_kept w ts) ≡ w * length ts
    unfolding words_kept
    kept-length [] = omega arith
    kept-length (t ∷ ts) =
        length-append (kept w t) (words_kept w ts) ∙ omega (arith, keeps t, kept-length ts, mul-suc w (length ts))

    -- Where it is not that of a start, all is kept.
    module _ (n : w ≡ start_wide → ⊥) where
      all-words : tok_wide ≡ w
      all-words =
          let t = no_token in
          sym (ap (λ (b : Bool). length (cond b (t.start ∷ []) (t.kind ∷ t.start ∷ t.end ∷ []))) (ne_eqb w start_wide n)) ∙ keeps t

      pub all-within : (i m : ℕ) → w * (i + 1) ≤ m → tok_wide * (i + 1) ≤ m
      all-within i m h = subst (λ (v : ℕ). v * (i + 1) ≤ m) (sym all-words) h

      pub all_put : (out : List ℕ) (i k a e : ℕ) → put_at tok_wide out i k a e ≡ put_at w out i k a e
      all_put out i k a e = ap (λ (v : ℕ). put_at v out i k a e) all-words
