-- What the proof of the entry cites: what the buffer holds at the end.
-- Assumes nothing.
use mathlib.Core.List.{List, ◌++◌}
use mathlib.Core.Path.{◌≡◌, refl, sym, ◌∙◌, ap}
use Prim.Native.Nat.{ℕ, ◌-◌, ◌*◌, ◌≤◌}
use native.Mathlib.Omega.{arith}
use lib.ListN.{length, replicate, take}
use Rattle.text.specs.Answers.{Answer, accepted}
use Rattle.text.specs.Widths.{tok_wide}
use Rattle.lexer.specs.Lexemes.{lexemes}
use Rattle.lexer.specs.Limits.{Limits, meant, lexed_of, tokens_of, token_words, content, buffer_of}
use Rattle.text.specs.Front.{Held}
use Rattle.lexer.proofs.Fits.{words-fit, tokens-cleared}
use Rattle.std.specs.Prelude.{Result, Ok, Err, MatchResult}
use Rattle.text.specs.declared.refusal.Refused.{Refused}

module _ (l : Limits) (s : List ℕ) (size : ℕ) where
  pub buffer-refused : {r : Result ℕ Refused} {x : Refused} → meant r ≡ lexed_of l s size → r ≡ Err x → replicate size 0 ≡ buffer_of l s size
  unfolding buffer_of
  buffer-refused e g = ap (λ (x : Answer). content x (tokens_of (lexemes s)) size) (sym (ap meant g) ∙ e)

  is-accepted : {r : Result ℕ Refused} {n : ℕ} → meant r ≡ lexed_of l s size → r ≡ Ok n → lexed_of l s size ≡ accepted n 0
  is-accepted e g = sym e ∙ ap meant g

-- As many tokens as are accepted fit the buffer, and with zeros behind them they are what it has.
module _ (l : Limits) (s o : List ℕ) {r : Result ℕ Refused} {n : ℕ} (out : List ℕ) (e : meant r ≡ lexed_of l s (length o)) (g : r ≡ Ok n) where
  pub tokens-fit : length out ≡ length o → tok_wide * n ≤ length out
  tokens-fit k = omega (arith, k, (words-fit l s o n (is-accepted l s (length o) e g)).0)

  pub buffer_held : Held (meant r) (token_words (tokens_of (lexemes s))) o out → take (tok_wide * n) out ++ replicate (length out - tok_wide * n) 0 ≡ buffer_of l s (length o)
  buffer_held h = tokens-cleared l s o n (is-accepted l s (length o) e g) (h.holds n 0 (ap meant g))

-- Cleared behind the tokens, or from the beginning on a refusal, the buffer is the one that is handed over.
pub buffer-cleared : (l : Limits) (s o out : List ℕ) (r : Result ℕ Refused) {k : ℕ} {Behind : ℕ → Type 0} → meant r ≡ lexed_of l s (length o) → Held (meant r) (token_words (tokens_of (lexemes s))) o out
    → length out ≡ length o → MatchResult r Behind (λ _. k ≡ 0) → ((n : ℕ) → Behind n → k ≡ tok_wide * n) → take k out ++ replicate (length out - k) 0 ≡ buffer_of l s (length o)
buffer-cleared l s o out (Ok n) e h same m f = rw (f n m) (buffer_held l s o out e refl h)
buffer-cleared l s o out (Err x) {k = k} e h same m f =
    let z : length out - k ≡ length o = omega arith in
    rw (z, m) (buffer-refused l s (length o) e refl)
