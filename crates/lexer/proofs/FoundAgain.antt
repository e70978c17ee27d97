-- A lexeme that is found again at a token's start is that token, so the starts alone give the tokens back (document 02, order 10: "finds kind and end again
-- from the draft").
-- Assumes nothing.
use Rattle.std.specs.Prelude.{List, [], ◌∷◌, ◌≡◌, refl, ℕ, zero, suc, ◌+◌, ◌-◌, ◌%◌, ◌≤◌, ◌<◌, ◌^◌, length, drop}
use Rattle.std.proofs.Common.{sym, ap, ap₂, ◌∙◌, subst, arith}
use lib.Seq.{drop-drop}
use Rattle.lexer.specs.Lexemes.{Lexeme, token, trivia, refused, lexeme, Token, Lexemes, tokens, refused_at, with_token, add, lexemes_from, lexemes}
use Rattle.lexer.specs.Starts.{start_words, token_from, token_at, tokens_at}
use Rattle.lexer.specs.Step.{step_from, step_of}
use Rattle.lexer.specs.declared.Step.{Step}
use Rattle.lexer.proofs.Moves.{Moves, lexeme-moves}
use Rattle.lexer.proofs.Steps.{step_in}

-- the tokens among lexemes are those that the steps at their starts find
abbrev Again : List ℕ → Lexemes → Type 0
Again draft (tokens ts) = tokens_at draft (start_words ts) ≡ ts
Again draft (refused_at c p) = Unit {0}

module _ (draft : List ℕ) (short : length draft < 2 ^ 32) where
  -- one token more before them
  with-again : (t : Token) (x : Lexemes) → token_at draft t.start ≡ t → Again draft x → Again draft (with_token t x)
  with-again t (tokens ts) h a = ap₂ (λ (u : Token) (us : List Token). u ∷ us) h a
  with-again t (refused_at c p) h a = tt

  -- the token at a place, where the text there begins with it
  this : (r : List ℕ) (i k n : ℕ) → drop i draft ≡ r → i < length draft → i + n ≤ length draft → lexeme r ≡ token k n
      → token_at draft i ≡ record { kind = k; start = i; end = i + n }
  unfolding token_at
  this r i k n e h m q =
      let s : step_of draft i ≡ step_from (token k n) i =
      step_in draft i h ∙ ap (λ (l : List ℕ). step_from (lexeme l) i) e ∙ ap (λ (x : Lexeme). step_from x i) q in
      let w : (i + n) % 2 ^ 32 ≡ i + n = omega (arith, short, m) in
      ap (λ (t : Step). token_from t i) s ∙ ap (λ (j : ℕ). record { kind = k; start = i; end = j }) w

  again-from : (r : List ℕ) (i k : ℕ) → drop i draft ≡ r → i + length r ≡ length draft → Again draft (lexemes_from r i k)
  unfolding lexemes_from
  again-from [] i k e l = refl
  again-from (b ∷ r) i (suc k) e l = again-from r (i + 1) k (sym (drop-drop 1 i draft) ∙ ap (drop 1) e) (omega arith)
  again-from (b ∷ r) i zero e l =
      go (lexeme (b ∷ r)) refl (lexeme-moves b r) (λ n. again-from r (i + 1) (n - 1) (sym (drop-drop 1 i draft) ∙ ap (drop 1) e) (omega arith))
    where
      go : (x : Lexeme) → lexeme (b ∷ r) ≡ x → Moves (suc (length r)) x → ((n : ℕ) → Again draft (lexemes_from r (i + 1) (n - 1)))
          → Again draft (add x i (λ n. lexemes_from r (i + 1) (n - 1)))
      go (token k n) q v h =
          let m = v.1 in
          with-again (record { kind = k; start = i; end = i + n }) (lexemes_from r (i + 1) (n - 1))
          (this (b ∷ r) i k n e (omega (arith, l)) (omega (arith, l, m)) q) (h n)
      go (trivia n) q v h = h n
      go (refused c n) q v h = tt

-- Every token of a draft that lexes is the one that the step at its start finds.
pub found-again : (draft : List ℕ) (ts : List Token) → length draft < 2 ^ 32 → lexemes draft ≡ tokens ts → tokens_at draft (start_words ts) ≡ ts
unfolding lexemes
found-again draft ts short e = subst (Again draft) e (again-from draft short draft 0 0 refl (omega arith))
