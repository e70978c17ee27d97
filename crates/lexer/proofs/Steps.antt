-- The lexemes of a draft from a place on, by the lexing step at that place.
-- Assumes nothing.
use mathlib.Core.Bool.{Bool, true, false, cond, ◌||◌}
use mathlib.Core.List.{List, [], ◌∷◌}
use mathlib.Core.Path.{◌≡◌, refl, sym, ◌∙◌, ap, ap₂, subst}
use Prim.Native.Nat.{ℕ, zero, suc, ◌+◌, ◌-◌, ◌≤◌, ◌<◌}
use native.Mathlib.Nat.{add-zero}
use native.Mathlib.Omega.{arith}
use borrow.Author.Tests.{lt-ltb, le-ltb, ltb-true, ltb-false, eqb-true}
use lib.Dec.{T, eqb, ltb}
use lib.ListN.{length, get_or, drop, length-drop, drop_of_length-le}
use lib.Seq.{drop-cons, drop-drop}
use Rattle.lexer.specs.Lexemes.{Lexeme, token, trivia, refused, lexeme, Lexemes, tokens, refused_at, with_token, add, lexemes_from}
use Rattle.lexer.specs.Step.{step_from, step_of}
use Rattle.lexer.specs.declared.Step.{Step}
use Rattle.lexer.specs.declared.Step.TheVariants.{Token, Trivia, Refused, Nothing}
use Rattle.lexer.proofs.Moves.{Moves, lexeme-moves}
use Rattle.lexer.specs.Step.{refusal_of}
use Rattle.text.specs.Lists.{has}
use Rattle.text.specs.Refusals.{refusal_number}
use Rattle.text.specs.Refusals as refusal
use Rattle.text.specs.declared.refusal.Refusal.TheVariants as code

-- a number of the bytes' family is that of its refusal
pub number-back : (c : ℕ) → T (has refusal.of_bytes c) → refusal_number (refusal_of c) ≡ c
unfolding has
number-back c = go (eqb 2 c) (eqb 3 c) (eqb 4 c) (eqb 5 c) (eqb 21 c) refl refl refl refl refl
  where
    go : (a b d e f : Bool) → eqb 2 c ≡ a → eqb 3 c ≡ b → eqb 4 c ≡ d → eqb 5 c ≡ e → eqb 21 c ≡ f → T (a || (b || (d || (e || (f || false)))))
        → refusal_number (cond a code.NotAscii (cond b code.NoLexeme (cond d code.Unclosed (cond e code.Simc code.NotUtf8)))) ≡ c
    go true b d e f p q r s t h = eqb-true 2 c p
    go false true d e f p q r s t h = eqb-true 3 c q
    go false false true e f p q r s t h = eqb-true 4 c r
    go false false false true f p q r s t h = eqb-true 5 c s
    go false false false false true p q r s t h = eqb-true 21 c t
    go false false false false false p q r s t h = absurd h

-- the bytes that are still part of the last lexeme are passed over
pub passed : (r : List ℕ) (i k : ℕ) → lexemes_from r i k ≡ lexemes_from (drop k r) (i + k) 0
unfolding lexemes_from
passed [] i zero = refl
passed [] i (suc k) = refl
passed (b ∷ r) i zero = ap (λ j. lexemes_from (b ∷ r) j 0) (sym (add-zero i))
passed (b ∷ r) i (suc k) =
    let e : i + 1 + k ≡ i + suc k = omega arith in
    passed r (i + 1) k ∙ ap (λ j. lexemes_from (drop k r) j 0) e

-- what a step adds; go gives the rest from a place on
abbrev pub follow : Step → ℕ → (ℕ → Lexemes) → Lexemes
follow (Token k e) i go = with_token (record { kind = k; start = i; end = e }) (go e)
follow (Trivia e) i go = go e
follow (Refused r) i go = refused_at (refusal_number r.refusal) r.place
follow Nothing i go = tokens []

-- where a step leads in a draft of m bytes
abbrev pub Leads : ℕ → ℕ → Step → Type 0
Leads i m (Token k e) = (i < e) × (e ≤ m)
Leads i m (Trivia e) = (i < e) × (e ≤ m)
Leads i m (Refused r) = Unit {0}
Leads i m Nothing = m ≤ i

module _ (s : List ℕ) (i : ℕ) where
  -- the lexemes from a place on
  abbrev rest : ℕ → Lexemes
  rest j = lexemes_from (drop j s) j 0

  -- one lexeme of n bytes on
  onward : (n : ℕ) → 1 ≤ n → lexemes_from (drop (suc i) s) (i + 1) (n - 1) ≡ rest (i + n)
  onward n h =
      let e : suc i + (n - 1) ≡ i + n = omega arith in
      let f : i + 1 + (n - 1) ≡ i + n = omega arith in
      passed (drop (suc i) s) (i + 1) (n - 1)
      ∙ ap₂ (λ l j. lexemes_from l j 0) (drop-drop (n - 1) (suc i) s ∙ ap (λ j. drop j s) e) f

  added : (x : Lexeme) → Moves (length (drop i s)) x → add x i (λ n. lexemes_from (drop (suc i) s) (i + 1) (n - 1)) ≡ follow (step_from x i) i rest
  added (token k n) v = ap (λ l. with_token (record { kind = k; start = i; end = i + n }) l) (onward n v.0)
  added (trivia n) v = onward n v.0
  added (refused c n) v = ap (λ d. refused_at d (i + n)) (sym (number-back c v.0))

  leads : (x : Lexeme) → i < length s → Moves (length (drop i s)) x → Leads i (length s) (step_from x i)
  leads (token k n) h v = (omega (arith, v.0), omega (arith, v.1, length-drop i s))
  leads (trivia n) h v = (omega (arith, v.0), omega (arith, v.1, length-drop i s))
  leads (refused c n) h v = tt

  pub here : i < length s → Moves (length (drop i s)) (lexeme (drop i s))
  here h = subst (λ l. Moves (length l) (lexeme l)) (sym (drop-cons s i 0 h)) (lexeme-moves (get_or s i 0) (drop (suc i) s))

  pub step_in : i < length s → step_of s i ≡ step_from (lexeme (drop i s)) i
  unfolding step_of
  step_in h = simp (lt-ltb _ _ h)

  pub step-out : length s ≤ i → step_of s i ≡ Nothing
  unfolding step_of
  step-out h = simp (le-ltb _ _ h)

  rest_in : i < length s → rest i ≡ add (lexeme (drop i s)) i (λ n. lexemes_from (drop (suc i) s) (i + 1) (n - 1))
  unfolding lexemes_from
  rest_in h = subst (λ l. lexemes_from l i 0 ≡ add (lexeme l) i (λ n. lexemes_from (drop (suc i) s) (i + 1) (n - 1))) (sym (drop-cons s i 0 h)) refl

  rest_out : length s ≤ i → rest i ≡ tokens []
  unfolding lexemes_from
  rest_out h = ap (λ l. lexemes_from l i 0) (drop_of_length-le s h)

  -- the lexemes from a place on are what the step there adds to the rest
  pub rest-follows : rest i ≡ follow (step_of s i) i rest
  rest-follows = go (ltb i (length s)) refl
    where
      go : (b : Bool) → ltb i (length s) ≡ b → rest i ≡ follow (step_of s i) i rest
      go true e = let h = ltb-true i (length s) e in rest_in h ∙ added (lexeme (drop i s)) (here h) ∙ ap (λ t. follow t i rest) (sym (step_in h))
      go false e = let h = ltb-false i (length s) e in rest_out h ∙ ap (λ t. follow t i rest) (sym (step-out h))

  -- a token and trivia lead on, and stay in the draft
  pub step-leads : Leads i (length s) (step_of s i)
  step-leads = go (ltb i (length s)) refl
    where
      go : (b : Bool) → ltb i (length s) ≡ b → Leads i (length s) (step_of s i)
      go true e = let h = ltb-true i (length s) e in subst (Leads i (length s)) (sym (step_in h)) (leads (lexeme (drop i s)) h (here h))
      go false e = let h = ltb-false i (length s) e in subst (Leads i (length s)) (sym (step-out h)) h
