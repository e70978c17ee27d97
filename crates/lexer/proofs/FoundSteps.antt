-- What a step at a start says of the token there.
-- Assumes nothing.
use Rattle.std.specs.Prelude.{List, ◌≡◌, refl, ℕ, ◌+◌, ◌-◌, ◌*◌, ◌%◌, ◌^◌, ◌≤◌, ◌<◌, length, take, drop}
use Rattle.std.proofs.Common.{sym, ap, ◌∙◌, subst, arith}
use Rattle.text.specs.Part.{part_of}
use Rattle.lexer.specs.Lexemes.{Token}
use Rattle.lexer.specs.Class.{class_of}
use Rattle.lexer.specs.Starts.{token_from, token_at, class_and_end}
use Rattle.lexer.specs.Step.{step_of}
use Rattle.lexer.specs.declared.Step.{Step}
use Rattle.lexer.specs.declared.Step.TheVariants as step
use Rattle.lexer.proofs.TextLaws.{part-rest}
use Rattle.lexer.proofs.TokenClass.{small_kind}

module _ (draft : List ℕ) (i : ℕ) where
  -- A step that is a token says which is there;
  token-is : {s : Step} {k e : ℕ} → s ≡ step_of draft i → s ≡ step.Token k e → token_at draft i ≡ record { kind = k; start = i; end = e % 2 ^ 32 }
  unfolding token_at
  token-is q f = ap (λ (s : Step). token_from s i) (sym q ∙ f)

  pub token-found : {s : Step} {k e n : ℕ} → s ≡ step_of draft i → s ≡ step.Token k e → n ≡ class_of k (part_of draft i (e % 2 ^ 32)) → n * 2 ^ 32 + e % 2 ^ 32 ≡ class_and_end draft (token_at draft i)
  token-found {s} {k} {e} {n} q f g = subst (λ (t : Token). n * 2 ^ 32 + e % 2 ^ 32 ≡ class_and_end draft t) (sym (token-is q f)) (ap (λ (n : ℕ). n * 2 ^ 32 + e % 2 ^ 32) g)

  -- where its end is a word of 32 bits, as it stands;
  pub short-found : {s : Step} {k e n : ℕ} → s ≡ step_of draft i → s ≡ step.Token k e → e < 2 ^ 32 → i ≤ e → e ≤ length draft → n ≡ class_of k (take (e - i) (drop i draft))
      → n * 2 ^ 32 + e ≡ class_and_end draft (token_at draft i)
  short-found {e = e} {n = n} q f h l m g =
      let w : e ≡ e % 2 ^ 32 = omega (arith, h) in
      let t = part-rest draft i (e - i) e (omega (arith, l)) m in
      ap (λ (m : ℕ). n * 2 ^ 32 + m) w ∙ token-found q f (g ∙ ap (class_of _) (sym t ∙ ap (part_of draft i) w))

  -- after any other one there is none.
  none-is : (s : Step) → s ≡ step_of draft i → ((k e : ℕ) → s ≡ step.Token k e → ⊥) → token_at draft i ≡ record { kind = 0; start = i; end = 0 }
  unfolding token_at
  none-is s q h = ap (λ (s : Step). token_from s i) (sym q) ∙ go s refl
    where
      go : (u : Step) → s ≡ u → token_from u i ≡ record { kind = 0; start = i; end = 0 }
      go (step.Token k e) f = absurd (h k e f)
      go (step.Trivia e) f = refl
      go (step.Refused r) f = refl
      go step.Nothing f = refl

  pub none-found : (s : Step) → s ≡ step_of draft i → ((k e : ℕ) → s ≡ step.Token k e → ⊥) → 0 ≡ class_and_end draft (token_at draft i)
  none-found s q h =
      let g = small_kind 0 (part_of draft i 0) (omega arith) in
      subst (λ (t : Token). 0 ≡ class_and_end draft t) (sym (none-is s q h)) (omega (arith, g))

  -- It starts there, and its end is a word.
  pub its-start : i ≡ (token_at draft i).start
  unfolding token_at
  its-start = go (step_of draft i)
    where
      go : (s : Step) → i ≡ (token_from s i).start
      go (step.Token k e) = refl
      go (step.Trivia e) = refl
      go (step.Refused r) = refl
      go step.Nothing = refl

  pub its-end : (token_at draft i).end < 2 ^ 32
  unfolding token_at
  its-end = go (step_of draft i)
    where
      go : (s : Step) → (token_from s i).end < 2 ^ 32
      go (step.Token k e) = omega arith
      go (step.Trivia e) = omega arith
      go (step.Refused r) = omega arith
      go step.Nothing = omega arith
