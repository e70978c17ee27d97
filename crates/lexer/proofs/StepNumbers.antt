-- The numbers of a step are those of the lexeme at its place.
-- Assumes nothing.
use mathlib.Core.Bool.{Bool, true, false, cond}
use mathlib.Core.List.{List}
use mathlib.Core.Path.{◌≡◌, refl, ap, ◌∙◌}
use Prim.Native.Nat.{ℕ, ◌+◌}
use borrow.Author.Tests.{ltb-true}
use lib.Dec.{ltb}
use lib.ListN.{length, drop}
use Rattle.lexer.specs.Lexemes.{Lexeme, token, trivia, refused, lexeme}
use Rattle.lexer.specs.Step.{numbers, numbers_from, numbers_at, step_from, lexeme_at, step_of, stops}
use Rattle.lexer.proofs.Moves.{Moves}
use Rattle.lexer.proofs.Steps.{number-back, here}
use Rattle.lexer.specs.declared.Step.{Step}
use Rattle.lexer.specs.declared.Step.TheVariants.{Nothing}

numbers-from : (m : ℕ) (x : Lexeme) (i : ℕ) → Moves m x → numbers (step_from x i) ≡ numbers_from x i
numbers-from m (token k n) i v = refl
numbers-from m (trivia n) i v = refl
numbers-from m (refused c n) i v = ap (λ d. stops d (i + n)) (number-back c v.0)

pub step_numbers : (draft : List ℕ) (i : ℕ) {r : Step} → r ≡ step_of draft i → numbers r ≡ numbers_at draft i
unfolding step_of numbers_at
step_numbers draft i e = ap numbers e ∙ go (ltb i (length draft)) refl
  where
    go : (b : Bool) → ltb i (length draft) ≡ b → numbers (cond b (lexeme_at draft i) Nothing) ≡ cond b (numbers_from (lexeme (drop i draft)) i) (stops 0 0)
    go true h = numbers-from (length (drop i draft)) (lexeme (drop i draft)) i (here draft i (ltb-true i (length draft) h))
    go false h = refl
