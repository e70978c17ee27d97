-- A mark with which no other begins is told by its byte.
-- Assumes nothing.
use Rattle.std.specs.Prelude.{List, ℕ, ◌+◌, ◌<◌, ◌≡◌, length, get_or}
use Rattle.std.proofs.Common.{refl, sym, ◌∙◌, arith}
use Rattle.lexer.specs.Bytes.{byte_class}
use Rattle.lexer.specs.Bytes as byte
use Rattle.lexer.specs.Step.{step_of}
use Rattle.lexer.specs.declared.Step.{Step}
use Rattle.lexer.specs.declared.Step.TheVariants.{Token}
use Rattle.lexer.proofs.Marks.{at_alone}
use Rattle.lexer.proofs.Steps.{step_in, step-out}
use Rattle.lexer.proofs.found.class_and_end.Goals as goal

-- such a mark, of this class
alone : (s : List ℕ) (i : ℕ) {c : ℕ} {t : Step} → i < length s → c ≡ byte_class (get_or s i 0) → byte.Minus < c → c < byte.Other → (c ≡ byte.Colon → ⊥) → (c ≡ byte.Eq → ⊥) → (c ≡ byte.Minus → ⊥)
    → t ≡ Token c (i + 1) → t ≡ step_of s i
alone s i {c} h q a b colon eq minus e = e ∙ at_alone s i c (get_or s (i + 1) 0) h q refl (omega (arith, a)) (omega (arith, b)) minus colon eq (λ z. absurd (omega (arith, z, b))) ∙ sym (step_in s i h)

pub told-requires : goal.told-requires
told-requires c = sym (step-out _ _ c.if-at-draft.true)

pub told-requires-in-16-to-17 : goal.told-requires-in-16-to-17
told-requires-in-16-to-17 c = alone c.args.draft.now c.args.start c.if-at-draft.false c.of-class.ensures (omega arith) (omega arith) (λ z. omega arith) (λ z. omega arith) (λ z. omega arith) c.mark.ensures

pub told-requires-in-20-to-27 : goal.told-requires-in-20-to-27
told-requires-in-20-to-27 c = alone c.args.draft.now c.args.start c.if-at-draft.false c.of-class.ensures (omega arith) (omega arith) (λ z. omega arith) (λ z. omega arith) (λ z. omega arith) c.mark-in-20-to-27.ensures
