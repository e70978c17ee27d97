-- What `is_zero` promises of any type says, at u32 and at u8, that all words or bytes are the number 0.
-- Assumes nothing.
use Rattle.std.proofs.Common.{◌≡◌, ◌==◌, ℕ, List, Bool, true, All, sym, ◌∙◌}
use Rattle.std.specs.Bool.{Decides}
use Rattle.std.specs.contracts.prelude.AnyFrom.TheImpl.{ghosts as AnyFrom}
use Rattle.std.specs.contracts.prelude.U32FromU8.TheImpl.{ghosts as U32FromU8}
use Rattle.std.specs.contracts.prelude.U32PartialEq.TheImpl.{ghosts as U32PartialEq}
use Rattle.std.specs.contracts.prelude.U8PartialEq.TheImpl.{ghosts as U8PartialEq}
use Rattle.std.proofs.lemmas.Bool.Decides.{Decides-eqb, Decides-like}
use denote.Builtin.{u8}

-- What both have in common: the 0 of a byte is the number 0, and equality is that of numbers.
pub of_numbers : (result : Bool) (words : List ℕ) → (zero : ℕ) × (zero ≡ 0) × Decides result (All (λ word. (word == zero) ≡ true) words) →
    Decides result (All (λ word. word ≡ 0) words)
of_numbers result words (z, same, told) =
    Decides-like result (λ all k d below. (Decides-eqb _ z).0 (all k d below) ∙ same) (λ all k d below. (Decides-eqb _ z).1 (all k d below ∙ sym same)) told

pub of_words : (result : Bool) (words : List ℕ) →
    (zero : ℕ) × U32FromU8.from_gives 0 zero × Decides result (All (λ word. U32PartialEq.eq word zero ≡ true) words) → Decides result (All (λ word. word ≡ 0) words)
of_words = of_numbers

-- A byte is converted to itself.
pub of_bytes : (result : Bool) (bytes : List ℕ) →
    (zero : ℕ) × (AnyFrom u8).from_gives 0 zero × Decides result (All (λ byte. U8PartialEq.eq byte zero ≡ true) bytes) → Decides result (All (λ byte. byte ≡ 0) bytes)
of_bytes = of_numbers
