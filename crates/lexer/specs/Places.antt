-- What the private functions of the lexer know of a place.
-- Assumes nothing.
use Rattle.std.specs.Prelude.{true, cond, List, ◌≡◌, ℕ, ◌+◌, ◌≤◌, ◌<◌, eqb, ltb, length, get_or, drop, Option, Some, None}
use Rattle.text.specs.declared.refusal.Refusal.TheVariants as code
use Rattle.lexer.specs.Bytes.{in_classes}
use Rattle.lexer.specs.Bytes as byte
use Rattle.lexer.specs.Classes as t
use Rattle.lexer.specs.Chars.{among, name_starts, run}
use Rattle.lexer.specs.Lexemes.{name_length}
use Rattle.lexer.specs.Step.{lexeme_at, refused_step}
use Rattle.lexer.specs.declared.Step.{Step}
use Rattle.lexer.specs.declared.Step.TheVariants.{Token}

-- a name stands from i up to e
pub record Named (s : List ℕ) (i e : ℕ) : Type 0 where
  pub starts : among name_starts (get_or s i 0) ≡ true
  pub ends : e ≡ i + name_length (drop i s)
  pub here : i < length s
  pub within : e ≤ length s

-- keyword number k from i up to e
abbrev pub keyword_at : ℕ → ℕ → ℕ → Step
keyword_at k i e = cond (eqb (t.Pub + k) t.Simc) (refused_step code.Simc i) (cond (ltb t.Simc (t.Pub + k)) (Token t.Bool e) (Token (t.Pub + k) e))

-- the decimal token at i
abbrev pub decimal_at : List ℕ → ℕ → Step
decimal_at s i = Token t.DecLiteral (i + run (in_classes byte.Underscore byte.Digit) (drop i s))

-- a prefix of two bytes stands at i, and digits of the classes up to most behind it make a token of this kind; else the lexeme is decimal
pub record Based (s : List ℕ) (i kind most : ℕ) : Type 0 where
  pub within : i + 2 ≤ length s
  pub small : most ≤ byte.HexLetter
  pub digits : in_classes byte.BinaryDigit most (get_or s (i + 2) 0) ≡ true → lexeme_at s i ≡ Token kind (i + 2 + run (in_classes byte.Underscore most) (drop (i + 2) s))
  pub others : (in_classes byte.BinaryDigit most (get_or s (i + 2) 0) ≡ true → ⊥) → lexeme_at s i ≡ decimal_at s i

-- the lexeme at i, if there is an answer
abbrev pub IfAny : List ℕ → ℕ → Option Step → Type 0
IfAny s i None = Unit
IfAny s i (Some t) = t ≡ lexeme_at s i

-- the class of a byte at which whatever is not frequent may stand: none of whitespace, and of the marks `-` alone
abbrev pub Rare : ℕ → Type 0
Rare c = ((byte.Minus < c) × (c < byte.Other) → ⊥) × ((byte.Space ≤ c) × (c ≤ byte.LineEnd) → ⊥)
