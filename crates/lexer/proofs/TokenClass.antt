-- What the proof of `class` cites: the place of a rule's word is small, and which tokens are of their kind.
-- Assumes nothing.
use mathlib.Core.Bool.{Bool, true, false, cond, ◌||◌}
use mathlib.Core.Path.{◌≡◌, refl}
use mathlib.Core.List.{List}
use Prim.Native.Nat.{ℕ, ◌<◌}
use native.Mathlib.Omega.{arith}
use borrow.Author.Tests.{ne_eqb}
use lib.Dec.{eqb}
use Rattle.words.specs.Words.{FUNCTION_RESERVED, MACROS, RULE_NAMES, BOOLEANS, BOOL, UINT_TYPES, BUILTIN_ALIASES, TYPE_NAMES, RULE_WORDS, words_of, word_of}
use Rattle.words.proofs.Right.{below}
use Rattle.std.specs.Prelude.{Some, None}
use Rattle.words.specs.declared.Table.TheVariants.{RuleWords}
use Rattle.lexer.specs.Class.{class_of}
use Rattle.lexer.specs.Classes as t

pub few_words : (p : List ℕ) (k : ℕ) → word_of (words_of RuleWords) p ≡ Some k → k < 60
unfolding words_of RULE_WORDS RULE_NAMES FUNCTION_RESERVED MACROS BOOLEANS TYPE_NAMES BOOL UINT_TYPES BUILTIN_ALIASES
few_words p k e = below (words_of RuleWords) p k e

-- the kinds of words are not among the small ones
pub small_kind : (kind : ℕ) (text : List ℕ) → kind < t.Bool → kind ≡ class_of kind text
unfolding class_of
small_kind kind text h = simp (ne_eqb kind t.Bool (λ z. absurd (omega arith)), ne_eqb kind t.Ident (λ z. absurd (omega arith)), ne_eqb kind t.Macro (λ z. absurd (omega arith)))

-- what is no word is of its kind, whichever that is
pub no_word : (kind : ℕ) (text : List ℕ) → word_of RULE_WORDS text ≡ None → kind ≡ class_of kind text
unfolding class_of
no_word kind text q = rw q (go (eqb kind t.Bool || eqb kind t.Ident || eqb kind t.Macro))
  where
    go : (b : Bool) → kind ≡ cond b kind kind
    go true = refl
    go false = refl
