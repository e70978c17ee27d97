-- The class of a token for the rules: its kind, or the word or macro that it is. `true` and `false` are apart.
-- Assumes nothing.
use Rattle.std.specs.Prelude.{cond, ◌||◌, List, ℕ, ◌+◌, eqb, Option, Some, None}
use Rattle.words.specs.Words.{RULE_WORDS, word_of}
use Rattle.lexer.specs.Classes as t

abbrev pub word_class : Option ℕ → ℕ → ℕ
word_class (Some k) kind = t.words + k
word_class None kind = kind

-- booleans, names and macros have a class of their own where the rules tell them apart
unfoldable pub class_of : ℕ → List ℕ → ℕ
class_of kind text = cond (eqb kind t.Bool || eqb kind t.Ident || eqb kind t.Macro) (word_class (word_of RULE_WORDS text) kind) kind
