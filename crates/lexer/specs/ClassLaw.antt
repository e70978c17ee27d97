-- What the class of a token says of its kind and text: the names, macros and words that the rules tell apart are those of documents 01 and 02, whatever the text.
-- Assumes nothing: these are definitions.
use mathlib.Core.List.{List, Memᴰ}
use Rattle.std.specs.Prelude.{◌↔◌, ◌≡◌, ℕ, ◌≤◌, T}
use Rattle.text.specs.Ascii.{ascii}
use Rattle.words.specs.Words.{FUNCTION_RESERVED, ALIAS_RESERVED}
use Rattle.lexer.specs.Classes as t
use Rattle.lexer.specs.ClassTexts.{given, sample_of}

-- Of a token of this kind and text, c is the class.
pub record ClassLaw (kind : ℕ) (text : List ℕ) (c : ℕ) : Type 0 where
  -- "an identifier is any name token"
  pub identifier : Memᴰ c t.identifiers ↔ (kind ≡ t.Ident)
  -- "a function name is any not in `FUNCTION_RESERVED`"
  pub function_name : Memᴰ c t.function_names ↔ ((kind ≡ t.Ident) × ¬ Memᴰ text FUNCTION_RESERVED)
  -- "A type's own name may not be in `ALIAS_RESERVED`"
  pub alias_name : Memᴰ c t.alias_names ↔ ((kind ≡ t.Ident) × ¬ Memᴰ text ALIAS_RESERVED)
  -- Each word that the rules name, each of "the three macros", `list!` and each boolean: the token is that text.
  pub word : (d : ℕ) → T (given d) → t.words ≤ d → (c ≡ d) ↔ (text ≡ ascii (sample_of d).text)
