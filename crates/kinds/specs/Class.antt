-- The class of a token of a draft, from its three words and its text: that of the lexer (document 01, "Lexemes").
-- Assumes nothing.
use Rattle.std.specs.Prelude.{List, ℕ}
use Rattle.text.specs.Part.{part_of}
use Rattle.lexer.specs.Class as lexer

-- The class of the token of this kind, start and end in a draft: its kind, or the word or macro that its text is.
unfoldable pub class_of : List ℕ → ℕ → ℕ → ℕ → ℕ
class_of draft k start stop = lexer.class_of k (part_of draft start stop)
