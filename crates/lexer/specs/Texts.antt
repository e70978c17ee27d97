-- The texts of tokens: in a draft, alone, and joined by whitespace to a draft of their own, so that what is said of tokens can be said of drafts.
-- Assumes nothing.
use Rattle.std.specs.Prelude.{Bool, true, ◌&&◌, ◌≡◌, ℕ, ◌+◌, ◌<◌, length}
use mathlib.Core.List.{List, [], ◌∷◌, ◌++◌, map, Memᴰ}
use Rattle.text.specs.Ascii.{ascii}
use Rattle.text.specs.Part.{part_of}
use Rattle.lexer.specs.Chars.{among, whitespace}
use Rattle.lexer.specs.Class.{class_of}
use Rattle.lexer.specs.Lexemes.{token, lexeme, Token, Lexemes, tokens, refused_at, with_token}

-- "The raw text of a start and an end is handed back as that part of the caller's draft": the text of a token of a draft,
unfoldable pub text_in : List ℕ → Token → List ℕ
text_in draft t = part_of draft t.start t.end

-- and the class that it has there.
unfoldable pub class_in : List ℕ → Token → ℕ
class_in draft t = class_of t.kind (text_in draft t)

-- The text is one lexeme, a token of this kind.
pub record OneToken (kind : ℕ) (text : List ℕ) : Type 0 where
  pub lexed : lexeme text ≡ token kind (length text)

-- "Whitespace is bytes 9 to 13 and 32": no other byte
unfoldable pub blank : List ℕ → Bool
blank [] = true
blank (b ∷ r) = among whitespace b && blank r

-- whitespace follows, or the end
unfoldable pub gap : List ℕ → Bool
gap [] = true
gap (b ∷ r) = among whitespace b

-- A text with the kind of its token, and what parts it from the next.
pub record Piece : Type 0 where
  pub kind : ℕ
  pub text : List ℕ
  pub between : List ℕ

-- The text is one token, and whitespace parts it from the next.
pub record Sound (p : Piece) : Type 0 where
  pub one : OneToken p.kind p.text
  pub apart : 0 < length p.between
  pub white : blank p.between ≡ true

-- each of them
abbrev pub Sounds : List Piece → Type 0
Sounds ps = (p : Piece) → Memᴰ p ps → Sound p

-- a text, and then a space
abbrev pub spaced : ℕ → List ℕ → Piece
spaced kind text = record { kind = kind; text = text; between = ascii " " }

-- a token of a draft, and then a space
abbrev pub respaced : List ℕ → Token → Piece
respaced draft t = spaced t.kind (text_in draft t)

-- The draft that pieces are joined to,
unfoldable pub joined : List Piece → List ℕ
joined [] = []
joined (p ∷ ps) = p.text ++ (p.between ++ joined ps)

-- and their tokens where it begins at place i.
unfoldable pub tokens_at : ℕ → List Piece → List Token
tokens_at i [] = []
tokens_at i (p ∷ ps) = record { kind = p.kind; start = i; end = i + length p.text } ∷ tokens_at (i + length p.text + length p.between) ps

-- Tokens in front of the lexemes behind them: a refusal stays what it is.
unfoldable pub with_tokens : List Token → Lexemes → Lexemes
with_tokens [] x = x
with_tokens (t ∷ ts) x = with_token t (with_tokens ts x)

-- The same n bytes further on.
abbrev pub moved_token : ℕ → Token → Token
moved_token n t = record { kind = t.kind; start = n + t.start; end = n + t.end }

abbrev pub moved : ℕ → Lexemes → Lexemes
moved n (tokens ts) = tokens (map (moved_token n) ts)
moved n (refused_at c p) = refused_at c (n + p)
