-- The lexeme class of each byte, by the sets of Chars.antt. The classes are ordered so that each run of bytes is a range of them.
-- Assumes nothing.
use Rattle.std.specs.Prelude.{Bool, cond, not, ◌&&◌, List, [], ◌∷◌, ◌≡◌, ℕ, ◌<◌, leb, get_or}
use Rattle.text.specs.Ascii.{ascii}
use Rattle.text.specs.Same.{same}
use Rattle.lexer.specs.Chars.{among, whitespace, line_ends, plain_bytes, binary_digits, decimal_digits, hex_digits, underscore, name_starts, is}
use Rattle.lexer.specs.Classes as t
use Rattle.lexer.specs.Lexemes.{Mark, marks}

-- names are Underscore to Letter; numbers Underscore to BinaryDigit, Digit or HexLetter by their base
abbrev pub Underscore : ℕ
Underscore = 0

abbrev pub BinaryDigit : ℕ
BinaryDigit = 1

-- the other decimal digits
abbrev pub Digit : ℕ
Digit = 2

-- the letters of hexadecimal numbers
abbrev pub HexLetter : ℕ
HexLetter = 3

-- the other letters
abbrev pub Letter : ℕ
Letter = 4

abbrev pub Slash : ℕ
Slash = 5

-- what may be a mark is Minus to Other; a mark of one byte has the number of its kind
abbrev pub Minus : ℕ
Minus = 13

abbrev pub Colon : ℕ
Colon = t.Colon

abbrev pub Eq : ℕ
Eq = t.Eq

-- a byte that starts no lexeme
abbrev pub Other : ℕ
Other = 28

-- whitespace is Space to LineEnd
abbrev pub Space : ℕ
Space = 29

-- CR and LF
abbrev pub LineEnd : ℕ
LineEnd = 30

-- over 127
abbrev pub NotAscii : ℕ
NotAscii = 31

-- the kind of the mark that is this one byte, Other if there is none
unfoldable pub mark_class : List Mark → ℕ → ℕ
mark_class [] b = Other
mark_class (m ∷ ms) b = cond (same (ascii m.text) (b ∷ [])) m.kind (mark_class ms b)

unfoldable pub byte_class : ℕ → ℕ
byte_class b =
    cond (not (among plain_bytes b)) NotAscii
    (cond (among line_ends b) LineEnd
    (cond (among whitespace b) Space
    (cond (among underscore b) Underscore
    (cond (among binary_digits b) BinaryDigit
    (cond (among decimal_digits b) Digit
    (cond (among hex_digits b) HexLetter
    (cond (among name_starts b) Letter
    (cond (is "/" b) Slash
    (cond (is "-" b) Minus
    (mark_class marks b))))))))))

-- a byte's class is from least to most
unfoldable pub in_classes : ℕ → ℕ → ℕ → Bool
in_classes least most b = leb least (byte_class b) && leb (byte_class b) most

-- a table that gives each byte its class
pub record ClassTable (t : List ℕ) : Type 0 where
  pub gives : (b : ℕ) → b < 256 → get_or t b 0 ≡ byte_class b
