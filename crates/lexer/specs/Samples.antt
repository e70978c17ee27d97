-- Short drafts of document 01, and those that show the order of trial: what the definition makes of each is computed.
-- Assumes nothing.
use Rattle.std.specs.Prelude.{[], ◌∷◌, ◌≡◌, refl, ℕ}
use Rattle.text.specs.Ascii.{ascii, ascii_from}
use Rattle.text.specs.Refusals.{refusal_number}
use Rattle.text.specs.declared.refusal.Refusal.TheVariants as refusal
use Rattle.text.specs.Same.{same}
use Rattle.utf8.specs.Utf8.{utf8_char, fits, sequence, bad_from, bad_at}
use Rattle.words.specs.Words.{KEYWORDS, MACROS, MODULE_RESERVED, find, word_of}
use Rattle.lexer.specs.Classes as t
use Rattle.lexer.specs.Chars.{among, whitespace, line_ends, binary_digits, decimal_digits, hex_digits, underscore, name_starts, name_bytes, run, begins}
use Rattle.lexer.specs.Lexemes.{space, comment, line_comment, inside, closing, block_comment, name_length, qualified, macro, word, digits, hexadecimal, binary, decimal, marks, mark, no_lexeme, lexeme, Token, tokens, refused_at, lexemes_from, lexemes}

abbrev tok : ℕ → ℕ → ℕ → Token
tok k a e = record { kind = k; start = a; end = e }

-- `0x_1` lexes as decimal 0 and a name
pub hex : lexemes (ascii "0x_1") ≡ tokens (tok t.DecLiteral 0 1 ∷ tok t.Ident 1 4 ∷ [])
unfolding ascii ascii_from same KEYWORDS MACROS MODULE_RESERVED find word_of among whitespace line_ends binary_digits decimal_digits hex_digits underscore name_starts name_bytes run begins utf8_char fits sequence bad_from bad_at space comment line_comment inside closing block_comment name_length qualified macro word digits hexadecimal binary decimal marks mark no_lexeme lexeme lexemes_from lexemes
hex = refl

-- `/*/**/`: 4 at 0
pub unclosed : lexemes (ascii "/*/**/") ≡ refused_at (refusal_number refusal.Unclosed) 0
unfolding ascii ascii_from same KEYWORDS MACROS MODULE_RESERVED find word_of among whitespace line_ends binary_digits decimal_digits hex_digits underscore name_starts name_bytes run begins utf8_char fits sequence bad_from bad_at space comment line_comment inside closing block_comment name_length qualified macro word digits hexadecimal binary decimal marks mark no_lexeme lexeme lexemes_from lexemes
unclosed = refl

-- `//` and the Greek letter alpha, CE B1: a comment
pub greek : lexemes (0x2F ∷ 0x2F ∷ 0xCE ∷ 0xB1 ∷ []) ≡ tokens []
unfolding ascii ascii_from same KEYWORDS MACROS MODULE_RESERVED find word_of among whitespace line_ends binary_digits decimal_digits hex_digits underscore name_starts name_bytes run begins utf8_char fits sequence bad_from bad_at space comment line_comment inside closing block_comment name_length qualified macro word digits hexadecimal binary decimal marks mark no_lexeme lexeme lexemes_from lexemes
greek = refl

-- the same cut off by LF: 21 at 2
pub cut_off : lexemes (0x2F ∷ 0x2F ∷ 0xCE ∷ 0x0A ∷ 0xB1 ∷ []) ≡ refused_at (refusal_number refusal.NotUtf8) 2
unfolding ascii ascii_from same KEYWORDS MACROS MODULE_RESERVED find word_of among whitespace line_ends binary_digits decimal_digits hex_digits underscore name_starts name_bytes run begins utf8_char fits sequence bad_from bad_at space comment line_comment inside closing block_comment name_length qualified macro word digits hexadecimal binary decimal marks mark no_lexeme lexeme lexemes_from lexemes
cut_off = refl

-- `/*` and CE, never closed: 4 at 0
pub cut-open : lexemes (0x2F ∷ 0x2A ∷ 0xCE ∷ []) ≡ refused_at (refusal_number refusal.Unclosed) 0
unfolding ascii ascii_from same KEYWORDS MACROS MODULE_RESERVED find word_of among whitespace line_ends binary_digits decimal_digits hex_digits underscore name_starts name_bytes run begins utf8_char fits sequence bad_from bad_at space comment line_comment inside closing block_comment name_length qualified macro word digits hexadecimal binary decimal marks mark no_lexeme lexeme lexemes_from lexemes
cut-open = refl
