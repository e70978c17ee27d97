-- Document 01, "Lexemes": from the bytes of a draft to its tokens, or the refusal of the bytes' family with the earliest place.
-- Assumes nothing.
use Rattle.std.specs.Prelude.{Bool, cond, ◌&&◌, ◌||◌, not, List, [], ◌∷◌, ℕ, zero, suc, ◌+◌, ◌-◌, eqb, ltb, length, take, drop}
use Rattle.std.proofs.Math.Option.{Option, none, some}
use Prim.Native.String.{String}
use Rattle.text.specs.Ascii.{ascii}
use Rattle.text.specs.Counts.{more}
use Rattle.text.specs.Refusals.{refusal_number}
use Rattle.text.specs.declared.refusal.Refusal.TheVariants as refusal
use Rattle.utf8.specs.Utf8.{bad_at}
use Rattle.words.specs.Words.{KEYWORDS, MACROS, MODULE_RESERVED, word_of}
use Rattle.std.specs.Prelude as std
use Rattle.lexer.specs.Classes as t
use Rattle.lexer.specs.Chars.{Range, among, whitespace, line_ends, binary_digits, decimal_digits, hex_digits, underscore, name_starts, name_bytes, is, first, run, begins}

-- What stands at the front of a text: a token of a kind and so many bytes, so many bytes of trivia, or a refusal behind so many bytes.
pub data Lexeme : Type 0 where
  token : ℕ → ℕ → Lexeme
  trivia : ℕ → Lexeme
  refused : ℕ → ℕ → Lexeme

-- what a trial finds, and where it finds nothing what the others find
infixr 20 ◌or_else◌
abbrev pub ◌or_else◌ : Option Lexeme → Lexeme → Lexeme
some x or_else y = x
none or_else y = y

-- ---- trivia

unfoldable pub space : List ℕ → Option Lexeme
space r = cond (among whitespace (first r)) (some (trivia (run (among whitespace) r))) none

-- "Let comments hold any well-formed UTF-8" (order 6): n bytes, refused at the first bad place of them, if there is one
abbrev pub checked : Option ℕ → ℕ → Lexeme
checked none n = trivia n
checked (some p) n = refused (refusal_number refusal.NotUtf8) p

unfoldable pub comment : ℕ → List ℕ → Lexeme
comment n r = checked (bad_at (take n r)) n

-- "`//` runs to before CR, LF or the end."
abbrev pub in_line : ℕ → Bool
in_line b = not (among line_ends b)

abbrev pub line_length : List ℕ → ℕ
line_length r = 2 + run in_line (drop 2 r)

unfoldable pub line_comment : List ℕ → Option Lexeme
line_comment r = cond (begins (ascii "//") r) (some (comment (line_length r) r)) none

-- one byte more inside a block comment: that closes it, or it goes on with d comments open within it and p the byte before, 0 if that belongs to a mark
pub data Inside : Type 0 where
  closed : Inside
  within : ℕ → ℕ → Inside

unfoldable pub inside : ℕ → ℕ → ℕ → Inside
inside d p b =
    cond (is "/" p && is "*" b) (within (d + 1) 0)
    (cond (is "*" p && is "/" b) (cond (eqb d 0) closed (within (d - 1) 0))
    (within d b))

abbrev pub onward : Inside → (ℕ → ℕ → Option ℕ) → Option ℕ
onward closed go = some 1
onward (within d p) go = more (go d p)

-- "`/* */` nests": how many bytes are left of a block comment, none if it is never closed
unfoldable pub closing : List ℕ → ℕ → ℕ → Option ℕ
closing [] d p = none
closing (b ∷ r) d p = onward (inside d p b) (closing r)

abbrev pub block : Option ℕ → List ℕ → Lexeme
block none r = refused (refusal_number refusal.Unclosed) 0
block (some n) r = comment (2 + n) r

unfoldable pub block_comment : List ℕ → Option Lexeme
block_comment r = cond (begins (ascii "/*") r) (some (block (closing (drop 2 r) 0 0) r)) none

-- ---- names and words

-- how many bytes the name at the front has
unfoldable pub name_length : List ℕ → ℕ
name_length r = run (among name_bytes) r

abbrev pub is_name : List ℕ → Bool
is_name r = among name_starts (first r)

abbrev pub module_token : std.Option ℕ → ℕ → Option Lexeme
module_token (std.Some k) n = some (token (t.Jet + k) n)
module_token std.None n = none

-- "`jet::`, `witness::` or `param::` with a name, no gap": the kinds from Jet on, in the order of the words
unfoldable pub qualified : List ℕ → Option Lexeme
qualified r =
    let n = name_length r in
    let name = drop (n + 2) r in
    cond (is_name r && begins (ascii "::") (drop n r) && is_name name) (module_token (word_of MODULE_RESERVED (take n r)) (n + 2 + name_length name)) none

abbrev pub macro_token : std.Option ℕ → ℕ → Option Lexeme
macro_token (std.Some k) n = some (token t.Macro n)
macro_token std.None n = none

-- "`assert! panic! dbg! list!`"
unfoldable pub macro : List ℕ → Option Lexeme
macro r =
    let n = name_length r + 1 in
    cond (is_name r && begins (ascii "!") (drop (name_length r) r)) (macro_token (word_of MACROS (take n r)) n) none

-- the keywords are the kinds from Pub on in the order of the words, of which `simc` is refused; behind it are the booleans; any other name is an identifier
abbrev pub word_token : std.Option ℕ → ℕ → Lexeme
word_token (std.Some k) n = cond (eqb (t.Pub + k) t.Simc) (refused (refusal_number refusal.Simc) 0) (cond (ltb t.Simc (t.Pub + k)) (token t.Bool n) (token (t.Pub + k) n))
word_token std.None n = token t.Ident n

unfoldable pub word : List ℕ → Option Lexeme
word r = cond (is_name r) (some (word_token (word_of KEYWORDS (take (name_length r) r)) (name_length r))) none

-- ---- digits

-- "A digit run begins with a digit of its base, then digits or `_`": behind n bytes, a token of this kind
unfoldable pub digits : List Range → ℕ → ℕ → List ℕ → Option Lexeme
digits base kind n r =
    cond (among base (first (drop n r))) (some (token kind (n + run (λ b. among base b || among underscore b) (drop n r)))) none

-- "`0x` digits": kind 29; "`0b` digits": kind 30; decimal: kind 28
unfoldable pub hexadecimal : List ℕ → Option Lexeme
hexadecimal r = cond (begins (ascii "0x") r) (digits hex_digits t.HexLiteral 2 r) none

unfoldable pub binary : List ℕ → Option Lexeme
binary r = cond (begins (ascii "0b") r) (digits binary_digits t.BinLiteral 2 r) none

unfoldable pub decimal : List ℕ → Option Lexeme
decimal r = digits decimal_digits t.DecLiteral 0 r

-- ---- marks

pub record Mark : Type 0 where
  pub text : String
  pub kind : ℕ

abbrev pub sign : String → ℕ → Mark
sign t k = record { text = t; kind = k }

-- "a mark, the longer first"
unfoldable pub marks : List Mark
marks =
    sign "->" t.Arrow ∷ sign "=>" t.FatArrow ∷ sign "::" t.DoubleColon ∷ sign "=" t.Eq ∷ sign ":" t.Colon ∷ sign ";" t.Semi ∷ sign "," t.Comma ∷
    sign "(" t.LParen ∷ sign ")" t.RParen ∷ sign "[" t.LBracket ∷ sign "]" t.RBracket ∷ sign "{" t.LBrace ∷ sign "}" t.RBrace ∷
    sign "<" t.LAngle ∷ sign ">" t.RAngle ∷ []

unfoldable pub mark : List Mark → List ℕ → Option Lexeme
mark [] r = none
mark (m ∷ ms) r = cond (begins (ascii m.text) r) (some (token m.kind (length (ascii m.text)))) (mark ms r)

-- ---- the lexeme at the front of a text, and all of them

-- "a byte over 127", and "another byte starts no lexeme"
unfoldable pub no_lexeme : ℕ → Lexeme
no_lexeme b = cond (ltb 127 b) (refused (refusal_number refusal.NotAscii) 0) (refused (refusal_number refusal.NoLexeme) 0)

-- "Tried in order: trivia; `jet::`, `witness::` or `param::` with a name, no gap; `assert! panic! dbg! list!`; `0x` digits; `0b` digits; decimal;
-- a word; a mark, the longer first."
abbrev pub trials : List (List ℕ → Option Lexeme)
trials = space ∷ line_comment ∷ block_comment ∷ qualified ∷ macro ∷ hexadecimal ∷ binary ∷ decimal ∷ word ∷ mark marks ∷ []

abbrev pub first_of : List (List ℕ → Option Lexeme) → List ℕ → Lexeme → Lexeme
first_of [] r y = y
first_of (f ∷ fs) r y = f r or_else first_of fs r y

unfoldable pub lexeme : List ℕ → Lexeme
lexeme r = first_of trials r (no_lexeme (first r))

-- "kind [..], start, end (the byte after)"
pub record Token : Type 0 where
  pub kind : ℕ
  pub start : ℕ
  pub end : ℕ

-- the tokens of a text, or its first refusal by number and place
pub data Lexemes : Type 0 where
  tokens : List Token → Lexemes
  refused_at : ℕ → ℕ → Lexemes

abbrev pub with_token : Token → Lexemes → Lexemes
with_token t (tokens ts) = tokens (t ∷ ts)
with_token t (refused_at c p) = refused_at c p

-- what the lexeme at place i adds; go gives the rest behind so many bytes
abbrev pub add : Lexeme → ℕ → (ℕ → Lexemes) → Lexemes
add (token k n) i go = with_token (record { kind = k; start = i; end = i + n }) (go n)
add (trivia n) i go = go n
add (refused c n) i go = refused_at c (i + n)

-- the lexemes of a text at place i, behind the k bytes that are still part of the last one
unfoldable pub lexemes_from : List ℕ → ℕ → ℕ → Lexemes
lexemes_from [] i k = tokens []
lexemes_from (b ∷ r) i zero = add (lexeme (b ∷ r)) i (λ n. lexemes_from r (i + 1) (n - 1))
lexemes_from (b ∷ r) i (suc k) = lexemes_from r (i + 1) k

unfoldable pub lexemes : List ℕ → Lexemes
lexemes draft = lexemes_from draft 0 0
