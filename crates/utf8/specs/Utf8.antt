-- Well-formed UTF-8: RFC 3629, section 4, "Syntax of UTF-8 Byte Sequences". Each alternative has one range a byte.
-- Assumes nothing.
use Rattle.std.specs.Prelude.{Bool, true, false, cond, ◌&&◌, List, [], ◌∷◌, ◌++◌, ℕ, zero, suc, length}
use Rattle.std.proofs.Math.Option.{Option, none, some}
use Rattle.text.specs.Counts.{more}
use Rattle.text.specs.Ranges.{Range, bytes, of}

abbrev pub byte : ℕ → Range
byte a = bytes a a

-- "UTF8-tail = %x80-BF"
abbrev pub tail : Range
tail = bytes 0x80 0xBF

-- "UTF8-1 = %x00-7F"
abbrev pub utf8_1 : List (List Range)
utf8_1 = (bytes 0x00 0x7F ∷ []) ∷ []

-- "UTF8-2 = %xC2-DF UTF8-tail"
abbrev pub utf8_2 : List (List Range)
utf8_2 = (bytes 0xC2 0xDF ∷ tail ∷ []) ∷ []

-- "UTF8-3 = %xE0 %xA0-BF UTF8-tail / %xE1-EC 2( UTF8-tail ) / %xED %x80-9F UTF8-tail / %xEE-EF 2( UTF8-tail )"
abbrev pub utf8_3 : List (List Range)
utf8_3 =
    (byte 0xE0 ∷ bytes 0xA0 0xBF ∷ tail ∷ []) ∷
    (bytes 0xE1 0xEC ∷ tail ∷ tail ∷ []) ∷
    (byte 0xED ∷ bytes 0x80 0x9F ∷ tail ∷ []) ∷
    (bytes 0xEE 0xEF ∷ tail ∷ tail ∷ []) ∷ []

-- "UTF8-4 = %xF0 %x90-BF 2( UTF8-tail ) / %xF1-F3 3( UTF8-tail ) / %xF4 %x80-8F 2( UTF8-tail )"
abbrev pub utf8_4 : List (List Range)
utf8_4 =
    (byte 0xF0 ∷ bytes 0x90 0xBF ∷ tail ∷ tail ∷ []) ∷
    (bytes 0xF1 0xF3 ∷ tail ∷ tail ∷ tail ∷ []) ∷
    (byte 0xF4 ∷ bytes 0x80 0x8F ∷ tail ∷ tail ∷ []) ∷ []

-- "UTF8-char = UTF8-1 / UTF8-2 / UTF8-3 / UTF8-4"
unfoldable pub utf8_char : List (List Range)
utf8_char = utf8_1 ++ utf8_2 ++ utf8_3 ++ utf8_4

-- a text begins with one byte of each range
unfoldable pub fits : List Range → List ℕ → Bool
fits [] r = true
fits (g ∷ gs) [] = false
fits (g ∷ gs) (b ∷ r) = of g b && fits gs r

-- how many bytes the first of the alternatives has that a text begins with, 0 if it begins with none
unfoldable pub sequence : List (List Range) → List ℕ → ℕ
sequence [] r = 0
sequence (a ∷ others) r = cond (fits a r) (length a) (sequence others r)

-- how many bytes the UTF8-char at the front of a text has, 0 if none stands there
abbrev pub char_length : List ℕ → ℕ
char_length r = sequence utf8_char r

-- what is found behind a sequence of so many bytes; where there is none, the place itself
abbrev pub behind : ℕ → (ℕ → Option ℕ) → Option ℕ
behind zero go = some 0
behind (suc n) go = more (go n)

-- the first place of a text at which no sequence stands, behind the k bytes that are still part of the last one
unfoldable pub bad_from : List ℕ → ℕ → Option ℕ
bad_from [] k = none
bad_from (b ∷ r) zero = behind (char_length (b ∷ r)) (bad_from r)
bad_from (b ∷ r) (suc k) = more (bad_from r k)

-- "UTF8-octets = *( UTF8-char )": the first place, sequence by sequence, at which none stands; none where the text is well-formed
unfoldable pub bad_at : List ℕ → Option ℕ
bad_at r = bad_from r 0
