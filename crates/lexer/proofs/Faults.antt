-- The bytes of each token and of whitespace are up to 127, other trivia is a comment, and a refusal of the lexeme at a place is that of one of rows 2 to 5
-- and 21 there.
-- Assumes nothing.
use Rattle.std.proofs.Math.Bool.{Bool}
use Rattle.std.specs.Prelude.{true, false, ◌&&◌, ◌||◌, ◌≡◌, T, eqb, ltb, length, take}
use mathlib.Core.List.{List, [], ◌∷◌}
use Rattle.std.proofs.Math.Option.{Option, none, some}
use Rattle.std.proofs.Math.Path.{refl, sym, ap}
use Rattle.std.proofs.Common.{◌∙◌, ltb-true, ltb-false, eqb-true}
use Prim.Native.Nat.{ℕ, ◌+◌, ◌-◌, ◌≤◌, ◌<◌}
use native.Mathlib.Omega.{arith}
use Rattle.std.proofs.Math.ListN.{get_or, drop}
use Rattle.text.specs.Ascii.{ascii, ascii_from}
use Rattle.text.specs.Refusals.{refusal_number}
use Rattle.text.specs.declared.refusal.Refusal.TheVariants as refusal
use Rattle.text.proofs.Table.{first-of, second-of}
use Rattle.utf8.specs.Utf8.{bad_at}
use Rattle.words.proofs.Right.{Says, says}
use Rattle.words.specs.Words.{KEYWORDS, MACROS, MODULE_RESERVED, word_of}
use Rattle.std.specs.Prelude.{Some, None}
use Rattle.std.specs.Prelude as std
use Rattle.lexer.specs.Classes as t
use Rattle.lexer.specs.Chars.{Range, among, whitespace, binary_digits, decimal_digits, hex_digits, underscore, name_starts, name_bytes, first, run, begins}
use Rattle.lexer.specs.Lexemes.{Lexeme, token, trivia, refused, space, checked, comment, line_comment, closing, block, block_comment, name_length, is_name, module_token}
use Rattle.lexer.specs.Lexemes.{qualified, macro_token, macro, word_token, word, digits, hexadecimal, binary, decimal, Mark, marks, mark, no_lexeme, trials, lexeme}
use Rattle.lexer.proofs.Plain.{low, low-among, Low, run-plain, low_word, begins-plain, plain_then}
use Rattle.lexer.proofs.Plain as plain
use Rattle.lexer.specs.Rows.{NoneFinds, Comment, a_line_comment, a_block_comment}
use Rattle.lexer.proofs.Trials.{Finds, nil, ◌&◌, cond-if, try-if, both_left, both_right, first_finds}

-- what a refusal behind n bytes of a text finds there
pub data Fault (r : List ℕ) : ℕ → ℕ → Type 0 where
  over : 1 ≤ length r → 127 < first r → Fault r (refusal_number refusal.NotAscii) 0
  nothing : first r ≤ 127 → NoneFinds trials r → Fault r (refusal_number refusal.NoLexeme) 0
  unclosed : begins (ascii "/*") r ≡ true → closing (drop 2 r) 0 0 ≡ none → Fault r (refusal_number refusal.Unclosed) 0
  simc : is_name r ≡ true → take (name_length r) r ≡ ascii "simc" → Fault r (refusal_number refusal.Simc) 0
  bad : {n k : ℕ} → Comment r n → bad_at (take n r) ≡ some k → Fault r (refusal_number refusal.NotUtf8) k

-- n bytes of a text are up to 127, or they are a comment
pub data Clear (r : List ℕ) (n : ℕ) : Type 0 where
  low_bytes : plain.Plain n r → Clear r n
  a_comment : Comment r n → Clear r n

-- what a lexeme says of the bytes of a text
abbrev pub Tells : List ℕ → Lexeme → Type 0
Tells r (token k n) = plain.Plain n r
Tells r (trivia n) = Clear r n
Tells r (refused c n) = Fault r c n

-- no byte is before the first
no_byte : (r : List ℕ) → plain.Plain 0 r
no_byte r j h = absurd (omega arith)

-- digits of a base, and `_`
low-digits : (base : List Range) → T (low base) → Low (λ b. among base b || among underscore b)
unfolding underscore
low-digits base l b e = go (among base b) refl e
  where
    go : (t : Bool) → among base b ≡ t → (t || among underscore b) ≡ true → b ≤ 127
    go true q e = low-among base l b q
    go false q e = low-among underscore tt b e

-- bytes of marks
abbrev low_marks : List Mark → Bool
low_marks [] = true
low_marks (m ∷ ms) = low_word (ascii m.text) && low_marks ms

module _ (r : List ℕ) where
  -- ---- trivia

  space-tells : Finds (Tells r) (space r)
  unfolding space whitespace
  space-tells = try-if (Tells r) (among whitespace (first r)) _ (λ _. low_bytes (run-plain (among whitespace) r (low-among whitespace tt)))

  comment-tells : {n : ℕ} → Comment r n → Tells r (comment n r)
  unfolding comment
  comment-tells {n} c = go (bad_at (take n r)) refl
    where
      go : (o : Option ℕ) → bad_at (take n r) ≡ o → Tells r (checked o n)
      go none e = a_comment c
      go (some k) e = bad c e

  line-tells : Finds (Tells r) (line_comment r)
  unfolding line_comment
  line-tells = try-if (Tells r) (begins (ascii "//") r) _ (λ e. comment-tells (a_line_comment e))

  block-tells : (o : Option ℕ) → closing (drop 2 r) 0 0 ≡ o → begins (ascii "/*") r ≡ true → Tells r (block o r)
  block-tells none q e = unclosed e q
  block-tells (some n) q e = comment-tells (a_block_comment e q)

  block_comment-tells : Finds (Tells r) (block_comment r)
  unfolding block_comment
  block_comment-tells = try-if (Tells r) (begins (ascii "/*") r) _ (block-tells (closing (drop 2 r) 0 0) refl)

  -- ---- names and words

  name-plain : (s : List ℕ) → plain.Plain (name_length s) s
  unfolding name_length name_bytes name_starts decimal_digits underscore
  name-plain s = run-plain (among name_bytes) s (low-among name_bytes tt)

  module-tells : (f : std.Option ℕ) (n : ℕ) → plain.Plain n r → Finds (Tells r) (module_token f n)
  module-tells (Some k) n p = p
  module-tells None n p = tt

  qualified-tells : Finds (Tells r) (qualified r)
  unfolding qualified ascii ascii_from
  qualified-tells =
      let n = name_length r in
      let name = drop (n + 2) r in
      try-if (Tells r) (is_name r && begins (ascii "::") (drop n r) && is_name name) _
      (λ e. let b = both_right (is_name r) (begins (ascii "::") (drop n r)) (both_left (is_name r && begins (ascii "::") (drop n r)) (is_name name) e) in
      let p = plain_then n 2 r (name-plain r) (begins-plain (ascii "::") (drop n r) tt b) in
      module-tells (word_of MODULE_RESERVED (take n r)) (n + 2 + name_length name) (plain_then (n + 2) (name_length name) r p (name-plain name)))

  macro-found : (f : std.Option ℕ) (n : ℕ) → plain.Plain n r → Finds (Tells r) (macro_token f n)
  macro-found (Some k) n p = p
  macro-found None n p = tt

  macro-tells : Finds (Tells r) (macro r)
  unfolding macro ascii ascii_from
  macro-tells =
      let n = name_length r in
      try-if (Tells r) (is_name r && begins (ascii "!") (drop n r)) _
      (λ e. let b = both_right (is_name r) (begins (ascii "!") (drop n r)) e in
      macro-found (word_of MACROS (take (n + 1) r)) (n + 1) (plain_then n 1 r (name-plain r) (begins-plain (ascii "!") (drop n r) tt b)))

  -- the keyword with the number of `simc` is that word
  simc-is : (p : List ℕ) (k : ℕ) → Says KEYWORDS p (Some k) → t.Pub + k ≡ t.Simc → p ≡ ascii "simc"
  unfolding KEYWORDS
  simc-is p k s e =
      let z : k ≡ t.Simc - t.Pub = omega arith in
      sym s.1 ∙ ap (λ n. get_or KEYWORDS n []) z

  word-found : (f : std.Option ℕ) → is_name r ≡ true → Says KEYWORDS (take (name_length r) r) f → Tells r (word_token f (name_length r))
  word-found (Some k) i s =
      cond-if (Tells r) (eqb (t.Pub + k) t.Simc) (λ e. simc i (simc-is (take (name_length r) r) k s (eqb-true _ _ e)))
      (λ _. cond-if (Tells r) (ltb t.Simc (t.Pub + k)) (λ _. name-plain r) (λ _. name-plain r))
  word-found None i s = name-plain r

  word-tells : Finds (Tells r) (word r)
  unfolding word
  word-tells = try-if (Tells r) (is_name r) _ (λ e. word-found (word_of KEYWORDS (take (name_length r) r)) e (says KEYWORDS (take (name_length r) r)))

  -- ---- digits

  digits-tells : (base : List Range) (kind n : ℕ) → T (low base) → plain.Plain n r → Finds (Tells r) (digits base kind n r)
  unfolding digits
  digits-tells base kind n l p =
      let q : ℕ → Bool = λ b. among base b || among underscore b in
      try-if (Tells r) (among base (first (drop n r))) _ (λ _. plain_then n (run q (drop n r)) r p (run-plain q (drop n r) (low-digits base l)))

  hexadecimal-tells : Finds (Tells r) (hexadecimal r)
  unfolding hexadecimal hex_digits ascii ascii_from
  hexadecimal-tells = try-if (Tells r) (begins (ascii "0x") r) _ (λ e. digits-tells hex_digits t.HexLiteral 2 tt (begins-plain (ascii "0x") r tt e))

  binary-tells : Finds (Tells r) (binary r)
  unfolding binary binary_digits ascii ascii_from
  binary-tells = try-if (Tells r) (begins (ascii "0b") r) _ (λ e. digits-tells binary_digits t.BinLiteral 2 tt (begins-plain (ascii "0b") r tt e))

  decimal-tells : Finds (Tells r) (decimal r)
  unfolding decimal decimal_digits
  decimal-tells = digits-tells decimal_digits t.DecLiteral 0 tt (no_byte r)

  -- ---- marks, and what starts no lexeme

  mark-tells : (ms : List Mark) → T (low_marks ms) → Finds (Tells r) (mark ms r)
  unfolding mark
  mark-tells [] l = tt
  mark-tells (m ∷ ms) l =
      cond-if (Finds (Tells r)) (begins (ascii m.text) r) (λ e. begins-plain (ascii m.text) r (first-of (low_word (ascii m.text)) (low_marks ms) l) e)
      (λ _. mark-tells ms (second-of (low_word (ascii m.text)) (low_marks ms) l))

  marks-tell : Finds (Tells r) (mark marks r)
  unfolding marks ascii ascii_from
  marks-tell = mark-tells marks tt

  none-tells : 1 ≤ length r → NoneFinds trials r → Tells r (no_lexeme (first r))
  unfolding no_lexeme
  none-tells h n =
      cond-if (Tells r) (ltb 127 (first r)) (λ e. over h (ltb-true 127 (first r) e)) (λ e. nothing (ltb-false 127 (first r) e) n)

  -- The lexeme at the front of a text that is not empty.
  pub lexeme-tells : 1 ≤ length r → Tells r (lexeme r)
  unfolding lexeme
  lexeme-tells h =
      first_finds (Tells r) trials r (no_lexeme (first r))
      (space-tells & line-tells & block_comment-tells & qualified-tells & macro-tells & hexadecimal-tells & binary-tells & decimal-tells & word-tells & marks-tell & nil)
      (none-tells h)
