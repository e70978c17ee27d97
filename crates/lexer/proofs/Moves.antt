-- Each lexeme at a place of a draft has at least one byte and stays inside the draft, or it is a refusal of the bytes' family at a byte of it.
-- Assumes nothing.
use Rattle.std.proofs.Math.Bool.{Bool, not}
use Rattle.std.specs.Prelude.{true, false, ◌&&◌, ◌||◌, ◌≡◌, T, eqb, ltb, leb, length, get_or, take}
use mathlib.Core.List.{List, [], ◌∷◌, ◌++◌}
use Rattle.std.proofs.Math.Option.{Option, none, some}
use Rattle.std.proofs.Math.Path.{refl}
use Rattle.std.proofs.Common.{◌∙◌, ap, add-zero, ltb-true, length-take-le, get_or-drop}
use Prim.Native.Nat.{ℕ, suc, ◌+◌, ◌≤◌, ◌<◌}
use native.Mathlib.Omega.{arith}
use Rattle.std.proofs.Math.ListN.{drop, length-drop}
use Rattle.text.specs.Ascii.{ascii, ascii_from}
use Rattle.text.specs.Counts.{more}
use Rattle.text.specs.Refusals as refusal
use Rattle.text.proofs.Same.{differ}
use Rattle.text.specs.Lists.{has}
use Rattle.utf8.proofs.Laws.{bad-place}
use Rattle.utf8.specs.Utf8.{bad_at}
use Rattle.words.specs.Words.{KEYWORDS, MACROS, MODULE_RESERVED, word_of}
use Rattle.std.specs.Prelude.{Some, None}
use Rattle.std.specs.Prelude as std
use Rattle.lexer.specs.Classes as t
use Rattle.lexer.specs.Chars.{Range, among, whitespace, line_ends, binary_digits, decimal_digits, hex_digits, underscore, name_starts, name_bytes, first, run, begins}
use Rattle.lexer.specs.Lexemes.{Lexeme, token, trivia, refused, space, checked, comment, line_comment, Inside, closed, within, inside, onward, closing, block}
use Rattle.lexer.specs.Lexemes.{block_comment, name_length, is_name, module_token, qualified, macro_token, macro, word_token, word, digits, hexadecimal, binary, decimal}
use Rattle.lexer.specs.Lexemes.{Mark, marks, mark, no_lexeme, trials, lexeme}
use Rattle.lexer.proofs.Trials.{Finds, nil, ◌&◌, cond-if, try-if, both_left, both_right, first_finds}

-- what is found in m bytes goes on, and stays inside; or it is a refusal of the bytes' family at one of the bytes
abbrev pub Moves : ℕ → Lexeme → Type 0
Moves m (token k n) = (1 ≤ n) × (n ≤ m)
Moves m (trivia n) = (1 ≤ n) × (n ≤ m)
Moves m (refused c n) = T (has refusal.of_bytes c) × (n < m)

-- ---- runs and beginnings

-- the byte at a place is the first of the rest
pub rest-first : (s : List ℕ) (i : ℕ) → first (drop i s) ≡ get_or s i 0
rest-first s i = get_or-drop i s 0 0 ∙ ap (λ n. get_or s n 0) (add-zero i)

pub run-le : (p : ℕ → Bool) (r : List ℕ) → run p r ≤ length r
unfolding run
run-le p [] = omega arith
run-le p (b ∷ r) = go (p b) (run-le p r)
  where
    go : (t : Bool) → run p r ≤ length r → elim t [ true ↦ suc (run p r) | false ↦ 0 ] ≤ suc (length r)
    go true ih = omega arith
    go false ih = omega arith

-- a run whose first byte passes the test is not empty
pub run-first : (p : ℕ → Bool) (b : ℕ) (r : List ℕ) → p b ≡ true → 1 ≤ run p (b ∷ r)
unfolding run
run-first p b r e = rw (e, run) (omega arith)

-- a run behind n bytes stays inside
pub run-behind : (p : ℕ → Bool) (n : ℕ) (r : List ℕ) → n ≤ length r → n + run p (drop n r) ≤ length r
run-behind p n r h = omega (arith, run-le p (drop n r), length-drop n r)

pub begins-le : (w r : List ℕ) → begins w r ≡ true → length w ≤ length r
unfolding begins
begins-le [] r e = omega arith
begins-le (x ∷ w) [] e = differ e
begins-le (x ∷ w) (b ∷ r) e = let ih = begins-le w r (both_right (eqb b x) (begins w r) e) in omega arith

-- what begins with w behind n bytes has those n bytes and w
pub begins-behind : (w : List ℕ) (n : ℕ) (r : List ℕ) → 1 ≤ length w → begins w (drop n r) ≡ true → n + length w ≤ length r
begins-behind w n r h e = omega (arith, begins-le w (drop n r) e, length-drop n r)

pub among-append : (a b : List Range) (x : ℕ) → among a x ≡ true → among (a ++ b) x ≡ true
unfolding among
among-append [] b x e = differ e
among-append (s ∷ a) b x e = go (leb s.least x && leb x s.most) e (among-append a b x)
  where
    go : (t : Bool) → (t || among a x) ≡ true → (among a x ≡ true → among (a ++ b) x ≡ true) → (t || among (a ++ b) x) ≡ true
    go true e ih = refl
    go false e ih = ih e

pub or_left : (a b : Bool) → a ≡ true → (a || b) ≡ true
or_left true b e = refl
or_left false b e = differ e

-- ---- trivia

comment-moves : (n : ℕ) (r : List ℕ) → 1 ≤ n → n ≤ length r → Moves (length r) (comment n r)
unfolding comment has
comment-moves n r h k = go (bad_at (take n r)) refl
  where
    go : (o : Option ℕ) → bad_at (take n r) ≡ o → Moves (length r) (checked o n)
    go none e = (h, k)
    go (some p) e = (tt, omega (arith, (bad-place (take n r) p e).within, length-take-le n r k))

-- the end of a comment stays inside
abbrev pub Ends : ℕ → Option ℕ → Type 0
Ends m none = Unit {0}
Ends m (some n) = n ≤ m

more-ends : (m : ℕ) (o : Option ℕ) → Ends m o → Ends (suc m) (more o)
more-ends m none e = tt
more-ends m (some n) e = omega arith

pub closing-ends : (r : List ℕ) (d p : ℕ) → Ends (length r) (closing r d p)
unfolding closing
closing-ends [] d p = tt
closing-ends (b ∷ r) d p = go (inside d p b) (closing-ends r)
  where
    go : (x : Inside) → ((d p : ℕ) → Ends (length r) (closing r d p)) → Ends (suc (length r)) (onward x (closing r))
    go closed ih = omega arith
    go (within d p) ih = more-ends (length r) (closing r d p) (ih d p)

module _ (r : List ℕ) where
  line-moves : Finds (Moves (length r)) (line_comment r)
  unfolding line_comment ascii ascii_from
  line-moves =
      try-if (Moves (length r)) (begins (ascii "//") r) _
      (λ t. let h = begins-le (ascii "//") r t in
      comment-moves (2 + run (λ b. not (among line_ends b)) (drop 2 r)) r (omega arith) (run-behind (λ b. not (among line_ends b)) 2 r h))

  block-moves : (o : Option ℕ) → 2 ≤ length r → Ends (length (drop 2 r)) o → Moves (length r) (block o r)
  unfolding has
  block-moves none h e = (tt, omega arith)
  block-moves (some n) h e = comment-moves (2 + n) r (omega arith) (omega (arith, length-drop 2 r))

  block_comment-moves : Finds (Moves (length r)) (block_comment r)
  unfolding block_comment ascii ascii_from
  block_comment-moves =
      try-if (Moves (length r)) (begins (ascii "/*") r) _
      (λ t. block-moves (closing (drop 2 r) 0 0) (begins-le (ascii "/*") r t) (closing-ends (drop 2 r) 0 0))

  -- ---- names and words

  module-moves : (f : std.Option ℕ) (n : ℕ) → 1 ≤ n → n ≤ length r → Finds (Moves (length r)) (module_token f n)
  module-moves (Some k) n h l = (h, l)
  module-moves None n h l = tt

  qualified-moves : Finds (Moves (length r)) (qualified r)
  unfolding qualified name_length ascii ascii_from
  qualified-moves =
      let n = name_length r in
      let name = drop (n + 2) r in
      try-if (Moves (length r)) (is_name r && begins (ascii "::") (drop n r) && is_name name) _
      (λ t. let h = begins-behind (ascii "::") n r (omega arith) (both_right (is_name r) (begins (ascii "::") (drop n r)) (both_left (is_name r && begins (ascii "::") (drop n r)) (is_name name) t)) in
      let l = run-behind (among name_bytes) (n + 2) r h in
      module-moves (word_of MODULE_RESERVED (take n r)) (n + 2 + name_length name) (omega arith) l)

  macro-found : (f : std.Option ℕ) (n : ℕ) → 1 ≤ n → n ≤ length r → Finds (Moves (length r)) (macro_token f n)
  macro-found (Some k) n h l = (h, l)
  macro-found None n h l = tt

  macro-moves : Finds (Moves (length r)) (macro r)
  unfolding macro ascii ascii_from
  macro-moves =
      let n = name_length r + 1 in
      try-if (Moves (length r)) (is_name r && begins (ascii "!") (drop (name_length r) r)) _
      (λ t. let h = begins-behind (ascii "!") (name_length r) r (omega arith) (both_right (is_name r) (begins (ascii "!") (drop (name_length r) r)) t) in
      macro-found (word_of MACROS (take n r)) n (omega arith) h)

  word-found : (f : std.Option ℕ) (n : ℕ) → 1 ≤ n → n ≤ length r → Moves (length r) (word_token f n)
  unfolding has
  word-found (Some k) n h l =
      cond-if (Moves (length r)) (eqb (t.Pub + k) t.Simc) (λ _. (tt, omega arith))
      (λ _. cond-if (Moves (length r)) (ltb t.Simc (t.Pub + k)) (λ _. (h, l)) (λ _. (h, l)))
  word-found None n h l = (h, l)

  -- ---- digits

  digits-moves : (base : List Range) (kind n : ℕ) → 1 ≤ n → n ≤ length r → Finds (Moves (length r)) (digits base kind n r)
  unfolding digits
  digits-moves base kind n h l =
      try-if (Moves (length r)) (among base (first (drop n r))) _
      (λ _. let g = run-behind (λ b. among base b || among underscore b) n r l in (omega arith, g))

  hexadecimal-moves : Finds (Moves (length r)) (hexadecimal r)
  unfolding hexadecimal ascii ascii_from
  hexadecimal-moves = try-if (Moves (length r)) (begins (ascii "0x") r) _ (λ e. digits-moves hex_digits t.HexLiteral 2 (omega arith) (begins-le (ascii "0x") r e))

  binary-moves : Finds (Moves (length r)) (binary r)
  unfolding binary ascii ascii_from
  binary-moves = try-if (Moves (length r)) (begins (ascii "0b") r) _ (λ e. digits-moves binary_digits t.BinLiteral 2 (omega arith) (begins-le (ascii "0b") r e))

  -- ---- marks

  -- every mark has a byte
  abbrev full : List Mark → Bool
  full [] = true
  full (m ∷ ms) = ltb 0 (length (ascii m.text)) && full ms

  mark-moves : (ms : List Mark) → full ms ≡ true → Finds (Moves (length r)) (mark ms r)
  unfolding mark
  mark-moves [] e = tt
  mark-moves (m ∷ ms) e =
      cond-if (Finds (Moves (length r))) (begins (ascii m.text) r)
      (λ t. (ltb-true 0 (length (ascii m.text)) (both_left (ltb 0 (length (ascii m.text))) (full ms) e), begins-le (ascii m.text) r t))
      (λ _. mark-moves ms (both_right (ltb 0 (length (ascii m.text))) (full ms) e))

  marks-full : full marks ≡ true
  unfolding marks ascii ascii_from
  marks-full = refl

  none_moves : (b : ℕ) → 1 ≤ length r → Moves (length r) (no_lexeme b)
  unfolding no_lexeme has
  none_moves b h = cond-if (Moves (length r)) (ltb 127 b) (λ _. (tt, h)) (λ _. (tt, h))

-- ---- the trials that look at the first byte

module _ (b : ℕ) (r : List ℕ) where
  space-moves : Finds (Moves (length (b ∷ r))) (space (b ∷ r))
  unfolding space
  space-moves = try-if (Moves (suc (length r))) (among whitespace b) _ (λ t. (run-first (among whitespace) b r t, run-le (among whitespace) (b ∷ r)))

  decimal-moves : Finds (Moves (length (b ∷ r))) (decimal (b ∷ r))
  unfolding decimal digits
  decimal-moves =
      let q : ℕ → Bool = λ x. among decimal_digits x || among underscore x in
      try-if (Moves (suc (length r))) (among decimal_digits b) _
      (λ t. let h = run-first q b r (or_left (among decimal_digits b) (among underscore b) t) in
      let l = run-le q (b ∷ r) in
      (omega arith, omega arith))

  word-moves : Finds (Moves (length (b ∷ r))) (word (b ∷ r))
  unfolding word name_length name_bytes
  word-moves =
      try-if (Moves (suc (length r))) (among name_starts b) _
      (λ t. word-found (b ∷ r) (word_of KEYWORDS (take (name_length (b ∷ r)) (b ∷ r))) (name_length (b ∷ r)) (run-first (among name_bytes) b r (among-append name_starts decimal_digits b t)) (run-le (among name_bytes) (b ∷ r)))

  -- the lexeme at the front of a text goes on, and stays inside
  pub lexeme-moves : Moves (length (b ∷ r)) (lexeme (b ∷ r))
  unfolding lexeme
  lexeme-moves =
      let s = b ∷ r in
      first_finds (Moves (length s)) trials s (no_lexeme b)
      (space-moves & line-moves s & block_comment-moves s & qualified-moves s & macro-moves s & hexadecimal-moves s & binary-moves s & decimal-moves & word-moves & mark-moves s marks (marks-full s) & nil)
      (λ _. none_moves s b (omega arith))
