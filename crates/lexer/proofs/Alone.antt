-- A token's text is that token again, alone or before whitespace, whatever stood behind it: one law, for the lexemes of every kind.
-- Assumes nothing.
use Rattle.std.specs.Prelude.{Bool, false, cond, ◌&&◌, ◌||◌, ◌≡◌, eqb, ltb, take}
use Rattle.std.proofs.Math.Bool.{true}
use mathlib.Core.List.{List, [], ◌∷◌, ◌++◌, append-nil}
use Rattle.std.proofs.Math.Option.{Option, none, some}
use Rattle.std.proofs.Math.Path.{refl, ap}
use Rattle.std.proofs.Common.{sym, ◌∙◌, subst, arith, length-drop, take-append-drop, length-take-le}
use Prim.Native.Nat.{ℕ, suc, ◌+◌, ◌≤◌, ◌<◌}
use Rattle.std.proofs.Math.ListN.{length, drop}
use Rattle.std.proofs.Math.Seq.{drop-append-le}
use Rattle.text.specs.Ascii.{ascii, ascii_from}
use Rattle.text.specs.Refusals.{refusal_number}
use Rattle.text.specs.declared.refusal.Refusal.TheVariants as refusal
use Rattle.text.proofs.Same.{differ}
use Rattle.utf8.specs.Utf8.{bad_at}
use Rattle.words.specs.Words.{KEYWORDS, MACROS, MODULE_RESERVED, word_of}
use Rattle.std.specs.Prelude.{Some, None}
use Rattle.std.specs.Prelude as std
use Rattle.lexer.specs.Chars.{Range, among, whitespace, binary_digits, decimal_digits, hex_digits, underscore, name_starts, first, run, begins}
use Rattle.lexer.specs.Classes as class
use Rattle.lexer.specs.Lexemes.{Lexeme, token, trivia, refused, ◌or_else◌, space, checked, comment, line_comment, block, closing, block_comment, name_length, is_name}
use Rattle.lexer.specs.Lexemes.{module_token, qualified, macro_token, macro, word_token, word, digits, hexadecimal, binary, decimal, Mark, marks, mark, no_lexeme, lexeme}
use Rattle.lexer.proofs.Gaps.{solid, run-gap, run-swap, run-some, begins-keep, begins-short, begins-back, first-same, first-inside, Base, base-apart, decimal-base}
use Rattle.lexer.proofs.Gaps.{binary-base, hex-base, bang-solid, colons-solid, hex-solid, binary-solid, line-solid, block-solid, solids, marks-solid, name-swap}
use Rattle.lexer.proofs.Gaps.{name-inside, name-within, name-filled, name-starts, take_same, begins-there, begins-before}
use Rattle.lexer.proofs.Moves.{Moves, or_left, lexeme-moves}
use Rattle.lexer.proofs.Trials.{both_left, both_right}
use Rattle.lexer.specs.Texts.{OneToken, gap}

-- ---- trials: a token found is found again, and where nothing was found nothing is

pub record Keeps (x : Lexeme) (o p : Option Lexeme) : Type 0 where
  pub hit : o ≡ some x → p ≡ some x
  pub miss : o ≡ none → p ≡ none

or-keeps : {x : Lexeme} (o p : Option Lexeme) (y z : Lexeme) → Keeps x o p → (y ≡ x → z ≡ x) → (o or_else y) ≡ x → (p or_else z) ≡ x
or-keeps none p y z k f e = rw (k.miss refl) (f e)
or-keeps (some w) p y z k f e = rw (k.hit (ap some e)) refl

pub clash : {A : Type 0} {x : Lexeme} → none ≡ some x → A
clash e = let z : ◌≡◌ {A = ℕ} 0 1 = cc in absurd (omega arith)

pub some_is : {x y : Lexeme} → some x ≡ some y → x ≡ y
some_is e = cc

-- a trial by a test
cond-keeps : {x : Lexeme} (c d : Bool) (o p : Option Lexeme) → (c ≡ true → o ≡ some x → (d ≡ true) × (p ≡ some x)) → (d ≡ true → (c ≡ true) × (o ≡ none → p ≡ none))
    → Keeps x (cond c o none) (cond d p none)
cond-keeps {x} c d o p f g = record { hit = found c refl; miss = lost d refl }
  where
    found : (a : Bool) → c ≡ a → cond a o none ≡ some x → cond d p none ≡ some x
    found true q e = let h = f q e in rw h.0 h.1
    found false q e = clash e

    lost : (a : Bool) → d ≡ a → cond c o none ≡ none → cond a p none ≡ none
    lost true q e = let h = g q in h.1 (rw h.0 at e)
    lost false q e = refl

-- trivia is no token
pub no-trivia : {A : Type 0} {n k m : ℕ} → trivia n ≡ token k m → A
no-trivia e = let z : ◌≡◌ {A = ℕ} 0 1 = cc in absurd (omega arith)

pub no-refusal : {A : Type 0} {c n k m : ℕ} → refused c n ≡ token k m → A
no-refusal e = let z : ◌≡◌ {A = ℕ} 0 1 = cc in absurd (omega arith)

pub no-comment : {A : Type 0} (n : ℕ) (r : List ℕ) {k m : ℕ} → comment n r ≡ token k m → A
unfolding comment
no-comment {A} n r {k} {m} e = go (bad_at (take n r)) e
  where
    go : (o : Option ℕ) → checked o n ≡ token k m → A
    go none e = no-trivia e
    go (some p) e = no-refusal e

pub no_block : {A : Type 0} (o : Option ℕ) (r : List ℕ) {k m : ℕ} → block o r ≡ token k m → A
no_block none r e = no-refusal e
no_block (some n) r e = no-comment (2 + n) r e

trivia-keeps : {k n : ℕ} (c d : Bool) (y z : Lexeme) → (y ≡ token k n → ⊥) → (d ≡ true → c ≡ true) → Keeps (token k n) (cond c (some y) none) (cond d (some z) none)
trivia-keeps c d y z other f = cond-keeps c d (some y) (some z) (λ q e. absurd (other (some_is e))) (λ q. (f q, λ e. clash (sym e)))

-- how many bytes a found token has
module-length : (f : std.Option ℕ) (n : ℕ) {k m : ℕ} → module_token f n ≡ some (token k m) → n ≡ m
module-length (Some i) n e = cc
module-length None n e = clash e

module-none : (f : std.Option ℕ) (n m : ℕ) → module_token f n ≡ none → module_token f m ≡ none
module-none (Some i) n m e = clash (sym e)
module-none None n m e = refl

pub macro-length : (f : std.Option ℕ) (n : ℕ) {k m : ℕ} → macro_token f n ≡ some (token k m) → n ≡ m
macro-length (Some i) n e = cc
macro-length None n e = clash e

pub word-length : (f : std.Option ℕ) (n : ℕ) {k m : ℕ} → word_token f n ≡ token k m → n ≡ m
word-length (Some i) n {k} {m} e = go (eqb (class.Pub + i) class.Simc) (ltb class.Simc (class.Pub + i)) e
  where
    go : (a b : Bool) → cond a (refused (refusal_number refusal.Simc) 0) (cond b (token class.Bool n) (token (class.Pub + i) n)) ≡ token k m → n ≡ m
    go true b e = no-refusal e
    go false true e = cc
    go false false e = cc
word-length None n e = cc

digits-length : (base : List Range) (kind n : ℕ) (r : List ℕ) {k m : ℕ} → digits base kind n r ≡ some (token k m) → n ≤ m
unfolding digits
digits-length base kind n r {k} {m} e = go (among base (first (drop n r))) e
  where
    go : (c : Bool) → cond c (some (token kind (n + run (λ b. among base b || among underscore b) (drop n r)))) none ≡ some (token k m) → n ≤ m
    go true e = let l : n + run (λ b. among base b || among underscore b) (drop n r) ≡ m = cc in omega arith
    go false e = clash e

-- the tests of a qualified name, the first of whose names has i bytes
abbrev tests : ℕ → List ℕ → Bool
tests i r = is_name r && begins (ascii "::") (drop i r) && is_name (drop (i + 2) r)

split-tests : (i : ℕ) (r : List ℕ) → tests i r ≡ true → (is_name r ≡ true) × (begins (ascii "::") (drop i r) ≡ true) × (is_name (drop (i + 2) r) ≡ true)
split-tests i r q =
    let a = is_name r in
    let c = begins (ascii "::") (drop i r) in
    let d = is_name (drop (i + 2) r) in
    let ac = both_left (a && c) d q in
    (both_left a c ac, both_right a c ac, both_right (a && c) d q)

all-tests : (i : ℕ) (r : List ℕ) → is_name r ≡ true → begins (ascii "::") (drop i r) ≡ true → is_name (drop (i + 2) r) ≡ true → tests i r ≡ true
all-tests i r a c d = rw (a, c, d) refl

-- ---- the trials on a text t

module _ (t u s : List ℕ) (g : gap s ≡ true) (k : ℕ) where
  -- the token
  abbrev x : Lexeme
  x = token k (length t)

  -- where the first byte decides
  module _ (full : 0 < length t) where
    start-same : is_name (t ++ s) ≡ is_name (t ++ u)
    start-same = ap (among name_starts) (first-same t u s full)

    space-keeps : Keeps x (space (t ++ u)) (space (t ++ s))
    unfolding space
    space-keeps = trivia-keeps _ _ _ _ no-trivia (λ q. ap (among whitespace) (first-same t s u full) ∙ q)

    word_keeps : Keeps x (word (t ++ u)) (word (t ++ s))
    unfolding word
    word_keeps = cond-keeps _ _ _ _ found (λ q. (sym start-same ∙ q, λ e. clash (sym e)))
      where
        found : is_name (t ++ u) ≡ true → some (word_token (word_of KEYWORDS (take (name_length (t ++ u)) (t ++ u))) (name_length (t ++ u))) ≡ some x
            → (is_name (t ++ s) ≡ true) × (some (word_token (word_of KEYWORDS (take (name_length (t ++ s)) (t ++ s))) (name_length (t ++ s))) ≡ some x)
        found q e =
            let n = name_length (t ++ u) in
            let l : n ≡ length t = word-length (word_of KEYWORDS (take n (t ++ u))) n (some_is e) in
            (start-same ∙ q, rw (name-swap t u s g (omega arith), take_same t u s n (omega arith)) e)

    none-keeps : no_lexeme (first (t ++ u)) ≡ x → no_lexeme (first (t ++ s)) ≡ x
    none-keeps e = ap no_lexeme (first-same t u s full) ∙ e

  line-keeps : Keeps x (line_comment (t ++ u)) (line_comment (t ++ s))
  unfolding line_comment
  line-keeps = trivia-keeps _ _ _ _ (no-comment _ (t ++ u)) (begins-back (ascii "//") t u s line-solid g)

  block-keeps : Keeps x (block_comment (t ++ u)) (block_comment (t ++ s))
  unfolding block_comment
  block-keeps = trivia-keeps _ _ _ _ (no_block (closing (drop 2 (t ++ u)) 0 0) (t ++ u)) (begins-back (ascii "/*") t u s block-solid g)

  macro-keeps : Keeps x (macro (t ++ u)) (macro (t ++ s))
  unfolding macro ascii ascii_from
  macro-keeps = cond-keeps _ _ _ _ found lost
    where
      n : ℕ
      n = name_length (t ++ u)

      m : ℕ
      m = name_length (t ++ s)

      found : (is_name (t ++ u) && begins (ascii "!") (drop n (t ++ u))) ≡ true → macro_token (word_of MACROS (take (n + 1) (t ++ u))) (n + 1) ≡ some x
          → ((is_name (t ++ s) && begins (ascii "!") (drop m (t ++ s))) ≡ true) × (macro_token (word_of MACROS (take (m + 1) (t ++ s))) (m + 1) ≡ some x)
      found q e =
          let l : n + 1 ≡ length t = macro-length (word_of MACROS (take (n + 1) (t ++ u))) (n + 1) e in
          let h : m ≡ n = name-swap t u s g (omega arith) in
          let b = begins-there t u s n (omega arith) (ascii "!") (omega arith) (both_right (is_name (t ++ u)) (begins (ascii "!") (drop n (t ++ u))) q) in
          (rw (h, start-same (omega arith), both_left (is_name (t ++ u)) (begins (ascii "!") (drop n (t ++ u))) q) b, rw (h, take_same t u s (n + 1) (omega arith)) e)

      lost : (is_name (t ++ s) && begins (ascii "!") (drop m (t ++ s))) ≡ true
          → ((is_name (t ++ u) && begins (ascii "!") (drop n (t ++ u))) ≡ true)
          × (macro_token (word_of MACROS (take (n + 1) (t ++ u))) (n + 1) ≡ none → macro_token (word_of MACROS (take (m + 1) (t ++ s))) (m + 1) ≡ none)
      lost q =
          let b = begins-before t u s m (name-within t s g) (ascii "!") bang-solid g (both_right (is_name (t ++ s)) (begins (ascii "!") (drop m (t ++ s))) q) in
          let h : n ≡ m = name-inside t u s g (omega (arith, b.0)) in
          (rw (h, ← (start-same (omega (arith, b.0))), both_left (is_name (t ++ s)) (begins (ascii "!") (drop m (t ++ s))) q) b.1, λ e. rw (take_same t u s (m + 1) b.0) (rw h at e))

  digits-keeps : (base : List Range) (kind n : ℕ) → Base base → n ≤ length t → Keeps x (digits base kind n (t ++ u)) (digits base kind n (t ++ s))
  unfolding digits
  digits-keeps base kind n d l =
      rw (drop-append-le n t u l, drop-append-le n t s l) (cond-keeps _ _ _ _ found (λ q. (lost q, λ e. clash (sym e))))
    where
      v : List ℕ
      v = drop n t

      found : among base (first (v ++ u)) ≡ true → some (token kind (n + run (λ b. among base b || among underscore b) (v ++ u))) ≡ some x
          → (among base (first (v ++ s)) ≡ true) × (some (token kind (n + run (λ b. among base b || among underscore b) (v ++ s))) ≡ some x)
      found q e =
          let i = length-drop n t in
          let r : n + run (λ b. among base b || among underscore b) (v ++ u) ≡ length t = cc in
          let h = run-some (among base) (λ b. among base b || among underscore b) d.zero_none (λ b. or_left (among base b) (among underscore b)) (v ++ u) q in (
            ap (among base) (first-same v u s (omega arith)) ∙ q,
            rw (run-swap (λ b. among base b || among underscore b) v u s (omega arith) (run-gap (λ b. among base b || among underscore b) d.apart s g)) e,
          )

      lost : among base (first (v ++ s)) ≡ true → among base (first (v ++ u)) ≡ true
      lost q = ap (among base) (first-same v s u (first-inside (among base) d.zero_none (base-apart d) v s g q)) ∙ q

  -- digits behind a prefix
  based-keeps : (w : List ℕ) (base : List Range) (kind : ℕ) → solid w ≡ true → Base base
      → Keeps x (cond (begins w (t ++ u)) (digits base kind (length w) (t ++ u)) none) (cond (begins w (t ++ s)) (digits base kind (length w) (t ++ s)) none)
  based-keeps w base kind d b = cond-keeps _ _ _ _ found lost
    where
      found : begins w (t ++ u) ≡ true → digits base kind (length w) (t ++ u) ≡ some x → (begins w (t ++ s) ≡ true) × (digits base kind (length w) (t ++ s) ≡ some x)
      found q e =
          let l : length w ≤ length t = omega (arith, digits-length base kind (length w) (t ++ u) e) in
          (begins-keep w t u s q l, (digits-keeps base kind (length w) b l).hit e)

      lost : begins w (t ++ s) ≡ true → (begins w (t ++ u) ≡ true) × (digits base kind (length w) (t ++ u) ≡ none → digits base kind (length w) (t ++ s) ≡ none)
      lost q = (begins-back w t u s d g q, (digits-keeps base kind (length w) b (begins-short w t s d g q)).miss)

  hexadecimal-keeps : Keeps x (hexadecimal (t ++ u)) (hexadecimal (t ++ s))
  unfolding hexadecimal ascii ascii_from
  hexadecimal-keeps = based-keeps (ascii "0x") hex_digits class.HexLiteral hex-solid hex-base

  binary-keeps : Keeps x (binary (t ++ u)) (binary (t ++ s))
  unfolding binary ascii ascii_from
  binary-keeps = based-keeps (ascii "0b") binary_digits class.BinLiteral binary-solid binary-base

  decimal-keeps : Keeps x (decimal (t ++ u)) (decimal (t ++ s))
  unfolding decimal
  decimal-keeps = digits-keeps decimal_digits class.DecLiteral 0 decimal-base (omega arith)

  mark-keeps : (ms : List Mark) → solids ms ≡ true → Keeps x (mark ms (t ++ u)) (mark ms (t ++ s))
  unfolding mark
  mark-keeps [] d = record { hit = clash; miss = λ e. refl }
  mark-keeps (m ∷ ms) d = go (begins w (t ++ u)) refl (begins w (t ++ s)) refl (mark-keeps ms (both_right (solid (ascii m.text)) (solids ms) d))
    where
      w : List ℕ
      w = ascii m.text

      go : (a : Bool) → begins w (t ++ u) ≡ a → (b : Bool) → begins w (t ++ s) ≡ b → Keeps x (mark ms (t ++ u)) (mark ms (t ++ s))
          → Keeps x (cond a (some (token m.kind (length w))) (mark ms (t ++ u))) (cond b (some (token m.kind (length w))) (mark ms (t ++ s)))
      go true p true q h = record { hit = λ e. e; miss = λ e. e }
      go true p false q h = record { hit = λ e. let l : length w ≡ length t = cc in differ (sym q ∙ begins-keep w t u s p (omega arith)); miss = λ e. clash (sym e) }
      go false p true q h = differ (sym p ∙ begins-back w t u s (both_left (solid (ascii m.text)) (solids ms) d) g q)
      go false p false q h = h

  qualified-keeps : Keeps x (qualified (t ++ u)) (qualified (t ++ s))
  unfolding qualified ascii ascii_from
  qualified-keeps = cond-keeps _ _ _ _ found lost
    where
      n : ℕ
      n = name_length (t ++ u)

      m : ℕ
      m = name_length (t ++ s)

      found : tests n (t ++ u) ≡ true → module_token (word_of MODULE_RESERVED (take n (t ++ u))) (n + 2 + name_length (drop (n + 2) (t ++ u))) ≡ some x
          → (tests m (t ++ s) ≡ true) × (module_token (word_of MODULE_RESERVED (take m (t ++ s))) (m + 2 + name_length (drop (m + 2) (t ++ s))) ≡ some x)
      found q e =
          let r = t ++ u in
          let l : n + 2 + name_length (drop (n + 2) r) ≡ length t = module-length (word_of MODULE_RESERVED (take n r)) (n + 2 + name_length (drop (n + 2) r)) e in
          let p = split-tests n r q in
          let h : m ≡ n = name-swap t u s g (omega arith) in
          let i = length-drop (n + 2) t in
          let du : drop (n + 2) r ≡ drop (n + 2) t ++ u = drop-append-le (n + 2) t u (omega arith) in
          let ds : drop (n + 2) (t ++ s) ≡ drop (n + 2) t ++ s = drop-append-le (n + 2) t s (omega arith) in
          let lu : name_length (drop (n + 2) r) ≡ name_length (drop (n + 2) t ++ u) = ap (λ (z : List ℕ). name_length z) du in
          let f = name-filled (drop (n + 2) t) u s g (ap (λ (z : List ℕ). is_name z) (sym du) ∙ p.2) (omega arith) in
          let lf = f.1 in
          let ls : name_length (drop (n + 2) (t ++ s)) ≡ name_length (drop (n + 2) r) = ap (λ (z : List ℕ). name_length z) ds ∙ (let y : name_length (drop (n + 2) t ++ s) ≡ name_length (drop (n + 2) r) = omega arith in y) in (
            ap (λ (z : ℕ). tests z (t ++ s)) h
                ∙ all-tests n (t ++ s) (start-same (omega arith) ∙ p.0) (begins-there t u s n (omega arith) (ascii "::") (omega arith) p.1) (ap (λ (z : List ℕ). is_name z) ds ∙ f.0),
            rw (h, take_same t u s n (omega arith), ls) e,
          )

      lost : tests m (t ++ s) ≡ true
          → (tests n (t ++ u) ≡ true)
          × (module_token (word_of MODULE_RESERVED (take n (t ++ u))) (n + 2 + name_length (drop (n + 2) (t ++ u))) ≡ none
          → module_token (word_of MODULE_RESERVED (take m (t ++ s))) (m + 2 + name_length (drop (m + 2) (t ++ s))) ≡ none)
      lost q =
          let p = split-tests m (t ++ s) q in
          let b = begins-before t u s m (name-within t s g) (ascii "::") colons-solid g p.1 in
          let b₀ = b.0 in
          let h : n ≡ m = name-inside t u s g (omega arith) in
          let du : drop (m + 2) (t ++ u) ≡ drop (m + 2) t ++ u = drop-append-le (m + 2) t u b₀ in
          let ds : drop (m + 2) (t ++ s) ≡ drop (m + 2) t ++ s = drop-append-le (m + 2) t s b₀ in
          let f = name-starts (drop (m + 2) t) u s g (ap (λ (z : List ℕ). is_name z) (sym ds) ∙ p.2) in (
            ap (λ (z : ℕ). tests z (t ++ u)) h ∙ all-tests m (t ++ u) (sym (start-same (omega arith)) ∙ p.0) b.1 (ap (λ (z : List ℕ). is_name z) du ∙ f),
            λ e. module-none (word_of MODULE_RESERVED (take m (t ++ s))) (n + 2 + name_length (drop (n + 2) (t ++ u))) (m + 2 + name_length (drop (m + 2) (t ++ s)))
                (ap (λ (z : List ℕ). module_token (word_of MODULE_RESERVED z) (n + 2 + name_length (drop (n + 2) (t ++ u)))) (take_same t u s m (omega arith) ∙ ap (λ (z : ℕ). take z (t ++ u)) (sym h)) ∙ e),
          )

  -- the lexeme at the front
  lexeme-keeps : 0 < length t → lexeme (t ++ u) ≡ x → lexeme (t ++ s) ≡ x
  unfolding lexeme
  lexeme-keeps full =
      or-keeps _ _ _ _ (space-keeps full)
      (or-keeps _ _ _ _ line-keeps
      (or-keeps _ _ _ _ block-keeps
      (or-keeps _ _ _ _ qualified-keeps
      (or-keeps _ _ _ _ macro-keeps
      (or-keeps _ _ _ _ hexadecimal-keeps
      (or-keeps _ _ _ _ binary-keeps
      (or-keeps _ _ _ _ decimal-keeps
      (or-keeps _ _ _ _ (word_keeps full)
      (or-keeps _ _ _ _ (mark-keeps marks marks-solid)
      (none-keeps full))))))))))

-- ---- the law

no_bytes : {k n : ℕ} {A : Type 0} → lexeme [] ≡ token k n → A
unfolding lexeme space line_comment block_comment qualified macro hexadecimal binary decimal digits word mark marks no_lexeme begins name_length run ascii ascii_from among whitespace name_starts underscore decimal_digits
no_bytes e = no-refusal e

-- A text that is one token has a byte,
pub not-empty : {k : ℕ} {w : List ℕ} → OneToken k w → 0 < length w
not-empty {w = []} o = no_bytes o.lexed
not-empty {w = b ∷ w} o = omega arith

-- and is that token before whitespace and at the end, whatever follows.
pub before-gap : {k : ℕ} {w : List ℕ} → OneToken k w → (r : List ℕ) → gap r ≡ true → lexeme (w ++ r) ≡ token k (length w)
before-gap {k} {w} o r g = lexeme-keeps w [] r g k (not-empty o) (ap lexeme (append-nil w) ∙ o.lexed)

-- The bytes of a token at the front of a text are that token alone.
pub alone : (r : List ℕ) (k n : ℕ) → lexeme r ≡ token k n → OneToken k (take n r)
unfolding gap
alone [] k n e = no_bytes e
alone (b ∷ r) k n e =
    let v = subst (Moves (suc (length r))) e (lexeme-moves b r) in
    let h = v.0 in
    let t = take n (b ∷ r) in
    let l : length t ≡ n = length-take-le n (b ∷ r) v.1 in
    let f : lexeme (t ++ drop n (b ∷ r)) ≡ token k (length t) = ap lexeme (take-append-drop n (b ∷ r)) ∙ e ∙ ap (token k) (sym l) in
    record { lexed = ap lexeme (sym (append-nil t)) ∙ lexeme-keeps t (drop n (b ∷ r)) [] refl k (omega arith) f }
