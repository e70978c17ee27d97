-- Runs of bytes and beginnings of a text t that is followed by s, a gap, or by u, which may be anything: what they have in common.
-- Assumes nothing.
use Rattle.std.specs.Prelude.{Bool, true, false, ◌&&◌, ◌||◌, not, List, [], ◌∷◌, ◌++◌, ◌≡◌, refl, ℕ, suc, ◌+◌, ◌≤◌, ◌<◌, T, eqb, leb, length, take, drop, replicate}
use Rattle.std.proofs.Common.{sym, ap, ◌∙◌, arith, eqb-true, leb-true, length-drop}
use Rattle.std.proofs.lemmas.Bool.{not-true}
use Rattle.std.proofs.lemmas.List.{take-append-le, drop-append-le}
use Rattle.text.specs.Ascii.{ascii, ascii_from}
use Rattle.text.proofs.Same.{differ}
use Rattle.text.specs.Table.{every}
use Rattle.text.proofs.Table.{at, is_true}
use Rattle.lexer.specs.Chars.{Range, among, whitespace, binary_digits, decimal_digits, hex_digits, underscore, name_starts, name_bytes, first, run, begins}
use Rattle.lexer.specs.Lexemes.{name_length, is_name, Mark, marks}
use Rattle.lexer.proofs.Moves.{among-append, run-first}
use Rattle.lexer.proofs.Trials.{both_left, both_right}
use Rattle.lexer.specs.Texts.{gap}

-- ---- whitespace is apart from the bytes of tokens

-- no whitespace passes the test
abbrev pub Apart : (ℕ → Bool) → Type 0
Apart p = (b : ℕ) → among whitespace b ≡ true → p b ≡ false

pub white_low : (b : ℕ) → among whitespace b ≡ true → b < 33
unfolding among whitespace
white_low b e = go (leb 9 b) (leb b 13) refl (leb 32 b) (leb b 32) refl e
  where
    go : (i j : Bool) → leb b 13 ≡ j → (k l : Bool) → leb b 32 ≡ l → (i && j || (k && l || false)) ≡ true → b < 33
    go true true p k l q e = let h = leb-true b 13 p in omega arith
    go true false p true true q e = let h = leb-true b 32 q in omega arith
    go true false p true false q e = differ e
    go true false p false l q e = differ e
    go false j p true true q e = let h = leb-true b 32 q in omega arith
    go false j p true false q e = differ e
    go false j p false l q e = differ e

-- computed over the bytes up to 32
pub apart_if : (p : ℕ → Bool) → T (every {A = ℕ} (λ b x. not (among whitespace b && p b)) 0 (replicate 33 0)) → Apart p
apart_if p t b e =
    let r = not-true (among whitespace b && p b) (is_true _ (at {A = ℕ} (λ b x. not (among whitespace b && p b)) (replicate 33 0) 0 t b (white_low b e))) in
    rw e at r

-- no byte of the text is whitespace
abbrev pub solid : List ℕ → Bool
solid [] = true
solid (x ∷ w) = not (among whitespace x) && solid w

-- ---- a text t, and what follows it: s where there is a gap, u whatever it is

pub run-gap : (p : ℕ → Bool) → Apart p → (s : List ℕ) → gap s ≡ true → run p s ≡ 0
unfolding run gap
run-gap p a [] g = refl
run-gap p a (b ∷ s) g = rw (a b g, run) refl

pub run-swap : (p : ℕ → Bool) (t u s : List ℕ) → run p (t ++ u) ≤ length t → run p s ≡ 0 → run p (t ++ s) ≡ run p (t ++ u)
unfolding run
run-swap p [] u s h e = omega arith
run-swap p (b ∷ t) u s h e = go (p b) h (run-swap p t u s)
  where
    go : (x : Bool) → elim x [ true ↦ suc (run p (t ++ u)) | false ↦ 0 ] ≤ suc (length t) → (run p (t ++ u) ≤ length t → run p s ≡ 0 → run p (t ++ s) ≡ run p (t ++ u))
        → ◌≡◌ {A = ℕ} (elim x [ true ↦ suc (run p (t ++ s)) | false ↦ 0 ]) (elim x [ true ↦ suc (run p (t ++ u)) | false ↦ 0 ])
    go true h f = ap suc (f (omega arith) e)
    go false h f = refl

-- a run that ends within t is the same whatever follows
pub run_inside : (p : ℕ → Bool) (t u s : List ℕ) → run p (t ++ s) < length t → run p (t ++ u) ≡ run p (t ++ s)
unfolding run
run_inside p [] u s h = absurd (omega arith)
run_inside p (b ∷ t) u s h = go (p b) h (run_inside p t u s)
  where
    go : (x : Bool) → elim x [ true ↦ suc (run p (t ++ s)) | false ↦ 0 ] < suc (length t) → (run p (t ++ s) < length t → run p (t ++ u) ≡ run p (t ++ s))
        → ◌≡◌ {A = ℕ} (elim x [ true ↦ suc (run p (t ++ u)) | false ↦ 0 ]) (elim x [ true ↦ suc (run p (t ++ s)) | false ↦ 0 ])
    go true h f = ap suc (f (omega arith))
    go false h f = refl

pub run-in-text : (p : ℕ → Bool) (t s : List ℕ) → run p s ≡ 0 → run p (t ++ s) ≤ length t
unfolding run
run-in-text p [] s e = omega arith
run-in-text p (b ∷ t) s e = go (p b) (run-in-text p t s e)
  where
    go : (x : Bool) → run p (t ++ s) ≤ length t → elim x [ true ↦ suc (run p (t ++ s)) | false ↦ 0 ] ≤ suc (length t)
    go true h = omega arith
    go false h = omega arith

-- a run whose first byte passes a narrower test has a byte
pub run-some : (q p : ℕ → Bool) → q 0 ≡ false → ((b : ℕ) → q b ≡ true → p b ≡ true) → (r : List ℕ) → q (first r) ≡ true → 0 < run p r
run-some q p z f [] e = differ (sym z ∙ e)
run-some q p z f (b ∷ r) e = run-first p b r (f b e)

pub begins-keep : (w t u s : List ℕ) → begins w (t ++ u) ≡ true → length w ≤ length t → begins w (t ++ s) ≡ true
unfolding begins
begins-keep [] t u s e h = refl
begins-keep (x ∷ w) [] u s e h = absurd (omega arith)
begins-keep (x ∷ w) (b ∷ t) u s e h =
    rw (both_left (eqb b x) (begins w (t ++ u)) e) (begins-keep w t u s (both_right (eqb b x) (begins w (t ++ u)) e) (omega arith))

-- what begins a text before a gap ends within it
pub begins-short : (w t s : List ℕ) → solid w ≡ true → gap s ≡ true → begins w (t ++ s) ≡ true → length w ≤ length t
unfolding begins gap
begins-short [] t s d g e = omega arith
begins-short (x ∷ w) [] [] d g e = differ e
begins-short (x ∷ w) [] (b ∷ s) d g e =
    let q : b ≡ x = eqb-true b x (both_left (eqb b x) (begins w s) e) in
    differ (sym (not-true (among whitespace x) (both_left (not (among whitespace x)) (solid w) d)) ∙ ap (among whitespace) (sym q) ∙ g)
begins-short (x ∷ w) (b ∷ t) s d g e =
    let h = begins-short w t s (both_right (not (among whitespace x)) (solid w) d) g (both_right (eqb b x) (begins w (t ++ s)) e) in omega arith

pub begins-back : (w t u s : List ℕ) → solid w ≡ true → gap s ≡ true → begins w (t ++ s) ≡ true → begins w (t ++ u) ≡ true
begins-back w t u s d g e = begins-keep w t s u e (begins-short w t s d g e)

pub first-same : (t u s : List ℕ) → 0 < length t → first (t ++ s) ≡ first (t ++ u)
first-same [] u s h = absurd (omega arith)
first-same (b ∷ t) u s h = refl

-- a first byte that passes the test is none of the gap's
pub first-inside : (p : ℕ → Bool) → p 0 ≡ false → Apart p → (t s : List ℕ) → gap s ≡ true → p (first (t ++ s)) ≡ true → 0 < length t
unfolding gap
first-inside p z a [] [] g e = differ (sym z ∙ e)
first-inside p z a [] (b ∷ s) g e = differ (sym (a b g) ∙ e)
first-inside p z a (b ∷ t) s g e = omega arith

-- the bytes of names and of digit runs are no whitespace
pub name-apart : Apart (among name_bytes)
unfolding among whitespace name_bytes name_starts underscore decimal_digits
name-apart = apart_if (among name_bytes) tt

pub start-apart : Apart (among name_starts)
unfolding among whitespace name_starts underscore
start-apart = apart_if (among name_starts) tt

pub start-zero : among name_starts 0 ≡ false
unfolding among name_starts underscore
start-zero = refl

-- what is wanted of the digits of a base
pub record Base (base : List Range) : Type 0 where
  pub apart : Apart (λ b. among base b || among underscore b)
  pub zero_none : among base 0 ≡ false

pub base-apart : {base : List Range} → Base base → Apart (among base)
base-apart {base} h b e = go (among base b) (h.apart b e)
  where
    go : (x : Bool) → (x || among underscore b) ≡ false → x ≡ false
    go true q = q
    go false q = refl

pub decimal-base : Base decimal_digits
unfolding among whitespace underscore decimal_digits
decimal-base = record { apart = apart_if (λ b. among decimal_digits b || among underscore b) tt; zero_none = refl }

pub binary-base : Base binary_digits
unfolding among whitespace underscore binary_digits
binary-base = record { apart = apart_if (λ b. among binary_digits b || among underscore b) tt; zero_none = refl }

pub hex-base : Base hex_digits
unfolding among whitespace underscore hex_digits
hex-base = record { apart = apart_if (λ b. among hex_digits b || among underscore b) tt; zero_none = refl }

-- and so are those of the texts that are looked for
pub bang-solid : solid (ascii "!") ≡ true
unfolding ascii ascii_from among whitespace
bang-solid = refl

pub colons-solid : solid (ascii "::") ≡ true
unfolding ascii ascii_from among whitespace
colons-solid = refl

pub hex-solid : solid (ascii "0x") ≡ true
unfolding ascii ascii_from among whitespace
hex-solid = refl

pub binary-solid : solid (ascii "0b") ≡ true
unfolding ascii ascii_from among whitespace
binary-solid = refl

pub line-solid : solid (ascii "//") ≡ true
unfolding ascii ascii_from among whitespace
line-solid = refl

pub block-solid : solid (ascii "/*") ≡ true
unfolding ascii ascii_from among whitespace
block-solid = refl

abbrev pub solids : List Mark → Bool
solids [] = true
solids (m ∷ ms) = solid (ascii m.text) && solids ms

pub marks-solid : solids marks ≡ true
unfolding marks ascii ascii_from among whitespace
marks-solid = refl

-- ---- names

-- a name has a byte
pub name-some : (r : List ℕ) → is_name r ≡ true → 0 < name_length r
unfolding name_length name_bytes
name-some r e = run-some (among name_starts) (among name_bytes) start-zero (among-append name_starts decimal_digits) r e

pub name-within : (t s : List ℕ) → gap s ≡ true → name_length (t ++ s) ≤ length t
unfolding name_length
name-within t s g = run-in-text (among name_bytes) t s (run-gap (among name_bytes) name-apart s g)

module _ (t u s : List ℕ) (g : gap s ≡ true) where
  pub name-swap : name_length (t ++ u) ≤ length t → name_length (t ++ s) ≡ name_length (t ++ u)
  unfolding name_length
  name-swap h = run-swap (among name_bytes) t u s h (run-gap (among name_bytes) name-apart s g)

  pub name-inside : name_length (t ++ s) < length t → name_length (t ++ u) ≡ name_length (t ++ s)
  unfolding name_length
  name-inside h = run_inside (among name_bytes) t u s h

  -- a name that fills t
  pub name-filled : is_name (t ++ u) ≡ true → name_length (t ++ u) ≡ length t → (is_name (t ++ s) ≡ true) × (name_length (t ++ s) ≡ length t)
  name-filled e h = let l = name-some (t ++ u) e in (ap (among name_starts) (first-same t u s (omega arith)) ∙ e, name-swap (omega arith) ∙ h)

  pub name-starts : is_name (t ++ s) ≡ true → is_name (t ++ u) ≡ true
  name-starts e = ap (among name_starts) (first-same t s u (first-inside (among name_starts) start-zero start-apart t s g e)) ∙ e

-- ---- behind n bytes of t

module _ (t u s : List ℕ) (n : ℕ) (h : n ≤ length t) where
  pub take_same : take n (t ++ s) ≡ take n (t ++ u)
  take_same = take-append-le n t s h ∙ sym (take-append-le n t u h)

  pub begins-there : (w : List ℕ) → n + length w ≤ length t → begins w (drop n (t ++ u)) ≡ true → begins w (drop n (t ++ s)) ≡ true
  begins-there w l e =
      let m = length-drop n t in
      ap (begins w) (drop-append-le n t s h) ∙ begins-keep w (drop n t) u s (ap (begins w) (sym (drop-append-le n t u h)) ∙ e) (omega arith)

  -- before a gap: what begins there ends within t, and begins there whatever follows
  pub begins-before : (w : List ℕ) → solid w ≡ true → gap s ≡ true → begins w (drop n (t ++ s)) ≡ true → (n + length w ≤ length t) × (begins w (drop n (t ++ u)) ≡ true)
  begins-before w d g e =
      let l = length-drop n t in
      let f : begins w (drop n t ++ s) ≡ true = ap (begins w) (sym (drop-append-le n t s h)) ∙ e in
      let m = begins-short w (drop n t) s d g f in
      (omega arith, ap (begins w) (drop-append-le n t u h) ∙ begins-keep w (drop n t) s u f m)
