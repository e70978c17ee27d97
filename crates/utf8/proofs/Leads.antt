-- The sequence at a place by its first byte: the alternatives that are left behind each byte over 127, computed over all of them at once.
-- Assumes nothing.
use mathlib.Core.Bool.{Bool, true, false, cond, ◌&&◌, and-false}
use mathlib.Core.List.{List, [], ◌∷◌}
use mathlib.Core.Path.{◌≡◌, refl, sym, ◌∙◌, ap, ap₂}
use Prim.Native.Nat.{ℕ, suc, ◌+◌, ◌-◌, ◌≤◌, ◌<◌}
use native.Mathlib.Numerals.{add-one}
use native.Mathlib.Omega.{arith}
use borrow.Author.Tests.{lt-leb, lt-ltb, le-ltb, ltb-true, ltb-false, eqb-true, leb-true, leb-false}
use lib.Dec.{T, eqb, leb, ltb}
use lib.ListN.{length, get_or, drop, replicate, length-replicate, get_or-eq_default, drop_of_length-le}
use lib.Seq.{drop-cons}
use Rattle.text.proofs.Same.{differ}
use Rattle.text.specs.Table.{every}
use Rattle.text.proofs.Table.{at, is_true}
use Rattle.text.specs.Ranges.{Range, bytes, of}
use Rattle.text.proofs.Rest.{rest-cons}
use Rattle.utf8.specs.Utf8.{utf8_char, tail, fits, sequence, char_length}
use Rattle.std.specs.Prelude.{None}
use Rattle.std.specs.Bool.{then_some}
use Rattle.utf8.specs.Found.{if_any, char_found}
use Rattle.utf8.specs.Second.{second, least_second}

-- ---- equal lists by a test

module _ {A : Type 0} (f : A → A → Bool) (sound : (x y : A) → f x y ≡ true → x ≡ y) where
  abbrev equal : List A → List A → Bool
  equal [] [] = true
  equal [] (y ∷ ys) = false
  equal (x ∷ xs) [] = false
  equal (x ∷ xs) (y ∷ ys) = f x y && equal xs ys

  equal-sound : (xs ys : List A) → equal xs ys ≡ true → xs ≡ ys
  equal-sound [] [] e = refl
  equal-sound [] (y ∷ ys) e = differ e
  equal-sound (x ∷ xs) [] e = differ e
  equal-sound (x ∷ xs) (y ∷ ys) e = go (f x y) refl e (equal-sound xs ys)
    where
      go : (t : Bool) → f x y ≡ t → (t && equal xs ys) ≡ true → (equal xs ys ≡ true → xs ≡ ys) → x ∷ xs ≡ y ∷ ys
      go true p e r = ap₂ (λ a l. a ∷ l) (sound x y p) (r e)
      go false p e r = differ e

abbrev same_range : Range → Range → Bool
same_range g h = eqb g.least h.least && eqb g.most h.most

same-range : (g h : Range) → same_range g h ≡ true → g ≡ h
same-range g h e = go (eqb g.least h.least) refl e
  where
    go : (t : Bool) → eqb g.least h.least ≡ t → (t && eqb g.most h.most) ≡ true → g ≡ h
    go true p q = ap₂ bytes (eqb-true _ _ p) (eqb-true _ _ q)
    go false p q = differ q

-- ---- what is left of the alternatives behind a first byte

unfoldable left : List (List Range) → ℕ → List (List Range)
left [] b = []
left ([] ∷ others) b = left others b
left ((g ∷ gs) ∷ others) b = cond (of g b) (gs ∷ left others b) (left others b)

-- the sequence with the first byte counted
unfoldable tried : List (List Range) → List ℕ → ℕ
tried [] r = 0
tried (gs ∷ others) r = cond (fits gs r) (suc (length gs)) (tried others r)

abbrev full : List (List Range) → Bool
full [] = true
full ([] ∷ others) = false
full ((g ∷ gs) ∷ others) = full others

first-apart : (alts : List (List Range)) → full alts ≡ true → (b : ℕ) (r : List ℕ) → sequence alts (b ∷ r) ≡ tried (left alts b) r
unfolding sequence tried left fits
first-apart [] e b r = refl
first-apart ([] ∷ others) e b r = differ e
first-apart ((g ∷ gs) ∷ others) e b r = go (of g b) (first-apart others e b r)
  where
    go : (t : Bool) → sequence others (b ∷ r) ≡ tried (left others b) r
        → cond (t && fits gs r) (suc (length gs)) (sequence others (b ∷ r)) ≡ tried (cond t (gs ∷ left others b) (left others b)) r
    go true h = ap (cond (fits gs r) (suc (length gs))) h
    go false h = h

-- the alternative behind each byte over 127
abbrev left_over : ℕ → List (List Range)
left_over b =
    cond (ltb b 0xC2) []
    (cond (ltb b 0xE0) ((tail ∷ []) ∷ [])
    (cond (ltb 0xF4 b) []
    (cond (ltb b 0xF0) ((second b ∷ tail ∷ []) ∷ [])
    ((second b ∷ tail ∷ tail ∷ []) ∷ []))))

abbrev same_left : ℕ → Bool
same_left b = equal (equal same_range same-range) (equal-sound same_range same-range) (left utf8_char b) (left_over b)

left-passes : T (every {A = ℕ} (λ k x. same_left (128 + k)) 0 (replicate 128 0))
unfolding left utf8_char
left-passes = tt

by_table : (b : ℕ) → 128 ≤ b → b < 256 → left utf8_char b ≡ left_over b
by_table b h l =
    let k = at {A = ℕ} (λ k x. same_left (128 + k)) (replicate 128 0) 0 left-passes (b - 128) (omega (arith, length-replicate {A = ℕ} 128 0)) in
    let e : 128 + (b - 128) ≡ b = omega arith in
    ap (left utf8_char) (sym e)
    ∙ equal-sound (equal same_range same-range) (equal-sound same_range same-range) (left utf8_char (128 + (b - 128))) (left_over (128 + (b - 128))) (is_true _ k)
    ∙ ap left_over e

-- and behind any number over the last first byte: none is left
beyond : (b : ℕ) → 0xF4 < b → left utf8_char b ≡ left_over b
unfolding left utf8_char
beyond b h =
    simp (
      lt-leb b 0x7F (omega arith),
      lt-leb b 0xDF (omega arith),
      lt-leb b 0xE0 (omega arith),
      lt-leb b 0xEC (omega arith),
      lt-leb b 0xED (omega arith),
      lt-leb b 0xEF (omega arith),
      lt-leb b 0xF0 (omega arith),
      lt-leb b 0xF3 (omega arith),
      lt-leb b 0xF4 h,
      and-false,
      le-ltb b 0xC2 (omega arith),
      le-ltb b 0xE0 (omega arith),
      lt-ltb 0xF4 b h,
    )

left_at : (b : ℕ) → 128 ≤ b → left utf8_char b ≡ left_over b
left_at b h = go (ltb b 256) refl
  where
    go : (t : Bool) → ltb b 256 ≡ t → left utf8_char b ≡ left_over b
    go true q = by_table b h (ltb-true b 256 q)
    go false q = beyond b (let l = ltb-false b 256 q in omega arith)

-- ---- one byte behind the other

-- past the end no range has a byte
fits_next : (g : Range) (gs : List Range) (s : List ℕ) (i k : ℕ) → 1 ≤ g.least → i + 1 ≡ k → fits (g ∷ gs) (drop i s) ≡ (of g (get_or s i 0) && fits gs (drop k s))
unfolding fits
fits_next g gs s i k h e = go (leb (length s) i) refl
  where
    go : (t : Bool) → leb (length s) i ≡ t → fits (g ∷ gs) (drop i s) ≡ ((leb g.least (get_or s i 0) && leb (get_or s i 0) g.most) && fits gs (drop k s))
    go true q =
        let z = get_or-eq_default s 0 (leb-true _ _ q) in
        ap (fits (g ∷ gs)) (drop_of_length-le s (leb-true _ _ q)) ∙ simp (lt-leb g.least (get_or s i 0) (omega arith))
    go false q =
        ap (fits (g ∷ gs)) (drop-cons s i 0 (leb-false _ _ q)) ∙ ap (λ n. of g (get_or s i 0) && fits gs (drop n s)) (sym (add-one i) ∙ e)

second-some : (b : ℕ) → 1 ≤ least_second b
second-some b = go (eqb b 0xE0) (eqb b 0xF0)
  where
    go : (t u : Bool) → 1 ≤ cond t 0xA0 (cond u 0x90 0x80)
    go true u = omega arith
    go false true = omega arith
    go false false = omega arith

found_if : (t : Bool) (n : ℕ) → then_some t (suc n) ≡ if_any (cond (t && true) (suc n) 0)
found_if true n = refl
found_if false n = refl

found_if₂ : (t u : Bool) (n : ℕ) → then_some (t && u) (suc n) ≡ if_any (cond (t && (u && true)) (suc n) 0)
found_if₂ true u n = found_if u n
found_if₂ false u n = refl

found_if₃ : (t u v : Bool) (n : ℕ) → then_some (t && (u && v)) (suc n) ≡ if_any (cond (t && (u && (v && true))) (suc n) 0)
found_if₃ true u v n = found_if₂ u v n
found_if₃ false u v n = refl

-- b is the byte at i, and over 127
abbrev Lead : List ℕ → ℕ → ℕ → Type 0
Lead s i b = (i < length s) × (b ≡ get_or s i 0) × (128 ≤ b)

module _ (s : List ℕ) (i b : ℕ) (w : Lead s i b) where
  base : char_length (drop i s) ≡ tried (left_over b) (drop (i + 1) s)
  unfolding utf8_char
  base =
      ap (λ l. char_length l) (rest-cons s i b w.0 (sym w.1)) ∙ first-apart utf8_char refl b (drop (suc i) s)
      ∙ ap₂ (λ x n. tried x (drop n s)) (left_at b w.2) (sym (add-one i))

  under : b < 0xC2 → char_length (drop i s) ≡ 0
  unfolding tried
  under x = base ∙ simp (lt-ltb b 0xC2 x)

  over : 0xF4 < b → char_length (drop i s) ≡ 0
  unfolding tried
  over x = base ∙ simp (le-ltb b 0xC2 (omega arith), le-ltb b 0xE0 (omega arith), lt-ltb 0xF4 b x)

  -- a sequence that is cut off behind its first byte is none
  cut : length s ≤ i + 1 → char_length (drop i s) ≡ 0
  unfolding tried fits
  cut h = base ∙ ap (tried (left_over b)) (drop_of_length-le s h) ∙ go (ltb b 0xC2) (ltb b 0xE0) (ltb 0xF4 b) (ltb b 0xF0)
    where
      go : (t u v w : Bool) → tried (cond t [] (cond u ((tail ∷ []) ∷ []) (cond v [] (cond w ((second b ∷ tail ∷ []) ∷ []) ((second b ∷ tail ∷ tail ∷ []) ∷ []))))) [] ≡ 0
      go true u v w = refl
      go false true v w = refl
      go false false true w = refl
      go false false false true = refl
      go false false false false = refl

  -- the bytes behind the first, range by range
  one_more : (g : Range) → 1 ≤ g.least → fits (g ∷ []) (drop (i + 1) s) ≡ (of g (get_or s (i + 1) 0) && true)
  unfolding fits
  one_more g k = fits_next g [] s (i + 1) (i + 2) k (omega arith)

  two-more : (g : Range) → 1 ≤ g.least → fits (g ∷ tail ∷ []) (drop (i + 1) s) ≡ (of g (get_or s (i + 1) 0) && (of tail (get_or s (i + 2) 0) && true))
  unfolding fits
  two-more g k =
      fits_next g (tail ∷ []) s (i + 1) (i + 2) k (omega arith)
      ∙ ap (λ t. of g (get_or s (i + 1) 0) && t) (fits_next tail [] s (i + 2) (i + 3) (omega arith) (omega arith))

  three-more : (g : Range) → 1 ≤ g.least
      → fits (g ∷ tail ∷ tail ∷ []) (drop (i + 1) s) ≡ (of g (get_or s (i + 1) 0) && (of tail (get_or s (i + 2) 0) && (of tail (get_or s (i + 3) 0) && true)))
  unfolding fits
  three-more g k =
      fits_next g (tail ∷ tail ∷ []) s (i + 1) (i + 2) k (omega arith)
      ∙ ap (λ t. of g (get_or s (i + 1) 0) && t) (fits_next tail (tail ∷ []) s (i + 2) (i + 3) (omega arith) (omega arith)
      ∙ ap (λ t. of tail (get_or s (i + 2) 0) && t) (fits_next tail [] s (i + 3) (i + 4) (omega arith) (omega arith)))

  -- two bytes
  two-length : 0xC2 ≤ b → b < 0xE0 → char_length (drop i s) ≡ cond (of tail (get_or s (i + 1) 0) && true) 2 0
  unfolding tried
  two-length x y = base ∙ simp (le-ltb b 0xC2 x, lt-ltb b 0xE0 y, one_more tail (omega arith))

  two : 0xC2 ≤ b → b < 0xE0 → then_some (of tail (get_or s (i + 1) 0)) 2 ≡ char_found (drop i s)
  two x y = found_if _ 1 ∙ ap if_any (sym (two-length x y))

  -- three
  three-length : 0xE0 ≤ b → b < 0xF0 → char_length (drop i s) ≡ cond (of (second b) (get_or s (i + 1) 0) && (of tail (get_or s (i + 2) 0) && true)) 3 0
  unfolding tried
  three-length x y =
      base ∙ simp (le-ltb b 0xC2 (omega arith), le-ltb b 0xE0 x, le-ltb 0xF4 b (omega arith), lt-ltb b 0xF0 y)
      (ap (λ t. cond t 3 0) (two-more (second b) (second-some b)))

  three : 0xE0 ≤ b → b < 0xF0 → then_some (of (second b) (get_or s (i + 1) 0) && of tail (get_or s (i + 2) 0)) 3 ≡ char_found (drop i s)
  three x y = found_if₂ _ _ 2 ∙ ap if_any (sym (three-length x y))

  -- four
  four-length : 0xF0 ≤ b → b ≤ 0xF4
      → char_length (drop i s) ≡ cond (of (second b) (get_or s (i + 1) 0) && (of tail (get_or s (i + 2) 0) && (of tail (get_or s (i + 3) 0) && true))) 4 0
  unfolding tried
  four-length x y =
      base ∙ simp (le-ltb b 0xC2 (omega arith), le-ltb b 0xE0 (omega arith), le-ltb 0xF4 b y, le-ltb b 0xF0 x)
      (ap (λ t. cond t 4 0) (three-more (second b) (second-some b)))

  four : 0xF0 ≤ b → b ≤ 0xF4
      → then_some (of (second b) (get_or s (i + 1) 0) && (of tail (get_or s (i + 2) 0) && of tail (get_or s (i + 3) 0))) 4 ≡ char_found (drop i s)
  four x y = found_if₃ (of (second b) (get_or s (i + 1) 0)) (of tail (get_or s (i + 2) 0)) (of tail (get_or s (i + 3) 0)) 3 ∙ ap if_any (sym (four-length x y))

-- ---- the rows, by the bytes there

module _ (s : List ℕ) (i : ℕ) (h : i < length s) where
  there : 128 ≤ get_or s i 0 → Lead s i (get_or s i 0)
  there x = (h, refl, x)

  pub row_under : 128 ≤ get_or s i 0 → get_or s i 0 < 0xC2 → char_found (drop i s) ≡ None
  row_under x y = ap if_any (under s i (get_or s i 0) (there x) y)

  pub row_over : 0xF4 < get_or s i 0 → char_found (drop i s) ≡ None
  row_over x = ap if_any (over s i (get_or s i 0) (there (omega arith)) x)

  pub row_cut : 128 ≤ get_or s i 0 → length s ≤ i + 1 → char_found (drop i s) ≡ None
  row_cut x y = ap if_any (cut s i (get_or s i 0) (there x) y)

  pub row_two : 0xC2 ≤ get_or s i 0 → get_or s i 0 < 0xE0 → char_found (drop i s) ≡ then_some (of tail (get_or s (i + 1) 0)) 2
  row_two x y = sym (two s i (get_or s i 0) (there (omega arith)) x y)

  pub row_three : 0xE0 ≤ get_or s i 0 → get_or s i 0 < 0xF0
      → char_found (drop i s) ≡ then_some (of (second (get_or s i 0)) (get_or s (i + 1) 0) && of tail (get_or s (i + 2) 0)) 3
  row_three x y = sym (three s i (get_or s i 0) (there (omega arith)) x y)

  pub row_four : 0xF0 ≤ get_or s i 0 → get_or s i 0 ≤ 0xF4
      → char_found (drop i s) ≡ then_some (of (second (get_or s i 0)) (get_or s (i + 1) 0) && (of tail (get_or s (i + 2) 0) && of tail (get_or s (i + 3) 0))) 4
  row_four x y = sym (four s i (get_or s i 0) (there (omega arith)) x y)
