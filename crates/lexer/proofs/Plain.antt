-- The bytes up to 127: the sets of Chars.antt have no others, nor have runs of those, nor words of the rules at the front of a text.
-- Assumes nothing.
use Rattle.std.specs.Prelude.{Bool, true, false, ◌&&◌, List, [], ◌∷◌, ◌≡◌, refl, ℕ, zero, suc, ◌+◌, ◌-◌, ◌≤◌, ◌<◌, T, eqb, leb, ltb, length, get_or, take, drop}
use Rattle.std.proofs.Math.Bool.{and-false}
use Rattle.std.proofs.Common.{sym, ◌∙◌, ap, subst, arith, leb-true, leb-false, ltb-true, ltb-false, eqb-true, leb→le, get_or-drop, get_or-take}
use Rattle.std.proofs.lemmas.Bool.{le-leb, lt-leb}
use Rattle.text.proofs.Same.{differ}
use Rattle.text.proofs.Table.{first-of, second-of}
use Rattle.lexer.specs.Chars.{Range, among, plain_bytes, run, begins}
use Rattle.lexer.proofs.Trials.{both_left, both_right}

-- the first n bytes of a text are up to 127
abbrev pub Plain : ℕ → List ℕ → Type 0
Plain n r = (j : ℕ) → j < n → get_or r j 0 ≤ 127

-- ---- sets of bytes

-- ranges that end at 127 or before
abbrev pub low : List Range → Bool
low [] = true
low (s ∷ ss) = leb s.most 127 && low ss

pub over-among : (ss : List Range) → T (low ss) → (b : ℕ) → 127 < b → among ss b ≡ false
unfolding among
over-among [] t b h = refl
over-among (s ∷ ss) t b h =
    let m = leb→le s.most 127 (first-of (leb s.most 127) (low ss) t) in
    simp (lt-leb b s.most (omega arith), and-false, over-among ss (second-of (leb s.most 127) (low ss) t) b h)

-- a test that no byte over 127 passes
abbrev pub Low : (ℕ → Bool) → Type 0
Low p = (b : ℕ) → p b ≡ true → b ≤ 127

pub low-among : (ss : List Range) → T (low ss) → Low (among ss)
low-among ss t b e = go (leb b 127) refl
  where
    go : (u : Bool) → leb b 127 ≡ u → b ≤ 127
    go true q = leb-true _ _ q
    go false q = differ (sym (over-among ss t b (leb-false _ _ q)) ∙ e)

-- ---- runs and beginnings

-- what a run has passes the test
pub run-passes : (p : ℕ → Bool) (r : List ℕ) (j : ℕ) → j < run p r → p (get_or r j 0) ≡ true
unfolding run
run-passes p [] j h = absurd (omega arith)
run-passes p (b ∷ r) j h = go (p b) refl j h (run-passes p r)
  where
    go : (t : Bool) → p b ≡ t → (j : ℕ) → j < elim t [ true ↦ suc (run p r) | false ↦ 0 ] → ((j : ℕ) → j < run p r → p (get_or r j 0) ≡ true)
        → p (get_or (b ∷ r) j 0) ≡ true
    go true e zero h ih = e
    go true e (suc j) h ih = ih j (omega arith)
    go false e j h ih = absurd (omega arith)

-- and what it stops at does not
pub run-stops : (p : ℕ → Bool) (r : List ℕ) → run p r < length r → p (get_or r (run p r) 0) ≡ false
unfolding run
run-stops p [] h = absurd (omega arith)
run-stops p (b ∷ r) h = go (p b) refl h (run-stops p r)
  where
    go : (t : Bool) → p b ≡ t → elim t [ true ↦ suc (run p r) | false ↦ 0 ] < suc (length r) → (run p r < length r → p (get_or r (run p r) 0) ≡ false)
        → p (get_or (b ∷ r) (elim t [ true ↦ suc (run p r) | false ↦ 0 ]) 0) ≡ false
    go true e h ih = ih (omega arith)
    go false e h ih = e

pub run-plain : (p : ℕ → Bool) (r : List ℕ) → Low p → Plain (run p r) r
run-plain p r l j h = l (get_or r j 0) (run-passes p r j h)

-- a word of bytes up to 127
abbrev pub low_word : List ℕ → Bool
low_word [] = true
low_word (x ∷ w) = leb x 127 && low_word w

pub begins-plain : (w r : List ℕ) → T (low_word w) → begins w r ≡ true → Plain (length w) r
unfolding begins
begins-plain [] r t e j h = absurd (omega arith)
begins-plain (x ∷ w) [] t e j h = differ e
begins-plain (x ∷ w) (b ∷ r) t e zero h =
    let z = eqb-true b x (both_left (eqb b x) (begins w r) e) in
    let l = leb→le x 127 (first-of (leb x 127) (low_word w) t) in
    omega arith
begins-plain (x ∷ w) (b ∷ r) t e (suc j) h =
    begins-plain w r (second-of (leb x 127) (low_word w) t) (both_right (eqb b x) (begins w r) e) j (omega arith)

-- n bytes, and m bytes behind them
pub plain_then : (n m : ℕ) (r : List ℕ) → Plain n r → Plain m (drop n r) → Plain (n + m) r
plain_then n m r a b j h = go (ltb j n) refl
  where
    go : (t : Bool) → ltb j n ≡ t → get_or r j 0 ≤ 127
    go true e = a j (ltb-true j n e)
    go false e =
        let l = ltb-false j n e in
        let z : n + (j - n) ≡ j = omega arith in
        subst (λ x. x ≤ 127) (get_or-drop n r (j - n) 0 ∙ ap (λ i. get_or r i 0) z) (b (j - n) (omega arith))

-- ---- the range of plain bytes

-- a byte that fails its test
over_plain : (b : ℕ) → among plain_bytes b ≡ false → 127 < b
unfolding among plain_bytes
over_plain b e = go (leb b 127) refl
  where
    go : (u : Bool) → leb b 127 ≡ u → 127 < b
    go true q = differ (sym e ∙ simp (le-leb 0 b (omega arith), q))
    go false q = leb-false _ _ q

low-plain : Low (among plain_bytes)
unfolding plain_bytes
low-plain = low-among plain_bytes tt

module _ (r : List ℕ) where
  -- the bytes of a comment up to the first over 127
  comment-plain : (n m : ℕ) → m ≡ run (among plain_bytes) (take n r) → m ≤ n → Plain m r
  comment-plain n m e h j l =
      subst (λ x. x ≤ 127) (get_or-take n r j 0 (omega arith))
      (run-plain (among plain_bytes) (take n r) low-plain j (omega arith))
