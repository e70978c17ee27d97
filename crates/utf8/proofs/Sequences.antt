-- The sequence at the front of a text: it is one of the alternatives, whatever follows, and where there is one no other stands there.
-- Each law rests on tests of the nine alternatives that antt computes.
-- Assumes nothing.
use Rattle.std.specs.Prelude.{Bool, true, false, cond, ◌&&◌, ◌||◌, List, [], ◌∷◌, ◌++◌, ◌≡◌, refl, ℕ, zero, suc, ◌≤◌, ◌<◌, leb, ltb, length, get_or, take, drop}
use Rattle.std.proofs.Math.Bool.{and-false}
use Rattle.std.proofs.Common.{sym, ◌∙◌, ap, subst, arith, le-leb, leb-true, ltb-true, lt-ltb, length-drop, drop-cons}
use Rattle.std.proofs.lemmas.Bool.{lt-leb, or_right}
use Rattle.text.specs.Ranges.{Range, of}
use Rattle.text.proofs.Same.{differ}
use Rattle.text.proofs.Table.{both_left, both_right}
use Rattle.utf8.specs.Utf8.{utf8_char, fits, sequence, char_length}
use Rattle.utf8.specs.Octets.{spells, is_one, is_char, NoChar, Told}

-- ---- tests of the alternatives

-- each begins with a range behind those before it, which starts at m or later
unfoldable pub apart : ℕ → List (List Range) → Bool
apart m [] = true
apart m ([] ∷ others) = false
apart m ((g ∷ gs) ∷ others) = leb m g.least && leb g.least g.most && apart (suc g.most) others

pub char-apart : apart 0 utf8_char ≡ true
unfolding apart utf8_char
char-apart = refl

-- ---- a sequence at the front of a text

-- what spells the ranges has their number, and stands in front of any text
spells-length : (a : List Range) (c : List ℕ) → spells a c ≡ true → length c ≡ length a
unfolding spells
spells-length [] [] e = refl
spells-length [] (b ∷ c) e = differ e
spells-length (g ∷ gs) [] e = differ e
spells-length (g ∷ gs) (b ∷ c) e = ap suc (spells-length gs c (both_right (of g b) (spells gs c) e))

spells-fits : (a : List Range) (c t : List ℕ) → spells a c ≡ true → fits a (c ++ t) ≡ true
unfolding spells fits
spells-fits [] c t e = refl
spells-fits (g ∷ gs) [] t e = differ e
spells-fits (g ∷ gs) (b ∷ c) t e = rw (both_left (of g b) (spells gs c) e) (spells-fits gs c t (both_right (of g b) (spells gs c) e))

-- the first byte of what one of them spells
one-first : (m : ℕ) (alts : List (List Range)) → apart m alts ≡ true → (b : ℕ) (c : List ℕ) → is_one alts (b ∷ c) ≡ true → m ≤ b
unfolding apart is_one spells
one-first m [] e b c o = differ o
one-first m ([] ∷ others) e b c o = differ e
one-first m ((g ∷ gs) ∷ others) e b c o = go (of g b && spells gs c) refl o (one-first (suc g.most) others (both_right ordered (apart (suc g.most) others) e) b c)
  where
    ordered : Bool
    ordered = leb m g.least && leb g.least g.most

    go : (t : Bool) → (of g b && spells gs c) ≡ t → (t || is_one others (b ∷ c)) ≡ true → (is_one others (b ∷ c) ≡ true → suc g.most ≤ b) → m ≤ b
    go t f o later =
        let x = both_left (leb m g.least && leb g.least g.most) (apart (suc g.most) others) e in
        let p = leb-true _ _ (both_left (leb m g.least) (leb g.least g.most) x) in
        let q = leb-true _ _ (both_right (leb m g.least) (leb g.least g.most) x) in
        pick t f o p q
      where
        pick : (t : Bool) → (of g b && spells gs c) ≡ t → (t || is_one others (b ∷ c)) ≡ true → m ≤ g.least → g.least ≤ g.most → m ≤ b
        pick true f o p q = let z = leb-true g.least b (both_left (leb g.least b) (leb b g.most) (both_left (of g b) (spells gs c) f)) in omega arith
        pick false f o p q = let z = later o in omega arith

-- none of them spells the empty text
pub one-full : (m : ℕ) (alts : List (List Range)) → apart m alts ≡ true → is_one alts [] ≡ false
unfolding apart is_one spells
one-full m [] e = refl
one-full m ([] ∷ others) e = differ e
one-full m ((g ∷ gs) ∷ others) e = one-full (suc g.most) others (both_right (leb m g.least && leb g.least g.most) (apart (suc g.most) others) e)

-- what one of them spells is the sequence at the front, whatever follows
pub one-sequence : (m : ℕ) (alts : List (List Range)) → apart m alts ≡ true → (b : ℕ) (c t : List ℕ) → is_one alts (b ∷ c) ≡ true
    → sequence alts (b ∷ c ++ t) ≡ suc (length c)
unfolding is_one apart sequence fits
one-sequence m [] e b c t o = differ o
one-sequence m ([] ∷ others) e b c t o = differ e
one-sequence m ((g ∷ gs) ∷ others) e b c t o =
    let w = both_right (leb m g.least && leb g.least g.most) (apart (suc g.most) others) e in
    go (spells (g ∷ gs) (b ∷ c)) refl o w (one-sequence (suc g.most) others w b c t)
  where
    go : (x : Bool) → spells (g ∷ gs) (b ∷ c) ≡ x → (x || is_one others (b ∷ c)) ≡ true → apart (suc g.most) others ≡ true
        → (is_one others (b ∷ c) ≡ true → sequence others (b ∷ c ++ t) ≡ suc (length c)) → sequence ((g ∷ gs) ∷ others) (b ∷ c ++ t) ≡ suc (length c)
    go true f o w later = ap (λ x. cond x (suc (length gs)) (sequence others (b ∷ c ++ t))) (spells-fits (g ∷ gs) (b ∷ c) t f) ∙ sym (spells-length (g ∷ gs) (b ∷ c) f)
    go false f o w later =
        let z : g.most < b = one-first (suc g.most) others w b c o in
        simp (lt-leb b g.most z, and-false) (later o)

-- and conversely: the sequence at the front is spelled by one of them
fits-spells : (a : List Range) (r : List ℕ) → fits a r ≡ true → spells a (take (length a) r) ≡ true
unfolding fits spells
fits-spells [] r e = refl
fits-spells (g ∷ gs) [] e = differ e
fits-spells (g ∷ gs) (b ∷ r) e = rw (both_left (of g b) (fits gs r) e) (fits-spells gs r (both_right (of g b) (fits gs r) e))

pub sequence-one : (alts : List (List Range)) (r : List ℕ) (n : ℕ) → sequence alts r ≡ suc n → is_one alts (take (suc n) r) ≡ true
unfolding sequence is_one
sequence-one [] r n e = absurd (omega arith)
sequence-one (a ∷ others) r n e = go (fits a r) refl e (sequence-one others r n)
  where
    go : (x : Bool) → fits a r ≡ x → cond x (length a) (sequence others r) ≡ suc n → (sequence others r ≡ suc n → is_one others (take (suc n) r) ≡ true)
        → (spells a (take (suc n) r) || is_one others (take (suc n) r)) ≡ true
    go true f e later = rw (subst (λ k. spells a (take k r) ≡ true) e (fits-spells a r f)) refl
    go false f e later = or_right (spells a (take (suc n) r)) (is_one others (take (suc n) r)) (later e)

-- a sequence stands within the text
pub fits-length : (a : List Range) (r : List ℕ) → fits a r ≡ true → length a ≤ length r
unfolding fits
fits-length [] r e = omega arith
fits-length (g ∷ gs) [] e = differ e
fits-length (g ∷ gs) (b ∷ r) e = let h = fits-length gs r (both_right (of g b) (fits gs r) e) in omega arith

pub sequence-length : (alts : List (List Range)) (r : List ℕ) → sequence alts r ≤ length r
unfolding sequence
sequence-length [] r = omega arith
sequence-length (a ∷ others) r = go (fits a r) refl (sequence-length others r)
  where
    go : (x : Bool) → fits a r ≡ x → sequence others r ≤ length r → cond x (length a) (sequence others r) ≤ length r
    go true f h = fits-length a r f
    go false f h = h

pub stops-none : (r : List ℕ) → char_length r ≡ 0 → NoChar r
stops-none r e [] t o q = differ (sym (one-full 0 utf8_char char-apart) ∙ o)
stops-none r e (b ∷ c) t o q = let z = sym e ∙ ap (λ l. char_length l) q ∙ one-sequence 0 utf8_char char-apart b c t o in omega arith

-- What the length says of a text.
pub told : (r : List ℕ) → Told r (char_length r)
told r = record { within = sequence-length utf8_char r; nothing = stops-none r; char = one (char_length r) refl }
  where
    one : (n : ℕ) → char_length r ≡ n → 0 < n → is_char (take n r) ≡ true
    one zero e h = absurd (omega arith)
    one (suc n) e h = sequence-one utf8_char r n e

-- A byte up to 127 is a sequence.
pub ascii-one : (b : ℕ) (r : List ℕ) → b ≤ 127 → char_length (b ∷ r) ≡ 1
unfolding sequence utf8_char fits
ascii-one b r h = simp (le-leb b 127 h, le-leb 0 b (omega arith))

pub ascii-at : (s : List ℕ) (i : ℕ) → i < length s → get_or s i 0 ≤ 127 → char_length (drop i s) ≡ 1
ascii-at s i h l = ap (λ r. char_length r) (drop-cons s i 0 h) ∙ ascii-one (get_or s i 0) (drop (suc i) s) l

-- None stands past the end.
pub none-past : (s : List ℕ) (i : ℕ) → length s ≤ i → char_length (drop i s) ≡ 0
none-past s i h = omega (arith, sequence-length utf8_char (drop i s), length-drop i s)

-- ---- the bytes of a sequence of two or more are over 127

unfoldable pub high : ℕ → List ℕ → Bool
high zero r = true
high (suc k) [] = false
high (suc k) (b ∷ r) = ltb 127 b && high k r

abbrev over : List Range → Bool
over [] = true
over (g ∷ gs) = ltb 127 g.least && over gs

fits-high : (a : List Range) (r : List ℕ) → over a ≡ true → fits a r ≡ true → high (length a) r ≡ true
unfolding fits high
fits-high [] r o e = refl
fits-high (g ∷ gs) [] o e = differ e
fits-high (g ∷ gs) (b ∷ r) o e =
    let x = both_left (leb g.least b && leb b g.most) (fits gs r) e in
    let p = leb-true g.least b (both_left (leb g.least b) (leb b g.most) x) in
    let q = ltb-true 127 g.least (both_left (ltb 127 g.least) (over gs) o) in
    rw (lt-ltb 127 b (omega arith)) (fits-high gs r (both_right (ltb 127 g.least) (over gs) o) (both_right (leb g.least b && leb b g.most) (fits gs r) e))

abbrev single : List Range → Bool
single a = leb (length a) 1 || over a

abbrev singles : List (List Range) → Bool
singles [] = true
singles (a ∷ others) = single a && singles others

high-sequence : (alts : List (List Range)) → singles alts ≡ true → (r : List ℕ) → 1 < sequence alts r → high (sequence alts r) r ≡ true
unfolding sequence
high-sequence [] t r h = absurd (omega arith)
high-sequence (a ∷ others) t r h = go (fits a r) refl h (high-sequence others (both_right (single a) (singles others) t) r)
  where
    not-one : (x : Bool) → leb (length a) 1 ≡ x → (x || over a) ≡ true → 1 < length a → over a ≡ true
    not-one true p q h = let z = leb-true (length a) 1 p in absurd (omega arith)
    not-one false p q h = q

    go : (x : Bool) → fits a r ≡ x → 1 < cond x (length a) (sequence others r) → (1 < sequence others r → high (sequence others r) r ≡ true)
        → high (cond x (length a) (sequence others r)) r ≡ true
    go true f h later = fits-high a r (not-one (leb (length a) 1) refl (both_left (single a) (singles others) t) h) f
    go false f h later = later h

pub char-high : (r : List ℕ) → 1 < char_length r → high (char_length r) r ≡ true
unfolding utf8_char
char-high r h = high-sequence utf8_char refl r h
