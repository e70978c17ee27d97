-- The computed tests that each row of a shape is of the form of the kind that Records.antt decides, and that they are sound.
-- Assumes nothing.
use Rattle.std.specs.Prelude.{Bool, true, false, ◌&&◌, ◌||◌, not, List, [], ◌∷◌, ◌++◌, map, ◌⊎◌, ◌≡◌, refl, ℕ, zero, suc, ◌+◌, ◌≤◌, ◌<◌, T, eqb, ltb}
use Rattle.std.proofs.Math.Bool.{and-false}
use Rattle.std.proofs.Common.{append_assoc, inl, inr, sym, ap, ◌∙◌, subst, arith, eq-eqb, lt-ltb, ltb-true, ltb-false, eqb→eq}
use Rattle.text.proofs.Same.{differ}
use Rattle.text.proofs.Table.{first-of, second-of, or_cases, pair}
use Rattle.text.specs.Lists.{Some, here, there, some, all, has}
use Rattle.text.proofs.ListLaws.{some-sound, all-some, from_some}
use Rattle.num.specs.Value.{Value, largest, fitted}
use Rattle.num.specs.Bound.{bound_ok, size_ok, length_ok, is_bound}
use Rattle.num.proofs.ValueLaws.{Held, whole, lost, held}
use Rattle.own.specs.Law.{Sort, word, child}
use Rattle.own.specs.Kinds as kind
use Rattle.kinds.specs.Shape.{Part, Shape, nothing, never, part, ◌▸◌, ◌¦◌, many, number, fits, Spells, one_mark, one_part, stop, more, half_range}
use Rattle.kinds.specs.Shape as k
use Rattle.kinds.specs.Fields.{Fields, plain, low, among, wide, bounded, parameters, names, pairs, counted, halves, holds}
use Rattle.kinds.specs.Spelled.{forms_of, Spelled}
use Rattle.kinds.specs.Families as family
use Rattle.lexer.specs.Classes as class
use Rattle.grammar.proofs.Spelled.Rows.{Row, r_end, r_more, row-join, variants, variants-in}
use Rattle.grammar.proofs.Spelled.Inclusion.{dealt, row_in, atom_in, row-into}
use Rattle.grammar.proofs.Spelled.Decisions.{sure, free, row_sure, row-free}
use Rattle.grammar.specs.Records.Records.{Head, part_count, lone, sees, low_half, high_half}

-- What a head decided of w says: the rule of its kind, with the tokens in their roles.
abbrev pub SpelledAs : Head → ℕ → List Sort → Type 0
SpelledAs h n w = Spelled h.kind h.low h.high (dealt h.kind n w)

-- What holds of all rows of a shape holds of what it spells.
pub by_rows : (test : List Shape → Bool) (a : Shape) {G : Type 0} {w : List Sort} → T (all test (variants a)) → ((l : List Shape) → T (test l) → Row l w → G) → Spells a w → G
by_rows test a t f p = from_some (λ l x. f l x.0 x.1) (all-some test t (variants-in p))

-- ---- a row is of a form of its kind

-- The fields are of a sort that a test passes, and the row is in a row of the form.
unfoldable pub form_in : ℕ → ℕ → (Part → Bool) → (Fields → Bool) → List Shape → Bool
form_in K n ok test row = some (λ f. test f.fields && some (row_in (atom_in K n ok) row) (variants f.shape)) (forms_of K)

-- The number n is a part that passes this test.
abbrev pub Numbers : ℕ → (Part → Bool) → Type 0
Numbers n ok = (p : Part) → T (ok p) → T (fits p kind.Number (low_half n) (high_half n) class.DecLiteral)

module _ (K n : ℕ) (ok : Part → Bool) (numbers : Numbers n ok) where
  pub form-sound : (test : Fields → Bool) (l h : ℕ) {w : List Sort} → ((f : Fields) → T (test f) → T (holds f l h (dealt K n w)))
      → (row : List Shape) → T (form_in K n ok test row) → Row row w → Spelled K l h (dealt K n w)
  unfolding form_in
  form-sound test l h g row t r =
      some-sound (λ f. test f.fields && some (row_in (atom_in K n ok) row) (variants f.shape))
      (λ f u. record {
        fields = g f.fields (first-of (test f.fields) (some (row_in (atom_in K n ok) row) (variants f.shape)) u);
        shape = row-into K n ok numbers row f.shape (second-of (test f.fields) (some (row_in (atom_in K n ok) row) (variants f.shape)) u) r;
      })
      (forms_of K) t

-- No part is the number.
abbrev pub no_number : Part → Bool
no_number p = false

pub no-numbers : (n : ℕ) → Numbers n no_number
no-numbers n p t = absurd t

-- ---- the sorts of fields

-- Low and high are given.
unfoldable pub fixed : ℕ → ℕ → Fields → Bool
fixed l h plain = eqb l 0 && eqb h 0
fixed l h (low n) = eqb l n && eqb h 0
fixed l h (among ns) = has ns l && eqb h 0
fixed l h wide = false
fixed l h bounded = false
fixed l h (parameters n) = false
fixed l h names = false
fixed l h pairs = false

pub fixed-holds : (l h : ℕ) (w : List Sort) (f : Fields) → T (fixed l h f) → T (holds f l h w)
unfolding fixed holds
fixed-holds l h w plain t = t
fixed-holds l h w (low n) t = t
fixed-holds l h w (among ns) t = t
fixed-holds l h w wide t = absurd t
fixed-holds l h w bounded t = absurd t
fixed-holds l h w (parameters n) t = absurd t
fixed-holds l h w names t = absurd t
fixed-holds l h w pairs t = absurd t

-- Any number; a bound; parameters with this low; names; pairs.
pub data Count : Type 0 where
  any_number : Count
  a_bound : Count
  of_parameters : ℕ → Count
  of_names : Count
  of_pairs : Count

unfoldable pub counts : Count → Fields → Bool
counts x plain = false
counts x (low n) = false
counts x (among ns) = false
counts any_number wide = true
counts a_bound wide = false
counts (of_parameters m) wide = false
counts of_names wide = false
counts of_pairs wide = false
counts any_number bounded = false
counts a_bound bounded = true
counts (of_parameters m) bounded = false
counts of_names bounded = false
counts of_pairs bounded = false
counts any_number (parameters n) = false
counts a_bound (parameters n) = false
counts (of_parameters m) (parameters n) = eqb m n
counts of_names (parameters n) = false
counts of_pairs (parameters n) = false
counts any_number names = false
counts a_bound names = false
counts (of_parameters m) names = false
counts of_names names = true
counts of_pairs names = false
counts any_number pairs = false
counts a_bound pairs = false
counts (of_parameters m) pairs = false
counts of_names pairs = false
counts of_pairs pairs = true

-- What each says of low, high and the pieces.
unfoldable pub Says : Count → ℕ → ℕ → List Sort → Type 0
Says any_number l h w = T (halves l h)
Says a_bound l h w = T (halves l h) × T (is_bound (number l h))
Says (of_parameters m) l h w = (l ≡ m) × (h ≡ counted (kind.Parameter ∷ []) w)
Says of_names l h w = (l ≡ counted (kind.Name ∷ []) w) × (h ≡ 0)
Says of_pairs l h w = (l ≡ counted (kind.Name ∷ []) w) × (h ≡ counted family.patterns w)

equal : (a b c d : ℕ) → a ≡ b → c ≡ d → T (eqb a b && eqb c d)
equal a b c d e f = rw (eq-eqb a b e, eq-eqb c d f) tt

pub counts-hold : (x : Count) (l h : ℕ) (w : List Sort) → Says x l h w → (f : Fields) → T (counts x f) → T (holds f l h w)
unfolding counts Says holds
counts-hold x l h w s plain t = absurd t
counts-hold x l h w s (low n) t = absurd t
counts-hold x l h w s (among ns) t = absurd t
counts-hold any_number l h w s wide t = s
counts-hold a_bound l h w s wide t = absurd t
counts-hold (of_parameters m) l h w s wide t = absurd t
counts-hold of_names l h w s wide t = absurd t
counts-hold of_pairs l h w s wide t = absurd t
counts-hold any_number l h w s bounded t = absurd t
counts-hold a_bound l h w s bounded t = pair (halves l h) (is_bound (number l h)) s.0 s.1
counts-hold (of_parameters m) l h w s bounded t = absurd t
counts-hold of_names l h w s bounded t = absurd t
counts-hold of_pairs l h w s bounded t = absurd t
counts-hold any_number l h w s (parameters n) t = absurd t
counts-hold a_bound l h w s (parameters n) t = absurd t
counts-hold (of_parameters m) l h w s (parameters n) t = equal l n h (counted (kind.Parameter ∷ []) w) (s.0 ∙ eqb→eq m n t) s.1
counts-hold of_names l h w s (parameters n) t = absurd t
counts-hold of_pairs l h w s (parameters n) t = absurd t
counts-hold any_number l h w s names t = absurd t
counts-hold a_bound l h w s names t = absurd t
counts-hold (of_parameters m) l h w s names t = absurd t
counts-hold of_names l h w s names t = equal l (counted (kind.Name ∷ []) w) h 0 s.0 s.1
counts-hold of_pairs l h w s names t = absurd t
counts-hold any_number l h w s pairs t = absurd t
counts-hold a_bound l h w s pairs t = absurd t
counts-hold (of_parameters m) l h w s pairs t = absurd t
counts-hold of_names l h w s pairs t = absurd t
counts-hold of_pairs l h w s pairs t = equal l (counted (kind.Name ∷ []) w) h (counted family.patterns w) s.0 s.1

-- ---- numbers

-- The two halves of a 64-bit number,
pub halves_of : (n : ℕ) → n ≤ largest → T (halves (low_half n) (high_half n))
unfolding halves low_half high_half
halves_of n h =
    rw (lt-ltb (low_half n) half_range (omega arith), lt-ltb (high_half n) half_range (omega arith)) tt

-- which together hold it.
pub number_of : (n : ℕ) → number (low_half n) (high_half n) ≡ n
unfolding number low_half high_half
number_of n = omega arith

-- A test of all numbers below one, computed.
unfoldable pub all_below : (ℕ → Bool) → ℕ → Bool
all_below f zero = true
all_below f (suc m) = f m && all_below f m

pub below_all : (f : ℕ → Bool) (m : ℕ) → T (all_below f m) → (i : ℕ) → i < m → T (f i)
unfolding all_below
below_all f zero t i h = absurd (omega arith)
below_all f (suc m) t i h = go (ltb i m) refl (below_all f m (second-of (f m) (all_below f m) t) i)
  where
    go : (b : Bool) → ltb i m ≡ b → (i < m → T (f i)) → T (f i)
    go true e r = r (ltb-true i m e)
    go false e r =
        let l = ltb-false i m e in
        let q : m ≡ i = omega arith in
        subst (λ (x : ℕ). T (f x)) q (first-of (f m) (all_below f m) t)

-- A good bound is a bound, a good size is not 0, and neither is too large; nor is a good length.
pub good-bound : (n : ℕ) → bound_ok (fitted n) ≡ true → T (is_bound n) × (n ≤ largest)
unfolding bound_ok
good-bound n = go (held n)
  where
    go : {v : Value} → Held n v → bound_ok v ≡ true → T (is_bound n) × (n ≤ largest)
    go (whole h) e = (rw e tt, h)
    go (lost h) e = differ e

pub good-size : (n : ℕ) → size_ok (fitted n) ≡ true → (0 < n) × (n ≤ largest)
unfolding size_ok
good-size n = go n (held n)
  where
    go : (n : ℕ) {v : Value} → Held n v → size_ok v ≡ true → (0 < n) × (n ≤ largest)
    go zero (whole h) e = differ e
    go (suc m) (whole h) e = (omega arith, h)
    go m (lost h) e = differ e

pub good_length : (n : ℕ) → length_ok (fitted n) ≡ true → n ≤ largest
unfolding length_ok
good_length n = go (held n)
  where
    go : {v : Value} → Held n v → length_ok v ≡ true → n ≤ largest
    go (whole h) e = h
    go (lost h) e = differ e

-- ---- one part and no comma

-- The row has exactly m parts.
unfoldable pub has_parts : ℕ → List Shape → Bool
has_parts m [] = eqb m 0
has_parts m (nothing ∷ l) = false
has_parts m (never ∷ l) = false
has_parts m (k.mark cs ∷ l) = has_parts m l
has_parts zero (part p ∷ l) = false
has_parts (suc m) (part p ∷ l) = has_parts m l
has_parts m ((a ▸ b) ∷ l) = false
has_parts m ((a ¦ b) ∷ l) = false
has_parts m (many a ∷ l) = false

parts-append : (v w : List Sort) → part_count (v ++ w) ≡ part_count v + part_count w
unfolding part_count
parts-append [] w = omega arith
parts-append (word c ∷ v) w = parts-append v w
parts-append (child x l h c ∷ v) w = let e = parts-append v w in omega arith

pub row-parts : (m : ℕ) (l : List Shape) {w : List Sort} → T (has_parts m l) → Row l w → part_count w ≡ m
unfolding has_parts part_count
row-parts m [] t r_end = sym (eqb→eq m 0 t)
row-parts m (nothing ∷ l) t r = absurd t
row-parts m (never ∷ l) t r = absurd t
row-parts m (k.mark cs ∷ l) t (r_more (one_mark c h) r) = row-parts m l t r
row-parts zero (part p ∷ l) t r = absurd t
row-parts (suc m) (part p ∷ l) t (r_more (one_part x y h c i) r) = ap suc (row-parts m l t r)
row-parts m ((a ▸ b) ∷ l) t r = absurd t
row-parts m ((a ¦ b) ∷ l) t r = absurd t
row-parts m (many a ∷ l) t r = absurd t

-- The row is surely one part without a comma, or surely not.
unfoldable pub lone_row : List Shape → Bool
lone_row l = has_parts 1 l && free class.Comma l

unfoldable pub crowded_row : List Shape → Bool
crowded_row l = sure class.Comma l || has_parts 0 l

pub lone-sound : (l : List Shape) {w : List Sort} → T (lone_row l) → Row l w → lone w ≡ true
unfolding lone_row lone
lone-sound l t r =
    rw (row-parts 1 l (first-of (has_parts 1 l) (free class.Comma l) t) r, row-free class.Comma (second-of (has_parts 1 l) (free class.Comma l) t) r) refl

pub crowded-sound : (l : List Shape) {w : List Sort} → T (crowded_row l) → Row l w → lone w ≡ false
unfolding crowded_row lone
crowded-sound l {w} t r = go (or_cases (sure class.Comma l) (has_parts 0 l) t)
  where
    go : T (sure class.Comma l) ⊎ T (has_parts 0 l) → (eqb (part_count w) 1 && not (sees class.Comma w)) ≡ false
    go (inl u) = rw (row_sure class.Comma u r) (and-false (eqb (part_count w) 1))
    go (inr u) = rw (row-parts 0 l u r) refl

-- ---- the first repetition of a row, none or once and again

unfoldable pub unroll : List Shape → List (List Shape)
unroll [] = [] ∷ []
unroll (nothing ∷ l) = map (λ m. nothing ∷ m) (unroll l)
unroll (never ∷ l) = map (λ m. never ∷ m) (unroll l)
unroll (k.mark cs ∷ l) = map (λ m. k.mark cs ∷ m) (unroll l)
unroll (part p ∷ l) = map (λ m. part p ∷ m) (unroll l)
unroll ((a ▸ b) ∷ l) = map (λ m. (a ▸ b) ∷ m) (unroll l)
unroll ((a ¦ b) ∷ l) = map (λ m. (a ¦ b) ∷ m) (unroll l)
unroll (many a ∷ l) = l ∷ map (λ x. x ++ (many a ∷ l)) (variants a)

some-cons : {a : Shape} {v w : List Sort} {L : List (List Shape)} → Spells a v → Some (λ l. Row l w) L → Some (λ l. Row l (v ++ w)) (map (λ m. a ∷ m) L)
some-cons p (here r) = here (r_more p r)
some-cons p (there s) = there (some-cons p s)

some-again : {m : List Shape} {v w : List Sort} {L : List (List Shape)} → Some (λ l. Row l v) L → Row m w → Some (λ l. Row l (v ++ w)) (map (λ x. x ++ m) L)
some-again (here r) q = here (row-join r q)
some-again (there s) q = there (some-again s q)

repeats : {a : Shape} {l : List Shape} {v w : List Sort} → Spells (many a) v → Row l w → Some (λ m. Row m (v ++ w)) (l ∷ map (λ x. x ++ (many a ∷ l)) (variants a))
repeats stop r = here r
repeats {a} {l} {w = u} (more {v = x} {w = y} p q) r =
    there (subst (λ (z : List Sort). Some (λ m. Row m z) (map (λ z. z ++ (many a ∷ l)) (variants a))) (sym (append_assoc x y u)) (some-again (variants-in p) (r_more q r)))

unrolled : (l : List Shape) {w : List Sort} → Row l w → Some (λ m. Row m w) (unroll l)
unfolding unroll
unrolled [] r_end = here r_end
unrolled (nothing ∷ l) (r_more p r) = some-cons p (unrolled l r)
unrolled (never ∷ l) (r_more p r) = some-cons p (unrolled l r)
unrolled (k.mark cs ∷ l) (r_more p r) = some-cons p (unrolled l r)
unrolled (part x ∷ l) (r_more p r) = some-cons p (unrolled l r)
unrolled ((a ▸ b) ∷ l) (r_more p r) = some-cons p (unrolled l r)
unrolled ((a ¦ b) ∷ l) (r_more p r) = some-cons p (unrolled l r)
unrolled (many a ∷ l) (r_more p r) = repeats p r

-- The test passes at a row, or at all rows that it unrolls to.
unfoldable pub judge : (List Shape → Bool) → List Shape → Bool
judge test l = test l || all test (unroll l)

pub judge-sound : (test : List Shape → Bool) (l : List Shape) {w : List Sort} {G : Type 0} → T (judge test l) → ((m : List Shape) → T (test m) → Row m w → G) → Row l w → G
unfolding judge
judge-sound test l {w} {G} t f r = go (or_cases (test l) (all test (unroll l)) t)
  where
    go : T (test l) ⊎ T (all test (unroll l)) → G
    go (inl u) = f l u r
    go (inr u) = from_some (λ m x. f m x.0 x.1) (all-some test u (unrolled l r))
