-- The laws of the ways in which a shape decides the head of its record: always one kind, alone or not, by the class of its token, a pattern. Others
-- stand in CountedLaws, NameLaws, BlockLaws and MatchLaws.
-- Assumes nothing.
use Rattle.std.specs.Prelude.{Bool, ◌&&◌, ◌||◌, not, cond, List, [], ◌∷◌, ◌⊎◌, ◌≡◌, ℕ, eqb}
use Rattle.std.proofs.Math.Bool.{true, false}
use Rattle.std.proofs.Common.{inl, inr, sym}
use Rattle.std.proofs.Math.Path.{subst}
use Rattle.std.proofs.Math.Dec.{T}
use Rattle.text.specs.Ascii.{ascii}
use Rattle.text.specs.Same.{same}
use Rattle.text.proofs.Table.{first-of, second-of, or_cases}
use Rattle.text.specs.Lists.{all}
use Rattle.own.specs.Law.{Sort}
use Rattle.own.specs.Kinds as kind
use Rattle.kinds.specs.Shape.{Shape, nothing, never, part, ◌▸◌, ◌¦◌, many, Spells}
use Rattle.kinds.specs.Shape as k
use Rattle.kinds.specs.Rules.{the}
use Rattle.lexer.specs.Classes as class
use Rattle.grammar.proofs.Spelled.Rows.{Row, variants}
use Rattle.grammar.proofs.Spelled.Inclusion.{dealt}
use Rattle.grammar.proofs.Spelled.Decisions.{row-opening, row_opened}
use Rattle.grammar.proofs.Spelled.FormTests.{SpelledAs, by_rows, form_in, form-sound, no_number, no-numbers, fixed, fixed-holds, Count, counts, Says, counts-hold}
use Rattle.grammar.proofs.Spelled.FormTests.{lone_row, crowded_row, lone-sound, crowded-sound, judge, judge-sound}
use Rattle.grammar.specs.Records.Records.{Head, opening, lone, pattern_name_head}
use Rattle.grammar.specs.Records.Records as rec

-- A row begins with one of some classes, and passes a test with each.
unfoldable pub opened : (ℕ → List Shape → Bool) → List Shape → Bool
opened f [] = false
opened f (nothing ∷ l) = false
opened f (never ∷ l) = false
opened f (k.mark cs ∷ l) = all (λ c. f c (the c ∷ l)) cs
opened f (part p ∷ l) = false
opened f ((a ▸ b) ∷ l) = false
opened f ((a ¦ b) ∷ l) = false
opened f (many a ∷ l) = false

pub opened-sound : (f : ℕ → List Shape → Bool) (l : List Shape) {w : List Sort} {G : Type 0}
    → T (opened f l) → ((c : ℕ) (m : List Shape) → T (f c m) → opening w ≡ c → Row m w → G) → Row l w → G
unfolding opened
opened-sound f [] t g r = absurd t
opened-sound f (nothing ∷ l) t g r = absurd t
opened-sound f (never ∷ l) t g r = absurd t
opened-sound f (k.mark cs ∷ l) t g r =
    let o = row_opened (λ c. f c (the c ∷ l)) cs t r in
    g o.class (the o.class ∷ l) o.passes (row-opening o.class o.spelled) o.spelled
opened-sound f (part p ∷ l) t g r = absurd t
opened-sound f ((a ▸ b) ∷ l) t g r = absurd t
opened-sound f ((a ¦ b) ∷ l) t g r = absurd t
opened-sound f (many a ∷ l) t g r = absurd t

module _ (n : ℕ) where
  -- The row is of the form of a head whose low and high are given.
  unfoldable pub exact_in : Head → List Shape → Bool
  exact_in h row = form_in h.kind n no_number (fixed h.low h.high) row

  pub exact-sound : (h : Head) (row : List Shape) {w : List Sort} → T (exact_in h row) → Row row w → SpelledAs h n w
  unfolding exact_in
  exact-sound h row {w} t r =
      form-sound h.kind n no_number (no-numbers n) (fixed h.low h.high) h.low h.high (fixed-holds h.low h.high (dealt h.kind n w)) row t r

  -- The same where low and high are counted or hold a number.
  pub count-sound : (x : Count) (h : Head) (row : List Shape) {w : List Sort} → Says x h.low h.high (dealt h.kind n w)
      → T (form_in h.kind n no_number (counts x) row) → Row row w → SpelledAs h n w
  count-sound x h row {w} s t r =
      form-sound h.kind n no_number (no-numbers n) (counts x) h.low h.high (counts-hold x h.low h.high (dealt h.kind n w) s) row t r

  -- ---- always of one kind
  pub always-law : (j : ℕ) (a : Shape) {w : List Sort} → T (all (exact_in (rec.plain j)) (variants a)) → Spells a w → SpelledAs (rec.plain j) n w
  always-law j a t p = by_rows (exact_in (rec.plain j)) a t (λ l u r. exact-sound (rec.plain j) l u r) p

  -- ---- one part and no comma, or not
  unfoldable pub lonely_row : ℕ → ℕ → List Shape → Bool
  lonely_row i j row = (lone_row row && exact_in (rec.plain i) row) || (crowded_row row && exact_in (rec.plain j) row)

  lonely-row : (i j : ℕ) (row : List Shape) {w : List Sort} → T (lonely_row i j row) → Row row w → SpelledAs (cond (lone w) (rec.plain i) (rec.plain j)) n w
  unfolding lonely_row
  lonely-row i j row {w} t r = go (or_cases (lone_row row && exact_in (rec.plain i) row) (crowded_row row && exact_in (rec.plain j) row) t)
    where
      go : T (lone_row row && exact_in (rec.plain i) row) ⊎ T (crowded_row row && exact_in (rec.plain j) row) → SpelledAs (cond (lone w) (rec.plain i) (rec.plain j)) n w
      go (inl u) = rw (lone-sound row (first-of (lone_row row) (exact_in (rec.plain i) row) u) r) (exact-sound (rec.plain i) row (second-of (lone_row row) (exact_in (rec.plain i) row) u) r)
      go (inr u) = rw (crowded-sound row (first-of (crowded_row row) (exact_in (rec.plain j) row) u) r) (exact-sound (rec.plain j) row (second-of (crowded_row row) (exact_in (rec.plain j) row) u) r)

  pub lonely-law : (i j : ℕ) (a : Shape) {w : List Sort} → T (all (judge (lonely_row i j)) (variants a)) → Spells a w → SpelledAs (cond (lone w) (rec.plain i) (rec.plain j)) n w
  lonely-law i j a t p = by_rows (judge (lonely_row i j)) a t (λ l u r. judge-sound (lonely_row i j) l u (λ m x s. lonely-row i j m x s) r) p

  -- ---- by the class of its token: a literal, a name of a type
  unfoldable pub class_row : (ℕ → Head) → ℕ → List Shape → Bool
  class_row f c row = exact_in (f c) row

  pub class-law : (f : ℕ → Head) (a : Shape) {w : List Sort} → T (all (opened (class_row f)) (variants a)) → Spells a w → SpelledAs (f (opening w)) n w
  unfolding class_row
  class-law f a {w} t p =
      by_rows (opened (class_row f)) a t (λ l u r. opened-sound (class_row f) l u (λ c m x e s. subst (λ (y : ℕ). SpelledAs (f y) n w) (sym e) (exact-sound (f c) m x s)) r) p

  -- ---- a pattern that is a name
  unfoldable pub pattern_row : ℕ → List Shape → Bool
  pattern_row c row = exact_in (rec.plain kind.IdentifierPattern) row && (not (eqb c class.Ident) || exact_in (rec.plain kind.IgnorePattern) row)

  pattern-row : (text : List ℕ) (c : ℕ) (row : List Shape) {w : List Sort} → T (pattern_row c row) → Row row w → SpelledAs (pattern_name_head text c) n w
  unfolding pattern_row pattern_name_head
  pattern-row text c row {w} t r =
      go (eqb c class.Ident) (same text (ascii "_")) (first-of (exact_in (rec.plain kind.IdentifierPattern) row) (not (eqb c class.Ident) || exact_in (rec.plain kind.IgnorePattern) row) t) (second-of (exact_in (rec.plain kind.IdentifierPattern) row) (not (eqb c class.Ident) || exact_in (rec.plain kind.IgnorePattern) row) t)
    where
      go : (a b : Bool) → T (exact_in (rec.plain kind.IdentifierPattern) row) → T (not a || exact_in (rec.plain kind.IgnorePattern) row) → SpelledAs (cond (a && b) (rec.plain kind.IgnorePattern) (rec.plain kind.IdentifierPattern)) n w
      go true true p q = exact-sound (rec.plain kind.IgnorePattern) row q r
      go true false p q = exact-sound (rec.plain kind.IdentifierPattern) row p r
      go false b p q = exact-sound (rec.plain kind.IdentifierPattern) row p r

  pub pattern-law : (text : List ℕ) (a : Shape) {w : List Sort} → T (all (opened pattern_row) (variants a)) → Spells a w → SpelledAs (pattern_name_head text (opening w)) n w
  pattern-law text a {w} t p = by_rows (opened pattern_row) a t (λ l u r. opened-sound pattern_row l u (λ c m x e s. subst (λ (y : ℕ). SpelledAs (pattern_name_head text y) n w) (sym e) (pattern-row text c m x s)) r) p
