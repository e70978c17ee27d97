-- Laws by a test that antt computes over the classes, and past them: no row of grammar's table has a case there.
-- Assumes nothing.
use Rattle.std.proofs.Common.{◌≡◌, ℕ, zero, suc, ◌+◌, ◌<◌, ◌≤◌, Bool, true, false, not, ◌&&◌, ◌||◌, T, eqb, ltb, ◌⊎◌, inl, inr, List, [], ◌∷◌, get_or, sym, refl, ◌∙◌, subst, arith, eqb→eq, ltb→lt, ltb-false, ltb-true, eq-eqb, ne_eqb}
use Rattle.text.proofs.Same.{differ}
use Rattle.text.proofs.Table.{first-of, second-of, implied}
use Rattle.text.specs.Lists.{has}
use Rattle.theory.specs.Grammar.{Case, on, Row, blank, look, row}
use Rattle.theory.specs.Machine.{choose}
use Rattle.grammar.specs.Shapes.Tables.{table}
use Rattle.lexer.specs.Classes as t

-- The first number past the classes.
abbrev pub past_classes : ℕ
past_classes = suc t.last

-- The n numbers from a on pass the test.
abbrev pub run : (ℕ → Bool) → ℕ → ℕ → Bool
run f zero a = true
run f (suc n) a = f a && run f n (suc a)

pub run_at : (f : ℕ → Bool) (n a c : ℕ) → T (run f n a) → a ≤ c → c < a + n → T (f c)
run_at f zero a c t l h = absurd (omega arith)
run_at f (suc n) a c t l h = go (eqb a c) refl (first-of (f a) (run f n (suc a)) t)
    (λ ne. run_at f n (suc a) c (second-of (f a) (run f n (suc a)) t) (omega arith) (omega arith))
  where
    go : (b : Bool) → eqb a c ≡ b → T (f a) → ((a ≡ c → ⊥) → T (f c)) → T (f c)
    go true e u r = subst (λ (y : ℕ). T (f y)) (eqb→eq a c (rw e tt)) u
    go false e u r = r (λ i. differ (sym e ∙ eq-eqb a c i))

-- What holds at each class, by one test.
pub sweep : (f : ℕ → Bool) → T (run f past_classes 0) → (c : ℕ) → c < past_classes → T (f c)
sweep f t c h = run_at f past_classes 0 c t (omega arith) (omega arith)

-- Two functions that agree at the classes, by one test, and past them.
pub agree : (f g : ℕ → ℕ) → T (run (λ c. eqb (f c) (g c)) past_classes 0) → ((c : ℕ) → past_classes ≤ c → f c ≡ g c) → (c : ℕ) → f c ≡ g c
agree f g t past c = go (ltb c past_classes) refl
  where
    go : (b : Bool) → ltb c past_classes ≡ b → f c ≡ g c
    go true e = eqb→eq (f c) (g c) (sweep (λ c. eqb (f c) (g c)) t c (ltb-true c past_classes e))
    go false e = past c (ltb-false c past_classes e)

-- What holds where g passes, by one test at the classes, and past them.
pub where-passed : (f g : ℕ → Bool) → T (run (λ c. not (g c) || f c) past_classes 0) → ((c : ℕ) → past_classes ≤ c → T (g c) → T (f c)) → (c : ℕ) → T (g c) → T (f c)
where-passed f g t past c h = go (ltb c past_classes) refl
  where
    go : (b : Bool) → ltb c past_classes ≡ b → T (f c)
    go true e = implied (g c) (f c) (sweep (λ c. not (g c) || f c) t c (ltb-true c past_classes e)) h
    go false e = past c (ltb-false c past_classes e) h

-- Where f does not pass g does, by one test at the classes, and past them.
pub either-passed : (f g : ℕ → Bool) → T (run (λ c. f c || g c) past_classes 0) → ((c : ℕ) → past_classes ≤ c → T (g c)) → (c : ℕ) → T (f c) ⊎ T (g c)
either-passed f g t past c = go (ltb c past_classes) refl
  where
    split : (a b : Bool) → T (a || b) → T a ⊎ T b
    split true b u = inl tt
    split false b u = inr u

    go : (b : Bool) → ltb c past_classes ≡ b → T (f c) ⊎ T (g c)
    go true e = split (f c) (g c) (sweep (λ c. f c || g c) t c (ltb-true c past_classes e))
    go false e = inr (past c (ltb-false c past_classes e))

-- Both tests of a pair pass.
pub and_both : (a b : Bool) → T (a && b) → T a × T b
and_both a b t = (first-of a b t, second-of a b t)

-- The keys of cases, of a row, and of the rows of a table are classes.
abbrev pub low_keys : List Case → Bool
low_keys [] = true
low_keys (on k i ∷ l) = ltb k past_classes && low_keys l

abbrev pub low_rows : List Row → Bool
low_rows [] = true
low_rows (r ∷ g) = low_keys r.cases && low_rows g

pub look-past : (l : List Case) (d c : ℕ) → T (low_keys l) → past_classes ≤ c → look l d c ≡ d
unfolding look
look-past [] d c t h = refl
look-past (on k i ∷ l) d c t h =
    let lt = ltb→lt k past_classes (first-of (ltb k past_classes) (low_keys l) t) in
    rw (look, ne_eqb c k (λ e. omega arith)) (look-past l d c (second-of (ltb k past_classes) (low_keys l) t) h)

low-row : (g : List Row) (A : ℕ) → T (low_rows g) → T (low_keys (get_or g A blank).cases)
unfolding blank
low-row [] A t = tt
low-row (r ∷ g) zero t = first-of (low_keys r.cases) (low_rows g) t
low-row (r ∷ g) (suc A) t = low-row g A (second-of (low_keys r.cases) (low_rows g) t)

pub low-table : T (low_rows table)
unfolding table
low-table = tt

-- Past the classes every row chooses what it has for any other class.
pub beyond : (A c : ℕ) → past_classes ≤ c → choose table A c ≡ (row table A).other
unfolding choose row
beyond A c h = look-past (row table A).cases (row table A).other c (low-row table A low-table) h

-- A number past the classes is in no list of classes.
abbrev pub low_all : List ℕ → Bool
low_all [] = true
low_all (k ∷ l) = ltb k past_classes && low_all l

pub has-past : (l : List ℕ) (c : ℕ) → T (low_all l) → past_classes ≤ c → has l c ≡ false
unfolding has
has-past [] c t h = refl
has-past (k ∷ l) c t h =
    let lt = ltb→lt k past_classes (first-of (ltb k past_classes) (low_all l) t) in
    rw (ne_eqb k c (λ e. omega arith)) (has-past l c (second-of (ltb k past_classes) (low_all l) t) h)
