-- Which tokens are marks of the record above them.
-- Assumes nothing.
use Rattle.std.proofs.Common.{◌≡◌, ℕ, suc, ◌-◌, ◌<◌, ◌≤◌, Bool, true, false, cond, not, ◌&&◌, T, eqb, ltb, List, [], ◌∷◌, sym, refl, ◌∙◌, arith, ltb→lt, eq-eqb, ne_eqb}
use Rattle.text.proofs.Same.{differ}
use Rattle.text.proofs.Table.{first-of, second-of, not-true}
use Rattle.text.specs.Lists.{has}
use Rattle.kinds.specs.Families as family
use Rattle.lexer.specs.Classes as t
use Rattle.grammar.specs.Records.Records.{aMark, asName, as_number, role_of}
use Rattle.own.specs.Kinds as kind
use Rattle.parse.proofs.Rule.ByClass.{where-passed, and_both, run, run_at, has-past}
use Rattle.parse.specs.Contract.{callees, opening_class, closing_class}
use Rattle.parse.specs.declared.token.Brackets.{Brackets}
use Rattle.parse.specs.declared.token.Brackets.TheVariants as brackets

-- The role of a token in a record of kind K, by what is known of the class.
role-by : (K c : ℕ) (a b d : Bool) → has t.identifiers c ≡ a → has callees c ≡ b → eqb c t.DecLiteral ≡ d
    → role_of K c ≡ cond (has family.names_kept K) (cond a asName aMark) (cond (eqb K kind.Call) (cond b asName (cond d as_number aMark)) aMark)
unfolding role_of
role-by K c a b d p q r = λ i. cond (has family.names_kept K) (cond (p i) asName aMark) (cond (eqb K kind.Call) (cond (q i) asName (cond (r i) as_number aMark)) aMark)

pub both-marks : (a b : Bool) → cond a aMark (cond b aMark aMark) ≡ aMark
both-marks true b = refl
both-marks false true = refl
both-marks false false = refl

-- Classes that no record of a name, a jet or a number has.
abbrev pub mere : ℕ → Bool
mere c = not (has t.identifiers c) && (not (has callees c) && not (eqb c t.DecLiteral))

mere-mark : (K c : ℕ) → T (mere c) → role_of K c ≡ aMark
mere-mark K c h =
    let a = not-true (has t.identifiers c) (first-of (not (has t.identifiers c)) _ h) in
    let g = second-of (not (has t.identifiers c)) (not (has callees c) && not (eqb c t.DecLiteral)) h in
    let b = not-true (has callees c) (first-of (not (has callees c)) (not (eqb c t.DecLiteral)) g) in
    let d = not-true (eqb c t.DecLiteral) (second-of (not (has callees c)) (not (eqb c t.DecLiteral)) g) in
    role-by K c false false false a b d ∙ both-marks (has family.names_kept K) (eqb K kind.Call)

-- Classes of marks: keywords and signs stand before the numbers.
abbrev pub sign : ℕ → Bool
sign c = ltb 0 c && ltb c t.DecLiteral

signs-mere : T (run mere t.DecLiteral 0)
unfolding has
signs-mere = tt

-- A sign is a mark of every record.
pub sign-mark : (K c : ℕ) → T (sign c) → role_of K c ≡ aMark
sign-mark K c h = mere-mark K c (run_at mere t.DecLiteral 0 c signs-mere (omega arith) (omega (arith, ltb→lt c t.DecLiteral (second-of (ltb 0 c) (ltb c t.DecLiteral) h))))

pub sign_pos : (c : ℕ) → T (sign c) → 0 < c
sign_pos c h = ltb→lt 0 c (first-of (ltb 0 c) (ltb c t.DecLiteral) h)

-- Brackets are signs.
pub opens-sign : (b : Brackets) → T (sign (opening_class b))
opens-sign brackets.Round = tt
opens-sign brackets.Square = tt

pub closes-sign : (b : Brackets) → T (sign (closing_class b))
closes-sign brackets.Round = tt
closes-sign brackets.Square = tt

-- Kinds of records that make no record of a token: none of those whose names are records, and no call.
abbrev other_than : List ℕ → ℕ → Bool
other_than [] K = true
other_than (k ∷ l) K = not (eqb K k) && other_than l K

abbrev pub keeping : ℕ → Bool
keeping K = other_than family.names_kept K && not (eqb K kind.Call)

other-has : (l : List ℕ) (K : ℕ) → T (other_than l K) → has l K ≡ false
unfolding has
other-has [] K h = refl
other-has (k ∷ l) K h =
    let n = not-true (eqb K k) (first-of (not (eqb K k)) (other_than l K) h) in
    rw (ne_eqb k K (λ e. differ (sym n ∙ eq-eqb K k (sym e)))) (other-has l K (second-of (not (eqb K k)) (other_than l K) h))

pub keeping-mark : (K c : ℕ) → T (keeping K) → role_of K c ≡ aMark
keeping-mark K c h =
    let p = other-has family.names_kept K (first-of (other_than family.names_kept K) (not (eqb K kind.Call)) h) in
    let q = not-true (eqb K kind.Call) (second-of (other_than family.names_kept K) (not (eqb K kind.Call)) h) in
    role-by K c (has t.identifiers c) (has callees c) (eqb c t.DecLiteral) refl refl refl
    ∙ (λ i. cond (p i) (cond (has t.identifiers c) asName aMark) (cond (q i) (cond (has callees c) asName (cond (eqb c t.DecLiteral) as_number aMark)) aMark))

-- The kinds from a to b do so, by one test.
pub keeps-between : (a b k : ℕ) → T (run keeping (suc b - a) a) → a ≤ k → k ≤ b → T (keeping k)
keeps-between a b k h low high = run_at keeping (suc b - a) a k h low (omega arith)

-- Words of a call: the classes between `List` and `bool` are the words of FUNCTION_RESERVED, the macros and the booleans.
abbrev pub a_word : ℕ → Bool
a_word c = ltb t.List c && ltb c t.bool

pub word-mark : (c : ℕ) → T (a_word c) → role_of kind.Call c ≡ aMark
unfolding has
word-mark c h =
    let u = where-passed (λ i. not (has callees i) && not (eqb i t.DecLiteral)) a_word tt (λ c g u. rw (has-past callees c tt g, ne_eqb c t.DecLiteral (λ e. omega arith)) tt) c h in
    let p = and_both (not (has callees c)) (not (eqb c t.DecLiteral)) u in
    role-by kind.Call c (has t.identifiers c) false false refl (not-true (has callees c) p.0) (not-true (eqb c t.DecLiteral) p.1)
