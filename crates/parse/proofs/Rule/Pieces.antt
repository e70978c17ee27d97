-- What rules look at in the pieces of a shape, where pieces stand side by side; and tokens that are marks of every record.
-- Assumes nothing.
use Rattle.std.proofs.Common.{◌≡◌, ℕ, suc, ◌+◌, ◌-◌, Bool, true, false, cond, not, ◌||◌, T, ltb, List, [], ◌∷◌, ◌++◌, refl, ap, ◌∙◌, ap₂, arith, ltb→lt}
use Rattle.std.proofs.Math.Bool.{or-false}
use Rattle.std.proofs.lemmas.Bool.{or_right}
use Rattle.text.proofs.Same.{differ}
use Rattle.text.proofs.Table.{second-of, is_true, not-true}
use Rattle.text.specs.Lists.{has, span, count}
use Rattle.own.specs.Tree as own
use Rattle.own.specs.Tree.{Items, mark, sub}
use Rattle.own.specs.Law.{Sort, word, child, sorts}
use Rattle.own.specs.Kinds as kind
use Rattle.kinds.specs.Families as family
use Rattle.lexer.specs.Classes as t
use Rattle.grammar.specs.Records.Records.{Role, aMark, asName, as_number, role_of, placed, arranged, sees, name_count}
pub use Rattle.grammar.proofs.Spelled.Decisions.{sees-append, counted-append}
use Rattle.parse.specs.Contract.{TypeKind, PatternKind, ExprKind}
use Rattle.parse.proofs.Rule.ByClass.{run_at}
use Rattle.parse.proofs.Rule.Marks.{sign}

-- How many names there are,
pub name_count-append : (w v : List Sort) → name_count (w ++ v) ≡ name_count w + name_count v
unfolding name_count
name_count-append [] v = omega arith
name_count-append (word d ∷ w) v = omega (arith, name_count-append w v)
name_count-append (child k l h d ∷ w) v = name_count-append w v

-- and whether a class is seen, in two parts: the second may add nothing,
pub unseen-append : (c : ℕ) (w v : List Sort) {b : Bool} → sees c w ≡ b → sees c v ≡ false → sees c (w ++ v) ≡ b
unseen-append c w v e f = sees-append c w v ∙ ap (λ (b : Bool). sees c w || b) f ∙ or-false (sees c w) ∙ e

-- or either may have it;
pub seen_first : (c : ℕ) (w v : List Sort) → sees c w ≡ true → sees c (w ++ v) ≡ true
seen_first c w v e = sees-append c w v ∙ ap (λ (b : Bool). b || sees c v) e

pub seen-second : (c : ℕ) (w v : List Sort) → sees c v ≡ true → sees c (w ++ v) ≡ true
seen-second c w v e = sees-append c w v ∙ or_right (sees c w) (sees c v) e

-- and in one token.
pub name_count-name : (d : ℕ) (w : List Sort) → has t.identifiers d ≡ true → name_count (word d ∷ w) ≡ 1 + name_count w
unfolding name_count
name_count-name d w h = ap (λ (b : Bool). cond b 1 0 + name_count w) h

pub name_count-other : (d : ℕ) (w : List Sort) → has t.identifiers d ≡ false → name_count (word d ∷ w) ≡ name_count w
unfolding name_count
name_count-other d w h = let e : ◌≡◌ {A = ℕ} (cond (has t.identifiers d) 1 0) 0 = ap (λ (b : Bool). cond b 1 0) h in omega arith

-- Every token among the pieces is a mark of a record of kind K.
abbrev pub Marks : ℕ → List Sort → Type 0
Marks K [] = Unit {0}
Marks K (word c ∷ w) = (role_of K c ≡ aMark) × Marks K w
Marks K (child k l h c ∷ w) = Marks K w

pub marks-append : (K : ℕ) (w v : List Sort) → Marks K w → Marks K v → Marks K (w ++ v)
marks-append K [] v p q = q
marks-append K (word d ∷ w) v p q = (p.0, marks-append K w v p.1 q)
marks-append K (child k l h d ∷ w) v p q = marks-append K w v p q

-- Then the record keeps them all, and the other way round.
pub arranged-marks : (K n : ℕ) (is : Items) → Marks K (sorts is) → arranged K n is ≡ is
unfolding arranged placed
arranged-marks K n own.none o = refl
arranged-marks K n (mark t r) o = ap₂ (λ (ρ : Role) (u : Items). placed ρ n t u) o.0 (arranged-marks K n r o.1)
arranged-marks K n (sub k l h js r) o = ap (sub k l h js) (arranged-marks K n r o)

abbrev rest : Items → Items
rest own.none = own.none
rest (mark t r) = r
rest (sub k l h js r) = r

abbrev marked : Items → Bool
marked own.none = false
marked (mark t r) = true
marked (sub k l h js r) = false

pub marks-arranged : (K n : ℕ) (is : Items) → arranged K n is ≡ is → Marks K (sorts is)
unfolding arranged placed
marks-arranged K n own.none e = tt
marks-arranged K n (mark t r) e = go (role_of K t.class) refl e (λ f. marks-arranged K n r f)
  where
    go : (ρ : Role) → role_of K t.class ≡ ρ → placed ρ n t (arranged K n r) ≡ mark t r → (arranged K n r ≡ r → Marks K (sorts r)) → (role_of K t.class ≡ aMark) × Marks K (sorts r)
    go aMark q f again = (q, again (ap rest f))
    go asName q f again = absurd (differ (ap marked f))
    go as_number q f again = absurd (differ (ap marked f))
marks-arranged K n (sub k l h js r) e = marks-arranged K n r (ap rest e)

-- Patterns are counted as patterns, types and expressions are not.
pub pattern-counted : (k : ℕ) → PatternKind k → has family.patterns k ≡ true
unfolding has span count
pattern-counted k p = is_true (has family.patterns k) (run_at (λ i. has family.patterns i) (suc kind.ArrayPattern - kind.IdentifierPattern) kind.IdentifierPattern k tt p.0 (omega (arith, p.1)))

pub type-uncounted : (k : ℕ) → TypeKind k → has family.patterns k ≡ false
unfolding has span count
type-uncounted k p = not-true (has family.patterns k) (run_at (λ i. not (has family.patterns i)) (suc kind.ListType - kind.Alias) kind.Alias k tt p.0 (omega (arith, p.1)))

pub expr-uncounted : (k : ℕ) → ExprKind k → has family.patterns k ≡ false
unfolding has span count
expr-uncounted k p = not-true (has family.patterns k) (run_at (λ i. not (has family.patterns i)) (suc kind.Call - kind.Block) kind.Block k tt p.0 (omega (arith, p.1)))

-- A sign is no name.
pub sign-no-name : (c : ℕ) → T (sign c) → has t.identifiers c ≡ false
unfolding has
sign-no-name c h = not-true (has t.identifiers c) (run_at (λ i. not (has t.identifiers i)) t.DecLiteral 0 c tt (omega arith) (omega (arith, ltb→lt c t.DecLiteral (second-of (ltb 0 c) (ltb c t.DecLiteral) h))))
