-- What grammar's table chooses: which classes lead to an alternative, and which alternative a class leads to.
-- Assumes nothing.
use Rattle.std.proofs.Common.{T_not, subst, ◌≡◌, ℕ, Bool, true, false, not, ◌||◌, T, eqb, ltb, ◌<◌, ◌≤◌, zero, suc, length, arith, List, [], ◌∷◌, sym, refl, ap, ◌∙◌, eqb→eq, eq-eqb, ne_eqb, ltb→lt}
use mathlib.Core.Option.{Option, none, some}
use native.Mathlib.Decide.{dec_lt}
use Rattle.std.proofs.Math.ListN.{get_elem?}
use Rattle.text.proofs.Table.{is_true, not-true}
use Rattle.theory.specs.Grammar.{Sym, tok, nt, Case, on, look, row, alt, pick}
use Rattle.theory.specs.Machine.{choose, expand}
use Rattle.theory.specs.Ebnf as shape
use Rattle.theory.specs.Ebnf.{sort_of}
use Rattle.theory.specs.Same.{ex}
use Rattle.grammar.specs.Shapes.Tables.{means, table}
use Rattle.parse.proofs.Rule.ByClass.{past_classes, run, where-passed, beyond}

-- Where the table chooses the alternative i of A, the test f passes: one computation.
pub where-chosen : (A i : ℕ) (f : ℕ → Bool) → T (not (eqb (row table A).other i)) → T (run (λ c. not (eqb (choose table A c) i) || f c) past_classes 0) → (c : ℕ) → choose table A c ≡ i → T (f c)
where-chosen A i f o t c e =
    where-passed f (λ c. eqb (choose table A c) i) t (λ c h u. absurd (T_not (eqb (row table A).other i) o (subst (λ n. T (eqb n i)) (beyond A c h) u))) c (rw (eq-eqb (choose table A c) i e) tt)

-- Where only one class leads to it, that class stands there.
pub only-class : (A i k : ℕ) → T (not (eqb (row table A).other i)) → T (run (λ c. not (eqb (choose table A c) i) || eqb c k) past_classes 0) → (c : ℕ) → choose table A c ≡ i → c ≡ k
only-class A i k o t c e = eqb→eq c k (where-chosen A i (λ a. eqb a k) o t c e)

-- The alternative is this one class.
abbrev pub alone : Option (List Sym) → ℕ → Bool
alone none c = false
alone (some []) c = false
alone (some (nt A ∷ l)) c = false
alone (some (tok d ∷ [])) c = eqb d c
alone (some (tok d ∷ a ∷ l)) c = false

pub is-alone : (o : Option (List Sym)) (c : ℕ) → T (alone o c) → o ≡ some (tok c ∷ [])
is-alone none c t = absurd t
is-alone (some []) c t = absurd t
is-alone (some (nt A ∷ l)) c t = absurd t
is-alone (some (tok d ∷ [])) c t = ap (λ e. some (tok e ∷ [])) (eqb→eq d c t)
is-alone (some (tok d ∷ a ∷ l)) c t = absurd t

-- Where an alternative is chosen, its class is the whole of what the table has for B,
pub alone-there : (A B i : ℕ) → T (not (eqb (row table A).other i)) → T (run (λ c. not (eqb (choose table A c) i) || alone (expand table B c) c) past_classes 0) → (c : ℕ) → choose table A c ≡ i → expand table B c ≡ some (tok c ∷ [])
alone-there A B i o t c e = is-alone (expand table B c) c (where-chosen A i (λ a. alone (expand table B a) a) o t c e)

-- the text has not ended,
pub pos-there : (A i : ℕ) → T (not (eqb (row table A).other i)) → T (run (λ c. not (eqb (choose table A c) i) || ltb 0 c) past_classes 0) → (c : ℕ) → choose table A c ≡ i → 0 < c
pos-there A i o t c e = ltb→lt 0 c (where-chosen A i (λ a. ltb 0 a) o t c e)

-- and a test says yes, or no.
pub yes-there : (A i : ℕ) (f : ℕ → Bool) → T (not (eqb (row table A).other i)) → T (run (λ c. not (eqb (choose table A c) i) || f c) past_classes 0) → (c : ℕ) → choose table A c ≡ i → f c ≡ true
yes-there A i f o t c e = is_true (f c) (where-chosen A i f o t c e)

pub no-there : (A i : ℕ) (f : ℕ → Bool) → T (not (eqb (row table A).other i)) → T (run (λ c. not (eqb (choose table A c) i) || not (f c)) past_classes 0) → (c : ℕ) → choose table A c ≡ i → f c ≡ false
no-there A i f o t c e = not-true (f c) (where-chosen A i (λ a. not (f a)) o t c e)

-- A row at a class that has a case of its own, and at another.
pub hit : (c i : ℕ) (l : List Case) (d : ℕ) {a : ℕ} → a ≡ c → look (on c i ∷ l) d a ≡ i
unfolding look
hit c i l d {a} h = ap (λ (b : Bool). elim b [ true ↦ i | false ↦ look l d a ]) (eq-eqb a c h)

pub miss : (c i : ℕ) (l : List Case) (d : ℕ) {a x : ℕ} → (a ≡ c → ⊥) → look l d a ≡ x → look (on c i ∷ l) d a ≡ x
unfolding look
miss c i l d {a} h e = ap (λ (b : Bool). elim b [ true ↦ i | false ↦ look l d a ]) (ne_eqb a c h) ∙ e

pub goes : (A i a : ℕ) {o : Option (List Sym)} → choose table A a ≡ i → alt table A i ≡ o → expand table A a ≡ o
goes A i a c e = rw c e

-- i is none of the numbers from 1 to n.
abbrev pub Unpicked : ℕ → ℕ → Type 0
Unpicked zero i = Unit {0}
Unpicked (suc n) i = Unpicked n i × (i ≡ suc n → ⊥)

past-all : (n i : ℕ) → Unpicked n (suc i) → n ≤ i
past-all zero i h = omega arith
past-all (suc n) i h = go (dec_lt n i) (past-all n i h.0)
  where
    go : Dec (n < i) → n ≤ i → suc n ≤ i
    go (yes q) p = omega arith
    go (no q) p = let e : suc i ≡ suc n = omega arith in absurd (h.1 e)

past-end : {X : Type 0} (l : List X) (i : ℕ) → length l ≤ i → get_elem? l i ≡ none
past-end [] i h = refl
past-end (x ∷ l) zero h = absurd (omega arith)
past-end (x ∷ l) (suc i) h = past-end l i (omega arith)

none-picked : {X : Type 0} (l : List X) (i : ℕ) → Unpicked (length l) i → pick l i ≡ none
unfolding pick
none-picked l zero h = refl
none-picked l (suc i) h = past-end l i (past-all (length l) i h)

-- Where the table chooses none of the alternatives there is nothing.
pub no-alternative : (A c i : ℕ) → i ≡ choose table A c → Unpicked (length (row table A).alts) i → expand table A c ≡ none
unfolding alt
no-alternative A c i e h = ap (alt table A) (sym e) ∙ none-picked (row table A).alts i h

-- A nonterminal that is the symbols `one` where the class k stands, and `other` at any other class,
pub record Forked (A k : ℕ) (one other : List Sym) : Type 0 where
  pub flat : sort_of (ex means (nt A)) ≡ shape.flat
  pub there : (c : ℕ) → c ≡ k → expand table A c ≡ some one
  pub elsewhere : (c : ℕ) → (c ≡ k → ⊥) → expand table A c ≡ some other

forks : {A k : ℕ} {one other : List Sym} (i j : ℕ) → sort_of (ex means (nt A)) ≡ shape.flat → ((c : ℕ) → choose table A c ≡ look (on k i ∷ []) j c) → alt table A i ≡ some one → alt table A j ≡ some other → Forked A k one other
unfolding look
forks {A} {k} i j f e g h = record { flat = f; there = λ c q. goes A i c (e c ∙ hit k i [] j q) g; elsewhere = λ c n. goes A j c (e c ∙ miss k i [] j n refl) h }

-- as the table has it: one of two,
pub forked : {A k : ℕ} {one other : List Sym} → sort_of (ex means (nt A)) ≡ shape.flat → ((c : ℕ) → choose table A c ≡ look (on k 1 ∷ []) 2 c) → alt table A 1 ≡ some one → alt table A 2 ≡ some other → Forked A k one other
forked f e g h = forks 1 2 f e g h

-- or one that may be left out: it is nothing, or the symbols rhs.
abbrev pub Optionally : ℕ → ℕ → List Sym → Type 0
Optionally A k rhs = Forked A k rhs []

pub optionally : {A k : ℕ} {rhs : List Sym} → sort_of (ex means (nt A)) ≡ shape.flat → ((c : ℕ) → choose table A c ≡ look (on k 2 ∷ []) 1 c) → alt table A 1 ≡ some [] → alt table A 2 ≡ some rhs → Optionally A k rhs
optionally f e g h = forks 2 1 f e h g
