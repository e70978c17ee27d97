-- A fold: the refusal of the number in its `< >`.
-- Assumes nothing.
use Rattle.std.proofs.Common.{◌≡◌, ℕ, Bool, true, false, cond, not, ◌||◌, eqb, List, ◌∷◌, sym, refl, ap, ◌∙◌}
use Rattle.std.proofs.Math.Bool.{or-true}
use Rattle.std.specs.Prelude.{None}
use Rattle.text.specs.Refusals.{refusal_number}
use Rattle.text.specs.declared.refusal.Refusal.TheVariants as refusal
use Rattle.num.specs.Value.{Value, fitted, number_of}
use Rattle.num.specs.Bound.{bound_ok, size_ok}
use Rattle.lexer.specs.Classes as t
use Rattle.own.specs.Tree.{Tok, Items, marks}
use Rattle.own.specs.Law.{Sort, word, sorts}
use Rattle.grammar.specs.Records.Records.{sees, opening, text_of, first_of, decimal}
use Rattle.grammar.specs.Records.Faults.{Fault, unless, faults_at, earliest}
use Rattle.grammar.specs.Shapes.ShapeKind.{FoldingShape}
use Rattle.parse.specs.Contract.{fault_at, bound_fault, size_fault}
use Rattle.parse.proofs.Rule.Heads.{unless-is}

module _ (draft : List ℕ) where
  fold-cases : (b : Bool) (v : Value) (y : Tok) → earliest (cond b (unless (size_ok v) (refusal_number refusal.Size) y) (unless (bound_ok v) (refusal_number refusal.Bound) y)) ≡ fault_at (cond b (size_fault v) (bound_fault v)) y.start
  unfolding bound_fault size_fault
  fold-cases true v y = unless-is y (size_ok v) refusal.Size
  fold-cases false v y = unless-is y (bound_ok v) refusal.Bound

  abbrev folding : List Sort → Value → Tok → List Fault
  folding w v y = cond (eqb (opening w) t.array_fold) (unless (not (sees t.LAngle w) || size_ok v) (refusal_number refusal.Size) y) (unless (not (sees t.LAngle w) || bound_ok v) (refusal_number refusal.Bound) y)

  fold_at : (is : Items) → faults_at draft FoldingShape is ≡ folding (sorts is) (fitted (decimal draft is)) (first_of t.DecLiteral (marks is))
  unfolding faults_at
  fold_at is = refl

  fold-opens : (c : ℕ) (w : List Sort) (v : Value) (y : Tok) → folding (word c ∷ word t.DoubleColon ∷ word t.LAngle ∷ w) v y ≡ cond (eqb c t.array_fold) (unless (size_ok v) (refusal_number refusal.Size) y) (unless (bound_ok v) (refusal_number refusal.Bound) y)
  unfolding sees opening
  fold-opens c w v y = ap (λ (b : Bool). cond (eqb c t.array_fold) (unless (not b || size_ok v) (refusal_number refusal.Size) y) (unless (not b || bound_ok v) (refusal_number refusal.Bound) y)) (or-true (eqb c t.LAngle))

  pub fold-fault : (is : Items) (c : ℕ) {w : List Sort} (v : Value) (y : Tok) → sorts is ≡ word c ∷ word t.DoubleColon ∷ word t.LAngle ∷ w → first_of t.DecLiteral (marks is) ≡ y → v ≡ number_of (text_of draft y)
      → earliest (faults_at draft FoldingShape is) ≡ fault_at (cond (eqb c t.array_fold) (size_fault v) (bound_fault v)) y.start
  unfolding decimal number_of
  fold-fault is c {w} v y e f g =
      ap earliest (fold_at is ∙ (λ i. folding (e i) (number_of (text_of draft (f i))) (f i)) ∙ (λ i. folding (word c ∷ word t.DoubleColon ∷ word t.LAngle ∷ w) (sym g i) y) ∙ fold-opens c w v y)
      ∙ fold-cases (eqb c t.array_fold) v y

  -- Without `<` it has none.
  both-none : (b : Bool) (v : Value) (y : Tok) → earliest (cond b (unless true (refusal_number refusal.Size) y) (unless true (refusal_number refusal.Bound) y)) ≡ fault_at None 0
  unfolding unless earliest fault_at
  both-none true v y = refl
  both-none false v y = refl

  pub fold-faultless : (is : Items) {w : List Sort} → sorts is ≡ w → sees t.LAngle w ≡ false → earliest (faults_at draft FoldingShape is) ≡ fault_at None 0
  fold-faultless is {w} e f =
      ap earliest (fold_at is ∙ ap (λ (u : List Sort). folding u (fitted (decimal draft is)) (first_of t.DecLiteral (marks is))) e
      ∙ ap (λ (b : Bool). cond (eqb (opening w) t.array_fold) (unless (not b || size_ok (fitted (decimal draft is))) (refusal_number refusal.Size) (first_of t.DecLiteral (marks is))) (unless (not b || bound_ok (fitted (decimal draft is))) (refusal_number refusal.Bound) (first_of t.DecLiteral (marks is)))) f)
      ∙ both-none (eqb (opening w) t.array_fold) (fitted (decimal draft is)) (first_of t.DecLiteral (marks is))
