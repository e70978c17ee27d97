-- A decimal becomes a record of its own only in a fold, whose number is of 64 bits where no refusal is the fold's.
-- Assumes nothing.
use Rattle.std.specs.Prelude.{Bool, true, false, ◌||◌, not, List, ◌⊎◌, ◌≡◌, refl, ℕ, ◌≤◌, ◌<◌, T, eqb}
use Rattle.std.proofs.Common.{inl, inr, sym, subst, ◌∙◌, eqb-true, eqb→eq}
use Rattle.std.proofs.lemmas.Bool.{eqb-false}
use Rattle.text.proofs.Same.{differ}
use Rattle.text.proofs.Table.{or_cases, not-true}
use Rattle.text.specs.Lists.{some, all, has, span, count}
use Rattle.num.specs.Value.{largest}
use Rattle.own.specs.Law.{Sort}
use Rattle.own.specs.Kinds as kind
use Rattle.kinds.specs.Shape.{Shape, Spells}
use Rattle.lexer.specs.Classes as class
use Rattle.grammar.specs.Shapes.ShapeKind.{FoldingShape}
use Rattle.grammar.specs.Shapes.Shapes.{shapes}
use Rattle.grammar.proofs.Spelled.Rules.{kinds_in, both, seen, part_shapes}
use Rattle.grammar.proofs.Spelled.Rows.{variants, pairs}
use Rattle.grammar.proofs.Spelled.Decisions.{free_of, free-sound, free, is_the, sure, row-free, row_sure}
use Rattle.grammar.proofs.Spelled.FormTests.{by_rows, good-bound, good-size, all_below, below_all}
use Rattle.grammar.proofs.Spelled.ShapeTests.{body_shape}
use Rattle.grammar.proofs.Spelled.ShapeLaws.{shape_count, Given, possible, kind-possible}
use Rattle.grammar.specs.Records.Records.{sees, opening, head_of, form_of}

-- A shape whose record is no call, or one without a decimal among its tokens, or that of the folds: all are, by one computation.
unfoldable spared : ℕ → Bool
spared k = not (has (possible (form_of k)) kind.Call) || (free_of class.DecLiteral (body_shape k) || eqb k FoldingShape)

all-spared : T (all_below spared shape_count)
unfolding all_below spared possible form_of has span count free_of body_shape shapes seen part_shapes both kinds_in
all-spared = tt

-- A fold with a decimal has `<`.
abbrev angled_row : List Shape → Bool
angled_row row = free class.DecLiteral row || sure class.LAngle row

folds-angled : T (all angled_row (variants (body_shape FoldingShape)))
unfolding all some variants pairs free free_of sure is_the has body_shape shapes seen part_shapes both kinds_in
folds-angled = tt

fold-angled : (w : List Sort) → Spells (body_shape FoldingShape) w → sees class.DecLiteral w ≡ true → sees class.LAngle w ≡ true
fold-angled w p s =
    by_rows angled_row (body_shape FoldingShape) folds-angled
    (λ l t r. go (or_cases (free class.DecLiteral l) (sure class.LAngle l) t) (λ u. row-free class.DecLiteral u r) (λ u. row_sure class.LAngle u r)) p
  where
    go : {A B : Type 0} → A ⊎ B → (A → sees class.DecLiteral w ≡ false) → (B → sees class.LAngle w ≡ true) → sees class.LAngle w ≡ true
    go (inl u) f g = differ (sym (f u) ∙ s)
    go (inr u) f g = g u

fold-fits : (n : ℕ) (w : List Sort) → Given FoldingShape n w → sees class.LAngle w ≡ true → n ≤ largest
fold-fits n w g s = go (eqb (opening w) class.array_fold) refl
  where
    go : (b : Bool) → eqb (opening w) class.array_fold ≡ b → n ≤ largest
    go true e = (good-size n (g.sized refl s (eqb-true (opening w) class.array_fold e))).1
    go false e = (good-bound n (g.folded refl s (eqb-false (opening w) class.array_fold e))).1

-- The number of a call, if it has one, is of 64 bits.
pub fits-call : (k : ℕ) → k < shape_count → (text : List ℕ) (n : ℕ) (w : List Sort) → Given k n w → Spells (body_shape k) w → (head_of (form_of k) text n w).kind ≡ kind.Call
    → sees class.DecLiteral w ≡ true → n ≤ largest
unfolding spared
fits-call k h text n w g p c s =
    by-sort (or_cases (not (has (possible (form_of k)) kind.Call)) (free_of class.DecLiteral (body_shape k) || eqb k FoldingShape) (below_all spared shape_count all-spared k h))
  where
    called : T (has (possible (form_of k)) kind.Call)
    called = subst (λ (K : ℕ). T (has (possible (form_of k)) K)) c (kind-possible (form_of k) text n w)

    by-decimal : T (free_of class.DecLiteral (body_shape k)) ⊎ T (eqb k FoldingShape) → n ≤ largest
    by-decimal (inl u) = differ (sym (free-sound class.DecLiteral u p) ∙ s)
    by-decimal (inr u) =
        let e = eqb→eq k FoldingShape u in
        let q = subst (λ (j : ℕ). Spells (body_shape j) w) e p in
        fold-fits n w (subst (λ (j : ℕ). Given j n w) e g) (fold-angled w q s)

    by-sort : T (not (has (possible (form_of k)) kind.Call)) ⊎ T (free_of class.DecLiteral (body_shape k) || eqb k FoldingShape) → n ≤ largest
    by-sort (inl u) = absurd (subst (λ y. T y) (not-true (has (possible (form_of k)) kind.Call) u) called)
    by-sort (inr u) = by-decimal (or_cases (free_of class.DecLiteral (body_shape k)) (eqb k FoldingShape) u)
