-- The head of a function's record, of what the record is made of.
-- Assumes nothing.
use Rattle.std.proofs.Common.{◌≡◌, ℕ, ◌+◌, ◌<◌, ◌≤◌, Bool, true, false, cond, ◌||◌, List, [], ◌∷◌, ◌++◌, sym, refl, ap, ◌∙◌, ap₂, arith, ne_eqb}
use Rattle.text.proofs.Same.{differ}
use Rattle.text.specs.Lists.{has}
use Rattle.own.specs.Tree.{Tok}
use Rattle.own.specs.Law.{Sort, word, child}
use Rattle.own.specs.Kinds as kind
use Rattle.kinds.specs.Fields.{counted}
use Rattle.lexer.specs.Classes as t
use Rattle.grammar.specs.Records.Records.{head, sees, head_of, form_of, function_head}
use Rattle.grammar.specs.Shapes.ShapeKind.{FunctionShape}
use Rattle.parse.specs.Contract.{Text, Only, ExprKind, u32_count}
use Rattle.parse.proofs.Rule.Steps.{decided}
use Rattle.parse.proofs.Rule.Pieces.{sees-append, counted-append, unseen-append}
use Rattle.parse.proofs.program.Forms.{counted-word, only-others}

-- A function's name is neither `pub` nor an arrow.
name-no-pub : (c : ℕ) → has t.function_names c ≡ true → c ≡ t.Pub → ⊥
unfolding has
name-no-pub c e q = differ (sym (ap (has t.function_names) q) ∙ e)

name-no-arrow : (c : ℕ) → has t.function_names c ≡ true → c ≡ t.Arrow → ⊥
unfolding has
name-no-arrow c e q = differ (sym (ap (has t.function_names) q) ∙ e)

-- What is seen in one piece.
sees-word : (c d : ℕ) → (d ≡ c → ⊥) → sees c (word d ∷ []) ≡ false
unfolding sees
sees-word c d h = ap (λ (b : Bool). b || false) (ne_eqb d c h)

sees_child : (c k l h d : ℕ) → sees c (child k l h d ∷ []) ≡ false
unfolding sees
sees_child c k l h d = refl

counted_none : (k l h c : ℕ) → ExprKind k → counted (kind.Parameter ∷ []) (child k l h c ∷ []) ≡ 0
unfolding counted has
counted_none k l h c e = ap (λ (b : Bool). cond (b || false) 1 0 + 0) (ne_eqb kind.Parameter k (λ q. omega (arith, e.0)))

uncounted : (w v : List Sort) {n : ℕ} → counted (kind.Parameter ∷ []) w ≡ n → counted (kind.Parameter ∷ []) v ≡ 0 → counted (kind.Parameter ∷ []) (w ++ v) ≡ n
uncounted w v e f = omega (arith, counted-append (kind.Parameter ∷ []) w v)

-- The head of a function, of what it is made of: nothing or `pub`, `fn`, its name, its parameters in parentheses, nothing or its type, its block.
module _ (W₁ W₃ W₄ : List Sort) (c k l h d : ℕ) {low more number : ℕ} (name : has t.function_names c ≡ true) (there₁ : low ≡ cond (sees t.Pub W₁) 1 0) (others₁ : (d : ℕ) → (d ≡ t.Pub → ⊥) → sees d W₁ ≡ false)
    (none₁ : counted (kind.Parameter ∷ []) W₁ ≡ 0) (commas : Only t.Comma W₃) (count : counted (kind.Parameter ∷ []) W₃ ≡ number) (there₄ : more ≡ cond (sees t.Arrow W₄) 2 0)
    (others₄ : (d : ℕ) → (d ≡ t.Arrow → ⊥) → sees d W₄ ≡ false) (none₄ : counted (kind.Parameter ∷ []) W₄ ≡ 0) (body : ExprKind k) where
  abbrev w₄ : List Sort
  w₄ = ((W₁ ++ (word t.Fn ∷ [])) ++ (word c ∷ [])) ++ (word t.LParen ∷ [])

  abbrev w₆ : List Sort
  w₆ = (w₄ ++ W₃) ++ (word t.RParen ∷ [])

  abbrev w₈ : List Sort
  w₈ = (w₆ ++ W₄) ++ (child k l h d ∷ [])

  before-arrow : (a : ℕ) {b : Bool} → sees a W₁ ≡ b → (t.Fn ≡ a → ⊥) → (c ≡ a → ⊥) → (t.LParen ≡ a → ⊥) → (a ≡ t.Comma → ⊥) → (t.RParen ≡ a → ⊥) → sees a w₆ ≡ b
  before-arrow a e n₁ n₂ n₃ n₄ n₅ =
      let b = unseen-append a W₁ (word t.Fn ∷ []) e (sees-word a t.Fn n₁) in
      let d = unseen-append a (W₁ ++ (word t.Fn ∷ [])) (word c ∷ []) b (sees-word a c n₂) in
      let f = unseen-append a ((W₁ ++ (word t.Fn ∷ [])) ++ (word c ∷ [])) (word t.LParen ∷ []) d (sees-word a t.LParen n₃) in
      let g = unseen-append a w₄ W₃ f (only-others t.Comma a n₄ W₃ commas) in
      unseen-append a (w₄ ++ W₃) (word t.RParen ∷ []) g (sees-word a t.RParen n₅)

  sees-pub : sees t.Pub w₈ ≡ sees t.Pub W₁
  sees-pub =
      unseen-append t.Pub (w₆ ++ W₄) (child k l h d ∷ []) (unseen-append t.Pub w₆ W₄ (before-arrow t.Pub refl (λ e. omega arith) (name-no-pub c name) (λ e. omega arith) (λ e. omega arith) (λ e. omega arith)) (others₄ t.Pub (λ e. omega arith)))
      (sees_child t.Pub k l h d)

  sees-arrow : sees t.Arrow w₈ ≡ sees t.Arrow W₄
  sees-arrow =
      unseen-append t.Arrow (w₆ ++ W₄) (child k l h d ∷ [])
      (sees-append t.Arrow w₆ W₄
      ∙ ap (λ (b : Bool). b || sees t.Arrow W₄) (before-arrow t.Arrow (others₁ t.Arrow (λ e. omega arith)) (λ e. omega arith) (name-no-arrow c name) (λ e. omega arith) (λ e. omega arith) (λ e. omega arith)))
      (sees_child t.Arrow k l h d)

  counts : counted (kind.Parameter ∷ []) w₈ ≡ number
  counts =
      let a = uncounted ((W₁ ++ (word t.Fn ∷ [])) ++ (word c ∷ [])) (word t.LParen ∷ []) (uncounted (W₁ ++ (word t.Fn ∷ [])) (word c ∷ []) (uncounted W₁ (word t.Fn ∷ []) none₁ (counted-word t.Fn)) (counted-word c)) (counted-word t.LParen) in
      let b : counted (kind.Parameter ∷ []) (w₄ ++ W₃) ≡ number = omega (arith, counted-append (kind.Parameter ∷ []) w₄ W₃, a, count) in
      uncounted (w₆ ++ W₄) (child k l h d ∷ []) (uncounted w₆ W₄ (uncounted (w₄ ++ W₃) (word t.RParen ∷ []) b (counted-word t.RParen)) none₄) (counted_none k l h d body)

  pub function-head : (x : Text) (ms : List Tok) → decided x FunctionShape w₈ ms ≡ head kind.Function (low + more) number
  unfolding head_of form_of function_head
  function-head x ms =
      (λ i. head kind.Function (cond (sees-pub i) 1 0 + cond (sees-arrow i) 2 0) (counts i)) ∙ ap₂ (λ (a b : ℕ). head kind.Function (a + b) number) (sym there₁) (sym there₄)

-- Its low is small.
pub low_fits : (v w : List Sort) {low more : ℕ} → low ≡ cond (sees t.Pub v) 1 0 → more ≡ cond (sees t.Arrow w) 2 0 → low + more < u32_count
low_fits v w {low} {more} e f = omega (arith, most (sees t.Pub v) 1, most (sees t.Arrow w) 2)
  where
    most : (b : Bool) (n : ℕ) → cond b n 0 ≤ n
    most true n = omega arith
    most false n = omega arith

-- A token of its own.
pub owns : (a b : ℕ) → 1 ≤ (a + 1) + b
owns a b = omega arith
