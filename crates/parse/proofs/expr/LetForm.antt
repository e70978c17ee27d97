-- The steps of a `let`.
-- Assumes nothing.
use Rattle.std.proofs.Common.{◌≡◌, ℕ, List, [], ◌∷◌, arith}
use mathlib.Core.Option.{Option}
use Rattle.theory.specs.Grammar.{tok, nt}
use Rattle.own.specs.Law.{word, child}
use Rattle.own.specs.Kinds as kind
use Rattle.grammar.specs.Shapes.ShapeKind.{AssignmentShape}
use Rattle.grammar.specs.Shapes.TablesIndex.{n-assignment, n-expression, n-pattern, n-type}
use Rattle.grammar.specs.Records.Faults.{Fault}
use Rattle.lexer.specs.Classes as t
use Rattle.parse.specs.Contract.{Text, tok_at, kept, Ready, Moved, Eaten, as_items, Parsed, Node, TypeKind, PatternKind, reserved}
use Rattle.parse.specs.declared.State.{State}
use Rattle.parse.specs.declared.Step.{Step}
use Rattle.parse.specs.declared.Step.TheVariants.{Next}
use Rattle.parse.proofs.Rule.Marks.{sign-mark}
use Rattle.parse.proofs.Rule.Amid.{Amid}
use Rattle.parse.proofs.Rule.Entered as entered
use Rattle.parse.proofs.Rule.Entered.{Entered, first}
use Rattle.parse.proofs.Rule.Chain.{Noded, then-node, then-eats}
use Rattle.parse.proofs.Rule.Commas.{AnyN}
use Rattle.parse.proofs.expr.Forms.{assign_rhs, assign-rule, at-assign}

-- Its rule, entered:
pub let₀ : {x : Text} {st r : State} → Ready x st → st.class ≡ t.Let → r ≡ reserved st → Entered n-assignment 1 AssignmentShape assign_rhs x st r (kept st)
let₀ {st = st} y e h = entered.by assign-rule y (at-assign st.class e) h

-- `let`,
module _ {x : Text} {st r a : State} {F : Option Fault} (l : List ℕ) (n : Entered n-assignment 1 AssignmentShape assign_rhs x st r F) (e : st.class ≡ t.Let) (v : Moved x r a) where
  pub let₁ : Amid x kind.Let AnyN assign_rhs (nt n-pattern ∷ tok t.Colon ∷ nt n-type ∷ tok t.Eq ∷ nt n-expression ∷ []) r l (word t.Let ∷ []) (tok_at x r.at ∷ []) 1 a l
  let₁ = first kind.Let AnyN t.Let l n.opened e (omega arith) v (sign-mark kind.Let t.Let tt)

  -- a pattern,
  module _ {l₁ : List ℕ} {s₁ : Step} {b : State} {i₁ j₁ : ℕ} (p₁ : Parsed x (nt n-pattern ∷ []) as_items (Node PatternKind) a l l₁ s₁) (q₁ : s₁ ≡ Next b i₁ j₁) where
    pub let₂ : Noded x kind.Let AnyN assign_rhs (tok t.Colon ∷ nt n-type ∷ tok t.Eq ∷ nt n-expression ∷ []) r l (word t.Let ∷ []) (tok_at x r.at ∷ []) 1 PatternKind b l₁
    let₂ = then-node let₁ p₁ q₁

    -- a colon,
    module _ {s₂ : Step} {d : State} {i₂ j₂ : ℕ} (p₂ : Eaten x b t.Colon s₂) (q₂ : s₂ ≡ Next d i₂ j₂) where
      pub let₃ : Amid x kind.Let AnyN assign_rhs (nt n-type ∷ tok t.Eq ∷ nt n-expression ∷ []) r l
          (word t.Let ∷ child let₂.kind let₂.low let₂.high let₂.first ∷ word t.Colon ∷ [])
          (tok_at x r.at ∷ tok_at x b.at ∷ []) 2 d l₁
      let₃ = then-eats let₂.amid (omega arith) p₂ q₂ (sign-mark kind.Let t.Colon tt)

      -- a type,
      module _ {l₂ : List ℕ} {s₃ : Step} {f : State} {i₃ j₃ : ℕ} (p₃ : Parsed x (nt n-type ∷ []) as_items (Node TypeKind) d l₁ l₂ s₃) (q₃ : s₃ ≡ Next f i₃ j₃) where
        pub let₄ : Noded x kind.Let AnyN assign_rhs (tok t.Eq ∷ nt n-expression ∷ []) r l
            (word t.Let ∷ child let₂.kind let₂.low let₂.high let₂.first ∷ word t.Colon ∷ [])
            (tok_at x r.at ∷ tok_at x b.at ∷ []) 2 TypeKind f l₂
        let₄ = then-node let₃ p₃ q₃

        -- `=`.
        pub let₅ : {s₄ : Step} {g : State} {i₄ j₄ : ℕ} → Eaten x f t.Eq s₄ → s₄ ≡ Next g i₄ j₄
            → Amid x kind.Let AnyN assign_rhs (nt n-expression ∷ []) r l
            (word t.Let ∷ child let₂.kind let₂.low let₂.high let₂.first ∷ word t.Colon ∷ child let₄.kind let₄.low let₄.high let₄.first ∷ word t.Eq ∷ [])
            (tok_at x r.at ∷ tok_at x b.at ∷ tok_at x f.at ∷ []) 3 g l₂
        let₅ p q = then-eats let₄.amid (omega arith) p q (sign-mark kind.Let t.Eq tt)
