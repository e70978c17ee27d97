-- The steps of calls with `< >`: a cast, and the three that `::<..>` may belong to.
-- Assumes nothing.
use Rattle.std.proofs.Common.{◌≡◌, ℕ, List, [], ◌∷◌, arith}
use mathlib.Core.Option.{Option, none}
use Rattle.theory.specs.Grammar.{tok, nt}
use Rattle.own.specs.Law.{word, child}
use Rattle.own.specs.Kinds as kind
use Rattle.own.specs.Tree.{Tok}
use Rattle.grammar.specs.Shapes.ShapeKind.{CastCallShape, FoldingShape, ForWhileShape, TypedShape}
use Rattle.grammar.specs.Shapes.TablesIndex.{n-arguments, n-function_name, n-single, n-type}
use Rattle.grammar.specs.Records.Faults.{Fault}
use Rattle.lexer.specs.Classes as t
use Rattle.parse.specs.Contract.{Text, tok_at, Moved, Eaten, as_items, Parsed, Node, TypeKind, NameAt, Decimal, cleaned, reserved}
use Rattle.parse.specs.Infos.{Angled}
use Rattle.parse.specs.declared.State.{State}
use Rattle.parse.specs.declared.Step.{Step}
use Rattle.parse.specs.declared.Step.TheVariants.{Next}
use Rattle.parse.specs.Choice as choice
use Rattle.parse.proofs.Rule.Marks.{sign-mark, word-mark}
use Rattle.parse.proofs.Rule.Amid.{Amid}
use Rattle.parse.proofs.Rule.Entered.{Entered, first}
use Rattle.parse.proofs.Rule.Chain.{Noded, then-node, then-eats}
use Rattle.parse.proofs.Rule.Commas.{AnyN}
use Rattle.parse.proofs.expr.CallRows.{cast_rhs, typed_rhs, folding_rhs, whiles_rhs}
use Rattle.parse.proofs.expr.CallForms as call
use Rattle.parse.proofs.expr.CallLaws as law
use Rattle.parse.proofs.expr.NameRules.{begun-apart, apart-class}

-- A cast: `<`,
module _ {x : Text} {st r a : State} {F : Option Fault} (l : List ℕ) (n : Entered n-single choice.CastCall CastCallShape cast_rhs x st r F) (v : Moved x r a) where
  pub cast₁ : Amid x kind.Call AnyN cast_rhs (nt n-type ∷ tok t.RAngle ∷ tok t.DoubleColon ∷ tok t.into ∷ nt n-arguments ∷ []) r l (word t.LAngle ∷ []) (tok_at x r.at ∷ []) 1 a l
  cast₁ = first kind.Call AnyN t.LAngle l n.opened (call.at-cast st.class n.chosen) (omega arith) v (sign-mark kind.Call t.LAngle tt)

  -- a type,
  module _ {l₁ : List ℕ} {s₁ : Step} {b : State} {i₁ j₁ : ℕ} (p₁ : Parsed x (nt n-type ∷ []) as_items (Node TypeKind) a l l₁ s₁) (q₁ : s₁ ≡ Next b i₁ j₁) where
    pub cast₂ : Noded x kind.Call AnyN cast_rhs (tok t.RAngle ∷ tok t.DoubleColon ∷ tok t.into ∷ nt n-arguments ∷ []) r l (word t.LAngle ∷ []) (tok_at x r.at ∷ []) 1 TypeKind b l₁
    cast₂ = then-node cast₁ p₁ q₁

    -- `>`,
    module _ {s₂ : Step} {d : State} {i₂ j₂ : ℕ} (p₂ : Eaten x b t.RAngle s₂) (q₂ : s₂ ≡ Next d i₂ j₂) where
      pub cast₃ : Amid x kind.Call AnyN cast_rhs (tok t.DoubleColon ∷ tok t.into ∷ nt n-arguments ∷ []) r l
          (word t.LAngle ∷ child cast₂.kind cast₂.low cast₂.high cast₂.first ∷ word t.RAngle ∷ [])
          (tok_at x r.at ∷ tok_at x b.at ∷ []) 2 d l₁
      cast₃ = then-eats cast₂.amid (omega arith) p₂ q₂ (sign-mark kind.Call t.RAngle tt)

      -- `::`,
      module _ {s₃ : Step} {f : State} {i₃ j₃ : ℕ} (p₃ : Eaten x d t.DoubleColon s₃) (q₃ : s₃ ≡ Next f i₃ j₃) where
        pub cast₄ : Amid x kind.Call AnyN cast_rhs (tok t.into ∷ nt n-arguments ∷ []) r l
            (word t.LAngle ∷ child cast₂.kind cast₂.low cast₂.high cast₂.first ∷ word t.RAngle ∷ word t.DoubleColon ∷ [])
            (tok_at x r.at ∷ tok_at x b.at ∷ tok_at x d.at ∷ []) 3 f l₁
        cast₄ = then-eats cast₃ (omega arith) p₃ q₃ (sign-mark kind.Call t.DoubleColon tt)

        -- `into`.
        pub cast₅ : {s₄ : Step} {g : State} {i₄ j₄ : ℕ} → Eaten x f t.into s₄ → s₄ ≡ Next g i₄ j₄
            → Amid x kind.Call AnyN cast_rhs (nt n-arguments ∷ []) r l
            (word t.LAngle ∷ child cast₂.kind cast₂.low cast₂.high cast₂.first ∷ word t.RAngle ∷ word t.DoubleColon ∷ word t.into ∷ [])
            (tok_at x r.at ∷ tok_at x b.at ∷ tok_at x d.at ∷ tok_at x f.at ∷ []) 4 g l₁
        cast₅ p q = then-eats cast₄ (omega arith) p q (word-mark t.into tt)

-- `unwrap_left::<T>` and kin: the name, `::` and `<`,
module _ {x : Text} {st r b d : State} {F : Option Fault} (l : List ℕ) (n : Entered n-single choice.Typed TypedShape typed_rhs x st r F) (g : Angled x r b) (v : Moved x b d) where
  pub typed₁ : Amid x kind.Call AnyN typed_rhs (nt n-type ∷ tok t.RAngle ∷ nt n-arguments ∷ []) r l
      (word st.class ∷ word t.DoubleColon ∷ word t.LAngle ∷ [])
      (tok_at x r.at ∷ tok_at x g.begun.a.at ∷ tok_at x b.at ∷ []) 3 d l
  typed₁ =
      law.angled n.ready n.opened (call.for-typed st.class n.chosen) AnyN l call.typed-optional call.typed-choice (call.typed-mark st.class n.chosen) g.begun g.angle v

  -- a type.
  module _ {l₁ : List ℕ} {s₁ : Step} {f : State} {i₁ j₁ : ℕ} (p₁ : Parsed x (nt n-type ∷ []) as_items (Node TypeKind) d l l₁ s₁) (q₁ : s₁ ≡ Next f i₁ j₁) where
    pub typed₂ : Noded x kind.Call AnyN typed_rhs (tok t.RAngle ∷ nt n-arguments ∷ []) r l
        (word st.class ∷ word t.DoubleColon ∷ word t.LAngle ∷ [])
        (tok_at x r.at ∷ tok_at x g.begun.a.at ∷ tok_at x b.at ∷ []) 3 TypeKind f l₁
    typed₂ = then-node typed₁ p₁ q₁

-- `for_while::<f>`: the same with the name of a function.
module _ {x : Text} {st r b d : State} {F : Option Fault} (l : List ℕ) (n : Entered n-single choice.ForWhile ForWhileShape whiles_rhs x st r F) (g : Angled x r b) (v : Moved x b d) where
  pub whiles₁ : Amid x kind.Call AnyN whiles_rhs (nt n-function_name ∷ tok t.RAngle ∷ nt n-arguments ∷ []) r l
      (word st.class ∷ word t.DoubleColon ∷ word t.LAngle ∷ [])
      (tok_at x r.at ∷ tok_at x g.begun.a.at ∷ tok_at x b.at ∷ []) 3 d l
  whiles₁ =
      law.angled n.ready n.opened (call.for-whiles st.class n.chosen) AnyN l call.whiles-optional call.whiles-choice (call.whiles-mark st.class n.chosen) g.begun g.angle v

  module _ {l₁ : List ℕ} {s₁ : Step} {f : State} {i₁ j₁ : ℕ} (p₁ : Parsed x (nt n-function_name ∷ []) as_items (NameAt x d.at) d l l₁ s₁) (q₁ : s₁ ≡ Next f i₁ j₁) where
    pub whiles₂ : Amid x kind.Call AnyN whiles_rhs (tok t.RAngle ∷ nt n-arguments ∷ []) r l
        (word st.class ∷ word t.DoubleColon ∷ word t.LAngle ∷ word (tok_at x d.at).class ∷ [])
        (tok_at x r.at ∷ tok_at x g.begun.a.at ∷ tok_at x b.at ∷ tok_at x d.at ∷ []) 3 f l₁
    whiles₂ = law.then-function-name whiles₁ p₁ q₁

-- `fold::<f, n>` and `array_fold::<f, n>`, which keep apart what is refused inside. The tokens of the name and of `::`,
module _ {x : Text} {st b c d : State} (l : List ℕ) (n : Entered n-single choice.Folding FoldingShape folding_rhs x st (reserved (cleaned st)) none) (g : Angled x (reserved st) b) (k : c ≡ cleaned b) (v : Moved x c d) where
  abbrev t₀ : Tok
  t₀ = tok_at x (reserved (cleaned st)).at

  abbrev t₁ : Tok
  t₁ = tok_at x (begun-apart st b g.begun k).a.at

  -- with `<` behind them,
  pub folding₁ : (N : ℕ → Type 0)
      → Amid x kind.Call N folding_rhs (nt n-function_name ∷ tok t.Comma ∷ tok t.DecLiteral ∷ tok t.RAngle ∷ nt n-arguments ∷ []) (reserved (cleaned st)) l
      (word st.class ∷ word t.DoubleColon ∷ word t.LAngle ∷ [])
      (t₀ ∷ t₁ ∷ tok_at x c.at ∷ []) 3 d l
  folding₁ N =
      law.angled n.ready n.opened (call.for-folding st.class n.chosen) N l call.folding-optional call.folding-choice (call.folding-mark st.class n.chosen)
      (begun-apart st b g.begun k) (apart-class b k g.angle) v

  -- the function's name,
  module _ {l₁ : List ℕ} {s₁ : Step} {f : State} {i₁ j₁ : ℕ} (p₁ : Parsed x (nt n-function_name ∷ []) as_items (NameAt x d.at) d l l₁ s₁) (q₁ : s₁ ≡ Next f i₁ j₁) where
    pub folding₂ : (N : ℕ → Type 0)
        → Amid x kind.Call N folding_rhs (tok t.Comma ∷ tok t.DecLiteral ∷ tok t.RAngle ∷ nt n-arguments ∷ []) (reserved (cleaned st)) l
        (word st.class ∷ word t.DoubleColon ∷ word t.LAngle ∷ word (tok_at x d.at).class ∷ [])
        (t₀ ∷ t₁ ∷ tok_at x c.at ∷ tok_at x d.at ∷ []) 3 f l₁
    folding₂ N = law.then-function-name (folding₁ N) p₁ q₁

    -- a comma,
    module _ {s₂ : Step} {h : State} {i₂ j₂ : ℕ} (p₂ : Eaten x f t.Comma s₂) (q₂ : s₂ ≡ Next h i₂ j₂) where
      pub folding₃ : Amid x kind.Call (law.Valued x h.at) folding_rhs (tok t.DecLiteral ∷ tok t.RAngle ∷ nt n-arguments ∷ []) (reserved (cleaned st)) l
          (word st.class ∷ word t.DoubleColon ∷ word t.LAngle ∷ word (tok_at x d.at).class ∷ word t.Comma ∷ [])
          (t₀ ∷ t₁ ∷ tok_at x c.at ∷ tok_at x d.at ∷ tok_at x f.at ∷ []) 4 h l₁
      folding₃ = then-eats (folding₂ (law.Valued x h.at)) (omega arith) p₂ q₂ (sign-mark kind.Call t.Comma tt)

      -- the number.
      module _ {l₂ : List ℕ} {s₃ : Step} {i : State} {i₃ j₃ : ℕ} (p₃ : Parsed x (tok t.DecLiteral ∷ []) as_items (Decimal x h.at) h l₁ l₂ s₃) (q₃ : s₃ ≡ Next i i₃ j₃) where
        pub folding₄ : Amid x kind.Call (law.Valued x h.at) folding_rhs (tok t.RAngle ∷ nt n-arguments ∷ []) (reserved (cleaned st)) l
            (word st.class ∷ word t.DoubleColon ∷ word t.LAngle ∷ word (tok_at x d.at).class ∷ word t.Comma ∷ word t.DecLiteral ∷ [])
            (t₀ ∷ t₁ ∷ tok_at x c.at ∷ tok_at x d.at ∷ tok_at x f.at ∷ tok_at x h.at ∷ []) 4 i l₂
        folding₄ = law.then-bound folding₃ p₃ q₃
