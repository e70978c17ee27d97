-- The steps of what stands in brackets, and the first ones of an arm's body.
-- Assumes nothing.
use Rattle.std.proofs.Common.{◌≡◌, ℕ, false, cond, eqb, List, [], ◌∷◌, arith}
use mathlib.Core.Option.{Option}
use Rattle.theory.specs.Grammar.{tok, nt}
use Rattle.own.specs.Law.{Sort, word}
use Rattle.own.specs.Kinds as kind
use Rattle.grammar.specs.Records.Records.{lone, unended}
use Rattle.grammar.specs.Shapes.ShapeKind.{BlockShape, ListShape}
use Rattle.grammar.specs.Shapes.TablesIndex.{n-arguments, n-arm-choice, n-arm-choice-optional-Comma, n-block, n-elements, n-list-expression, n-single}
use Rattle.grammar.specs.Records.Faults.{Fault}
use Rattle.lexer.specs.Classes as t
use Rattle.parse.specs.Contract.{Text, tok_at, kept, Ready, Near, Moved, Eaten, as_items, Parsed, Node, ExprKind, Only, reserved, opening_class, closing_class, single_choice}
use Rattle.parse.specs.Infos.{Elements, Lone}
use Rattle.parse.specs.declared.State.{State}
use Rattle.parse.specs.declared.Step.{Step}
use Rattle.parse.specs.declared.Step.TheVariants.{Next}
use Rattle.parse.specs.declared.token.Brackets.{Brackets}
use Rattle.parse.specs.Choice as choice
use Rattle.parse.proofs.Rule.Marks.{sign-mark, keeping-mark}
use Rattle.parse.proofs.Rule.Amid.{Amid, starts}
use Rattle.parse.proofs.Rule.Entered as entered
use Rattle.parse.proofs.Rule.Entered.{Entered, first}
use Rattle.parse.proofs.Rule.Chain.{turns, Noded, then-node, then-eats}
use Rattle.parse.proofs.Rule.Told.{Told}
use Rattle.parse.proofs.Rule.Brackets.{bracket₁}
use Rattle.parse.proofs.Rule.Commas.{AnyN}
use Rattle.parse.proofs.expr.Elements.{then-lone, then-elements}
use Rattle.parse.proofs.expr.Forms as form
use Rattle.parse.proofs.expr.ArmForms as armed

-- Expressions with commas between them, of which a says whether it is one without a comma.
abbrev Counts : ℕ → List Sort → Type 0
Counts a W = Only t.Comma W × (lone W ≡ eqb a 1)

-- A block: its rule, entered,
pub block₀ : {x : Text} {st r : State} → Ready x st → st.class ≡ t.LBrace → r ≡ reserved st → Entered n-block 1 BlockShape form.block_rhs x st r (kept st)
block₀ {st = st} y e h = entered.by form.block-rule y (form.at_block st.class e) h

-- `{`,
module _ {x : Text} {st r a : State} {F : Option Fault} (l : List ℕ) (n : Entered n-block 1 BlockShape form.block_rhs x st r F) (e : st.class ≡ t.LBrace) (v : Moved x r a) where
  pub block₁ : Amid x kind.Block AnyN form.block_rhs (nt n-elements ∷ tok t.RBrace ∷ []) r l (word t.LBrace ∷ []) (tok_at x r.at ∷ []) 1 a l
  block₁ = first kind.Block AnyN t.LBrace l n.opened e (omega arith) v (sign-mark kind.Block t.LBrace tt)

  -- and its elements.
  pub block₂ : {l₁ : List ℕ} {s : Step} {b : State} {i j : ℕ} → Parsed x (nt n-elements ∷ []) as_items Elements a l l₁ s → s ≡ Next b i j
      → Told x kind.Block AnyN form.block_rhs (tok t.RBrace ∷ []) r l (word t.LBrace ∷ []) (tok_at x r.at ∷ []) 1 (λ W. i ≡ cond (unended false W) 1 0) b l₁
  block₂ p q = then-elements block₁ p q

-- A tuple or an array, whatever its kind will be: what opens it,
module _ {x : Text} {st r a : State} {F : Option Fault} (b : Brackets) (l : List ℕ) (n : Entered n-single (single_choice b) (form.bracketed_shape b) (form.bracketed_rhs b) x st r F) (v : Moved x r a) (K : ℕ) where
  pub bracketed₁ : Amid x K AnyN (form.bracketed_rhs b) (nt n-list-expression ∷ tok (closing_class b) ∷ []) r l (word (opening_class b) ∷ []) (tok_at x r.at ∷ []) 1 a l
  bracketed₁ = bracket₁ K n-list-expression b l n.opened (form.at-bracketed st.class b n.chosen) v

  -- and its expressions.
  pub bracketed₂ : {l₁ : List ℕ} {s : Step} {d : State} {i j : ℕ} → Parsed x (nt n-list-expression ∷ []) as_items Lone a l l₁ s → s ≡ Next d i j
      → Told x K AnyN (form.bracketed_rhs b) (tok (closing_class b) ∷ []) r l (word (opening_class b) ∷ []) (tok_at x r.at ∷ []) 1 (Counts i) d l₁
  bracketed₂ p q = then-lone bracketed₁ p q

-- A list: `list!`,
module _ {x : Text} {st r a : State} {F : Option Fault} (l : List ℕ) (n : Entered n-single choice.List ListShape form.listed_rhs x st r F) (v : Moved x r a) where
  pub listed₁ : Amid x kind.List AnyN form.listed_rhs (tok t.LBracket ∷ nt n-list-expression ∷ tok t.RBracket ∷ []) r l (word t.list! ∷ []) (tok_at x r.at ∷ []) 1 a l
  listed₁ = first kind.List AnyN t.list! l n.opened (form.at_listed st.class n.chosen) (omega arith) v (keeping-mark kind.List t.list! tt)

  -- its `[`,
  module _ {s₁ : Step} {b : State} {i₁ j₁ : ℕ} (p₁ : Eaten x a t.LBracket s₁) (q₁ : s₁ ≡ Next b i₁ j₁) where
    pub listed₂ : Amid x kind.List AnyN form.listed_rhs (nt n-list-expression ∷ tok t.RBracket ∷ []) r l (word t.list! ∷ word t.LBracket ∷ []) (tok_at x r.at ∷ tok_at x a.at ∷ []) 2 b l
    listed₂ = then-eats listed₁ (omega arith) p₁ q₁ (sign-mark kind.List t.LBracket tt)

    -- and its expressions.
    pub listed₃ : {l₁ : List ℕ} {s₂ : Step} {d : State} {i₂ j₂ : ℕ} → Parsed x (nt n-list-expression ∷ []) as_items Lone b l l₁ s₂ → s₂ ≡ Next d i₂ j₂
        → Told x kind.List AnyN form.listed_rhs (tok t.RBracket ∷ []) r l (word t.list! ∷ word t.LBracket ∷ []) (tok_at x r.at ∷ tok_at x a.at ∷ []) 2 (Counts i₂) d l₁
    listed₃ p q = then-lone listed₂ p q

-- Arguments,
module _ {x : Text} {st : State} (l : List ℕ) (y : Near x st) where
  pub arguments₀ : Amid x 0 AnyN (nt n-arguments ∷ []) (tok t.LParen ∷ nt n-list-expression ∷ tok t.RParen ∷ []) st l [] [] 0 st l
  arguments₀ =
      turns (tok t.LParen ∷ nt n-list-expression ∷ tok t.RParen ∷ []) (starts 0 AnyN (nt n-arguments ∷ []) l y.stands) armed.flat-args (armed.args-rule st.class)

  -- their `(`,
  module _ {s₁ : Step} {a : State} {i₁ j₁ : ℕ} (p₁ : Eaten x st t.LParen s₁) (q₁ : s₁ ≡ Next a i₁ j₁) where
    pub arguments₁ : Amid x 0 AnyN (nt n-arguments ∷ []) (nt n-list-expression ∷ tok t.RParen ∷ []) st l (word t.LParen ∷ []) (tok_at x st.at ∷ []) 1 a l
    arguments₁ = then-eats arguments₀ (omega arith) p₁ q₁ (sign-mark 0 t.LParen tt)

    -- and their expressions.
    pub arguments₂ : {l₁ : List ℕ} {s₂ : Step} {b : State} {i₂ j₂ : ℕ} → Parsed x (nt n-list-expression ∷ []) as_items Lone a l l₁ s₂ → s₂ ≡ Next b i₂ j₂
        → Told x 0 AnyN (nt n-arguments ∷ []) (tok t.RParen ∷ []) st l (word t.LParen ∷ []) (tok_at x st.at ∷ []) 1 (Counts i₂) b l₁
    arguments₂ p q = then-lone arguments₁ p q

-- The body of an arm is a block,
module _ {x : Text} {st : State} (l : List ℕ) (y : Ready x st) where
  module _ (h : st.class ≡ t.LBrace) where
    pub block_body : Amid x 0 AnyN (nt n-arm-choice ∷ []) (nt n-block ∷ nt n-arm-choice-optional-Comma ∷ []) st l [] [] 0 st l
    block_body =
        turns (nt n-block ∷ nt n-arm-choice-optional-Comma ∷ []) (starts 0 AnyN (nt n-arm-choice ∷ []) l y.stands) armed.body-choice.flat (armed.body-choice.there st.class h)

    pub block_body₁ : {l₁ : List ℕ} {s : Step} {a : State} {i j : ℕ} → Parsed x (nt n-block ∷ []) as_items (Node ExprKind) st l l₁ s → s ≡ Next a i j
        → Noded x 0 AnyN (nt n-arm-choice ∷ []) (nt n-arm-choice-optional-Comma ∷ []) st l [] [] 0 ExprKind a l₁
    block_body₁ p q = then-node block_body p q

  -- or another expression and a comma.
  module _ (h : st.class ≡ t.LBrace → ⊥) where
    pub other_body : Amid x 0 AnyN (nt n-arm-choice ∷ []) (nt n-single ∷ tok t.Comma ∷ []) st l [] [] 0 st l
    other_body =
        turns (nt n-single ∷ tok t.Comma ∷ []) (starts 0 AnyN (nt n-arm-choice ∷ []) l y.stands) armed.body-choice.flat (armed.body-choice.elsewhere st.class h)

    pub other_body₁ : {l₁ : List ℕ} {s : Step} {a : State} {i j : ℕ} → Parsed x (nt n-single ∷ []) as_items (Node ExprKind) st l l₁ s → s ≡ Next a i j
        → Noded x 0 AnyN (nt n-arm-choice ∷ []) (tok t.Comma ∷ []) st l [] [] 0 ExprKind a l₁
    other_body₁ p q = then-node other_body p q
