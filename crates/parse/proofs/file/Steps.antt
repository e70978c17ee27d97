-- The steps of a type item.
-- Assumes nothing.
use Rattle.std.proofs.Common.{◌≡◌, ℕ, List, [], ◌∷◌, arith}
use mathlib.Core.Option.{Option}
use Rattle.theory.specs.Grammar.{tok, nt}
use Rattle.own.specs.Law.{word, child}
use Rattle.own.specs.Kinds as kind
use Rattle.grammar.specs.Shapes.TablesIndex.{n-alias_name, n-type}
use Rattle.grammar.specs.Records.Faults.{Fault}
use Rattle.lexer.specs.Classes as t
use Rattle.parse.specs.Contract.{Text, tok_at, Moved, Eaten, as_items, Parsed, Node, TypeKind, NameAt}
use Rattle.parse.specs.declared.State.{State}
use Rattle.parse.specs.declared.Step.{Step}
use Rattle.parse.specs.declared.Step.TheVariants.{Next}
use Rattle.parse.proofs.Rule.Marks.{sign-mark}
use Rattle.parse.proofs.Rule.Amid.{Amid}
use Rattle.parse.proofs.Rule.Closing.{Opened}
use Rattle.parse.proofs.Rule.Chain.{Noded, then-node, then-eats}
use Rattle.parse.proofs.Rule.Commas.{AnyN}
use Rattle.parse.proofs.Rule.Entered.{first}
use Rattle.parse.proofs.names.Chain.{then-named}
use Rattle.parse.proofs.names.Rows.{name-role}
use Rattle.parse.proofs.names.Joined.{alias-name-class}
use Rattle.parse.proofs.file.Forms as form

-- `type`,
module _ {x : Text} {st r a : State} {F : Option Fault} (l : List ℕ) (o : Opened x st r F) (e : st.class ≡ t.«Type») (v : Moved x r a) where
  pub item₁ : Amid x kind.TypeItem AnyN form.type_item_rhs (nt n-alias_name ∷ tok t.Eq ∷ nt n-type ∷ tok t.Semi ∷ []) r l (word t.«Type» ∷ []) (tok_at x r.at ∷ []) 1 a l
  item₁ = first kind.TypeItem AnyN t.«Type» l o e (omega arith) v (sign-mark kind.TypeItem t.«Type» tt)

  -- the name,
  module _ {l₁ : List ℕ} {s₁ : Step} {b : State} {i₁ j₁ : ℕ} (p₁ : Parsed x (nt n-alias_name ∷ []) as_items (NameAt x a.at) a l l₁ s₁) (q₁ : s₁ ≡ Next b i₁ j₁) where
    pub item₂ : Amid x kind.TypeItem AnyN form.type_item_rhs (tok t.Eq ∷ nt n-type ∷ tok t.Semi ∷ []) r l (word t.«Type» ∷ word (tok_at x a.at).class ∷ []) (tok_at x r.at ∷ tok_at x a.at ∷ []) 1 b l₁
    item₂ = then-named item₁ p₁ q₁ (name-role kind.TypeItem (tok_at x a.at).class form.named-type-item (alias-name-class p₁ q₁))

    -- `=`,
    module _ {s₂ : Step} {d : State} {i₂ j₂ : ℕ} (p₂ : Eaten x b t.Eq s₂) (q₂ : s₂ ≡ Next d i₂ j₂) where
      pub item₃ : Amid x kind.TypeItem AnyN form.type_item_rhs (nt n-type ∷ tok t.Semi ∷ []) r l (word t.«Type» ∷ word (tok_at x a.at).class ∷ word t.Eq ∷ []) (tok_at x r.at ∷ tok_at x a.at ∷ tok_at x b.at ∷ []) 2 d l₁
      item₃ = then-eats item₂ (omega arith) p₂ q₂ (sign-mark kind.TypeItem t.Eq tt)

      -- a type,
      module _ {l₂ : List ℕ} {s₃ : Step} {f : State} {i₃ j₃ : ℕ} (p₃ : Parsed x (nt n-type ∷ []) as_items (Node TypeKind) d l₁ l₂ s₃) (q₃ : s₃ ≡ Next f i₃ j₃) where
        pub item₄ : Noded x kind.TypeItem AnyN form.type_item_rhs (tok t.Semi ∷ []) r l (word t.«Type» ∷ word (tok_at x a.at).class ∷ word t.Eq ∷ []) (tok_at x r.at ∷ tok_at x a.at ∷ tok_at x b.at ∷ []) 2 TypeKind f l₂
        item₄ = then-node item₃ p₃ q₃

        -- `;`.
        pub item₅ : {s₄ : Step} {g : State} {i₄ j₄ : ℕ} → Eaten x f t.Semi s₄ → s₄ ≡ Next g i₄ j₄
            → Amid x kind.TypeItem AnyN form.type_item_rhs [] r l (word t.«Type» ∷ word (tok_at x a.at).class ∷ word t.Eq ∷ child item₄.kind item₄.low item₄.high item₄.first ∷ word t.Semi ∷ [])
            (tok_at x r.at ∷ tok_at x a.at ∷ tok_at x b.at ∷ tok_at x f.at ∷ []) 3 g l₂
        item₅ p q = then-eats item₄.amid (omega arith) p q (sign-mark kind.TypeItem t.Semi tt)
