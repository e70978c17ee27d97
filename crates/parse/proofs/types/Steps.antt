-- The steps of the types that have a rule in brackets: an array, and the three that `<` may follow.
-- Assumes nothing.
use Rattle.std.proofs.Common.{◌≡◌, ℕ, ◌<◌, T, List, [], ◌∷◌, ◌++◌, arith}
use mathlib.Core.Option.{Option}
use Rattle.theory.specs.Grammar.{Sym, tok, nt}
use Rattle.own.specs.Law.{word, child}
use Rattle.own.specs.Kinds as kind
use Rattle.grammar.specs.Shapes.TablesIndex.{n-type}
use Rattle.grammar.specs.Records.Faults.{Fault}
use Rattle.lexer.specs.Classes as t
use Rattle.parse.specs.Contract.{Text, tok_at, Moved, Eaten, as_items, Parsed, Node, TypeKind}
use Rattle.parse.specs.declared.State.{State}
use Rattle.parse.specs.declared.Step.{Step}
use Rattle.parse.specs.declared.Step.TheVariants.{Next}
use Rattle.parse.specs.Choice as choice
use Rattle.parse.proofs.choice.Chosen.{Optionally}
use Rattle.parse.proofs.Rule.Marks.{keeping, sign-mark, keeping-mark}
use Rattle.parse.proofs.Rule.Amid.{Amid}
use Rattle.parse.proofs.Rule.Closing.{Opened}
use Rattle.parse.proofs.Rule.Chain.{Noded, turns, then-node, then-eats, advances}
use Rattle.parse.proofs.Rule.Commas.{AnyN}
use Rattle.parse.proofs.Rule.Entered.{Entered, first}
use Rattle.parse.proofs.types.Forms as form

-- What `Either`, `Option` and `List` begin with: the word,
module _ {x : Text} {st r a : State} {F : Option Fault} {A c : ℕ} {rest : List Sym} (l : List ℕ) (o : Opened x st r F) (e : st.class ≡ c) (pos : 0 < c) (z : Optionally A t.LAngle (tok t.LAngle ∷ rest)) (v : Moved x r a) where
  word_first : (K : ℕ) → T (keeping K) → Amid x K AnyN (tok c ∷ nt A ∷ []) (nt A ∷ []) r l (word c ∷ []) (tok_at x r.at ∷ []) 1 a l
  word_first K k = first K AnyN c l o e pos v (keeping-mark K c k)

  -- with nothing behind it: an alias,
  pub alone : (a.class ≡ t.LAngle → ⊥) → Amid x kind.Alias AnyN (tok c ∷ nt A ∷ []) [] r l (word c ∷ []) (tok_at x r.at ∷ []) 1 a l
  alone n = turns [] (word_first kind.Alias tt) z.flat (z.elsewhere a.class n)

  -- or with `<` and more.
  angled : {K : ℕ} {b : State} → T (keeping K) → a.class ≡ t.LAngle → Moved x a b
      → Amid x K AnyN (tok c ∷ nt A ∷ []) (rest ++ []) r l (word c ∷ word t.LAngle ∷ []) (tok_at x r.at ∷ tok_at x a.at ∷ []) 2 b l
  angled {K} k h u = advances (turns (tok t.LAngle ∷ rest) (word_first K k) z.flat (z.there a.class h)) h (omega arith) u (sign-mark K t.LAngle tt)

-- An array: `[`,
module _ {k : ℕ} {rhs : List Sym} {x : Text} {st r a : State} {F : Option Fault} (l : List ℕ) (n : Entered n-type choice.ArrayType k rhs x st r F) (v : Moved x r a) where
  pub array₁ : Amid x kind.ArrayType AnyN form.array_rhs (nt n-type ∷ tok t.Semi ∷ tok t.DecLiteral ∷ tok t.RBracket ∷ []) r l (word t.LBracket ∷ []) (tok_at x r.at ∷ []) 1 a l
  array₁ = first kind.ArrayType AnyN t.LBracket l n.opened (form.at-array st.class n.chosen) (omega arith) v (sign-mark kind.ArrayType t.LBracket tt)

  -- a type,
  module _ {l₁ : List ℕ} {s₁ : Step} {b : State} {i₁ j₁ : ℕ} (p₁ : Parsed x (nt n-type ∷ []) as_items (Node TypeKind) a l l₁ s₁) (q₁ : s₁ ≡ Next b i₁ j₁) where
    pub array₂ : Noded x kind.ArrayType AnyN form.array_rhs (tok t.Semi ∷ tok t.DecLiteral ∷ tok t.RBracket ∷ []) r l (word t.LBracket ∷ []) (tok_at x r.at ∷ []) 1 TypeKind b l₁
    array₂ = then-node array₁ p₁ q₁

    -- `;`,
    module _ {s₂ : Step} {d : State} {i₂ j₂ : ℕ} (p₂ : Eaten x b t.Semi s₂) (q₂ : s₂ ≡ Next d i₂ j₂) where
      pub array₃ : Amid x kind.ArrayType AnyN form.array_rhs (tok t.DecLiteral ∷ tok t.RBracket ∷ []) r l (word t.LBracket ∷ child array₂.kind array₂.low array₂.high array₂.first ∷ word t.Semi ∷ [])
          (tok_at x r.at ∷ tok_at x b.at ∷ []) 2 d l₁
      array₃ = then-eats array₂.amid (omega arith) p₂ q₂ (sign-mark kind.ArrayType t.Semi tt)

      -- a decimal,
      module _ {s₃ : Step} {f : State} {i₃ j₃ : ℕ} (p₃ : Eaten x d t.DecLiteral s₃) (q₃ : s₃ ≡ Next f i₃ j₃) where
        pub array₄ : Amid x kind.ArrayType AnyN form.array_rhs (tok t.RBracket ∷ []) r l (word t.LBracket ∷ child array₂.kind array₂.low array₂.high array₂.first ∷ word t.Semi ∷ word t.DecLiteral ∷ [])
            (tok_at x r.at ∷ tok_at x b.at ∷ tok_at x d.at ∷ []) 3 f l₁
        array₄ = then-eats array₃ (omega arith) p₃ q₃ (keeping-mark kind.ArrayType t.DecLiteral tt)

        -- `]`.
        pub array₅ : {s₄ : Step} {g : State} {i₄ j₄ : ℕ} → Eaten x f t.RBracket s₄ → s₄ ≡ Next g i₄ j₄
            → Amid x kind.ArrayType AnyN form.array_rhs [] r l (word t.LBracket ∷ child array₂.kind array₂.low array₂.high array₂.first ∷ word t.Semi ∷ word t.DecLiteral ∷ word t.RBracket ∷ [])
            (tok_at x r.at ∷ tok_at x b.at ∷ tok_at x d.at ∷ tok_at x f.at ∷ []) 4 g l₁
        array₅ p q = then-eats array₄ (omega arith) p q (sign-mark kind.ArrayType t.RBracket tt)

-- `Either` and `<`,
module _ {k : ℕ} {rhs : List Sym} {x : Text} {st r a b : State} {F : Option Fault} (l : List ℕ) (n : Entered n-type choice.EitherType k rhs x st r F) (v : Moved x r a) (h : a.class ≡ t.LAngle) (u : Moved x a b) where
  pub either₁ : Amid x kind.EitherType AnyN form.either_rhs (nt n-type ∷ tok t.Comma ∷ nt n-type ∷ tok t.RAngle ∷ []) r l (word t.Either ∷ word t.LAngle ∷ []) (tok_at x r.at ∷ tok_at x a.at ∷ []) 2 b l
  either₁ = angled l n.opened (form.at-either st.class n.chosen) (omega arith) form.either-optional v tt h u

  -- a type,
  module _ {l₁ : List ℕ} {s₁ : Step} {d : State} {i₁ j₁ : ℕ} (p₁ : Parsed x (nt n-type ∷ []) as_items (Node TypeKind) b l l₁ s₁) (q₁ : s₁ ≡ Next d i₁ j₁) where
    pub either₂ : Noded x kind.EitherType AnyN form.either_rhs (tok t.Comma ∷ nt n-type ∷ tok t.RAngle ∷ []) r l (word t.Either ∷ word t.LAngle ∷ []) (tok_at x r.at ∷ tok_at x a.at ∷ []) 2 TypeKind d l₁
    either₂ = then-node either₁ p₁ q₁

    -- a comma,
    module _ {s₂ : Step} {f : State} {i₂ j₂ : ℕ} (p₂ : Eaten x d t.Comma s₂) (q₂ : s₂ ≡ Next f i₂ j₂) where
      pub either₃ : Amid x kind.EitherType AnyN form.either_rhs (nt n-type ∷ tok t.RAngle ∷ []) r l (word t.Either ∷ word t.LAngle ∷ child either₂.kind either₂.low either₂.high either₂.first ∷ word t.Comma ∷ [])
          (tok_at x r.at ∷ tok_at x a.at ∷ tok_at x d.at ∷ []) 3 f l₁
      either₃ = then-eats either₂.amid (omega arith) p₂ q₂ (sign-mark kind.EitherType t.Comma tt)

      -- a type,
      module _ {l₂ : List ℕ} {s₃ : Step} {g : State} {i₃ j₃ : ℕ} (p₃ : Parsed x (nt n-type ∷ []) as_items (Node TypeKind) f l₁ l₂ s₃) (q₃ : s₃ ≡ Next g i₃ j₃) where
        pub either₄ : Noded x kind.EitherType AnyN form.either_rhs (tok t.RAngle ∷ []) r l (word t.Either ∷ word t.LAngle ∷ child either₂.kind either₂.low either₂.high either₂.first ∷ word t.Comma ∷ [])
            (tok_at x r.at ∷ tok_at x a.at ∷ tok_at x d.at ∷ []) 3 TypeKind g l₂
        either₄ = then-node either₃ p₃ q₃

        -- `>`.
        pub either₅ : {s₄ : Step} {h : State} {i₄ j₄ : ℕ} → Eaten x g t.RAngle s₄ → s₄ ≡ Next h i₄ j₄
            → Amid x kind.EitherType AnyN form.either_rhs [] r l (word t.Either ∷ word t.LAngle ∷ child either₂.kind either₂.low either₂.high either₂.first ∷ word t.Comma ∷ child either₄.kind either₄.low either₄.high either₄.first ∷ word t.RAngle ∷ [])
            (tok_at x r.at ∷ tok_at x a.at ∷ tok_at x d.at ∷ tok_at x g.at ∷ []) 4 h l₂
        either₅ p q = then-eats either₄.amid (omega arith) p q (sign-mark kind.EitherType t.RAngle tt)

-- `Option` and `<`,
module _ {k : ℕ} {rhs : List Sym} {x : Text} {st r a b : State} {F : Option Fault} (l : List ℕ) (n : Entered n-type choice.OptionType k rhs x st r F) (v : Moved x r a) (h : a.class ≡ t.LAngle) (u : Moved x a b) where
  pub option₁ : Amid x kind.OptionType AnyN form.option_rhs (nt n-type ∷ tok t.RAngle ∷ []) r l (word t.Option ∷ word t.LAngle ∷ []) (tok_at x r.at ∷ tok_at x a.at ∷ []) 2 b l
  option₁ = angled l n.opened (form.at_option st.class n.chosen) (omega arith) form.option-optional v tt h u

  -- a type,
  module _ {l₁ : List ℕ} {s₁ : Step} {d : State} {i₁ j₁ : ℕ} (p₁ : Parsed x (nt n-type ∷ []) as_items (Node TypeKind) b l l₁ s₁) (q₁ : s₁ ≡ Next d i₁ j₁) where
    pub option₂ : Noded x kind.OptionType AnyN form.option_rhs (tok t.RAngle ∷ []) r l (word t.Option ∷ word t.LAngle ∷ []) (tok_at x r.at ∷ tok_at x a.at ∷ []) 2 TypeKind d l₁
    option₂ = then-node option₁ p₁ q₁

    -- `>`.
    pub option₃ : {s₂ : Step} {f : State} {i₂ j₂ : ℕ} → Eaten x d t.RAngle s₂ → s₂ ≡ Next f i₂ j₂
        → Amid x kind.OptionType AnyN form.option_rhs [] r l (word t.Option ∷ word t.LAngle ∷ child option₂.kind option₂.low option₂.high option₂.first ∷ word t.RAngle ∷ []) (tok_at x r.at ∷ tok_at x a.at ∷ tok_at x d.at ∷ []) 3 f l₁
    option₃ p q = then-eats option₂.amid (omega arith) p q (sign-mark kind.OptionType t.RAngle tt)

-- `List` and `<`,
module _ {k : ℕ} {rhs : List Sym} {x : Text} {st r a b : State} {F : Option Fault} (l : List ℕ) (n : Entered n-type choice.ListType k rhs x st r F) (v : Moved x r a) (h : a.class ≡ t.LAngle) (u : Moved x a b) where
  pub list₁ : Amid x kind.ListType AnyN form.list_rhs (nt n-type ∷ tok t.Comma ∷ tok t.DecLiteral ∷ tok t.RAngle ∷ []) r l (word t.List ∷ word t.LAngle ∷ []) (tok_at x r.at ∷ tok_at x a.at ∷ []) 2 b l
  list₁ = angled l n.opened (form.at-list st.class n.chosen) (omega arith) form.list-optional v tt h u

  -- a type,
  module _ {l₁ : List ℕ} {s₁ : Step} {d : State} {i₁ j₁ : ℕ} (p₁ : Parsed x (nt n-type ∷ []) as_items (Node TypeKind) b l l₁ s₁) (q₁ : s₁ ≡ Next d i₁ j₁) where
    pub list₂ : Noded x kind.ListType AnyN form.list_rhs (tok t.Comma ∷ tok t.DecLiteral ∷ tok t.RAngle ∷ []) r l (word t.List ∷ word t.LAngle ∷ []) (tok_at x r.at ∷ tok_at x a.at ∷ []) 2 TypeKind d l₁
    list₂ = then-node list₁ p₁ q₁

    -- a comma,
    module _ {s₂ : Step} {f : State} {i₂ j₂ : ℕ} (p₂ : Eaten x d t.Comma s₂) (q₂ : s₂ ≡ Next f i₂ j₂) where
      pub list₃ : Amid x kind.ListType AnyN form.list_rhs (tok t.DecLiteral ∷ tok t.RAngle ∷ []) r l (word t.List ∷ word t.LAngle ∷ child list₂.kind list₂.low list₂.high list₂.first ∷ word t.Comma ∷ [])
          (tok_at x r.at ∷ tok_at x a.at ∷ tok_at x d.at ∷ []) 3 f l₁
      list₃ = then-eats list₂.amid (omega arith) p₂ q₂ (sign-mark kind.ListType t.Comma tt)

      -- a decimal,
      module _ {s₃ : Step} {g : State} {i₃ j₃ : ℕ} (p₃ : Eaten x f t.DecLiteral s₃) (q₃ : s₃ ≡ Next g i₃ j₃) where
        pub list₄ : Amid x kind.ListType AnyN form.list_rhs (tok t.RAngle ∷ []) r l (word t.List ∷ word t.LAngle ∷ child list₂.kind list₂.low list₂.high list₂.first ∷ word t.Comma ∷ word t.DecLiteral ∷ [])
            (tok_at x r.at ∷ tok_at x a.at ∷ tok_at x d.at ∷ tok_at x f.at ∷ []) 4 g l₁
        list₄ = then-eats list₃ (omega arith) p₃ q₃ (keeping-mark kind.ListType t.DecLiteral tt)

        -- `>`.
        pub list₅ : {s₄ : Step} {h : State} {i₄ j₄ : ℕ} → Eaten x g t.RAngle s₄ → s₄ ≡ Next h i₄ j₄
            → Amid x kind.ListType AnyN form.list_rhs [] r l (word t.List ∷ word t.LAngle ∷ child list₂.kind list₂.low list₂.high list₂.first ∷ word t.Comma ∷ word t.DecLiteral ∷ word t.RAngle ∷ [])
            (tok_at x r.at ∷ tok_at x a.at ∷ tok_at x d.at ∷ tok_at x f.at ∷ tok_at x g.at ∷ []) 5 h l₁
        list₅ p q = then-eats list₄ (omega arith) p q (sign-mark kind.ListType t.RAngle tt)
