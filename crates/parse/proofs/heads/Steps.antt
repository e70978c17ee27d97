-- The steps of arms' heads: a built-in word alone, or with a pair in parentheses; a path and its names; a pair, and pairs.
-- Assumes nothing.
use Rattle.std.proofs.Common.{◌≡◌, ℕ, ◌+◌, ◌<◌, ◌≤◌, List, [], ◌∷◌, ◌++◌, refl, arith}
use mathlib.Core.Option.{some}
use Rattle.theory.specs.Grammar.{tok, nt}
use Rattle.theory.specs.Machine.{expand}
use Rattle.own.specs.Tree.{marks}
use Rattle.own.specs.Law.{word, sorts}
use Rattle.own.specs.Arms as arm
use Rattle.own.specs.Kinds as kind
use Rattle.lexer.specs.Classes as t
use Rattle.grammar.specs.Shapes.Tables.{table}
use Rattle.grammar.specs.Shapes.TablesIndex.{n-head, n-head-choice, n-head-word, n-head_path, n-head_path-optional-LParen, n-identifier, n-pair, n-path-many-DoubleColon, n-pattern, n-tail-pair, n-type}
use Rattle.grammar.specs.Records.Records.{place_in, arm_words}
use Rattle.parse.specs.Contract.{Text, tok_at, raw, head_sort, Ready, Moved, Eaten, as_items, Went, Parsed, Node, PatternKind, Names}
use Rattle.parse.specs.Infos.{ArmHead, Pairs, MorePairs}
use Rattle.parse.specs.declared.State.{State}
use Rattle.parse.specs.declared.Step.{Step}
use Rattle.parse.specs.declared.Step.TheVariants.{Next}
use Rattle.parse.specs.Choice as choice
use Rattle.parse.proofs.Rule.Marks.{sign-mark, keeping-mark}
use Rattle.parse.proofs.Rule.Amid.{Amid, starts, then-went}
use Rattle.parse.proofs.Rule.Chain.{turns, advances, advances-one, then-eats}
use Rattle.parse.proofs.Rule.Commas.{AnyN}
use Rattle.parse.proofs.Rule.Told.{Told}
use Rattle.parse.proofs.names.Chain.{NamePieces, then-names}
use Rattle.parse.proofs.heads.Forms as form
use Rattle.parse.proofs.heads.PairForms as pairs
use Rattle.parse.proofs.heads.PairForms.{On}

module _ {x : Text} {st : State} (l : List ℕ) (y : Ready x st) where
  -- A built-in word alone; b is its low.
  pub word-went : {a : State} (c b : ℕ) → expand table n-head st.class ≡ some (tok c ∷ []) → st.class ≡ c → 0 < c → Moved x st a → (c ≡ t.DoubleColon → ⊥) → place_in 0 arm.Left arm_words c ≡ b → arm.Left ≤ b → b ≤ arm.True
      → Went x (nt n-head ∷ []) as_items ArmHead st l a l 0 b
  word-went c b row e pos v n p one six =
      form.built_in b (advances (turns (tok c ∷ []) (starts kind.BuiltinArm AnyN (nt n-head ∷ []) l y.stands) form.flat-head row) e pos v (keeping-mark kind.BuiltinArm c tt)) n form.unseen-nil p one six

  -- A built-in word and `(`,
  module _ {a b : State} (e : head_sort st.class ≡ choice.WrappedHead) (v : Moved x st a) (h : a.class ≡ t.LParen) (u : Moved x a b) where
    pub wrapped₁ : Amid x kind.BuiltinArm AnyN (nt n-head ∷ []) (nt n-pair ∷ tok t.RParen ∷ []) st l (word st.class ∷ word t.LParen ∷ []) (tok_at x st.at ∷ tok_at x a.at ∷ []) 2 b l
    wrapped₁ =
        let d0 = turns (nt n-head-word ∷ nt n-head-choice ∷ []) (starts kind.BuiltinArm AnyN (nt n-head ∷ []) l y.stands) form.flat-head (form.wrapped-row st.class e) in
        let d1 = advances-one d0 form.flat_word (form.word_row st.class e) refl (form.word-pos st.class e) v (keeping-mark kind.BuiltinArm st.class tt) in
        advances (turns (tok t.LParen ∷ nt n-pair ∷ tok t.RParen ∷ []) d1 form.after-word.flat (form.after-word.there a.class h)) h (omega arith) u (keeping-mark kind.BuiltinArm t.LParen tt)

    -- and a pair.
    pub wrapped₂ : {l₁ : List ℕ} {d : State} {i j : ℕ} (q : Went x (nt n-pair ∷ []) as_items (Pairs 1) b l d l₁ i j)
        → Amid x kind.BuiltinArm AnyN (nt n-head ∷ []) (tok t.RParen ∷ []) st l ((word st.class ∷ word t.LParen ∷ []) ++ sorts (raw x b.at q.items)) ((tok_at x st.at ∷ tok_at x a.at ∷ []) ++ marks (raw x b.at q.items)) (2 + q.m) d l₁
    wrapped₂ q = then-went wrapped₁ q (λ n g. q.info.roles kind.BuiltinArm n)

  -- A path from its first `::` on,
  pub path₀ : Amid x kind.EnumArm AnyN (nt n-head_path ∷ []) (tok t.DoubleColon ∷ nt n-identifier ∷ nt n-path-many-DoubleColon ∷ nt n-head_path-optional-LParen ∷ []) st l [] [] 0 st l
  path₀ =
      turns (tok t.DoubleColon ∷ nt n-identifier ∷ nt n-path-many-DoubleColon ∷ nt n-head_path-optional-LParen ∷ []) (starts kind.EnumArm AnyN (nt n-head_path ∷ []) l y.stands) form.flat-path (form.path-row st.class)

  module _ {s₁ : Step} {a : State} {i₁ j₁ : ℕ} (p₁ : Eaten x st t.DoubleColon s₁) (q₁ : s₁ ≡ Next a i₁ j₁) where
    pub path₁ : Amid x kind.EnumArm AnyN (nt n-head_path ∷ []) (nt n-identifier ∷ nt n-path-many-DoubleColon ∷ nt n-head_path-optional-LParen ∷ []) st l (word t.DoubleColon ∷ []) (tok_at x st.at ∷ []) 1 a l
    path₁ = then-eats path₀ (omega arith) p₁ q₁ (sign-mark kind.EnumArm t.DoubleColon tt)

    -- and its names.
    pub path₂ : {l₁ : List ℕ} {s₂ : Step} {b : State} {number j₂ : ℕ} → Parsed x (nt n-identifier ∷ nt n-path-many-DoubleColon ∷ []) as_items Names a l l₁ s₂ → s₂ ≡ Next b number j₂
        → Told x kind.EnumArm AnyN (nt n-head_path ∷ []) (nt n-head_path-optional-LParen ∷ []) st l (word t.DoubleColon ∷ []) (tok_at x st.at ∷ []) 1 (NamePieces number) b l₁
    path₂ p q = then-names path₁ p q form.enum_kind

  -- A pair: a pattern,
  pub pair₀ : On x (nt n-pair ∷ []) (nt n-pattern ∷ tok t.Colon ∷ nt n-type ∷ []) st l 0 st l
  pair₀ = pairs.on-turns (nt n-pattern ∷ tok t.Colon ∷ nt n-type ∷ []) (pairs.on-starts (nt n-pair ∷ []) l y) pairs.flat-pair (pairs.pair_row st.class)

  module _ {l₁ : List ℕ} {s₁ : Step} {a : State} {i₁ j₁ : ℕ} (p₁ : Parsed x (nt n-pattern ∷ []) as_items (Node PatternKind) st l l₁ s₁) (q₁ : s₁ ≡ Next a i₁ j₁) where
    pub pair₁ : On x (nt n-pair ∷ []) (tok t.Colon ∷ nt n-type ∷ []) st l 1 a l₁
    pair₁ = pairs.on-pattern pair₀ p₁ q₁

    -- and `:`.
    pub pair₂ : {s₂ : Step} {b : State} {i₂ j₂ : ℕ} → Eaten x a t.Colon s₂ → s₂ ≡ Next b i₂ j₂ → On x (nt n-pair ∷ []) (nt n-type ∷ []) st l 1 b l₁
    pair₂ p q = pairs.on-eats pair₁ tt (λ e. omega arith) p q

  -- Pairs in parentheses: `(`,
  module _ {a : State} (h : st.class ≡ t.LParen) (v : Moved x st a) where
    pub pairs₁ : On x (nt n-head_path-optional-LParen ∷ []) (nt n-pair ∷ nt n-tail-pair ∷ tok t.RParen ∷ []) st l 0 a l
    pairs₁ =
        let d = pairs.on-turns (tok t.LParen ∷ nt n-pair ∷ nt n-tail-pair ∷ tok t.RParen ∷ []) (pairs.on-starts (nt n-head_path-optional-LParen ∷ []) l y) pairs.pairs-optional.flat (pairs.pairs-optional.there st.class h) in
        pairs.on-sign d tt (λ e. omega arith) h v

    -- the first,
    module _ {l₁ : List ℕ} {s₁ : Step} {b : State} {i₁ j₁ : ℕ} (p₁ : Parsed x (nt n-pair ∷ []) as_items (Pairs 1) a l l₁ s₁) (q₁ : s₁ ≡ Next b i₁ j₁) where
      pub pairs₂ : On x (nt n-head_path-optional-LParen ∷ []) (nt n-tail-pair ∷ tok t.RParen ∷ []) st l 1 b l₁
      pairs₂ = pairs.on-pair pairs₁ p₁ q₁

      -- and those behind it.
      pub pairs₃ : {l₂ : List ℕ} {d : State} {i j : ℕ} (q : Went x (nt n-tail-pair ∷ []) as_items MorePairs b l₁ d l₂ i j) → On x (nt n-head_path-optional-LParen ∷ []) (tok t.RParen ∷ []) st l (1 + q.info.k) d l₂
      pairs₃ q = pairs.on-went q.info.k pairs₂ q q.info.pairs
