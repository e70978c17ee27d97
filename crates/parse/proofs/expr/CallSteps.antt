-- The steps of calls of a name, of a wrapper, and of a macro or a jet; and those of a path.
-- Assumes nothing.
use Rattle.std.proofs.Common.{◌≡◌, ℕ, true, T, List, [], ◌∷◌, refl}
use mathlib.Core.Option.{Option}
use Rattle.theory.specs.Grammar.{Sym, nt}
use Rattle.own.specs.Tree.{Tok}
use Rattle.own.specs.Law.{Sort, word}
use Rattle.own.specs.Kinds as kind
use Rattle.grammar.specs.Shapes.ShapeKind.{NamedShape, SimpleCallShape}
use Rattle.grammar.specs.Shapes.TablesIndex.{n-arguments, n-identifier, n-named-optional, n-path, n-path-many-DoubleColon, n-path-optional, n-single}
use Rattle.grammar.specs.Records.Faults.{Fault}
use Rattle.kinds.specs.Rules.{wrappers}
use Rattle.lexer.specs.Classes as t
use Rattle.text.specs.Lists.{has}
use Rattle.parse.specs.Contract.{Text, tok_at, kept, Ready, Moved, Called, Names, as_items, Parsed, reserved}
use Rattle.parse.specs.declared.State.{State}
use Rattle.parse.specs.declared.Step.{Step}
use Rattle.parse.specs.declared.Step.TheVariants.{Next}
use Rattle.parse.specs.Choice as choice
use Rattle.parse.proofs.Rule.Amid.{Amid}
use Rattle.parse.proofs.Rule.Chain.{turns}
use Rattle.parse.proofs.Rule.Marks.{keeping, keeping-mark}
use Rattle.parse.proofs.Rule.Entered as entered
use Rattle.parse.proofs.Rule.Entered.{Entered}
use Rattle.parse.proofs.Rule.Commas.{AnyN}
use Rattle.parse.proofs.Rule.Told.{Told}
use Rattle.parse.proofs.names.Chain.{NamePieces, then-names}
use Rattle.parse.proofs.expr.CallForms as call
use Rattle.parse.proofs.expr.CallLaws as law
use Rattle.parse.proofs.expr.NameRules.{wrapper-chosen}

-- A macro or a jet, whose arguments follow.
module _ {x : Text} {st r a b : State} {F : Option Fault} {l l' : List ℕ} where
  pub simple₁ : Entered n-single choice.SimpleCall SimpleCallShape call.simple_rhs x st r F → Moved x r a → Called st a l l' b
      → law.Begins x AnyN call.simple_rhs (nt n-arguments ∷ []) r l st.class a b l'
  simple₁ n v d = law.first-called n.ready n.opened (call.for-simple st.class n.chosen) AnyN (nt n-arguments ∷ []) (call.simple-apart st.class n.chosen) v d

  -- The name of a call,
  pub named₁ : Entered n-single choice.Named NamedShape call.named_rhs x st r F → Moved x r a → Called st a l l' b
      → law.Begins x AnyN call.named_rhs (nt n-named-optional ∷ []) r l st.class a b l'
  named₁ n v d = law.first-called n.ready n.opened (call.for-named st.class n.chosen) AnyN (nt n-named-optional ∷ []) (call.named-apart st.class n.chosen) v d

-- behind which arguments follow.
module _ {x : Text} {K : ℕ} {N : ℕ → Type 0} {full left : List Sym} {st : State} {l : List ℕ} {w : List Sort} {ms : List Tok} {m : ℕ} {st₁ : State} {l₁ : List ℕ} where
  pub into-args : Amid x K N full (nt n-named-optional ∷ left) st l w ms m st₁ l₁ → st₁.class ≡ t.LParen → Amid x K N full (nt n-arguments ∷ left) st l w ms m st₁ l₁
  into-args d k = turns (nt n-arguments ∷ []) d call.flat-named (call.named-args k)

-- A wrapper begins as a name does.
pub wrapper₀ : {x : Text} {st : State} → Ready x st → has wrappers st.class ≡ true → Entered n-single choice.Named NamedShape call.named_rhs x st (reserved st) (kept st)
wrapper₀ {st = st} y h = entered.by call.named_rule y (wrapper-chosen st.class h) refl

-- A name as a mark of a record that keeps its names,
module _ {x : Text} {st r a : State} {F : Option Fault} (K : ℕ) (h : T (keeping K)) (l : List ℕ) (n : Entered n-single choice.Named NamedShape call.named_rhs x st r F) (v : Moved x r a) where
  pub marked₁ : Amid x K AnyN call.named_rhs (nt n-named-optional ∷ []) r l (word st.class ∷ []) (tok_at x r.at ∷ []) 1 a l
  marked₁ = law.first-mark n.ready n.opened (call.for-named st.class n.chosen) K AnyN (nt n-named-optional ∷ []) l v (keeping-mark K st.class h)

  -- as it is in a wrapper.
  pub wrapped₁ : a.class ≡ t.LParen → Amid x K AnyN call.named_rhs (nt n-arguments ∷ []) r l (word st.class ∷ []) (tok_at x r.at ∷ []) 1 a l
  wrapped₁ k = into-args marked₁ k

-- A path: its names.
module _ {x : Text} {st a : State} {l l₁ : List ℕ} {s : Step} {i j : ℕ} where
  pub path₁ : Ready x st → Parsed x (nt n-identifier ∷ nt n-path-many-DoubleColon ∷ []) as_items Names st l l₁ s → s ≡ Next a i j
      → Told x kind.EnumConstruction AnyN (nt n-path ∷ []) (nt n-path-optional ∷ []) st l [] [] 0 (NamePieces i) a l₁
  path₁ y p q = then-names (law.path-starts l y) p q law.names-kind
