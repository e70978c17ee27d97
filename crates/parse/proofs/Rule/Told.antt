-- A step of a rule of whose pieces something is known.
-- Assumes nothing.
use Rattle.std.proofs.Common.{◌≡◌, ℕ, ◌+◌, List, [], ◌∷◌, ◌++◌}
use Rattle.theory.specs.Grammar.{Sym}
use Rattle.own.specs.Tree.{Tok, marks}
use Rattle.own.specs.Law.{Sort, sorts}
use Rattle.grammar.specs.Records.Records.{arranged}
use Rattle.parse.specs.Contract.{Text, raw, Info, as_items, Went}
use Rattle.parse.specs.declared.State.{State}
use Rattle.parse.proofs.Rule.Amid.{Amid, went_on}

-- What a function read: W are its pieces, of which Q holds, `more` their tokens, k of which are no records.
pub record Told (x : Text) (K : ℕ) (N : ℕ → Type 0) (full left : List Sym) (st : State) (l : List ℕ) (w : List Sort) (ms : List Tok) (m : ℕ) (Q : List Sort → Type 0) (st₂ : State) (l₂ : List ℕ) : Type 0 where
  pub W : List Sort
  pub more : List Tok
  pub k : ℕ
  pub so : Q W
  pub amid : Amid x K N full left st l (w ++ W) (ms ++ more) (m + k) st₂ l₂

module _ {x : Text} {K : ℕ} {N : ℕ → Type 0} {full : List Sym} {st : State} {l : List ℕ} {w : List Sort} {ms : List Tok} {m : ℕ} {st₁ : State} {l₁ : List ℕ} {I : Info} {st₂ : State} {l₂ : List ℕ} {a b : ℕ} {Q : List Sort → Type 0} where
  pub told-on : (σ left : List Sym) → Amid x K N full (σ ++ left) st l w ms m st₁ l₁ → (q : Went x σ as_items I st₁ l₁ st₂ l₂ a b)
      → ((n : ℕ) → N n → arranged K n (raw x st₁.at q.items) ≡ q.L) → Q (sorts (raw x st₁.at q.items)) → Told x K N full left st l w ms m Q st₂ l₂
  told-on σ left d q f so = record { W = sorts (raw x st₁.at q.items); more = marks (raw x st₁.at q.items); k = q.m; so = so; amid = went_on σ left d q f }

  -- The same of one symbol.
  pub then-told : {s : Sym} {left : List Sym} → Amid x K N full (s ∷ left) st l w ms m st₁ l₁ → (q : Went x (s ∷ []) as_items I st₁ l₁ st₂ l₂ a b)
      → ((n : ℕ) → N n → arranged K n (raw x st₁.at q.items) ≡ q.L) → Q (sorts (raw x st₁.at q.items)) → Told x K N full left st l w ms m Q st₂ l₂
  then-told {s} {left} d q f so = told-on (s ∷ []) left d q f so
