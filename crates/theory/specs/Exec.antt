-- The parser as a function that antt computes: the symbols are read from a place as items, or are stuck at a place, with fuel against
-- which the recursion goes. What it answers holds (`right-exec`); that the fuel is enough is shown in Fuel.antt.
-- Assumes nothing.
use Rattle.std.specs.Prelude.{◌≡◌, Bool, length, get_or}
use Rattle.std.proofs.Math.Path.{refl}
use Rattle.std.proofs.Math.Bool.{true, false}
use mathlib.Core.List.{List, [], ◌∷◌, ◌++◌, append_assoc}
use Rattle.std.proofs.Math.Option.{Option, none, some}
use Prim.Native.Nat.{ℕ, zero, suc, ◌+◌, ◌≤◌, ◌<◌}
use Rattle.std.proofs.Common.{arith}
use Rattle.std.proofs.Math.Dec.{eqb, ltb}
use Rattle.std.proofs.Math.ListN.{get_elem?}
use borrow.Author.Tests.{eqb-true, eqb-false, ltb-true, ltb-false}
use Rattle.theory.specs.Grammar.{Sym, tok, nt, Row, alt, pick}
use Rattle.theory.specs.Machine.{choose, expand}
use Rattle.theory.specs.Ebnf.{Ex, child, Ebnf, kinds_of, Items, nil, word, sub, Sort, token, node, flat, sort_of}
use Rattle.theory.specs.Same.{ex, sort-node}
use Rattle.theory.specs.Walk.{Reads, n-end, n-tok, n-flat, n-sub, Sticks, k_tok, k_nt, k_eat, k_in, reads-sticks}

-- An answer: the items and the place after them; the place where it is stuck; out of fuel.
pub data Out : Type 0 where
  went : Items → ℕ → Out
  halted : ℕ → Out
  tired : Out

-- A token before what was read.
unfoldable pub then_word : ℕ → Out → Out
then_word b (went r j) = went (word b r) j
then_word b (halted p) = halted p
then_word b tired = tired

-- A node before what was read.
unfoldable pub then_rest : ℕ → Items → Out → Out
then_rest k js (went r j) = went (sub k js r) j
then_rest k js (halted p) = halted p
then_rest k js tired = tired

-- A node of the kind, if its items were read, and then what the function reads after it.
unfoldable pub then_sub : Option ℕ → Out → (ℕ → Out) → Out
then_sub none o e = tired
then_sub (some k) (went js a) e = then_rest k js (e a)
then_sub (some k) (halted p) e = halted p
then_sub (some k) tired e = tired

module _ (t : Ebnf) (m : List Ex) (g : List Row) where
  -- The symbols read from a place among the tokens s. (By `elim`, since `cond` would compute both branches.)
  unfoldable pub exec : List ℕ → ℕ → List Sym → ℕ → Out
  exec s zero σ at = tired
  exec s (suc f) [] at = went nil at
  exec s (suc f) (tok b ∷ σ) at =
      elim (ltb at (length s)) [
        | true ↦ elim (eqb (get_or s at 0) b) [ true ↦ then_word b (exec s f σ (at + 1)) | false ↦ halted at ]
        | false ↦ halted at
      ]
  exec s (suc f) (nt A ∷ σ) at =
      elim (expand g A (get_or s at 0)) [
        | none ↦ halted at
        | some rhs ↦
            elim (sort_of (ex m (nt A))) [
              | token c ↦ tired
              | node C ↦ then_sub (pick (kinds_of t C) (choose g A (get_or s at 0))) (exec s f rhs at) (λ a. exec s f σ a)
              | flat ↦ exec s f (rhs ++ σ) at
            ]
      ]

  module _ (s : List ℕ) where
    -- What an answer says: read as these items, or stuck, whatever comes after.
    abbrev pub Right : List Sym → ℕ → Out → Type 0
    Right σ at (went r j) = Reads t m g s σ at r j
    Right σ at (halted p) = (τ : List Sym) → Sticks t m g s (σ ++ τ) at p
    Right σ at tired = Unit {0}

    right-word : (b : ℕ) (σ : List Sym) (at : ℕ) (o : Out) → at < length s → get_or s at 0 ≡ b → Right σ (at + 1) o → Right (tok b ∷ σ) at (then_word b o)
    unfolding then_word
    right-word b σ at (went r j) h e k = n-tok h e k
    right-word b σ at (halted p) h e k = λ τ. k_eat h e (k τ)
    right-word b σ at tired h e k = tt

    right-flat : (A : ℕ) (σ rhs : List Sym) (at : ℕ) (o : Out) → sort_of (ex m (nt A)) ≡ flat → expand g A (get_or s at 0) ≡ some rhs → Right (rhs ++ σ) at o → Right (nt A ∷ σ) at o
    right-flat A σ rhs at (went r j) f e k = n-flat f e k
    right-flat A σ rhs at (halted p) f e k = λ τ. k_in e (rw append_assoc at (k τ))
    right-flat A σ rhs at tired f e k = tt

    right-rest : (A C i k : ℕ) (σ rhs : List Sym) (at : ℕ) (js : Items) (a : ℕ) (o : Out) → ex m (nt A) ≡ child C → get_elem? (kinds_of t C) i ≡ some k → choose g A (get_or s at 0) ≡ suc i
        → alt g A (suc i) ≡ some rhs → Reads t m g s rhs at js a → Right σ a o → Right (nt A ∷ σ) at (then_rest k js o)
    unfolding then_rest
    right-rest A C i k σ rhs at js a (went r j) c x h e p q = n-sub C i k c x h e p q
    right-rest A C i k σ rhs at js a (halted p₀) c x h e p q = λ τ. let z : expand g A (get_or s at 0) ≡ some rhs = rw h e in k_in z (reads-sticks t m g s p (q τ))
    right-rest A C i k σ rhs at js a tired c x h e p q = tt

    right-sub : (A C i : ℕ) (σ rhs : List Sym) (at : ℕ) (ko : Option ℕ) (o : Out) (e : ℕ → Out) → ex m (nt A) ≡ child C → get_elem? (kinds_of t C) i ≡ ko → choose g A (get_or s at 0) ≡ suc i
        → alt g A (suc i) ≡ some rhs → Right rhs at o → ((a : ℕ) → Right σ a (e a)) → Right (nt A ∷ σ) at (then_sub ko o e)
    unfolding then_sub
    right-sub A C i σ rhs at none o e c x h w p q = tt
    right-sub A C i σ rhs at (some k) (went js a) e c x h w p q = right-rest A C i k σ rhs at js a (e a) c x h w p (q a)
    right-sub A C i σ rhs at (some k) (halted p₀) e c x h w p q = λ τ. let z : expand g A (get_or s at 0) ≡ some rhs = rw h w in k_in z (p (σ ++ τ))
    right-sub A C i σ rhs at (some k) tired e c x h w p q = tt

    right-node : (A C : ℕ) (σ rhs : List Sym) (at n : ℕ) (o : Out) (e : ℕ → Out) → ex m (nt A) ≡ child C → choose g A (get_or s at 0) ≡ n → alt g A n ≡ some rhs → Right rhs at o
        → ((a : ℕ) → Right σ a (e a)) → Right (nt A ∷ σ) at (then_sub (pick (kinds_of t C) n) o e)
    unfolding pick then_sub
    right-node A C σ rhs at zero o e c h w p q = tt
    right-node A C σ rhs at (suc i) o e c h w p q = right-sub A C i σ rhs at (get_elem? (kinds_of t C) i) o e c refl h w p q

    past : {a b : ℕ} → a < b → b ≤ a → ⊥
    past h l = omega arith

    -- What the function answers holds.
    pub right-exec : (f : ℕ) (σ : List Sym) (at : ℕ) → Right σ at (exec s f σ at)
    unfolding exec
    right-exec zero σ at = tt
    right-exec (suc f) [] at = n-end
    right-exec (suc f) (tok b ∷ σ) at = go (ltb at (length s)) refl (eqb (get_or s at 0) b) refl (right-exec f σ (at + 1))
      where
        go : (x : Bool) → ltb at (length s) ≡ x → (y : Bool) → eqb (get_or s at 0) b ≡ y → Right σ (at + 1) (exec s f σ (at + 1))
            → Right (tok b ∷ σ) at (elim x [ true ↦ elim y [ true ↦ then_word b (exec s f σ (at + 1)) | false ↦ halted at ] | false ↦ halted at ])
        go true p true q ih = right-word b σ at (exec s f σ (at + 1)) (ltb-true at (length s) p) (eqb-true (get_or s at 0) b q) ih
        go true p false q ih = λ τ. k_tok (λ h. eqb-false (get_or s at 0) b q)
        go false p y q ih = λ τ. k_tok (λ h e. absurd (past h (ltb-false at (length s) p)))
    right-exec (suc f) (nt A ∷ σ) at = go (expand g A (get_or s at 0)) refl (λ τ a. right-exec f τ a)
      where
        by : (rhs : List Sym) → expand g A (get_or s at 0) ≡ some rhs → ((τ : List Sym) (a : ℕ) → Right τ a (exec s f τ a)) → (x : Sort) → sort_of (ex m (nt A)) ≡ x
            → Right (nt A ∷ σ) at (elim x [ token c ↦ tired | node C ↦ then_sub (pick (kinds_of t C) (choose g A (get_or s at 0))) (exec s f rhs at) (λ a. exec s f σ a) | flat ↦ exec s f (rhs ++ σ) at ])
        by rhs e ih (token c) x = tt
        by rhs e ih (node C) x = right-node A C σ rhs at (choose g A (get_or s at 0)) (exec s f rhs at) (λ a. exec s f σ a) (sort-node (ex m (nt A)) C x) refl e (ih rhs at) (ih σ)
        by rhs e ih flat x = right-flat A σ rhs at (exec s f (rhs ++ σ) at) x e (ih (rhs ++ σ) at)

        go : (o : Option (List Sym)) → expand g A (get_or s at 0) ≡ o → ((τ : List Sym) (a : ℕ) → Right τ a (exec s f τ a)) →
            Right (nt A ∷ σ) at (elim o [ none ↦ halted at | some rhs ↦ elim (sort_of (ex m (nt A))) [ token c ↦ tired | node C ↦ then_sub (pick (kinds_of t C) (choose g A (get_or s at 0))) (exec s f rhs at) (λ a. exec s f σ a) | flat ↦ exec s f (rhs ++ σ) at ] ])
        go none e ih = λ τ. k_nt e
        go (some rhs) e ih = by rhs e ih (sort_of (ex m (nt A))) refl
