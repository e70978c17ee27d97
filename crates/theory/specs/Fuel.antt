-- The fuel that the executable parser needs, as a test of the table that antt computes: 64 for each token that is left, and what the
-- symbols need besides, where each nonterminal is paid by its `cost`.
-- Assumes nothing.
use Rattle.std.proofs.Math.Path.{◌≡◌, refl, subst}
use Rattle.std.proofs.Common.{◌∙◌, inl, inr}
use Rattle.std.specs.Prelude.{Bool, not, cond, ◌&&◌, ◌⊎◌, eqb, get_or}
use Rattle.std.proofs.Math.Bool.{true, false}
use mathlib.Core.List.{List, [], ◌∷◌, ◌++◌}
use Rattle.std.proofs.Math.Option.{Option, none, some}
use Prim.Native.Nat.{ℕ, zero, suc, ◌+◌, ◌-◌, ◌*◌, ◌≤◌, ◌<◌}
use native.Mathlib.Omega.{arith}
use Rattle.std.proofs.Math.Dec.{T, ltb, leb, leb→le, T_not}
use Rattle.std.proofs.Math.ListN.{length, get_elem?}
use borrow.Author.Tests.{ltb-true}
use Rattle.text.proofs.Table.{first-of, second-of}
use Rattle.text.specs.Lists.{has, all}
use Rattle.text.proofs.ListLaws.{all_get_or}
use Rattle.theory.specs.Grammar.{Sym, tok, nt, Row, row, alt, pick, blank, Der}
use Rattle.theory.specs.Machine.{la, choose, expand}
use Rattle.theory.specs.Check.{good}
use Rattle.theory.specs.Predict.{der-starts}
use Rattle.theory.specs.Ebnf.{Ex, child, Ebnf, kinds_of, Items, nil, sub, yield, Sort, token, node, flat, sort_of}
use Rattle.theory.specs.Same.{ex, sames, never-token, the-kind, no_zero, sort-node, to-der}
use Rattle.theory.specs.Walk.{Reads, n-end, n-sub, reads-match, reads-within, reads-length}
use Rattle.theory.specs.Exec.{Out, went, halted, tired, then_word, then_rest, then_sub, exec, Right, right-exec}

-- What a nonterminal of this sort leaves for the symbols after it: a node that is not empty has a token.
unfoldable pub saves : Sort → Bool → ℕ
saves (token c) null = 0
saves (node C) null = cond null 0 64
saves flat null = 0

module _ (t : Ebnf) (m : List Ex) (g : List Row) where
  -- What symbols need besides 64 for each token that is left.
  unfoldable pub need : List Sym → ℕ
  need [] = 1
  need (tok b ∷ σ) = 1 + (need σ - 64)
  need (nt A ∷ σ) = 1 + ((row g A).cost + (need σ - saves (sort_of (ex m (nt A))) (row g A).null))

  -- The test of a row: its cost pays for each alternative, and it does not begin with the end.
  unfoldable pub paid_row : Row → Bool
  paid_row r = all (λ rhs. leb (need rhs) r.cost) r.alts && not (has r.first 0)

  -- The test of the table.
  unfoldable pub paid : Bool
  paid = paid_row blank && all paid_row g

  need-append : (α σ : List Sym) → need (α ++ σ) ≤ need α + need σ
  unfolding need
  need-append [] σ = omega arith
  need-append (tok b ∷ α) σ = let h = need-append α σ in omega arith
  need-append (nt A ∷ α) σ = let h = need-append α σ in omega arith

  all-pick : (p : List Sym → Bool) (l : List (List Sym)) (i : ℕ) {y : List Sym} → T (all p l) → get_elem? l i ≡ some y → T (p y)
  unfolding all
  all-pick p [] i t e = let z : ◌≡◌ {A = ℕ} 0 1 = cc in absurd (omega arith)
  all-pick p (x ∷ l) zero {y} t e = let q : x ≡ y = cc in subst (λ (x : List Sym). T (p x)) q (first-of (p x) (all p l) t)
  all-pick p (x ∷ l) (suc i) t e = all-pick p l i (second-of (p x) (all p l) t) e

  module _ (same : T (sames t m g m)) (ok : T (good g)) (pay : T paid) where
    row-paid : (A : ℕ) → T (paid_row (row g A))
    unfolding paid row
    row-paid A = all_get_or paid_row g blank (second-of (paid_row blank) (all paid_row g) pay) (first-of (paid_row blank) (all paid_row g) pay) A

    cost-pays : (A i : ℕ) {rhs : List Sym} → alt g A i ≡ some rhs → need rhs ≤ (row g A).cost
    unfolding paid_row alt pick
    cost-pays A zero e = absurd (no_zero t m g same A e)
    cost-pays A (suc i) {rhs} e =
        let c : ℕ = (row g A).cost in
        leb→le (need rhs) c (all-pick (λ rhs. leb (need rhs) c) (row g A).alts i (first-of (all (λ rhs. leb (need rhs) c) (row g A).alts) (not (has (row g A).first 0)) (row-paid A)) e)

    not-at-end : (A : ℕ) → T (has (row g A).first 0) → ⊥
    unfolding paid_row
    not-at-end A h = T_not (has (row g A).first 0) (second-of (all (λ rhs. leb (need rhs) (row g A).cost) (row g A).alts) (not (has (row g A).first 0)) (row-paid A)) h

    some-token : (A : ℕ) (ts : List ℕ) → (row g A).null ≡ false → T (has (row g A).first (la ts)) ⊎ (T (row g A).null × (la ts ≡ 0)) → 0 < length ts
    some-token A [] n (inl h) = absurd (not-at-end A h)
    some-token A (x ∷ ts) n (inl h) = omega arith
    some-token A ts n (inr h) = absurd (subst T n h.0)

    module _ (s : List ℕ) where
      -- A node that may not be empty is read over a token at least.
      moves : (A C i k : ℕ) {rhs : List Sym} {at a : ℕ} {js : Items} → ex m (nt A) ≡ child C → get_elem? (kinds_of t C) i ≡ some k → choose g A (get_or s at 0) ≡ suc i → alt g A (suc i) ≡ some rhs
          → (row g A).null ≡ false → Reads t m g s rhs at js a → at ≤ length s → at < a
      moves A C i k {at = at} {js = js} c x f e n p w =
          let q : Reads t m g s (nt A ∷ []) at (sub k js nil) _ = n-sub C i k c x f e p n-end in
          let d : Der g (nt A ∷ []) (yield (sub k js nil)) = to-der t m g same (reads-match t m g s same q) (nt A ∷ []) refl in
          let l = some-token A (yield (sub k js nil)) n (der-starts g ok d) in
          let z = reads-length t m g s q w in
          omega arith

      -- The fuel did not run out.
      abbrev pub Alive : Out → Type 0
      Alive (went r j) = Unit {0}
      Alive (halted p) = Unit {0}
      Alive tired = ⊥

      alive-word : (b : ℕ) (o : Out) → Alive o → Alive (then_word b o)
      unfolding then_word
      alive-word b (went r j) h = tt
      alive-word b (halted p) h = tt
      alive-word b tired h = h

      alive-rest : (k : ℕ) (js : Items) (o : Out) → Alive o → Alive (then_rest k js o)
      unfolding then_rest
      alive-rest k js (went r j) h = tt
      alive-rest k js (halted p) h = tt
      alive-rest k js tired h = h

      alive-sub : (ko : Option ℕ) (k : ℕ) (o : Out) (e : ℕ → Out) → ko ≡ some k → Alive o → ((js : Items) (a : ℕ) → o ≡ went js a → Alive (e a)) → Alive (then_sub ko o e)
      unfolding then_sub
      alive-sub none k o e x h g = let z : ◌≡◌ {A = ℕ} 0 1 = cc in absurd (omega arith)
      alive-sub (some n) k (went js a) e x h g = alive-rest n js (e a) (g js a refl)
      alive-sub (some n) k (halted p) e x h g = tt
      alive-sub (some n) k tired e x h g = h

      -- The kind that a node's alternative has.
      kind_at : (A C n : ℕ) {rhs : List Sym} → ex m (nt A) ≡ child C → alt g A n ≡ some rhs → (i : ℕ) × (k : ℕ) × (n ≡ suc i) × (pick (kinds_of t C) n ≡ some k) × (get_elem? (kinds_of t C) i ≡ some k)
      unfolding pick
      kind_at A C zero c e = absurd (no_zero t m g same A e)
      kind_at A C (suc i) c e = let u = the-kind t m g same A C i c e in (i, u.0, refl, u.1, u.1)

      -- After a node, what is left pays for the symbols after it.
      rest-paid : (f n d at a : ℕ) (null : Bool) → (null ≡ false → at < a) → at ≤ a → a ≤ length s → 64 * (length s - at) + (1 + (d + (n - cond null 0 64))) ≤ suc f → 64 * (length s - a) + n ≤ f
      rest-paid f n d at a true h l w q = omega arith
      rest-paid f n d at a false h l w q = let x = h refl in omega arith

      need-pos : (σ : List Sym) → 0 < need σ
      unfolding need
      need-pos [] = omega arith
      need-pos (tok b ∷ σ) = omega arith
      need-pos (nt A ∷ σ) = omega arith

      abbrev Enough : ℕ → Type 0
      Enough f = (σ : List Sym) (at : ℕ) → at ≤ length s → 64 * (length s - at) + need σ ≤ f → Alive (exec t m g s f σ at)

      enough-node : (f A C n : ℕ) (σ rhs : List Sym) (at : ℕ) → ex m (nt A) ≡ child C → choose g A (get_or s at 0) ≡ n → alt g A n ≡ some rhs → at ≤ length s
          → 64 * (length s - at) + (1 + ((row g A).cost + (need σ - cond (row g A).null 0 64))) ≤ suc f → Enough f
          → Alive (then_sub (pick (kinds_of t C) n) (exec t m g s f rhs at) (λ a. exec t m g s f σ a))
      enough-node f A C n σ rhs at c h e w q ih =
          let u = kind_at A C n c e in
          let y : n ≡ suc u.0 = u.2 in
          let i = cost-pays A n e in
          alive-sub (pick (kinds_of t C) n) u.1 (exec t m g s f rhs at) (λ a. exec t m g s f σ a) u.3 (ih rhs at w (omega arith))
          (λ js a o.
          let p : Reads t m g s rhs at js a = subst (Right t m g s rhs at) o (right-exec t m g s f rhs at) in
          let v = reads-within t m g s p w in
          let b : (row g A).null ≡ false → at < a = λ z. moves A C u.0 u.1 c u.4 (h ∙ y) (rw y at e) z p w in
          ih σ a v.1 (rest-paid f (need σ) (row g A).cost at a (row g A).null b v.0 v.1 q))

      enough-flat : (f A n : ℕ) (σ rhs : List Sym) (at : ℕ) → alt g A n ≡ some rhs → at ≤ length s → 64 * (length s - at) + (1 + ((row g A).cost + need σ)) ≤ suc f → Enough f → Alive (exec t m g s f (rhs ++ σ) at)
      enough-flat f A n σ rhs at e w q ih =
          let i = cost-pays A n e in
          let y = need-append rhs σ in
          ih (rhs ++ σ) at w (omega arith)

      -- The fuel is enough.
      pub enough : (f : ℕ) → Enough f
      unfolding exec need saves
      enough zero σ at w h = absurd (let z = need-pos σ in omega arith)
      enough (suc f) [] at w h = tt
      enough (suc f) (tok b ∷ σ) at w h = go (ltb at (length s)) refl (eqb (get_or s at 0) b) (λ x y. enough f σ (at + 1) x y)
        where
          go : (x : Bool) → ltb at (length s) ≡ x → (y : Bool) → (at + 1 ≤ length s → 64 * (length s - (at + 1)) + need σ ≤ f → Alive (exec t m g s f σ (at + 1)))
              → Alive (elim x [ true ↦ elim y [ true ↦ then_word b (exec t m g s f σ (at + 1)) | false ↦ halted at ] | false ↦ halted at ])
          go true p true ih = let z = ltb-true at (length s) p in alive-word b (exec t m g s f σ (at + 1)) (ih (omega arith) (omega arith))
          go true p false ih = tt
          go false p y ih = tt
      enough (suc f) (nt A ∷ σ) at w h = go (expand g A (get_or s at 0)) refl (enough f)
        where
          by : (rhs : List Sym) → expand g A (get_or s at 0) ≡ some rhs → Enough f → (x : Sort) → sort_of (ex m (nt A)) ≡ x → 64 * (length s - at) + (1 + ((row g A).cost + (need σ - saves x (row g A).null))) ≤ suc f
              → Alive (elim x [ token c ↦ tired | node C ↦ then_sub (pick (kinds_of t C) (choose g A (get_or s at 0))) (exec t m g s f rhs at) (λ a. exec t m g s f σ a) | flat ↦ exec t m g s f (rhs ++ σ) at ])
          by rhs e ih (token c) x q = never-token t m g same A c x
          by rhs e ih (node C) x q = enough-node f A C (choose g A (get_or s at 0)) σ rhs at (sort-node (ex m (nt A)) C x) refl e w q ih
          by rhs e ih flat x q = enough-flat f A (choose g A (get_or s at 0)) σ rhs at e w (omega arith) ih

          go : (o : Option (List Sym)) → expand g A (get_or s at 0) ≡ o → Enough f →
              Alive (elim o [ none ↦ halted at | some rhs ↦ elim (sort_of (ex m (nt A))) [ token c ↦ tired | node C ↦ then_sub (pick (kinds_of t C) (choose g A (get_or s at 0))) (exec t m g s f rhs at) (λ a. exec t m g s f σ a) | flat ↦ exec t m g s f (rhs ++ σ) at ] ])
          go none e ih = tt
          go (some rhs) e ih = by rhs e ih (sort_of (ex m (nt A))) refl h
