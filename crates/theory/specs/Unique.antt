-- Every tree is read from its own tokens, and reading gives one result: so a list of tokens has at most one tree.
-- Assumes nothing.
use Rattle.std.proofs.Math.Path.{◌≡◌}
use Rattle.std.specs.Prelude.{refl, ◌⊎◌, ℕ, zero, suc, ◌+◌, ◌<◌, T, length, get_or}
use Rattle.std.proofs.Common.{sym, ap, ◌∙◌, subst, inl, inr, add-one}
use mathlib.Core.List.{List, [], ◌∷◌, ◌++◌, map, append_assoc, append-nil}
use Rattle.std.proofs.Math.Option.{some}
use native.Mathlib.Omega.{arith}
use Rattle.std.proofs.Math.ListN.{drop, get_elem?}
use Rattle.theory.specs.Grammar.{Sym, tok, nt, Row, row, alt, Der, d_end}
use Rattle.theory.specs.Machine.{la, choose, expand}
use Rattle.theory.specs.Check.{good, parts}
use Rattle.theory.specs.Predict.{Ok, taken, ok-append, der-append}
use Rattle.theory.specs.Ebnf.{Ex, child, Ebnf, kinds_of, choices, Items, nil, word, sub, yield, Match, m_end, m_word, m_sub, m_choice, flat, sort_of}
use Rattle.theory.specs.Same.{ex, sames, child-alt, the-alt, choice-flat, flat-unfolds, never-mark, tok-mark, tok-child, tok-choice, map-append, to-der}
use Rattle.theory.specs.Walk.{la-drop, Reads, n-end, n-tok, n-flat, n-sub}

-- A place with a token left: it is before the end, has that token, and the rest begins after it.
drop_here : (s : List ℕ) (at c : ℕ) (l : List ℕ) → drop at s ≡ c ∷ l → (at < length s) × (get_or s at 0 ≡ c) × (drop (suc at) s ≡ l)
drop_here [] zero c l e = let z : ◌≡◌ {A = ℕ} 0 1 = cc in absurd (omega arith)
drop_here [] (suc at) c l e = let z : ◌≡◌ {A = ℕ} 0 1 = cc in absurd (omega arith)
drop_here (x ∷ s) zero c l e = (omega arith, cc, cc)
drop_here (x ∷ s) (suc at) c l e = let h = drop_here s at c l e in let h₀ = h.0 in (omega arith, h.1, h.2)

module _ (t : Ebnf) (m : List Ex) (g : List Row) (s : List ℕ) where
  -- The two ways in which a nonterminal is read.
  record Node (A : ℕ) (σ : List Sym) (at : ℕ) (r : Items) (j : ℕ) : Type 0 where
    C : ℕ
    i : ℕ
    k : ℕ
    rhs : List Sym
    js : Items
    rest : Items
    a : ℕ
    category : ex m (nt A) ≡ child C
    kind : get_elem? (kinds_of t C) i ≡ some k
    choice : choose g A (get_or s at 0) ≡ suc i
    rule : alt g A (suc i) ≡ some rhs
    whole : r ≡ sub k js rest
    inner : Reads t m g s rhs at js a
    outer : Reads t m g s σ a rest j

  inv-end : {at j : ℕ} {r : Items} → Reads t m g s [] at r j → (nil ≡ r) × (at ≡ j)
  inv-end n-end = (refl, refl)

  inv-tok : {b : ℕ} {σ : List Sym} {at j : ℕ} {r : Items} → Reads t m g s (tok b ∷ σ) at r j → (u : Items) × (r ≡ word b u) × Reads t m g s σ (at + 1) u j
  inv-tok (n-tok {r = r} h e p) = (r, refl, p)

  inv-nt : {A : ℕ} {σ : List Sym} {at j : ℕ} {r : Items} → Reads t m g s (nt A ∷ σ) at r j
      → ((rhs : List Sym) × (sort_of (ex m (nt A)) ≡ flat) × (expand g A (get_or s at 0) ≡ some rhs) × Reads t m g s (rhs ++ σ) at r j) ⊎ Node A σ at r j
  inv-nt (n-flat {rhs = rhs} f e p) = inl (rhs, f, e, p)
  inv-nt (n-sub {rhs = rhs} {js = js} {r = r} {a = a} C i k c x f e p q) = inr (record { C = C; i = i; k = k; rhs = rhs; js = js; rest = r; a = a; category = c; kind = x; choice = f; rule = e; whole = refl; inner = p; outer = q })

  node-not-flat : (e : Ex) (C : ℕ) → e ≡ child C → sort_of e ≡ flat → ⊥
  unfolding sort_of
  node-not-flat e C p q = let h = rw p at q in let z : ◌≡◌ {A = ℕ} 0 1 = cc in omega arith

  -- Reading gives one result.
  pub reads-one : {σ : List Sym} {at j i : ℕ} {r u : Items} → Reads t m g s σ at r j → Reads t m g s σ at u i → (r ≡ u) × (j ≡ i)
  reads-one n-end q = inv-end q
  reads-one (n-tok {b = b} h e p) q = let v = inv-tok q in let o = reads-one p v.2 in (cc v.1, o.1)
  reads-one {at = at} {j = j} {i = i} {r = r} {u = u} (n-flat {A = A} {σ = σ} {rhs = rhs} f e p) q = go (inv-nt q) (λ p₂. reads-one p p₂)
    where
      go : ((rhs₂ : List Sym) × (sort_of (ex m (nt A)) ≡ flat) × (expand g A (get_or s at 0) ≡ some rhs₂) × Reads t m g s (rhs₂ ++ σ) at u i) ⊎ Node A σ at u i
          → (Reads t m g s (rhs ++ σ) at u i → (r ≡ u) × (j ≡ i)) → (r ≡ u) × (j ≡ i)
      go (inl v) ih = let v₂ = v.2 in let w : v.0 ≡ rhs = cc in ih (subst (λ (l : List Sym). Reads t m g s (l ++ σ) at u i) w v.3)
      go (inr v) ih = absurd (node-not-flat (ex m (nt A)) v.C v.category f)
  reads-one {at = at} {j = j} {i = i} {u = u} (n-sub {A = A} {σ = σ} {rhs = rhs} {js = js} {r = r} {a = a} C n k c x f e p p') q = go (inv-nt q) (λ js₂ a₂ p₂. reads-one p p₂) (λ r₂ j₂ p₂. reads-one p' p₂)
    where
      go : ((rhs₂ : List Sym) × (sort_of (ex m (nt A)) ≡ flat) × (expand g A (get_or s at 0) ≡ some rhs₂) × Reads t m g s (rhs₂ ++ σ) at u i) ⊎ Node A σ at u i
          → ((js₂ : Items) (a₂ : ℕ) → Reads t m g s rhs at js₂ a₂ → (js ≡ js₂) × (a ≡ a₂)) → ((r₂ : Items) (j₂ : ℕ) → Reads t m g s σ a r₂ j₂ → (r ≡ r₂) × (j ≡ j₂)) → (sub k js r ≡ u) × (j ≡ i)
      go (inl v) ih ih' = absurd (node-not-flat (ex m (nt A)) C c v.1)
      go (inr v) ih ih' =
          let c₂ = v.category in let x₂ = v.kind in let f₂ = v.choice in let e₂ = v.rule in let w = v.whole in
          let d : v.C ≡ C = cc in
          let y : v.i ≡ n = cc in
          let z : v.k ≡ k = cc (ap (λ (D : ℕ). get_elem? (kinds_of t D) v.i) d, ap (get_elem? (kinds_of t C)) y) in
          let l : v.rhs ≡ rhs = cc (ap (alt g A) (ap suc y)) in
          let o = ih v.js v.a (subst (λ (l : List Sym). Reads t m g s l at v.js v.a) l v.inner) in
          let o' = ih' v.rest i (subst (λ (b : ℕ). Reads t m g s σ b v.rest i) (sym o.1) v.outer) in
          (cc (o.0, o'.0), o'.1)

  module _ (same : T (sames t m g m)) (ok : T (good g)) where
    -- What was read of the tokens that stood there, and where what is left begins.
    record Done (σ : List Sym) (at : ℕ) (r : Items) (rest : List ℕ) : Type 0 where
      j : ℕ
      reads : Reads t m g s σ at r j
      left : drop j s ≡ rest

    done_end : (at : ℕ) (rest : List ℕ) → drop at s ≡ rest → Done [] at nil rest
    done_end at rest e = record { j = at; reads = n-end; left = e }

    done-word : (a c : ℕ) (σ : List Sym) (at : ℕ) (r : Items) (rest l : List ℕ) → a ≡ c → drop at s ≡ c ∷ l → (drop (at + 1) s ≡ l → Done σ (at + 1) r rest) → Done (tok a ∷ σ) at (word c r) rest
    done-word a c σ at r rest l q e ih =
        let h = drop_here s at c l e in
        let d = ih (rw add-one h.2) in
        rw q (record { j = d.j; reads = n-tok h.0 h.1 d.reads; left = d.left })

    -- The table chooses at a place what the derivation of the tokens from there on takes.
    at_place : (A i : ℕ) (σ rhs : List Sym) (at : ℕ) (ts : List ℕ) → Ok g (nt A ∷ σ) → alt g A i ≡ some rhs → Der g (rhs ++ σ) ts → drop at s ≡ ts → choose g A (get_or s at 0) ≡ i
    at_place A i σ rhs at ts k e d w = subst (λ (a : ℕ). choose g A a ≡ i) (ap la (sym w) ∙ la-drop s at) (taken g ok σ rhs A i k e d)

    done-flat : (A i : ℕ) (σ rhs : List Sym) (at : ℕ) (r : Items) (rest : List ℕ) → sort_of (ex m (nt A)) ≡ flat → choose g A (get_or s at 0) ≡ i → alt g A i ≡ some rhs → Done (rhs ++ σ) at r rest → Done (nt A ∷ σ) at r rest
    done-flat A i σ rhs at r rest f c e d = let x : expand g A (get_or s at 0) ≡ some rhs = rw c e in record { j = d.j; reads = n-flat f x d.reads; left = d.left }

    done-node : (A C i k : ℕ) (σ rhs : List Sym) (at : ℕ) (js r : Items) (mid rest : List ℕ) → ex m (nt A) ≡ child C → get_elem? (kinds_of t C) i ≡ some k → choose g A (get_or s at 0) ≡ suc i
        → alt g A (suc i) ≡ some rhs → Done rhs at js mid → ((a : ℕ) → drop a s ≡ mid → Done σ a r rest) → Done (nt A ∷ σ) at (sub k js r) rest
    done-node A C i k σ rhs at js r mid rest c x f e d h = let q = h d.j d.left in record { j = q.j; reads = n-sub C i k c x f e d.reads q.reads; left = q.left }

    -- Items that match are read where their tokens stand, if what is left is derived by what comes after.
    match-reads : {es : List Ex} {r : Items} → Match t es r → (σ τ : List Sym) (at : ℕ) (rest : List ℕ) → map (ex m) σ ≡ es → Ok g (σ ++ τ) → Der g τ rest → drop at s ≡ yield r ++ rest → Done σ at r rest
    unfolding yield
    match-reads m_end [] τ at rest e k d w = done_end at rest w
    match-reads m_end (x ∷ σ) τ at rest e k d w = let z : ◌≡◌ {A = ℕ} 0 1 = cc in absurd (omega arith)
    match-reads (m_word n) [] τ at rest e k d w = let z : ◌≡◌ {A = ℕ} 0 1 = cc in absurd (omega arith)
    match-reads (m_word {c = c} {r = r} n) (tok a ∷ σ) τ at rest e k d w = done-word a c σ at r rest (yield r ++ rest) (tok-mark t m a c (cc)) w (λ w₂. match-reads n σ τ (at + 1) rest (cc) k d w₂)
    match-reads (m_word {c = c} n) (nt A ∷ σ) τ at rest e k d w = absurd (never-mark t m g same A c (cc))
    match-reads (m_sub i p b n) [] τ at rest e k d w = let z : ◌≡◌ {A = ℕ} 0 1 = cc in absurd (omega arith)
    match-reads (m_sub {C = C} i p b n) (tok a ∷ σ) τ at rest e k d w = absurd (tok-child t m a C (cc))
    match-reads (m_sub {C = C} {k = x} {js = js} {r = r} i p b n) (nt A ∷ σ) τ at rest e k d w =
        let h = child-alt t m g same A C i x (cc) p in
        let rhs : List Sym = h.0 in
        let d₁ : Der g (σ ++ τ) (yield r ++ rest) = der-append g (to-der t m g same n σ (cc)) d in
        let d₂ : Der g (rhs ++ (σ ++ τ)) (yield js ++ (yield r ++ rest)) = der-append g (to-der t m g same b rhs h.2) d₁ in
        let w₂ : drop at s ≡ yield js ++ (yield r ++ rest) = w ∙ append_assoc (yield js) (yield r) rest in
        let f = at_place A (suc i) (σ ++ τ) rhs at (yield js ++ (yield r ++ rest)) k h.1 d₂ w₂ in
        let o = ok-append g ok (row g A) rhs (σ ++ τ) (parts g ok A (suc i) h.1).after k.0 k.1 in
        done-node A C i x σ rhs at js r (yield r ++ rest) rest (cc) p f h.1
        (match-reads b rhs (σ ++ τ) at (yield r ++ rest) h.2 o d₁ w₂)
        (λ a w₃. match-reads n σ τ a rest (cc) k.1 d w₃)
    match-reads (m_choice i p n) [] τ at rest e k d w = let z : ◌≡◌ {A = ℕ} 0 1 = cc in absurd (omega arith)
    match-reads (m_choice {e = y} i p n) (tok a ∷ σ) τ at rest e k d w = absurd (tok-choice t m a y i (cc) p)
    match-reads (m_choice {e = y} {es = es} {α = α} {r = r} i p n) (nt A ∷ σ) τ at rest e k d w =
        let c : ex m (nt A) ≡ y = cc in
        let q : map (ex m) σ ≡ es = cc in
        let fl = choice-flat t y i p in
        let h = the-alt t m g same A i y (choices t y) c (flat-unfolds t y fl) p in
        let rhs : List Sym = h.0 in
        let u : map (ex m) (rhs ++ σ) ≡ α ++ es = rw (map-append, h.2, q) in
        let d₁ : Der g (rhs ++ (σ ++ τ)) (yield r ++ rest) = rw append_assoc at (der-append g (to-der t m g same n (rhs ++ σ) u) d) in
        let f = at_place A (suc i) (σ ++ τ) rhs at (yield r ++ rest) k h.1 d₁ w in
        let o : Ok g ((rhs ++ σ) ++ τ) = rw append_assoc (ok-append g ok (row g A) rhs (σ ++ τ) (parts g ok A (suc i) h.1).after k.0 k.1) in
        done-flat A (suc i) σ rhs at r rest (rw c fl) f h.1 (match-reads n (rhs ++ σ) τ at rest u o d w)

    -- A tree is read from its own tokens.
    pub tree-reads : (σ : List Sym) (r : Items) → Ok g σ → Match t (map (ex m) σ) r → yield r ≡ s → (j : ℕ) × Reads t m g s σ 0 r j × (drop j s ≡ [])
    tree-reads σ r k n e =
        let d = match-reads n σ [] 0 [] refl (rw append-nil k) d_end (sym e ∙ sym (append-nil (yield r))) in
        (d.j, d.reads, d.left)

-- Two trees with the same tokens are one.
pub unique : (t : Ebnf) (m : List Ex) (g : List Row) → T (sames t m g m) → T (good g) → (σ : List Sym) (r u : Items) → Ok g σ → Match t (map (ex m) σ) r → Match t (map (ex m) σ) u → yield r ≡ yield u → r ≡ u
unique t m g same ok σ r u k a b e =
    let p = tree-reads t m g (yield u) same ok σ r k a e in
    let q = tree-reads t m g (yield u) same ok σ u k b refl in
    (reads-one t m g (yield u) p.1 q.1).0
