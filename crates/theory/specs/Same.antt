-- The test that productions are those of a grammar of expressions, which antt computes, and what it gives: both have the same words.
-- The column `m` says which expression each nonterminal stands for.
-- Assumes nothing.
use Rattle.std.proofs.Math.Path.{◌≡◌, refl}
use Rattle.std.proofs.Common.{ap, ◌∙◌, subst, sym}
use Rattle.std.specs.Prelude.{Bool, true, false, ◌&&◌, T, get_or}
use Rattle.std.proofs.Math.Bool.{decide}
use mathlib.Core.List.{List, [], ◌∷◌, ◌++◌, map, append_assoc}
use Rattle.std.proofs.Math.Option.{Option, none, some}
use Prim.Native.Nat.{ℕ, zero, suc}
use native.Mathlib.Omega.{arith}
use Rattle.std.proofs.Math.Decide.{ℕ_discrete}
use Rattle.std.proofs.Math.ListN.{get_elem?}
use Rattle.text.proofs.Table.{first-of, second-of}
use Rattle.theory.specs.Grammar.{Sym, tok, nt, Row, row, alt, pick, blank, Der, d_end, d_tok, d_nt}
use Rattle.theory.specs.Predict.{der-append}
use Rattle.theory.specs.Ebnf.{Ex, eps, mark, child, part, seq, or, many, list, tail, Ex-discrete, Ebnf, kinds_of, choices, body_of, Items, nil, word, sub, yield, Match, m_end, m_word, m_sub, m_choice, Sort, token, node, flat, sort_of}

-- The expression that a symbol stands for.
unfoldable pub ex : List Ex → Sym → Ex
ex m (tok a) = mark a
ex m (nt A) = get_or m A eps

-- The alternatives that a nonterminal for an expression of this sort has.
unfoldable pub of_sort : Ebnf → Ex → Sort → Option (List (List Ex))
of_sort t e (token c) = none
of_sort t e (node C) = some (map (body_of t) (kinds_of t C))
of_sort t e flat = some (choices t e)

-- The alternatives that a nonterminal for this expression has.
unfoldable pub alternatives : Ebnf → Ex → Option (List (List Ex))
alternatives t e = of_sort t e (sort_of e)

-- Whether two lists are equal, by a test of their entries.
unfoldable pub eq_list : {X : Type 0} → (X → X → Bool) → List X → List X → Bool
eq_list f [] [] = true
eq_list f [] (y ∷ l) = false
eq_list f (x ∷ k) [] = false
eq_list f (x ∷ k) (y ∷ l) = f x y && eq_list f k l

-- Whether two expressions are equal.
unfoldable pub eq_ex : Ex → Ex → Bool
eq_ex x y = decide (Ex-discrete ℕ_discrete x y)

-- Whether a row has the alternatives of the expression e.
unfoldable pub same_row : Ebnf → List Ex → Row → Ex → Bool
same_row t m r e = elim (alternatives t e) [ none ↦ false | some l ↦ eq_list (eq_list eq_ex) (map (map (ex m)) r.alts) l ]

-- Whether each row has the alternatives of the expression beside it.
unfoldable pub sames : Ebnf → List Ex → List Row → List Ex → Bool
sames t m [] [] = true
sames t m [] (e ∷ l) = false
sames t m (r ∷ g) [] = false
sames t m (r ∷ g) (e ∷ l) = same_row t m r e && sames t m g l

eq_list-at : {X : Type 0} (f : X → X → Bool) → ((x y : X) → T (f x y) → x ≡ y) → (k l : List X) → T (eq_list f k l) → k ≡ l
unfolding eq_list
eq_list-at f h [] [] t = refl
eq_list-at f h [] (y ∷ l) t = absurd t
eq_list-at f h (x ∷ k) [] t = absurd t
eq_list-at f h (x ∷ k) (y ∷ l) t =
    let p = h x y (first-of (f x y) (eq_list f k l) t) in
    let q = eq_list-at f h k l (second-of (f x y) (eq_list f k l) t) in
    cc

decide-at : {X : Type 0} (d : Dec X) → T (decide d) → X
unfolding decide
decide-at (yes x) t = x
decide-at (no f) t = absurd t

eq_ex-at : (x y : Ex) → T (eq_ex x y) → x ≡ y
unfolding eq_ex
eq_ex-at x y t = decide-at (Ex-discrete ℕ_discrete x y) t

same_row-at : (t : Ebnf) (m : List Ex) (r : Row) (e : Ex) → T (same_row t m r e) → alternatives t e ≡ some (map (map (ex m)) r.alts)
unfolding same_row
same_row-at t m r e h = go (alternatives t e) refl h
  where
    go : (o : Option (List (List Ex))) → alternatives t e ≡ o → T (elim o [ none ↦ false | some l ↦ eq_list (eq_list eq_ex) (map (map (ex m)) r.alts) l ]) → alternatives t e ≡ some (map (map (ex m)) r.alts)
    go none p h = absurd h
    go (some l) p h = let q = eq_list-at (eq_list eq_ex) (eq_list-at eq_ex eq_ex-at) (map (map (ex m)) r.alts) l h in rw q p

sames-at : (t : Ebnf) (m : List Ex) (g : List Row) (l : List Ex) → T (sames t m g l) → (A : ℕ) → alternatives t (get_or l A eps) ≡ some (map (map (ex m)) (get_or g A blank).alts)
unfolding sames blank alternatives of_sort sort_of choices
sames-at t m [] [] h A = refl
sames-at t m [] (e ∷ l) h A = absurd h
sames-at t m (r ∷ g) [] h A = absurd h
sames-at t m (r ∷ g) (e ∷ l) h zero = same_row-at t m r e (first-of (same_row t m r e) (sames t m g l) h)
sames-at t m (r ∷ g) (e ∷ l) h (suc A) = sames-at t m g l (second-of (same_row t m r e) (sames t m g l) h) A

nth-map : {X Y : Type 0} (f : X → Y) (l : List X) (i : ℕ) {x : X} → get_elem? l i ≡ some x → get_elem? (map f l) i ≡ some (f x)
nth-map f [] i e = let z : ◌≡◌ {A = ℕ} 0 1 = cc in absurd (omega arith)
nth-map f (y ∷ l) zero e = cc
nth-map f (y ∷ l) (suc i) e = nth-map f l i e

-- An entry of a mapped list comes from an entry of the list.
pub nth-unmap : {X Y : Type 0} (f : X → Y) (l : List X) (i : ℕ) {y : Y} → get_elem? (map f l) i ≡ some y → (x : X) × (get_elem? l i ≡ some x) × (f x ≡ y)
nth-unmap f [] i e = let z : ◌≡◌ {A = ℕ} 0 1 = cc in absurd (omega arith)
nth-unmap f (x ∷ l) zero e = (x, refl, cc)
nth-unmap f (x ∷ l) (suc i) e = nth-unmap f l i e

-- A mapped list side by side.
pub map-append : {X Y : Type 0} (f : X → Y) (s t : List X) → map f (s ++ t) ≡ map f s ++ map f t
map-append f [] t = refl
map-append f (x ∷ s) t = cc (map-append f s t)

-- An expression of the sort of a node is a node.
pub sort-node : (e : Ex) (C : ℕ) → sort_of e ≡ node C → e ≡ child C
unfolding sort_of
sort-node eps C p = let z : ◌≡◌ {A = ℕ} 0 1 = cc in absurd (omega arith)
sort-node (mark c) C p = let z : ◌≡◌ {A = ℕ} 0 1 = cc in absurd (omega arith)
sort-node (child D) C p = cc
sort-node (part P) C p = let z : ◌≡◌ {A = ℕ} 0 1 = cc in absurd (omega arith)
sort-node (seq e f) C p = let z : ◌≡◌ {A = ℕ} 0 1 = cc in absurd (omega arith)
sort-node (or e f) C p = let z : ◌≡◌ {A = ℕ} 0 1 = cc in absurd (omega arith)
sort-node (many e) C p = let z : ◌≡◌ {A = ℕ} 0 1 = cc in absurd (omega arith)
sort-node (list e c) C p = let z : ◌≡◌ {A = ℕ} 0 1 = cc in absurd (omega arith)
sort-node (tail e c) C p = let z : ◌≡◌ {A = ℕ} 0 1 = cc in absurd (omega arith)

module _ (t : Ebnf) where
  -- Only an expression that is neither a token nor a node has choices.
  pub choice-flat : (e : Ex) (i : ℕ) {α : List Ex} → get_elem? (choices t e) i ≡ some α → sort_of e ≡ flat
  unfolding choices sort_of
  choice-flat eps i p = refl
  choice-flat (mark c) i p = let z : ◌≡◌ {A = ℕ} 0 1 = cc in absurd (omega arith)
  choice-flat (child C) i p = let z : ◌≡◌ {A = ℕ} 0 1 = cc in absurd (omega arith)
  choice-flat (part P) i p = refl
  choice-flat (seq e f) i p = refl
  choice-flat (or e f) i p = refl
  choice-flat (many e) i p = refl
  choice-flat (list e c) i p = refl
  choice-flat (tail e c) i p = refl

  -- Its choices are its alternatives.
  pub flat-unfolds : (e : Ex) → sort_of e ≡ flat → alternatives t e ≡ some (choices t e)
  unfolding alternatives of_sort
  flat-unfolds e h = rw h refl

  -- A token's expression is its mark,
  pub tok-mark : (m : List Ex) (a c : ℕ) → ex m (tok a) ≡ mark c → a ≡ c
  unfolding ex
  tok-mark m a c e = cc

  -- it is no node,
  pub tok-child : (m : List Ex) (a C : ℕ) → ex m (tok a) ≡ child C → ⊥
  unfolding ex
  tok-child m a C e = let z : ◌≡◌ {A = ℕ} 0 1 = cc in omega arith

  -- and it has no choice.
  pub tok-choice : (m : List Ex) (a : ℕ) (e : Ex) (i : ℕ) {α : List Ex} → ex m (tok a) ≡ e → get_elem? (choices t e) i ≡ some α → ⊥
  unfolding ex choices
  tok-choice m a e i p n = let q = rw (← p) at n in let z : ◌≡◌ {A = ℕ} 0 1 = cc in omega arith

  -- The items of two runs of expressions.
  record Halves (α β : List Ex) (r : Items) : Type 0 where
    js : Items
    ks : Items
    left : Match t α js
    right : Match t β ks
    whole : yield js ++ yield ks ≡ yield r

  halves-nil : {es β : List Ex} {r : Items} → Match t es r → es ≡ β → Halves [] β r
  unfolding yield
  halves-nil {r = r} m e = record { js = nil; ks = r; left = m_end; right = rw e at m; whole = refl }

  halves-word : {α β : List Ex} {r : Items} (x : Ex) (c : ℕ) → x ≡ mark c → Halves α β r → Halves (x ∷ α) β (word c r)
  unfolding yield
  halves-word x c e h = record { js = word c h.js; ks = h.ks; left = rw e (m_word h.left); right = h.right; whole = cc h.whole }

  halves-sub : {α β : List Ex} {r js : Items} (x : Ex) (C k i : ℕ) → x ≡ child C → get_elem? (kinds_of t C) i ≡ some k → Match t (body_of t k) js → Halves α β r → Halves (x ∷ α) β (sub k js r)
  unfolding yield
  halves-sub {js = js} x C k i e p n h = record { js = sub k js h.js; ks = h.ks; left = rw e (m_sub i p n h.left); right = h.right; whole = rw (append_assoc, h.whole) }

  halves-choice : {α β γ : List Ex} {r : Items} (x y : Ex) (i : ℕ) → x ≡ y → get_elem? (choices t y) i ≡ some γ → Halves (γ ++ α) β r → Halves (x ∷ α) β r
  halves-choice x y i e p h = record { js = h.js; ks = h.ks; left = rw e (m_choice i p h.left); right = h.right; whole = h.whole }

  split : {es : List Ex} {r : Items} → Match t es r → (α β : List Ex) → es ≡ α ++ β → Halves α β r
  split m_end [] β e = halves-nil m_end e
  split m_end (x ∷ α) β e = let z : ◌≡◌ {A = ℕ} 0 1 = cc in absurd (omega arith)
  split (m_word m) [] β e = halves-nil (m_word m) e
  split (m_word {c = c} m) (x ∷ α) β e = halves-word x c (cc) (split m α β (cc))
  split (m_sub i p n m) [] β e = halves-nil (m_sub i p n m) e
  split (m_sub {C = C} {k = k} i p n m) (x ∷ α) β e = halves-sub x C k i (cc) p n (split m α β (cc))
  split (m_choice i p m) [] β e = halves-nil (m_choice i p m) e
  split (m_choice {e = y} {es = es} {α = γ} i p m) (x ∷ α) β e =
      let q : es ≡ α ++ β = cc in
      halves-choice x y i (cc) p (split m (γ ++ α) β (rw (append_assoc, q)))

  module _ (m : List Ex) (g : List Row) (ok : T (sames t m g m)) where
    agree : (A : ℕ) → alternatives t (ex m (nt A)) ≡ some (map (map (ex m)) (row g A).alts)
    unfolding row ex
    agree A = sames-at t m g m ok A

    alt-of : (A i : ℕ) {rhs : List Sym} → get_elem? (row g A).alts i ≡ some rhs → alt g A (suc i) ≡ some rhs
    unfolding alt pick
    alt-of A i e = e

    -- No nonterminal stands for a token, by its sort
    pub never-token : (A c : ℕ) → sort_of (ex m (nt A)) ≡ token c → ⊥
    unfolding alternatives of_sort
    never-token A c e = let q = rw e at (agree A) in let z : ◌≡◌ {A = ℕ} 0 1 = cc in omega arith

    -- and by its expression.
    pub never-mark : (A c : ℕ) → ex m (nt A) ≡ mark c → ⊥
    unfolding sort_of
    never-mark A c e = never-token A c (ap sort_of e)

    -- The production of an alternative of an expression.
    pub the-alt : (A i : ℕ) (e : Ex) (l : List (List Ex)) {α : List Ex} → ex m (nt A) ≡ e → alternatives t e ≡ some l → get_elem? l i ≡ some α → (rhs : List Sym) × (alt g A (suc i) ≡ some rhs) × (map (ex m) rhs ≡ α)
    the-alt A i e l p q n =
        let f = agree A in
        let h : l ≡ map (map (ex m)) (row g A).alts = cc (ap (alternatives t) p) in
        let u = nth-unmap (map (ex m)) (row g A).alts i (rw h at n) in
        (u.0, alt-of A i {rhs = u.0} u.1, u.2)

    -- The production of a kind of node.
    pub child-alt : (A C i k : ℕ) → ex m (nt A) ≡ child C → get_elem? (kinds_of t C) i ≡ some k → (rhs : List Sym) × (alt g A (suc i) ≡ some rhs) × (map (ex m) rhs ≡ body_of t k)
    unfolding alternatives of_sort sort_of
    child-alt A C i k p n = the-alt A i (child C) (map (body_of t) (kinds_of t C)) p refl (nth-map (body_of t) (kinds_of t C) i n)

    -- The alternative of a production.
    pub the-choice : (A j : ℕ) (x : Ex) (l : List (List Ex)) {rhs : List Sym} → ex m (nt A) ≡ x → alternatives t x ≡ some l → alt g A (suc j) ≡ some rhs → get_elem? l j ≡ some (map (ex m) rhs)
    unfolding alt pick
    the-choice A j x l p q n =
        let f = agree A in
        let h : l ≡ map (map (ex m)) (row g A).alts = cc (ap (alternatives t) p) in
        rw h (nth-map (map (ex m)) (row g A).alts j n)

    -- The kind of a production of nodes.
    pub the-kind : (A C i : ℕ) {rhs : List Sym} → ex m (nt A) ≡ child C → alt g A (suc i) ≡ some rhs → (k : ℕ) × (get_elem? (kinds_of t C) i ≡ some k) × (body_of t k ≡ map (ex m) rhs)
    unfolding alternatives of_sort sort_of
    the-kind A C i p n = nth-unmap (body_of t) (kinds_of t C) i (the-choice A i (child C) (map (body_of t) (kinds_of t C)) p refl n)

    -- No alternative has the number 0.
    pub no_zero : (A : ℕ) {rhs : List Sym} → alt g A zero ≡ some rhs → ⊥
    unfolding alt pick
    no_zero A e = let z : ◌≡◌ {A = ℕ} 0 1 = cc in omega arith

    -- The tokens of items that match are derived.
    pub to-der : {es : List Ex} {r : Items} → Match t es r → (σ : List Sym) → map (ex m) σ ≡ es → Der g σ (yield r)
    unfolding yield
    to-der m_end [] e = d_end
    to-der m_end (s ∷ σ) e = let z : ◌≡◌ {A = ℕ} 0 1 = cc in absurd (omega arith)
    to-der (m_word k) [] e = let z : ◌≡◌ {A = ℕ} 0 1 = cc in absurd (omega arith)
    to-der (m_word {c = c} k) (tok a ∷ σ) e = let q = to-der k σ (cc) in rw (tok-mark m a c (cc)) (d_tok q)
    to-der (m_word {c = c} k) (nt A ∷ σ) e = absurd (never-mark A c (cc))
    to-der (m_sub i p n k) [] e = let z : ◌≡◌ {A = ℕ} 0 1 = cc in absurd (omega arith)
    to-der (m_sub {C = C} i p n k) (tok a ∷ σ) e = absurd (tok-child m a C (cc))
    to-der (m_sub {C = C} {k = x} i p n k) (nt A ∷ σ) e =
        let h = child-alt A C i x (cc) p in
        d_nt (suc i) h.1 (der-append g (to-der n h.0 h.2) (to-der k σ (cc)))
    to-der (m_choice i p k) [] e = let z : ◌≡◌ {A = ℕ} 0 1 = cc in absurd (omega arith)
    to-der (m_choice {e = y} i p k) (tok a ∷ σ) e = absurd (tok-choice m a y i (cc) p)
    to-der (m_choice {e = y} {es = es} i p k) (nt A ∷ σ) e =
        let h = the-alt A i y (choices t y) (cc) (flat-unfolds y (choice-flat y i p)) p in
        let q : map (ex m) σ ≡ es = cc in
        d_nt (suc i) h.1 (to-der k (h.0 ++ σ) (rw (map-append, h.2, q)))

    abbrev Back : Ex → List Ex → Items → Type 0
    Back x es r = (s : Items) × Match t (x ∷ es) s × (yield s ≡ yield r)

    back-node : (A C j : ℕ) (es : List Ex) (r : Items) {rhs : List Sym} → ex m (nt A) ≡ child C → alt g A (suc j) ≡ some rhs → Halves (map (ex m) rhs) es r → Back (child C) es r
    unfolding yield
    back-node A C j es r {rhs} p n h =
        let u = the-kind A C j p n in
        let w : Match t (body_of t u.0) h.js = rw u.2 h.left in
        (sub u.0 h.js h.ks, m_sub j u.1 w h.right, h.whole)

    back : (A j : ℕ) (es : List Ex) (r : Items) {rhs : List Sym} → alt g A (suc j) ≡ some rhs → Match t (map (ex m) rhs ++ es) r → (s : Sort) → sort_of (ex m (nt A)) ≡ s → Back (ex m (nt A)) es r
    back A j es r n k (token c) p = absurd (never-token A c p)
    back A j es r {rhs} n k (node C) p =
        let q = sort-node (ex m (nt A)) C p in
        subst (λ (x : Ex). Back x es r) (sym q) (back-node A C j es r q n (split k (map (ex m) rhs) es refl))
    back A j es r n k flat p = (r, m_choice j (the-choice A j (ex m (nt A)) (choices t (ex m (nt A))) refl (flat-unfolds (ex m (nt A)) p) n) k, refl)

    -- What is derived are the tokens of items that match.
    pub from-der : {σ : List Sym} {ts : List ℕ} → Der g σ ts → (r : Items) × Match t (map (ex m) σ) r × (yield r ≡ ts)
    unfolding yield ex
    from-der d_end = (nil, m_end, refl)
    from-der (d_tok {a = a} d) = let h = from-der d in (word a h.0, m_word h.1, cc h.2)
    from-der (d_nt zero e d) = absurd (no_zero _ e)
    from-der (d_nt {A = A} {σ = σ} (suc j) {rhs = rhs} e d) =
        let h = from-der d in
        let k : Match t (map (ex m) rhs ++ map (ex m) σ) h.0 = rw map-append at h.1 in
        let b = back A j (map (ex m) σ) h.0 e k (sort_of (ex m (nt A))) refl in
        (b.0, b.1, b.2 ∙ h.2)
