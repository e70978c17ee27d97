-- The laws of well-shaped drafts: a shape tree is found exactly when there is one, there is at most one, and tokens are stuck exactly where row 8 says.
-- What is computed of the grammar's tables stands here too.
-- Assumes nothing.
use Rattle.std.specs.Prelude.{◌≡◌, refl, Bool, true, false, List, [], ◌∷◌, ◌++◌, ◌↔◌, ℕ, zero, suc, ◌≤◌, ◌<◌, T, eqb, length, take}
use mathlib.Core.Option.{none-ne-some}
use Rattle.std.proofs.Common.{ap, ◌∙◌, subst, eqb→eq}
use Rattle.std.proofs.Math.Bool.{decide}
use Rattle.std.proofs.Math.Option.{some}
use Rattle.std.proofs.Math.Decide.{ℕ_discrete}
use Rattle.std.proofs.Math.ListN.{get_elem?}
use Rattle.text.specs.Lists.{has, all}
use Rattle.text.proofs.Table.{first-of, second-of, pair}
use Rattle.theory.specs.Grammar.{nt, look, row, alt, pick, blank}
use Rattle.theory.specs.Machine.{choose}
use Rattle.theory.specs.Check.{numbered, scan, follows, short, good_alt, good_row, good}
use Rattle.theory.specs.Ebnf.{Ex, eps, mark, child, part, seq, or, many, list, tail, kinds_of, body_of, items, branches, choices, sort_of, Items, nil, sub, yield, Match, m_end, m_word, m_sub, m_choice, FirstWrong}
use Rattle.theory.specs.Trees.{one-node}
use Rattle.theory.specs.Same.{ex, of_sort, alternatives, eq_list, eq_ex, same_row, sames}
use Rattle.theory.specs.Walk.{Reads, Sticks}
use Rattle.theory.specs.Fuel.{saves, need, paid_row, paid}
use Rattle.theory.specs.Parse.{found, stuck, Checked}
use Rattle.theory.specs.Theorems.{found-exactly, unique, stuck-exactly, no-tree, reads-found, reads-stuck, sticks-stuck}
use Rattle.grammar.specs.Shapes.Categories.{function, type_item, file}
use Rattle.grammar.specs.Shapes.ShapeKind.{FunctionShape}
use Rattle.grammar.specs.Shapes.Shapes.{shapes}
use Rattle.grammar.specs.Shapes.Tables.{table, means}
use Rattle.grammar.specs.Entry.{Entry, single_function, whole_file, start_ex, start_nt}
use Rattle.grammar.specs.Shapes.WellShaped.{Shape, WellShaped, shape_of}

-- Items that are nodes alone, with no token beside them.
pub data Nodes : Items → Type 0 where
  no_more : Nodes nil
  a_node : (k : ℕ) (js : Items) {r : Items} → Nodes r → Nodes (sub k js r)

-- the category of a function has one kind
only-kind : (i k : ℕ) → get_elem? (kinds_of shapes function) i ≡ some k → k ≡ FunctionShape
unfolding kinds_of shapes
only-kind zero k e = cc
only-kind (suc i) k e = absurd (none-ne-some k e)

-- The shape tree of one function is one node, that of a function.
pub shape-function : {r : Items} → Shape single_function r → (js : Items) × (r ≡ sub FunctionShape js nil) × Match shapes (body_of shapes FunctionShape) js
shape-function m =
    let n = one-node shapes function m in
    let e = only-kind n.place n.kind n.listed in
    (n.within, n.whole ∙ ap (λ (k : ℕ). sub k n.within nil) e, subst (λ (k : ℕ). Match shapes (body_of shapes k) n.within) e n.body)

-- An expression whose items are nodes alone: a child, or the items of a file. `file` is the part of this number.
abbrev the_file : ℕ
the_file = 5

is_nodes : Ex → Bool
is_nodes eps = false
is_nodes (mark c) = false
is_nodes (child C) = true
is_nodes (part P) = eqb P the_file
is_nodes (seq e f) = false
is_nodes (or e f) = false
is_nodes (many e) = false
is_nodes (list e c) = false
is_nodes (tail e c) = false

no-choice : {A : Type 0} {α : List Ex} (i : ℕ) → get_elem? {A = List Ex} [] i ≡ some α → A
no-choice i h = absurd (none-ne-some _ h)

file-choice : (i : ℕ) (α : List Ex) → get_elem? (choices shapes file) i ≡ some α → T (all is_nodes α)
unfolding choices shapes branches items all is_nodes
file-choice zero α h = let q : [] ≡ α = cc in subst (λ (l : List Ex). T (all is_nodes l)) q tt
file-choice (suc zero) α h = let q : child type_item ∷ file ∷ [] ≡ α = cc in subst (λ (l : List Ex). T (all is_nodes l)) q tt
file-choice (suc (suc zero)) α h = let q : child function ∷ file ∷ [] ≡ α = cc in subst (λ (l : List Ex). T (all is_nodes l)) q tt
file-choice (suc (suc (suc i))) α h = no-choice i h

top-choice : (e : Ex) (i : ℕ) (α : List Ex) → T (is_nodes e) → get_elem? (choices shapes e) i ≡ some α → T (all is_nodes α)
unfolding choices is_nodes
top-choice eps i α t h = absurd t
top-choice (mark c) i α t h = absurd t
top-choice (child C) i α t h = no-choice i h
top-choice (part P) i α t h = file-choice i α (subst (λ (Q : ℕ). get_elem? (choices shapes (part Q)) i ≡ some α) (eqb→eq P the_file t) h)
top-choice (seq e f) i α t h = absurd t
top-choice (or e f) i α t h = absurd t
top-choice (many e) i α t h = absurd t
top-choice (list e c) i α t h = absurd t
top-choice (tail e c) i α t h = absurd t

tops-append : (α es : List Ex) → T (all is_nodes α) → T (all is_nodes es) → T (all is_nodes (α ++ es))
unfolding all
tops-append [] es s t = t
tops-append (e ∷ α) es s t = pair (is_nodes e) (all is_nodes (α ++ es)) (first-of (is_nodes e) (all is_nodes α) s) (tops-append α es (second-of (is_nodes e) (all is_nodes α) s) t)

nodes-only : {es : List Ex} {r : Items} → Match shapes es r → T (all is_nodes es) → Nodes r
unfolding all is_nodes
nodes-only m_end t = no_more
nodes-only (m_word m) t = absurd t
nodes-only (m_sub {k = k} {js = js} i h m m') t = a_node k js (nodes-only m' t)
nodes-only (m_choice {e = e} {es = es} {α = α} i h m) t =
    nodes-only m (tops-append α es (top-choice e i α (first-of (is_nodes e) (all is_nodes es) t) h) (second-of (is_nodes e) (all is_nodes es) t))

-- A shape tree is nodes alone.
pub shape-nodes : (en : Entry) {r : Items} → Shape en r → Nodes r
unfolding all is_nodes
shape-nodes single_function m = nodes-only m tt
shape-nodes whole_file m = nodes-only m tt

-- The table is that of a predictive parser,
good-table : T (good table)
unfolding table row look blank alt pick choose has all numbered scan follows short good_alt good_row good
good-table = tt

-- its productions are those of the shapes,
same_tables : T (sames shapes means table means)
unfolding table means shapes kinds_of body_of items branches choices sort_of ex of_sort alternatives decide eq_list eq_ex ℕ_discrete same_row sames
same_tables = tt

-- and the fuel of `shape_of` is enough.
paid-table : T (paid shapes means table)
unfolding table means row blank has all sort_of ex saves need paid_row paid
paid-table = tt

-- All that is checked of the tables, by computation. It stands for any proof over them (Theorems.antt of `theory`).
pub checked : (en : Entry) → Checked shapes means table (start_nt en) (start_ex en)
unfolding table means row has ex
checked single_function = record { right = good-table; same = same_tables; pays = paid-table; start = refl; ends = tt }
checked whole_file = record { right = good-table; same = same_tables; pays = paid-table; start = refl; ends = tt }

module _ (en : Entry) where
  -- Law 1. "Well-shaped: some shape tree has these tokens as its yield": a shape tree is found exactly when it is one and has these
  -- tokens,
  pub shape-exactly : (cs : List ℕ) (r : Items) → (shape_of en cs ≡ found r) ↔ (Shape en r × (yield r ≡ cs))
  unfolding shape_of
  shape-exactly cs r = found-exactly shapes means table (start_nt en) (start_ex en) (checked en) cs r

  -- so that one is found exactly when the tokens are well-shaped.
  pub well-shaped-exactly : (cs : List ℕ) → WellShaped en cs ↔ ((r : Items) × (shape_of en cs ≡ found r))
  well-shaped-exactly cs = ((λ w. (w.0, (shape-exactly cs w.0).1 (w.1, w.2))), λ h. let k = (shape-exactly cs h.0).0 h.1 in (h.0, k.0, k.1))

  -- Law 1. "At most one shape tree has a given yield", so "the" tree is one.
  pub one-shape : (r u : Items) → Shape en r → Shape en u → yield r ≡ yield u → r ≡ u
  one-shape r u a b e = unique shapes means table (start_nt en) (start_ex en) (checked en) r u a b e

  -- Law 2. Row 8: "the tokens before this one can be continued to a well-shaped draft, but not with this one": stuck exactly there.
  pub stuck-shape-exactly : (cs : List ℕ) (p : ℕ) → (shape_of en cs ≡ stuck p) ↔ FirstWrong shapes (start_ex en) cs p
  unfolding shape_of
  stuck-shape-exactly cs p = stuck-exactly shapes means table (start_nt en) (start_ex en) (checked en) cs p

  module _ (cs : List ℕ) (p : ℕ) (at : shape_of en cs ≡ stuck p) where
    -- The place is that of a token, "or the length at the end".
    pub stuck-within : p ≤ length cs
    stuck-within = ((stuck-shape-exactly cs p).0 at).within

    -- Law 2. "the tokens before this one can be continued to a well-shaped draft": they begin some shape tree's yield.
    pub continued-before : (more : List ℕ) × WellShaped en (take p cs ++ more)
    continued-before = ((stuck-shape-exactly cs p).0 at).before

    -- Law 2. "but not with this one": with it they begin no shape tree's yield.
    pub not-with-it : p < length cs → (more : List ℕ) → WellShaped en (take (suc p) cs ++ more) → ⊥
    not-with-it = ((stuck-shape-exactly cs p).0 at).further

    -- Law 2. "at the end, the tokens are no shape tree's yield".
    pub not-at-end : p ≡ length cs → WellShaped en cs → ⊥
    not-at-end = ((stuck-shape-exactly cs p).0 at).ended

    -- In either case the tokens are not well-shaped.
    pub not-well-shaped : WellShaped en cs → ⊥
    unfolding shape_of
    not-well-shaped w = no-tree shapes means table (start_nt en) (start_ex en) (checked en) cs p at w

  -- What a parser in code is proved against: the relations `Reads` and `Sticks` of theory's Walk.antt, over these tables from the first
  -- token on. Read to the end,
  pub reads-shape : (cs : List ℕ) (r : Items) → Reads shapes means table cs (nt (start_nt en) ∷ []) 0 r (length cs) → shape_of en cs ≡ found r
  unfolding shape_of
  reads-shape cs r k = reads-found shapes means table (start_nt en) (start_ex en) (checked en) cs r k

  -- read with tokens left over,
  pub reads-too-few : (cs : List ℕ) (r : Items) (j : ℕ) → Reads shapes means table cs (nt (start_nt en) ∷ []) 0 r j → j < length cs → shape_of en cs ≡ stuck j
  unfolding shape_of
  reads-too-few cs r j k h = reads-stuck shapes means table (start_nt en) (start_ex en) (checked en) cs r j k h

  -- or stuck.
  pub sticks-shape : (cs : List ℕ) (p : ℕ) → Sticks shapes means table cs (nt (start_nt en) ∷ []) 0 p → shape_of en cs ≡ stuck p
  unfolding shape_of
  sticks-shape cs p k = sticks-stuck shapes means table (start_nt en) (start_ex en) (checked en) cs p k
