-- What a tree of a category is: one node, of one of the category's kinds.
-- Assumes nothing.
use Rattle.std.proofs.Math.Path.{◌≡◌, ap, subst}
use Rattle.std.specs.Prelude.{refl, List, [], ◌∷◌, ℕ}
use Rattle.std.proofs.Math.Option.{some}
use Rattle.std.proofs.Common.{arith}
use Rattle.std.proofs.Math.ListN.{get_elem?}
use Rattle.theory.specs.Ebnf.{Ex, child, Ebnf, kinds_of, choices, body_of, Items, nil, sub, Match, m_end, m_word, m_sub, m_choice}

module _ (t : Ebnf) where
  no_items : {es : List Ex} {r : Items} → Match t es r → es ≡ [] → r ≡ nil
  no_items m_end e = refl
  no_items (m_word m) e = let z : ◌≡◌ {A = ℕ} 0 1 = cc in absurd (omega arith)
  no_items (m_sub i p n m) e = let z : ◌≡◌ {A = ℕ} 0 1 = cc in absurd (omega arith)
  no_items (m_choice i p m) e = let z : ◌≡◌ {A = ℕ} 0 1 = cc in absurd (omega arith)

  -- The one node of a tree: its kind is one of the category's, and its items are what the kind's expression says.
  pub record OneNode (C : ℕ) (r : Items) : Type 0 where
    pub place : ℕ
    pub kind : ℕ
    pub within : Items
    pub listed : get_elem? (kinds_of t C) place ≡ some kind
    pub body : Match t (body_of t kind) within
    pub whole : r ≡ sub kind within nil

  a_node : (C : ℕ) {es : List Ex} {r : Items} → Match t es r → es ≡ child C ∷ [] → OneNode C r
  unfolding choices
  a_node C m_end e = let z : ◌≡◌ {A = ℕ} 0 1 = cc in absurd (omega arith)
  a_node C (m_word m) e = let z : ◌≡◌ {A = ℕ} 0 1 = cc in absurd (omega arith)
  a_node C (m_sub {C = D} {k = k} {js = js} {r = r} i p n m) e =
      let d : D ≡ C = cc in
      let h = no_items m (cc) in
      record { place = i; kind = k; within = js; listed = subst (λ (X : ℕ). get_elem? (kinds_of t X) i ≡ some k) d p; body = n; whole = ap (sub k js) h }
  a_node C (m_choice {e = y} {α = α} i p m) e =
      let d : y ≡ child C = cc in
      let q : get_elem? (choices t (child C)) i ≡ some α = subst (λ (x : Ex). get_elem? (choices t x) i ≡ some α) d p in
      let z : ◌≡◌ {A = ℕ} 0 1 = cc in
      absurd (omega arith)

  -- A tree of a category is one node.
  pub one-node : (C : ℕ) {r : Items} → Match t (child C ∷ []) r → OneNode C r
  one-node C m = a_node C m refl
