-- What a recursive-descent parser does, as two relations over places among the tokens s: symbols are read from one place to another
-- as items, or they are stuck at a place. No fuel and no stack: a parser's function states one of the two, and the theory says what
-- they mean.
-- Assumes nothing.
use Rattle.std.specs.Prelude.{◌≡◌, ℕ, zero, suc, ◌+◌, ◌≤◌, ◌<◌, T, length, take, get_or}
use Rattle.std.proofs.Math.Path.{refl, sym, ap}
use Rattle.std.proofs.Common.{◌∙◌, subst, arith, length-append, length-drop, drop_of_length-le, take_at}
use mathlib.Core.List.{List, [], ◌∷◌, ◌++◌, map, append_assoc, append-nil}
use Rattle.std.proofs.Math.Option.{none, some}
use Rattle.std.proofs.Math.Decide.{dec_lt}
use Rattle.std.proofs.Math.Numerals.{add-one}
use Rattle.std.proofs.Math.ListN.{drop, get_elem?}
use Rattle.std.proofs.Math.Seq.{drop-cons}
use Rattle.text.specs.Lists.{has}
use Rattle.theory.specs.Grammar.{Sym, tok, nt, Row, row, alt, Der}
use Rattle.theory.specs.Machine.{la, choose, expand, Ref, r_long, r_short, r_other, r_stuck, r_tok, r_nt, Same}
use Rattle.theory.specs.Check.{good}
use Rattle.theory.specs.Predict.{viable, no-further, start-ok}
use Rattle.theory.specs.Ebnf.{Ex, child, Ebnf, kinds_of, body_of, choices, Items, nil, word, sub, yield, Match, m_end, m_word, m_sub, m_choice, flat, sort_of}
use Rattle.theory.specs.Same.{ex, sames, child-alt, the-choice, flat-unfolds, no_zero, map-append}

-- Items side by side.
abbrev pub join : Items → Items → Items
join nil s = s
join (word c r) s = word c (join r s)
join (sub k js r) s = sub k js (join r s)

-- With nothing after them, items are what they are.
pub join-nil : (r : Items) → join r nil ≡ r
join-nil nil = refl
join-nil (word c r) = ap (word c) (join-nil r)
join-nil (sub k js r) = ap (sub k js) (join-nil r)

-- It does not matter which two of three are joined first.
pub join-join : (r s u : Items) → join (join r s) u ≡ join r (join s u)
join-join nil s u = refl
join-join (word c r) s u = ap (word c) (join-join r s u)
join-join (sub k js r) s u = ap (sub k js) (join-join r s u)

-- The class of the next token of the rest is the one at that place.
pub la-drop : (ts : List ℕ) (at : ℕ) → la (drop at ts) ≡ get_or ts at 0
la-drop [] zero = refl
la-drop [] (suc at) = refl
la-drop (a ∷ ts) zero = refl
la-drop (a ∷ ts) (suc at) = la-drop ts at

module _ (t : Ebnf) (m : List Ex) (g : List Row) (s : List ℕ) where
  -- The symbols are read from the first place as these items, up to the second place. A nonterminal that stands for a node gives a
  -- node of the kind that the table chooses; any other is replaced by the alternative that the table chooses.
  pub data Reads : List Sym → ℕ → Items → ℕ → Type 0 where
    n-end : {at : ℕ} → Reads [] at nil at
    n-tok : {b : ℕ} {σ : List Sym} {at : ℕ} {r : Items} {j : ℕ} → at < length s → get_or s at 0 ≡ b → Reads σ (at + 1) r j → Reads (tok b ∷ σ) at (word b r) j
    n-flat : {A : ℕ} {σ rhs : List Sym} {at : ℕ} {r : Items} {j : ℕ} → sort_of (ex m (nt A)) ≡ flat → expand g A (get_or s at 0) ≡ some rhs → Reads (rhs ++ σ) at r j → Reads (nt A ∷ σ) at r j
    n-sub : {A : ℕ} {σ rhs : List Sym} {at : ℕ} {js r : Items} {a j : ℕ} (C i k : ℕ) → ex m (nt A) ≡ child C → get_elem? (kinds_of t C) i ≡ some k
        → choose g A (get_or s at 0) ≡ suc i → alt g A (suc i) ≡ some rhs → Reads rhs at js a → Reads σ a r j → Reads (nt A ∷ σ) at (sub k js r) j

  -- The symbols, read from the first place, are stuck at the second: the token there is not the one that stands next, or there is
  -- none, or the table has nothing for it.
  pub data Sticks : List Sym → ℕ → ℕ → Type 0 where
    k_tok : {b : ℕ} {σ : List Sym} {at : ℕ} → (at < length s → get_or s at 0 ≡ b → ⊥) → Sticks (tok b ∷ σ) at at
    k_nt : {A : ℕ} {σ : List Sym} {at : ℕ} → expand g A (get_or s at 0) ≡ none → Sticks (nt A ∷ σ) at at
    k_eat : {b : ℕ} {σ : List Sym} {at p : ℕ} → at < length s → get_or s at 0 ≡ b → Sticks σ (at + 1) p → Sticks (tok b ∷ σ) at p
    k_in : {A : ℕ} {σ rhs : List Sym} {at p : ℕ} → expand g A (get_or s at 0) ≡ some rhs → Sticks (rhs ++ σ) at p → Sticks (nt A ∷ σ) at p

  chosen_is : (A i : ℕ) {rhs : List Sym} (a : ℕ) → choose g A a ≡ i → alt g A i ≡ some rhs → expand g A a ≡ some rhs
  chosen_is A i a c e = rw c e

  -- Read, and what follows read too.
  pub reads-reads : {σ τ : List Sym} {at a j : ℕ} {r u : Items} → Reads σ at r a → Reads τ a u j → Reads (σ ++ τ) at (join r u) j
  reads-reads n-end q = q
  reads-reads (n-tok h e p) q = n-tok h e (reads-reads p q)
  reads-reads {τ = τ} (n-flat {σ = σ} {rhs = rhs} f e p) q = n-flat f e (rw append_assoc at (reads-reads p q))
  reads-reads (n-sub C i k c x f e p p') q = n-sub C i k c x f e p (reads-reads p' q)

  -- Read, and what follows stuck.
  pub reads-sticks : {σ τ : List Sym} {at a p : ℕ} {r : Items} → Reads σ at r a → Sticks τ a p → Sticks (σ ++ τ) at p
  reads-sticks n-end q = q
  reads-sticks (n-tok h e p) q = k_eat h e (reads-sticks p q)
  reads-sticks (n-flat f e p) q = k_in e (rw append_assoc at (reads-sticks p q))
  reads-sticks {at = at} (n-sub {A = A} C i k c x f e p p') q = k_in (chosen_is A (suc i) (get_or s at 0) f e) (reads-sticks p (reads-sticks p' q))

  -- What is read are the tokens between the two places.
  pub reads-yield : {σ : List Sym} {at j : ℕ} {r : Items} → Reads σ at r j → drop at s ≡ yield r ++ drop j s
  unfolding yield
  reads-yield n-end = refl
  reads-yield {at = at} (n-tok {b = b} h e p) = drop-cons s at 0 h ∙ (rw (← add-one, e) (ap (λ (l : List ℕ). b ∷ l) (reads-yield p)))
  reads-yield (n-flat f e p) = reads-yield p
  reads-yield (n-sub {js = js} C i k c x f e p p') = reads-yield p ∙ ap (λ (l : List ℕ). yield js ++ l) (reads-yield p') ∙ rw append_assoc

  -- Reading goes forwards and stays within the tokens.
  pub reads-within : {σ : List Sym} {at j : ℕ} {r : Items} → Reads σ at r j → at ≤ length s → (at ≤ j) × (j ≤ length s)
  reads-within n-end h = (omega arith, h)
  reads-within (n-tok i e p) h = let q = reads-within p (omega arith) in (omega arith, q.1)
  reads-within (n-flat f e p) h = reads-within p h
  reads-within (n-sub C i k c x f e p p') h = let q = reads-within p h in let q' = reads-within p' q.1 in (omega arith, q'.1)

  -- As many tokens are read as the items have.
  pub reads-length : {σ : List Sym} {at j : ℕ} {r : Items} → Reads σ at r j → at ≤ length s → at + length (yield r) ≡ j
  reads-length {at = at} {j = j} {r = r} p h =
      let w = reads-within p h in
      let n : length (drop at s) ≡ length (yield r ++ drop j s) = ap length (reads-yield p) in
      let n₁ = length-append (yield r) (drop j s) in
      let n₂ = length-drop j s in
      let n₃ = length-drop at s in
      omega arith

  module _ (same : T (sames t m g m)) where
    flat-choice : (A i : ℕ) {rhs : List Sym} → sort_of (ex m (nt A)) ≡ flat → alt g A i ≡ some rhs → (j : ℕ) × (get_elem? (choices t (ex m (nt A))) j ≡ some (map (ex m) rhs))
    flat-choice A zero f e = absurd (no_zero t m g same A e)
    flat-choice A (suc j) f e = (j, the-choice t m g same A j (ex m (nt A)) (choices t (ex m (nt A))) refl (flat-unfolds t (ex m (nt A)) f) e)

    tok-is : (b : ℕ) {es : List Ex} {r : Items} → Match t es r → Match t (ex m (tok b) ∷ es) (word b r)
    unfolding ex
    tok-is b k = m_word k

    -- What is read is what the expressions say.
    pub reads-match : {σ : List Sym} {at j : ℕ} {r : Items} → Reads σ at r j → Match t (map (ex m) σ) r
    reads-match n-end = m_end
    reads-match (n-tok {b = b} h e p) = tok-is b (reads-match p)
    reads-match {at = at} (n-flat {A = A} {rhs = rhs} f e p) =
        let h = flat-choice A (choose g A (get_or s at 0)) f e in
        m_choice h.0 h.1 (rw map-append at (reads-match p))
    reads-match (n-sub {A = A} {σ = σ} {rhs = rhs} {js = js} {r = r} C i k c x f e p p') =
        let h = child-alt t m g same A C i k c x in
        let h₁ = h.1 in
        let q : h.0 ≡ rhs = cc in
        let w : map (ex m) rhs ≡ body_of t k = rw q at h.2 in
        let d : Match t (body_of t k) js = subst (λ (l : List Ex). Match t l js) w (reads-match p) in
        subst (λ (y : Ex). Match t (y ∷ map (ex m) σ) (sub k js r)) (sym c) (m_sub i x d (reads-match p'))

  lacks : (b : ℕ) (σ : List Sym) (at : ℕ) → (at < length s → get_or s at 0 ≡ b → ⊥) → Dec (at < length s) → Ref g (tok b ∷ σ) [] (drop at s)
  lacks b σ at n (yes h) = rw (drop-cons s at 0 h) (r_other (n h))
  lacks b σ at n (no h) = let q : length s ≤ at = omega arith in let e : drop at s ≡ [] = drop_of_length-le s q in rw e r_short

  -- The machine takes the tokens from the first place to the second and refuses there.
  pub record Refuses (σ : List Sym) (at p : ℕ) : Type 0 where
    pub done : List ℕ
    pub whole : drop at s ≡ done ++ drop p s
    pub long : at + length done ≡ p
    pub ref : Ref g σ done (drop p s)

  sees : (A at : ℕ) {rhs : List Sym} (l : List ℕ) → expand g A (get_or s at 0) ≡ some rhs → drop at s ≡ l → expand g A (la l) ≡ some rhs
  sees A at {rhs} l e w = subst (λ (x : ℕ). expand g A x ≡ some rhs) (sym (la-drop s at) ∙ ap la w) e

  -- Where the symbols are stuck the machine refuses.
  pub sticks-refuses : {σ : List Sym} {at p : ℕ} → Sticks σ at p → Refuses σ at p
  sticks-refuses (k_tok {b = b} {σ = σ} {at = at} n) = record { done = []; whole = refl; long = omega arith; ref = lacks b σ at n (dec_lt at (length s)) }
  sticks-refuses (k_nt {A = A} {at = at} e) = let f : expand g A (la (drop at s)) ≡ none = rw la-drop e in record { done = []; whole = refl; long = omega arith; ref = r_stuck f }
  sticks-refuses (k_eat {b = b} {at = at} {p = p} h e k) =
      let r = sticks-refuses k in
      let l = r.long in
      record {
        done = b ∷ r.done;
        whole = drop-cons s at 0 h ∙ (rw (← add-one, e) (ap (λ (l : List ℕ). b ∷ l) r.whole));
        long = omega arith;
        ref = r_tok r.ref;
      }
  sticks-refuses (k_in {A = A} {at = at} {p = p} e k) =
      let r = sticks-refuses k in
      record { done = r.done; whole = r.whole; long = r.long; ref = r_nt (sees A at (r.done ++ drop p s) e r.whole) r.ref }

  -- Read, and then refused by the machine.
  pub reads-ref : {σ τ : List Sym} {at j : ℕ} {r : Items} {d x : List ℕ} → Reads σ at r j → drop j s ≡ d ++ x → Ref g τ d x → Ref g (σ ++ τ) (yield r ++ d) x
  unfolding yield
  reads-ref n-end w q = q
  reads-ref (n-tok h e p) w q = r_tok (reads-ref p w q)
  reads-ref {τ = τ} {at = at} {r = r} {d = d} {x = x} (n-flat {A = A} {σ = σ} {rhs = rhs} f e p) w q =
      r_nt (sees A at ((yield r ++ d) ++ x) e (reads-yield p ∙ ap (λ (l : List ℕ). yield r ++ l) w ∙ rw append_assoc))
      (rw append_assoc at (reads-ref p w q))
  reads-ref {τ = τ} {at = at} {d = d} {x = x} (n-sub {A = A} {js = js} {r = r} C i k c y f e p p') w q =
      let z = reads-ref p' w q in
      let v : drop at s ≡ (yield js ++ (yield r ++ d)) ++ x =
      reads-yield p ∙ ap (λ (l : List ℕ). yield js ++ l) (reads-yield p') ∙ ap (λ (l : List ℕ). yield js ++ (yield r ++ l)) w ∙ sym (simp append_assoc) in
      rw append_assoc
      (r_nt (sees A at ((yield js ++ (yield r ++ d)) ++ x) (chosen_is A (suc i) (get_or s at 0) f e) v)
      (reads-ref p (reads-yield p' ∙ ap (λ (l : List ℕ). yield r ++ l) w ∙ rw append_assoc) z))

  -- The tokens are refused at the place p: those before it begin a word of S, and no word of S goes on with the token there, or ends
  -- there if there is none.
  pub record Stops (S p : ℕ) : Type 0 where
    pub within : p ≤ length s
    pub before : (c : List ℕ) × Der g (nt S ∷ []) (take p s ++ c)
    pub after : (x : List ℕ) → Same (drop p s) x → Der g (nt S ∷ []) (take p s ++ x) → ⊥

  module _ (ok : T (good g)) (S : ℕ) (ends : T (has (row g S).follow 0)) where
    stops : {p : ℕ} (d : List ℕ) → s ≡ d ++ drop p s → length d ≡ p → Ref g (nt S ∷ []) d (drop p s) → Stops S p
    stops {p} d w l r =
        let q : take p s ≡ d = ap (take p) w ∙ take_at d (drop p s) p l in
        let n : length s ≡ length (d ++ drop p s) = ap length w in
        let n₁ = length-append d (drop p s) in
        record {
          within = omega arith;
          before = rw q (viable g ok r);
          after = rw q (no-further g ok (start-ok g S ends) r);
        }

    -- Stuck on the way through S.
    pub sticks-stops : {p : ℕ} → Sticks (nt S ∷ []) 0 p → Stops S p
    sticks-stops k = let r = sticks-refuses k in let l = r.long in stops r.done r.whole (omega arith) r.ref

    -- S is read, and tokens are left.
    pub long-stops : {p : ℕ} {r : Items} → Reads (nt S ∷ []) 0 r p → p < length s → Stops S p
    long-stops {p} {r} k h =
        let l = reads-length k (omega arith) in
        let z : Ref g [] [] (drop p s) = rw (drop-cons s p 0 h) r_long in
        stops (yield r) (reads-yield k) (omega arith) (rw (append-nil (yield r)) at (reads-ref k refl z))
