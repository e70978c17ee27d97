-- The executable parser with its fuel, what was checked of a grammar, and what the parser's answer says. The theorems that follow
-- are listed in Theorems.antt.
-- Assumes nothing.
use Rattle.std.specs.Prelude.{◌≡◌, Bool, List, [], ◌∷◌, ◌++◌, map, T, take, drop, get_or}
use Rattle.std.proofs.Math.Path.{refl}
use Rattle.std.proofs.Common.{sym, ap, ◌∙◌, subst, append_assoc, append-nil, arith, length-drop, drop_of_length-le, take-append-drop, take_all, take-suc, take-take, drop-cons, get_or-take, length-take-le, ltb-true, ltb-false}
use Rattle.std.proofs.Math.Bool.{true, false}
use Prim.Native.Nat.{ℕ, suc, ◌+◌, ◌*◌, ◌≤◌, ◌<◌}
use Rattle.std.proofs.Math.Decide.{dec_lt}
use Rattle.std.proofs.Math.Dec.{ltb}
use Rattle.std.proofs.Math.ListN.{length}
use Rattle.text.specs.Lists.{has}
use Rattle.theory.specs.Grammar.{nt, Row, row, Der}
use Rattle.theory.specs.Machine.{Same, same_end, same_head}
use Rattle.theory.specs.Check.{good}
use Rattle.theory.specs.Predict.{start-ok}
use Rattle.theory.specs.Ebnf.{Ex, Ebnf, Items, yield, Match, Tree, FirstWrong}
use Rattle.theory.specs.Same.{ex, sames, to-der, from-der}
use Rattle.theory.specs.Walk.{Reads, reads-match, reads-yield, Sticks, Stops, sticks-stops, long-stops}
use Rattle.theory.specs.Unique.{unique}
use Rattle.theory.specs.Exec.{Out, went, halted, tired, exec, Right, right-exec}
use Rattle.theory.specs.Fuel.{need, paid, Alive, enough}

-- The parser's answer: the tree of all the tokens, or the place where they are stuck.
pub data Found : Type 0 where
  found : Items → Found
  stuck : ℕ → Found

-- What was read is the answer if it reaches the end, n; if it does not, the first token after it is refused.
unfoldable pub judge : Out → ℕ → Found
judge (went r j) n = elim (ltb j n) [ true ↦ stuck j | false ↦ found r ]
judge (halted p) n = stuck p
judge tired n = stuck 0

-- The tokens s read as the nonterminal S, with fuel that `Checked` makes enough.
unfoldable pub parse : Ebnf → List Ex → List Row → ℕ → List ℕ → Found
parse t m g S s = judge (exec t m g s (64 * length s + need t m g (nt S ∷ [])) (nt S ∷ []) 0) (length s)

-- What antt computes of a grammar t, of its productions with their table g, of the column m that says what each nonterminal stands
-- for, and of the nonterminal S that stands for the expression E.
pub record Checked (t : Ebnf) (m : List Ex) (g : List Row) (S : ℕ) (E : Ex) : Type 0 where
  pub right : T (good g)
  pub same : T (sames t m g m)
  pub pays : T (paid t m g)
  pub start : ex m (nt S) ≡ E
  pub ends : T (has (row g S).follow 0)

module _ (t : Ebnf) (m : List Ex) (g : List Row) (S : ℕ) (E : Ex) (ok : Checked t m g S E) where
  starts-map : map (ex m) (nt S ∷ []) ≡ E ∷ []
  starts-map = rw ok.start refl

  -- A tree's tokens are derived.
  pub tree-der : {ts : List ℕ} → Tree t E ts → Der g (nt S ∷ []) ts
  tree-der r = subst (λ (l : List ℕ). Der g (nt S ∷ []) l) r.2 (to-der t m g ok.same r.1 (nt S ∷ []) starts-map)

  -- What is derived are a tree's tokens.
  pub der-tree : {ts : List ℕ} → Der g (nt S ∷ []) ts → Tree t E ts
  der-tree d = let h = from-der t m g ok.same d in (h.0, subst (λ (l : List Ex). Match t l h.0) starts-map h.1, h.2)

  -- Two trees with the same tokens are one.
  pub one-tree : {r u : Items} → Match t (E ∷ []) r → Match t (E ∷ []) u → yield r ≡ yield u → r ≡ u
  one-tree {r} {u} a b e =
      let f : (x : Items) → Match t (E ∷ []) x → Match t (map (ex m) (nt S ∷ [])) x = λ x y. subst (λ (l : List Ex). Match t l x) (sym starts-map) y in
      unique t m g ok.same ok.right (nt S ∷ []) r u (start-ok g S ok.ends) (f r a) (f u b) e

  module _ (s : List ℕ) where
    -- What an answer says: a tree with just these tokens, or a first place where they are wrong.
    abbrev pub Says : Found → Type 0
    Says (found r) = Match t (E ∷ []) r × (yield r ≡ s)
    Says (stuck p) = Stops t m g s S p

    -- What is read to the end is a tree with just these tokens.
    pub whole_says : {r : Items} {j : ℕ} → Reads t m g s (nt S ∷ []) 0 r j → length s ≤ j → Says (found r)
    whole_says {r} {j} p h =
        let d : drop j s ≡ [] = drop_of_length-le s h in (
          subst (λ (l : List Ex). Match t l r) starts-map (reads-match t m g s ok.same p),
          sym (reads-yield t m g s p ∙ ap (λ (l : List ℕ). yield r ++ l) d ∙ append-nil (yield r)),
        )

    -- What is read, but not to the end, stops after it.
    pub long-says : {r : Items} {j : ℕ} → Reads t m g s (nt S ∷ []) 0 r j → j < length s → Says (stuck j)
    long-says p h = long-stops t m g s ok.right S ok.ends p h

    -- What is stuck stops there.
    pub stuck-says : {p : ℕ} → Sticks t m g s (nt S ∷ []) 0 p → Says (stuck p)
    stuck-says k = sticks-stops t m g s ok.right S ok.ends k

    judge-says : (o : Out) → Right t m g s (nt S ∷ []) 0 o → Alive t m g ok.same ok.right ok.pays s o → Says (judge o (length s))
    unfolding judge
    judge-says (went r j) p h = go (ltb j (length s)) refl
      where
        go : (b : Bool) → ltb j (length s) ≡ b → Says (elim b [ true ↦ stuck j | false ↦ found r ])
        go true e = long-says p (ltb-true j (length s) e)
        go false e = whole_says p (ltb-false j (length s) e)
    judge-says (halted p) k h = stuck-says (k [])
    judge-says tired k h = absurd h

    -- What the parser answers holds.
    pub parse-says : Says (parse t m g S s)
    unfolding parse
    parse-says =
        let f : ℕ = 64 * length s + need t m g (nt S ∷ []) in
        judge-says (exec t m g s f (nt S ∷ []) 0) (right-exec t m g s f (nt S ∷ []) 0)
        (enough t m g ok.same ok.right ok.pays s f (nt S ∷ []) 0 (omega arith) (omega arith))

    same_self : (x : List ℕ) → Same x x
    same_self [] = same_end
    same_self (a ∷ x) = same_head

    -- Tokens that stop are no tree's.
    pub stops-no-tree : {p : ℕ} → Says (stuck p) → Tree t E s → ⊥
    stops-no-tree {p} w r =
        w.after (drop p s) (same_self (drop p s)) (tree-der (r.0, r.1, r.2 ∙ sym (take-append-drop p s)))

    with_token : (p : ℕ) → p < length s → (more : List ℕ) → take (suc p) s ++ more ≡ take p s ++ (get_or s p 0 ∷ more)
    with_token p h more = ap (λ (l : List ℕ). l ++ more) (take-suc s p 0 h) ∙ append_assoc (take p s) (get_or s p 0 ∷ []) more

    -- Nor does any tree begin with them and go on with the token where they stop.
    pub stops-no-further : {p : ℕ} → Says (stuck p) → p < length s → (more : List ℕ) → Tree t E (take (suc p) s ++ more) → ⊥
    stops-no-further {p} w h more r =
        let d : Same (drop p s) (get_or s p 0 ∷ more) = rw (drop-cons s p 0 h) same_head in
        w.after (get_or s p 0 ∷ more) d (tree-der (r.0, r.1, r.2 ∙ with_token p h more))

    -- The place where they stop is where they are first wrong,
    pub stops-wrong : {p : ℕ} → Says (stuck p) → FirstWrong t E s p
    stops-wrong w = record { within = w.within; before = (w.before.0, der-tree w.before.1); further = stops-no-further w; ended = λ e. stops-no-tree w }

    ahead : (p : ℕ) (r x : List ℕ) → FirstWrong t E s p → drop p s ≡ r → Same r x → Der g (nt S ∷ []) (take p s ++ x) → ⊥
    ahead p r x w e same_end d =
        let n = length-drop p s in
        let l : length (drop p s) ≡ 0 = ap length e in
        let h = w.within in
        let q : take p s ≡ s = take_all p s (omega arith) in
        w.ended (omega arith) (subst (λ (l : List ℕ). Tree t E l) (append-nil (take p s) ∙ q) (der-tree d))
    ahead p r x w e (same_head {x = a} {r = u} {s = v}) d =
        let n = length-drop p s in
        let l : length (drop p s) ≡ suc (length u) = ap length e in
        let h : p < length s = omega arith in
        let c = drop-cons s p 0 h in
        let b : a ≡ get_or s p 0 = cc in
        w.further h v (subst (λ (l : List ℕ). Tree t E l) (ap (λ (y : ℕ). take p s ++ (y ∷ v)) b ∙ sym (with_token p h v)) (der-tree d))

    -- and the other way round.
    pub wrong-stops : {p : ℕ} → FirstWrong t E s p → Says (stuck p)
    wrong-stops {p} w = record { within = w.within; before = (w.before.0, tree-der w.before.1); after = λ x h d. ahead p (drop p s) x w refl h d }

    -- They stop at one place only.
    first-place : {p q : ℕ} → Says (stuck p) → Says (stuck q) → p < q → ⊥
    first-place {p} {q} v w h =
        let b = w.before in
        let n = w.within in
        let x : List ℕ = drop p (take q s) ++ b.0 in
        let e : take p s ++ x ≡ take q s ++ b.0 =
        sym (append_assoc (take p s) (drop p (take q s)) b.0) ∙ ap (λ (l : List ℕ). l ++ b.0) (ap (λ (l : List ℕ). l ++ drop p (take q s)) (sym (take-take p q s (omega arith))) ∙ take-append-drop p (take q s)) in
        let y : drop p s ≡ get_or s p 0 ∷ drop (suc p) s = drop-cons s p 0 (omega arith) in
        let l : p < length (take q s) = (let t = length-take-le q s n in omega arith) in
        let z : drop p (take q s) ≡ get_or (take q s) p 0 ∷ drop (suc p) (take q s) = drop-cons (take q s) p 0 l in
        let a : get_or (take q s) p 0 ≡ get_or s p 0 = get_or-take q s p 0 h in
        let alike : Same (drop p s) x = rw (y, z, a) same_head in
        v.after x alike (subst (λ (l : List ℕ). Der g (nt S ∷ []) l) (sym e) b.1)

    one_place : {p q : ℕ} → Says (stuck p) → Says (stuck q) → p ≡ q
    one_place {p} {q} v w = go (dec_lt p q) (dec_lt q p)
      where
        go : Dec (p < q) → Dec (q < p) → p ≡ q
        go (yes h) d = absurd (first-place v w h)
        go (no h) (yes k) = absurd (first-place w v k)
        go (no h) (no k) = omega arith

    -- An answer that holds is the only one.
    pub one_answer : (x y : Found) → Says x → Says y → x ≡ y
    one_answer (found r) (found u) a b = ap found (one-tree a.0 b.0 (a.1 ∙ sym b.1))
    one_answer (found r) (stuck p) a b = absurd (stops-no-tree b (r, a.0, a.1))
    one_answer (stuck p) (found r) a b = absurd (stops-no-tree a (r, b.0, b.1))
    one_answer (stuck p) (stuck q) a b = ap stuck (one_place a b)
