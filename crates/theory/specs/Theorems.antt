-- The main theorems, for any grammar of expressions whose tables pass the computed checks (`Parse.Checked`). A tree of the expression E
-- is `Match t (E ∷ []) r`, its tokens are `yield r`; `Tree t E ts` says that some tree has the tokens ts, `FirstWrong t E s p` that
-- the tokens s are first wrong at the place p (all in Ebnf.antt).
-- Assumes nothing.
use Rattle.std.specs.Prelude.{◌≡◌, refl, List, [], ◌∷◌, ◌++◌, ◌↔◌, ℕ, suc, ◌≤◌, ◌<◌, length, take}
use Rattle.std.proofs.Common.{subst, arith}
use Rattle.theory.specs.Grammar.{nt, Row}
use Rattle.theory.specs.Ebnf.{Ex, Ebnf, Items, yield, Match, Tree, FirstWrong}
use Rattle.theory.specs.Walk.{Reads, Sticks}
use Rattle.theory.specs.Parse.{Found, found, stuck, parse, Checked, one-tree, Says, parse-says, whole_says, long-says, stuck-says, stops-no-tree, stops-wrong, wrong-stops, one_answer}

module _ (t : Ebnf) (m : List Ex) (g : List Row) (S : ℕ) (E : Ex) (ok : Checked t m g S E) where
  only : (s : List ℕ) (x : Found) → Says t m g S E ok s x → parse t m g S s ≡ x
  only s x h = one_answer t m g S E ok s (parse t m g S s) x (parse-says t m g S E ok s) h

  -- Sound: the tree that the parser finds is a tree, and its tokens are those that were given.
  pub sound : (s : List ℕ) (r : Items) → parse t m g S s ≡ found r → Match t (E ∷ []) r × (yield r ≡ s)
  sound s r e = subst (Says t m g S E ok s) e (parse-says t m g S E ok s)

  -- Complete: from the tokens of a tree the parser finds that tree.
  pub complete : (r : Items) → Match t (E ∷ []) r → parse t m g S (yield r) ≡ found r
  complete r k = only (yield r) (found r) (k, refl)

  -- Both: the parser finds a tree exactly when it is one with these tokens.
  pub found-exactly : (s : List ℕ) (r : Items) → (parse t m g S s ≡ found r) ↔ (Match t (E ∷ []) r × (yield r ≡ s))
  found-exactly s r = (sound s r, λ h. only s (found r) h)

  -- Unique tree: two trees with the same tokens are one.
  pub unique : (r u : Items) → Match t (E ∷ []) r → Match t (E ∷ []) u → yield r ≡ yield u → r ≡ u
  unique r u a b e = one-tree t m g S E ok a b e

  -- The parser is stuck exactly where the tokens are first wrong.
  pub stuck-exactly : (s : List ℕ) (p : ℕ) → (parse t m g S s ≡ stuck p) ↔ FirstWrong t E s p
  stuck-exactly s p = (λ e. stops-wrong t m g S E ok s (subst (Says t m g S E ok s) e (parse-says t m g S E ok s)), λ w. only s (stuck p) (wrong-stops t m g S E ok s w))

  module _ (s : List ℕ) (p : ℕ) (at : parse t m g S s ≡ stuck p) where
    -- The place where the tokens are stuck is one of theirs, or their end.
    pub within : p ≤ length s
    within = ((stuck-exactly s p).0 at).within

    -- Viable prefix: the tokens before the place begin some tree's.
    pub viable : (more : List ℕ) × Tree t E (take p s ++ more)
    viable = ((stuck-exactly s p).0 at).before

    -- No further: with the token at the place they begin no tree's.
    pub no-further : p < length s → (more : List ℕ) → Tree t E (take (suc p) s ++ more) → ⊥
    no-further = ((stuck-exactly s p).0 at).further

    -- In either case, at the end too, the tokens themselves are no tree's.
    pub no-tree : Tree t E s → ⊥
    no-tree r = stops-no-tree t m g S E ok s (wrong-stops t m g S E ok s ((stuck-exactly s p).0 at)) r

  -- The executable form agrees with the relations that a parser in code is proved against (Walk.antt): read to the end,
  pub reads-found : (s : List ℕ) (r : Items) → Reads t m g s (nt S ∷ []) 0 r (length s) → parse t m g S s ≡ found r
  reads-found s r k = only s (found r) (whole_says t m g S E ok s k (omega arith))

  -- read with tokens left over,
  pub reads-stuck : (s : List ℕ) (r : Items) (j : ℕ) → Reads t m g s (nt S ∷ []) 0 r j → j < length s → parse t m g S s ≡ stuck j
  reads-stuck s r j k h = only s (stuck j) (long-says t m g S E ok s k h)

  -- or stuck.
  pub sticks-stuck : (s : List ℕ) (p : ℕ) → Sticks t m g s (nt S ∷ []) 0 p → parse t m g S s ≡ stuck p
  sticks-stuck s p k = only s (stuck p) (stuck-says t m g S E ok s k)
