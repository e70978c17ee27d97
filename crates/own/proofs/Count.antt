-- Every token is some node's own, so the nodes' own tokens add up to all.
-- Assumes nothing.
use Rattle.std.specs.Prelude.{◌≡◌, refl, Bool, true, false, List, [], ◌∷◌, ◌++◌, ℕ, zero, suc, ◌+◌, ◌<◌, ◌≤◌, length, get_or}
use Rattle.std.proofs.Common.{ap, arith, length-append}
use Rattle.own.specs.Tree.{Items, none, mark, sub, Node, node, yield, marks, turned, exchange, arrange, concat, groups, nodes, roots, tokens, all}
use Rattle.own.specs.Flat.{total}

-- a sum over nodes, whatever the arrangement
module _ (f : Node → ℕ) where
  -- The sum over nodes.
  abbrev pub weigh : List Node → ℕ
  weigh [] = 0
  weigh (n ∷ l) = f n + weigh l

  -- The sum over two lists.
  pub weigh-append : (k l : List Node) → weigh (k ++ l) ≡ weigh k + weigh l
  weigh-append [] l = omega arith
  weigh-append (n ∷ k) l = let h = weigh-append k l in omega arith

  weigh-swap : (gs : List (List Node)) → weigh (concat (exchange gs)) ≡ weigh (concat gs)
  weigh-swap [] = refl
  weigh-swap (a ∷ []) = refl
  weigh-swap (a ∷ b ∷ []) = refl
  weigh-swap (e ∷ a ∷ b ∷ []) =
      omega (
        arith,
        weigh-append e (a ++ (b ++ [])),
        weigh-append e (b ++ (a ++ [])),
        weigh-append a (b ++ []),
        weigh-append b [],
        weigh-append b
            (a ++ []),
        weigh-append a [],
      )
  weigh-swap (e ∷ a ∷ b ∷ c ∷ gs) = refl

  -- The sum does not depend on the arrangement.
  pub weigh-arrange : (b : Bool) (gs : List (List Node)) → weigh (concat (arrange b gs)) ≡ weigh (concat gs)
  weigh-arrange true gs = weigh-swap gs
  weigh-arrange false gs = refl

abbrev own : List Node → ℕ
own = weigh (λ n. length (marks n.items))

own-items : (is : Items) → length (marks is) + own (concat (groups is)) ≡ length (yield is)
own-items none = omega arith
own-items (mark t r) = let h = own-items r in omega arith
own-items (sub k l h js r) =
    omega (
      arith,
      own-items js,
      own-items r,
      weigh-arrange (λ m. length (marks m.items)) (turned k js) (groups js),
      weigh-append
          (λ m. length (marks m.items)) (nodes (node k l h js)) (concat (groups r)),
      length-append (yield js) (yield r),
    )

marks-roots : (ns : List Node) → marks (roots ns) ≡ []
marks-roots [] = refl
marks-roots (n ∷ ns) = marks-roots ns

-- All nodes' own tokens are all tokens.
pub own-all : (ns : List Node) → own (all ns) ≡ length (tokens ns)
own-all ns = omega (arith, own-items (roots ns), ap length (marks-roots ns))

-- a sum by numbers
pub total-same : (f g : ℕ → ℕ) (n : ℕ) → ((j : ℕ) → j < n → f j ≡ g j) → total f n ≡ total g n
total-same f g zero h = refl
total-same f g (suc n) h = let i = total-same (λ j. f (suc j)) (λ j. g (suc j)) n (λ j l. h (suc j) (omega arith)) in let e = h 0 (omega arith) in omega arith

-- A sum of numbers from 1 is at least their count.
pub total-least : (f : ℕ → ℕ) (n : ℕ) → ((j : ℕ) → j < n → 0 < f j) → n ≤ total f n
total-least f zero h = omega arith
total-least f (suc n) h = let i = total-least (λ j. f (suc j)) n (λ j l. h (suc j) (omega arith)) in let e = h 0 (omega arith) in omega arith

-- The sum by numbers is the sum over the list.
pub total-own : (l : List Node) (d : Node) → total (λ j. length (marks (get_or l j d).items)) (length l) ≡ own l
total-own [] d = refl
total-own (n ∷ l) d = let h = total-own l d in omega arith
