-- Each token is owned by exactly one node, of those of its tree and of all trees beside it, and every other that holds it is wider.
-- Assumes nothing.
use Rattle.std.specs.Prelude.{◌≡◌, refl, Bool, ◌&&◌, not, List, [], ◌∷◌, map, ℕ, ◌<◌, ◌≤◌, length, T}
use Rattle.std.proofs.Common.{inl, inr, arith, T_not}
use Rattle.text.proofs.Table.{first-of, second-of, pair, or_left, or_right}
use Rattle.text.specs.Lists.{some}
use Rattle.own.specs.Tree.{Tok, Items, none, mark, sub, Node, node, yield, kids, Marked, InOrder, end, turned, groups, nodes, record_of, roots, marks, tokens, all, Fine}
use Rattle.own.specs.Flat.{holds, width}
use Rattle.own.specs.Lists.{All, nil, ◌&◌, Only, here, there}
use Rattle.own.proofs.Lists.{all_head, all_tail, all_map, all_both, all_append, all-arrange, all-concat, only-left, only-right, only-arrange, only-concat}
use Rattle.own.proofs.Places.{order-left, order-right, order-all, node-holds, bounded, nodes-bounded, heads, narrower, any_none, misses}

-- a node owns a token
abbrev pub mine : Node → Tok → Bool
mine n t = holds (record_of n) t && not (some (λ c. holds c t) (map record_of (kids n.items)))

-- The owner of the token, of width w.
pub record Home (t : Tok) (w : ℕ) (n : Node) : Type 0 where
  pub owns : T (mine n t)
  pub wide : width (record_of n) ≡ w

-- Any other node: it is wider if it holds the token.
pub record Apart (t : Tok) (w : ℕ) (n : Node) : Type 0 where
  pub wider : T (holds (record_of n) t) → w < width (record_of n)
  pub other : ¬ T (mine n t)

-- A node that does not hold the token.
pub record Away (t : Tok) (n : Node) : Type 0 where
  pub out : ¬ T (holds (record_of n) t)

apart : {t : Tok} (w : ℕ) (n : Node) → Away t n → Apart t w n
apart {t} w n a =
    record { wider = λ h. absurd (a.out h); other = λ h. a.out (first-of (holds (record_of n) t) (not (some (λ c. holds c t) (map record_of (kids n.items)))) h) }

aparts : {t : Tok} {gs : List (List Node)} (w : ℕ) → All (All (Away t)) gs → All (All (Apart t w)) gs
aparts w = all_map (λ g. all_map (apart w))

-- where a token of a row of items is owned, with those right beneath and the groups of the row: in the row itself, or beneath
data Spot (W : ℕ) (t : Tok) (ks : List Node) (gs : List (List Node)) : Type 0 where
  own : All (All (Away t)) gs → Spot W t ks gs
  deep : (w : ℕ) → w < W → T (some (λ c. holds c t) (map record_of ks)) → Only (Only (Home t w) (Apart t w)) (All (Apart t w)) gs → Spot W t ks gs

-- The owner is the node or one beneath it, and no wider.
pub record Found (t : Tok) (n : Node) : Type 0 where
  pub w : ℕ
  pub narrow : w ≤ width (record_of n)
  pub only : Only (Home t w) (Apart t w) (nodes n)

found : (k l h : ℕ) (js : Items) (t : Tok) → T (holds (record_of (node k l h js)) t) → Spot (width (record_of (node k l h js))) t (kids js) (groups js)
    → Found t (node k l h js)
found k l h js t held (own a) =
    let n = node k l h js in
    let home : Home t (width (record_of n)) n = record {
      owns = pair (holds (record_of n) t) (not (some (λ c. holds c t) (map record_of (kids js)))) held
          (let e = any_none t (all_map (λ c x. x.out) (heads js a)) in rw e tt);
      wide = refl;
    } in
    record { w = width (record_of n); narrow = omega arith; only = here home (all-concat (all-arrange (turned k js) (aparts (width (record_of n)) a))) }
found k l h js t held (deep w lt kid o) =
    let n = node k l h js in
    let others : Apart t w n = record {
      wider = λ x. lt;
      other = λ x. T_not (some (λ c. holds c t) (map record_of (kids js)))
          (second-of (holds (record_of n) t) (not (some (λ c. holds c t) (map record_of (kids js)))) x) kid;
    } in
    record { w = w; narrow = omega arith; only = there others (only-concat (only-arrange (turned k js) o)) }

spots : (is : Items) (at W : ℕ) → InOrder at (yield is) → Marked is → All (λ c. width (record_of c) < W) (kids is)
    → All (λ t. Spot W t (kids is) (groups is)) (yield is)
unfolding some
spots none at W o m ws = nil
spots (mark t r) at W o m ws =
    own (all_map (λ g. all_map (λ n b. record { out = misses t b o.1 (inl o.1) })) (bounded r t.stop o.2 m))
    & spots r t.stop W o.2 m ws
spots (sub k l h js r) at W o m ws =
    let n = node k l h js in
    let p = order-left at (yield js) (yield r) o in
    let q = order-right at (yield js) (yield r) o in
    let wn = all_head ws in
    let front = all_both (spots js at (width (record_of n)) p m.1 (narrower k l h js at p m.1 m.0))
    (all_both (node-holds k l h js m.0 at p) (order-all at (yield js) p)) in
    let back = all_both (spots r (end at (yield js)) W q m.2 (all_tail ws)) (order-all (end at (yield js)) (yield r) q) in
    all_append (all_map (λ t x. within t wn (found k l h js t x.1.0 x.0) x.1.0
    (all_map (λ g. all_map (λ c b. record { out = misses t b x.1.1.some (inl (omega arith)) })) (bounded r (end at (yield js)) q m.2))) front)
    (all_map (λ t x. past t (all_map (λ c b. record { out = misses t b x.1.some (inr (omega arith)) }) (nodes-bounded k l h js at p m.1 m.0))
    x.0) back)
  where
    within : (t : Tok) → width (record_of (node k l h js)) < W → Found t (node k l h js) → T (holds (record_of (node k l h js)) t) → All (All (Away t)) (groups r)
        → Spot W t (node k l h js ∷ kids r) (nodes (node k l h js) ∷ groups r)
    within t lt f held a = deep f.w (omega arith) (or_left (holds (record_of (node k l h js)) t) (some (λ c. holds c t) (map record_of (kids r))) held)
        (here f.only (aparts f.w a))

    past : (t : Tok) → All (Away t) (nodes (node k l h js)) → Spot W t (kids r) (groups r)
        → Spot W t (node k l h js ∷ kids r) (nodes (node k l h js) ∷ groups r)
    past t a (own b) = own (a & b)
    past t a (deep w lt kid o) = deep w lt (or_right (holds (record_of (node k l h js)) t) (some (λ c. holds c t) (map record_of (kids r))) kid) (there (all_map (apart w) a) o)

-- in a tree whose tokens start at a place or later
homes_in : (k l h : ℕ) (js : Items) (at : ℕ) → InOrder at (yield js) → Marked js → 0 < length (marks js)
    → All (λ t. Found t (node k l h js)) (yield js)
homes_in k l h js at o m wordy =
    let held = node-holds k l h js wordy at o in
    let ws = narrower k l h js at o m wordy in
    all_map (λ t x. found k l h js t x.0 x.1) (all_both held (spots js at (width (record_of (node k l h js))) o m ws))

-- the owner of a token among nodes, with its width
pub record Housed (t : Tok) (l : List Node) : Type 0 where
  pub w : ℕ
  pub only : Only (Home t w) (Apart t w) l

-- in trees side by side: a tree's places lie apart from those of the trees before and after it
housed : (ns : List Node) (at : ℕ) → InOrder at (tokens ns) → Marked (roots ns) → All (λ t. Housed t (all ns)) (tokens ns)
housed [] at o m = nil
housed (n ∷ ns) at o m =
    let y = yield n.items in
    let p = order-left at y (tokens ns) o in
    let q = order-right at y (tokens ns) o in
    let within = homes_in n.kind n.low n.high n.items at p m.1 m.0 in
    let later = all-concat (bounded (roots ns) (end at y) q m.2) in
    let earlier = nodes-bounded n.kind n.low n.high n.items at p m.1 m.0 in
    all_append
    (all_map (λ t x. record {
      w = x.0.w;
      only = only-left x.0.only
          (all_map (λ c b. apart x.0.w c (record { out = misses t b x.1.some (inl (omega arith)) })) later);
    })
    (all_both within (order-all at y p)))
    (all_map (λ t x. record {
      w = x.0.w;
      only = only-right (all_map
          (λ c b. apart x.0.w c (record { out = misses t b x.1.some (inr (omega arith)) })) earlier) x.0.only;
    })
    (all_both (housed ns (end at y) q m.2) (order-all (end at y) (tokens ns) q)))

-- Each token of fine trees has its owner among their nodes.
pub homes : (ns : List Node) → Fine ns → All (λ t. Housed t (all ns)) (tokens ns)
homes ns f = housed ns 0 f.ordered f.marked
