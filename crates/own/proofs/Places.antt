-- Tokens in order, and the places of a node and of those beneath it.
-- Assumes nothing.
use Rattle.std.specs.Prelude.{◌≡◌, refl, Bool, false, ◌||◌, not, List, [], ◌∷◌, ◌++◌, map, ◌⊎◌, ℕ, ◌+◌, ◌<◌, ◌≤◌, T, leb, length}
use Rattle.std.proofs.Common.{ap, ◌∙◌, subst, append-nil, inl, inr, arith, leb→le, le→leb, length-append}
use Rattle.text.proofs.Table.{is_true, is_false, first-of, second-of, pair}
use Rattle.text.specs.Lists.{keep, some}
use Rattle.own.specs.Tree.{Tok, Items, none, mark, sub, Node, node, yield, marks, kids, Marked, InOrder, begin, end, turned, groups, nodes, Rec, record_of}
use Rattle.own.specs.Flat.{holds, width}
use Rattle.own.specs.Lists.{All, nil, ◌&◌}
use Rattle.own.proofs.Lists.{all_head, all_map, all-arrange, all-concat, keep_append, keep_all, keep-none, keep_same}

-- A place that holds a token starts no later and ends no earlier.
pub holds-out : (r : Rec) (t : Tok) → T (holds r t) → (r.start ≤ t.start) × (t.stop ≤ r.stop)
holds-out r t h =
    let a = leb r.start t.start in
    let b = leb t.stop r.stop in
    (leb→le r.start t.start (first-of a b h), leb→le t.stop r.stop (second-of a b h))

-- A place that starts no later and ends no earlier holds the token.
pub holds-in : (r : Rec) (t : Tok) → r.start ≤ t.start → t.stop ≤ r.stop → T (holds r t)
holds-in r t a b = pair (leb r.start t.start) (leb t.stop r.stop) (le→leb r.start t.start a) (le→leb t.stop r.stop b)

-- tokens in order, in two parts
pub order-left : (at : ℕ) (a b : List Tok) → InOrder at (a ++ b) → InOrder at a
order-left at [] b o = tt
order-left at (t ∷ a) b o = (o.0, o.1, order-left t.stop a b o.2)

-- The second part is in order from the end of the first.
pub order-right : (at : ℕ) (a b : List Tok) → InOrder at (a ++ b) → InOrder (end at a) b
order-right at [] b o = o
order-right at (t ∷ a) b o = order-right t.stop a b o.2

-- Where two parts end.
pub end-append : (at : ℕ) (a b : List Tok) → end at (a ++ b) ≡ end (end at a) b
end-append at [] b = refl
end-append at (t ∷ a) b = end-append t.stop a b

-- Tokens end no earlier than they begin.
pub order_le : (at : ℕ) (a : List Tok) → InOrder at a → at ≤ end at a
order_le at [] o = omega arith
order_le at (t ∷ a) o = let h = order_le t.stop a o.2 in omega arith

-- One token or more end later than they begin.
pub order-grows : (at : ℕ) (a : List Tok) → InOrder at a → 0 < length a → at < end at a
order-grows at [] o h = absurd (omega arith)
order-grows at (t ∷ a) o h = let i = order_le t.stop a o.2 in omega arith

-- a token lies between two places
pub record Between (lo hi : ℕ) (t : Tok) : Type 0 where
  pub low : lo ≤ t.start
  pub some : t.start < t.stop
  pub high : t.stop ≤ hi

-- Each token lies between where they begin and where they end.
pub order-all : (at : ℕ) (a : List Tok) → InOrder at a → All (Between at (end at a)) a
order-all at [] o = nil
order-all at (t ∷ a) o =
    let h = order_le t.stop a o.2 in
    record { low = o.0; some = o.1; high = h }
    & all_map (λ x b. record { low = omega arith; some = b.some; high = b.high }) (order-all t.stop a o.2)

-- one token or more: where they begin and end
pub end-any : (at : ℕ) (a : List Tok) → 0 < length a → end at a ≡ end 0 a
end-any at [] h = absurd (omega arith)
end-any at (t ∷ a) h = refl

-- They are in order from their own begin.
pub order-begin : (at : ℕ) (a : List Tok) → 0 < length a → InOrder at a → InOrder (begin a) a
order-begin at [] h o = absurd (omega arith)
order-begin at (t ∷ a) h o = (omega arith, o.1, o.2)

-- They begin at the place or later.
pub begin-le : (at : ℕ) (a : List Tok) → 0 < length a → InOrder at a → at ≤ begin a
begin-le at [] h o = absurd (omega arith)
begin-le at (t ∷ a) h o = o.0

-- A node has no more tokens of its own than tokens.
pub marks-few : (is : Items) → length (marks is) ≤ length (yield is)
marks-few none = omega arith
marks-few (mark t r) = let h = marks-few r in omega arith
marks-few (sub k l h js r) = let i = marks-few r in simp length-append (omega arith)

-- a node's place lies between two places
pub record Bounded (lo hi : ℕ) (n : Node) : Type 0 where
  pub low : lo ≤ (record_of n).start
  pub some : (record_of n).start < (record_of n).stop
  pub high : (record_of n).stop ≤ hi

module _ (k l h : ℕ) (js : Items) (own : 0 < length (marks js)) (at : ℕ) (o : InOrder at (yield js)) where
  wordy : 0 < length (yield js)
  wordy = omega (arith, marks-few js)

  -- A node lies between where its tokens begin and where they end.
  pub node-bounded : Bounded at (end at (yield js)) (node k l h js)
  node-bounded =
      let b = order-begin at (yield js) wordy o in
      record {
        low = begin-le at (yield js) wordy o;
        some = omega (arith, order-grows (begin (yield js)) (yield js) b wordy, end-any (begin (yield js)) (yield js) wordy);
        high = omega (arith, end-any at (yield js) wordy);
      }

  -- the place holds the node's tokens
  pub node-holds : All (λ t. T (holds (record_of (node k l h js)) t)) (yield js)
  node-holds =
      let b = order-begin at (yield js) wordy o in
      all_map
      (λ t i. holds-in (record_of (node k l h js)) t i.low (subst (λ (e : ℕ). t.stop ≤ e) (end-any (begin (yield js)) (yield js) wordy) i.high))
      (order-all (begin (yield js)) (yield js) b)

wider : {lo hi : ℕ} {gs : List (List Node)} (lo' hi' : ℕ) → lo' ≤ lo → hi ≤ hi' → All (All (Bounded lo hi)) gs → All (All (Bounded lo' hi')) gs
wider lo' hi' p q = all_map (λ g. all_map (λ n b. record { low = omega arith; some = b.some; high = omega arith }))

-- all beneath lie between where the tokens begin and where they end
pub bounded : (is : Items) (at : ℕ) → InOrder at (yield is) → Marked is → All (All (Bounded at (end at (yield is)))) (groups is)
bounded none at o m = nil
bounded (mark t r) at o m = wider at (end t.stop (yield r)) (omega arith) (omega arith) (bounded r t.stop o.2 m)
bounded (sub k l h js r) at o m =
    let p = order-left at (yield js) (yield r) o in
    let q = order-right at (yield js) (yield r) o in
    let e = end-append at (yield js) (yield r) in
    let u = order_le at (yield js) p in
    let v = order_le (end at (yield js)) (yield r) q in
    let first = node-bounded k l h js m.0 at p & all-concat (all-arrange (turned k js) (bounded js at p m.1)) in
    all_head (wider at (end at (yield js ++ yield r)) (omega arith) (omega arith) (first & nil))
    & wider at (end at (yield js ++ yield r)) (omega arith) (omega arith) (bounded r (end at (yield js)) q m.2)

-- So do the node and all beneath it.
pub nodes-bounded : (k l h : ℕ) (js : Items) (at : ℕ) → InOrder at (yield js) → Marked js → 0 < length (marks js)
    → All (Bounded at (end at (yield js))) (nodes (node k l h js))
nodes-bounded k l h js at o m own = node-bounded k l h js own at o & all-concat (all-arrange (turned k js) (bounded js at o m))

-- what all beneath have, those right beneath have
pub heads : {P : Node → Type 0} (is : Items) → All (All P) (groups is) → All P (kids is)
heads none a = nil
heads (mark t r) a = heads r a
heads (sub k l h js r) (g & a) = all_head g & heads r a

-- with a token of its own, a node is wider than each right beneath
pub narrow : (is : Items) (at : ℕ) → InOrder at (yield is) → Marked is → 0 < length (marks is)
    → All (λ c. width (record_of c) + at < end at (yield is)) (kids is)
narrow none at o m own = nil
narrow (mark t r) at o m own = all_map (λ c b. omega arith) (heads r (bounded r t.stop o.2 m))
narrow (sub k l h js r) at o m own =
    let p = order-left at (yield js) (yield r) o in
    let q = order-right at (yield js) (yield r) o in
    let e = end-append at (yield js) (yield r) in
    let u = order_le at (yield js) p in
    let b = node-bounded k l h js m.0 at p in
    let g = order-grows (end at (yield js)) (yield r) q (omega (arith, marks-few r)) in
    let first : width (record_of (node k l h js)) + at < end at (yield js ++ yield r) = omega arith in
    first & all_map (λ c i. omega arith) (narrow r (end at (yield js)) q m.2 own)

-- A node with a token of its own is wider than each right beneath.
pub narrower : (k l h : ℕ) (js : Items) (at : ℕ) → InOrder at (yield js) → Marked js → 0 < length (marks js)
    → All (λ c. width (record_of c) < width (record_of (node k l h js))) (kids js)
narrower k l h js at o m own =
    let w = wordy k l h js own at o in
    let b = order-begin at (yield js) w o in
    let e = end-any (begin (yield js)) (yield js) w in
    all_map (λ c i. omega arith) (narrow js (begin (yield js)) b m own)

-- which tokens a place holds: of tokens in order, those that it was made from
pub held : (n : Node) (a b : List Tok) → 0 < length (yield n.items) → InOrder 0 (a ++ (yield n.items ++ b))
    → keep (holds (record_of n)) (a ++ (yield n.items ++ b)) ≡ yield n.items
held n a b w o =
    let y = yield n.items in
    let oa = order-left 0 a (y ++ b) o in
    let oyb = order-right 0 a (y ++ b) o in
    let oy = order-left (end 0 a) y b oyb in
    let ob = order-right (end 0 a) y b oyb in
    let s = begin-le (end 0 a) y w oy in
    let e = end-any (end 0 a) y w in
    let eb = end-any (begin y) y w in
    let none_before : All (λ t. ¬ T (holds (record_of n) t)) a =
    all_map (λ t i h. let p = holds-out (record_of n) t h in omega arith) (order-all 0 a oa) in
    let all-within : All (λ t. T (holds (record_of n) t)) y =
    all_map (λ t i. holds-in (record_of n) t i.low (omega arith)) (order-all (begin y) y (order-begin (end 0 a) y w oy)) in
    let none_after : All (λ t. ¬ T (holds (record_of n) t)) b =
    all_map (λ t i h. let p = holds-out (record_of n) t h in omega arith) (order-all (end (end 0 a) y) b ob) in
    keep_append (holds (record_of n)) a (y ++ b)
    ∙ (rw (
      keep-none (holds (record_of n)) none_before,
      keep_append (holds (record_of n)) y b,
      keep_all (holds (record_of n)) all-within,
      keep-none
          (holds (record_of n)) none_after,
    ) (append-nil y))

-- what no node right beneath holds
pub any_none : (t : Tok) {cs : List Node} → All (λ c. ¬ T (holds (record_of c) t)) cs → some (λ c. holds c t) (map record_of cs) ≡ false
unfolding some
any_none t nil = refl
any_none t (◌&◌ {a = c} {l = cs} h a) = rw (is_false (holds (record_of c) t) h) (any_none t a)

-- a node does not hold what stands before or after
pub misses : {lo hi : ℕ} {n : Node} (t : Tok) → Bounded lo hi n → t.start < t.stop → (t.start < lo) ⊎ (hi < t.stop) → ¬ T (holds (record_of n) t)
misses {n = n} t b w (inl p) h = let q = holds-out (record_of n) t h in omega arith
misses {n = n} t b w (inr p) h = let q = holds-out (record_of n) t h in omega arith

-- Of its tokens, those that no node right beneath holds are its own.
pub own-marks : (is : Items) (at : ℕ) → InOrder at (yield is) → Marked is → keep (λ t. not (some (λ c. holds c t) (map record_of (kids is)))) (yield is) ≡ marks is
unfolding some
own-marks none at o m = refl
own-marks (mark t r) at o m =
    let no-kid : some (λ c. holds c t) (map record_of (kids r)) ≡ false = any_none t
    (all_map (λ c b. misses t b o.1 (inl o.1)) (heads r (bounded r t.stop o.2 m))) in
    rw no-kid (ap (λ (l : List Tok). t ∷ l) (own-marks r t.stop o.2 m))
own-marks (sub k l h js r) at o m =
    let n = node k l h js in
    let p = order-left at (yield js) (yield r) o in
    let q = order-right at (yield js) (yield r) o in
    let test : Tok → Bool = λ t. not (holds (record_of n) t || some (λ c. holds c t) (map record_of (kids r))) in
    let none_here : All (λ t. ¬ T (test t)) (yield js) =
    all_map (λ t i. rw (is_true (holds (record_of n) t) i) (λ x. x)) (node-holds k l h js m.0 at p) in
    let same_after : All (λ t. test t ≡ not (some (λ c. holds c t) (map record_of (kids r)))) (yield r) =
    all_map (λ t i. rw (is_false (holds (record_of n) t) (misses t (node-bounded k l h js m.0 at p) i.some (inr (omega arith)))))
    (order-all (end at (yield js)) (yield r) q) in
    keep_append test (yield js) (yield r)
    ∙ (rw (keep-none test none_here) (keep_same test (λ t. not (some (λ c. holds c t) (map record_of (kids r)))) same_after ∙ own-marks r (end at (yield js)) q m.2))
