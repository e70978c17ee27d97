-- A node's own tokens, merged with the nodes right beneath it in order of place, are its items.
-- Assumes nothing.
use Rattle.std.specs.Prelude.{◌≡◌, refl, Bool, true, false, List, [], ◌∷◌, map, ℕ, ◌<◌, ◌≤◌, ltb}
use Rattle.std.proofs.Common.{sym, ap, ◌∙◌, subst, true≢false, arith, ltb→lt}
use Rattle.std.proofs.lemmas.Bool.{lt-ltb, le-ltb}
use Rattle.own.specs.Tree.{Tok, Items, none, mark, sub, Node, node, yield, marks, kids, Marked, InOrder, end, exchange, arrange, Rec, record_of}
use Rattle.own.specs.Flat.{Piece, tok, part, from, put, merge}
use Rattle.own.specs.Law.{Ordered}
use Rattle.own.specs.Lists.{All, nil, ◌&◌}
use Rattle.own.proofs.Lists.{all_map}
use Rattle.own.proofs.Places.{order-left, order-right, order_le, end-append, node-bounded, bounded, heads}

-- one put before all others; a token that stands before all that are put in
put_front : (r : Rec) (l : List Piece) → All (λ p. r.start < from p) l → put r l ≡ part r ∷ l
put_front r [] a = refl
put_front r (p ∷ l) (h & a) = rw (lt-ltb r.start (from p) h)

put-past : (r : Rec) (t : Tok) (l : List Piece) → t.start ≤ r.start → put r (tok t ∷ l) ≡ tok t ∷ put r l
put-past r t l h = rw (le-ltb r.start t.start h)

merge-front : (t : Tok) (ts : List Tok) {cs : List Node} → All (λ c. t.start ≤ (record_of c).start) cs
    → merge (map record_of cs) (t ∷ ts) ≡ tok t ∷ merge (map record_of cs) ts
merge-front t ts nil = refl
merge-front t ts (◌&◌ {a = c} {l = cs} h a) = ap (put (record_of c)) (merge-front t ts a) ∙ put-past (record_of c) t (merge (map record_of cs) ts) h

-- the items of a node, as pieces
abbrev pub pieces : Items → List Piece
pieces none = []
pieces (mark t r) = tok t ∷ pieces r
pieces (sub k l h js r) = part (record_of (node k l h js)) ∷ pieces r

pieces-from : (is : Items) (at : ℕ) → InOrder at (yield is) → Marked is → All (λ p. at ≤ from p) (pieces is)
pieces-from none at o m = nil
pieces-from (mark t r) at o m = o.0 & all_map (λ p h. omega arith) (pieces-from r t.stop o.2 m)
pieces-from (sub k l h js r) at o m =
    let p = order-left at (yield js) (yield r) o in
    let u = order_le at (yield js) p in
    (node-bounded k l h js m.0 at p).low & all_map (λ x i. omega arith) (pieces-from r (end at (yield js)) (order-right at (yield js) (yield r) o) m.2)

-- Own tokens and nodes right beneath, merged, are the items.
pub merge-kids : (is : Items) (at : ℕ) → InOrder at (yield is) → Marked is → merge (map record_of (kids is)) (marks is) ≡ pieces is
merge-kids none at o m = refl
merge-kids (mark t r) at o m =
    merge-front t (marks r) (all_map (λ c b. omega arith) (heads r (bounded r t.stop o.2 m)))
    ∙ ap (λ l. tok t ∷ l) (merge-kids r t.stop o.2 m)
merge-kids (sub k l h js r) at o m =
    let q = order-right at (yield js) (yield r) o in
    let b = node-bounded k l h js m.0 at (order-left at (yield js) (yield r) o) in
    ap (put (record_of (node k l h js))) (merge-kids r (end at (yield js)) q m.2)
    ∙ put_front (record_of (node k l h js)) (pieces r) (all_map (λ p i. omega arith) (pieces-from r (end at (yield js)) q m.2))

-- the nodes right beneath, in order of place
pub ordered-from : {lo : ℕ} (lo' hi : ℕ) (l : List Rec) → lo' ≤ lo → Ordered lo hi l → Ordered lo' hi l
ordered-from lo' hi [] h r = omega arith
ordered-from lo' hi (c ∷ cs) h r = (omega arith, r.1, r.2)

-- The nodes right beneath are in order of place.
pub ordered-kids : (is : Items) (at : ℕ) → InOrder at (yield is) → Marked is → Ordered at (end at (yield is)) (map record_of (kids is))
ordered-kids none at o m = omega arith
ordered-kids (mark t r) at o m =
    ordered-from at (end t.stop (yield r)) (map record_of (kids r)) (omega arith) (ordered-kids r t.stop o.2 m)
ordered-kids (sub k l h js r) at o m =
    let p = order-left at (yield js) (yield r) o in
    let q = order-right at (yield js) (yield r) o in
    let b = node-bounded k l h js m.0 at p in
    let rest = ordered-from (record_of (node k l h js)).stop (end (end at (yield js)) (yield r)) (map record_of (kids r)) b.high
    (ordered-kids r (end at (yield js)) q m.2) in
    (b.low, b.some, subst (λ (e : ℕ). Ordered (record_of (node k l h js)).stop e (map record_of (kids r))) (sym (end-append at (yield js) (yield r))) rest)

-- the order in which two are put in does not matter
put-swap : (a b : Rec) → a.start < b.start → (l : List Piece) → put b (put a l) ≡ put a (put b l)
put-swap a b h [] = rw (le-ltb b.start a.start (omega arith), lt-ltb a.start b.start h)
put-swap a b h (p ∷ l) = go (ltb a.start (from p)) (ltb b.start (from p)) refl refl (put-swap a b h l)
  where
    ba : ltb b.start a.start ≡ false
    ba = le-ltb b.start a.start (omega arith)

    ab : ltb a.start b.start ≡ true
    ab = lt-ltb a.start b.start h

    go : (x y : Bool) → ltb a.start (from p) ≡ x → ltb b.start (from p) ≡ y → put b (put a l) ≡ put a (put b l)
        → put b (put a (p ∷ l)) ≡ put a (put b (p ∷ l))
    go true true ex ey i = simp (ex, ey, ba, ab)
    go true false ex ey i = simp (ex, ey, ba)
    go false true ex ey i =
        let u = ltb→lt b.start (from p) (rw ey tt) in
        let v = lt-ltb a.start (from p) (omega arith) in
        let z : true ≡ false = cc in
        absurd (true≢false z)
    go false false ex ey i = simp (ex, ey) (ap (λ m. p ∷ m) i)

merge-swap : (lo hi : ℕ) (cs : List Rec) (ts : List Tok) → Ordered lo hi cs → merge (exchange cs) ts ≡ merge cs ts
merge-swap lo hi [] ts r = refl
merge-swap lo hi (a ∷ []) ts r = refl
merge-swap lo hi (a ∷ b ∷ []) ts r = refl
merge-swap lo hi (e ∷ a ∷ b ∷ []) ts r = ap (put e) (put-swap a b (omega arith) (map tok ts))
merge-swap lo hi (e ∷ a ∷ b ∷ c ∷ l) ts r = refl

-- Merging does not depend on the arrangement.
pub merge-arrange : (b : Bool) (lo hi : ℕ) (cs : List Rec) (ts : List Tok) → Ordered lo hi cs → merge (arrange b cs) ts ≡ merge cs ts
merge-arrange true lo hi cs ts r = merge-swap lo hi cs ts r
merge-arrange false lo hi cs ts r = refl
