-- What the flat lists say of the trees that they were made from, and that tokens have one owner each.
-- Assumes nothing.
use Rattle.std.specs.Prelude.{◌≡◌, ◌≢◌, Bool, not, ℕ, ◌<◌, ◌≤◌, get_or}
use Rattle.std.proofs.Common.{sym, ◌∙◌, arith}
use Rattle.std.proofs.Math.Path.{ap, subst}
use mathlib.Core.List.{List, [], ◌∷◌, ◌++◌, map, append_assoc, append-nil}
use Rattle.std.proofs.Math.Decide.{ℕ_discrete}
use Rattle.std.proofs.Math.Dec.{T}
use Rattle.std.proofs.Math.ListN.{length, length-map}
use Rattle.std.proofs.lemmas.List.{drop-map, get_or-map}
use Rattle.text.proofs.Table.{first-of}
use Rattle.text.specs.Lists.{some, keep}
use Rattle.own.specs.Tree.{Tok, Items, none, mark, sub, Node, node, roots, yield, marks, kids, Marked, InOrder, begin, end, turned, groups, below, Rec, record_of, tokens, all, records, Fine}
use Rattle.own.specs.Flat.{holds, width, blank, blank_tok, head_children, children, owns, owned, total, merge, Owner}
use Rattle.own.specs.Law.{Ordered}
use Rattle.own.specs.Lists.{All, nil, ◌&◌}
use Rattle.own.proofs.Lists.{all_map, all-arrange, all-concat, all-at, only_at, keep-and, keep-ext, arrange-map}
use Rattle.own.proofs.Places.{order-left, order-right, order-begin, end-any, marks-few, held, own-marks}
use Rattle.own.proofs.Homes.{mine, Housed, homes}
use Rattle.own.proofs.Shape.{leads-all, leads-at, head-children, any-arrange}
use Rattle.own.proofs.Merge.{pieces, merge-kids, merge-arrange, ordered-kids}
use Rattle.own.proofs.Count.{own-all, total-same, total-least, total-own}

-- the node past the end of a list
abbrev pub no_node : Node
no_node = node 0 0 0 none

-- a node's tokens are a part of all, and it has some of its own
pub record Sits (ts : List Tok) (n : Node) : Type 0 where
  pub before : List Tok
  pub after : List Tok
  pub split : ts ≡ before ++ (yield n.items ++ after)
  pub own : 0 < length (marks n.items)
  pub marked : Marked n.items

sits-in : (ts : List Tok) (is : Items) (a b : List Tok) → ts ≡ a ++ (yield is ++ b) → Marked is → All (All (Sits ts)) (groups is)
sits-in ts none a b e m = nil
sits-in ts (mark t r) a b e m = sits-in ts r (a ++ (t ∷ [])) b (e ∙ sym (append_assoc a (t ∷ []) (yield r ++ b))) m
sits-in ts (sub k l h js r) a b e m =
    let f : ts ≡ a ++ (yield js ++ (yield r ++ b)) = e ∙ ap (λ x. a ++ x) (append_assoc (yield js) (yield r) b) in
    let g : ts ≡ (a ++ yield js) ++ (yield r ++ b) = f ∙ sym (append_assoc a (yield js) (yield r ++ b)) in
    (record { before = a; after = yield r ++ b; split = f; own = m.0; marked = m.1 } & all-concat
    (all-arrange (turned k js) (sits-in ts js a (yield r ++ b) f m.1)))
    & sits-in ts r (a ++ yield js) b g m.2

-- What is handed over, the tokens ts and the records rs, stands for the trees ns.
pub record Kept (ns : List Node) (ts : List Tok) (rs : List Rec) : Type 0 where
  -- the record j is that of the node j, its children through the sizes are those of the nodes right beneath, in the order handed over,
  -- and what it owns with them in order of place are the items of the node
  pub stands : (j : ℕ) → j < length rs → get_or rs j blank ≡ record_of (get_or (all ns) j no_node)
  pub beneath : (j : ℕ) → j < length rs → children rs j ≡ map record_of (below (get_or (all ns) j no_node))
  pub same : (j : ℕ) → j < length rs → merge (children rs j) (owned ts rs j) ≡ pieces (get_or (all ns) j no_node).items
  -- the nodes right beneath, in the order of the text, are in order of place
  pub ordered : (j : ℕ) → j < length rs
      → Ordered (get_or rs j blank).start (get_or rs j blank).stop (map record_of (kids (get_or (all ns) j no_node).items))
  -- the tokens of the node j are a part of all
  pub sits : (j : ℕ) → j < length rs → Sits ts (get_or (all ns) j no_node)
  pub owner : (i : ℕ) → i < length ts → Owner rs (get_or ts i blank_tok)
  pub some : (j : ℕ) → j < length rs → 0 < length (owned ts rs j)
  pub sum : total (λ j. length (owned ts rs j)) (length rs) ≡ length ts
  pub few : length rs ≤ length ts

module _ (ns : List Node) (fine : Fine ns) where
  -- the node of the record j
  at : ℕ → Node
  at j = get_or (all ns) j no_node

  module _ (j : ℕ) (in-range : j < length (records ns)) where
    inside : j < length (all ns)
    inside = omega (arith, length-map (all ns) record_of)

    is-record : get_or (records ns) j blank ≡ record_of (at j)
    unfolding at
    is-record = get_or-map record_of (all ns) j no_node blank inside

    is-children : children (records ns) j ≡ map record_of (below (at j))
    unfolding at
    is-children =
        let (rest, e) = leads-at j no_node inside (leads-all ns) in
        ap head_children (drop-map record_of j (all ns) ∙ ap (map record_of) e) ∙ head-children (at j) rest

    is-owns : (t : Tok) → owns (records ns) j t ≡ mine (at j) t
    is-owns t =
        rw (
          is-record,
          is-children,
          arrange-map record_of (turned (at j).kind (at j).items) (kids (at j).items),
          any-arrange t
              (turned (at j).kind (at j).items) (map record_of (kids (at j).items)),
        )

    its-place : Sits (tokens ns) (at j)
    unfolding at
    its-place = all-at j no_node inside (all-concat (sits-in (tokens ns) (roots ns) [] [] (sym (append-nil (tokens ns))) fine.marked))

    its-order : InOrder (end 0 its-place.before) (yield (at j).items)
    its-order =
        let s = its-place in
        let y = yield (at j).items in
        order-left (end 0 s.before) y s.after (order-right 0 s.before (y ++ s.after) (subst (InOrder 0) s.split fine.ordered))

    has_some : 0 < length (yield (at j).items)
    has_some = omega (arith, marks-few (at j).items, its-place.own)

    -- what a record owns is its node's own
    is-owned : owned (tokens ns) (records ns) j ≡ marks (at j).items
    is-owned =
        let s = its-place in
        let m = at j in
        let no-kid : Tok → Bool = λ t. not (some (λ c. holds c t) (map record_of (kids m.items))) in
        keep-ext (owns (records ns) j) (mine m) is-owns (tokens ns)
        ∙ keep-and (holds (record_of m)) no-kid (tokens ns)
        ∙ ap (keep no-kid) (ap (keep (holds (record_of m))) s.split ∙ held m s.before s.after has_some (subst (InOrder 0) s.split fine.ordered))
        ∙ own-marks m.items (end 0 s.before) its-order s.marked

    -- the nodes right beneath, in the order of the text
    in-places : Ordered (record_of (at j)).start (record_of (at j)).stop (map record_of (kids (at j).items))
    in-places =
        let y = yield (at j).items in
        subst (λ (e : ℕ). Ordered (begin y) e (map record_of (kids (at j).items))) (end-any (begin y) y has_some)
        (ordered-kids (at j).items (begin y) (order-begin (end 0 its-place.before) y has_some its-order) its-place.marked)

    is-ordered : Ordered (get_or (records ns) j blank).start (get_or (records ns) j blank).stop (map record_of (kids (at j).items))
    is-ordered = rw is-record in-places

    is-merged : merge (children (records ns) j) (owned (tokens ns) (records ns) j) ≡ pieces (at j).items
    is-merged =
        let m = at j in
        rw (is-owned, is-children, arrange-map record_of (turned m.kind m.items) (kids m.items))
        (merge-arrange (turned m.kind m.items) (record_of m).start (record_of m).stop (map record_of (kids m.items)) (marks m.items) in-places
        ∙ merge-kids m.items (end 0 its-place.before) its-order its-place.marked)

  -- the one record that owns a token
  its-owner : (t : Tok) → Housed t (all ns) → Owner (records ns) t
  unfolding at
  its-owner t f =
      let (j, lt, home, others) = only_at no_node f.only in
      let lt' : j < length (records ns) = omega (arith, length-map (all ns) record_of) in
      let its : T (owns (records ns) j t) = rw (is-owns j lt' t) home.owns in
      record {
        at = j;
        there = lt';
        its = its;
        inside = first-of (holds (get_or (records ns) j blank) t) (not (some (λ c. holds c t) (children (records ns) j))) its;
        only = λ i li o. alone j i (ℕ_discrete i j) (λ ne. (others i (inside i li) ne).other (rw (is-owns i li t) at o));
        smallest = λ i li ne h. rw (is-record j lt', is-record i li) (omega (arith, (others i (inside i li) ne).wider (rw (is-record i li) at h), home.wide));
      }
    where
      alone : (j i : ℕ) → Dec (i ≡ j) → (i ≢ j → ⊥) → i ≡ j
      alone j i (yes e) no_other = e
      alone j i (no ne) no_other = absurd (no_other ne)

  -- What is handed over of fine trees stands for them.
  pub kept : Kept ns (tokens ns) (records ns)
  unfolding at
  kept =
      record {
        stands = is-record;
        beneath = is-children;
        same = is-merged;
        ordered = is-ordered;
        sits = its-place;
        owner = λ i lt. all-at i blank_tok lt (all_map its-owner (homes ns fine));
        some = least;
        sum = sum;
        few = subst (λ (k : ℕ). length (records ns) ≤ k) sum (total-least (λ j. length (owned (tokens ns) (records ns) j)) (length (records ns)) least);
      }
    where
      least : (j : ℕ) → j < length (records ns) → 0 < length (owned (tokens ns) (records ns) j)
      least j lt = rw (is-owned j lt) (its-place j lt).own

      sum : total (λ j. length (owned (tokens ns) (records ns) j)) (length (records ns)) ≡ length (tokens ns)
      sum =
          total-same (λ j. length (owned (tokens ns) (records ns) j)) (λ j. length (marks (get_or (all ns) j no_node).items)) (length (records ns))
          (λ j lt. ap length (is-owned j lt))
          ∙ ap (total (λ j. length (marks (get_or (all ns) j no_node).items))) (length-map (all ns) record_of)
          ∙ total-own (all ns) no_node
          ∙ own-all ns

-- so the record of the smallest place that holds a token owns it
pub smallest-owns : (rs : List Rec) (t : Tok) → Owner rs t → (j : ℕ) → j < length rs → T (holds (get_or rs j blank) t)
    → ((i : ℕ) → i < length rs → T (holds (get_or rs i blank) t) → width (get_or rs j blank) ≤ width (get_or rs i blank)) → T (owns rs j t)
smallest-owns rs t o j lt h least = go (ℕ_discrete j o.at)
  where
    go : Dec (j ≡ o.at) → T (owns rs j t)
    go (yes e) = rw e o.its
    go (no ne) = absurd (omega (arith, o.smallest j lt ne h, least o.at o.there o.inside))
