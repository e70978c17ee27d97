-- Law 3 holds of what is handed over of trees side by side whose nodes each keep the rule of their kind.
-- Assumes nothing.
use Rattle.std.specs.Prelude.{◌≡◌, Bool, true, ◌&&◌, List, [], ◌∷◌, ◌++◌, map, ◌≢◌, ◌⊎◌, ℕ, ◌<◌, ◌≤◌, T, length, get_or}
use Rattle.std.proofs.Math.Path.{refl, ap}
use Rattle.std.proofs.Common.{sym, ◌∙◌, subst, append_assoc, inl, inr, arith, eq-eqb, ne_eqb}
use Rattle.std.proofs.Math.Bool.{false}
use Rattle.std.proofs.Math.Dec.{eqb, eqb→eq}
use Rattle.std.proofs.lemmas.List.{length-map}
use Rattle.text.proofs.Table.{first-of, second-of, or_cases}
use Rattle.own.specs.Tree.{Tok, Items, none, mark, sub, Node, node, roots, yield, kids, Each, Marked, Paired, InOrder, begin, end, partner, canonical, paired, reversed, turned, arrange, groups, record_of, tokens, all, records, Fine}
use Rattle.own.specs.Flat.{blank, children}
use Rattle.own.specs.Law.{word, class_at, sort_of, made, Rule, first_class, sorts, Keeps, Ordered, Canonical, Ownership}
use Rattle.own.specs.Lists.{All, nil, ◌&◌}
use Rattle.own.proofs.Lists.{all-arrange, all-concat, all-at}
use Rattle.own.proofs.Places.{order-left, order-right, order_le, begin-le, marks-few}
use Rattle.own.proofs.Merge.{pieces}
use Rattle.own.proofs.Owners.{no_node, kept}
use Rattle.own.specs.Kinds as kind

-- what holds of every node beneath, by groups
pub each_all : (P : Node → Type 0) (is : Items) → Each P is → All (All P) (groups is)
each_all P none h = nil
each_all P (mark t r) h = each_all P r h
each_all P (sub k l i js r) h = (h.0 & all-concat (all-arrange (turned k js) (each_all P js h.1))) & each_all P r h.2

-- what holds of every node beneath, from what holds of each
pub each_map : (P Q : Node → Type 0) → ((n : Node) → P n → Q n) → (is : Items) → Each P is → Each Q is
each_map P Q f none h = tt
each_map P Q f (mark t r) h = each_map P Q f r h
each_map P Q f (sub k l i js r) h = (f (node k l i js) h.0, each_map P Q f js h.1, each_map P Q f r h.2)

-- the token that a part begins with is found by its place
class-at : (at : ℕ) (a y b : List Tok) → 0 < length y → InOrder at (a ++ (y ++ b)) → class_at (a ++ (y ++ b)) (begin y) ≡ first_class y
class-at at [] [] b h o = absurd (omega arith)
class-at at [] (t ∷ y) b h o = rw (eq-eqb t.start t.start refl) refl
class-at at (x ∷ a) y b h o =
    let oy = order-left (end x.stop a) y b (order-right x.stop a (y ++ b) o.2) in
    let later : x.stop ≤ begin y = omega (arith, order_le x.stop a (order-left x.stop a (y ++ b) o.2), begin-le (end x.stop a) y h oy) in
    rw (ne_eqb x.start (begin y) (λ e. omega arith)) (class-at x.stop a y b h o.2)

-- The pieces of a part of the tokens, as a rule sees them.
pub sorts-pieces : (ts : List Tok) → InOrder 0 ts → (is : Items) (a b : List Tok) → ts ≡ a ++ (yield is ++ b) → Marked is → map (sort_of ts) (pieces is) ≡ sorts is
sorts-pieces ts o none a b e m = refl
sorts-pieces ts o (mark t r) a b e m =
    ap (λ l. word t.class ∷ l) (sorts-pieces ts o r (a ++ (t ∷ [])) b (e ∙ sym (append_assoc a (t ∷ []) (yield r ++ b))) m)
sorts-pieces ts o (sub k l h js r) a b e m =
    let f : ts ≡ a ++ (yield js ++ (yield r ++ b)) = e ∙ ap (λ x. a ++ x) (append_assoc (yield js) (yield r) b) in
    let g : ts ≡ (a ++ yield js) ++ (yield r ++ b) = f ∙ sym (append_assoc a (yield js) (yield r ++ b)) in
    let c : class_at ts (begin (yield js)) ≡ first_class (yield js) =
    ap (λ x. class_at x (begin (yield js))) f ∙ class-at 0 a (yield js) (yield r ++ b) (omega (arith, marks-few js, m.0)) (subst (InOrder 0) f o) in
    let rest = sorts-pieces ts o r (a ++ yield js) b g m.2 in
    cc

module _ (lo hi : ℕ) (e a b : Node) where
  arms : T (canonical a b) → Ordered lo hi (record_of e ∷ record_of a ∷ record_of b ∷ []) ⊎ Ordered lo hi (record_of e ∷ record_of b ∷ record_of a ∷ [])
      → Canonical lo hi (record_of e ∷ record_of a ∷ record_of b ∷ [])
  unfolding canonical
  arms t o =
      let x = eqb a.kind kind.BuiltinArm in
      let y = eqb b.kind kind.BuiltinArm in
      let z = partner a.low b.low in
      let u = second-of x (y && z) t in
      record {
        matched = record_of e;
        first = record_of a;
        second = record_of b;
        they_are = refl;
        first_arm = eqb→eq a.kind kind.BuiltinArm (first-of x (y && z) t);
        second_arm = eqb→eq b.kind kind.BuiltinArm (first-of y z u);
        partners = second-of y z u;
        places = o;
      }

-- the arms as they are handed over
handed-arms : (lo hi : ℕ) (ks : List Node) → T (paired ks) → Ordered lo hi (map record_of ks) → Canonical lo hi (map record_of (arrange (reversed ks) ks))
handed-arms lo hi [] t o = absurd t
handed-arms lo hi (e ∷ []) t o = absurd t
handed-arms lo hi (e ∷ a ∷ []) t o = absurd t
handed-arms lo hi (e ∷ a ∷ b ∷ []) t o = go (canonical b a) refl (or_cases (canonical a b) (canonical b a) t)
  where
    go : (r : Bool) → canonical b a ≡ r → T (canonical a b) ⊎ T (canonical b a) → Canonical lo hi (map record_of (arrange r (e ∷ a ∷ b ∷ [])))
    go true q u = arms lo hi e b a (rw q tt) (inr o)
    go false q (inl u) = arms lo hi e a b u (inl o)
    go false q (inr u) = absurd (rw q at u)
handed-arms lo hi (e ∷ a ∷ b ∷ c ∷ l) t o = absurd t

-- Law 3, of every list of trees side by side that is fine and whose nodes all keep the rule.
module _ (R : Rule) (ns : List Node) (fine : Fine ns) (keeps : Each (Keeps R) (roots ns)) where
  -- the node of the record j
  at : ℕ → Node
  at j = get_or (all ns) j no_node

  module _ (j : ℕ) (lt : j < length (records ns)) where
    inside : j < length (all ns)
    inside = omega (arith, length-map (all ns) record_of)

    stands : get_or (records ns) j blank ≡ record_of (at j)
    unfolding at
    stands = (kept ns fine).stands j lt

    has : (P : Node → Type 0) → Each P (roots ns) → P (at j)
    unfolding at
    has P h = all-at j no_node inside (all-concat (each_all P (roots ns) h))

    is_made : made (tokens ns) (records ns) j ≡ sorts (at j).items
    unfolding at
    is_made =
        let s = (kept ns fine).sits j lt in
        ap (map (sort_of (tokens ns))) ((kept ns fine).same j lt) ∙ sorts-pieces (tokens ns) fine.ordered (at j).items s.before s.after s.split
        s.marked

    is_spelled : R (get_or (records ns) j blank).kind (get_or (records ns) j blank).low (get_or (records ns) j blank).high (made (tokens ns) (records ns) j)
    is_spelled = rw (stands, is_made) (has (Keeps R) keeps)

    is-canonical : (get_or (records ns) j blank).kind ≡ kind.Match → Canonical (get_or (records ns) j blank).start (get_or (records ns) j blank).stop (children (records ns) j)
    unfolding at turned
    is-canonical e =
        let k : (at j).kind ≡ kind.Match = ap (λ r. r.kind) (sym stands) ∙ e in
        let q : turned (at j).kind (at j).items ≡ reversed (kids (at j).items) = rw k refl in
        rw ((kept ns fine).beneath j lt, q) (handed-arms (get_or (records ns) j blank).start (get_or (records ns) j blank).stop (kids (at j).items)
        (has Paired fine.paired k) ((kept ns fine).ordered j lt))

    is-ordered : (get_or (records ns) j blank).kind ≢ kind.Match → Ordered (get_or (records ns) j blank).start (get_or (records ns) j blank).stop (children (records ns) j)
    unfolding at turned
    is-ordered ne =
        let q : turned (at j).kind (at j).items ≡ false = rw (ne_eqb (at j).kind kind.Match (λ e. ne (ap (λ r. r.kind) stands ∙ e))) refl in
        rw ((kept ns fine).beneath j lt, q) ((kept ns fine).ordered j lt)

  -- What is handed over is owned as law 3 says.
  pub ownership : Ownership R (tokens ns) (records ns)
  ownership =
      let k = kept ns fine in
      record {
        owner = k.owner;
        some = k.some;
        spelled = is_spelled;
        sum = k.sum;
        few = k.few;
        canonical = is-canonical;
        ordered = is-ordered;
      }
