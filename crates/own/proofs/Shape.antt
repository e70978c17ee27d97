-- The nodes in the order handed over: each is followed by all beneath it, so the sizes find its children.
-- Assumes nothing.
use Rattle.std.specs.Prelude.{◌≡◌, refl, Bool, true, false, ◌||◌, List, [], ◌∷◌, ◌++◌, map, ℕ, zero, suc, ◌-◌, ◌<◌, ◌≤◌, length, get_or, take, drop}
use Rattle.std.proofs.Common.{sym, ap, ◌∙◌, append_assoc, append-nil, arith, length-append, take_at, drop_at}
use Rattle.std.proofs.lemmas.List.{length-map, map-append}
use Rattle.text.specs.Lists.{some}
use Rattle.own.specs.Tree.{Tok, Items, none, mark, sub, Node, node, kids, turned, exchange, arrange, concat, groups, nodes, below, roots, all, Rec, record_of, records}
use Rattle.own.specs.Flat.{holds, row, head_children}
use Rattle.own.specs.Lists.{All, nil, ◌&◌}
use Rattle.own.proofs.Lists.{all-arrange, arrange-map}

-- each node of the list is followed by all beneath it
pub data Leads : List Node → Type 0 where
  end : Leads []
  lead : {n : Node} {l : List Node} (rest : List Node) → n ∷ l ≡ nodes n ++ rest → Leads l → Leads (n ∷ l)

leads-append : {a b : List Node} → Leads a → Leads b → Leads (a ++ b)
leads-append end y = y
leads-append {b = b} (lead {n = n} rest e x) y = lead (rest ++ b) (ap (λ m. m ++ b) e ∙ append_assoc (nodes n) rest b) (leads-append x y)

leads-concat : {gs : List (List Node)} → All Leads gs → Leads (concat gs)
leads-concat nil = end
leads-concat (x & a) = leads-append x (leads-concat a)

leads-groups : (is : Items) → All Leads (groups is)
leads-groups none = nil
leads-groups (mark t r) = leads-groups r
leads-groups (sub k l h js r) = lead [] (sym (append-nil (nodes (node k l h js)))) (leads-concat (all-arrange (turned k js) (leads-groups js))) & leads-groups r

-- In the order handed over each node is followed by all beneath it.
pub leads-all : (ns : List Node) → Leads (all ns)
leads-all ns = leads-concat (leads-groups (roots ns))

-- From the place of a node on, it and all beneath it stand first.
pub leads-at : {l : List Node} (j : ℕ) (d : Node) → j < length l → Leads l → (rest : List Node) × (drop j l ≡ nodes (get_or l j d) ++ rest)
leads-at j d i end = absurd (omega arith)
leads-at zero d i (lead rest e x) = (rest, e)
leads-at (suc j) d i (lead rest e x) = leads-at j d (omega arith) x

-- the groups are those of the nodes right beneath
groups-kids : (is : Items) → groups is ≡ map nodes (kids is)
groups-kids none = refl
groups-kids (mark t r) = groups-kids r
groups-kids (sub k l h js r) = ap (λ m. nodes (node k l h js) ∷ m) (groups-kids r)

nodes-below : (n : Node) → nodes n ≡ n ∷ concat (map nodes (below n))
nodes-below n = ap (λ m. n ∷ concat m) (ap (arrange (turned n.kind n.items)) (groups-kids n.items) ∙ sym
    (arrange-map nodes (turned n.kind n.items) (kids n.items)))

-- a row of nodes, each with all beneath it, by the sizes
row-nodes : (cs : List Node) (f : ℕ) → length cs ≤ f → row f (map record_of (concat (map nodes cs))) ≡ map record_of cs
row-nodes [] zero h = refl
row-nodes [] (suc f) h = refl
row-nodes (c ∷ cs) zero h = absurd (omega arith)
row-nodes (c ∷ cs) (suc f) h = ap (λ m. record_of c ∷ m) (ap (row f)
    (ap (drop s) (map-append record_of beneath later) ∙ drop_at (map record_of beneath) (map record_of later) s same) ∙ row-nodes cs f (omega arith))
  where
    beneath : List Node
    beneath = concat (arrange (turned c.kind c.items) (groups c.items))

    later : List Node
    later = concat (map nodes cs)

    s : ℕ
    s = (record_of c).size - 1

    same : length (map record_of beneath) ≡ s
    same = length-map beneath record_of ∙ omega arith

few : (cs : List Node) → length cs ≤ length (concat (map nodes cs))
few [] = omega arith
few (c ∷ cs) = let h = few cs in omega (arith, length-append (nodes c) (concat (map nodes cs)))

-- the children of the first record are those of its node
pub head-children : (n : Node) (rest : List Node) → head_children (map record_of (nodes n ++ rest)) ≡ map record_of (below n)
head-children n rest = ap (row size) (ap (take (size - 1)) (map-append record_of beneath rest) ∙ take_at (map record_of beneath) (map record_of rest)
    (size - 1) same) ∙ ap (λ m. row size (map record_of m)) is_below ∙ row-nodes (below n) size enough
  where
    beneath : List Node
    beneath = concat (arrange (turned n.kind n.items) (groups n.items))

    size : ℕ
    size = (record_of n).size

    same : length (map record_of beneath) ≡ size - 1
    same = length-map beneath record_of ∙ omega arith

    is_below : beneath ≡ concat (map nodes (below n))
    is_below = cc (nodes-below n)

    enough : length (below n) ≤ size
    enough = omega (arith, few (below n), ap length is_below)

-- The nodes right beneath are the trees.
pub kids-roots : (ns : List Node) → kids (roots ns) ≡ ns
kids-roots [] = refl
kids-roots (n ∷ ns) = ap (λ m. n ∷ m) (kids-roots ns)

-- the records of the trees themselves, through the sizes from the first on
pub tops : (ns : List Node) (f : ℕ) → length (records ns) ≤ f → row f (records ns) ≡ map record_of ns
tops ns f h =
    ap (λ m. row f (map record_of (concat m))) e
    ∙ row-nodes ns f (omega (arith, h, few ns, length-map (all ns) record_of, ap (λ m. length (concat m)) e))
  where
    e : groups (roots ns) ≡ map nodes ns
    e = groups-kids (roots ns) ∙ ap (map nodes) (kids-roots ns)

-- a token that one of them holds
any_swap : (t : Tok) (l : List Rec) → some (λ c. holds c t) (exchange l) ≡ some (λ c. holds c t) l
unfolding some
any_swap t [] = refl
any_swap t (a ∷ []) = refl
any_swap t (a ∷ b ∷ []) = refl
any_swap t (e ∷ a ∷ b ∷ []) = ap (λ m. holds e t || m) (flip (holds a t) (holds b t))
  where
    flip : (x y : Bool) → (y || (x || false)) ≡ (x || (y || false))
    flip true true = refl
    flip true false = refl
    flip false true = refl
    flip false false = refl
any_swap t (e ∷ a ∷ b ∷ c ∷ l) = refl

-- Whether one holds a token does not depend on the arrangement.
pub any-arrange : (t : Tok) (b : Bool) (l : List Rec) → some (λ c. holds c t) (arrange b l) ≡ some (λ c. holds c t) l
any-arrange t true l = any_swap t l
any-arrange t false l = refl
