-- For the records of trees the way up found through the sizes is that of the trees: the distance to the record of the node above, also under
-- arms that were exchanged; 0 for a tree's top.
-- Assumes nothing.
use Rattle.std.specs.Prelude.{Bool, true, false, List, [], ◌∷◌, ◌++◌, map, ◌≡◌, refl, ℕ, zero, suc, ◌+◌, ◌<◌, ◌≤◌, ltb, length}
use Rattle.std.proofs.Common.{sym, ap, ap₂, ◌∙◌, subst, arith, append-nil, length-append, ltb-true, ltb-false}
use Rattle.std.proofs.lemmas.List.{length-map}
use Rattle.own.specs.Tree.{Items, none, mark, sub, Node, node, roots, turned, arrange, exchange, concat, groups, all, Rec, record_of, records}
use Rattle.own.specs.File.{filed}
use Rattle.own.proofs.Lists.{arrange-map}
use Rattle.up.specs.Ways.{back, way_up, size_of, each, ways_up}
use Rattle.up.proofs.Laws.{found, passed}
use Rattle.up.specs.Ups.{under, beneath, tops, ups, file_ups}

-- the same on sizes: sizes and ways up of nodes side by side
data Grove : ℕ → List ℕ → List ℕ → Type 0 where
  bare : {d : ℕ} → Grove d [] []
  tree : {d : ℕ} {ss us zs vs : List ℕ} → Grove 1 ss us → length us ≡ length ss → Grove (d + suc (length us)) zs vs
      → Grove d (suc (length ss) ∷ (ss ++ zs)) (d ∷ (us ++ vs))

grove-length : {d : ℕ} {ss us : List ℕ} → Grove d ss us → length us ≡ length ss
grove-length bare = refl
grove-length (tree {d} {ss} {us} {zs} {vs} g e h) = let k = grove-length h in omega (arith, k, e, length-append us vs, length-append ss zs)

-- one node, with all beneath it
data Branch : List ℕ → List ℕ → Type 0 where
  branch : {ss us : List ℕ} → Grove 1 ss us → Branch (suc (length ss) ∷ ss) us

data Branches : List (List ℕ) → List (List ℕ) → Type 0 where
  no_more : Branches [] []
  and : {a u : List ℕ} {bs us : List (List ℕ)} → Branch a u → Branches bs us → Branches (a ∷ bs) (u ∷ us)

branches-swap : {bs us : List (List ℕ)} → Branches bs us → Branches (exchange bs) (exchange us)
branches-swap no_more = no_more
branches-swap (and a no_more) = and a no_more
branches-swap (and a (and b no_more)) = and a (and b no_more)
branches-swap (and a (and b (and c no_more))) = and a (and c (and b no_more))
branches-swap (and a (and b (and c (and d h)))) = and a (and b (and c (and d h)))

branches-arrange : (b : Bool) {bs us : List (List ℕ)} → Branches bs us → Branches (arrange b bs) (arrange b us)
branches-arrange true h = branches-swap h
branches-arrange false h = h

grows : (d : ℕ) {bs us : List (List ℕ)} → Branches bs us → Grove d (concat bs) (under d us)
grows d no_more = bare
grows d (and (branch {us = us} g) h) = tree g (grove-length g) (grows (d + suc (length us)) h)

-- the sizes of records and of nodes
abbrev sizes : List Rec → List ℕ
sizes rs = map (λ r. r.size) rs

abbrev sizes_of : List Node → List ℕ
sizes_of l = sizes (map record_of l)

map_append : (k l : List Node) → sizes_of (k ++ l) ≡ sizes_of k ++ sizes_of l
map_append [] l = refl
map_append (n ∷ k) l = ap (λ m. (record_of n).size ∷ m) (map_append k l)

map-concat : (gs : List (List Node)) → sizes_of (concat gs) ≡ concat (map sizes_of gs)
map-concat [] = refl
map-concat (g ∷ gs) = map_append g (concat gs) ∙ ap (λ m. sizes_of g ++ m) (map-concat gs)

sizes-many : (l : List Node) → length (sizes_of l) ≡ length l
sizes-many [] = refl
sizes-many (n ∷ l) = ap suc (sizes-many l)

node-branch : (k l h : ℕ) (js : Items) → Branches (map sizes_of (groups js)) (beneath js)
    → Branch (sizes_of (node k l h js ∷ concat (arrange (turned k js) (groups js)))) (under 1 (arrange (turned k js) (beneath js)))
node-branch k l h js b =
    let t : Bool = turned k js in
    let below : List Node = concat (arrange t (groups js)) in
    let us : List ℕ = under 1 (arrange t (beneath js)) in
    let e : concat (arrange t (map sizes_of (groups js))) ≡ sizes_of below =
    ap concat (sym (arrange-map sizes_of t (groups js))) ∙ sym (map-concat (arrange t (groups js))) in
    let g : Grove 1 (sizes_of below) us = subst (λ (zs : List ℕ). Grove 1 zs us) e (grows 1 (branches-arrange t b)) in
    subst (λ (z : ℕ). Branch (z ∷ sizes_of below) us) (ap suc (sizes-many below)) (branch g)

branches-are : (is : Items) → Branches (map sizes_of (groups is)) (beneath is)
branches-are none = no_more
branches-are (mark t r) = branches-are r
branches-are (sub k l h js r) = and (node-branch k l h js (branches-are js)) (branches-are r)

-- f gives these from a on
abbrev At : (ℕ → ℕ) → ℕ → List ℕ → Type 0
At f a [] = Unit {0}
At f a (z ∷ zs) = (f a ≡ z) × At f (suc a) zs

module _ (f : ℕ → ℕ) where
  at-left : (a : ℕ) (k l : List ℕ) → At f a (k ++ l) → At f a k
  at-left a [] l h = tt
  at-left a (z ∷ k) l h = (h.0, at-left (suc a) k l h.1)

  at-right : (a b : ℕ) (k l : List ℕ) → a + length k ≡ b → At f a (k ++ l) → At f b l
  at-right a b [] l e h = let g : a ≡ b = omega (arith, e) in subst (λ (j : ℕ). At f j l) g h
  at-right a b (z ∷ k) l e h = at-right (suc a) b k l (omega (arith, e)) h.1

  at-join : (a b : ℕ) (k l : List ℕ) → a + length k ≡ b → At f a k → At f b l → At f a (k ++ l)
  at-join a b [] l e h i = let g : b ≡ a = omega (arith, e) in subst (λ (j : ℕ). At f j l) g i
  at-join a b (z ∷ k) l e h i = (h.0, at-join (suc a) b k l (omega (arith, e)) h.1 i)

  -- which are then all that it gives
  at-each : (a : ℕ) (l : List ℕ) → At f a l → each (λ i. f (a + i)) (length l) ≡ l
  at-each a [] h = refl
  at-each a (z ∷ l) h =
      let g : a + 0 ≡ a = omega arith in
      let next : (i : ℕ) → a + suc i ≡ suc a + i = λ i. omega arith in
      ap₂ (λ (x : ℕ) (m : List ℕ). x ∷ m) (ap f g ∙ h.0) ((λ k. each (λ i. f (next i k)) (length l)) ∙ at-each (suc a) l h.1)

-- where p is, by a and b
data Where (p a b : ℕ) : Type 0 where
  low : p < a → Where p a b
  at : p ≡ a → Where p a b
  between : a < p → p < b → Where p a b
  over : b ≤ p → a < p → Where p a b

where-is : (p a b : ℕ) → Where p a b
where-is p a b = go (ltb p a) refl (ltb a p) refl (ltb p b) refl
  where
    go : (x : Bool) → ltb p a ≡ x → (y : Bool) → ltb a p ≡ y → (z : Bool) → ltb p b ≡ z → Where p a b
    go true e y f z g = low (ltb-true p a e)
    go false e false f z g = at (omega (arith, ltb-false p a e, ltb-false a p f))
    go false e true f true g = between (ltb-true a p f) (ltb-true p b g)
    go false e true f false g = over (ltb-false p b g) (ltb-true a p f)

module _ (s : ℕ → ℕ) where
  -- none of a grove reaches over its end
  bounded : {d : ℕ} {ss us : List ℕ} (a : ℕ) → Grove d ss us → At s a ss → (p : ℕ) → a ≤ p → p < a + length ss → p + s p ≤ a + length ss
  bounded a bare h p l m = absurd (omega (arith, l, m))
  bounded a (tree {d} {ss} {us} {zs} {vs} g e r) h p l m =
      let n : length (ss ++ zs) ≡ length ss + length zs = length-append ss zs in
      let i : a + suc (length ss) ≡ suc a + length ss = omega arith in
      go n (where-is p a (suc a + length ss)) (λ j k. bounded (suc a) g (at-left s (suc a) ss zs h.1) p j k)
      (λ j k. bounded (suc a + length ss) r (at-right s (suc a) (suc a + length ss) ss zs refl h.1) p j k)
    where
      go : length (ss ++ zs) ≡ length ss + length zs → Where p a (suc a + length ss) → (suc a ≤ p → p < suc a + length ss → p + s p ≤ suc a + length ss)
          → (suc a + length ss ≤ p → p < (suc a + length ss) + length zs → p + s p ≤ (suc a + length ss) + length zs)
          → p + s p ≤ a + length (suc (length ss) ∷ (ss ++ zs))
      go n (low j) x y = absurd (omega (arith, l, j))
      go n (at j) x y = let q : s p ≡ suc (length ss) = ap s j ∙ h.0 in omega (arith, j, q, n)
      go n (between j k) x y = omega (arith, x j k, n)
      go n (over j k) x y = let q : p < (suc a + length ss) + length zs = omega (arith, m, n) in omega (arith, y j q, n)

  -- so none before the end of a node does, where none before the node reaches over it
  past : {ss us : List ℕ} (a : ℕ) → Grove 1 ss us → At s (suc a) ss → s a ≡ suc (length ss) → (p : ℕ) → (p < a → p + s p ≤ a) → p < suc a + length ss
      → p + s p ≤ suc a + length ss
  past {ss} a g h e p f j = go (where-is p a (suc a + length ss))
    where
      go : Where p a (suc a + length ss) → p + s p ≤ suc a + length ss
      go (low x) = omega (arith, f x)
      go (at x) = let u : s p ≡ suc (length ss) = ap s x ∙ e in omega (arith, x, u)
      go (between x y) = bounded (suc a) g h p x y
      go (over x y) = absurd (omega (arith, x, j))

  -- records that do not reach over i are passed by
  passes : (i m n : ℕ) → m ≤ n → ((p : ℕ) → m ≤ p → p < n → p + s p ≤ i) → back s i n ≡ back s i m
  passes i m zero h f = let e : 0 ≡ m = omega (arith, h) in ap (back s i) e
  passes i m (suc n) h f = go (ltb n m) refl (λ g. passes i m n g (λ p j k. f p j (omega (arith, k))))
    where
      go : (b : Bool) → ltb n m ≡ b → (m ≤ n → back s i n ≡ back s i m) → back s i (suc n) ≡ back s i m
      go true e r = let g : suc n ≡ m = omega (arith, h, ltb-true n m e) in ap (back s i) g
      go false e r = let g : m ≤ n = ltb-false n m e in passed s i n (f n g (omega arith)) ∙ r g

  -- Below the record q, that reaches over the whole grove.
  below : {d : ℕ} {ss us : List ℕ} (a q : ℕ) → Grove d ss us → At s a ss → q + d ≡ a → 0 < d → a + length ss ≤ q + s q
      → ((p : ℕ) → q < p → p < a → p + s p ≤ a) → At (way_up s) a us
  below a q bare h e z r f = tt
  below a q (tree {d} {ss} {us} {zs} {vs} g k t) h e z r f =
      let n : length (ss ++ zs) ≡ length ss + length zs = length-append ss zs in
      let b : ℕ = suc a + length ss in
      let mine : way_up s a ≡ d =
      passes a (suc q) a (omega (arith, e, z)) f ∙ found s a q (omega (arith, r)) ∙ omega (arith, e) in
      let inner = at-left s (suc a) ss zs h.1 in
      let its : s a ≡ suc (length ss) = h.0 in
      let left : At (way_up s) (suc a) us = below (suc a) a g inner (omega arith) (omega arith) (omega (arith, its)) (λ p i j. absurd (omega (arith, i, j))) in
      let right : At (way_up s) b vs =
      below b q t (at-right s (suc a) b ss zs refl h.1) (omega (arith, e, k)) (omega (arith, z)) (omega (arith, r, n)) (λ p i j. past a g inner its p (f p i) j) in
      (mine, at-join (way_up s) (suc a) b us vs (omega (arith, k)) left right)

  -- Trees side by side, with nothing above them.
  beside : {bs us : List (List ℕ)} (a : ℕ) → Branches bs us → At s a (concat bs) → ((p : ℕ) → p < a → p + s p ≤ a) → At (way_up s) a (tops us)
  beside a no_more h f = tt
  beside a (and {bs = bs} {us = vs} (branch {ss} {us} g) t) h f =
      let b : ℕ = suc a + length ss in
      let mine : way_up s a ≡ 0 = passes a 0 a (omega arith) (λ p i j. f p j) in
      let inner = at-left s (suc a) ss (concat bs) h.1 in
      let its : s a ≡ suc (length ss) = h.0 in
      let left : At (way_up s) (suc a) us = below (suc a) a g inner (omega arith) (omega arith) (omega (arith, its)) (λ p i j. absurd (omega (arith, i, j))) in
      let right : At (way_up s) b (tops vs) =
      beside b t (at-right s (suc a) b ss (concat bs) refl h.1) (λ p j. past a g inner its p (f p) j) in
      (mine, at-join (way_up s) (suc a) b us (tops vs) (omega (arith, grove-length g)) left right)

ups-length : {bs us : List (List ℕ)} → Branches bs us → length (tops us) ≡ length (concat bs)
ups-length no_more = refl
ups-length (and {bs = bs} {us = vs} (branch {ss} {us} g) t) =
    let k = ups-length t in
    omega (arith, k, grove-length g, length-append us (tops vs), length-append ss (concat bs))

at-sizes : (s : ℕ → ℕ) (a : ℕ) (rs : List Rec) → ((j : ℕ) → s (a + j) ≡ size_of rs j) → At s a (sizes rs)
at-sizes s a [] h = tt
at-sizes s a (r ∷ rs) h =
    let g : a ≡ a + 0 = omega arith in
    (ap s g ∙ h 0, at-sizes s (suc a) rs (λ j. let e : suc a + j ≡ a + suc j = omega arith in ap s e ∙ h (suc j)))

-- Records whose sizes are those of nodes side by side, with all beneath them.
by-branches : (rs : List Rec) {bs us : List (List ℕ)} → sizes rs ≡ concat bs → Branches bs us → ways_up rs ≡ tops us
by-branches rs {bs} {us} e b =
    let s : ℕ → ℕ = size_of rs in
    let zero-add : (j : ℕ) → 0 + j ≡ j = λ j. omega arith in
    let z : At s 0 (concat bs) = subst (At s 0) e (at-sizes s 0 rs (λ j. ap s (zero-add j))) in
    let y : At (way_up s) 0 (tops us) = beside s 0 b z (λ p j. absurd (omega (arith, j))) in
    let long : length rs ≡ length (tops us) = sym (length-map rs (λ r. r.size)) ∙ ap length e ∙ sym (ups-length b) in
    ap (each (way_up s)) long ∙ sym (λ k. each (λ i. way_up s (zero-add i k)) (length (tops us))) ∙ at-each (way_up s) 0 (tops us) y

-- The law for the records of every list of trees,
pub parents : (ns : List Node) → ways_up (records ns) ≡ ups ns
parents ns = by-branches (records ns) (map-concat (groups (roots ns))) (branches-are (roots ns))

-- and for those of every file.
pub file-parents : (len : ℕ) (ns : List Node) → ways_up (filed len (records ns)) ≡ file_ups ns
file-parents len ns =
    let us : List ℕ = under 1 (beneath (roots ns)) in
    let ss : List ℕ = sizes_of (all ns) in
    let g : Grove 1 ss us = subst (λ (zs : List ℕ). Grove 1 zs us) (sym (map-concat (groups (roots ns)))) (grows 1 (branches-are (roots ns))) in
    let long : 1 + length (records ns) ≡ suc (length ss) = omega (arith, length-map (records ns) (λ r. r.size)) in
    by-branches (filed len (records ns)) {bs = (suc (length ss) ∷ ss) ∷ []} (ap₂ (λ (n : ℕ) (l : List ℕ). n ∷ l) long (sym (append-nil ss))) (and (branch g) no_more)
    ∙ ap (λ (l : List ℕ). 0 ∷ l) (append-nil us)
