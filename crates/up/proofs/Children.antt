-- The way up leads to the parent: where every record counts itself at least, a record is one of the children of the record to which it leads, as the sizes
-- find them; and only what no record before it reaches over has the way up 0.
-- Assumes nothing.
use Rattle.std.specs.Prelude.{Bool, true, false, List, [], ◌∷◌, ◌≡◌, refl, ℕ, zero, suc, ◌+◌, ◌-◌, ◌<◌, ◌≤◌, ltb, length, get_or, take, drop}
use Rattle.std.proofs.Common.{sym, ap, ◌∙◌, subst, arith, ltb-true, ltb-false, get_or-drop, length-drop, drop-cons}
use Rattle.std.proofs.lemmas.List.{get_or-take, length-take}
use Rattle.own.specs.Tree.{Rec}
use Rattle.own.specs.Flat.{blank, row, head_children, children}
use Rattle.up.specs.Ways.{back, way_up, size_of}
use Rattle.up.proofs.Laws.{found, passed}
use Rattle.up.specs.Children.{ChildOf, Found}

module _ (s : ℕ → ℕ) (i : ℕ) where
  pub back-found : (n : ℕ) → 0 < back s i n → Found s i n
  back-found zero h = absurd (omega arith)
  back-found (suc p) h = go (ltb i (p + s p)) refl (λ k. back-found p k)
    where
      go : (b : Bool) → ltb i (p + s p) ≡ b → (0 < back s i p → Found s i p) → Found s i (suc p)
      go true e f =
          let l = ltb-true i (p + s p) e in
          record { at = p; before = omega arith; way = found s i p l; over = l; last = λ q a b. absurd (omega (arith, a, b)) }
      go false e f =
          let l = ltb-false i (p + s p) e in
          let g = passed s i p l in
          let x = f (omega (arith, g, h)) in
          let below = x.before in
          record { at = x.at; before = omega (arith, below); way = g ∙ x.way; over = x.over; last = λ q a b. later x l q a b (ltb q p) refl }
        where
          later : (x : Found s i p) → p + s p ≤ i → (q : ℕ) → x.at < q → q < suc p → (b : Bool) → ltb q p ≡ b → q + s q ≤ i
          later x l q a b true e = x.last q a (ltb-true q p e)
          later x l q a b false e = let g : p ≡ q = omega (arith, b, ltb-false q p e) in subst (λ (j : ℕ). j + s j ≤ i) g l

  -- A record that another reaches over has a way up.
  pub back-some : (n p : ℕ) → p < n → n ≤ i → i < p + s p → 0 < back s i n
  back-some zero p h k l = absurd (omega (arith, h))
  back-some (suc m) p h k l = go (ltb i (m + s m)) refl (λ g. back-some m p g (omega (arith, k)) l)
    where
      go : (b : Bool) → ltb i (m + s m) ≡ b → (p < m → 0 < back s i m) → 0 < back s i (suc m)
      go true e f = omega (arith, k, found s i m (ltb-true i (m + s m) e))
      go false e f =
          let r = ltb-false i (m + s m) e in
          omega (arith, passed s i m r, f (less (ltb p m) refl))
        where
          less : (b : Bool) → ltb p m ≡ b → p < m
          less true q = ltb-true p m q
          less false q = let g : m ≡ p = omega (arith, h, ltb-false p m q) in absurd (omega (arith, l, subst (λ (j : ℕ). j + s j ≤ i) g (ltb-false i (m + s m) e)))

-- Side by side from the front of a list on, records that end before j or with it come to j.
in-row : (f : ℕ) (l : List Rec) (j : ℕ) → j < length l → length l ≤ f → ((i : ℕ) → i < j → (0 < size_of l i) × (i + size_of l i ≤ j))
    → (m : ℕ) × (m < length (row f l)) × (get_or (row f l) m blank ≡ get_or l j blank)
in-row zero [] j h k g = absurd (omega (arith, h))
in-row zero (r ∷ l) j h k g = absurd (omega (arith, k))
in-row (suc f) [] j h k g = absurd (omega (arith, h))
in-row (suc f) (r ∷ l) zero h k g = (0, omega arith, refl)
in-row (suc f) (r ∷ l) (suc j) h k g =
    let (some, ends) = g 0 (omega arith) in
    let d : ℕ = r.size - 1 in
    let e : d + (j - d) ≡ j = omega (arith, some, ends) in
    let sizes : (i : ℕ) → size_of (drop d l) i ≡ size_of l (d + i) = λ i. ap (λ (x : Rec). x.size) (get_or-drop d l i blank) in
    let next =
    in-row f (drop d l) (j - d) (omega (arith, length-drop d l, some, ends, h)) (omega (arith, length-drop d l, k))
    (λ i b. let (y, z) = g (suc (d + i)) (omega (arith, b)) in (omega (arith, y, sizes i), omega (arith, z, sizes i))) in
    (suc next.0, omega (arith, next.1), next.2 ∙ get_or-drop d l (j - d) blank ∙ ap (λ (i : ℕ). get_or l i blank) e)

-- So is a record among the children of the last before it that reaches over it.
child-of : (rs : List Rec) (k j : ℕ) → k < j → j < length rs → j < k + size_of rs k → ((i : ℕ) → k < i → i < j → (0 < size_of rs i) × (i + size_of rs i ≤ j)) → ChildOf rs k j
child-of rs k j a b c g =
    let r : Rec = get_or rs k blank in
    let rest : List Rec = drop (suc k) rs in
    let l : List Rec = take (r.size - 1) rest in
    let split : drop k rs ≡ r ∷ rest = drop-cons rs k blank (omega (arith, a, b)) in
    let are : children rs k ≡ row r.size l = ap head_children split in
    let at : (i : ℕ) → i < r.size - 1 → get_or l i blank ≡ get_or rs (suc k + i) blank =
    λ i h. get_or-take (r.size - 1) rest i blank h ∙ get_or-drop (suc k) rs i blank in
    let e : suc k + (j - suc k) ≡ j = omega (arith, a) in
    let long = length-take (r.size - 1) rest in
    let found =
    in-row r.size l (j - suc k) (omega (arith, long, length-drop (suc k) rs, a, b, c)) (omega (arith, long))
    (λ i h.
    let q : size_of l i ≡ size_of rs (suc k + i) = ap (λ (x : Rec). x.size) (at i (omega (arith, h, c))) in
    let (y, z) = g (suc k + i) (omega arith) (omega (arith, h)) in
    (omega (arith, y, q), omega (arith, z, q))) in
    record {
      number = found.0;
      there = subst (λ (cs : List Rec). found.0 < length cs) (sym are) found.1;
      its = ap (λ (cs : List Rec). get_or cs found.0 blank) are ∙ found.2 ∙ at (j - suc k) (omega (arith, a, c)) ∙ ap (λ (i : ℕ). get_or rs i blank) e;
    }

-- The law, where every record counts itself.
pub leads : (rs : List Rec) (j : ℕ) → j < length rs → ((i : ℕ) → i < length rs → 0 < size_of rs i) → 0 < way_up (size_of rs) j → ChildOf rs (j - way_up (size_of rs) j) j
leads rs j h some w =
    let x = back-found (size_of rs) j j w in
    let b = x.before in
    let e : x.at ≡ j - way_up (size_of rs) j = omega (arith, x.way, b) in
    subst (λ (k : ℕ). ChildOf rs k j) e (child-of rs x.at j b h x.over (λ i p q. (some i (omega (arith, q, h)), x.last i p q)))
