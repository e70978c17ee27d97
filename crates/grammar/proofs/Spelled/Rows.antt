-- Shapes of the rules as rows without choices: what a row spells, the rows that a shape may be, and that a shape spells what one of them does.
-- Assumes nothing.
use Rattle.std.specs.Prelude.{List, [], ◌∷◌, ◌++◌, map, ◌⊎◌, ◌≡◌, refl, ◌<◌, length}
use Rattle.std.proofs.Common.{append_assoc, append-nil, inl, inr, sym, ap, ◌∙◌, subst, arith}
use Rattle.text.specs.Lists.{Some, here, there}
use Rattle.text.proofs.ListLaws.{only_one}
use Rattle.own.specs.Law.{Sort}
use Rattle.kinds.specs.Shape.{Shape, nothing, never, part, ◌▸◌, ◌¦◌, many, Spells, empty, one_mark, one_part, seq, left, right, stop, more}
use Rattle.kinds.specs.Shape as k

-- ---- rows

-- What a row of shapes spells, one after the other.
pub data Row : List Shape → List Sort → Type 0 where
  r_end : Row [] []
  r_more : {a : Shape} {l : List Shape} {v w : List Sort} → Spells a v → Row l w → Row (a ∷ l) (v ++ w)

pub row-join : {l m : List Shape} {v w : List Sort} → Row l v → Row m w → Row (l ++ m) (v ++ w)
row-join r_end q = q
row-join {l} {m} {w = w} (r_more {a = a} {l = l'} {v = x} {w = y} p r) q =
    subst (λ (u : List Sort). Row (a ∷ (l' ++ m)) u) (sym (append_assoc x y w)) (r_more p (row-join r q))

-- a row cut in two
record Cut (l m : List Shape) (w : List Sort) : Type 0 where
  front : List Sort
  back : List Sort
  before : Row l front
  after : Row m back
  whole : front ++ back ≡ w

row_cut : (l m : List Shape) {w : List Sort} → Row (l ++ m) w → Cut l m w
row_cut [] m {w} r = record { front = []; back = w; before = r_end; after = r; whole = refl }
row_cut (a ∷ l) m (r_more {v = v} p r) =
    let c = row_cut l m r in
    record { front = v ++ c.front; back = c.back; before = r_more p c.before; after = c.after; whole = append_assoc v c.front c.back ∙ ap (λ u. v ++ u) c.whole }

-- each of the first with each of the second
unfoldable pub pairs : List (List Shape) → List (List Shape) → List (List Shape)
pairs [] B = []
pairs (x ∷ A) B = map (λ y. x ++ y) B ++ pairs A B

-- The rows that a shape may be, by its choices.
unfoldable pub variants : Shape → List (List Shape)
variants nothing = [] ∷ []
variants never = []
variants (k.mark cs) = (k.mark cs ∷ []) ∷ []
variants (part p) = (part p ∷ []) ∷ []
variants (a ▸ b) = pairs (variants a) (variants b)
variants (a ¦ b) = variants a ++ variants b
variants (many a) = (many a ∷ []) ∷ []

module _ {A : Type 0} {P : A → Type 0} where
  pub some_left : {l : List A} (m : List A) → Some P l → Some P (l ++ m)
  some_left m (here p) = here p
  some_left m (there s) = there (some_left m s)

  pub some_right : (l : List A) {m : List A} → Some P m → Some P (l ++ m)
  some_right [] s = s
  some_right (a ∷ l) s = there (some_right l s)

  filled : {l : List A} → Some P l → 0 < length l
  filled (here h) = omega arith
  filled (there s) = omega arith

  some-none : {X : Type 0} → Some P [] → X
  some-none s = absurd (omega (arith, filled s))

  cons-cut : {a : A} {l : List A} → Some P (a ∷ l) → P a ⊎ Some P l
  cons-cut (here p) = inl p
  cons-cut (there s) = inr s

  some-cut : (l m : List A) → Some P (l ++ m) → Some P l ⊎ Some P m
  some-cut [] m s = inr s
  some-cut (a ∷ l) m s = go (cons-cut s) (some-cut l m)
    where
      go : P a ⊎ Some P (l ++ m) → (Some P (l ++ m) → Some P l ⊎ Some P m) → Some P (a ∷ l) ⊎ Some P m
      go (inl p) f = inl (here p)
      go (inr q) f = up (f q)
        where
          up : Some P l ⊎ Some P m → Some P (a ∷ l) ⊎ Some P m
          up (inl x) = inl (there x)
          up (inr x) = inr x

pairs-with : {x : List Shape} {v w : List Sort} {B : List (List Shape)} → Row x v → Some (λ l. Row l w) B → Some (λ l. Row l (v ++ w)) (map (λ y. x ++ y) B)
pairs-with r (here q) = here (row-join r q)
pairs-with r (there s) = there (pairs-with r s)

pairs-in : {v w : List Sort} {A B : List (List Shape)} → Some (λ l. Row l v) A → Some (λ l. Row l w) B → Some (λ l. Row l (v ++ w)) (pairs A B)
unfolding pairs
pairs-in {B = B} (here {l = l} r) s = some_left (pairs l B) (pairs-with r s)
pairs-in {B = B} (there {a = a} t) s = some_right (map (λ y. a ++ y) B) (pairs-in t s)

-- What a shape spells is spelled by one of its rows,
pub variants-in : {a : Shape} {w : List Sort} → Spells a w → Some (λ l. Row l w) (variants a)
unfolding variants
variants-in empty = here r_end
variants-in (one_mark c h) = here (r_more (one_mark c h) r_end)
variants-in (one_part n l h c i) = here (r_more (one_part n l h c i) r_end)
variants-in (seq p q) = pairs-in (variants-in p) (variants-in q)
variants-in (left {b = b} p) = some_left (variants b) (variants-in p)
variants-in (right {a = a} p) = some_right (variants a) (variants-in p)
variants-in stop = here (r_more stop r_end)
variants-in (more {a = a} {v = v} {w = w} p q) = here (subst (λ (u : List Sort). Row (many a ∷ []) u) (append-nil (v ++ w)) (r_more (more p q) r_end))

-- and what one of its rows spells it spells.
alone : {a : Shape} {w : List Sort} → Row (a ∷ []) w → Spells a w
alone {a} (r_more {v = v} p r_end) = subst (λ (u : List Sort). Spells a u) (sym (append-nil v)) p

ended : {w : List Sort} → Row [] w → Spells nothing w
ended r_end = empty

record Halves (A B : List (List Shape)) (w : List Sort) : Type 0 where
  front : List Sort
  back : List Sort
  before : Some (λ l. Row l front) A
  after : Some (λ l. Row l back) B
  whole : front ++ back ≡ w

with-cut : (x : List Shape) (B : List (List Shape)) {w : List Sort} → Some (λ l. Row l w) (map (λ y. x ++ y) B) → Halves (x ∷ []) B w
with-cut x [] s = some-none s
with-cut x (y ∷ B) {w} s = go (cons-cut s) (with-cut x B)
  where
    go : Row (x ++ y) w ⊎ Some (λ l. Row l w) (map (λ z. x ++ z) B) → (Some (λ l. Row l w) (map (λ z. x ++ z) B) → Halves (x ∷ []) B w) → Halves (x ∷ []) (y ∷ B) w
    go (inl r) f = let c = row_cut x y r in record { front = c.front; back = c.back; before = here c.before; after = here c.after; whole = c.whole }
    go (inr q) f = let h = f q in record { front = h.front; back = h.back; before = h.before; after = there h.after; whole = h.whole }

pairs-cut : (A B : List (List Shape)) {w : List Sort} → Some (λ l. Row l w) (pairs A B) → Halves A B w
unfolding pairs
pairs-cut [] B s = some-none s
pairs-cut (x ∷ A) B {w} s = go (some-cut (map (λ y. x ++ y) B) (pairs A B) s) (pairs-cut A B)
  where
    go : Some (λ l. Row l w) (map (λ y. x ++ y) B) ⊎ Some (λ l. Row l w) (pairs A B) → (Some (λ l. Row l w) (pairs A B) → Halves A B w) → Halves (x ∷ A) B w
    go (inl r) f = let h = with-cut x B r in record { front = h.front; back = h.back; before = here (only_one h.before); after = h.after; whole = h.whole }
    go (inr q) f = let h = f q in record { front = h.front; back = h.back; before = there h.before; after = h.after; whole = h.whole }

pub variants-out : (a : Shape) {w : List Sort} → Some (λ l. Row l w) (variants a) → Spells a w
unfolding variants
variants-out nothing s = ended (only_one s)
variants-out never s = some-none s
variants-out (k.mark cs) s = alone (only_one s)
variants-out (part p) s = alone (only_one s)
variants-out (a ▸ b) s =
    let h = pairs-cut (variants a) (variants b) s in
    subst (λ (u : List Sort). Spells (a ▸ b) u) h.whole (seq (variants-out a h.before) (variants-out b h.after))
variants-out (a ¦ b) {w} s = go (some-cut (variants a) (variants b) s) (variants-out a) (variants-out b)
  where
    go : Some (λ l. Row l w) (variants a) ⊎ Some (λ l. Row l w) (variants b) → (Some (λ l. Row l w) (variants a) → Spells a w) → (Some (λ l. Row l w) (variants b) → Spells b w) → Spells (a ¦ b) w
    go (inl x) f g = left (f x)
    go (inr x) f g = right (g x)
variants-out (many a) s = alone (only_one s)
