-- The test of what is left of a shape, piece by piece, agrees with `Spells`.
-- Assumes nothing.
use Rattle.std.specs.Prelude.{Bool, true, false, cond, List, [], ◌∷◌, ◌++◌, ◌⊎◌, ◌≡◌, refl, ℕ, T}
use Rattle.std.proofs.Common.{inl, inr, sym, subst, arith}
use Rattle.text.proofs.Table.{first-of, second-of, pair, or_left, or_right, or_cases}
use Rattle.text.specs.Lists.{has}
use Rattle.own.specs.Law.{Sort, word, child}
use Rattle.kinds.specs.Shape.{Part, fits, Shape, nothing, never, mark, part, ◌▸◌, ◌¦◌, many, Spells, empty, one_mark, one_part, seq, left, right, stop, more}
use Rattle.kinds.specs.Derive.{blank, dead, then, either, is_mark, is_part, after, spells}

-- the parts that have no sequence were left out rightly
dead-none : {a : Shape} {w : List Sort} → T (dead a) → Spells a w → ⊥
unfolding dead
dead-none t empty = t
dead-none t (one_mark c h) = t
dead-none t (one_part k l h c i) = t
dead-none t (seq p q) = t
dead-none t (left p) = t
dead-none t (right p) = t
dead-none t stop = t
dead-none t (more p q) = t

then-in : {a b : Shape} {v w : List Sort} → Spells a v → Spells b w → Spells (then a b) (v ++ w)
unfolding then
then-in {a} {b} {v} {w} p q = go (dead a) (λ t. dead-none t p)
  where
    go : (d : Bool) → (T d → ⊥) → Spells (cond d never (a ▸ b)) (v ++ w)
    go true n = absurd (n tt)
    go false n = seq p q

then-out : (a b : Shape) {w : List Sort} → Spells (then a b) w → Spells (a ▸ b) w
unfolding then dead
then-out a b {w} = go (dead a)
  where
    go : (d : Bool) → Spells (cond d never (a ▸ b)) w → Spells (a ▸ b) w
    go true p = absurd (dead-none tt p)
    go false p = p

either_left : {a : Shape} (b : Shape) {w : List Sort} → Spells a w → Spells (either a b) w
unfolding either
either_left {a} b {w} p = go (dead a) (λ t. dead-none t p)
  where
    go : (d : Bool) → (T d → ⊥) → Spells (cond d b (a ¦ b)) w
    go true n = absurd (n tt)
    go false n = left p

either-right : (a : Shape) {b : Shape} {w : List Sort} → Spells b w → Spells (either a b) w
unfolding either
either-right a {b} {w} p = go (dead a)
  where
    go : (d : Bool) → Spells (cond d b (a ¦ b)) w
    go true = p
    go false = right p

either-out : (a b : Shape) {w : List Sort} → Spells (either a b) w → Spells (a ¦ b) w
unfolding either
either-out a b {w} = go (dead a)
  where
    go : (d : Bool) → Spells (cond d b (a ¦ b)) w → Spells (a ¦ b) w
    go true p = right p
    go false p = p

when-in : (t : Bool) {a : Shape} {w : List Sort} → T t → Spells a w → Spells (cond t a never) w
when-in true t p = p
when-in false t p = absurd t

when-out : (t : Bool) (a : Shape) {w : List Sort} → Spells (cond t a never) w → T t × Spells a w
unfolding dead
when-out true a p = (tt, p)
when-out false a p = absurd (dead-none tt p)

-- the empty sequence
blank-has : (a : Shape) → T (blank a) → Spells a []
unfolding blank
blank-has nothing t = empty
blank-has never t = absurd t
blank-has (mark cs) t = absurd t
blank-has (part p) t = absurd t
blank-has (a ▸ b) t = seq (blank-has a (first-of (blank a) (blank b) t)) (blank-has b (second-of (blank a) (blank b) t))
blank-has (a ¦ b) t = go (or_cases (blank a) (blank b) t) (blank-has a) (blank-has b)
  where
    go : T (blank a) ⊎ T (blank b) → (T (blank a) → Spells a []) → (T (blank b) → Spells b []) → Spells (a ¦ b) []
    go (inl u) f g = left (f u)
    go (inr u) f g = right (g u)
blank-has (many a) t = stop

no-piece : {A : Type 0} (s : Sort) (w : List Sort) → s ∷ w ≡ [] → A
no-piece s w e = let z : ◌≡◌ {A = ℕ} 0 1 = cc in absurd (omega arith)

nils : (v w : List Sort) → v ++ w ≡ [] → (v ≡ []) × (w ≡ [])
nils [] w e = (refl, e)
nils (s ∷ v) w e = no-piece s (v ++ w) e

has-blank : {a : Shape} {w : List Sort} → Spells a w → w ≡ [] → T (blank a)
unfolding blank
has-blank empty e = tt
has-blank (one_mark c h) e = no-piece (word c) [] e
has-blank (one_part k l h c i) e = no-piece (child k l h c) [] e
has-blank (seq {a = a} {b = b} {v = v} {w = w} p q) e =
    let n = nils v w e in
    pair (blank a) (blank b) (has-blank p n.0) (has-blank q n.1)
has-blank (left {a = a} {b = b} p) e = or_left (blank a) (blank b) (has-blank p e)
has-blank (right {a = a} {b = b} p) e = or_right (blank a) (blank b) (has-blank p e)
has-blank stop e = tt
has-blank (more p q) e = tt

-- what is left after a piece, put behind it, is a sequence of the shape
mark-sound : (cs : List ℕ) (s : Sort) {w : List Sort} → T (is_mark cs s) → Spells nothing w → Spells (mark cs) (s ∷ w)
unfolding is_mark
mark-sound cs (word c) t empty = one_mark c t
mark-sound cs (child k l h c) t empty = absurd t

part_sound : (p : Part) (s : Sort) {w : List Sort} → T (is_part p s) → Spells nothing w → Spells (part p) (s ∷ w)
unfolding is_part
part_sound p (word c) t empty = absurd t
part_sound p (child k l h c) t empty = one_part k l h c t

abbrev Sound : Sort → Shape → Type 0
Sound s a = (w : List Sort) → Spells (after s a) w → Spells a (s ∷ w)

seq-sound : (s : Sort) (a b : Shape) {w : List Sort} → Sound s a → Sound s b
    → Spells (then (after s a) b ¦ cond (blank a) (after s b) never) w → Spells (a ▸ b) (s ∷ w)
seq-sound s a b f g (left p) = go (then-out (after s a) b p)
  where
    go : {w : List Sort} → Spells (after s a ▸ b) w → Spells (a ▸ b) (s ∷ w)
    go (seq {v = v} q r) = seq (f v q) r
seq-sound s a b {w} f g (right p) = let q = when-out (blank a) (after s b) p in seq (blank-has a q.0) (g w q.1)

either-sound : (s : Sort) (a b : Shape) {w : List Sort} → Sound s a → Sound s b → Spells (after s a ¦ after s b) w → Spells (a ¦ b) (s ∷ w)
either-sound s a b {w} f g (left p) = left (f w p)
either-sound s a b {w} f g (right p) = right (g w p)

many-sound : (s : Sort) (a : Shape) {w : List Sort} → Sound s a → Spells (after s a ▸ many a) w → Spells (many a) (s ∷ w)
many-sound s a f (seq {v = v} q r) = more (f v q) r

after-sound : (s : Sort) (a : Shape) → Sound s a
unfolding after dead
after-sound s nothing w p = absurd (dead-none tt p)
after-sound s never w p = absurd (dead-none tt p)
after-sound s (mark cs) w p = let q = when-out (is_mark cs s) nothing p in mark-sound cs s q.0 q.1
after-sound s (part x) w p = let q = when-out (is_part x s) nothing p in part_sound x s q.0 q.1
after-sound s (a ▸ b) w p = seq-sound s a b (after-sound s a) (after-sound s b) (either-out (then (after s a) b) (cond (blank a) (after s b) never) p)
after-sound s (a ¦ b) w p = either-sound s a b (after-sound s a) (after-sound s b) (either-out (after s a) (after s b) p)
after-sound s (many a) w p = many-sound s a (after-sound s a) (then-out (after s a) (many a) p)

-- and of a sequence of the shape that begins with the piece, the rest is left
abbrev Left : Shape → List Sort → Type 0
Left a u = (s : Sort) (w : List Sort) → u ≡ s ∷ w → Spells (after s a) w

seq-left : (a b : Shape) (v w : List Sort) → Spells a v → Left a v → Spells b w → Left b w → Left (a ▸ b) (v ++ w)
unfolding after
seq-left a b [] w p f q g s u e = either-right (then (after s a) b) (when-in (blank a) (has-blank p refl) (g s u e))
seq-left a b (x ∷ v) w p f q g s u e =
    let ex : x ∷ v ≡ s ∷ v = cc in
    let eu : v ++ w ≡ u = cc in
    either_left (cond (blank a) (after s b) never) (subst (λ (l : List Sort). Spells (then (after s a) b) l) eu (then-in (f s v ex) q))

many-left : (a : Shape) (v w : List Sort) → Left a v → Spells (many a) w → Left (many a) w → Left (many a) (v ++ w)
unfolding after
many-left a [] w f q g s u e = g s u e
many-left a (x ∷ v) w f q g s u e =
    let ex : x ∷ v ≡ s ∷ v = cc in
    let eu : v ++ w ≡ u = cc in
    subst (λ (l : List Sort). Spells (then (after s a) (many a)) l) eu (then-in (f s v ex) q)

after-left : {a : Shape} {u : List Sort} → Spells a u → Left a u
unfolding after is_mark is_part
after-left empty s w e = no-piece s w (sym e)
after-left (one_mark {cs = cs} c h) s w e =
    let es : s ≡ word c = cc in
    let ew : w ≡ [] = cc in
    rw (es, ew) (when-in (has cs c) h empty)
after-left (one_part {p = p} k l h c i) s w e =
    let es : s ≡ child k l h c = cc in
    let ew : w ≡ [] = cc in
    rw (es, ew) (when-in (fits p k l h c) i empty)
after-left (seq {a = a} {b = b} {v = v} {w = w} p q) s u e = seq-left a b v w p (λ x y i. after-left p x y i) q (λ x y i. after-left q x y i) s u e
after-left (left {a = a} {b = b} p) s w e = either_left (after s b) (after-left p s w e)
after-left (right {a = a} {b = b} p) s w e = either-right (after s a) (after-left p s w e)
after-left stop s w e = no-piece s w (sym e)
after-left (more {a = a} {v = v} {w = w} p q) s u e = many-left a v w (λ x y i. after-left p x y i) q (λ x y i. after-left q x y i) s u e

-- Where the test passes the shape has the sequence.
pub spells-sound : (a : Shape) (w : List Sort) → T (spells a w) → Spells a w
unfolding spells
spells-sound a [] t = blank-has a t
spells-sound a (s ∷ w) t = after-sound s a w (spells-sound (after s a) w t)

-- The test passes for every sequence that the shape has.
pub spells-complete : (a : Shape) (w : List Sort) → Spells a w → T (spells a w)
unfolding spells
spells-complete a [] p = has-blank p refl
spells-complete a (s ∷ w) p = spells-complete (after s a) w (after-left p s w refl)
