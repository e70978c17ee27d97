-- A shape and its tidy form have the same sequences.
-- Assumes nothing.
use Rattle.std.specs.Prelude.{Bool, true, false, ◌&&◌, cond, List, [], ◌∷◌, ◌++◌, ◌⊎◌, ◌≡◌, refl, ℕ, T, eqb, get_or}
use Rattle.std.proofs.Common.{append_assoc, append-nil, inl, inr, sym, ap, ◌∙◌, subst, arith}
use Rattle.text.specs.Same.{same}
use Rattle.text.proofs.SameLaws.{same_true}
use Rattle.text.proofs.Table.{is_true, first-of, second-of, or_cases}
use Rattle.own.specs.Law.{Sort}
use Rattle.kinds.specs.Shape.{Part, of, name, arm, bound, size, Shape, nothing, never, mark, part, ◌▸◌, ◌¦◌, many, Spells, empty, one_mark, one_part, seq, left, right, stop, more}
use Rattle.load.specs.Children.Tidy.{part_label, label, first, second, equal, joined, chain, within, added, choice, tidy}

rebuild_part : List ℕ → Part
rebuild_part [] = size
rebuild_part (t ∷ d) = cond (eqb t 0) (of d) (cond (eqb t 1) (name d) (cond (eqb t 2) (arm (get_or d 0 0)) (cond (eqb t 3) bound size)))

rebuild : List ℕ → Shape → Shape → Shape
rebuild [] a b = nothing
rebuild (t ∷ d) a b =
    cond (eqb t 0) nothing (cond (eqb t 1) never (cond (eqb t 2) (mark d) (cond (eqb t 3) (part (rebuild_part d)) (cond (eqb t 4) (a ▸ b) (cond (eqb t 5) (a ¦ b) (many a))))))

part-rebuilt : (p : Part) → rebuild_part (part_label p) ≡ p
unfolding part_label rebuild_part
part-rebuilt (of ks) = refl
part-rebuilt (name cs) = refl
part-rebuilt (arm n) = refl
part-rebuilt bound = refl
part-rebuilt size = refl

rebuilt : (b : Shape) → rebuild (label b) (first b) (second b) ≡ b
unfolding label first second rebuild
rebuilt nothing = refl
rebuilt never = refl
rebuilt (mark cs) = refl
rebuilt (part p) = ap part (part-rebuilt p)
rebuilt (a ▸ b) = refl
rebuilt (a ¦ b) = refl
rebuilt (many a) = refl

-- the same label and the same shapes inside
both : (l : List ℕ) (x y b : Shape) → T (same l (label b)) → x ≡ first b → y ≡ second b → rebuild l x y ≡ b
both l x y b t p q = (λ i. rebuild (same_true l (label b) (is_true (same l (label b)) t) i) (p i) (q i)) ∙ rebuilt b

pub equal-sound : (a b : Shape) → T (equal a b) → a ≡ b
unfolding equal label rebuild
equal-sound nothing b t = both (0 ∷ []) (first b) (second b) b t refl refl
equal-sound never b t = both (1 ∷ []) (first b) (second b) b t refl refl
equal-sound (mark cs) b t = both (2 ∷ cs) (first b) (second b) b t refl refl
equal-sound (part p) b t = sym (ap part (part-rebuilt p)) ∙ both (3 ∷ part_label p) (first b) (second b) b t refl refl
equal-sound (a ▸ c) b t =
    let s = same (4 ∷ []) (label b) in
    let e = equal a (first b) in
    let f = equal c (second b) in
    let u = second-of s (e && f) t in
    both (4 ∷ []) a c b (first-of s (e && f) t) (equal-sound a (first b) (first-of e f u)) (equal-sound c (second b) (second-of e f u))
equal-sound (a ¦ c) b t =
    let s = same (5 ∷ []) (label b) in
    let e = equal a (first b) in
    let f = equal c (second b) in
    let u = second-of s (e && f) t in
    both (5 ∷ []) a c b (first-of s (e && f) t) (equal-sound a (first b) (first-of e f u)) (equal-sound c (second b) (second-of e f u))
equal-sound (many a) b t =
    let s = same (6 ∷ []) (label b) in
    let e = equal a (first b) in
    both (6 ∷ []) a (second b) b (first-of s e t) (equal-sound a (first b) (second-of s e t)) refl

-- none at all
pub none_of : {a : Shape} {w : List Sort} → Spells a w → a ≡ never → ⊥
none_of empty e = let z : ◌≡◌ {A = ℕ} 0 1 = cc in omega arith
none_of (one_mark c h) e = let z : ◌≡◌ {A = ℕ} 0 1 = cc in omega arith
none_of (one_part k l h c i) e = let z : ◌≡◌ {A = ℕ} 0 1 = cc in omega arith
none_of (seq p q) e = let z : ◌≡◌ {A = ℕ} 0 1 = cc in omega arith
none_of (left p) e = let z : ◌≡◌ {A = ℕ} 0 1 = cc in omega arith
none_of (right p) e = let z : ◌≡◌ {A = ℕ} 0 1 = cc in omega arith
none_of stop e = let z : ◌≡◌ {A = ℕ} 0 1 = cc in omega arith
none_of (more p q) e = let z : ◌≡◌ {A = ℕ} 0 1 = cc in omega arith

-- a sequence of one after the other, and back
joined_in : (x b : Shape) {v w : List Sort} → Spells x v → Spells b w → Spells (joined x b) (v ++ w)
unfolding joined
joined_in x nothing {v} p empty = subst (λ (l : List Sort). Spells x l) (sym (append-nil v)) p
joined_in x never p q = absurd (none_of q refl)
joined_in x (mark cs) p q = seq p q
joined_in x (part y) p q = seq p q
joined_in x (a ▸ b) p q = seq p q
joined_in x (a ¦ b) p q = seq p q
joined_in x (many a) p q = seq p q

joined-out : (x b : Shape) {w : List Sort} → Spells (joined x b) w → Spells (x ▸ b) w
unfolding joined
joined-out x nothing {w} p = subst (λ (l : List Sort). Spells (x ▸ nothing) l) (append-nil w) (seq p empty)
joined-out x never p = absurd (none_of p refl)
joined-out x (mark cs) p = p
joined-out x (part y) p = p
joined-out x (a ▸ b) p = p
joined-out x (a ¦ b) p = p
joined-out x (many a) p = p

pub chain-in : (a b : Shape) {v w : List Sort} → Spells a v → Spells b w → Spells (chain a b) (v ++ w)
unfolding chain
chain-in nothing b empty q = q
chain-in never b p q = absurd (none_of p refl)
chain-in (mark cs) b p q = joined_in (mark cs) b p q
chain-in (part x) b p q = joined_in (part x) b p q
chain-in (a ▸ c) b {w = w} (seq {v = u} {w = v} p r) q =
    subst (λ (l : List Sort). Spells (chain a (chain c b)) l) (sym (append_assoc u v w)) (chain-in a (chain c b) p (chain-in c b r q))
chain-in (a ¦ c) b p q = joined_in (a ¦ c) b p q
chain-in (many a) b p q = joined_in (many a) b p q

regroup : (a c b : Shape) {w : List Sort} → Spells (a ▸ (c ▸ b)) w → Spells ((a ▸ c) ▸ b) w
regroup a c b (seq {v = u} p (seq {v = v} {w = w} q r)) = subst (λ (l : List Sort). Spells ((a ▸ c) ▸ b) l) (append_assoc u v w) (seq (seq p q) r)

behind : (a x y : Shape) → ((w : List Sort) → Spells x w → Spells y w) → {w : List Sort} → Spells (a ▸ x) w → Spells (a ▸ y) w
behind a x y f (seq {w = w} p q) = seq p (f w q)

pub chain-out : (a b : Shape) (w : List Sort) → Spells (chain a b) w → Spells (a ▸ b) w
unfolding chain
chain-out nothing b w p = seq empty p
chain-out never b w p = absurd (none_of p refl)
chain-out (mark cs) b w p = joined-out (mark cs) b p
chain-out (part x) b w p = joined-out (part x) b p
chain-out (a ▸ c) b w p = regroup a c b (behind a (chain c b) (c ▸ b) (chain-out c b) (chain-out a (chain c b) w p))
chain-out (a ¦ c) b w p = joined-out (a ¦ c) b p
chain-out (many a) b w p = joined-out (many a) b p

-- a sequence of either, and back
equal-in : (x b : Shape) {w : List Sort} → T (equal x b) → Spells x w → Spells b w
equal-in x b {w} t p = subst (λ (s : Shape). Spells s w) (equal-sound x b t) p

within_in : (x b : Shape) {w : List Sort} → T (within x b) → Spells x w → Spells b w
unfolding within
within_in x nothing t p = equal-in x nothing t p
within_in x never t p = equal-in x never t p
within_in x (mark cs) t p = equal-in x (mark cs) t p
within_in x (part y) t p = equal-in x (part y) t p
within_in x (a ▸ b) t p = equal-in x (a ▸ b) t p
within_in x (a ¦ b) {w} t p = go (or_cases (equal x a) (within x b) t) (λ u. within_in x b u p)
  where
    go : T (equal x a) ⊎ T (within x b) → (T (within x b) → Spells b w) → Spells (a ¦ b) w
    go (inl u) f = left (equal-in x a u p)
    go (inr u) f = right (f u)
within_in x (many a) t p = equal-in x (many a) t p

added-left : (x b : Shape) {w : List Sort} → Spells x w → Spells (added x b) w
unfolding added
added-left x b {w} p = go (equal never b) (within x b) (λ t. within_in x b t p)
  where
    go : (n m : Bool) → (T m → Spells b w) → Spells (cond n x (cond m b (x ¦ b))) w
    go true m f = p
    go false true f = f tt
    go false false f = left p

added-right : (x b : Shape) {w : List Sort} → Spells b w → Spells (added x b) w
unfolding added
added-right x b {w} p = go (equal never b) (within x b) (λ t. none_of p (sym (equal-sound never b t)))
  where
    go : (n m : Bool) → (T n → ⊥) → Spells (cond n x (cond m b (x ¦ b))) w
    go true m f = absurd (f tt)
    go false true f = p
    go false false f = right p

added_out : (x b : Shape) {w : List Sort} → Spells (added x b) w → Spells (x ¦ b) w
unfolding added
added_out x b {w} = go (equal never b) (within x b)
  where
    go : (n m : Bool) → Spells (cond n x (cond m b (x ¦ b))) w → Spells (x ¦ b) w
    go true m p = left p
    go false true p = right p
    go false false p = p

pub choice-right : (a b : Shape) {w : List Sort} → Spells b w → Spells (choice a b) w
unfolding choice
choice-right nothing b p = added-right nothing b p
choice-right never b p = p
choice-right (mark cs) b p = added-right (mark cs) b p
choice-right (part x) b p = added-right (part x) b p
choice-right (a ▸ c) b p = added-right (a ▸ c) b p
choice-right (a ¦ c) b p = choice-right a (choice c b) (choice-right c b p)
choice-right (many a) b p = added-right (many a) b p

pub choice-left : (a b : Shape) {w : List Sort} → Spells a w → Spells (choice a b) w
unfolding choice
choice-left nothing b p = added-left nothing b p
choice-left never b p = absurd (none_of p refl)
choice-left (mark cs) b p = added-left (mark cs) b p
choice-left (part x) b p = added-left (part x) b p
choice-left (a ▸ c) b p = added-left (a ▸ c) b p
choice-left (a ¦ c) b (left p) = choice-left a (choice c b) p
choice-left (a ¦ c) b (right p) = choice-right a (choice c b) (choice-left c b p)
choice-left (many a) b p = added-left (many a) b p

turn : (a c b : Shape) {w : List Sort} → ((w : List Sort) → Spells (choice c b) w → Spells (c ¦ b) w) → Spells (a ¦ choice c b) w → Spells ((a ¦ c) ¦ b) w
turn a c b f (left p) = left (left p)
turn a c b {w} f (right p) = go (f w p)
  where
    go : Spells (c ¦ b) w → Spells ((a ¦ c) ¦ b) w
    go (left q) = left (right q)
    go (right q) = right q

pub choice-out : (a b : Shape) (w : List Sort) → Spells (choice a b) w → Spells (a ¦ b) w
unfolding choice
choice-out nothing b w p = added_out nothing b p
choice-out never b w p = right p
choice-out (mark cs) b w p = added_out (mark cs) b p
choice-out (part x) b w p = added_out (part x) b p
choice-out (a ▸ c) b w p = added_out (a ▸ c) b p
choice-out (a ¦ c) b w p = turn a c b (choice-out c b) (choice-out a (choice c b) w p)
choice-out (many a) b w p = added_out (many a) b p

-- A sequence of a shape is one of its tidy form,
pub tidy-in : {a : Shape} {w : List Sort} → Spells a w → Spells (tidy a) w
unfolding tidy
tidy-in empty = empty
tidy-in (one_mark c h) = one_mark c h
tidy-in (one_part k l h c i) = one_part k l h c i
tidy-in (seq {a = a} {b = b} p q) = chain-in (tidy a) (tidy b) (tidy-in p) (tidy-in q)
tidy-in (left {a = a} {b = b} p) = choice-left (tidy a) (tidy b) (tidy-in p)
tidy-in (right {a = a} {b = b} p) = choice-right (tidy a) (tidy b) (tidy-in p)
tidy-in stop = stop
tidy-in (more p q) = more (tidy-in p) (tidy-in q)

-- and back.
abbrev Back : Shape → Type 0
Back a = (w : List Sort) → Spells (tidy a) w → Spells a w

seq-back : (a b : Shape) → Back a → Back b → {w : List Sort} → Spells (tidy a ▸ tidy b) w → Spells (a ▸ b) w
seq-back a b f g (seq {v = v} {w = w} p q) = seq (f v p) (g w q)

either-back : (a b : Shape) → Back a → Back b → {w : List Sort} → Spells (tidy a ¦ tidy b) w → Spells (a ¦ b) w
either-back a b f g {w} (left p) = left (f w p)
either-back a b f g {w} (right p) = right (g w p)

many-map : (a b : Shape) → ((w : List Sort) → Spells b w → Spells a w) → {w : List Sort} → Spells (many b) w → Spells (many a) w
many-map a b f stop = stop
many-map a b f (more {v = v} p q) = more (f v p) (many-map a b f q)

many-back : (a : Shape) → Back a → {w : List Sort} → Spells (many (tidy a)) w → Spells (many a) w
many-back a f p = many-map a (tidy a) f p

pub tidy-out : (a : Shape) (w : List Sort) → Spells (tidy a) w → Spells a w
unfolding tidy
tidy-out nothing w p = p
tidy-out never w p = p
tidy-out (mark cs) w p = p
tidy-out (part x) w p = p
tidy-out (a ▸ b) w p = seq-back a b (tidy-out a) (tidy-out b) (chain-out (tidy a) (tidy b) w p)
tidy-out (a ¦ b) w p = either-back a b (tidy-out a) (tidy-out b) (choice-out (tidy a) (tidy b) w p)
tidy-out (many a) w p = many-back a (tidy-out a) p
