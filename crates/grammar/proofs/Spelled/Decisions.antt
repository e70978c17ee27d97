-- What a row says of the decisions of Records.antt: which tokens it surely has or has not, and how many names and parts.
-- Assumes nothing.
use Rattle.std.specs.Prelude.{Bool, true, false, ◌&&◌, ◌||◌, not, cond, List, [], ◌∷◌, ◌++◌, ◌⊎◌, ◌≡◌, refl, ℕ, ◌+◌, T, eqb}
use Rattle.std.proofs.Math.Bool.{or-true}
use Rattle.std.proofs.Common.{inl, inr, sym, ap, ap₂, ◌∙◌, subst, arith, eqb→eq}
use Rattle.text.proofs.ListLaws.{all-has}
use Rattle.text.proofs.Table.{is_true, first-of, second-of, or_cases, not-true}
use Rattle.text.specs.Lists.{some, all, has}
use Rattle.own.specs.Law.{Sort, word, child}
use Rattle.own.specs.Kinds as kind
use Rattle.kinds.specs.Shape.{Shape, nothing, never, part, ◌▸◌, ◌¦◌, many, Spells, empty, one_mark, one_part, seq, left, right, stop, more}
use Rattle.kinds.specs.Shape as k
use Rattle.kinds.specs.Fields.{counted}
use Rattle.kinds.specs.Rules.{the}
use Rattle.kinds.proofs.Build.{the-mark}
use Rattle.lexer.specs.Classes as class
use Rattle.grammar.proofs.Spelled.Rows.{Row, r_end, r_more}
use Rattle.grammar.proofs.Spelled.Inclusion.{roled, dealt, only_kinds, kinds_of, fit-kinds}
use Rattle.grammar.specs.Records.Records.{Role, aMark, asName, as_number, role_of, sees, opening, name_count}

-- ---- which tokens a row has

-- No sequence of the shape has a token of the class.
unfoldable pub free_of : ℕ → Shape → Bool
free_of c nothing = true
free_of c never = true
free_of c (k.mark cs) = not (has cs c)
free_of c (part p) = true
free_of c (a ▸ b) = free_of c a && free_of c b
free_of c (a ¦ b) = free_of c a && free_of c b
free_of c (many a) = free_of c a

-- Every mark of the shape is of the class.
unfoldable pub is_the : ℕ → Shape → Bool
is_the c nothing = false
is_the c never = false
is_the c (k.mark cs) = all (λ d. eqb d c) cs
is_the c (part p) = false
is_the c (a ▸ b) = false
is_the c (a ¦ b) = false
is_the c (many a) = false

-- No shape of a row has such a token; one of them is such a token.
unfoldable pub free : ℕ → List Shape → Bool
free c l = all (free_of c) l

unfoldable pub sure : ℕ → List Shape → Bool
sure c l = some (is_the c) l

pub sees-append : (c : ℕ) (v w : List Sort) → sees c (v ++ w) ≡ (sees c v || sees c w)
unfolding sees
sees-append c [] w = refl
sees-append c (word d ∷ v) w = go (eqb d c) (sees-append c v w)
  where
    go : (b : Bool) → sees c (v ++ w) ≡ (sees c v || sees c w) → (b || sees c (v ++ w)) ≡ ((b || sees c v) || sees c w)
    go true e = refl
    go false e = e
sees-append c (child x l h d ∷ v) w = sees-append c v w

-- a number that is in a list, and one that is not, differ
apart : (cs : List ℕ) (c d : ℕ) → T (not (has cs c)) → T (has cs d) → eqb d c ≡ false
apart cs c d n h = go (eqb d c) refl
  where
    go : (b : Bool) → eqb d c ≡ b → eqb d c ≡ false
    go true e =
        let q : d ≡ c = eqb→eq d c (subst (λ b. T b) (sym e) tt) in
        let u : T (has cs c) = subst (λ (x : ℕ). T (has cs x)) q h in
        absurd (subst (λ b. T b) (not-true (has cs c) n) u)
    go false e = e

pub free-sound : (c : ℕ) {a : Shape} {w : List Sort} → T (free_of c a) → Spells a w → sees c w ≡ false
unfolding free_of sees
free-sound c t empty = refl
free-sound c t (one_mark {cs = cs} d h) = rw (apart cs c d t h) refl
free-sound c t (one_part n l h d i) = refl
free-sound c t (seq {a = a} {b = b} {v = v} {w = w} p q) =
    sees-append c v w ∙ ap₂ (λ x y. x || y) (free-sound c (first-of (free_of c a) (free_of c b) t) p) (free-sound c (second-of (free_of c a) (free_of c b) t) q)
free-sound c t (left {a = a} {b = b} p) = free-sound c (first-of (free_of c a) (free_of c b) t) p
free-sound c t (right {a = a} {b = b} p) = free-sound c (second-of (free_of c a) (free_of c b) t) p
free-sound c t stop = refl
free-sound c t (more {v = v} {w = w} p q) = sees-append c v w ∙ ap₂ (λ x y. x || y) (free-sound c t p) (free-sound c t q)

-- A row that is free of a class,
pub row-free : (c : ℕ) {l : List Shape} {w : List Sort} → T (free c l) → Row l w → sees c w ≡ false
unfolding free all sees
row-free c t r_end = refl
row-free c t (r_more {a = a} {l = l} {v = v} {w = w} p r) =
    sees-append c v w ∙ ap₂ (λ x y. x || y) (free-sound c (first-of (free_of c a) (all (free_of c) l) t) p) (row-free c (second-of (free_of c a) (all (free_of c) l) t) r)

the-sound : (c : ℕ) (a : Shape) {w : List Sort} → T (is_the c a) → Spells a w → sees c w ≡ true
unfolding is_the sees
the-sound c nothing t p = absurd t
the-sound c never t p = absurd t
the-sound c (k.mark cs) t (one_mark d h) = rw (is_true (eqb d c) (all-has (λ x. eqb x c) cs d t h)) refl
the-sound c (part x) t p = absurd t
the-sound c (x ▸ y) t p = absurd t
the-sound c (x ¦ y) t p = absurd t
the-sound c (many x) t p = absurd t

-- and one that surely has it.
pub row_sure : (c : ℕ) {l : List Shape} {w : List Sort} → T (sure c l) → Row l w → sees c w ≡ true
unfolding sure some sees
row_sure c t r_end = absurd t
row_sure c t (r_more {a = a} {l = l} {v = v} {w = w} p r) = go (or_cases (is_the c a) (some (is_the c) l) t) (λ u. row_sure c u r)
  where
    go : T (is_the c a) ⊎ T (some (is_the c) l) → (T (some (is_the c) l) → sees c w ≡ true) → sees c (v ++ w) ≡ true
    go (inl u) f = sees-append c v w ∙ ap (λ x. x || sees c w) (the-sound c a u p)
    go (inr u) f = sees-append c v w ∙ ap (λ x. sees c v || x) (f u) ∙ or-true (sees c v)

pub one_has : (x y : ℕ) → T (has (x ∷ []) y) → T (eqb x y)
unfolding has
one_has x y t = go (or_cases (eqb x y) false t)
  where
    go : T (eqb x y) ⊎ T false → T (eqb x y)
    go (inl u) = u
    go (inr u) = absurd u

-- A row that begins with one class begins with that token.
pub row-opening : (c : ℕ) {l : List Shape} {w : List Sort} → Row (the c ∷ l) w → opening w ≡ c
unfolding opening
row-opening c (r_more (one_mark d h) r) = sym (eqb→eq c d (one_has c d h))

-- A row that begins with one of some classes begins with one that passes a test that all pass.
pub record Opened (f : ℕ → Bool) (l : List Shape) (w : List Sort) : Type 0 where
  pub class : ℕ
  pub passes : T (f class)
  pub spelled : Row (the class ∷ l) w

pub row_opened : (f : ℕ → Bool) (cs : List ℕ) {l : List Shape} {w : List Sort} → T (all f cs) → Row (k.mark cs ∷ l) w → Opened f l w
row_opened f cs t (r_more (one_mark c h) r) = record { class = c; passes = all-has f cs c t h; spelled = r_more (the-mark c) r }

-- ---- how many names and parts

-- No part of the shape is of one of these kinds.
unfoldable pub lacks : List ℕ → Shape → Bool
lacks ks nothing = true
lacks ks never = true
lacks ks (k.mark cs) = true
lacks ks (part p) = only_kinds p && all (λ n. not (has ks n)) (kinds_of p)
lacks ks (a ▸ b) = lacks ks a && lacks ks b
lacks ks (a ¦ b) = lacks ks a && lacks ks b
lacks ks (many a) = lacks ks a

pub counted-append : (ks : List ℕ) (v w : List Sort) → counted ks (v ++ w) ≡ counted ks v + counted ks w
unfolding counted
counted-append ks [] w = omega arith
counted-append ks (word c ∷ v) w = counted-append ks v w
counted-append ks (child x l h c ∷ v) w = let e = counted-append ks v w in omega arith

lacks-sound : (ks : List ℕ) {a : Shape} {w : List Sort} → T (lacks ks a) → Spells a w → counted ks w ≡ 0
unfolding lacks counted
lacks-sound ks t empty = refl
lacks-sound ks t (one_mark d h) = refl
lacks-sound ks t (one_part {p = p} n l h d i) =
    let u = fit-kinds p n l h d (first-of (only_kinds p) (all (λ m. not (has ks m)) (kinds_of p)) t) i in
    rw (not-true (has ks n) (all-has (λ m. not (has ks m)) (kinds_of p) n (second-of (only_kinds p) (all (λ m. not (has ks m)) (kinds_of p)) t) u)) refl
lacks-sound ks t (seq {a = a} {b = b} {v = v} {w = w} p q) =
    omega (arith, counted-append ks v w, lacks-sound ks (first-of (lacks ks a) (lacks ks b) t) p, lacks-sound ks (second-of (lacks ks a) (lacks ks b) t) q)
lacks-sound ks t (left {a = a} {b = b} p) = lacks-sound ks (first-of (lacks ks a) (lacks ks b) t) p
lacks-sound ks t (right {a = a} {b = b} p) = lacks-sound ks (second-of (lacks ks a) (lacks ks b) t) p
lacks-sound ks t stop = refl
lacks-sound ks t (more {v = v} {w = w} p q) = omega (arith, counted-append ks v w, lacks-sound ks t p, lacks-sound ks t q)

pub row-lacks : (ks : List ℕ) {l : List Shape} {w : List Sort} → T (all (lacks ks) l) → Row l w → counted ks w ≡ 0
unfolding all counted
row-lacks ks t r_end = refl
row-lacks ks t (r_more {a = a} {l = l} {v = v} {w = w} p r) =
    omega (arith, counted-append ks v w, lacks-sound ks (first-of (lacks ks a) (all (lacks ks) l) t) p, row-lacks ks (second-of (lacks ks a) (all (lacks ks) l) t) r)

-- Tokens in their roles leave the number of other parts as it is.
counted-roled : (ks : List ℕ) (o : Role) (n c : ℕ) (w : List Sort) → has ks kind.Name ≡ false → has ks kind.Number ≡ false → counted ks (roled o n c ∷ w) ≡ counted ks w
unfolding roled counted
counted-roled ks aMark n c w e f = refl
counted-roled ks asName n c w e f = rw e (omega arith)
counted-roled ks as_number n c w e f = rw f (omega arith)

pub counted-dealt : (ks : List ℕ) (K n : ℕ) (w : List Sort) → has ks kind.Name ≡ false → has ks kind.Number ≡ false → counted ks (dealt K n w) ≡ counted ks w
unfolding dealt counted
counted-dealt ks K n [] e f = refl
counted-dealt ks K n (word c ∷ w) e f = counted-roled ks (role_of K c) n c (dealt K n w) e f ∙ counted-dealt ks K n w e f
counted-dealt ks K n (child x l h d ∷ w) e f = ap (λ m. cond (has ks x) 1 0 + m) (counted-dealt ks K n w e f)

-- Of a kind whose names are all children, these are as many as the name tokens and the names that were there.
pub names-dealt : (K n : ℕ) → ((c : ℕ) → role_of K c ≡ cond (has class.identifiers c) asName aMark) → (w : List Sort)
    → counted (kind.Name ∷ []) (dealt K n w) ≡ name_count w + counted (kind.Name ∷ []) w
unfolding dealt counted name_count has roled
names-dealt K n r [] = refl
names-dealt K n r (word c ∷ w) =
    ap (λ o. counted (kind.Name ∷ []) (roled o n c ∷ dealt K n w)) (r c) ∙ go (has class.identifiers c) (names-dealt K n r w)
  where
    go : (b : Bool) → counted (kind.Name ∷ []) (dealt K n w) ≡ name_count w + counted (kind.Name ∷ []) w
        → counted (kind.Name ∷ []) (roled (cond b asName aMark) n c ∷ dealt K n w) ≡ (cond b 1 0 + name_count w) + counted (kind.Name ∷ []) w
    go true e = omega arith
    go false e = omega arith
names-dealt K n r (child x l h d ∷ w) = let e = names-dealt K n r w in omega arith
