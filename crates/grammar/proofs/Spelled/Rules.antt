-- What a shape is made of, as the rules of the kinds see it: the expression of each shape as a sequence of marks and parts, and that
-- the items of a shape tree spell it.
-- Assumes nothing.
use Rattle.std.specs.Prelude.{List, [], ◌∷◌, ◌++◌, map, ◌⊎◌, ◌≡◌, ℕ, zero, suc, T, eqb, get_or, take, drop}
use mathlib.Core.Option.{none-ne-some}
use Rattle.std.proofs.Common.{append_assoc, append-nil, inl, inr, sym, ◌∙◌, subst, eqb→eq}
use Rattle.std.proofs.Math.Option.{some}
use Rattle.std.proofs.Math.ListN.{get_elem?}
use Rattle.theory.specs.Ebnf.{Ex, eps, part, seq, or, items, branches, choices}
use Rattle.theory.specs.Ebnf as shape
use Rattle.text.proofs.Table.{first-of, second-of, or_cases}
use Rattle.text.specs.Lists.{has, all, count, span}
use Rattle.text.proofs.ListLaws.{has_left, has_right}
use Rattle.own.specs.Law.{Sort}
use Rattle.own.specs.Kinds as kind
use Rattle.kinds.specs.Shape.{Shape, nothing, never, mark, of, ◌▸◌, ◌¦◌, many, Spells, empty, one_mark, one_part, left, right, stop, more, fits}
use Rattle.kinds.specs.Shape as k
use Rattle.kinds.specs.Rules.{the, optional, element, expression, program}
use Rattle.kinds.specs.Families as family
use Rattle.lexer.specs.Classes as t
use Rattle.grammar.specs.Shapes.Shapes.{shapes}

-- The kinds of the records that the shapes of a category become.
unfoldable pub kinds_in : ℕ → List ℕ
kinds_in C = get_or ((kind.Function ∷ []) ∷ (kind.Parameter ∷ []) ∷ family.types ∷ family.patterns ∷ family.blocks ∷ (kind.Let ∷ []) ∷ family.singles ∷ family.arms ∷ (kind.TypeItem ∷ []) ∷ []) C []

-- Either of two; marks are put together, and so are parts.
unfoldable pub both : Shape → Shape → Shape
both (mark a) (mark b) = mark (a ++ b)
both (mark a) nothing = mark a ¦ nothing
both (mark a) never = mark a ¦ never
both (mark a) (k.part p) = mark a ¦ k.part p
both (mark a) (x ▸ y) = mark a ¦ x ▸ y
both (mark a) (x ¦ y) = mark a ¦ x ¦ y
both (mark a) (many x) = mark a ¦ many x
both nothing b = nothing ¦ b
both never b = never ¦ b
both (k.part p) b = k.part p ¦ b
both (x ▸ y) b = x ▸ y ¦ b
both (x ¦ y) b = (x ¦ y) ¦ b
both (many x) b = many x ¦ b

-- What may follow an item of a list, and the list.
abbrev pub rest : Shape → ℕ → Shape
rest a c = many (the c ▸ a) ▸ optional (the c)

abbrev pub listed : Shape → ℕ → Shape
listed a c = optional (a ▸ rest a c)

-- An expression as a shape of the rules, where the named parts are these shapes.
unfoldable pub seen : List Shape → Ex → Shape
seen ps eps = nothing
seen ps (shape.mark c) = the c
seen ps (shape.child C) = k.part (of (kinds_in C))
seen ps (part P) = get_or ps P nothing
seen ps (seq e f) = seen ps e ▸ seen ps f
seen ps (or e f) = both (seen ps e) (seen ps f)
seen ps (shape.many e) = many (seen ps e)
seen ps (shape.list e c) = listed (seen ps e) c
seen ps (shape.tail e c) = rest (seen ps e) c

-- An element of a block, with its `;`, and the last one.
abbrev pub elements_shape : Shape
elements_shape = many (element ▸ the t.Semi) ▸ optional expression

-- The named parts: the elements of a block are the first, the items of a file the last; each between them names at most parts that name none.
abbrev parts_between : List Ex
parts_between = take 4 (drop 1 shapes.parts)

unfoldable pub part_shapes : List Shape
part_shapes = elements_shape ∷ map (seen (elements_shape ∷ map (seen []) parts_between)) parts_between ++ (program ∷ [])

abbrev pub spelt : Ex → Shape
spelt e = seen part_shapes e

-- A row of expressions.
unfoldable pub row : List Ex → Shape
row [] = nothing
row (e ∷ es) = spelt e ▸ row es

both_left : (a b : Shape) {w : List Sort} → Spells a w → Spells (both a b) w
unfolding both
both_left nothing b p = left p
both_left never b p = left p
both_left (mark a) nothing p = left p
both_left (mark a) never p = left p
both_left (mark a) (mark b) (one_mark c h) = one_mark c (has_left a b c h)
both_left (mark a) (k.part q) p = left p
both_left (mark a) (x ▸ y) p = left p
both_left (mark a) (x ¦ y) p = left p
both_left (mark a) (many x) p = left p
both_left (k.part q) b p = left p
both_left (x ▸ y) b p = left p
both_left (x ¦ y) b p = left p
both_left (many x) b p = left p

both_right : (a b : Shape) {w : List Sort} → Spells b w → Spells (both a b) w
unfolding both
both_right nothing b p = right p
both_right never b p = right p
both_right (mark a) nothing p = right p
both_right (mark a) never p = right p
both_right (mark a) (mark b) (one_mark c h) = one_mark c (has_right a b c h)
both_right (mark a) (k.part q) p = right p
both_right (mark a) (x ▸ y) p = right p
both_right (mark a) (x ¦ y) p = right p
both_right (mark a) (many x) p = right p
both_right (k.part q) b p = right p
both_right (x ▸ y) b p = right p
both_right (x ¦ y) b p = right p
both_right (many x) b p = right p

-- brackets moved, and nothing left off
pub regroup : {a b c : Shape} {v u : List Sort} → Spells a v → Spells (b ▸ c) u → Spells ((a ▸ b) ▸ c) (v ++ u)
regroup {a} {b} {c} {v} p (k.seq {v = x} {w = y} q r) = subst (λ (l : List Sort). Spells ((a ▸ b) ▸ c) l) (append_assoc v x y) (k.seq (k.seq p q) r)

pub last_off : {a : Shape} {w : List Sort} → Spells (a ▸ nothing) w → Spells a w
last_off {a} (k.seq {v = v} p empty) = subst (λ (l : List Sort). Spells a l) (sym (append-nil v)) p

pub row-append : (α es : List Ex) {w : List Sort} → Spells (row (α ++ es)) w → Spells (row α ▸ row es) w
unfolding row
row-append [] es p = k.seq empty p
row-append (e ∷ α) es (k.seq p q) = regroup p (row-append α es q)

pub pair-in : {a b c d : Shape} {w : List Sort} → ((v : List Sort) → Spells a v → Spells c v) → ((v : List Sort) → Spells b v → Spells d v) → Spells (a ▸ b) w → Spells (c ▸ d) w
pair-in f g (k.seq {v = v} {w = w} p q) = k.seq (f v p) (g w q)

-- the items of an expression spell it
pub items-in : (e : Ex) {w : List Sort} → Spells (row (items e)) w → Spells (spelt e) w
unfolding row items seen
items-in eps p = p
items-in (shape.mark c) p = last_off p
items-in (shape.child C) p = last_off p
items-in (part P) p = last_off p
items-in (seq e f) p = pair-in (λ v q. items-in e q) (λ v q. items-in f q) (row-append (items e) (items f) p)
items-in (or e f) p = last_off p
items-in (shape.many e) p = last_off p
items-in (shape.list e c) p = last_off p
items-in (shape.tail e c) p = last_off p

pub nth-none : {X A : Type 0} (i : ℕ) {x : X} → get_elem? [] i ≡ some x → A
nth-none i e = absurd (none-ne-some _ e)

nth-one : {X : Type 0} (a : X) (i : ℕ) {x : X} → get_elem? (a ∷ []) i ≡ some x → a ≡ x
nth-one a zero e = cc
nth-one a (suc i) e = nth-none i e

nth-append : {X : Type 0} (l m : List X) (i : ℕ) (x : X) → get_elem? (l ++ m) i ≡ some x → ((j : ℕ) × (get_elem? l j ≡ some x)) ⊎ ((j : ℕ) × (get_elem? m j ≡ some x))
nth-append [] m i x e = inr (i, e)
nth-append (a ∷ l) m zero x e = inl (0, e)
nth-append (a ∷ l) m (suc i) x e = go (nth-append l m i x e)
  where
    go : ((j : ℕ) × (get_elem? l j ≡ some x)) ⊎ ((j : ℕ) × (get_elem? m j ≡ some x)) → ((j : ℕ) × (get_elem? (a ∷ l) j ≡ some x)) ⊎ ((j : ℕ) × (get_elem? m j ≡ some x))
    go (inl q) = inl (suc q.0, q.1)
    go (inr q) = inr q

-- one of the alternatives of an expression spells it
abbrev Alternative : Ex → Type 0
Alternative e = (i : ℕ) (α : List Ex) → get_elem? (branches e) i ≡ some α → (w : List Sort) → Spells (row α) w → Spells (spelt e) w

one-branch : (β : List Ex) (a : Shape) → ((w : List Sort) → Spells (row β) w → Spells a w)
    → (i : ℕ) (α : List Ex) → get_elem? (β ∷ []) i ≡ some α → (w : List Sort) → Spells (row α) w → Spells a w
one-branch β a f i α e w p = f w (subst (λ (l : List Ex). Spells (row l) w) (sym (nth-one β i e)) p)

two-branches : (l m : List (List Ex)) (a b : Shape)
    → ((i : ℕ) (α : List Ex) → get_elem? l i ≡ some α → (w : List Sort) → Spells (row α) w → Spells a w)
    → ((i : ℕ) (α : List Ex) → get_elem? m i ≡ some α → (w : List Sort) → Spells (row α) w → Spells b w)
    → (i : ℕ) (α : List Ex) → get_elem? (l ++ m) i ≡ some α → (w : List Sort) → Spells (row α) w → Spells (both a b) w
two-branches l m a b f g i α e w p = go (nth-append l m i α e)
  where
    go : ((j : ℕ) × (get_elem? l j ≡ some α)) ⊎ ((j : ℕ) × (get_elem? m j ≡ some α)) → Spells (both a b) w
    go (inl q) = both_left a b (f q.0 α q.1 w p)
    go (inr q) = both_right a b (g q.0 α q.1 w p)

branch_in : (e : Ex) → Alternative e
unfolding branches seen items
branch_in eps = one-branch [] nothing (λ w p. items-in eps p)
branch_in (shape.mark c) = one-branch (shape.mark c ∷ []) (the c) (λ w p. items-in (shape.mark c) p)
branch_in (shape.child C) = one-branch (shape.child C ∷ []) (k.part (of (kinds_in C))) (λ w p. items-in (shape.child C) p)
branch_in (part P) = one-branch (part P ∷ []) (get_or part_shapes P nothing) (λ w p. items-in (part P) p)
branch_in (seq e f) = one-branch (items e ++ items f) (spelt e ▸ spelt f) (λ w p. items-in (seq e f) p)
branch_in (or e f) = two-branches (branches e) (branches f) (spelt e) (spelt f) (branch_in e) (branch_in f)
branch_in (shape.many e) = one-branch (shape.many e ∷ []) (many (spelt e)) (λ w p. items-in (shape.many e) p)
branch_in (shape.list e c) = one-branch (shape.list e c ∷ []) (listed (spelt e) c) (λ w p. items-in (shape.list e c) p)
branch_in (shape.tail e c) = one-branch (shape.tail e c ∷ []) (rest (spelt e) c) (λ w p. items-in (shape.tail e c) p)

-- the rests and lists of a list with commas
module _ {a : Shape} {c : ℕ} where
  rest-none : Spells (rest a c) []
  rest-none = k.seq stop (left empty)

  rest_more : {w : List Sort} → Spells (the c ▸ listed a c ▸ nothing) w → Spells (rest a c) w
  rest_more (k.seq {v = v} p q) = go p (last_off q)
    where
      go : {v u : List Sort} → Spells (the c) v → Spells (listed a c) u → Spells (rest a c) (v ++ u)
      go {v} p (left empty) = k.seq stop (right (subst (λ (l : List Sort). Spells (the c) l) (sym (append-nil v)) p))
      go {v} p (right (k.seq {v = x} q (k.seq {v = ms} {w = o} m e))) =
          subst (λ (l : List Sort). Spells (rest a c) l) (append_assoc (v ++ x) ms o ∙ append_assoc v x (ms ++ o)) (k.seq (more (k.seq p q) m) e)

rest-only : {a : Shape} {c : ℕ} {w : List Sort} → Spells nothing w → Spells (rest a c) w
rest-only empty = rest-none

many-none : {a : Shape} {w : List Sort} → Spells nothing w → Spells (many a) w
many-none empty = stop

many_more : {a : Shape} {w : List Sort} → Spells (a ▸ many a) w → Spells (many a) w
many_more (k.seq p q) = more p q

-- one of a list that is in another list, number by number
pub has_within : (ks js : List ℕ) → T (all (has js) ks) → (n : ℕ) → T (has ks n) → T (has js n)
unfolding has all
has_within [] js u n h = absurd h
has_within (a ∷ ks) js u n h = go (or_cases (eqb a n) (has ks n) h) (has_within ks js (second-of (has js a) (all (has js) ks) u) n)
  where
    go : T (eqb a n) ⊎ T (has ks n) → (T (has ks n) → T (has js n)) → T (has js n)
    go (inl e) f = subst (λ (m : ℕ). T (has js m)) (eqb→eq a n e) (first-of (has js a) (all (has js) ks) u)
    go (inr e) f = f e

pub part-within : (ks js : List ℕ) → T (all (has js) ks) → {w : List Sort} → Spells (k.part (of ks)) w → Spells (k.part (of js)) w
unfolding fits
part-within ks js u (one_part n l h c i) = one_part n l h c (has_within ks js u n i)

-- the elements of a block
element-more : {u : List Sort} (s v : List Sort) → Spells element s → Spells (the t.Semi) v → Spells elements_shape u → Spells elements_shape (s ++ (v ++ u))
element-more s v p q (k.seq {v = ms} {w = o} m e) =
    subst (λ (l : List Sort). Spells elements_shape l) (append_assoc (s ++ v) ms o ∙ append_assoc s v (ms ++ o)) (k.seq (more (k.seq p q) m) e)

pub expression-in : (js : List ℕ) → T (all (has js) family.blocks) → T (all (has js) family.singles)
    → {w : List Sort} → Spells (k.part (of family.blocks) ¦ k.part (of family.singles)) w → Spells (k.part (of js)) w
expression-in js a b (left p) = part-within family.blocks js a p
expression-in js a b (right p) = part-within family.singles js b p

elements-in : {w : List Sort}
    → Spells (nothing ¦ (k.part (of (kind.Let ∷ [])) ▸ the t.Semi ▸ elements_shape ¦ (k.part (of family.blocks) ¦ k.part (of family.singles)) ▸ (nothing ¦ the t.Semi ▸ elements_shape))) w
    → Spells elements_shape w
unfolding all has span count
elements-in (left empty) = k.seq stop (left empty)
elements-in (right (left (k.seq {v = s} p (k.seq {v = v} q r)))) = element-more s v (part-within (kind.Let ∷ []) family.elements tt p) q r
elements-in (right (right (k.seq {v = s} p (left empty)))) =
    k.seq stop (right (subst (λ (l : List Sort). Spells expression l) (sym (append-nil s)) (expression-in family.expressions tt tt p)))
elements-in (right (right (k.seq {v = s} p (right (k.seq {v = v} q r))))) = element-more s v (expression-in family.elements tt tt p) q r

-- the items of a file
file-in : {w : List Sort}
    → Spells (nothing ¦ (k.part (of (kind.TypeItem ∷ [])) ▸ program ¦ k.part (of (kind.Function ∷ [])) ▸ program)) w → Spells program w
unfolding all has
file-in (left empty) = stop
file-in (right (left (k.seq p q))) = more (part-within (kind.TypeItem ∷ []) family.items tt p) q
file-in (right (right (k.seq p q))) = more (part-within (kind.Function ∷ []) family.items tt p) q

-- the named parts are spelled as their expressions; but for the first and the last they are these
part_in : (P : ℕ) {w : List Sort} → Spells (spelt (get_or shapes.parts P eps)) w → Spells (get_or part_shapes P nothing) w
unfolding shapes seen part_shapes both kinds_in
part_in zero p = elements-in p
part_in (suc zero) p = p
part_in (suc (suc zero)) p = p
part_in (suc (suc (suc zero))) p = p
part_in (suc (suc (suc (suc zero)))) p = p
part_in (suc (suc (suc (suc (suc zero))))) p = file-in p
part_in (suc (suc (suc (suc (suc (suc P)))))) p = p

-- what an expression is replaced by spells it
pub choice-in : (e : Ex) (i : ℕ) (α : List Ex) → get_elem? (choices shapes e) i ≡ some α → (w : List Sort) → Spells (row α) w → Spells (spelt e) w
unfolding choices seen items row branches
choice-in eps i α h w p = one-branch [] nothing (λ v q. q) i α h w p
choice-in (shape.mark c) i α h w p = nth-none i h
choice-in (shape.child C) i α h w p = nth-none i h
choice-in (part P) i α h w p = part_in P (branch_in (get_or shapes.parts P eps) i α h w p)
choice-in (seq e f) i α h w p = one-branch (items e ++ items f) (spelt e ▸ spelt f) (λ v q. items-in (seq e f) q) i α h w p
choice-in (or e f) i α h w p = branch_in (or e f) i α h w p
choice-in (shape.many e) zero α h w p = let q : [] ≡ α = cc in many-none (subst (λ (l : List Ex). Spells (row l) w) (sym q) p)
choice-in (shape.many e) (suc i) α h w p =
    many_more (pair-in (λ v q. items-in e q) (λ v q. last_off q)
    (row-append (items e) (shape.many e ∷ []) (subst (λ (l : List Ex). Spells (row l) w) (sym (nth-one (items e ++ (shape.many e ∷ [])) i h)) p)))
choice-in (shape.list e c) zero α h w p = let q : [] ≡ α = cc in left (subst (λ (l : List Ex). Spells (row l) w) (sym q) p)
choice-in (shape.list e c) (suc i) α h w p =
    right (pair-in (λ v q. items-in e q) (λ v q. last_off q)
    (row-append (items e) (shape.tail e c ∷ []) (subst (λ (l : List Ex). Spells (row l) w) (sym (nth-one (items e ++ (shape.tail e c ∷ [])) i h)) p)))
choice-in (shape.tail e c) zero α h w p = let q : [] ≡ α = cc in rest-only (subst (λ (l : List Ex). Spells (row l) w) (sym q) p)
choice-in (shape.tail e c) (suc i) α h w p =
    rest_more (subst (λ (l : List Ex). Spells (row l) w) (sym (nth-one (shape.mark c ∷ shape.list e c ∷ []) i h)) p)
