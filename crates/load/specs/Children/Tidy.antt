-- Shapes in a tidy form, so that what is left of a shape after some pieces is one of few.
-- Assumes nothing.
use Rattle.std.specs.Prelude.{Bool, ◌&&◌, ◌||◌, cond, List, [], ◌∷◌, ℕ}
use Rattle.text.specs.Same.{same}
use Rattle.kinds.specs.Shape.{Part, of, name, arm, bound, size, Shape, nothing, never, mark, part, ◌▸◌, ◌¦◌, many}

-- Equality of shapes as a test: a label that says all but the shapes inside, and the two shapes inside.
unfoldable pub part_label : Part → List ℕ
part_label (of ks) = 0 ∷ ks
part_label (name cs) = 1 ∷ cs
part_label (arm n) = 2 ∷ n ∷ []
part_label bound = 3 ∷ []
part_label size = 4 ∷ []

unfoldable pub label : Shape → List ℕ
label nothing = 0 ∷ []
label never = 1 ∷ []
label (mark cs) = 2 ∷ cs
label (part p) = 3 ∷ part_label p
label (a ▸ b) = 4 ∷ []
label (a ¦ b) = 5 ∷ []
label (many a) = 6 ∷ []

unfoldable pub first : Shape → Shape
first nothing = nothing
first never = nothing
first (mark cs) = nothing
first (part p) = nothing
first (a ▸ b) = a
first (a ¦ b) = a
first (many a) = a

unfoldable pub second : Shape → Shape
second nothing = nothing
second never = nothing
second (mark cs) = nothing
second (part p) = nothing
second (a ▸ b) = b
second (a ¦ b) = b
second (many a) = nothing

unfoldable pub equal : Shape → Shape → Bool
equal nothing b = same (label nothing) (label b)
equal never b = same (label never) (label b)
equal (mark cs) b = same (label (mark cs)) (label b)
equal (part p) b = same (label (part p)) (label b)
equal (a ▸ c) b = same (4 ∷ []) (label b) && (equal a (first b) && equal c (second b))
equal (a ¦ c) b = same (5 ∷ []) (label b) && (equal a (first b) && equal c (second b))
equal (many a) b = same (6 ∷ []) (label b) && equal a (first b)

-- One after the other: no `nothing` and no `never` beside another, and sequences lean to the right.
unfoldable pub joined : Shape → Shape → Shape
joined x nothing = x
joined x never = never
joined x (mark cs) = x ▸ mark cs
joined x (part p) = x ▸ part p
joined x (a ▸ b) = x ▸ (a ▸ b)
joined x (a ¦ b) = x ▸ (a ¦ b)
joined x (many a) = x ▸ many a

unfoldable pub chain : Shape → Shape → Shape
chain nothing b = b
chain never b = never
chain (mark cs) b = joined (mark cs) b
chain (part p) b = joined (part p) b
chain (a ▸ c) b = chain a (chain c b)
chain (a ¦ c) b = joined (a ¦ c) b
chain (many a) b = joined (many a) b

-- Either: no `never` beside another, none twice, and choices lean to the right.
unfoldable pub within : Shape → Shape → Bool
within x nothing = equal x nothing
within x never = equal x never
within x (mark cs) = equal x (mark cs)
within x (part p) = equal x (part p)
within x (a ▸ b) = equal x (a ▸ b)
within x (a ¦ b) = equal x a || within x b
within x (many a) = equal x (many a)

unfoldable pub added : Shape → Shape → Shape
added x b = cond (equal never b) x (cond (within x b) b (x ¦ b))

unfoldable pub choice : Shape → Shape → Shape
choice nothing b = added nothing b
choice never b = b
choice (mark cs) b = added (mark cs) b
choice (part p) b = added (part p) b
choice (a ▸ c) b = added (a ▸ c) b
choice (a ¦ c) b = choice a (choice c b)
choice (many a) b = added (many a) b

-- The tidy form.
unfoldable pub tidy : Shape → Shape
tidy nothing = nothing
tidy never = never
tidy (mark cs) = mark cs
tidy (part p) = part p
tidy (a ▸ b) = chain (tidy a) (tidy b)
tidy (a ¦ b) = choice (tidy a) (tidy b)
tidy (many a) = many (tidy a)
