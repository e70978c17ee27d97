-- What a record of a kind may own and hold, computed from the rules: a mark or a child that some form of the kind has.
-- Assumes nothing.
use Rattle.std.specs.Prelude.{Bool, List, [], ◌∷◌, ◌++◌, ℕ, eqb}
use Rattle.text.specs.Lists.{keep, has}
use Rattle.own.specs.Law.{Sort, word, child}
use Rattle.own.specs.Kinds as kind
use Rattle.kinds.specs.Shape.{Part, of, name, arm, bound, size, Shape, nothing, never, mark, part, ◌▸◌, ◌¦◌, many}
use Rattle.kinds.specs.Rules.{Form, all_forms}

-- The kinds of child that a part asks for.
unfoldable pub kinds_of : Part → List ℕ
kinds_of (of ks) = ks
kinds_of (name cs) = kind.Name ∷ []
kinds_of (arm n) = kind.BuiltinArm ∷ []
kinds_of bound = kind.Number ∷ []
kinds_of size = kind.Number ∷ []

-- What is gathered from all marks and all parts of a shape.
unfoldable pub gather : (List ℕ → List ℕ) → (Part → List ℕ) → Shape → List ℕ
gather f g nothing = []
gather f g never = []
gather f g (mark cs) = f cs
gather f g (part p) = g p
gather f g (a ▸ b) = gather f g a ++ gather f g b
gather f g (a ¦ b) = gather f g a ++ gather f g b
gather f g (many a) = gather f g a

-- The classes of a shape's marks.
abbrev pub classes_in : Shape → List ℕ
classes_in = gather (λ cs. cs) (λ p. [])

-- The kinds of a shape's children.
abbrev pub kinds_in : Shape → List ℕ
kinds_in = gather (λ cs. []) kinds_of

-- Those of all forms of a list.
unfoldable pub in_forms : (Shape → List ℕ) → List Form → List ℕ
in_forms f [] = []
in_forms f (x ∷ l) = f x.shape ++ in_forms f l

-- All forms of a kind.
unfoldable pub forms_for : ℕ → List Form
forms_for kind = keep (λ f. eqb f.kind kind) all_forms

-- Some form of the kind, for some low and high, has a mark of that class.
unfoldable pub may_own : ℕ → ℕ → Bool
may_own kind class = has (in_forms classes_in (forms_for kind)) class

-- Some form of the kind, for some low and high, has a child of that kind.
unfoldable pub may_hold : ℕ → ℕ → Bool
may_hold kind kid = has (in_forms kinds_in (forms_for kind)) kid

-- A piece whose class, or whose kind, is listed.
abbrev pub listed : List ℕ → List ℕ → Sort → Bool
listed cs ks (word c) = has cs c
listed cs ks (child k l h c) = has ks k

-- A piece that a record of the kind may have.
abbrev pub may : ℕ → Sort → Bool
may kind (word c) = may_own kind c
may kind (child k l h c) = may_hold kind k
