-- The kinds table as a listing shows it: the marks left out, and a name without the class of its token (order 1). It is that of crate `kinds`;
-- nothing of it is said here.
-- Assumes nothing.
use Rattle.std.specs.Prelude.{[], ◌∷◌}
use Rattle.own.specs.Law.{Sort, child}
use Rattle.own.specs.Tree.{Rec}
use Rattle.own.specs.Kinds as kind
use Rattle.kinds.specs.Shape.{Part, of, name, arm, bound, size, Shape, nothing, never, mark, part, ◌▸◌, ◌¦◌, many}
use Rattle.kinds.specs.Rules.{Form, form}

-- A child as a listing shows it: a token has no class there.
abbrev pub bare : Rec → Sort
bare r = child r.kind r.low r.high 0

-- A part of a rule: "a name is any kind 2".
unfoldable pub bare_part : Part → Part
bare_part (of ks) = of ks
bare_part (name cs) = of (kind.Name ∷ [])
bare_part (arm n) = arm n
bare_part bound = bound
bare_part size = size

-- A shape without its marks.
unfoldable pub bare_shape : Shape → Shape
bare_shape nothing = nothing
bare_shape never = never
bare_shape (mark cs) = nothing
bare_shape (part p) = part (bare_part p)
bare_shape (a ▸ b) = bare_shape a ▸ bare_shape b
bare_shape (a ¦ b) = bare_shape a ¦ bare_shape b
bare_shape (many a) = many (bare_shape a)

-- A form of the kinds table without its marks.
abbrev pub bare_form : Form → Form
bare_form f = form f.kind f.fields (bare_shape f.shape)
