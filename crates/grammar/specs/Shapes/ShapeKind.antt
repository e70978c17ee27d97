-- The shapes by name: the number of each is the place of its row in `rows` (Shapes.antt), as Named.antt checks. Only proofs need these.
-- Assumes nothing.
use Rattle.std.specs.Prelude.{ℕ}

abbrev pub FunctionShape : ℕ
FunctionShape = 0

abbrev pub ParameterShape : ℕ
ParameterShape = 1

abbrev pub EitherTypeShape : ℕ
EitherTypeShape = 2

abbrev pub OptionTypeShape : ℕ
OptionTypeShape = 3

abbrev pub ListTypeShape : ℕ
ListTypeShape = 4

abbrev pub NamedTypeShape : ℕ
NamedTypeShape = 5

abbrev pub TupleTypeShape : ℕ
TupleTypeShape = 6

abbrev pub ArrayTypeShape : ℕ
ArrayTypeShape = 7

abbrev pub NamePatternShape : ℕ
NamePatternShape = 8

abbrev pub TuplePatternShape : ℕ
TuplePatternShape = 9

abbrev pub ArrayPatternShape : ℕ
ArrayPatternShape = 10

abbrev pub BlockShape : ℕ
BlockShape = 11

abbrev pub AssignmentShape : ℕ
AssignmentShape = 12

abbrev pub LiteralShape : ℕ
LiteralShape = 13

abbrev pub ParensShape : ℕ
ParensShape = 14

abbrev pub ArrayShape : ℕ
ArrayShape = 15

abbrev pub ListShape : ℕ
ListShape = 16

abbrev pub MatchShape : ℕ
MatchShape = 17

abbrev pub SimpleCallShape : ℕ
SimpleCallShape = 18

abbrev pub CastCallShape : ℕ
CastCallShape = 19

abbrev pub NamedShape : ℕ
NamedShape = 20

abbrev pub BareShape : ℕ
BareShape = 21

abbrev pub TypedShape : ℕ
TypedShape = 22

abbrev pub FoldingShape : ℕ
FoldingShape = 23

abbrev pub ForWhileShape : ℕ
ForWhileShape = 24

abbrev pub ArmShape : ℕ
ArmShape = 25

abbrev pub TypeItemShape : ℕ
TypeItemShape = 26
