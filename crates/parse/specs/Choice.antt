-- Made by tools/choice.py: the alternatives by name, as `choose` of grammar's table numbers them; src/choice.rt has the same names.
-- Assumes nothing.
use Rattle.std.specs.Prelude.{ℕ}

-- No alternative begins with the class.
abbrev pub Absent : ℕ
Absent = 0

-- A type.
abbrev pub EitherType : ℕ
EitherType = 1

abbrev pub OptionType : ℕ
OptionType = 2

abbrev pub ListType : ℕ
ListType = 3

abbrev pub NamedType : ℕ
NamedType = 4

abbrev pub TupleType : ℕ
TupleType = 5

abbrev pub ArrayType : ℕ
ArrayType = 6

-- A pattern.
abbrev pub NamePattern : ℕ
NamePattern = 1

abbrev pub TuplePattern : ℕ
TuplePattern = 2

abbrev pub ArrayPattern : ℕ
ArrayPattern = 3

-- An expression that is no block.
abbrev pub Literal : ℕ
Literal = 1

abbrev pub Parens : ℕ
Parens = 2

abbrev pub Array : ℕ
Array = 3

abbrev pub List : ℕ
List = 4

abbrev pub Match : ℕ
Match = 5

abbrev pub SimpleCall : ℕ
SimpleCall = 6

abbrev pub CastCall : ℕ
CastCall = 7

abbrev pub Named : ℕ
Named = 8

abbrev pub Bare : ℕ
Bare = 9

abbrev pub Typed : ℕ
Typed = 10

abbrev pub Folding : ℕ
Folding = 11

abbrev pub ForWhile : ℕ
ForWhile = 12

-- A name.
abbrev pub ReservedName : ℕ
ReservedName = 1

abbrev pub FunctionName : ℕ
FunctionName = 2

-- An arm's head, where an arm begins.
abbrev pub FalseHead : ℕ
FalseHead = 1

abbrev pub TrueHead : ℕ
TrueHead = 2

abbrev pub NoneHead : ℕ
NoneHead = 3

abbrev pub WrappedHead : ℕ
WrappedHead = 4

abbrev pub NamedHead : ℕ
NamedHead = 5
