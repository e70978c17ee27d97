-- The kinds of records by name: document 01, "Records and the marks they own", in the order of its table, with those of document 02. Types are those from Alias on,
-- patterns those from IdentifierPattern on (IgnorePattern is `_`); Number is the number in a call.
-- Assumes nothing.
use Rattle.std.specs.Prelude.{ℕ}

abbrev pub Function : ℕ
Function = 1

abbrev pub Name : ℕ
Name = 2

abbrev pub Parameter : ℕ
Parameter = 3

abbrev pub Alias : ℕ
Alias = 4

abbrev pub Builtin : ℕ
Builtin = 5

abbrev pub BoolType : ℕ
BoolType = 6

abbrev pub Unsigned : ℕ
Unsigned = 7

abbrev pub EitherType : ℕ
EitherType = 8

abbrev pub OptionType : ℕ
OptionType = 9

abbrev pub TupleType : ℕ
TupleType = 10

abbrev pub ArrayType : ℕ
ArrayType = 11

abbrev pub ListType : ℕ
ListType = 12

abbrev pub IdentifierPattern : ℕ
IdentifierPattern = 13

abbrev pub IgnorePattern : ℕ
IgnorePattern = 14

abbrev pub TuplePattern : ℕ
TuplePattern = 15

abbrev pub ArrayPattern : ℕ
ArrayPattern = 16

abbrev pub Let : ℕ
Let = 17

abbrev pub Block : ℕ
Block = 18

abbrev pub Left : ℕ
Left = 19

abbrev pub Right : ℕ
Right = 20

abbrev pub Some : ℕ
Some = 21

abbrev pub None : ℕ
None = 22

abbrev pub Boolean : ℕ
Boolean = 23

abbrev pub Decimal : ℕ
Decimal = 24

abbrev pub Hexadecimal : ℕ
Hexadecimal = 25

abbrev pub Binary : ℕ
Binary = 26

abbrev pub Witness : ℕ
Witness = 27

abbrev pub ParameterValue : ℕ
ParameterValue = 28

abbrev pub Variable : ℕ
Variable = 29

abbrev pub Parenthesised : ℕ
Parenthesised = 30

abbrev pub Tuple : ℕ
Tuple = 31

abbrev pub Array : ℕ
Array = 32

abbrev pub List : ℕ
List = 33

abbrev pub EnumConstruction : ℕ
EnumConstruction = 34

abbrev pub Match : ℕ
Match = 35

abbrev pub EnumMatch : ℕ
EnumMatch = 36

abbrev pub BuiltinArm : ℕ
BuiltinArm = 37

abbrev pub EnumArm : ℕ
EnumArm = 38

abbrev pub Call : ℕ
Call = 39

abbrev pub Number : ℕ
Number = 40

-- A whole file, and a type item (document 02, order 3).
abbrev pub Program : ℕ
Program = 41

abbrev pub TypeItem : ℕ
TypeItem = 42

-- The kinds are 1 to this.
abbrev pub Last : ℕ
Last = TypeItem
