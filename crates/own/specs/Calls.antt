-- Calls by the low of their record: "low 1–14 in `CallName` order".
-- Assumes nothing.
use Rattle.std.specs.Prelude.{ℕ}

abbrev pub Jet : ℕ
Jet = 1

abbrev pub UnwrapLeft : ℕ
UnwrapLeft = 2

abbrev pub UnwrapRight : ℕ
UnwrapRight = 3

abbrev pub Unwrap : ℕ
Unwrap = 4

abbrev pub IsNone : ℕ
IsNone = 5

abbrev pub Assert : ℕ
Assert = 6

abbrev pub Panic : ℕ
Panic = 7

abbrev pub Debug : ℕ
Debug = 8

abbrev pub TypeCast : ℕ
TypeCast = 9

abbrev pub Custom : ℕ
Custom = 10

abbrev pub Fold : ℕ
Fold = 11

abbrev pub ArrayFold : ℕ
ArrayFold = 12

abbrev pub ForWhile : ℕ
ForWhile = 13

abbrev pub RawHash : ℕ
RawHash = 14
