-- The numbers that the code's enums of kinds, calls and built-in arms stand for in the words of records.
-- Assumes nothing: these are definitions.
use Rattle.std.specs.Prelude.{◌≡◌, ◌≢◌, ℕ, Result, MatchResult}
use Rattle.own.specs.Kinds as kind
use Rattle.own.specs.Calls as call
use Rattle.own.specs.Arms as arm
use Rattle.own.specs.declared.kind.Kind.{Kind}
use Rattle.own.specs.declared.kind.Kind.TheVariants as kinds
use Rattle.own.specs.declared.kind.NoKind.{NoKind}
use Rattle.own.specs.declared.call.CallName.{CallName}
use Rattle.own.specs.declared.call.CallName.TheVariants as calls
use Rattle.own.specs.declared.arm.MatchPattern.{MatchPattern}
use Rattle.own.specs.declared.arm.MatchPattern.TheVariants as arms

abbrev pub kind_number : Kind → ℕ
kind_number kinds.Function = kind.Function
kind_number kinds.Name = kind.Name
kind_number kinds.Parameter = kind.Parameter
kind_number kinds.Alias = kind.Alias
kind_number kinds.Builtin = kind.Builtin
kind_number kinds.BoolType = kind.BoolType
kind_number kinds.Unsigned = kind.Unsigned
kind_number kinds.EitherType = kind.EitherType
kind_number kinds.OptionType = kind.OptionType
kind_number kinds.TupleType = kind.TupleType
kind_number kinds.ArrayType = kind.ArrayType
kind_number kinds.ListType = kind.ListType
kind_number kinds.IdentifierPattern = kind.IdentifierPattern
kind_number kinds.IgnorePattern = kind.IgnorePattern
kind_number kinds.TuplePattern = kind.TuplePattern
kind_number kinds.ArrayPattern = kind.ArrayPattern
kind_number kinds.Let = kind.Let
kind_number kinds.Block = kind.Block
kind_number kinds.Left = kind.Left
kind_number kinds.Right = kind.Right
kind_number kinds.Some = kind.Some
kind_number kinds.None = kind.None
kind_number kinds.Boolean = kind.Boolean
kind_number kinds.Decimal = kind.Decimal
kind_number kinds.Hexadecimal = kind.Hexadecimal
kind_number kinds.Binary = kind.Binary
kind_number kinds.Witness = kind.Witness
kind_number kinds.ParameterValue = kind.ParameterValue
kind_number kinds.Variable = kind.Variable
kind_number kinds.Parenthesised = kind.Parenthesised
kind_number kinds.Tuple = kind.Tuple
kind_number kinds.Array = kind.Array
kind_number kinds.List = kind.List
kind_number kinds.EnumConstruction = kind.EnumConstruction
kind_number kinds.Match = kind.Match
kind_number kinds.EnumMatch = kind.EnumMatch
kind_number kinds.BuiltinArm = kind.BuiltinArm
kind_number kinds.EnumArm = kind.EnumArm
kind_number kinds.Call = kind.Call
kind_number kinds.Number = kind.Number
kind_number kinds.Program = kind.Program
kind_number kinds.TypeItem = kind.TypeItem

-- The kind of this number, or the number itself where no kind has it.
abbrev pub NamesKind : ℕ → Result Kind NoKind → Type 0
NamesKind n r = MatchResult r (λ k. kind_number k ≡ n) (λ e. (e.0 ≡ n) × ((k : Kind) → kind_number k ≢ n))

abbrev pub call_number : CallName → ℕ
call_number calls.Jet = call.Jet
call_number calls.UnwrapLeft = call.UnwrapLeft
call_number calls.UnwrapRight = call.UnwrapRight
call_number calls.Unwrap = call.Unwrap
call_number calls.IsNone = call.IsNone
call_number calls.Assert = call.Assert
call_number calls.Panic = call.Panic
call_number calls.Debug = call.Debug
call_number calls.TypeCast = call.TypeCast
call_number calls.Custom = call.Custom
call_number calls.Fold = call.Fold
call_number calls.ArrayFold = call.ArrayFold
call_number calls.ForWhile = call.ForWhile
call_number calls.RawHash = call.RawHash

abbrev pub arm_number : MatchPattern → ℕ
arm_number arms.Left = arm.Left
arm_number arms.Right = arm.Right
arm_number arms.None = arm.None
arm_number arms.Some = arm.Some
arm_number arms.False = arm.False
arm_number arms.True = arm.True
