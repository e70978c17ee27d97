-- Records that spell the rule of their kind and records that spell none, by one computation.
-- Assumes nothing.
use Rattle.std.specs.Prelude.{Bool, true, ◌&&◌, ◌||◌, not, List, [], ◌∷◌, ◌++◌, ◌≡◌, refl, ℕ, suc, eqb}
use Rattle.text.specs.Lists.{all, has, span}
use Rattle.own.specs.Law.{Sort, word, child}
use Rattle.own.specs.Kinds as kind
use Rattle.own.specs.Arms as arm
use Rattle.own.specs.Calls as call
use Rattle.lexer.specs.Classes as t
use Rattle.kinds.specs.SpelledTest.{spelled}

-- A record by its kind, low, high and pieces.
record Case : Type 0 where
  kind : ℕ
  low : ℕ
  high : ℕ
  pieces : List Sort

abbrev case : ℕ → ℕ → ℕ → List Sort → Case
case k l h w = record { kind = k; low = l; high = h; pieces = w }

-- A child of a kind; a name whose token is of a class; a built-in arm.
abbrev kid : ℕ → Sort
kid k = child k 0 0 0

abbrev named : ℕ → Sort
named c = child kind.Name 0 0 c

abbrev armed : ℕ → Sort
armed n = child kind.BuiltinArm n 0 0

-- `(e)` after what stands before it, and `::<..>` before that.
abbrev args : List Sort
args = word t.LParen ∷ kid kind.Decimal ∷ word t.RParen ∷ []

abbrev turbofish : ℕ → List Sort → List Sort
turbofish c w = word c ∷ word t.DoubleColon ∷ word t.LAngle ∷ (w ++ (word t.RAngle ∷ args))

-- `(p: T) => e,` and `=> {}`
abbrev bound : List Sort
bound = word t.LParen ∷ kid kind.IdentifierPattern ∷ word t.Colon ∷ kid kind.Alias ∷ word t.RParen ∷ word t.FatArrow ∷ kid kind.Decimal ∷ word t.Comma ∷ []

abbrev to_block : List Sort
to_block = word t.FatArrow ∷ kid kind.Block ∷ []

abbrev good : List Case
good =
    -- fn f() {}   pub fn f(a: T) {}   fn f() -> T {}   pub fn f(a: T, b: T,) -> T {}
    case kind.Function 0 0 (word t.Fn ∷ named t.Ident ∷ word t.LParen ∷ word t.RParen ∷ kid kind.Block ∷ [])
    ∷ case kind.Function 1 1 (word t.Pub ∷ word t.Fn ∷ named t.Ident ∷ word t.LParen ∷ kid kind.Parameter ∷ word t.RParen ∷ kid kind.Block ∷ [])
    ∷ case kind.Function 2 0 (word t.Fn ∷ named t.None ∷ word t.LParen ∷ word t.RParen ∷ word t.Arrow ∷ kid kind.Alias ∷ kid kind.Block ∷ [])
    ∷ case kind.Function 3 2 (word t.Pub ∷ word t.Fn ∷ named t.Left ∷ word t.LParen ∷ kid kind.Parameter ∷ word t.Comma ∷ kid kind.Parameter ∷ word t.Comma ∷ word t.RParen ∷ word t.Arrow ∷ kid kind.Alias ∷ kid kind.Block ∷ [])
    -- fold   jet::x   a: T
    ∷ case kind.Name 0 0 (word t.fold ∷ [])
    ∷ case kind.Name 0 0 (word t.Jet ∷ [])
    ∷ case kind.Parameter 0 0 (named t.fold ∷ word t.Colon ∷ kid kind.Alias ∷ [])
    -- List   TokenAmount1   bool   u256   Either<A, B>   Option<A>   (A,)   [A; 0]   List<A, 4>   List<A, 2^63>
    ∷ case kind.Alias 0 0 (word t.List ∷ [])
    ∷ case kind.Builtin 23 0 (word t.TokenAmount1 ∷ [])
    ∷ case kind.BoolType 0 0 (word t.bool ∷ [])
    ∷ case kind.Unsigned 256 0 (word t.u256 ∷ [])
    ∷ case kind.EitherType 0 0 (word t.Either ∷ word t.LAngle ∷ kid kind.Alias ∷ word t.Comma ∷ kid kind.EitherType ∷ word t.RAngle ∷ [])
    ∷ case kind.OptionType 0 0 (word t.Option ∷ word t.LAngle ∷ kid kind.ListType ∷ word t.RAngle ∷ [])
    ∷ case kind.TupleType 0 0 (word t.LParen ∷ kid kind.Alias ∷ word t.Comma ∷ word t.RParen ∷ [])
    ∷ case kind.ArrayType 0 0 (word t.LBracket ∷ kid kind.Alias ∷ word t.Semi ∷ word t.DecLiteral ∷ word t.RBracket ∷ [])
    ∷ case kind.ListType 4 0 (word t.List ∷ word t.LAngle ∷ kid kind.Alias ∷ word t.Comma ∷ word t.DecLiteral ∷ word t.RAngle ∷ [])
    ∷ case kind.ListType 0 2147483648 (word t.List ∷ word t.LAngle ∷ kid kind.Alias ∷ word t.Comma ∷ word t.DecLiteral ∷ word t.RAngle ∷ [])
    -- a   _   ()   [p, q]   let p: T = e
    ∷ case kind.IdentifierPattern 0 0 (word t.Right ∷ [])
    ∷ case kind.IgnorePattern 0 0 (word t.Ident ∷ [])
    ∷ case kind.TuplePattern 0 0 (word t.LParen ∷ word t.RParen ∷ [])
    ∷ case kind.ArrayPattern 0 0 (word t.LBracket ∷ kid kind.IdentifierPattern ∷ word t.Comma ∷ kid kind.TuplePattern ∷ word t.RBracket ∷ [])
    ∷ case kind.Let 0 0 (word t.Let ∷ kid kind.IdentifierPattern ∷ word t.Colon ∷ kid kind.Alias ∷ word t.Eq ∷ kid kind.Call ∷ [])
    -- {let p: T = e; e; e}   {e;}   {}
    ∷ case kind.Block 1 0 (word t.LBrace ∷ kid kind.Let ∷ word t.Semi ∷ kid kind.Variable ∷ word t.Semi ∷ kid kind.Decimal ∷ word t.RBrace ∷ [])
    ∷ case kind.Block 0 0 (word t.LBrace ∷ kid kind.Decimal ∷ word t.Semi ∷ word t.RBrace ∷ [])
    ∷ case kind.Block 0 0 (word t.LBrace ∷ word t.RBrace ∷ [])
    -- Left(e)   Right(e)   Some(e)   None   false   true   1   0x1   0b1   witness::x   param::x   fold
    ∷ case kind.Left 0 0 (word t.Left ∷ args)
    ∷ case kind.Right 0 0 (word t.Right ∷ args)
    ∷ case kind.Some 0 0 (word t.Some ∷ args)
    ∷ case kind.None 0 0 (word t.None ∷ [])
    ∷ case kind.Boolean 0 0 (word t.false ∷ [])
    ∷ case kind.Boolean 1 0 (word t.true ∷ [])
    ∷ case kind.Decimal 0 0 (word t.DecLiteral ∷ [])
    ∷ case kind.Hexadecimal 0 0 (word t.HexLiteral ∷ [])
    ∷ case kind.Binary 0 0 (word t.BinLiteral ∷ [])
    ∷ case kind.Witness 0 0 (word t.Witness ∷ [])
    ∷ case kind.ParameterValue 0 0 (word t.Param ∷ [])
    ∷ case kind.Variable 0 0 (word t.fold ∷ [])
    -- (e)   (e,)   ()   (e, e)   [e,]   list![e]
    ∷ case kind.Parenthesised 0 0 args
    ∷ case kind.Tuple 0 0 (word t.LParen ∷ kid kind.Decimal ∷ word t.Comma ∷ word t.RParen ∷ [])
    ∷ case kind.Tuple 0 0 (word t.LParen ∷ word t.RParen ∷ [])
    ∷ case kind.Tuple 0 0 (word t.LParen ∷ kid kind.Decimal ∷ word t.Comma ∷ kid kind.Block ∷ word t.RParen ∷ [])
    ∷ case kind.Array 0 0 (word t.LBracket ∷ kid kind.Decimal ∷ word t.Comma ∷ word t.RBracket ∷ [])
    ∷ case kind.List 0 0 (word t.list! ∷ word t.LBracket ∷ kid kind.Decimal ∷ word t.RBracket ∷ [])
    -- A::None   A::B()   A::B::C(e)
    ∷ case kind.EnumConstruction 2 0 (named t.Ident ∷ word t.DoubleColon ∷ named t.None ∷ [])
    ∷ case kind.EnumConstruction 2 0 (named t.Ident ∷ word t.DoubleColon ∷ named t.Ident ∷ word t.LParen ∷ word t.RParen ∷ [])
    ∷ case kind.EnumConstruction 3 0 (named t.Ident ∷ word t.DoubleColon ∷ named t.Ident ∷ word t.DoubleColon ∷ named t.Ident ∷ args)
    -- match e {true .. false ..}   match e {A::B ..}
    ∷ case kind.Match 0 0 (word t.Match ∷ kid kind.Variable ∷ word t.LBrace ∷ armed arm.True ∷ armed arm.False ∷ word t.RBrace ∷ [])
    ∷ case kind.Match 0 0 (word t.Match ∷ kid kind.Variable ∷ word t.LBrace ∷ armed arm.Left ∷ armed arm.Right ∷ word t.RBrace ∷ [])
    ∷ case kind.EnumMatch 0 0 (word t.Match ∷ kid kind.Variable ∷ word t.LBrace ∷ kid kind.EnumArm ∷ word t.RBrace ∷ [])
    -- Left(p: T) => e,   and kin; None => {}   true => e,
    ∷ case kind.BuiltinArm arm.Left 0 (word t.Left ∷ bound)
    ∷ case kind.BuiltinArm arm.Right 0 (word t.Right ∷ bound)
    ∷ case kind.BuiltinArm arm.None 0 (word t.None ∷ to_block)
    ∷ case kind.BuiltinArm arm.Some 0 (word t.Some ∷ bound)
    ∷ case kind.BuiltinArm arm.False 0 (word t.false ∷ to_block)
    ∷ case kind.BuiltinArm arm.True 0 (word t.true ∷ word t.FatArrow ∷ kid kind.Decimal ∷ word t.Comma ∷ [])
    -- A::B => {}   A::B(p: T) => e,
    ∷ case kind.EnumArm 2 0 (named t.Ident ∷ word t.DoubleColon ∷ named t.Ident ∷ to_block)
    ∷ case kind.EnumArm 2 1 (named t.Left ∷ word t.DoubleColon ∷ named t.Ident ∷ bound)
    -- the fourteen calls, and `Left(e,)`
    ∷ case kind.Call call.Jet 0 (named t.Jet ∷ args)
    ∷ case kind.Call call.UnwrapLeft 0 (turbofish t.unwrap_left (kid kind.Alias ∷ []))
    ∷ case kind.Call call.UnwrapRight 0 (turbofish t.unwrap_right (kid kind.Alias ∷ []))
    ∷ case kind.Call call.Unwrap 0 (word t.unwrap ∷ args)
    ∷ case kind.Call call.IsNone 0 (turbofish t.is_none (kid kind.Alias ∷ []))
    ∷ case kind.Call call.Assert 0 (word t.assert! ∷ args)
    ∷ case kind.Call call.Panic 0 (word t.panic! ∷ word t.LParen ∷ word t.RParen ∷ [])
    ∷ case kind.Call call.Debug 0 (word t.dbg! ∷ args)
    ∷ case kind.Call call.TypeCast 0 (word t.LAngle ∷ kid kind.Alias ∷ word t.RAngle ∷ word t.DoubleColon ∷ word t.into ∷ args)
    ∷ case kind.Call call.Custom 0 (named t.Ident ∷ args)
    ∷ case kind.Call call.Custom 0 (named t.Left ∷ word t.LParen ∷ kid kind.Decimal ∷ word t.Comma ∷ word t.RParen ∷ [])
    ∷ case kind.Call call.Fold 0 (turbofish t.fold (named t.None ∷ word t.Comma ∷ child kind.Number 2 0 t.DecLiteral ∷ []))
    ∷ case kind.Call call.ArrayFold 0 (turbofish t.array_fold (named t.Ident ∷ word t.Comma ∷ child kind.Number 1 0 t.DecLiteral ∷ []))
    ∷ case kind.Call call.ForWhile 0 (turbofish t.for_while (named t.Ident ∷ []))
    ∷ case kind.Call call.RawHash 0 (turbofish t.raw_hash (kid kind.Unsigned ∷ []))
    ∷ case kind.Number 2 0 (word t.DecLiteral ∷ [])
    -- type A = T;   type fold = T;
    ∷ case kind.TypeItem 0 0 (word t.«Type» ∷ named t.Ident ∷ word t.Eq ∷ kid kind.Alias ∷ word t.Semi ∷ [])
    ∷ case kind.TypeItem 0 0 (word t.«Type» ∷ named t.fold ∷ word t.Eq ∷ kid kind.TupleType ∷ word t.Semi ∷ [])
    ∷ []

abbrev bad : List Case
bad =
    -- a Left that owns `Right`; a list that owns `assert!`
    case kind.Left 0 0 (word t.Right ∷ args)
    ∷ case kind.List 0 0 (word t.assert! ∷ word t.LBracket ∷ kid kind.Decimal ∷ word t.RBracket ∷ [])
    -- a built-in arm with a wrong low
    ∷ case kind.BuiltinArm arm.Some 0 (word t.None ∷ word t.FatArrow ∷ kid kind.Decimal ∷ word t.Comma ∷ [])
    ∷ case kind.BuiltinArm 7 0 (word t.None ∷ word t.FatArrow ∷ kid kind.Decimal ∷ word t.Comma ∷ [])
    -- an arm whose comma is missing after an expression that is no block
    ∷ case kind.BuiltinArm arm.None 0 (word t.None ∷ word t.FatArrow ∷ kid kind.Decimal ∷ [])
    -- a function with a wrong count of parameters, a wrong low, a reserved name
    ∷ case kind.Function 0 1 (word t.Fn ∷ named t.Ident ∷ word t.LParen ∷ word t.RParen ∷ kid kind.Block ∷ [])
    ∷ case kind.Function 2 0 (word t.Fn ∷ named t.Ident ∷ word t.LParen ∷ word t.RParen ∷ kid kind.Block ∷ [])
    ∷ case kind.Function 4 0 (word t.Fn ∷ named t.Ident ∷ word t.LParen ∷ word t.RParen ∷ kid kind.Block ∷ [])
    ∷ case kind.Function 0 0 (word t.Fn ∷ named t.fold ∷ word t.LParen ∷ word t.RParen ∷ kid kind.Block ∷ [])
    -- a block whose low does not say whether the last expression stands without `;`; a let without it
    ∷ case kind.Block 0 0 (word t.LBrace ∷ kid kind.Decimal ∷ word t.RBrace ∷ [])
    ∷ case kind.Block 1 0 (word t.LBrace ∷ kid kind.Decimal ∷ word t.Semi ∷ word t.RBrace ∷ [])
    ∷ case kind.Block 1 0 (word t.LBrace ∷ kid kind.Let ∷ word t.RBrace ∷ [])
    -- an enum construction or an enum arm with a wrong count of names or pairs
    ∷ case kind.EnumConstruction 3 0 (named t.Ident ∷ word t.DoubleColon ∷ named t.Ident ∷ [])
    ∷ case kind.EnumConstruction 1 0 (named t.Ident ∷ [])
    ∷ case kind.EnumArm 2 0 (named t.Ident ∷ word t.DoubleColon ∷ named t.Ident ∷ bound)
    ∷ case kind.EnumArm 2 0 (named t.Ident ∷ word t.DoubleColon ∷ named t.Ident ∷ word t.LParen ∷ word t.RParen ∷ word t.FatArrow ∷ kid kind.Block ∷ [])
    -- a call with a wrong low: a jet called as a function, a function as a jet, `unwrap` with the number of `is_none`
    ∷ case kind.Call call.Custom 0 (named t.Jet ∷ args)
    ∷ case kind.Call call.Jet 0 (named t.Ident ∷ args)
    ∷ case kind.Call call.IsNone 0 (word t.unwrap ∷ args)
    -- `Left(e)` and `None(e)` as calls
    ∷ case kind.Call call.Custom 0 (named t.Left ∷ args)
    ∷ case kind.Call call.Custom 0 (named t.None ∷ args)
    -- `(e)` as a tuple, `(e,)` as parenthesised; a comma too many in an array
    ∷ case kind.Tuple 0 0 (word t.LParen ∷ kid kind.Decimal ∷ word t.RParen ∷ [])
    ∷ case kind.Parenthesised 0 0 (word t.LParen ∷ kid kind.Decimal ∷ word t.Comma ∷ word t.RParen ∷ [])
    ∷ case kind.Array 0 0 (word t.LBracket ∷ kid kind.Decimal ∷ word t.Comma ∷ word t.Comma ∷ word t.RBracket ∷ [])
    -- numbers and indices: a bound 3, a bound 1, an array fold of 0, `u3`, a builtin 24, `true` with low 0
    ∷ case kind.ListType 3 0 (word t.List ∷ word t.LAngle ∷ kid kind.Alias ∷ word t.Comma ∷ word t.DecLiteral ∷ word t.RAngle ∷ [])
    ∷ case kind.ListType 1 0 (word t.List ∷ word t.LAngle ∷ kid kind.Alias ∷ word t.Comma ∷ word t.DecLiteral ∷ word t.RAngle ∷ [])
    ∷ case kind.Call call.ArrayFold 0 (turbofish t.array_fold (named t.Ident ∷ word t.Comma ∷ child kind.Number 0 0 t.DecLiteral ∷ []))
    ∷ case kind.Unsigned 3 0 (word t.u2 ∷ [])
    ∷ case kind.Builtin 24 0 (word t.TokenAmount1 ∷ [])
    ∷ case kind.Boolean 0 0 (word t.true ∷ [])
    -- arms that are no partners, one arm, a match with both sorts of arm
    ∷ case kind.Match 0 0 (word t.Match ∷ kid kind.Variable ∷ word t.LBrace ∷ armed arm.None ∷ armed arm.True ∷ word t.RBrace ∷ [])
    ∷ case kind.Match 0 0 (word t.Match ∷ kid kind.Variable ∷ word t.LBrace ∷ armed arm.True ∷ word t.RBrace ∷ [])
    ∷ case kind.EnumMatch 0 0 (word t.Match ∷ kid kind.Variable ∷ word t.LBrace ∷ kid kind.EnumArm ∷ armed arm.False ∷ word t.RBrace ∷ [])
    ∷ case kind.EnumMatch 0 0 (word t.Match ∷ kid kind.Variable ∷ word t.LBrace ∷ word t.RBrace ∷ [])
    -- a built-in type and an alias by another name
    ∷ case kind.Builtin 0 0 (word t.Ident ∷ [])
    ∷ case kind.Alias 0 0 (word t.Nonce ∷ [])
    -- a type item with a reserved name, with `:` for `=`, without `;`; a program is no form of these
    ∷ case kind.TypeItem 0 0 (word t.«Type» ∷ named t.u8 ∷ word t.Eq ∷ kid kind.Alias ∷ word t.Semi ∷ [])
    ∷ case kind.TypeItem 0 0 (word t.«Type» ∷ named t.List ∷ word t.Eq ∷ kid kind.Alias ∷ word t.Semi ∷ [])
    ∷ case kind.TypeItem 0 0 (word t.«Type» ∷ named t.Ident ∷ word t.Colon ∷ kid kind.Alias ∷ word t.Semi ∷ [])
    ∷ case kind.TypeItem 0 0 (word t.«Type» ∷ named t.Ident ∷ word t.Eq ∷ kid kind.Alias ∷ [])
    ∷ case kind.Program 0 0 (kid kind.Function ∷ [])
    -- no such kind
    ∷ case 0 0 0 []
    ∷ case (suc kind.Last) 0 0 []
    ∷ []

abbrev right : Case → Bool
right c = spelled c.kind c.low c.high c.pieces

-- With any other low from 0 to 16, or any other high from 0 to 4, the same pieces spell no rule; numbers and indices aside.
abbrev only_so : Case → Bool
only_so c =
    has (kind.Builtin ∷ kind.Unsigned ∷ kind.ArrayType ∷ kind.ListType ∷ kind.Number ∷ []) c.kind
    || all (λ l. all (λ h. eqb l c.low && eqb h c.high || not (spelled c.kind l h c.pieces)) (span 0 4)) (span 0 16)

-- All of the first list spell the rule, with this low and high only, and none of the second does.
pub examples : (all right good && all only_so good && all (λ c. not (right c)) bad) ≡ true
unfolding all spelled
examples = refl
