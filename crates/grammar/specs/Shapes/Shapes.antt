-- The shapes of a draft, one row a shape: document 01, "Well-shaped drafts", and document 02, order 3, as a grammar of expressions over the classes of tokens.
-- Each row stands under its sentence. Where a kind of record is decided late the shape is coarse: one for all that begins with a
-- name, one for all in parentheses, one for a match.
-- Assumes nothing.
use Rattle.std.specs.Prelude.{cond, List, [], ◌∷◌, ◌++◌, map, ℕ, suc, eqb}
use Rattle.theory.specs.Ebnf.{Ex, eps, mark, child, many, Ebnf}
use Rattle.own.specs.Kinds as kind
use Rattle.text.specs.Lists.{has}
use Rattle.lexer.specs.Classes as t
use Rattle.grammar.specs.Shapes.Categories.{function, parameter, type, pattern, block, assignment, single, arm, type_item, elements, arguments, path, head_path, pair, file}
use Rattle.grammar.specs.Shapes.Notation.{◌⨾◌, ◌¦◌, optional, one_of, ◌but◌, commas, commas1, round, square, curly, angle}
use Rattle.grammar.specs.Shapes.Row.{Row, shape, always, numbered, angled, lonely, aFunction, aTypeName, aPatternName, aBlock, aLiteral, aMatch, aName, anArm, never, byBound, byLength, byFold, byArms}

-- "an identifier is any name token"
abbrev pub identifier : Ex
identifier = one_of t.identifiers

-- "a function name is any not in `FUNCTION_RESERVED`"
abbrev pub function_name : Ex
function_name = one_of t.function_names

-- "A type's own name may not be in `ALIAS_RESERVED`."
abbrev pub alias_name : Ex
alias_name = one_of t.alias_names

-- the names of types: any that no rule of types speaks of
abbrev pub named_type : Ex
named_type = one_of (t.identifiers but (t.Either ∷ t.Option ∷ t.List ∷ []))

-- "booleans, digits, witnesses, parameters"
abbrev pub literal : Ex
literal = one_of (t.false ∷ t.true ∷ t.DecLiteral ∷ t.HexLiteral ∷ t.BinLiteral ∷ t.Witness ∷ t.Param ∷ [])

-- a name that is no built-in head and so begins an enum path
abbrev pub other_name : Ex
other_name = one_of (t.identifiers but (t.None ∷ t.Left ∷ t.Right ∷ t.Some ∷ []))

-- "An expression may hold a block, a block statements, and a statement an expression again."
abbrev pub expression : Ex
expression = child block ¦ child single

-- "Arm heads: `Left(p: T)` and kin (no closing comma), `None`, `true`, `false`, or an enum path"
abbrev pub head : Ex
head = one_of (t.false ∷ t.true ∷ []) ¦ mark t.None ⨾ optional head_path ¦ one_of (t.Left ∷ t.Right ∷ t.Some ∷ []) ⨾ (round pair ¦ head_path) ¦ other_name ⨾ head_path

abbrev pub rows : List Row
rows =
    -- "Function: optional `pub`, `fn`, function name, `(` identifier `:` type, … `)`, optional thin arrow [..] with a type, a block."
    shape function aFunction never (optional (mark t.Pub) ⨾ mark t.Fn ⨾ function_name ⨾ round (commas (child parameter)) ⨾ optional (mark t.Arrow ⨾ child type) ⨾ child block)
    -- "identifier `:` type"
    ∷ shape parameter (always kind.Parameter) never (identifier ⨾ mark t.Colon ⨾ child type)
    -- "Types: `Either<A, B>`," and "`Either`, `Option` or `List` without `<` is a plain alias name"
    ∷ shape type (angled kind.EitherType) never (mark t.Either ⨾ optional (angle (child type ⨾ mark t.Comma ⨾ child type)))
    -- "`Option<A>`,
    ∷ shape type (angled kind.OptionType) never (mark t.Option ⨾ optional (angle (child type)))
    -- `List<A, n>` (no closing comma)",
    ∷ shape type (angled kind.ListType) byBound (mark t.List ⨾ optional (angle (child type ⨾ mark t.Comma ⨾ mark t.DecLiteral)))
    -- "names", of which "`_`" is one,
    ∷ shape type aTypeName never named_type
    -- "tuples,
    ∷ shape type (always kind.TupleType) never (round (commas (child type)))
    -- `[A; n]`"
    ∷ shape type (numbered kind.ArrayType) byLength (square (child type ⨾ mark t.Semi ⨾ mark t.DecLiteral))
    -- "Patterns are names,
    ∷ shape pattern aPatternName never identifier
    -- `(p, …)`
    ∷ shape pattern (always kind.TuplePattern) never (round (commas (child pattern)))
    -- and `[p, …]`"
    ∷ shape pattern (always kind.ArrayPattern) never (square (commas (child pattern)))
    -- "Block: elements, each ended by `;`. Only a last element that is an expression may go without."
    ∷ shape block aBlock never (curly elements)
    -- "`let` pattern `:` type `=` expression."
    ∷ shape assignment (always kind.Let) never (mark t.Let ⨾ child pattern ⨾ mark t.Colon ⨾ child type ⨾ mark t.Eq ⨾ expression)
    -- "booleans, digits, witnesses, parameters, [..] are expressions."
    ∷ shape single aLiteral never literal
    -- "`(e)` is parenthesised, `(e,)` and `()` tuples."
    ∷ shape single (lonely kind.Parenthesised kind.Tuple) never (round (commas expression))
    -- "`[e, …]`,
    ∷ shape single (always kind.Array) never (square (commas expression))
    -- `list![e, …]`
    ∷ shape single (always kind.List) never (mark t.list! ⨾ square (commas expression))
    -- and `match` e `{` arms `}` are expressions."
    ∷ shape single aMatch byArms (mark t.Match ⨾ expression ⨾ curly (many (child arm)))
    -- "the three macros, a jet"
    ∷ shape single aName never (one_of (t.assert! ∷ t.panic! ∷ t.dbg! ∷ t.Jet ∷ []) ⨾ arguments)
    -- "`<T>::into`"
    ∷ shape single aName never (angle (child type) ⨾ mark t.DoubleColon ⨾ mark t.into ⨾ arguments)
    -- "`unwrap`, [..] a function name; then an argument list." "`Left`, `Right`, `Some` with one expression in parentheses and no comma is
    -- that wrapper; with any other `(` it is a call of that name." "Other name tokens are variables". So, for all of these and for a path:
    ∷ shape single aName never (one_of (t.unwrap ∷ (t.function_names but (t.None ∷ []))) ⨾ optional (arguments ¦ mark t.DoubleColon ⨾ path))
    -- "`None` is itself unless `::` follows." So are the reserved names of no call, which are variables, or begin a path.
    ∷ shape single aName never (one_of (t.None ∷ t.into ∷ t.assert ∷ t.panic ∷ t.dbg ∷ []) ⨾ optional (mark t.DoubleColon ⨾ path))
    -- "`unwrap_left`, `unwrap_right`, `is_none`, `raw_hash` with `::<T>`"; each may also be a variable, or begin a path, and so below.
    ∷ shape single aName never (one_of (t.unwrap_left ∷ t.unwrap_right ∷ t.is_none ∷ t.raw_hash ∷ []) ⨾ optional (mark t.DoubleColon ⨾ (angle (child type) ⨾ arguments ¦ path)))
    -- "`fold` and `array_fold` with `::<f, decimal>`"
    ∷ shape single aName byFold (one_of (t.fold ∷ t.array_fold ∷ []) ⨾ optional (mark t.DoubleColon ⨾ (angle (function_name ⨾ mark t.Comma ⨾ mark t.DecLiteral) ⨾ arguments ¦ path)))
    -- "`for_while::<f>`, f a function name"
    ∷ shape single aName never (mark t.for_while ⨾ optional (mark t.DoubleColon ⨾ (angle function_name ⨾ arguments ¦ path)))
    -- Arms: "Then the fat arrow [..], an expression, and a comma; only after a block may the comma be missing."
    ∷ shape arm anArm never (head ⨾ mark t.FatArrow ⨾ (child block ⨾ optional (mark t.Comma) ¦ child single ⨾ mark t.Comma))
    -- "`type`, a name, `=`, a type, `;`"
    ∷ shape type_item (always kind.TypeItem) never (mark t.«Type» ⨾ alias_name ⨾ mark t.Eq ⨾ child type ⨾ mark t.Semi)
    ∷ []

-- The named parts, in the order of their names.
abbrev pub parts : List Ex
parts =
    -- a block's elements: none; a `let` with its `;`; an expression, and if `;` follows it, further elements
    (eps ¦ child assignment ⨾ mark t.Semi ⨾ elements ¦ expression ⨾ optional (mark t.Semi ⨾ elements))
    -- "Calls: [..] then an argument list."
    ∷ round (commas expression)
    -- "Two or more names joined by `::` construct an enum, with or without an argument list." What follows the first `::`:
    ∷ (identifier ⨾ many (mark t.DoubleColon ⨾ identifier) ⨾ optional arguments)
    -- "an enum path of two names or more with at least one `p: T` when parentheses stand": from its first `::` on
    ∷ (mark t.DoubleColon ⨾ identifier ⨾ many (mark t.DoubleColon ⨾ identifier) ⨾ optional (round (commas1 pair)))
    -- "`p: T`"
    ∷ (child pattern ⨾ mark t.Colon ⨾ child type)
    -- "any number of functions and of `type` items": none; one of them, and further items
    ∷ (eps ¦ child type_item ⨾ file ¦ child function ⨾ file)
    ∷ []

-- The numbers of the rows of a category, where the first row has the number n.
abbrev pub kinds_from : ℕ → List Row → ℕ → List ℕ
kinds_from n [] C = []
kinds_from n (r ∷ l) C = cond (eqb r.category C) (n ∷ []) [] ++ kinds_from (suc n) l C

-- The shapes as a grammar: the kind of a shape is the number of its row.
unfoldable pub shapes : Ebnf
unfolding has
shapes = record {
  kinds = map (kinds_from 0 rows) (function ∷ parameter ∷ type ∷ pattern ∷ block ∷ assignment ∷ single ∷ arm ∷ type_item ∷ []);
  bodies = map (λ r. r.body) rows;
  parts = parts;
}
