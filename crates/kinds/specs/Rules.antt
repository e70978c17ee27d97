-- The kinds table of document 01 as data, with the kinds of document 02, order 3: for each kind the forms that a record of it may have, with what low
-- and high hold. Written from "Well-shaped drafts" and "Records and the marks they own"; the row of the table stands above each form.
-- Assumes nothing.
use mathlib.Core.List.{List, [], ◌∷◌, ◌++◌, foldr, map}
use Rattle.std.specs.Prelude.{ℕ, ◌^◌}
use Rattle.text.specs.Lists.{span}
use Rattle.own.specs.Kinds as kind
use Rattle.own.specs.Calls as call
use Rattle.own.specs.Arms as arm
use Rattle.lexer.specs.Classes as t
use Rattle.kinds.specs.Fields.{Fields, plain, low, among, wide, bounded, parameters, names, pairs}
use Rattle.kinds.specs.Shape.{of, name, arm, bound, size, Shape, nothing, never, mark, part, ◌▸◌, ◌¦◌, many}
use Rattle.kinds.specs.Families as family

-- Function names that are wrappers with one expression in parentheses and no comma.
abbrev pub wrappers : List ℕ
wrappers = t.Left ∷ t.Right ∷ t.Some ∷ []

-- One token of this class; nothing or a.
abbrev pub the : ℕ → Shape
the c = mark (c ∷ [])

abbrev pub optional : Shape → Shape
optional a = nothing ¦ a

-- A child of a family of kinds, or a name of a family of classes.
abbrev pub type : Shape
type = part (of family.types)

abbrev pub pattern : Shape
pattern = part (of family.patterns)

abbrev pub expression : Shape
expression = part (of family.expressions)

abbrev pub block : Shape
block = part (of family.blocks)

abbrev pub single : Shape
single = part (of family.singles)

abbrev pub element : Shape
element = part (of family.elements)

abbrev pub parameter : Shape
parameter = part (of (kind.Parameter ∷ []))

abbrev pub enum_arm : Shape
enum_arm = part (of (kind.EnumArm ∷ []))

abbrev pub identifier : Shape
identifier = part (name t.identifiers)

abbrev pub function_name : Shape
function_name = part (name t.function_names)

abbrev pub alias_name : Shape
alias_name = part (name t.alias_names)

-- An item of a file: a function or a type item.
abbrev pub item : Shape
item = part (of family.items)

-- At least one, with commas between; the list may end in a comma.
abbrev pub some : Shape → Shape
some a = a ▸ many (the t.Comma ▸ a) ▸ optional (the t.Comma)

-- "Lists may be empty and may end in a comma".
abbrev pub list : Shape → Shape
list a = optional (some a)

-- A list that is not one item without a comma: empty, or an item, a comma and a list.
abbrev pub comma_list : Shape → Shape
comma_list a = optional (a ▸ the t.Comma ▸ list a)

-- In `( )`, `[ ]`, `{ }`, `< >`.
abbrev pub parens : Shape → Shape
parens a = the t.LParen ▸ a ▸ the t.RParen

abbrev pub brackets : Shape → Shape
brackets a = the t.LBracket ▸ a ▸ the t.RBracket

abbrev pub braces : Shape → Shape
braces a = the t.LBrace ▸ a ▸ the t.RBrace

abbrev pub angles : Shape → Shape
angles a = the t.LAngle ▸ a ▸ the t.RAngle

-- Two or more names joined by `::`; a pattern with its type.
abbrev pub path : Shape
path = identifier ▸ the t.DoubleColon ▸ identifier ▸ many (the t.DoubleColon ▸ identifier)

abbrev pub typed : Shape
typed = pattern ▸ the t.Colon ▸ type

-- The end of an arm: "the fat arrow, an expression, and a comma; only after a block may the comma be missing".
abbrev pub body : Shape
body = the t.FatArrow ▸ (block ▸ optional (the t.Comma) ¦ single ▸ the t.Comma)

-- Two built-in arms in either order; two that are partners.
abbrev pub arms : ℕ → ℕ → Shape
arms a b = part (arm a) ▸ part (arm b) ¦ part (arm b) ▸ part (arm a)

abbrev pub partners : Shape
partners = foldr (λ p s. arms p.0 p.1 ¦ s) never arm.partners

pub record Form : Type 0 where
  pub kind : ℕ
  pub fields : Fields
  pub shape : Shape

abbrev pub form : ℕ → Fields → Shape → Form
form k f s = record { kind = k; fields = f; shape = s }

-- A function with low 0 to 3: `pub` adds 1 and a result type 2.
abbrev pub function : ℕ → Shape → Shape → Form
function n public result = form kind.Function (parameters n) (public ▸ the t.Fn ▸ function_name ▸ parens (list parameter) ▸ result ▸ block)

-- A built-in arm with `(p: T)` after its word, and one that is its word alone.
abbrev pub arm_with : ℕ → ℕ → Form
arm_with n c = form kind.BuiltinArm (low n) (the c ▸ parens typed ▸ body)

abbrev pub arm_of : ℕ → ℕ → Form
arm_of n c = form kind.BuiltinArm (low n) (the c ▸ body)

-- A call by what stands before its argument list, and `::<..>` after a word.
abbrev pub call_of : ℕ → Shape → Form
call_of n before = form kind.Call (low n) (before ▸ parens (list expression))

abbrev pub generic : ℕ → Shape → Shape
generic c a = the c ▸ the t.DoubleColon ▸ angles a

-- The kinds table.
unfoldable pub forms : List Form
forms =
    -- 1 function: low 1 for pub, plus 2 for a result type; high parameters. Name, parameters, type, block; `pub fn ( )`, thin arrow
    function 0 nothing nothing
    ∷ function 1 (the t.Pub) nothing
    ∷ function 2 nothing (the t.Arrow ▸ type)
    ∷ function 3 (the t.Pub) (the t.Arrow ▸ type)
    -- 2 name: its token; in a call also a jet's
    ∷ form kind.Name plain (mark (t.Jet ∷ t.identifiers))
    -- 3 parameter: name, type; `:`
    ∷ form kind.Parameter plain (identifier ▸ the t.Colon ▸ type)
    -- 4 alias; 5 builtin (low 0-23 in `BuiltinAlias` order); 6 bool; 7 unsigned (`u1` to `u256`, powers of two only; low bits): token
    ∷ form kind.Alias plain (mark (t.Either ∷ t.Option ∷ t.List ∷ t.alias_names))
    ∷ form kind.Builtin (among (span 0 23)) (mark t.builtin_types)
    ∷ form kind.BoolType plain (the t.bool)
    ∷ form kind.Unsigned (among (map (λ i. 2 ^ i) (span 0 8))) (mark t.unsigned_types)
    -- 8 Either, 9 Option: types; all other tokens
    ∷ form kind.EitherType plain (the t.Either ▸ angles (type ▸ the t.Comma ▸ type))
    ∷ form kind.OptionType plain (the t.Option ▸ angles type)
    -- 10 tuple type: types; `( )`
    ∷ form kind.TupleType plain (parens (list type))
    -- 11 array type, 12 list type: number; type; all other tokens
    ∷ form kind.ArrayType wide (brackets (type ▸ the t.Semi ▸ the t.DecLiteral))
    ∷ form kind.ListType bounded (the t.List ▸ angles (type ▸ the t.Comma ▸ the t.DecLiteral))
    -- 13 identifier pattern, 14 `_`: token
    ∷ form kind.IdentifierPattern plain (mark t.identifiers)
    ∷ form kind.IgnorePattern plain (the t.Ident)
    -- 15 tuple, 16 array pattern: patterns; brackets
    ∷ form kind.TuplePattern plain (parens (list pattern))
    ∷ form kind.ArrayPattern plain (brackets (list pattern))
    -- 17 let: pattern, type, expression; `let : =`
    ∷ form kind.Let plain (the t.Let ▸ typed ▸ the t.Eq ▸ expression)
    -- 18 block: low 1 with a last expression; `{ }` and every `;`
    ∷ form kind.Block (low 0) (braces (many (element ▸ the t.Semi)))
    ∷ form kind.Block (low 1) (braces (many (element ▸ the t.Semi) ▸ expression))
    -- 19 Left, 20 Right, 21 Some: expression; word, `( )`
    ∷ form kind.Left plain (the t.Left ▸ parens expression)
    ∷ form kind.Right plain (the t.Right ▸ parens expression)
    ∷ form kind.Some plain (the t.Some ▸ parens expression)
    -- 22 None, 23 boolean (low 0 or 1), 24 decimal, 25 hexadecimal, 26 binary, 27 witness, 28 parameter value, 29 variable (no `None`): token
    ∷ form kind.None plain (the t.None)
    ∷ form kind.Boolean (low 0) (the t.false)
    ∷ form kind.Boolean (low 1) (the t.true)
    ∷ form kind.Decimal plain (the t.DecLiteral)
    ∷ form kind.Hexadecimal plain (the t.HexLiteral)
    ∷ form kind.Binary plain (the t.BinLiteral)
    ∷ form kind.Witness plain (the t.Witness)
    ∷ form kind.ParameterValue plain (the t.Param)
    ∷ form kind.Variable plain (mark (t.Ident ∷ t.Left ∷ t.Right ∷ t.Some ∷ t.Either ∷ t.Option ∷ t.List ∷ t.type_names ++ t.reserved))
    -- 30 parenthesised, 31 tuple, 32 array, 33 list: expressions; brackets, `list!`
    ∷ form kind.Parenthesised plain (parens expression)
    ∷ form kind.Tuple plain (parens (comma_list expression))
    ∷ form kind.Array plain (brackets (list expression))
    ∷ form kind.List plain (the t.list! ▸ brackets (list expression))
    -- 34 enum construction: low names; names, arguments; `::`, `( )` if written
    ∷ form kind.EnumConstruction names (path ▸ optional (parens (list expression)))
    -- 35 match, 36 enum match: expression, arms; `match { }`
    ∷ form kind.Match plain (the t.Match ▸ expression ▸ braces partners)
    ∷ form kind.EnumMatch plain (the t.Match ▸ expression ▸ braces (enum_arm ▸ many enum_arm))
    -- 37 built-in arm: low 1-6: Left, Right, None, Some, False, True; pattern and type if any, expression; the rest
    ∷ arm_with arm.Left t.Left
    ∷ arm_with arm.Right t.Right
    ∷ arm_of arm.None t.None
    ∷ arm_with arm.Some t.Some
    ∷ arm_of arm.False t.false
    ∷ arm_of arm.True t.true
    -- 38 enum arm: low names, high pairs; names, patterns with types, expression; the rest
    ∷ form kind.EnumArm pairs (path ▸ optional (parens (some typed)) ▸ body)
    -- 39 call: low 1-14 in `CallName` order; type or name, kind 40, arguments; the rest
    ∷ call_of call.Jet (part (name (t.Jet ∷ [])))
    ∷ call_of call.UnwrapLeft (generic t.unwrap_left type)
    ∷ call_of call.UnwrapRight (generic t.unwrap_right type)
    ∷ call_of call.Unwrap (the t.unwrap)
    ∷ call_of call.IsNone (generic t.is_none type)
    ∷ call_of call.Assert (the t.assert!)
    ∷ call_of call.Panic (the t.panic!)
    ∷ call_of call.Debug (the t.dbg!)
    ∷ call_of call.TypeCast (angles type ▸ the t.DoubleColon ▸ the t.into)
    -- a function name, called with any list; a wrapper's, with any that is not one expression without a comma; `None` is not called
    ∷ call_of call.Custom (part (name (t.Ident ∷ t.Either ∷ t.Option ∷ t.List ∷ t.type_names)))
    ∷ form kind.Call (low call.Custom) (part (name wrappers) ▸ parens (comma_list expression))
    ∷ call_of call.Fold (generic t.fold (function_name ▸ the t.Comma ▸ part bound))
    ∷ call_of call.ArrayFold (generic t.array_fold (function_name ▸ the t.Comma ▸ part size))
    ∷ call_of call.ForWhile (generic t.for_while function_name)
    ∷ call_of call.RawHash (generic t.raw_hash type)
    -- 40 number: number; token
    ∷ form kind.Number wide (the t.DecLiteral)
    -- 42 type item: "a name and a type, owning `type = ;`"
    ∷ form kind.TypeItem plain (the t.«Type» ▸ alias_name ▸ the t.Eq ▸ type ▸ the t.Semi)
    ∷ []

-- 41 program: "the items as children; it owns nothing".
abbrev pub program : Shape
program = many item

-- The forms of every kind. That of a program is none of those above, since it has no mark of its own.
unfoldable pub all_forms : List Form
all_forms = form kind.Program plain program ∷ forms
