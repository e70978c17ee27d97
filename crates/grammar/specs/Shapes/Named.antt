-- Each name of ShapeKind.antt is the place of its row: at a token that only one shape of a category begins with, the table chooses the shape
-- of that name.
-- Assumes nothing.
use Rattle.std.specs.Prelude.{[], ◌∷◌, map, ◌≡◌, refl, ℕ}
use Rattle.std.proofs.Math.Option.{Option, some}
use Rattle.theory.specs.Grammar.{look, row, pick}
use Rattle.theory.specs.Machine.{choose}
use Rattle.theory.specs.Ebnf.{kinds_of}
use Rattle.lexer.specs.Classes as t
use Rattle.grammar.specs.Shapes.Categories.{function, parameter, type, pattern, block, assignment, single, arm, type_item}
use Rattle.grammar.specs.Shapes.Shapes.{shapes}
use Rattle.grammar.specs.Shapes.Tables.{table}
use Rattle.grammar.specs.Shapes.TablesIndex.{n-function, n-parameter, n-type, n-pattern, n-block, n-assignment, n-single, n-arm, n-type_item}
use Rattle.grammar.specs.Shapes.ShapeKind.{FunctionShape, ParameterShape, EitherTypeShape, OptionTypeShape, ListTypeShape, NamedTypeShape}
use Rattle.grammar.specs.Shapes.ShapeKind.{TupleTypeShape, ArrayTypeShape, NamePatternShape, TuplePatternShape, ArrayPatternShape, BlockShape}
use Rattle.grammar.specs.Shapes.ShapeKind.{AssignmentShape, LiteralShape, ParensShape, ArrayShape, ListShape, MatchShape, SimpleCallShape}
use Rattle.grammar.specs.Shapes.ShapeKind.{CastCallShape, NamedShape, BareShape, TypedShape, FoldingShape, ForWhileShape, ArmShape, TypeItemShape}

-- The kind that the table chooses for a category, of which the nonterminal A stands, at a token of the class c.
abbrev kind_at : ℕ → ℕ → ℕ → Option ℕ
kind_at C A c = pick (kinds_of shapes C) (choose table A c)

types-named : map (kind_at type n-type) (t.Either ∷ t.Option ∷ t.List ∷ t.Ident ∷ t.LParen ∷ t.LBracket ∷ [])
    ≡ map some (EitherTypeShape ∷ OptionTypeShape ∷ ListTypeShape ∷ NamedTypeShape ∷ TupleTypeShape ∷ ArrayTypeShape ∷ [])
unfolding kinds_of shapes table row look pick choose
types-named = refl

patterns-named : map (kind_at pattern n-pattern) (t.Ident ∷ t.LParen ∷ t.LBracket ∷ []) ≡ map some (NamePatternShape ∷ TuplePatternShape ∷ ArrayPatternShape ∷ [])
unfolding kinds_of shapes table row look pick choose
patterns-named = refl

-- what begins with a word or a bracket of its own, and what begins with a name
singles-named : map (kind_at single n-single) (t.DecLiteral ∷ t.LParen ∷ t.LBracket ∷ t.list! ∷ t.Match ∷ t.Jet ∷ t.LAngle ∷ [])
    ≡ map some (LiteralShape ∷ ParensShape ∷ ArrayShape ∷ ListShape ∷ MatchShape ∷ SimpleCallShape ∷ CastCallShape ∷ [])
unfolding kinds_of shapes table row look pick choose
singles-named = refl

names-named : map (kind_at single n-single) (t.Ident ∷ t.None ∷ t.raw_hash ∷ t.fold ∷ t.for_while ∷ []) ≡ map some (NamedShape ∷ BareShape ∷ TypedShape ∷ FoldingShape ∷ ForWhileShape ∷ [])
unfolding kinds_of shapes table row look pick choose
names-named = refl

-- the categories of one shape
others-named : (kind_at function n-function t.Fn ∷ kind_at parameter n-parameter t.Ident ∷ kind_at block n-block t.LBrace ∷ kind_at assignment n-assignment t.Let ∷ kind_at arm n-arm t.true ∷ kind_at type_item n-type_item t.«Type» ∷ [])
    ≡ map some (FunctionShape ∷ ParameterShape ∷ BlockShape ∷ AssignmentShape ∷ ArmShape ∷ TypeItemShape ∷ [])
unfolding kinds_of shapes table row look pick choose
others-named = refl
