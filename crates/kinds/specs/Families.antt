-- The families of record kinds that the rules and the readings of tokens speak of (document 01, "Well-shaped drafts" and the kinds table),
-- each listed once, here.
-- Assumes nothing.
use Rattle.std.specs.Prelude.{List, [], ◌∷◌, ℕ}
use Rattle.text.specs.Lists.{span}
use Rattle.own.specs.Kinds as kind

-- Types, patterns, blocks, expressions that are no block, expressions, elements of a block (a `let` or an expression), arms.
abbrev pub types : List ℕ
types = span kind.Alias kind.ListType

abbrev pub patterns : List ℕ
patterns = span kind.IdentifierPattern kind.ArrayPattern

abbrev pub blocks : List ℕ
blocks = kind.Block ∷ []

abbrev pub singles : List ℕ
singles = kind.Call ∷ span kind.Left kind.EnumMatch

abbrev pub expressions : List ℕ
expressions = kind.Call ∷ span kind.Block kind.EnumMatch

abbrev pub elements : List ℕ
elements = kind.Let ∷ expressions

abbrev pub arms : List ℕ
arms = kind.BuiltinArm ∷ kind.EnumArm ∷ []

-- Items of a file.
abbrev pub items : List ℕ
items = kind.Function ∷ kind.TypeItem ∷ []

-- Kinds in which every name is a child of its own (`kind.Name`).
abbrev pub names_kept : List ℕ
names_kept = kind.Function ∷ kind.Parameter ∷ kind.EnumConstruction ∷ kind.EnumArm ∷ kind.TypeItem ∷ []
