-- Token classes, and child kinds, that no rule parts, as groups; a set of groups is a number, one bit a group, the first the lowest.
-- Assumes nothing.
use Rattle.std.specs.Prelude.{Bool, cond, List, [], ◌∷◌, ℕ, ◌+◌, ◌*◌}
use Rattle.text.specs.Lists.{some, has}
use Rattle.own.specs.Kinds as kind
use Rattle.lexer.specs.Classes as t
use Rattle.kinds.specs.Families as family
use Rattle.kinds.specs.Decide.{may_own, may_hold}

-- The groups of token classes.
unfoldable pub groups : List (List ℕ)
groups =
    (t.Pub ∷ t.Fn ∷ t.Arrow ∷ [])
    ∷ (t.Let ∷ [])
    ∷ (t.Match ∷ [])
    ∷ (t.DoubleColon ∷ [])
    ∷ (t.Colon ∷ [])
    ∷ (t.Semi ∷ [])
    ∷ (t.Comma ∷ [])
    ∷ (t.FatArrow ∷ [])
    ∷ (t.LParen ∷ t.RParen ∷ [])
    ∷ (t.LBracket ∷ t.RBracket ∷ [])
    ∷ (t.LBrace ∷ t.RBrace ∷ [])
    ∷ (t.LAngle ∷ t.RAngle ∷ [])
    ∷ (t.DecLiteral ∷ [])
    ∷ (t.HexLiteral ∷ [])
    ∷ (t.BinLiteral ∷ [])
    ∷ (t.Ident ∷ [])
    ∷ (t.Jet ∷ [])
    ∷ (t.Witness ∷ [])
    ∷ (t.Param ∷ [])
    ∷ (t.Left ∷ [])
    ∷ (t.Right ∷ [])
    ∷ (t.Some ∷ [])
    ∷ (t.None ∷ [])
    ∷ (t.Either ∷ [])
    ∷ (t.Option ∷ [])
    ∷ (t.List ∷ [])
    ∷ (t.unwrap_left ∷ t.unwrap_right ∷ t.array_fold ∷ t.for_while ∷ t.is_none ∷ t.unwrap ∷ t.into ∷ t.fold ∷ t.raw_hash ∷ [])
    ∷ (t.assert ∷ t.panic ∷ t.dbg ∷ [])
    ∷ (t.assert! ∷ t.panic! ∷ t.dbg! ∷ [])
    ∷ (t.list! ∷ [])
    ∷ (t.false ∷ t.true ∷ [])
    ∷ (t.Eq ∷ [])
    ∷ (t.«Type» ∷ [])
    ∷ (t.bool ∷ [])
    ∷ t.unsigned_types
    ∷ t.builtin_types
    ∷ []

-- The groups of child kinds.
unfoldable pub categories : List (List ℕ)
categories =
    (kind.Name ∷ [])
    ∷ (kind.Parameter ∷ [])
    ∷ family.types
    ∷ family.patterns
    ∷ (kind.Let ∷ [])
    ∷ family.blocks
    ∷ family.singles
    ∷ (kind.BuiltinArm ∷ [])
    ∷ (kind.EnumArm ∷ [])
    ∷ (kind.Number ∷ [])
    ∷ (kind.Function ∷ [])
    ∷ (kind.TypeItem ∷ [])
    ∷ []

-- The set of the groups that pass a test.
unfoldable pub bits : (List ℕ → Bool) → List (List ℕ) → ℕ
bits p [] = 0
bits p (g ∷ l) = cond (p g) 1 0 + 2 * bits p l

-- The group of a class.
unfoldable pub group_set : ℕ → ℕ
group_set class = bits (λ g. has g class) groups

-- The groups of the marks of a kind.
unfoldable pub mark_set : ℕ → ℕ
mark_set kind = bits (some (may_own kind)) groups

-- The group of a child kind.
unfoldable pub category_set : ℕ → ℕ
category_set kid = bits (λ g. has g kid) categories

-- The groups of the children of a kind.
unfoldable pub part_set : ℕ → ℕ
part_set kind = bits (some (may_hold kind)) categories
