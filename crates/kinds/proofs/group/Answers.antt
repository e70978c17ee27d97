-- Between two numbers an arm returns what the table has there; at its keys the check finds it alone.
-- Assumes nothing.
use Rattle.std.proofs.Common.{ℕ, List, [], ◌∷◌, arith, rules}
use Prim.Native.Nat.{suc}
use Rattle.lexer.specs.Classes as t
use Rattle.kinds.proofs.Laws.{between, upward}
use Rattle.kinds.proofs.Tables.{group_table}
use Rattle.kinds.proofs.group.Goals as goal

-- The keys of the arms, the last arm first.
abbrev keys : List (List ℕ)
keys =
    (t.bool ∷ [])
    ∷ (t.list! ∷ [])
    ∷ (t.dbg ∷ [])
    ∷ (t.raw_hash ∷ [])
    ∷ (t.List ∷ [])
    ∷ (t.Option ∷ [])
    ∷ (t.Either ∷ [])
    ∷ (t.None ∷ [])
    ∷ (t.Some ∷ [])
    ∷ (t.Right ∷ [])
    ∷ (t.Left ∷ [])
    ∷ (t.Param ∷ [])
    ∷ (t.Witness ∷ [])
    ∷ (t.Jet ∷ [])
    ∷ (t.Ident ∷ [])
    ∷ (t.BinLiteral ∷ [])
    ∷ (t.HexLiteral ∷ [])
    ∷ (t.DecLiteral ∷ [])
    ∷ (t.FatArrow ∷ [])
    ∷ (t.Eq ∷ [])
    ∷ (t.Comma ∷ [])
    ∷ (t.Semi ∷ [])
    ∷ (t.Colon ∷ [])
    ∷ (t.DoubleColon ∷ [])
    ∷ (t.Match ∷ [])
    ∷ (t.«Type» ∷ [])
    ∷ (t.Let ∷ [])
    ∷ (t.Pub ∷ t.Fn ∷ t.Arrow ∷ [])
    ∷ []

pub returns-in-24-to-25 : goal.returns-in-24-to-25
returns-in-24-to-25 c = between group_table keys t.LBrace t.LAngle tt (search rules) (omega arith) (omega arith)

pub returns-in-26-to-27 : goal.returns-in-26-to-27
returns-in-26-to-27 c = between group_table keys t.LAngle t.DecLiteral tt (search rules) (omega arith) (omega arith)

pub returns-in-57-to-59 : goal.returns-in-57-to-59
returns-in-57-to-59 c = between group_table keys t.dbg t.list! tt (search rules) (omega arith) (omega arith)

pub returns-in-61-to-62 : goal.returns-in-61-to-62
returns-in-61-to-62 c = between group_table keys t.list! t.bool tt (search rules) (omega arith) (omega arith)

pub returns-in-64-to-72 : goal.returns-in-64-to-72
returns-in-64-to-72 c = between group_table keys t.bool t.Ctx8 tt (search rules) (omega arith) (omega arith)

pub returns-in-73-to-96 : goal.returns-in-73-to-96
returns-in-73-to-96 c = between group_table keys t.Ctx8 (suc t.TokenAmount1) tt (search rules) (omega arith) (omega arith)

pub returns-in_default-2 : goal.returns-in_default-2
returns-in_default-2 c = between group_table keys t.DecLiteral t.Left tt (search rules) (omega arith) (omega arith)

pub returns-in_default-4 : goal.returns-in_default-4
returns-in_default-4 c = upward group_table keys (suc t.TokenAmount1) tt (search rules) (omega arith)

pub returns-in-50-to-51-2 : goal.returns-in-50-to-51-2
returns-in-50-to-51-2 c = between group_table keys t.assert (suc t.panic) tt (search rules) (omega arith) (omega arith)

pub returns-in-44-to-49-2 : goal.returns-in-44-to-49-2
returns-in-44-to-49-2 c = between group_table keys t.Left t.assert tt (search rules) (omega arith) (omega arith)

pub returns-in-44-to-49-3 : goal.returns-in-44-to-49-3
returns-in-44-to-49-3 c = between group_table keys t.into t.dbg tt (search rules) (omega arith) (omega arith)
