-- Made by tools/grammar.py from Shapes.antt: do not edit; `tools/grammar.py --check` says whether it is up to date.
-- The productions of the shapes with their LL(1) table, and what each nonterminal stands for. The script needs no trust: the
-- checks in proofs/Shapes/WellShapedLaws.antt are computed on what stands here.
-- Assumes nothing.
use Rattle.std.specs.Prelude.{true, false, List, [], ◌∷◌}
use Rattle.theory.specs.Grammar.{tok, nt, on, Row}
use Rattle.theory.specs.Ebnf.{Ex, eps, mark, child, seq, or, many, list, tail}
use Rattle.lexer.specs.Classes as t
use Rattle.grammar.specs.Shapes.Categories.{function, parameter, type, pattern, block, assignment, single, arm, type_item, elements, arguments, path, head_path, pair, file}
use Rattle.grammar.specs.Shapes.Shapes.{identifier, function_name, alias_name, named_type, literal, other_name, expression, head}

-- 0: function
abbrev r0 : Row
r0 = record { alts = (nt 1 ∷ tok 4 ∷ nt 2 ∷ tok 20 ∷ nt 3 ∷ tok 21 ∷ nt 4 ∷ nt 5 ∷ []) ∷ []; cases = on 1 1 ∷ on 4 1 ∷ []; other = 0; first = 1 ∷ 4 ∷ []; follow = 0 ∷ 1 ∷ 4 ∷ 6 ∷ []; null = false; cost = 3; least = 1 }

-- 1: optional Pub
abbrev r1 : Row
r1 = record { alts = [] ∷ (tok 1 ∷ []) ∷ []; cases = on 1 2 ∷ []; other = 1; first = 1 ∷ []; follow = 4 ∷ []; null = true; cost = 1; least = 1 }

-- 2: function_name
abbrev r2 : Row
r2 = record { alts = (tok 32 ∷ []) ∷ (tok 37 ∷ []) ∷ (tok 38 ∷ []) ∷ (tok 39 ∷ []) ∷ (tok 40 ∷ []) ∷ (tok 41 ∷ []) ∷ (tok 42 ∷ []) ∷ (tok 43 ∷ []) ∷ (tok 63 ∷ []) ∷ (tok 64 ∷ []) ∷ (tok 65 ∷ []) ∷ (tok 66 ∷ []) ∷ (tok 67 ∷ []) ∷ (tok 68 ∷ []) ∷ (tok 69 ∷ []) ∷ (tok 70 ∷ []) ∷ (tok 71 ∷ []) ∷ (tok 72 ∷ []) ∷ (tok 73 ∷ []) ∷ (tok 74 ∷ []) ∷ (tok 75 ∷ []) ∷ (tok 76 ∷ []) ∷ (tok 77 ∷ []) ∷ (tok 78 ∷ []) ∷ (tok 79 ∷ []) ∷ (tok 80 ∷ []) ∷ (tok 81 ∷ []) ∷ (tok 82 ∷ []) ∷ (tok 83 ∷ []) ∷ (tok 84 ∷ []) ∷ (tok 85 ∷ []) ∷ (tok 86 ∷ []) ∷ (tok 87 ∷ []) ∷ (tok 88 ∷ []) ∷ (tok 89 ∷ []) ∷ (tok 90 ∷ []) ∷ (tok 91 ∷ []) ∷ (tok 92 ∷ []) ∷ (tok 93 ∷ []) ∷ (tok 94 ∷ []) ∷ (tok 95 ∷ []) ∷ (tok 96 ∷ []) ∷ []; cases = on 32 1 ∷ on 37 2 ∷ on 38 3 ∷ on 39 4 ∷ on 40 5 ∷ on 41 6 ∷ on 42 7 ∷ on 43 8 ∷ on 63 9 ∷ on 64 10 ∷ on 65 11 ∷ on 66 12 ∷ on 67 13 ∷ on 68 14 ∷ on 69 15 ∷ on 70 16 ∷ on 71 17 ∷ on 72 18 ∷ on 73 19 ∷ on 74 20 ∷ on 75 21 ∷ on 76 22 ∷ on 77 23 ∷ on 78 24 ∷ on 79 25 ∷ on 80 26 ∷ on 81 27 ∷ on 82 28 ∷ on 83 29 ∷ on 84 30 ∷ on 85 31 ∷ on 86 32 ∷ on 87 33 ∷ on 88 34 ∷ on 89 35 ∷ on 90 36 ∷ on 91 37 ∷ on 92 38 ∷ on 93 39 ∷ on 94 40 ∷ on 95 41 ∷ on 96 42 ∷ []; other = 0; first = 32 ∷ 37 ∷ 38 ∷ 39 ∷ 40 ∷ 41 ∷ 42 ∷ 43 ∷ 63 ∷ 64 ∷ 65 ∷ 66 ∷ 67 ∷ 68 ∷ 69 ∷ 70 ∷ 71 ∷ 72 ∷ 73 ∷ 74 ∷ 75 ∷ 76 ∷ 77 ∷ 78 ∷ 79 ∷ 80 ∷ 81 ∷ 82 ∷ 83 ∷ 84 ∷ 85 ∷ 86 ∷ 87 ∷ 88 ∷ 89 ∷ 90 ∷ 91 ∷ 92 ∷ 93 ∷ 94 ∷ 95 ∷ 96 ∷ []; follow = 17 ∷ 20 ∷ 27 ∷ []; null = false; cost = 1; least = 1 }

-- 3: list of parameter
abbrev r3 : Row
r3 = record { alts = [] ∷ (nt 6 ∷ nt 7 ∷ []) ∷ []; cases = on 21 1 ∷ []; other = 2; first = 32 ∷ 37 ∷ 38 ∷ 39 ∷ 40 ∷ 41 ∷ 42 ∷ 43 ∷ 44 ∷ 45 ∷ 46 ∷ 47 ∷ 48 ∷ 49 ∷ 50 ∷ 51 ∷ 53 ∷ 54 ∷ 55 ∷ 56 ∷ 63 ∷ 64 ∷ 65 ∷ 66 ∷ 67 ∷ 68 ∷ 69 ∷ 70 ∷ 71 ∷ 72 ∷ 73 ∷ 74 ∷ 75 ∷ 76 ∷ 77 ∷ 78 ∷ 79 ∷ 80 ∷ 81 ∷ 82 ∷ 83 ∷ 84 ∷ 85 ∷ 86 ∷ 87 ∷ 88 ∷ 89 ∷ 90 ∷ 91 ∷ 92 ∷ 93 ∷ 94 ∷ 95 ∷ 96 ∷ []; follow = 21 ∷ []; null = true; cost = 4; least = 1 }

-- 4: optional (Arrow type)
abbrev r4 : Row
r4 = record { alts = [] ∷ (tok 13 ∷ nt 8 ∷ []) ∷ []; cases = on 13 2 ∷ []; other = 1; first = 13 ∷ []; follow = 24 ∷ []; null = true; cost = 1; least = 1 }

-- 5: block
abbrev r5 : Row
r5 = record { alts = (tok 24 ∷ nt 9 ∷ tok 25 ∷ []) ∷ []; cases = on 24 1 ∷ []; other = 0; first = 24 ∷ []; follow = 0 ∷ 1 ∷ 4 ∷ 6 ∷ 16 ∷ 17 ∷ 21 ∷ 23 ∷ 24 ∷ 25 ∷ 32 ∷ 37 ∷ 38 ∷ 39 ∷ 40 ∷ 41 ∷ 42 ∷ 43 ∷ 44 ∷ 45 ∷ 46 ∷ 47 ∷ 48 ∷ 49 ∷ 50 ∷ 51 ∷ 53 ∷ 54 ∷ 55 ∷ 56 ∷ 61 ∷ 62 ∷ 63 ∷ 64 ∷ 65 ∷ 66 ∷ 67 ∷ 68 ∷ 69 ∷ 70 ∷ 71 ∷ 72 ∷ 73 ∷ 74 ∷ 75 ∷ 76 ∷ 77 ∷ 78 ∷ 79 ∷ 80 ∷ 81 ∷ 82 ∷ 83 ∷ 84 ∷ 85 ∷ 86 ∷ 87 ∷ 88 ∷ 89 ∷ 90 ∷ 91 ∷ 92 ∷ 93 ∷ 94 ∷ 95 ∷ 96 ∷ []; null = false; cost = 1; least = 1 }

-- 6: parameter
abbrev r6 : Row
r6 = record { alts = (nt 10 ∷ tok 15 ∷ nt 8 ∷ []) ∷ []; cases = on 32 1 ∷ on 37 1 ∷ on 38 1 ∷ on 39 1 ∷ on 40 1 ∷ on 41 1 ∷ on 42 1 ∷ on 43 1 ∷ on 44 1 ∷ on 45 1 ∷ on 46 1 ∷ on 47 1 ∷ on 48 1 ∷ on 49 1 ∷ on 50 1 ∷ on 51 1 ∷ on 53 1 ∷ on 54 1 ∷ on 55 1 ∷ on 56 1 ∷ on 63 1 ∷ on 64 1 ∷ on 65 1 ∷ on 66 1 ∷ on 67 1 ∷ on 68 1 ∷ on 69 1 ∷ on 70 1 ∷ on 71 1 ∷ on 72 1 ∷ on 73 1 ∷ on 74 1 ∷ on 75 1 ∷ on 76 1 ∷ on 77 1 ∷ on 78 1 ∷ on 79 1 ∷ on 80 1 ∷ on 81 1 ∷ on 82 1 ∷ on 83 1 ∷ on 84 1 ∷ on 85 1 ∷ on 86 1 ∷ on 87 1 ∷ on 88 1 ∷ on 89 1 ∷ on 90 1 ∷ on 91 1 ∷ on 92 1 ∷ on 93 1 ∷ on 94 1 ∷ on 95 1 ∷ on 96 1 ∷ []; other = 0; first = 32 ∷ 37 ∷ 38 ∷ 39 ∷ 40 ∷ 41 ∷ 42 ∷ 43 ∷ 44 ∷ 45 ∷ 46 ∷ 47 ∷ 48 ∷ 49 ∷ 50 ∷ 51 ∷ 53 ∷ 54 ∷ 55 ∷ 56 ∷ 63 ∷ 64 ∷ 65 ∷ 66 ∷ 67 ∷ 68 ∷ 69 ∷ 70 ∷ 71 ∷ 72 ∷ 73 ∷ 74 ∷ 75 ∷ 76 ∷ 77 ∷ 78 ∷ 79 ∷ 80 ∷ 81 ∷ 82 ∷ 83 ∷ 84 ∷ 85 ∷ 86 ∷ 87 ∷ 88 ∷ 89 ∷ 90 ∷ 91 ∷ 92 ∷ 93 ∷ 94 ∷ 95 ∷ 96 ∷ []; follow = 17 ∷ 21 ∷ []; null = false; cost = 3; least = 1 }

-- 7: what follows an item of: list of parameter
abbrev r7 : Row
r7 = record { alts = [] ∷ (tok 17 ∷ nt 3 ∷ []) ∷ []; cases = on 17 2 ∷ []; other = 1; first = 17 ∷ []; follow = 21 ∷ []; null = true; cost = 1; least = 1 }

-- 8: type
abbrev r8 : Row
r8 = record { alts = (tok 41 ∷ nt 11 ∷ []) ∷ (tok 42 ∷ nt 12 ∷ []) ∷ (tok 43 ∷ nt 13 ∷ []) ∷ (nt 14 ∷ []) ∷ (tok 20 ∷ nt 15 ∷ tok 21 ∷ []) ∷ (tok 22 ∷ nt 8 ∷ tok 16 ∷ tok 28 ∷ tok 23 ∷ []) ∷ []; cases = on 20 5 ∷ on 22 6 ∷ on 32 4 ∷ on 37 4 ∷ on 38 4 ∷ on 39 4 ∷ on 40 4 ∷ on 41 1 ∷ on 42 2 ∷ on 43 3 ∷ on 44 4 ∷ on 45 4 ∷ on 46 4 ∷ on 47 4 ∷ on 48 4 ∷ on 49 4 ∷ on 50 4 ∷ on 51 4 ∷ on 53 4 ∷ on 54 4 ∷ on 55 4 ∷ on 56 4 ∷ on 63 4 ∷ on 64 4 ∷ on 65 4 ∷ on 66 4 ∷ on 67 4 ∷ on 68 4 ∷ on 69 4 ∷ on 70 4 ∷ on 71 4 ∷ on 72 4 ∷ on 73 4 ∷ on 74 4 ∷ on 75 4 ∷ on 76 4 ∷ on 77 4 ∷ on 78 4 ∷ on 79 4 ∷ on 80 4 ∷ on 81 4 ∷ on 82 4 ∷ on 83 4 ∷ on 84 4 ∷ on 85 4 ∷ on 86 4 ∷ on 87 4 ∷ on 88 4 ∷ on 89 4 ∷ on 90 4 ∷ on 91 4 ∷ on 92 4 ∷ on 93 4 ∷ on 94 4 ∷ on 95 4 ∷ on 96 4 ∷ []; other = 0; first = 20 ∷ 22 ∷ 32 ∷ 37 ∷ 38 ∷ 39 ∷ 40 ∷ 41 ∷ 42 ∷ 43 ∷ 44 ∷ 45 ∷ 46 ∷ 47 ∷ 48 ∷ 49 ∷ 50 ∷ 51 ∷ 53 ∷ 54 ∷ 55 ∷ 56 ∷ 63 ∷ 64 ∷ 65 ∷ 66 ∷ 67 ∷ 68 ∷ 69 ∷ 70 ∷ 71 ∷ 72 ∷ 73 ∷ 74 ∷ 75 ∷ 76 ∷ 77 ∷ 78 ∷ 79 ∷ 80 ∷ 81 ∷ 82 ∷ 83 ∷ 84 ∷ 85 ∷ 86 ∷ 87 ∷ 88 ∷ 89 ∷ 90 ∷ 91 ∷ 92 ∷ 93 ∷ 94 ∷ 95 ∷ 96 ∷ []; follow = 16 ∷ 17 ∷ 18 ∷ 21 ∷ 24 ∷ 27 ∷ []; null = false; cost = 3; least = 1 }

-- 9: elements
abbrev r9 : Row
r9 = record { alts = [] ∷ (nt 16 ∷ tok 16 ∷ nt 9 ∷ []) ∷ (nt 17 ∷ nt 18 ∷ []) ∷ []; cases = on 5 2 ∷ on 25 1 ∷ []; other = 3; first = 5 ∷ 9 ∷ 20 ∷ 22 ∷ 24 ∷ 26 ∷ 28 ∷ 29 ∷ 30 ∷ 32 ∷ 33 ∷ 34 ∷ 35 ∷ 37 ∷ 38 ∷ 39 ∷ 40 ∷ 41 ∷ 42 ∷ 43 ∷ 44 ∷ 45 ∷ 46 ∷ 47 ∷ 48 ∷ 49 ∷ 50 ∷ 51 ∷ 53 ∷ 54 ∷ 55 ∷ 56 ∷ 57 ∷ 58 ∷ 59 ∷ 60 ∷ 61 ∷ 62 ∷ 63 ∷ 64 ∷ 65 ∷ 66 ∷ 67 ∷ 68 ∷ 69 ∷ 70 ∷ 71 ∷ 72 ∷ 73 ∷ 74 ∷ 75 ∷ 76 ∷ 77 ∷ 78 ∷ 79 ∷ 80 ∷ 81 ∷ 82 ∷ 83 ∷ 84 ∷ 85 ∷ 86 ∷ 87 ∷ 88 ∷ 89 ∷ 90 ∷ 91 ∷ 92 ∷ 93 ∷ 94 ∷ 95 ∷ 96 ∷ []; follow = 25 ∷ []; null = true; cost = 12; least = 1 }

-- 10: identifier
abbrev r10 : Row
r10 = record { alts = (tok 32 ∷ []) ∷ (tok 37 ∷ []) ∷ (tok 38 ∷ []) ∷ (tok 39 ∷ []) ∷ (tok 40 ∷ []) ∷ (tok 41 ∷ []) ∷ (tok 42 ∷ []) ∷ (tok 43 ∷ []) ∷ (tok 63 ∷ []) ∷ (tok 64 ∷ []) ∷ (tok 65 ∷ []) ∷ (tok 66 ∷ []) ∷ (tok 67 ∷ []) ∷ (tok 68 ∷ []) ∷ (tok 69 ∷ []) ∷ (tok 70 ∷ []) ∷ (tok 71 ∷ []) ∷ (tok 72 ∷ []) ∷ (tok 73 ∷ []) ∷ (tok 74 ∷ []) ∷ (tok 75 ∷ []) ∷ (tok 76 ∷ []) ∷ (tok 77 ∷ []) ∷ (tok 78 ∷ []) ∷ (tok 79 ∷ []) ∷ (tok 80 ∷ []) ∷ (tok 81 ∷ []) ∷ (tok 82 ∷ []) ∷ (tok 83 ∷ []) ∷ (tok 84 ∷ []) ∷ (tok 85 ∷ []) ∷ (tok 86 ∷ []) ∷ (tok 87 ∷ []) ∷ (tok 88 ∷ []) ∷ (tok 89 ∷ []) ∷ (tok 90 ∷ []) ∷ (tok 91 ∷ []) ∷ (tok 92 ∷ []) ∷ (tok 93 ∷ []) ∷ (tok 94 ∷ []) ∷ (tok 95 ∷ []) ∷ (tok 96 ∷ []) ∷ (tok 44 ∷ []) ∷ (tok 45 ∷ []) ∷ (tok 46 ∷ []) ∷ (tok 47 ∷ []) ∷ (tok 48 ∷ []) ∷ (tok 49 ∷ []) ∷ (tok 50 ∷ []) ∷ (tok 51 ∷ []) ∷ (tok 53 ∷ []) ∷ (tok 54 ∷ []) ∷ (tok 55 ∷ []) ∷ (tok 56 ∷ []) ∷ []; cases = on 32 1 ∷ on 37 2 ∷ on 38 3 ∷ on 39 4 ∷ on 40 5 ∷ on 41 6 ∷ on 42 7 ∷ on 43 8 ∷ on 44 43 ∷ on 45 44 ∷ on 46 45 ∷ on 47 46 ∷ on 48 47 ∷ on 49 48 ∷ on 50 49 ∷ on 51 50 ∷ on 53 51 ∷ on 54 52 ∷ on 55 53 ∷ on 56 54 ∷ on 63 9 ∷ on 64 10 ∷ on 65 11 ∷ on 66 12 ∷ on 67 13 ∷ on 68 14 ∷ on 69 15 ∷ on 70 16 ∷ on 71 17 ∷ on 72 18 ∷ on 73 19 ∷ on 74 20 ∷ on 75 21 ∷ on 76 22 ∷ on 77 23 ∷ on 78 24 ∷ on 79 25 ∷ on 80 26 ∷ on 81 27 ∷ on 82 28 ∷ on 83 29 ∷ on 84 30 ∷ on 85 31 ∷ on 86 32 ∷ on 87 33 ∷ on 88 34 ∷ on 89 35 ∷ on 90 36 ∷ on 91 37 ∷ on 92 38 ∷ on 93 39 ∷ on 94 40 ∷ on 95 41 ∷ on 96 42 ∷ []; other = 0; first = 32 ∷ 37 ∷ 38 ∷ 39 ∷ 40 ∷ 41 ∷ 42 ∷ 43 ∷ 44 ∷ 45 ∷ 46 ∷ 47 ∷ 48 ∷ 49 ∷ 50 ∷ 51 ∷ 53 ∷ 54 ∷ 55 ∷ 56 ∷ 63 ∷ 64 ∷ 65 ∷ 66 ∷ 67 ∷ 68 ∷ 69 ∷ 70 ∷ 71 ∷ 72 ∷ 73 ∷ 74 ∷ 75 ∷ 76 ∷ 77 ∷ 78 ∷ 79 ∷ 80 ∷ 81 ∷ 82 ∷ 83 ∷ 84 ∷ 85 ∷ 86 ∷ 87 ∷ 88 ∷ 89 ∷ 90 ∷ 91 ∷ 92 ∷ 93 ∷ 94 ∷ 95 ∷ 96 ∷ []; follow = 14 ∷ 15 ∷ 16 ∷ 17 ∷ 19 ∷ 20 ∷ 21 ∷ 23 ∷ 24 ∷ 25 ∷ []; null = false; cost = 1; least = 1 }

-- 11: optional (LAngle type Comma type RAngle)
abbrev r11 : Row
r11 = record { alts = [] ∷ (tok 26 ∷ nt 8 ∷ tok 17 ∷ nt 8 ∷ tok 27 ∷ []) ∷ []; cases = on 26 2 ∷ []; other = 1; first = 26 ∷ []; follow = 16 ∷ 17 ∷ 18 ∷ 21 ∷ 24 ∷ 27 ∷ []; null = true; cost = 1; least = 1 }

-- 12: optional (LAngle type RAngle)
abbrev r12 : Row
r12 = record { alts = [] ∷ (tok 26 ∷ nt 8 ∷ tok 27 ∷ []) ∷ []; cases = on 26 2 ∷ []; other = 1; first = 26 ∷ []; follow = 16 ∷ 17 ∷ 18 ∷ 21 ∷ 24 ∷ 27 ∷ []; null = true; cost = 1; least = 1 }

-- 13: optional (LAngle type Comma DecLiteral RAngle)
abbrev r13 : Row
r13 = record { alts = [] ∷ (tok 26 ∷ nt 8 ∷ tok 17 ∷ tok 28 ∷ tok 27 ∷ []) ∷ []; cases = on 26 2 ∷ []; other = 1; first = 26 ∷ []; follow = 16 ∷ 17 ∷ 18 ∷ 21 ∷ 24 ∷ 27 ∷ []; null = true; cost = 1; least = 1 }

-- 14: named_type
abbrev r14 : Row
r14 = record { alts = (tok 32 ∷ []) ∷ (tok 37 ∷ []) ∷ (tok 38 ∷ []) ∷ (tok 39 ∷ []) ∷ (tok 40 ∷ []) ∷ (tok 63 ∷ []) ∷ (tok 64 ∷ []) ∷ (tok 65 ∷ []) ∷ (tok 66 ∷ []) ∷ (tok 67 ∷ []) ∷ (tok 68 ∷ []) ∷ (tok 69 ∷ []) ∷ (tok 70 ∷ []) ∷ (tok 71 ∷ []) ∷ (tok 72 ∷ []) ∷ (tok 73 ∷ []) ∷ (tok 74 ∷ []) ∷ (tok 75 ∷ []) ∷ (tok 76 ∷ []) ∷ (tok 77 ∷ []) ∷ (tok 78 ∷ []) ∷ (tok 79 ∷ []) ∷ (tok 80 ∷ []) ∷ (tok 81 ∷ []) ∷ (tok 82 ∷ []) ∷ (tok 83 ∷ []) ∷ (tok 84 ∷ []) ∷ (tok 85 ∷ []) ∷ (tok 86 ∷ []) ∷ (tok 87 ∷ []) ∷ (tok 88 ∷ []) ∷ (tok 89 ∷ []) ∷ (tok 90 ∷ []) ∷ (tok 91 ∷ []) ∷ (tok 92 ∷ []) ∷ (tok 93 ∷ []) ∷ (tok 94 ∷ []) ∷ (tok 95 ∷ []) ∷ (tok 96 ∷ []) ∷ (tok 44 ∷ []) ∷ (tok 45 ∷ []) ∷ (tok 46 ∷ []) ∷ (tok 47 ∷ []) ∷ (tok 48 ∷ []) ∷ (tok 49 ∷ []) ∷ (tok 50 ∷ []) ∷ (tok 51 ∷ []) ∷ (tok 53 ∷ []) ∷ (tok 54 ∷ []) ∷ (tok 55 ∷ []) ∷ (tok 56 ∷ []) ∷ []; cases = on 32 1 ∷ on 37 2 ∷ on 38 3 ∷ on 39 4 ∷ on 40 5 ∷ on 44 40 ∷ on 45 41 ∷ on 46 42 ∷ on 47 43 ∷ on 48 44 ∷ on 49 45 ∷ on 50 46 ∷ on 51 47 ∷ on 53 48 ∷ on 54 49 ∷ on 55 50 ∷ on 56 51 ∷ on 63 6 ∷ on 64 7 ∷ on 65 8 ∷ on 66 9 ∷ on 67 10 ∷ on 68 11 ∷ on 69 12 ∷ on 70 13 ∷ on 71 14 ∷ on 72 15 ∷ on 73 16 ∷ on 74 17 ∷ on 75 18 ∷ on 76 19 ∷ on 77 20 ∷ on 78 21 ∷ on 79 22 ∷ on 80 23 ∷ on 81 24 ∷ on 82 25 ∷ on 83 26 ∷ on 84 27 ∷ on 85 28 ∷ on 86 29 ∷ on 87 30 ∷ on 88 31 ∷ on 89 32 ∷ on 90 33 ∷ on 91 34 ∷ on 92 35 ∷ on 93 36 ∷ on 94 37 ∷ on 95 38 ∷ on 96 39 ∷ []; other = 0; first = 32 ∷ 37 ∷ 38 ∷ 39 ∷ 40 ∷ 44 ∷ 45 ∷ 46 ∷ 47 ∷ 48 ∷ 49 ∷ 50 ∷ 51 ∷ 53 ∷ 54 ∷ 55 ∷ 56 ∷ 63 ∷ 64 ∷ 65 ∷ 66 ∷ 67 ∷ 68 ∷ 69 ∷ 70 ∷ 71 ∷ 72 ∷ 73 ∷ 74 ∷ 75 ∷ 76 ∷ 77 ∷ 78 ∷ 79 ∷ 80 ∷ 81 ∷ 82 ∷ 83 ∷ 84 ∷ 85 ∷ 86 ∷ 87 ∷ 88 ∷ 89 ∷ 90 ∷ 91 ∷ 92 ∷ 93 ∷ 94 ∷ 95 ∷ 96 ∷ []; follow = 16 ∷ 17 ∷ 18 ∷ 21 ∷ 24 ∷ 27 ∷ []; null = false; cost = 1; least = 1 }

-- 15: list of type
abbrev r15 : Row
r15 = record { alts = [] ∷ (nt 8 ∷ nt 19 ∷ []) ∷ []; cases = on 21 1 ∷ []; other = 2; first = 20 ∷ 22 ∷ 32 ∷ 37 ∷ 38 ∷ 39 ∷ 40 ∷ 41 ∷ 42 ∷ 43 ∷ 44 ∷ 45 ∷ 46 ∷ 47 ∷ 48 ∷ 49 ∷ 50 ∷ 51 ∷ 53 ∷ 54 ∷ 55 ∷ 56 ∷ 63 ∷ 64 ∷ 65 ∷ 66 ∷ 67 ∷ 68 ∷ 69 ∷ 70 ∷ 71 ∷ 72 ∷ 73 ∷ 74 ∷ 75 ∷ 76 ∷ 77 ∷ 78 ∷ 79 ∷ 80 ∷ 81 ∷ 82 ∷ 83 ∷ 84 ∷ 85 ∷ 86 ∷ 87 ∷ 88 ∷ 89 ∷ 90 ∷ 91 ∷ 92 ∷ 93 ∷ 94 ∷ 95 ∷ 96 ∷ []; follow = 21 ∷ []; null = true; cost = 4; least = 1 }

-- 16: assignment
abbrev r16 : Row
r16 = record { alts = (tok 5 ∷ nt 20 ∷ tok 15 ∷ nt 8 ∷ tok 18 ∷ nt 17 ∷ []) ∷ []; cases = on 5 1 ∷ []; other = 0; first = 5 ∷ []; follow = 16 ∷ []; null = false; cost = 1; least = 1 }

-- 17: expression
abbrev r17 : Row
r17 = record { alts = (nt 5 ∷ []) ∷ (nt 21 ∷ []) ∷ []; cases = on 24 1 ∷ []; other = 2; first = 9 ∷ 20 ∷ 22 ∷ 24 ∷ 26 ∷ 28 ∷ 29 ∷ 30 ∷ 32 ∷ 33 ∷ 34 ∷ 35 ∷ 37 ∷ 38 ∷ 39 ∷ 40 ∷ 41 ∷ 42 ∷ 43 ∷ 44 ∷ 45 ∷ 46 ∷ 47 ∷ 48 ∷ 49 ∷ 50 ∷ 51 ∷ 53 ∷ 54 ∷ 55 ∷ 56 ∷ 57 ∷ 58 ∷ 59 ∷ 60 ∷ 61 ∷ 62 ∷ 63 ∷ 64 ∷ 65 ∷ 66 ∷ 67 ∷ 68 ∷ 69 ∷ 70 ∷ 71 ∷ 72 ∷ 73 ∷ 74 ∷ 75 ∷ 76 ∷ 77 ∷ 78 ∷ 79 ∷ 80 ∷ 81 ∷ 82 ∷ 83 ∷ 84 ∷ 85 ∷ 86 ∷ 87 ∷ 88 ∷ 89 ∷ 90 ∷ 91 ∷ 92 ∷ 93 ∷ 94 ∷ 95 ∷ 96 ∷ []; follow = 16 ∷ 17 ∷ 21 ∷ 23 ∷ 24 ∷ 25 ∷ []; null = false; cost = 8; least = 2 }

-- 18: optional (Semi elements)
abbrev r18 : Row
r18 = record { alts = [] ∷ (tok 16 ∷ nt 9 ∷ []) ∷ []; cases = on 16 2 ∷ []; other = 1; first = 16 ∷ []; follow = 25 ∷ []; null = true; cost = 1; least = 1 }

-- 19: what follows an item of: list of type
abbrev r19 : Row
r19 = record { alts = [] ∷ (tok 17 ∷ nt 15 ∷ []) ∷ []; cases = on 17 2 ∷ []; other = 1; first = 17 ∷ []; follow = 21 ∷ []; null = true; cost = 1; least = 1 }

-- 20: pattern
abbrev r20 : Row
r20 = record { alts = (nt 10 ∷ []) ∷ (tok 20 ∷ nt 22 ∷ tok 21 ∷ []) ∷ (tok 22 ∷ nt 22 ∷ tok 23 ∷ []) ∷ []; cases = on 20 2 ∷ on 22 3 ∷ on 32 1 ∷ on 37 1 ∷ on 38 1 ∷ on 39 1 ∷ on 40 1 ∷ on 41 1 ∷ on 42 1 ∷ on 43 1 ∷ on 44 1 ∷ on 45 1 ∷ on 46 1 ∷ on 47 1 ∷ on 48 1 ∷ on 49 1 ∷ on 50 1 ∷ on 51 1 ∷ on 53 1 ∷ on 54 1 ∷ on 55 1 ∷ on 56 1 ∷ on 63 1 ∷ on 64 1 ∷ on 65 1 ∷ on 66 1 ∷ on 67 1 ∷ on 68 1 ∷ on 69 1 ∷ on 70 1 ∷ on 71 1 ∷ on 72 1 ∷ on 73 1 ∷ on 74 1 ∷ on 75 1 ∷ on 76 1 ∷ on 77 1 ∷ on 78 1 ∷ on 79 1 ∷ on 80 1 ∷ on 81 1 ∷ on 82 1 ∷ on 83 1 ∷ on 84 1 ∷ on 85 1 ∷ on 86 1 ∷ on 87 1 ∷ on 88 1 ∷ on 89 1 ∷ on 90 1 ∷ on 91 1 ∷ on 92 1 ∷ on 93 1 ∷ on 94 1 ∷ on 95 1 ∷ on 96 1 ∷ []; other = 0; first = 20 ∷ 22 ∷ 32 ∷ 37 ∷ 38 ∷ 39 ∷ 40 ∷ 41 ∷ 42 ∷ 43 ∷ 44 ∷ 45 ∷ 46 ∷ 47 ∷ 48 ∷ 49 ∷ 50 ∷ 51 ∷ 53 ∷ 54 ∷ 55 ∷ 56 ∷ 63 ∷ 64 ∷ 65 ∷ 66 ∷ 67 ∷ 68 ∷ 69 ∷ 70 ∷ 71 ∷ 72 ∷ 73 ∷ 74 ∷ 75 ∷ 76 ∷ 77 ∷ 78 ∷ 79 ∷ 80 ∷ 81 ∷ 82 ∷ 83 ∷ 84 ∷ 85 ∷ 86 ∷ 87 ∷ 88 ∷ 89 ∷ 90 ∷ 91 ∷ 92 ∷ 93 ∷ 94 ∷ 95 ∷ 96 ∷ []; follow = 15 ∷ 17 ∷ 21 ∷ 23 ∷ []; null = false; cost = 3; least = 1 }

-- 21: single
abbrev r21 : Row
r21 = record { alts = (nt 23 ∷ []) ∷ (tok 20 ∷ nt 24 ∷ tok 21 ∷ []) ∷ (tok 22 ∷ nt 24 ∷ tok 23 ∷ []) ∷ (tok 60 ∷ tok 22 ∷ nt 24 ∷ tok 23 ∷ []) ∷ (tok 9 ∷ nt 17 ∷ tok 24 ∷ nt 25 ∷ tok 25 ∷ []) ∷ (nt 26 ∷ nt 27 ∷ []) ∷ (tok 26 ∷ nt 8 ∷ tok 27 ∷ tok 14 ∷ tok 53 ∷ nt 27 ∷ []) ∷ (nt 28 ∷ nt 29 ∷ []) ∷ (nt 30 ∷ nt 31 ∷ []) ∷ (nt 32 ∷ nt 33 ∷ []) ∷ (nt 34 ∷ nt 35 ∷ []) ∷ (tok 47 ∷ nt 36 ∷ []) ∷ []; cases = on 9 5 ∷ on 20 2 ∷ on 22 3 ∷ on 26 7 ∷ on 28 1 ∷ on 29 1 ∷ on 30 1 ∷ on 32 8 ∷ on 33 6 ∷ on 34 1 ∷ on 35 1 ∷ on 37 8 ∷ on 38 8 ∷ on 39 8 ∷ on 40 9 ∷ on 41 8 ∷ on 42 8 ∷ on 43 8 ∷ on 44 10 ∷ on 45 10 ∷ on 46 11 ∷ on 47 12 ∷ on 48 10 ∷ on 49 8 ∷ on 50 9 ∷ on 51 9 ∷ on 53 9 ∷ on 54 11 ∷ on 55 9 ∷ on 56 10 ∷ on 57 6 ∷ on 58 6 ∷ on 59 6 ∷ on 60 4 ∷ on 61 1 ∷ on 62 1 ∷ on 63 8 ∷ on 64 8 ∷ on 65 8 ∷ on 66 8 ∷ on 67 8 ∷ on 68 8 ∷ on 69 8 ∷ on 70 8 ∷ on 71 8 ∷ on 72 8 ∷ on 73 8 ∷ on 74 8 ∷ on 75 8 ∷ on 76 8 ∷ on 77 8 ∷ on 78 8 ∷ on 79 8 ∷ on 80 8 ∷ on 81 8 ∷ on 82 8 ∷ on 83 8 ∷ on 84 8 ∷ on 85 8 ∷ on 86 8 ∷ on 87 8 ∷ on 88 8 ∷ on 89 8 ∷ on 90 8 ∷ on 91 8 ∷ on 92 8 ∷ on 93 8 ∷ on 94 8 ∷ on 95 8 ∷ on 96 8 ∷ []; other = 0; first = 9 ∷ 20 ∷ 22 ∷ 26 ∷ 28 ∷ 29 ∷ 30 ∷ 32 ∷ 33 ∷ 34 ∷ 35 ∷ 37 ∷ 38 ∷ 39 ∷ 40 ∷ 41 ∷ 42 ∷ 43 ∷ 44 ∷ 45 ∷ 46 ∷ 47 ∷ 48 ∷ 49 ∷ 50 ∷ 51 ∷ 53 ∷ 54 ∷ 55 ∷ 56 ∷ 57 ∷ 58 ∷ 59 ∷ 60 ∷ 61 ∷ 62 ∷ 63 ∷ 64 ∷ 65 ∷ 66 ∷ 67 ∷ 68 ∷ 69 ∷ 70 ∷ 71 ∷ 72 ∷ 73 ∷ 74 ∷ 75 ∷ 76 ∷ 77 ∷ 78 ∷ 79 ∷ 80 ∷ 81 ∷ 82 ∷ 83 ∷ 84 ∷ 85 ∷ 86 ∷ 87 ∷ 88 ∷ 89 ∷ 90 ∷ 91 ∷ 92 ∷ 93 ∷ 94 ∷ 95 ∷ 96 ∷ []; follow = 16 ∷ 17 ∷ 21 ∷ 23 ∷ 24 ∷ 25 ∷ []; null = false; cost = 7; least = 1 }

-- 22: list of pattern
abbrev r22 : Row
r22 = record { alts = [] ∷ (nt 20 ∷ nt 37 ∷ []) ∷ []; cases = on 21 1 ∷ on 23 1 ∷ []; other = 2; first = 20 ∷ 22 ∷ 32 ∷ 37 ∷ 38 ∷ 39 ∷ 40 ∷ 41 ∷ 42 ∷ 43 ∷ 44 ∷ 45 ∷ 46 ∷ 47 ∷ 48 ∷ 49 ∷ 50 ∷ 51 ∷ 53 ∷ 54 ∷ 55 ∷ 56 ∷ 63 ∷ 64 ∷ 65 ∷ 66 ∷ 67 ∷ 68 ∷ 69 ∷ 70 ∷ 71 ∷ 72 ∷ 73 ∷ 74 ∷ 75 ∷ 76 ∷ 77 ∷ 78 ∷ 79 ∷ 80 ∷ 81 ∷ 82 ∷ 83 ∷ 84 ∷ 85 ∷ 86 ∷ 87 ∷ 88 ∷ 89 ∷ 90 ∷ 91 ∷ 92 ∷ 93 ∷ 94 ∷ 95 ∷ 96 ∷ []; follow = 21 ∷ 23 ∷ []; null = true; cost = 4; least = 1 }

-- 23: literal
abbrev r23 : Row
r23 = record { alts = (tok 61 ∷ []) ∷ (tok 62 ∷ []) ∷ (tok 28 ∷ []) ∷ (tok 29 ∷ []) ∷ (tok 30 ∷ []) ∷ (tok 34 ∷ []) ∷ (tok 35 ∷ []) ∷ []; cases = on 28 3 ∷ on 29 4 ∷ on 30 5 ∷ on 34 6 ∷ on 35 7 ∷ on 61 1 ∷ on 62 2 ∷ []; other = 0; first = 28 ∷ 29 ∷ 30 ∷ 34 ∷ 35 ∷ 61 ∷ 62 ∷ []; follow = 16 ∷ 17 ∷ 21 ∷ 23 ∷ 24 ∷ 25 ∷ []; null = false; cost = 1; least = 1 }

-- 24: list of expression
abbrev r24 : Row
r24 = record { alts = [] ∷ (nt 17 ∷ nt 38 ∷ []) ∷ []; cases = on 21 1 ∷ on 23 1 ∷ []; other = 2; first = 9 ∷ 20 ∷ 22 ∷ 24 ∷ 26 ∷ 28 ∷ 29 ∷ 30 ∷ 32 ∷ 33 ∷ 34 ∷ 35 ∷ 37 ∷ 38 ∷ 39 ∷ 40 ∷ 41 ∷ 42 ∷ 43 ∷ 44 ∷ 45 ∷ 46 ∷ 47 ∷ 48 ∷ 49 ∷ 50 ∷ 51 ∷ 53 ∷ 54 ∷ 55 ∷ 56 ∷ 57 ∷ 58 ∷ 59 ∷ 60 ∷ 61 ∷ 62 ∷ 63 ∷ 64 ∷ 65 ∷ 66 ∷ 67 ∷ 68 ∷ 69 ∷ 70 ∷ 71 ∷ 72 ∷ 73 ∷ 74 ∷ 75 ∷ 76 ∷ 77 ∷ 78 ∷ 79 ∷ 80 ∷ 81 ∷ 82 ∷ 83 ∷ 84 ∷ 85 ∷ 86 ∷ 87 ∷ 88 ∷ 89 ∷ 90 ∷ 91 ∷ 92 ∷ 93 ∷ 94 ∷ 95 ∷ 96 ∷ []; follow = 21 ∷ 23 ∷ []; null = true; cost = 12; least = 1 }

-- 25: any number of arm
abbrev r25 : Row
r25 = record { alts = [] ∷ (nt 39 ∷ nt 25 ∷ []) ∷ []; cases = on 25 1 ∷ []; other = 2; first = 32 ∷ 37 ∷ 38 ∷ 39 ∷ 40 ∷ 41 ∷ 42 ∷ 43 ∷ 44 ∷ 45 ∷ 46 ∷ 47 ∷ 48 ∷ 49 ∷ 50 ∷ 51 ∷ 53 ∷ 54 ∷ 55 ∷ 56 ∷ 61 ∷ 62 ∷ 63 ∷ 64 ∷ 65 ∷ 66 ∷ 67 ∷ 68 ∷ 69 ∷ 70 ∷ 71 ∷ 72 ∷ 73 ∷ 74 ∷ 75 ∷ 76 ∷ 77 ∷ 78 ∷ 79 ∷ 80 ∷ 81 ∷ 82 ∷ 83 ∷ 84 ∷ 85 ∷ 86 ∷ 87 ∷ 88 ∷ 89 ∷ 90 ∷ 91 ∷ 92 ∷ 93 ∷ 94 ∷ 95 ∷ 96 ∷ []; follow = 25 ∷ []; null = true; cost = 10; least = 1 }

-- 26: assert! | panic! | dbg! | Jet
abbrev r26 : Row
r26 = record { alts = (tok 57 ∷ []) ∷ (tok 58 ∷ []) ∷ (tok 59 ∷ []) ∷ (tok 33 ∷ []) ∷ []; cases = on 33 4 ∷ on 57 1 ∷ on 58 2 ∷ on 59 3 ∷ []; other = 0; first = 33 ∷ 57 ∷ 58 ∷ 59 ∷ []; follow = 20 ∷ []; null = false; cost = 1; least = 1 }

-- 27: arguments
abbrev r27 : Row
r27 = record { alts = (tok 20 ∷ nt 24 ∷ tok 21 ∷ []) ∷ []; cases = []; other = 1; first = 20 ∷ []; follow = 16 ∷ 17 ∷ 21 ∷ 23 ∷ 24 ∷ 25 ∷ []; null = false; cost = 1; least = 1 }

-- 28: unwrap | Ident | Left | Right | Some | Either | Option | List | bool | u1 | u2 | u4 | u8 | u16 | u32 | u64 | u128 | u256 | Ctx8 | Pubkey | Message | Message64 | Signature | Scalar | Fe | Ge | Gej | Point | Height | Time | Distance | Duration | Lock | Outpoint | Confidential1 | ExplicitAsset | Asset1 | ExplicitAmount | Amount1 | ExplicitNonce | Nonce | TokenAmount1
abbrev r28 : Row
r28 = record { alts = (tok 49 ∷ []) ∷ (tok 32 ∷ []) ∷ (tok 37 ∷ []) ∷ (tok 38 ∷ []) ∷ (tok 39 ∷ []) ∷ (tok 41 ∷ []) ∷ (tok 42 ∷ []) ∷ (tok 43 ∷ []) ∷ (tok 63 ∷ []) ∷ (tok 64 ∷ []) ∷ (tok 65 ∷ []) ∷ (tok 66 ∷ []) ∷ (tok 67 ∷ []) ∷ (tok 68 ∷ []) ∷ (tok 69 ∷ []) ∷ (tok 70 ∷ []) ∷ (tok 71 ∷ []) ∷ (tok 72 ∷ []) ∷ (tok 73 ∷ []) ∷ (tok 74 ∷ []) ∷ (tok 75 ∷ []) ∷ (tok 76 ∷ []) ∷ (tok 77 ∷ []) ∷ (tok 78 ∷ []) ∷ (tok 79 ∷ []) ∷ (tok 80 ∷ []) ∷ (tok 81 ∷ []) ∷ (tok 82 ∷ []) ∷ (tok 83 ∷ []) ∷ (tok 84 ∷ []) ∷ (tok 85 ∷ []) ∷ (tok 86 ∷ []) ∷ (tok 87 ∷ []) ∷ (tok 88 ∷ []) ∷ (tok 89 ∷ []) ∷ (tok 90 ∷ []) ∷ (tok 91 ∷ []) ∷ (tok 92 ∷ []) ∷ (tok 93 ∷ []) ∷ (tok 94 ∷ []) ∷ (tok 95 ∷ []) ∷ (tok 96 ∷ []) ∷ []; cases = on 32 2 ∷ on 37 3 ∷ on 38 4 ∷ on 39 5 ∷ on 41 6 ∷ on 42 7 ∷ on 43 8 ∷ on 49 1 ∷ on 63 9 ∷ on 64 10 ∷ on 65 11 ∷ on 66 12 ∷ on 67 13 ∷ on 68 14 ∷ on 69 15 ∷ on 70 16 ∷ on 71 17 ∷ on 72 18 ∷ on 73 19 ∷ on 74 20 ∷ on 75 21 ∷ on 76 22 ∷ on 77 23 ∷ on 78 24 ∷ on 79 25 ∷ on 80 26 ∷ on 81 27 ∷ on 82 28 ∷ on 83 29 ∷ on 84 30 ∷ on 85 31 ∷ on 86 32 ∷ on 87 33 ∷ on 88 34 ∷ on 89 35 ∷ on 90 36 ∷ on 91 37 ∷ on 92 38 ∷ on 93 39 ∷ on 94 40 ∷ on 95 41 ∷ on 96 42 ∷ []; other = 0; first = 32 ∷ 37 ∷ 38 ∷ 39 ∷ 41 ∷ 42 ∷ 43 ∷ 49 ∷ 63 ∷ 64 ∷ 65 ∷ 66 ∷ 67 ∷ 68 ∷ 69 ∷ 70 ∷ 71 ∷ 72 ∷ 73 ∷ 74 ∷ 75 ∷ 76 ∷ 77 ∷ 78 ∷ 79 ∷ 80 ∷ 81 ∷ 82 ∷ 83 ∷ 84 ∷ 85 ∷ 86 ∷ 87 ∷ 88 ∷ 89 ∷ 90 ∷ 91 ∷ 92 ∷ 93 ∷ 94 ∷ 95 ∷ 96 ∷ []; follow = 14 ∷ 16 ∷ 17 ∷ 20 ∷ 21 ∷ 23 ∷ 24 ∷ 25 ∷ []; null = false; cost = 1; least = 1 }

-- 29: optional (arguments | DoubleColon path)
abbrev r29 : Row
r29 = record { alts = [] ∷ (nt 27 ∷ []) ∷ (tok 14 ∷ nt 40 ∷ []) ∷ []; cases = on 14 3 ∷ on 20 2 ∷ []; other = 1; first = 14 ∷ 20 ∷ []; follow = 16 ∷ 17 ∷ 21 ∷ 23 ∷ 24 ∷ 25 ∷ []; null = true; cost = 3; least = 1 }

-- 30: None | into | assert | panic | dbg
abbrev r30 : Row
r30 = record { alts = (tok 40 ∷ []) ∷ (tok 53 ∷ []) ∷ (tok 50 ∷ []) ∷ (tok 51 ∷ []) ∷ (tok 55 ∷ []) ∷ []; cases = on 40 1 ∷ on 50 3 ∷ on 51 4 ∷ on 53 2 ∷ on 55 5 ∷ []; other = 0; first = 40 ∷ 50 ∷ 51 ∷ 53 ∷ 55 ∷ []; follow = 14 ∷ 16 ∷ 17 ∷ 21 ∷ 23 ∷ 24 ∷ 25 ∷ []; null = false; cost = 1; least = 1 }

-- 31: optional (DoubleColon path)
abbrev r31 : Row
r31 = record { alts = [] ∷ (tok 14 ∷ nt 40 ∷ []) ∷ []; cases = on 14 2 ∷ []; other = 1; first = 14 ∷ []; follow = 16 ∷ 17 ∷ 21 ∷ 23 ∷ 24 ∷ 25 ∷ []; null = true; cost = 1; least = 1 }

-- 32: unwrap_left | unwrap_right | is_none | raw_hash
abbrev r32 : Row
r32 = record { alts = (tok 44 ∷ []) ∷ (tok 45 ∷ []) ∷ (tok 48 ∷ []) ∷ (tok 56 ∷ []) ∷ []; cases = on 44 1 ∷ on 45 2 ∷ on 48 3 ∷ on 56 4 ∷ []; other = 0; first = 44 ∷ 45 ∷ 48 ∷ 56 ∷ []; follow = 14 ∷ 16 ∷ 17 ∷ 21 ∷ 23 ∷ 24 ∷ 25 ∷ []; null = false; cost = 1; least = 1 }

-- 33: optional (DoubleColon (LAngle type RAngle arguments | path))
abbrev r33 : Row
r33 = record { alts = [] ∷ (tok 14 ∷ nt 41 ∷ []) ∷ []; cases = on 14 2 ∷ []; other = 1; first = 14 ∷ []; follow = 16 ∷ 17 ∷ 21 ∷ 23 ∷ 24 ∷ 25 ∷ []; null = true; cost = 1; least = 1 }

-- 34: fold | array_fold
abbrev r34 : Row
r34 = record { alts = (tok 54 ∷ []) ∷ (tok 46 ∷ []) ∷ []; cases = on 46 2 ∷ on 54 1 ∷ []; other = 0; first = 46 ∷ 54 ∷ []; follow = 14 ∷ 16 ∷ 17 ∷ 21 ∷ 23 ∷ 24 ∷ 25 ∷ []; null = false; cost = 1; least = 1 }

-- 35: optional (DoubleColon (LAngle function_name Comma DecLiteral RAngle arguments | path))
abbrev r35 : Row
r35 = record { alts = [] ∷ (tok 14 ∷ nt 42 ∷ []) ∷ []; cases = on 14 2 ∷ []; other = 1; first = 14 ∷ []; follow = 16 ∷ 17 ∷ 21 ∷ 23 ∷ 24 ∷ 25 ∷ []; null = true; cost = 1; least = 1 }

-- 36: optional (DoubleColon (LAngle function_name RAngle arguments | path))
abbrev r36 : Row
r36 = record { alts = [] ∷ (tok 14 ∷ nt 43 ∷ []) ∷ []; cases = on 14 2 ∷ []; other = 1; first = 14 ∷ []; follow = 16 ∷ 17 ∷ 21 ∷ 23 ∷ 24 ∷ 25 ∷ []; null = true; cost = 1; least = 1 }

-- 37: what follows an item of: list of pattern
abbrev r37 : Row
r37 = record { alts = [] ∷ (tok 17 ∷ nt 22 ∷ []) ∷ []; cases = on 17 2 ∷ []; other = 1; first = 17 ∷ []; follow = 21 ∷ 23 ∷ []; null = true; cost = 1; least = 1 }

-- 38: what follows an item of: list of expression
abbrev r38 : Row
r38 = record { alts = [] ∷ (tok 17 ∷ nt 24 ∷ []) ∷ []; cases = on 17 2 ∷ []; other = 1; first = 17 ∷ []; follow = 21 ∷ 23 ∷ []; null = true; cost = 1; least = 1 }

-- 39: arm
abbrev r39 : Row
r39 = record { alts = (nt 44 ∷ tok 19 ∷ nt 45 ∷ []) ∷ []; cases = on 32 1 ∷ on 37 1 ∷ on 38 1 ∷ on 39 1 ∷ on 40 1 ∷ on 41 1 ∷ on 42 1 ∷ on 43 1 ∷ on 44 1 ∷ on 45 1 ∷ on 46 1 ∷ on 47 1 ∷ on 48 1 ∷ on 49 1 ∷ on 50 1 ∷ on 51 1 ∷ on 53 1 ∷ on 54 1 ∷ on 55 1 ∷ on 56 1 ∷ on 61 1 ∷ on 62 1 ∷ on 63 1 ∷ on 64 1 ∷ on 65 1 ∷ on 66 1 ∷ on 67 1 ∷ on 68 1 ∷ on 69 1 ∷ on 70 1 ∷ on 71 1 ∷ on 72 1 ∷ on 73 1 ∷ on 74 1 ∷ on 75 1 ∷ on 76 1 ∷ on 77 1 ∷ on 78 1 ∷ on 79 1 ∷ on 80 1 ∷ on 81 1 ∷ on 82 1 ∷ on 83 1 ∷ on 84 1 ∷ on 85 1 ∷ on 86 1 ∷ on 87 1 ∷ on 88 1 ∷ on 89 1 ∷ on 90 1 ∷ on 91 1 ∷ on 92 1 ∷ on 93 1 ∷ on 94 1 ∷ on 95 1 ∷ on 96 1 ∷ []; other = 0; first = 32 ∷ 37 ∷ 38 ∷ 39 ∷ 40 ∷ 41 ∷ 42 ∷ 43 ∷ 44 ∷ 45 ∷ 46 ∷ 47 ∷ 48 ∷ 49 ∷ 50 ∷ 51 ∷ 53 ∷ 54 ∷ 55 ∷ 56 ∷ 61 ∷ 62 ∷ 63 ∷ 64 ∷ 65 ∷ 66 ∷ 67 ∷ 68 ∷ 69 ∷ 70 ∷ 71 ∷ 72 ∷ 73 ∷ 74 ∷ 75 ∷ 76 ∷ 77 ∷ 78 ∷ 79 ∷ 80 ∷ 81 ∷ 82 ∷ 83 ∷ 84 ∷ 85 ∷ 86 ∷ 87 ∷ 88 ∷ 89 ∷ 90 ∷ 91 ∷ 92 ∷ 93 ∷ 94 ∷ 95 ∷ 96 ∷ []; follow = 25 ∷ 32 ∷ 37 ∷ 38 ∷ 39 ∷ 40 ∷ 41 ∷ 42 ∷ 43 ∷ 44 ∷ 45 ∷ 46 ∷ 47 ∷ 48 ∷ 49 ∷ 50 ∷ 51 ∷ 53 ∷ 54 ∷ 55 ∷ 56 ∷ 61 ∷ 62 ∷ 63 ∷ 64 ∷ 65 ∷ 66 ∷ 67 ∷ 68 ∷ 69 ∷ 70 ∷ 71 ∷ 72 ∷ 73 ∷ 74 ∷ 75 ∷ 76 ∷ 77 ∷ 78 ∷ 79 ∷ 80 ∷ 81 ∷ 82 ∷ 83 ∷ 84 ∷ 85 ∷ 86 ∷ 87 ∷ 88 ∷ 89 ∷ 90 ∷ 91 ∷ 92 ∷ 93 ∷ 94 ∷ 95 ∷ 96 ∷ []; null = false; cost = 9; least = 1 }

-- 40: path
abbrev r40 : Row
r40 = record { alts = (nt 10 ∷ nt 46 ∷ nt 47 ∷ []) ∷ []; cases = []; other = 1; first = 32 ∷ 37 ∷ 38 ∷ 39 ∷ 40 ∷ 41 ∷ 42 ∷ 43 ∷ 44 ∷ 45 ∷ 46 ∷ 47 ∷ 48 ∷ 49 ∷ 50 ∷ 51 ∷ 53 ∷ 54 ∷ 55 ∷ 56 ∷ 63 ∷ 64 ∷ 65 ∷ 66 ∷ 67 ∷ 68 ∷ 69 ∷ 70 ∷ 71 ∷ 72 ∷ 73 ∷ 74 ∷ 75 ∷ 76 ∷ 77 ∷ 78 ∷ 79 ∷ 80 ∷ 81 ∷ 82 ∷ 83 ∷ 84 ∷ 85 ∷ 86 ∷ 87 ∷ 88 ∷ 89 ∷ 90 ∷ 91 ∷ 92 ∷ 93 ∷ 94 ∷ 95 ∷ 96 ∷ []; follow = 16 ∷ 17 ∷ 21 ∷ 23 ∷ 24 ∷ 25 ∷ []; null = false; cost = 9; least = 1 }

-- 41: LAngle type RAngle arguments | path
abbrev r41 : Row
r41 = record { alts = (tok 26 ∷ nt 8 ∷ tok 27 ∷ nt 27 ∷ []) ∷ (nt 40 ∷ []) ∷ []; cases = on 26 1 ∷ []; other = 2; first = 26 ∷ 32 ∷ 37 ∷ 38 ∷ 39 ∷ 40 ∷ 41 ∷ 42 ∷ 43 ∷ 44 ∷ 45 ∷ 46 ∷ 47 ∷ 48 ∷ 49 ∷ 50 ∷ 51 ∷ 53 ∷ 54 ∷ 55 ∷ 56 ∷ 63 ∷ 64 ∷ 65 ∷ 66 ∷ 67 ∷ 68 ∷ 69 ∷ 70 ∷ 71 ∷ 72 ∷ 73 ∷ 74 ∷ 75 ∷ 76 ∷ 77 ∷ 78 ∷ 79 ∷ 80 ∷ 81 ∷ 82 ∷ 83 ∷ 84 ∷ 85 ∷ 86 ∷ 87 ∷ 88 ∷ 89 ∷ 90 ∷ 91 ∷ 92 ∷ 93 ∷ 94 ∷ 95 ∷ 96 ∷ []; follow = 16 ∷ 17 ∷ 21 ∷ 23 ∷ 24 ∷ 25 ∷ []; null = false; cost = 11; least = 2 }

-- 42: LAngle function_name Comma DecLiteral RAngle arguments | path
abbrev r42 : Row
r42 = record { alts = (tok 26 ∷ nt 2 ∷ tok 17 ∷ tok 28 ∷ tok 27 ∷ nt 27 ∷ []) ∷ (nt 40 ∷ []) ∷ []; cases = on 26 1 ∷ []; other = 2; first = 26 ∷ 32 ∷ 37 ∷ 38 ∷ 39 ∷ 40 ∷ 41 ∷ 42 ∷ 43 ∷ 44 ∷ 45 ∷ 46 ∷ 47 ∷ 48 ∷ 49 ∷ 50 ∷ 51 ∷ 53 ∷ 54 ∷ 55 ∷ 56 ∷ 63 ∷ 64 ∷ 65 ∷ 66 ∷ 67 ∷ 68 ∷ 69 ∷ 70 ∷ 71 ∷ 72 ∷ 73 ∷ 74 ∷ 75 ∷ 76 ∷ 77 ∷ 78 ∷ 79 ∷ 80 ∷ 81 ∷ 82 ∷ 83 ∷ 84 ∷ 85 ∷ 86 ∷ 87 ∷ 88 ∷ 89 ∷ 90 ∷ 91 ∷ 92 ∷ 93 ∷ 94 ∷ 95 ∷ 96 ∷ []; follow = 16 ∷ 17 ∷ 21 ∷ 23 ∷ 24 ∷ 25 ∷ []; null = false; cost = 11; least = 2 }

-- 43: LAngle function_name RAngle arguments | path
abbrev r43 : Row
r43 = record { alts = (tok 26 ∷ nt 2 ∷ tok 27 ∷ nt 27 ∷ []) ∷ (nt 40 ∷ []) ∷ []; cases = on 26 1 ∷ []; other = 2; first = 26 ∷ 32 ∷ 37 ∷ 38 ∷ 39 ∷ 40 ∷ 41 ∷ 42 ∷ 43 ∷ 44 ∷ 45 ∷ 46 ∷ 47 ∷ 48 ∷ 49 ∷ 50 ∷ 51 ∷ 53 ∷ 54 ∷ 55 ∷ 56 ∷ 63 ∷ 64 ∷ 65 ∷ 66 ∷ 67 ∷ 68 ∷ 69 ∷ 70 ∷ 71 ∷ 72 ∷ 73 ∷ 74 ∷ 75 ∷ 76 ∷ 77 ∷ 78 ∷ 79 ∷ 80 ∷ 81 ∷ 82 ∷ 83 ∷ 84 ∷ 85 ∷ 86 ∷ 87 ∷ 88 ∷ 89 ∷ 90 ∷ 91 ∷ 92 ∷ 93 ∷ 94 ∷ 95 ∷ 96 ∷ []; follow = 16 ∷ 17 ∷ 21 ∷ 23 ∷ 24 ∷ 25 ∷ []; null = false; cost = 11; least = 2 }

-- 44: head
abbrev r44 : Row
r44 = record { alts = (tok 61 ∷ []) ∷ (tok 62 ∷ []) ∷ (tok 40 ∷ nt 48 ∷ []) ∷ (nt 49 ∷ nt 50 ∷ []) ∷ (nt 51 ∷ nt 52 ∷ []) ∷ []; cases = on 37 4 ∷ on 38 4 ∷ on 39 4 ∷ on 40 3 ∷ on 61 1 ∷ on 62 2 ∷ []; other = 5; first = 32 ∷ 37 ∷ 38 ∷ 39 ∷ 40 ∷ 41 ∷ 42 ∷ 43 ∷ 44 ∷ 45 ∷ 46 ∷ 47 ∷ 48 ∷ 49 ∷ 50 ∷ 51 ∷ 53 ∷ 54 ∷ 55 ∷ 56 ∷ 61 ∷ 62 ∷ 63 ∷ 64 ∷ 65 ∷ 66 ∷ 67 ∷ 68 ∷ 69 ∷ 70 ∷ 71 ∷ 72 ∷ 73 ∷ 74 ∷ 75 ∷ 76 ∷ 77 ∷ 78 ∷ 79 ∷ 80 ∷ 81 ∷ 82 ∷ 83 ∷ 84 ∷ 85 ∷ 86 ∷ 87 ∷ 88 ∷ 89 ∷ 90 ∷ 91 ∷ 92 ∷ 93 ∷ 94 ∷ 95 ∷ 96 ∷ []; follow = 19 ∷ []; null = false; cost = 7; least = 1 }

-- 45: block optional Comma | single Comma
abbrev r45 : Row
r45 = record { alts = (nt 5 ∷ nt 53 ∷ []) ∷ (nt 21 ∷ tok 17 ∷ []) ∷ []; cases = on 24 1 ∷ []; other = 2; first = 9 ∷ 20 ∷ 22 ∷ 24 ∷ 26 ∷ 28 ∷ 29 ∷ 30 ∷ 32 ∷ 33 ∷ 34 ∷ 35 ∷ 37 ∷ 38 ∷ 39 ∷ 40 ∷ 41 ∷ 42 ∷ 43 ∷ 44 ∷ 45 ∷ 46 ∷ 47 ∷ 48 ∷ 49 ∷ 50 ∷ 51 ∷ 53 ∷ 54 ∷ 55 ∷ 56 ∷ 57 ∷ 58 ∷ 59 ∷ 60 ∷ 61 ∷ 62 ∷ 63 ∷ 64 ∷ 65 ∷ 66 ∷ 67 ∷ 68 ∷ 69 ∷ 70 ∷ 71 ∷ 72 ∷ 73 ∷ 74 ∷ 75 ∷ 76 ∷ 77 ∷ 78 ∷ 79 ∷ 80 ∷ 81 ∷ 82 ∷ 83 ∷ 84 ∷ 85 ∷ 86 ∷ 87 ∷ 88 ∷ 89 ∷ 90 ∷ 91 ∷ 92 ∷ 93 ∷ 94 ∷ 95 ∷ 96 ∷ []; follow = 25 ∷ 32 ∷ 37 ∷ 38 ∷ 39 ∷ 40 ∷ 41 ∷ 42 ∷ 43 ∷ 44 ∷ 45 ∷ 46 ∷ 47 ∷ 48 ∷ 49 ∷ 50 ∷ 51 ∷ 53 ∷ 54 ∷ 55 ∷ 56 ∷ 61 ∷ 62 ∷ 63 ∷ 64 ∷ 65 ∷ 66 ∷ 67 ∷ 68 ∷ 69 ∷ 70 ∷ 71 ∷ 72 ∷ 73 ∷ 74 ∷ 75 ∷ 76 ∷ 77 ∷ 78 ∷ 79 ∷ 80 ∷ 81 ∷ 82 ∷ 83 ∷ 84 ∷ 85 ∷ 86 ∷ 87 ∷ 88 ∷ 89 ∷ 90 ∷ 91 ∷ 92 ∷ 93 ∷ 94 ∷ 95 ∷ 96 ∷ []; null = false; cost = 8; least = 2 }

-- 46: any number of (DoubleColon identifier)
abbrev r46 : Row
r46 = record { alts = [] ∷ (tok 14 ∷ nt 10 ∷ nt 46 ∷ []) ∷ []; cases = on 14 2 ∷ []; other = 1; first = 14 ∷ []; follow = 16 ∷ 17 ∷ 19 ∷ 20 ∷ 21 ∷ 23 ∷ 24 ∷ 25 ∷ []; null = true; cost = 1; least = 1 }

-- 47: optional arguments
abbrev r47 : Row
r47 = record { alts = [] ∷ (nt 27 ∷ []) ∷ []; cases = on 20 2 ∷ []; other = 1; first = 20 ∷ []; follow = 16 ∷ 17 ∷ 21 ∷ 23 ∷ 24 ∷ 25 ∷ []; null = true; cost = 3; least = 1 }

-- 48: optional head_path
abbrev r48 : Row
r48 = record { alts = [] ∷ (nt 52 ∷ []) ∷ []; cases = on 14 2 ∷ []; other = 1; first = 14 ∷ []; follow = 19 ∷ []; null = true; cost = 3; least = 1 }

-- 49: Left | Right | Some
abbrev r49 : Row
r49 = record { alts = (tok 37 ∷ []) ∷ (tok 38 ∷ []) ∷ (tok 39 ∷ []) ∷ []; cases = on 37 1 ∷ on 38 2 ∷ on 39 3 ∷ []; other = 0; first = 37 ∷ 38 ∷ 39 ∷ []; follow = 14 ∷ 20 ∷ []; null = false; cost = 1; least = 1 }

-- 50: LParen pair RParen | head_path
abbrev r50 : Row
r50 = record { alts = (tok 20 ∷ nt 54 ∷ tok 21 ∷ []) ∷ (nt 52 ∷ []) ∷ []; cases = on 20 1 ∷ []; other = 2; first = 14 ∷ 20 ∷ []; follow = 19 ∷ []; null = false; cost = 3; least = 2 }

-- 51: other_name
abbrev r51 : Row
r51 = record { alts = (tok 32 ∷ []) ∷ (tok 41 ∷ []) ∷ (tok 42 ∷ []) ∷ (tok 43 ∷ []) ∷ (tok 63 ∷ []) ∷ (tok 64 ∷ []) ∷ (tok 65 ∷ []) ∷ (tok 66 ∷ []) ∷ (tok 67 ∷ []) ∷ (tok 68 ∷ []) ∷ (tok 69 ∷ []) ∷ (tok 70 ∷ []) ∷ (tok 71 ∷ []) ∷ (tok 72 ∷ []) ∷ (tok 73 ∷ []) ∷ (tok 74 ∷ []) ∷ (tok 75 ∷ []) ∷ (tok 76 ∷ []) ∷ (tok 77 ∷ []) ∷ (tok 78 ∷ []) ∷ (tok 79 ∷ []) ∷ (tok 80 ∷ []) ∷ (tok 81 ∷ []) ∷ (tok 82 ∷ []) ∷ (tok 83 ∷ []) ∷ (tok 84 ∷ []) ∷ (tok 85 ∷ []) ∷ (tok 86 ∷ []) ∷ (tok 87 ∷ []) ∷ (tok 88 ∷ []) ∷ (tok 89 ∷ []) ∷ (tok 90 ∷ []) ∷ (tok 91 ∷ []) ∷ (tok 92 ∷ []) ∷ (tok 93 ∷ []) ∷ (tok 94 ∷ []) ∷ (tok 95 ∷ []) ∷ (tok 96 ∷ []) ∷ (tok 44 ∷ []) ∷ (tok 45 ∷ []) ∷ (tok 46 ∷ []) ∷ (tok 47 ∷ []) ∷ (tok 48 ∷ []) ∷ (tok 49 ∷ []) ∷ (tok 50 ∷ []) ∷ (tok 51 ∷ []) ∷ (tok 53 ∷ []) ∷ (tok 54 ∷ []) ∷ (tok 55 ∷ []) ∷ (tok 56 ∷ []) ∷ []; cases = on 32 1 ∷ on 41 2 ∷ on 42 3 ∷ on 43 4 ∷ on 44 39 ∷ on 45 40 ∷ on 46 41 ∷ on 47 42 ∷ on 48 43 ∷ on 49 44 ∷ on 50 45 ∷ on 51 46 ∷ on 53 47 ∷ on 54 48 ∷ on 55 49 ∷ on 56 50 ∷ on 63 5 ∷ on 64 6 ∷ on 65 7 ∷ on 66 8 ∷ on 67 9 ∷ on 68 10 ∷ on 69 11 ∷ on 70 12 ∷ on 71 13 ∷ on 72 14 ∷ on 73 15 ∷ on 74 16 ∷ on 75 17 ∷ on 76 18 ∷ on 77 19 ∷ on 78 20 ∷ on 79 21 ∷ on 80 22 ∷ on 81 23 ∷ on 82 24 ∷ on 83 25 ∷ on 84 26 ∷ on 85 27 ∷ on 86 28 ∷ on 87 29 ∷ on 88 30 ∷ on 89 31 ∷ on 90 32 ∷ on 91 33 ∷ on 92 34 ∷ on 93 35 ∷ on 94 36 ∷ on 95 37 ∷ on 96 38 ∷ []; other = 0; first = 32 ∷ 41 ∷ 42 ∷ 43 ∷ 44 ∷ 45 ∷ 46 ∷ 47 ∷ 48 ∷ 49 ∷ 50 ∷ 51 ∷ 53 ∷ 54 ∷ 55 ∷ 56 ∷ 63 ∷ 64 ∷ 65 ∷ 66 ∷ 67 ∷ 68 ∷ 69 ∷ 70 ∷ 71 ∷ 72 ∷ 73 ∷ 74 ∷ 75 ∷ 76 ∷ 77 ∷ 78 ∷ 79 ∷ 80 ∷ 81 ∷ 82 ∷ 83 ∷ 84 ∷ 85 ∷ 86 ∷ 87 ∷ 88 ∷ 89 ∷ 90 ∷ 91 ∷ 92 ∷ 93 ∷ 94 ∷ 95 ∷ 96 ∷ []; follow = 14 ∷ []; null = false; cost = 1; least = 1 }

-- 52: head_path
abbrev r52 : Row
r52 = record { alts = (tok 14 ∷ nt 10 ∷ nt 46 ∷ nt 55 ∷ []) ∷ []; cases = []; other = 1; first = 14 ∷ []; follow = 19 ∷ []; null = false; cost = 1; least = 1 }

-- 53: optional Comma
abbrev r53 : Row
r53 = record { alts = [] ∷ (tok 17 ∷ []) ∷ []; cases = on 17 2 ∷ []; other = 1; first = 17 ∷ []; follow = 25 ∷ 32 ∷ 37 ∷ 38 ∷ 39 ∷ 40 ∷ 41 ∷ 42 ∷ 43 ∷ 44 ∷ 45 ∷ 46 ∷ 47 ∷ 48 ∷ 49 ∷ 50 ∷ 51 ∷ 53 ∷ 54 ∷ 55 ∷ 56 ∷ 61 ∷ 62 ∷ 63 ∷ 64 ∷ 65 ∷ 66 ∷ 67 ∷ 68 ∷ 69 ∷ 70 ∷ 71 ∷ 72 ∷ 73 ∷ 74 ∷ 75 ∷ 76 ∷ 77 ∷ 78 ∷ 79 ∷ 80 ∷ 81 ∷ 82 ∷ 83 ∷ 84 ∷ 85 ∷ 86 ∷ 87 ∷ 88 ∷ 89 ∷ 90 ∷ 91 ∷ 92 ∷ 93 ∷ 94 ∷ 95 ∷ 96 ∷ []; null = true; cost = 1; least = 1 }

-- 54: pair
abbrev r54 : Row
r54 = record { alts = (nt 20 ∷ tok 15 ∷ nt 8 ∷ []) ∷ []; cases = []; other = 1; first = 20 ∷ 22 ∷ 32 ∷ 37 ∷ 38 ∷ 39 ∷ 40 ∷ 41 ∷ 42 ∷ 43 ∷ 44 ∷ 45 ∷ 46 ∷ 47 ∷ 48 ∷ 49 ∷ 50 ∷ 51 ∷ 53 ∷ 54 ∷ 55 ∷ 56 ∷ 63 ∷ 64 ∷ 65 ∷ 66 ∷ 67 ∷ 68 ∷ 69 ∷ 70 ∷ 71 ∷ 72 ∷ 73 ∷ 74 ∷ 75 ∷ 76 ∷ 77 ∷ 78 ∷ 79 ∷ 80 ∷ 81 ∷ 82 ∷ 83 ∷ 84 ∷ 85 ∷ 86 ∷ 87 ∷ 88 ∷ 89 ∷ 90 ∷ 91 ∷ 92 ∷ 93 ∷ 94 ∷ 95 ∷ 96 ∷ []; follow = 17 ∷ 21 ∷ []; null = false; cost = 4; least = 1 }

-- 55: optional (LParen pair what follows an item of: list of pair RParen)
abbrev r55 : Row
r55 = record { alts = [] ∷ (tok 20 ∷ nt 54 ∷ nt 56 ∷ tok 21 ∷ []) ∷ []; cases = on 20 2 ∷ []; other = 1; first = 20 ∷ []; follow = 19 ∷ []; null = true; cost = 1; least = 1 }

-- 56: what follows an item of: list of pair
abbrev r56 : Row
r56 = record { alts = [] ∷ (tok 17 ∷ nt 57 ∷ []) ∷ []; cases = on 17 2 ∷ []; other = 1; first = 17 ∷ []; follow = 21 ∷ []; null = true; cost = 1; least = 1 }

-- 57: list of pair
abbrev r57 : Row
r57 = record { alts = [] ∷ (nt 54 ∷ nt 56 ∷ []) ∷ []; cases = on 21 1 ∷ []; other = 2; first = 20 ∷ 22 ∷ 32 ∷ 37 ∷ 38 ∷ 39 ∷ 40 ∷ 41 ∷ 42 ∷ 43 ∷ 44 ∷ 45 ∷ 46 ∷ 47 ∷ 48 ∷ 49 ∷ 50 ∷ 51 ∷ 53 ∷ 54 ∷ 55 ∷ 56 ∷ 63 ∷ 64 ∷ 65 ∷ 66 ∷ 67 ∷ 68 ∷ 69 ∷ 70 ∷ 71 ∷ 72 ∷ 73 ∷ 74 ∷ 75 ∷ 76 ∷ 77 ∷ 78 ∷ 79 ∷ 80 ∷ 81 ∷ 82 ∷ 83 ∷ 84 ∷ 85 ∷ 86 ∷ 87 ∷ 88 ∷ 89 ∷ 90 ∷ 91 ∷ 92 ∷ 93 ∷ 94 ∷ 95 ∷ 96 ∷ []; follow = 21 ∷ []; null = true; cost = 8; least = 1 }

-- 58: file
abbrev r58 : Row
r58 = record { alts = [] ∷ (nt 59 ∷ nt 58 ∷ []) ∷ (nt 0 ∷ nt 58 ∷ []) ∷ []; cases = on 0 1 ∷ on 6 2 ∷ []; other = 3; first = 1 ∷ 4 ∷ 6 ∷ []; follow = 0 ∷ []; null = true; cost = 4; least = 1 }

-- 59: type_item
abbrev r59 : Row
r59 = record { alts = (tok 6 ∷ nt 60 ∷ tok 18 ∷ nt 8 ∷ tok 16 ∷ []) ∷ []; cases = on 6 1 ∷ []; other = 0; first = 6 ∷ []; follow = 0 ∷ 1 ∷ 4 ∷ 6 ∷ []; null = false; cost = 1; least = 1 }

-- 60: alias_name
abbrev r60 : Row
r60 = record { alts = (tok 32 ∷ []) ∷ (tok 37 ∷ []) ∷ (tok 38 ∷ []) ∷ (tok 39 ∷ []) ∷ (tok 40 ∷ []) ∷ (tok 44 ∷ []) ∷ (tok 45 ∷ []) ∷ (tok 46 ∷ []) ∷ (tok 47 ∷ []) ∷ (tok 48 ∷ []) ∷ (tok 49 ∷ []) ∷ (tok 50 ∷ []) ∷ (tok 51 ∷ []) ∷ (tok 53 ∷ []) ∷ (tok 54 ∷ []) ∷ (tok 55 ∷ []) ∷ (tok 56 ∷ []) ∷ []; cases = on 32 1 ∷ on 37 2 ∷ on 38 3 ∷ on 39 4 ∷ on 40 5 ∷ on 44 6 ∷ on 45 7 ∷ on 46 8 ∷ on 47 9 ∷ on 48 10 ∷ on 49 11 ∷ on 50 12 ∷ on 51 13 ∷ on 53 14 ∷ on 54 15 ∷ on 55 16 ∷ on 56 17 ∷ []; other = 0; first = 32 ∷ 37 ∷ 38 ∷ 39 ∷ 40 ∷ 44 ∷ 45 ∷ 46 ∷ 47 ∷ 48 ∷ 49 ∷ 50 ∷ 51 ∷ 53 ∷ 54 ∷ 55 ∷ 56 ∷ []; follow = 18 ∷ []; null = false; cost = 1; least = 1 }

-- The rows of the nonterminals, by their numbers.
unfoldable pub table : List Row
table = r0 ∷ r1 ∷ r2 ∷ r3 ∷ r4 ∷ r5 ∷ r6 ∷ r7 ∷ r8 ∷ r9 ∷ r10 ∷ r11 ∷ r12 ∷ r13 ∷ r14 ∷ r15 ∷ r16 ∷ r17 ∷ r18 ∷ r19 ∷ r20 ∷ r21 ∷ r22 ∷ r23 ∷ r24 ∷ r25 ∷ r26 ∷ r27 ∷ r28 ∷ r29 ∷ r30 ∷ r31 ∷ r32 ∷ r33 ∷ r34 ∷ r35 ∷ r36 ∷ r37 ∷ r38 ∷ r39 ∷ r40 ∷ r41 ∷ r42 ∷ r43 ∷ r44 ∷ r45 ∷ r46 ∷ r47 ∷ r48 ∷ r49 ∷ r50 ∷ r51 ∷ r52 ∷ r53 ∷ r54 ∷ r55 ∷ r56 ∷ r57 ∷ r58 ∷ r59 ∷ r60 ∷ []

-- The expression that each nonterminal stands for.
unfoldable pub means : List Ex
means = (child function) ∷ (or eps (mark t.Pub)) ∷ function_name ∷ (list (child parameter) t.Comma) ∷ (or eps (seq (mark t.Arrow) (child type))) ∷ (child block) ∷ (child parameter) ∷ (tail (child parameter) t.Comma) ∷ (child type) ∷ elements ∷ identifier ∷ (or eps (seq (mark t.LAngle) (seq (seq (child type) (seq (mark t.Comma) (child type))) (mark t.RAngle)))) ∷ (or eps (seq (mark t.LAngle) (seq (child type) (mark t.RAngle)))) ∷ (or eps (seq (mark t.LAngle) (seq (seq (child type) (seq (mark t.Comma) (mark t.DecLiteral))) (mark t.RAngle)))) ∷ named_type ∷ (list (child type) t.Comma) ∷ (child assignment) ∷ expression ∷ (or eps (seq (mark t.Semi) elements)) ∷ (tail (child type) t.Comma) ∷ (child pattern) ∷ (child single) ∷ (list (child pattern) t.Comma) ∷ literal ∷ (list expression t.Comma) ∷ (many (child arm)) ∷ (or (mark t.assert!) (or (mark t.panic!) (or (mark t.dbg!) (mark t.Jet)))) ∷ arguments ∷ (or (mark t.unwrap) (or (mark t.Ident) (or (mark t.Left) (or (mark t.Right) (or (mark t.Some) (or (mark t.Either) (or (mark t.Option) (or (mark t.List) (or (mark t.bool) (or (mark t.u1) (or (mark t.u2) (or (mark t.u4) (or (mark t.u8) (or (mark t.u16) (or (mark t.u32) (or (mark t.u64) (or (mark t.u128) (or (mark t.u256) (or (mark t.Ctx8) (or (mark t.Pubkey) (or (mark t.Message) (or (mark t.Message64) (or (mark t.Signature) (or (mark t.Scalar) (or (mark t.Fe) (or (mark t.Ge) (or (mark t.Gej) (or (mark t.Point) (or (mark t.Height) (or (mark t.Time) (or (mark t.Distance) (or (mark t.Duration) (or (mark t.Lock) (or (mark t.Outpoint) (or (mark t.Confidential1) (or (mark t.ExplicitAsset) (or (mark t.Asset1) (or (mark t.ExplicitAmount) (or (mark t.Amount1) (or (mark t.ExplicitNonce) (or (mark t.Nonce) (mark t.TokenAmount1)))))))))))))))))))))))))))))))))))))))))) ∷ (or eps (or arguments (seq (mark t.DoubleColon) path))) ∷ (or (mark t.None) (or (mark t.into) (or (mark t.assert) (or (mark t.panic) (mark t.dbg))))) ∷ (or eps (seq (mark t.DoubleColon) path)) ∷ (or (mark t.unwrap_left) (or (mark t.unwrap_right) (or (mark t.is_none) (mark t.raw_hash)))) ∷ (or eps (seq (mark t.DoubleColon) (or (seq (seq (mark t.LAngle) (seq (child type) (mark t.RAngle))) arguments) path))) ∷ (or (mark t.fold) (mark t.array_fold)) ∷ (or eps (seq (mark t.DoubleColon) (or (seq (seq (mark t.LAngle) (seq (seq function_name (seq (mark t.Comma) (mark t.DecLiteral))) (mark t.RAngle))) arguments) path))) ∷ (or eps (seq (mark t.DoubleColon) (or (seq (seq (mark t.LAngle) (seq function_name (mark t.RAngle))) arguments) path))) ∷ (tail (child pattern) t.Comma) ∷ (tail expression t.Comma) ∷ (child arm) ∷ path ∷ (or (seq (seq (mark t.LAngle) (seq (child type) (mark t.RAngle))) arguments) path) ∷ (or (seq (seq (mark t.LAngle) (seq (seq function_name (seq (mark t.Comma) (mark t.DecLiteral))) (mark t.RAngle))) arguments) path) ∷ (or (seq (seq (mark t.LAngle) (seq function_name (mark t.RAngle))) arguments) path) ∷ head ∷ (or (seq (child block) (or eps (mark t.Comma))) (seq (child single) (mark t.Comma))) ∷ (many (seq (mark t.DoubleColon) identifier)) ∷ (or eps arguments) ∷ (or eps head_path) ∷ (or (mark t.Left) (or (mark t.Right) (mark t.Some))) ∷ (or (seq (mark t.LParen) (seq pair (mark t.RParen))) head_path) ∷ other_name ∷ head_path ∷ (or eps (mark t.Comma)) ∷ pair ∷ (or eps (seq (mark t.LParen) (seq (seq pair (tail pair t.Comma)) (mark t.RParen)))) ∷ (tail pair t.Comma) ∷ (list pair t.Comma) ∷ file ∷ (child type_item) ∷ alias_name ∷ []
