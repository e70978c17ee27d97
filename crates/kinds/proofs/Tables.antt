-- The tables of the four helpers, each against its definition by one computed test, and the two decisions against the rules, by one
-- computed test over all kinds and classes, and one over all kinds and child kinds.
-- Assumes nothing.
use mathlib.Core.Bool.{false, not}
use mathlib.Core.List.{List, [], ◌∷◌}
use mathlib.Core.Path.{◌≡◌, sym, ap, ◌∙◌}
use Prim.Native.Nat.{ℕ}
use lib.Bits.{bit_and, and_zero_l}
use lib.Dec.{T, eqb}
use lib.ListN.{get_or}
use Rattle.text.specs.Table.{every}
use Rattle.text.specs.Lists.{some, has, count, span}
use Rattle.kinds.specs.Rules.{forms, all_forms}
use Rattle.kinds.specs.Decide.{kinds_of, gather, in_forms, forms_for, may_own, may_hold}
use Rattle.kinds.specs.Groups.{groups, categories, bits, group_set, mark_set, category_set, part_set}
use Rattle.kinds.proofs.Laws.{Table, got, met}
use Rattle.kinds.proofs.Beyond.{no-class, no-child, no-owner, no-holder, no-marks, no_parts, no-group, no-category}

-- The group of each token class.
abbrev pub group_entries : List ℕ
group_entries =
    0 ∷ 1 ∷ 0 ∷ 0 ∷ 1 ∷ 2 ∷ 4294967296 ∷ 0 ∷ 0 ∷ 4
    ∷ 0 ∷ 0 ∷ 0 ∷ 1 ∷ 8 ∷ 16 ∷ 32 ∷ 64 ∷ 2147483648 ∷ 128
    ∷ 256 ∷ 256 ∷ 512 ∷ 512 ∷ 1024 ∷ 1024 ∷ 2048 ∷ 2048 ∷ 4096 ∷ 8192
    ∷ 16384 ∷ 0 ∷ 32768 ∷ 65536 ∷ 131072 ∷ 262144 ∷ 0 ∷ 524288 ∷ 1048576 ∷ 2097152
    ∷ 4194304 ∷ 8388608 ∷ 16777216 ∷ 33554432 ∷ 67108864 ∷ 67108864 ∷ 67108864 ∷ 67108864 ∷ 67108864 ∷ 67108864
    ∷ 134217728 ∷ 134217728 ∷ 0 ∷ 67108864 ∷ 67108864 ∷ 134217728 ∷ 67108864 ∷ 268435456 ∷ 268435456 ∷ 268435456
    ∷ 536870912 ∷ 1073741824 ∷ 1073741824 ∷ 8589934592 ∷ 17179869184 ∷ 17179869184 ∷ 17179869184 ∷ 17179869184 ∷ 17179869184 ∷ 17179869184
    ∷ 17179869184 ∷ 17179869184 ∷ 17179869184 ∷ 34359738368 ∷ 34359738368 ∷ 34359738368 ∷ 34359738368 ∷ 34359738368 ∷ 34359738368 ∷ 34359738368
    ∷ 34359738368 ∷ 34359738368 ∷ 34359738368 ∷ 34359738368 ∷ 34359738368 ∷ 34359738368 ∷ 34359738368 ∷ 34359738368 ∷ 34359738368 ∷ 34359738368
    ∷ 34359738368 ∷ 34359738368 ∷ 34359738368 ∷ 34359738368 ∷ 34359738368 ∷ 34359738368 ∷ 34359738368 ∷ []

pub group-right : T (every (λ k x. eqb x (group_set k)) 0 group_entries)
unfolding group_set bits has groups
group-right = tt

abbrev pub group_table : Table group_set
group_table = record { entries = group_entries; right = group-right; beyond = no-group }

pub group_at : (n : ℕ) → group_set n ≡ get_or group_entries n 0
group_at = got group_table

-- The groups of the marks of each kind.
abbrev pub marks_entries : List ℕ
marks_entries =
    0 ∷ 321 ∷ 60397551616 ∷ 16 ∷ 267943936 ∷ 34359738368 ∷ 8589934592 ∷ 17179869184 ∷ 8390720 ∷ 16779264
    ∷ 320 ∷ 4640 ∷ 33560640 ∷ 60397486080 ∷ 32768 ∷ 320 ∷ 576 ∷ 2147483666 ∷ 1056 ∷ 524544
    ∷ 1048832 ∷ 2097408 ∷ 4194304 ∷ 1073741824 ∷ 4096 ∷ 8192 ∷ 16384 ∷ 131072 ∷ 262144 ∷ 60393291776
    ∷ 256 ∷ 320 ∷ 576 ∷ 536871488 ∷ 328 ∷ 1028 ∷ 1028 ∷ 1081606608 ∷ 472 ∷ 335546696
    ∷ 4096 ∷ 0 ∷ 6442450976 ∷ []

pub marks-right : T (every (λ k x. eqb x (mark_set k)) 0 marks_entries)
unfolding mark_set bits some may_own has in_forms gather forms_for forms all_forms groups
marks-right = tt

abbrev pub marks_table : Table mark_set
marks_table = record { entries = marks_entries; right = marks-right; beyond = no-marks }

pub marks_at : (n : ℕ) → mark_set n ≡ get_or marks_entries n 0
marks_at = got marks_table

-- The group of each child kind.
abbrev pub category_entries : List ℕ
category_entries =
    0 ∷ 1024 ∷ 1 ∷ 2 ∷ 4 ∷ 4 ∷ 4 ∷ 4 ∷ 4 ∷ 4
    ∷ 4 ∷ 4 ∷ 4 ∷ 8 ∷ 8 ∷ 8 ∷ 8 ∷ 16 ∷ 32 ∷ 64
    ∷ 64 ∷ 64 ∷ 64 ∷ 64 ∷ 64 ∷ 64 ∷ 64 ∷ 64 ∷ 64 ∷ 64
    ∷ 64 ∷ 64 ∷ 64 ∷ 64 ∷ 64 ∷ 64 ∷ 64 ∷ 128 ∷ 256 ∷ 64
    ∷ 512 ∷ 0 ∷ 2048 ∷ []

pub category-right : T (every (λ k x. eqb x (category_set k)) 0 category_entries)
unfolding category_set bits has categories count span
category-right = tt

abbrev pub category_table : Table category_set
category_table = record { entries = category_entries; right = category-right; beyond = no-category }

pub category_at : (n : ℕ) → category_set n ≡ get_or category_entries n 0
category_at = got category_table

-- The groups of the children of each kind.
abbrev pub parts_entries : List ℕ
parts_entries =
    0 ∷ 39 ∷ 0 ∷ 5 ∷ 0 ∷ 0 ∷ 0 ∷ 0 ∷ 4 ∷ 4
    ∷ 4 ∷ 4 ∷ 4 ∷ 0 ∷ 0 ∷ 8 ∷ 8 ∷ 108 ∷ 112 ∷ 96
    ∷ 96 ∷ 96 ∷ 0 ∷ 0 ∷ 0 ∷ 0 ∷ 0 ∷ 0 ∷ 0 ∷ 0
    ∷ 96 ∷ 96 ∷ 96 ∷ 96 ∷ 97 ∷ 224 ∷ 352 ∷ 108 ∷ 109 ∷ 613
    ∷ 0 ∷ 3072 ∷ 5 ∷ []

pub parts-right : T (every (λ k x. eqb x (part_set k)) 0 parts_entries)
unfolding part_set bits some may_hold has in_forms gather kinds_of forms_for forms all_forms categories count span
parts-right = tt

abbrev pub parts_table : Table part_set
parts_table = record { entries = parts_entries; right = parts-right; beyond = no_parts }

pub parts_at : (n : ℕ) → part_set n ≡ get_or parts_entries n 0
parts_at = got parts_table

-- The decision over kinds and classes,
pub owns_at : (kind class : ℕ) → may_own kind class ≡ not (eqb (bit_and (mark_set kind) (group_set class)) 0)
unfolding may_own has in_forms gather forms_for forms all_forms
owns_at kind class = sym (met marks_table group_table may_own tt no-owner no-class kind class)

-- and over kinds and child kinds.
pub holds_at : (kind kid : ℕ) → may_hold kind kid ≡ not (eqb (bit_and (part_set kind) (category_set kid)) 0)
unfolding may_hold has in_forms gather kinds_of forms_for forms all_forms count span
holds_at kind kid = sym (met parts_table category_table may_hold tt no-holder no-child kind kid)

-- Nothing meets an empty set.
pub owns-none : (kind class : ℕ) → mark_set kind ≡ 0 → false ≡ may_own kind class
owns-none kind class e =
    ap (λ (x : ℕ). not (eqb x 0)) (sym (ap (λ (m : ℕ). bit_and m (group_set class)) e ∙ and_zero_l (group_set class))) ∙ sym (owns_at kind class)

pub holds-none : (kind kid : ℕ) → part_set kind ≡ 0 → false ≡ may_hold kind kid
holds-none kind kid e =
    ap (λ (x : ℕ). not (eqb x 0)) (sym (ap (λ (m : ℕ). bit_and m (category_set kid)) e ∙ and_zero_l (category_set kid))) ∙ sym (holds_at kind kid)
