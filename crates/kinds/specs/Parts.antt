-- The numbers of the groups of child kinds: the set of one group, and 0, the empty set, where there is none.
-- Assumes nothing.
use Rattle.std.specs.Prelude.{ℕ, ◌^◌, Option, None, Some}
use Rattle.kinds.specs.declared.part.Part.{Part}
use Rattle.kinds.specs.declared.part.Part.TheVariants as part

abbrev pub part_number : Part → ℕ
part_number part.Name = 2 ^ 0
part_number part.Parameter = 2 ^ 1
part_number part.Type = 2 ^ 2
part_number part.Pattern = 2 ^ 3
part_number part.Let = 2 ^ 4
part_number part.Block = 2 ^ 5
part_number part.Single = 2 ^ 6
part_number part.BuiltinArm = 2 ^ 7
part_number part.EnumArm = 2 ^ 8
part_number part.Number = 2 ^ 9
part_number part.Function = 2 ^ 10
part_number part.TypeItem = 2 ^ 11

abbrev pub part_or_none : Option Part → ℕ
part_or_none None = 0
part_or_none (Some p) = part_number p
