-- The order of a match's arms as a number, by name: 0 is no arm, one built-in arm has the number of its low (own's Arms), and what follows stands
-- above those.
-- Assumes nothing.
use Rattle.std.specs.Prelude.{ℕ}

-- Enum arms, however many.
abbrev pub Enums : ℕ
Enums = 7

-- Two built-in arms that are partners, in the canonical order,
abbrev pub Paired : ℕ
Paired = 8

-- and the other way round.
abbrev pub Turned : ℕ
Turned = 9

-- Two that are no partners.
abbrev pub Unpaired : ℕ
Unpaired = 10

-- More than two.
abbrev pub More : ℕ
More = 11

-- Enum and built-in arms.
abbrev pub Mixed : ℕ
Mixed = 12
