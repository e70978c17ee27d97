-- The child that stands for a cue, and the rules of which no shape tells apart children of one cue.
-- Assumes nothing.
use Rattle.std.specs.Prelude.{Bool, true, false, ◌&&◌, not, ◌≡◌, ℕ, suc, T, eqb, ltb, leb, get_or}
use Rattle.std.specs.Bool.{beq}
use Rattle.text.specs.Lists.{has, all}
use Rattle.text.specs.Table.{every}
use Rattle.own.specs.Kinds as kind
use Rattle.own.specs.Arms as arm
use Rattle.kinds.specs.Shape.{Part, of, name, arm, bound, size, Shape, nothing, never, mark, part, ◌▸◌, ◌¦◌, many}
use Rattle.load.specs.Children.Table.{kind_cues, cue_kinds, cue_lows}

-- The number after the last kind.
abbrev pub kinds_end : ℕ
kinds_end = suc kind.Last

abbrev pub kind_of : ℕ → ℕ
kind_of c = get_or cue_kinds c 0

-- A low of an arm that rules name.
unfoldable pub named : ℕ → Bool
named low = ltb 0 low && leb low arm.True

-- A part that no cue parts.
unfoldable pub even : Part → Bool
even (of ks) = all (λ k. ltb k kinds_end) ks && (not (has ks 0) && every (λ k c. beq (has ks k) (has ks (kind_of c))) 0 kind_cues)
even (name cs) = false
even (arm n) = named n
even bound = true
even size = true

unfoldable pub even_in : Shape → Bool
even_in nothing = true
even_in never = true
even_in (mark cs) = true
even_in (part p) = even p
even_in (a ▸ b) = even_in a && even_in b
even_in (a ¦ b) = even_in a && even_in b
even_in (many a) = even_in a

pub record Stand (low c : ℕ) : Type 0 where
  pub its_kind : kind_of c ≡ kind.BuiltinArm
  pub its_low : (n : ℕ) → T (named n) → eqb low n ≡ eqb (get_or cue_lows c 0) n
