-- The automaton's table is right, by one computation over all shapes and cues.
-- Assumes nothing.
use Rattle.std.specs.Prelude.{T}
use Rattle.text.specs.Lists.{has, all, some, count, span}
use Rattle.text.specs.Same.{same}
use Rattle.num.specs.Bound.{is_bound}
use Rattle.kinds.specs.Shape.{number, fits}
use Rattle.kinds.specs.Derive.{blank, dead, then, either, is_mark, is_part, after}
use Rattle.kinds.specs.Rules.{forms, all_forms}
use Rattle.load.specs.Bare.{bare_part, bare_shape}
use Rattle.load.specs.Children.Tidy.{part_label, label, first, second, equal, joined, chain, within, added, choice, tidy}
use Rattle.load.specs.Children.Table.{reaches, states, steps, kind_cues, cue_kinds, cue_lows}
use Rattle.load.specs.Children.Cues.{named, even, even_in}
use Rattle.load.specs.Children.Laid.{laid}
use Rattle.load.specs.Children.Automaton.{entry, reached, build, residuals, found, right}

-- The table is right: one computation.
pub table-right : T (all right residuals)
unfolding
    right residuals build reached found entry even_in even named kind_cues cue_kinds cue_lows reaches states steps all some has count span number
    is_bound fits blank dead then either is_mark is_part after forms all_forms bare_part bare_shape laid part_label label first second equal same
    joined chain within added choice tidy
table-right = tt
