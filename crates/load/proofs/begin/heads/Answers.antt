-- The table's rows, computed over all kinds.
-- Assumes nothing.
use Rattle.text.specs.Lists.{all, count}
use Rattle.load.specs.Children.Begin.{asked_of, first_of, lows_of, state_of}
use Rattle.load.specs.Children.Table.{heads}
use Rattle.load.proofs.BeginLaws.{row-is, rows-are, all-heads}
use Rattle.load.proofs.begin.heads.Goals as goal

pub returns : goal.returns
unfolding rows-are row-is asked_of first_of lows_of state_of heads all count
returns c = all-heads _ tt
