-- What has been seen of children stays small: a state of the table, and no more of a sort than records.
-- Assumes nothing.
use Rattle.std.specs.Prelude.{Option, Some, None, ℕ, ◌+◌, ◌<◌, ◌≤◌}
use Rattle.own.specs.Tree.{Rec}
use Rattle.kinds.specs.Shape.{half_range}
use Rattle.load.specs.Children.Table.{state_count}
use Rattle.load.specs.declared.walk.Seen.{Seen}

pub record Small (s : Seen) : Type 0 where
  pub state : s.state < state_count
  pub names : s.counts.names + s.left < half_range
  pub parameters : s.counts.parameters + s.left < half_range
  pub patterns : s.counts.patterns + s.left < half_range

-- The state that a walk ends in is one of the table's.
abbrev pub Below : Option Seen → Type 0
Below None = Unit {0}
Below (Some s) = s.state < state_count

-- what a child that sits has
pub record Sat (left : ℕ) (r c : Rec) : Type 0 where
  pub some : 0 < c.size
  pub fit : c.size ≤ left
  pub from : r.start ≤ c.start
  pub to : c.stop ≤ r.stop
