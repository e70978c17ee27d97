-- What the code finds of a record's children, one after the other: whether each has its place, the automaton's state, and how many names, parameters and
-- patterns there are.
-- Assumes nothing: these are definitions.
use Rattle.std.specs.Prelude.{Option, Some, None, Bool, false, ◌&&◌, cond, List, [], ◌∷◌, ℕ, ◌+◌, ◌-◌, eqb, ltb, leb}
use Rattle.own.specs.Tree.{Rec}
use Rattle.load.specs.Children.Cue as cue
use Rattle.load.specs.Children.Cue.{cue}
use Rattle.load.specs.Children.Run.{next, ended}
use Rattle.load.specs.Children.Begin.{agrees, asked_of, start}
use Rattle.load.specs.declared.record.Record.{Record}
use Rattle.load.specs.declared.walk.Seen.{Seen}

-- A record of the code as the numbers that it is.
abbrev pub as_rec : Record → Rec
as_rec r = record { kind = r.kind; start = r.start; stop = r.end; low = r.low; high = r.high; size = r.size }

-- A child that stands among the records that are left, inside the place of its parent.
unfoldable pub sits : ℕ → Rec → Rec → Bool
sits left r c = ltb 0 c.size && (leb c.size left && (leb r.start c.start && leb c.stop r.stop))

unfoldable pub one : ℕ → ℕ → ℕ
one c this = cond (eqb c this) 1 0

-- What is found past one child more,
unfoldable pub past : Seen → Rec → Seen
past s c =
    let its = cue c.kind c.low c.high in
    record {
      left = s.left - c.size;
      state = next s.state c;
      counts = record {
        names = s.counts.names + one its cue.Name;
        parameters = s.counts.parameters + one its cue.Parameter;
        patterns = s.counts.patterns + one its cue.Pattern;
      };
    }

-- and past all of them, which fill what is left.
unfoldable pub judge : Rec → Seen → List Rec → Option Seen
judge r s [] = cond (eqb s.left 0) (Some s) None
judge r s (c ∷ cs) = cond (sits s.left r c) (judge r (past s c) cs) None

-- Before all children of a record, whose automaton begins in this state.
abbrev pub before : Rec → ℕ → Seen
before r q = record { left = r.size - 1; state = q; counts = record { names = 0; parameters = 0; patterns = 0 } }

-- which is that of its kind, low and high.
abbrev pub begun : Rec → Seen
begun r = before r (start r.kind r.low r.high)

-- What is found of a record is right: the children may end there, and their numbers are what its low and high say.
unfoldable pub verdict : Rec → Option Seen → Bool
verdict r None = false
verdict r (Some s) = ended s.state && agrees (asked_of r.kind) r.low r.high s.counts.names s.counts.parameters s.counts.patterns
