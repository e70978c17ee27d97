-- A run of the automaton over the children of a record.
-- Assumes nothing.
use Rattle.std.specs.Prelude.{Bool, List, [], ◌∷◌, ◌≡◌, ℕ, eqb}
use Rattle.text.specs.Lists.{Some}
use Rattle.own.specs.Tree.{Rec}
use Rattle.kinds.specs.Shape.{Shape}
use Rattle.load.specs.Children.Cue.{cues, cue}
use Rattle.load.specs.Children.Automaton.{entry, residuals}

-- The state after a child, and after all of them.
unfoldable pub next : ℕ → Rec → ℕ
next q r = entry q (cue r.kind r.low r.high)

unfoldable pub run : ℕ → List Rec → ℕ
run q [] = q
run q (r ∷ rs) = run (next q r) rs

-- A record may end in this state.
unfoldable pub ended : ℕ → Bool
ended q = eqb (entry q cues) 1

-- One of the shapes has this state.
abbrev pub Has : ℕ → Shape → Type 0
Has q a = Some (λ r. (r.state ≡ q) × (r.shape ≡ a)) residuals
