-- The automaton of a record's children, and whether its table is right, as one test over all shapes and cues.
-- Assumes nothing.
use Rattle.std.specs.Prelude.{Bool, ◌&&◌, List, [], ◌∷◌, ◌++◌, ℕ, suc, ◌+◌, ◌*◌, eqb, ltb, get_or}
use Rattle.std.specs.Bool.{beq}
use Rattle.text.specs.Lists.{all, some, count}
use Rattle.kinds.specs.Shape.{Shape, nothing, never}
use Rattle.kinds.specs.Derive.{blank, after}
use Rattle.kinds.specs.Fields.{plain}
use Rattle.kinds.specs.Rules.{all_forms}
use Rattle.kinds.specs.Rules as rules
use Rattle.load.specs.Children.Tidy.{equal, tidy}
use Rattle.load.specs.Children.Table as table
use Rattle.load.specs.Children.Table.{Reach, form, by, state_count, reaches, states, steps}
use Rattle.load.specs.Children.Cue.{cues, rep}
use Rattle.load.specs.Children.Cues.{even_in}
use Rattle.load.specs.Children.Laid.{laid}

-- The entries of a state: the next state by cue, and behind them 1 where a record may end.
abbrev pub columns : ℕ
columns = suc cues

unfoldable pub entry : ℕ → ℕ → ℕ
entry q c = get_or steps (columns * q + c) 0

-- A shape that is left, and its state.
pub record Residual : Type 0 where
  pub state : ℕ
  pub shape : Shape

-- The shape that is reached so, where these have been reached before.
unfoldable pub reached : List Shape → Reach → Shape
reached before table.dead = never
reached before (form i) = tidy (laid (get_or all_forms i (rules.form 0 plain nothing)))
reached before (by p c) = tidy (after (rep c) (get_or before p never))

-- The shapes, one after the other, with their states.
unfoldable pub build : List Shape → List Residual → List Reach → List ℕ → List Residual
build before done [] qs = done
build before done (r ∷ rs) [] = done
build before done (r ∷ rs) (q ∷ qs) = build (before ++ (reached before r ∷ [])) (record { state = q; shape = reached before r } ∷ done) rs qs

unfoldable pub residuals : List Residual
residuals = build [] [] reaches states

-- One of them has this state and this shape.
unfoldable pub found : ℕ → Shape → Bool
found q a = some (λ r. eqb r.state q && equal r.shape a) residuals

-- No cue parts a part of the shape, it ends as its state does, and after each cue the shape that is left has the next state.
unfoldable pub right : Residual → Bool
right r =
    even_in r.shape
    && (ltb r.state state_count
    && (beq (blank r.shape) (eqb (entry r.state cues) 1)
    && all (λ c. found (entry r.state c) (tidy (after (rep c) r.shape))) (count cues 0)))
