-- What the steps of the walk over a record's children give.
-- Assumes nothing.
use mathlib.Core.Bool.{Bool, true, false, ◌&&◌, cond}
use mathlib.Core.List.{[]}
use Rattle.text.specs.Lists.{all, count}
use Rattle.text.proofs.ListLaws.{all-count}
use mathlib.Core.Path.{◌≡◌, refl, ap, ◌∙◌}
use Prim.Native.Nat.{ℕ, ◌+◌, ◌-◌, ◌*◌, ◌<◌, ◌≤◌}
use native.Mathlib.Omega.{arith}
use mir.Val.{bool_byte}
use lib.Dec.{T, eqb, ltb, eqb→eq, ltb→lt}
use lib.ListN.{length, get_or}
use Rattle.text.specs.Table.{every}
use Rattle.text.proofs.Table.{at, first-of, second-of, beq_same}
use Rattle.std.specs.Bool.{beq}
use Rattle.own.specs.Tree.{Rec}
use Rattle.load.specs.declared.table.TheConstants.{STATES}
use Rattle.load.specs.Children.Table.{state_count, steps}
use Rattle.load.specs.Children.Cue as cue
use Rattle.load.specs.Children.Cue.{cues, cue}
use Rattle.load.specs.Children.Automaton.{columns, entry}
use Rattle.load.specs.Children.Run.{next, ended}
use Rattle.load.proofs.Children.Run.{cue-below}
use Rattle.load.specs.Checks.Judge.{one, past}
use Rattle.load.specs.declared.walk.Seen.{Seen}
use Rattle.load.specs.declared.walk.State.{State}

-- every entry of the table is a state, or says whether a record may end
entries_below : T (every (λ i q. ltb q state_count) 0 steps)
unfolding steps
entries_below = tt

steps-long : length steps ≡ columns * state_count
unfolding steps
steps-long = refl

pub in-steps : (q c : ℕ) → q < state_count → c ≤ cues → columns * q + c < columns * state_count
in-steps q c h k = omega arith

pub entry-below : (q c : ℕ) → q < state_count → c < cues → entry q c < state_count
unfolding entry
entry-below q c h k =
    let i = in-steps q c h (omega arith) in
    ltb→lt (get_or steps (columns * q + c) 0) state_count (at (λ i x. ltb x state_count) steps 0 entries_below (columns * q + c) (omega (arith, steps-long)))

-- The code's states have the entries of the table.
abbrev pub none : State
none = record { next = []; ends = false }

state-is : ℕ → Bool
state-is q = all (λ c. eqb (get_or (get_or STATES q none).next c 0) (entry q c)) (count cues 0) && beq (get_or STATES q none).ends (ended q)

states-are : T (all state-is (count state_count 0))
unfolding state-is entry ended steps all count
states-are = tt

module _ (q : ℕ) (h : q < state_count) where
  nexts : Bool
  nexts = all (λ c. eqb (get_or (get_or STATES q none).next c 0) (entry q c)) (count cues 0)

  end : Bool
  end = beq (get_or STATES q none).ends (ended q)

  its-state : T (nexts && end)
  unfolding state-is nexts end
  its-state = all-count state-is state_count 0 q states-are (omega arith) (omega arith)

  pub next-is : (c : ℕ) {r : ℕ} → c < cues → r ≡ get_or (get_or STATES q none).next c 0 → (r ≡ entry q c) × (r < state_count)
  unfolding nexts
  next-is c {r} k e =
      let p : r ≡ entry q c = e ∙ eqb→eq (get_or (get_or STATES q none).next c 0) (entry q c) (all-count (λ d. eqb (get_or (get_or STATES q none).next d 0) (entry q d)) cues 0 c (first-of nexts end its-state) (omega arith) (omega arith)) in
      let b = entry-below q c h k in
      (p, omega arith)

  pub ends-is : {b : Bool} → b ≡ (get_or STATES q none).ends → b ≡ ended q
  unfolding end
  ends-is e = e ∙ beq_same (get_or STATES q none).ends (ended q) (second-of nexts end its-state)

-- One, where the cue is this one.
pub as-one : (c this : ℕ) {n : ℕ} → n ≡ bool_byte (eqb c this) → n ≡ one c this
unfolding one
as-one c this e = e ∙ go (eqb c this)
  where
    go : (b : Bool) → bool_byte b ≡ cond b 1 0
    go true = refl
    go false = refl

pub one-small : (c this : ℕ) → one c this ≤ 1
unfolding one
one-small c this = go (eqb c this)
  where
    go : (b : Bool) → cond b 1 0 ≤ 1
    go true = omega arith
    go false = omega arith

-- a cue is one of the table's
pub cue-within : (k low high : ℕ) {c : ℕ} → c ≡ cue k low high → c < cues
cue-within k low high e = let h = cue-below k low high in omega arith

-- Past one child more.
pub past_is : (s : Seen) (c : Rec) {its a n p q : ℕ} → its ≡ cue c.kind c.low c.high → a ≡ entry s.state its → n ≡ one its cue.Name → p ≡ one its cue.Parameter → q ≡ one its cue.Pattern
    → ◌≡◌ {A = Seen} (record { left = s.left - c.size; state = a; counts = record { names = s.counts.names + n; parameters = s.counts.parameters + p; patterns = s.counts.patterns + q } }) (past s c)
unfolding past next
past_is s c e a n p q i =
    record {
      left = s.left - c.size;
      state = (a ∙ ap (entry s.state) e) i;
      counts = record {
        names = s.counts.names + (n ∙ ap (λ x. one x cue.Name) e) i;
        parameters = s.counts.parameters + (p ∙ ap (λ x. one x cue.Parameter) e) i;
        patterns = s.counts.patterns + (q ∙ ap (λ x. one x cue.Pattern) e) i;
      };
    }
