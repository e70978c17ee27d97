-- The automaton takes the children of a record exactly when they spell a shape of the state that it began in.
-- Assumes nothing.
use Rattle.std.specs.Prelude.{Bool, true, false, ◌&&◌, cond, List, [], ◌∷◌, map, ◌≡◌, refl, ℕ, ◌+◌, ◌<◌, T, eqb, ltb, leb}
use Rattle.std.specs.Bool.{beq}
use Rattle.std.proofs.Common.{sym, subst, arith, eqb→eq, ltb→lt, leb→le}
use Rattle.text.specs.Lists.{all, some, count}
use Rattle.text.specs.Same.{same}
use Rattle.text.proofs.ListLaws.{some-sound, all-some, from_some, all-count}
use Rattle.text.proofs.Table.{first-of, second-of, beq_same}
use Rattle.num.specs.Bound.{is_bound}
use Rattle.own.specs.Tree.{Rec}
use Rattle.own.specs.Arms as arm
use Rattle.kinds.specs.Shape.{number, Shape, never, Spells}
use Rattle.kinds.specs.Derive.{blank, after, spells}
use Rattle.kinds.proofs.Derive.{spells-sound, spells-complete}
use Rattle.load.specs.Bare.{bare}
use Rattle.load.specs.Children.Table.{state_count, reaches, states, kind_cues}
use Rattle.load.specs.Children.Tidy.{label, equal, tidy}
use Rattle.load.proofs.Children.Tidy.{equal-sound, none_of, tidy-in, tidy-out}
use Rattle.load.specs.Children.Cue as cue
use Rattle.load.specs.Children.Cue.{cues, rep, kind_cue, arm_cue, number_cue, refined, cue}
use Rattle.load.specs.Children.Cues.{even_in}
use Rattle.load.proofs.Children.Cues.{by_kind}
use Rattle.load.proofs.Children.Even.{even-after}
use Rattle.load.specs.Children.Automaton.{entry, Residual, reached, build, residuals, found, right}
use Rattle.load.proofs.Children.Automaton.{table-right}
use Rattle.load.specs.Children.Run.{next, run, ended, Has}

pub has-found : (q : ℕ) (a : Shape) → T (found q a) → Has q a
unfolding found
has-found q a t =
    some-sound (λ r. eqb r.state q && equal r.shape a)
    (λ r u.
    (eqb→eq r.state q (first-of (eqb r.state q) (equal r.shape a) u), equal-sound r.shape a (second-of (eqb r.state q) (equal r.shape a) u)))
    residuals t

-- every cue is one of the table's
kinds-below : (k : ℕ) → kind_cue k < cues
unfolding kind_cues
kinds-below k = ltb→lt (kind_cue k) cues (by_kind (λ j c. ltb c cues) tt (λ j h. tt) k)

arm-below : (low : ℕ) → arm_cue low < cues
unfolding arm_cue
arm-below low = go (ltb 0 low && leb low arm.True) refl
  where
    go : (b : Bool) → (ltb 0 low && leb low arm.True) ≡ b → cond b (cue.Arms + low) cue.Arm < cues
    go true e =
        let most = leb→le low arm.True (second-of (ltb 0 low) (leb low arm.True) (subst (λ (b : Bool). T b) (sym e) tt)) in
        omega arith
    go false e = omega arith

number-below : (n : ℕ) → number_cue n < cues
unfolding number_cue
number-below n = go (is_bound n) (ltb 0 n)
  where
    go : (b s : Bool) → cond b cue.Bound (cond s cue.Size cue.Zero) < cues
    go true s = omega arith
    go false true = omega arith
    go false false = omega arith

pub cue-below : (k low high : ℕ) → cue k low high < cues
unfolding cue refined
cue-below k low high = go (eqb (kind_cue k) cue.Arm) (eqb (kind_cue k) cue.Zero)
  where
    go : (a z : Bool) → cond a (arm_cue low) (cond z (number_cue (number low high)) (kind_cue k)) < cues
    go true z = arm-below low
    go false true = number-below (number low high)
    go false false = kinds-below k

-- what the table says of a state and a shape of it
record Known (q : ℕ) (a : Shape) : Type 0 where
  is_even : T (even_in a)
  is_state : q < state_count
  ends_so : blank a ≡ ended q
  goes_on : (c : ℕ) → c < cues → Has (entry q c) (tidy (after (rep c) a))

known_of : (r : Residual) → T (right r) → Known r.state r.shape
unfolding right ended
known_of r t =
    let a = even_in r.shape in
    let s = ltb r.state state_count in
    let b = beq (blank r.shape) (eqb (entry r.state cues) 1) in
    let f : ℕ → Bool = λ c. found (entry r.state c) (tidy (after (rep c) r.shape)) in
    let e = all f (count cues 0) in
    let u = second-of a (s && (b && e)) t in
    let v = second-of s (b && e) u in
    record {
      is_even = first-of a (s && (b && e)) t;
      is_state = ltb→lt r.state state_count (first-of s (b && e) u);
      ends_so = beq_same (blank r.shape) (eqb (entry r.state cues) 1) (first-of b e v);
      goes_on = λ c h. has-found (entry r.state c) (tidy (after (rep c) r.shape)) (all-count f cues 0 c (second-of b e v) (omega arith) (omega arith));
    }

known : (q : ℕ) (a : Shape) → Has q a → Known q a
known q a h =
    from_some (λ r x. subst (λ (b : Shape). Known q b) x.1.1 (subst (λ (p : ℕ). Known p r.shape) x.1.0 (known_of r x.0)))
    (all-some right table-right h)

-- The state of a shape is one of the table's.
pub known-state : (q : ℕ) (a : Shape) → Has q a → q < state_count
known-state q a h = (known q a h).is_state

-- The children that a shape has lead to an end,
pub run_in : (q : ℕ) (a : Shape) (rs : List Rec) → Has q a → Spells a (map bare rs) → T (ended (run q rs))
unfolding spells run next
run_in q a [] h p = subst (λ (b : Bool). T b) (known q a h).ends_so (spells-complete a [] p)
run_in q a (r ∷ rs) h p =
    let k = known q a h in
    let c = cue r.kind r.low r.high in
    let s : Spells (after (bare r) a) (map bare rs) = spells-sound (after (bare r) a) (map bare rs) (spells-complete a (bare r ∷ map bare rs) p) in
    run_in (entry q c) (tidy (after (rep c) a)) rs (k.goes_on c (cue-below r.kind r.low r.high))
    (tidy-in (subst (λ (b : Shape). Spells b (map bare rs)) (even-after a k.is_even r.kind r.low r.high) s))

-- and those that lead to an end are children that it has.
pub run_out : (q : ℕ) (a : Shape) (rs : List Rec) → Has q a → T (ended (run q rs)) → Spells a (map bare rs)
unfolding spells run next
run_out q a [] h t = spells-sound a [] (subst (λ (b : Bool). T b) (sym (known q a h).ends_so) t)
run_out q a (r ∷ rs) h t =
    let k = known q a h in
    let c = cue r.kind r.low r.high in
    let s = run_out (entry q c) (tidy (after (rep c) a)) rs (k.goes_on c (cue-below r.kind r.low r.high)) t in
    let u : Spells (after (bare r) a) (map bare rs) =
    subst (λ (b : Shape). Spells b (map bare rs)) (sym (even-after a k.is_even r.kind r.low r.high)) (tidy-out (after (rep c) a) (map bare rs) s) in
    spells-sound a (bare r ∷ map bare rs) (spells-complete (after (bare r) a) (map bare rs) u)

-- The state 0 is that of the shape that has none.
dead-found : T (found 0 never)
unfolding found residuals build reached reaches states some equal label same
dead-found = tt

-- so that nothing leads from it to an end
pub dead-ends : (rs : List Rec) → T (ended (run 0 rs)) → ⊥
dead-ends rs t = none_of (run_out 0 never rs (has-found 0 never dead-found) t) refl
