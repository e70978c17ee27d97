-- What the code's table of heads gives.
-- Assumes nothing.
use mathlib.Core.List.{List}
use mathlib.Core.Bool.{Bool, true, false, ◌&&◌, cond, beq, and-false}
use mathlib.Core.Path.{◌≡◌, sym, ap, ◌∙◌, subst}
use Prim.Native.Nat.{ℕ, suc, ◌<◌, ◌≤◌}
use native.Mathlib.Omega.{arith}
use borrow.Author.Tests.{lt-ltb, le-ltb}
use lib.Dec.{T, eqb, ltb, eqb→eq}
use lib.Count.{ones}
use lib.ListN.{get_or, length}
use Rattle.text.specs.Lists.{has, all, count, span}
use Rattle.text.proofs.ListLaws.{all-count}
use Rattle.text.proofs.Table.{first-of, second-of, beq_same}
use Rattle.std.specs.Int.{is_power_of_two}
use Rattle.std.specs.Prelude.{Option, Some, None, MatchOption}
use Rattle.load.specs.declared.begin.Head.{Head}
use Rattle.load.specs.Checks.Heads.{asked_number, HeadOf, AllHeads}
use Rattle.std.specs.Slice.{IsItemAt}
use denote.Ref.{Bor}
use Rattle.load.specs.Children.Table.{state_count}
use Rattle.load.specs.Children.Cues.{kinds_end}
use Rattle.load.proofs.Children.Cues.{has-none}
use Rattle.load.specs.Children.Begin as begin
use Rattle.load.specs.Children.Begin.{which, besides, agrees, asked_of, lows_of, state_of, start}
use Rattle.load.proofs.Children.Begins.{start-below}

-- The bits of the unsigned types.
abbrev most : ℕ
most = 256

bits-tested : T (all (λ n. beq (is_power_of_two n) (has begin.bits n)) (count (suc most) 0))
unfolding all has count span begin.bits ones
bits-tested = tt

pub bits-over : (low : ℕ) → most < low → false ≡ has begin.bits low
unfolding begin.bits all span count
bits-over low h = sym (has-none begin.bits (suc most) low tt h)

pub bits-power : (low : ℕ) → low ≤ most → {b : Bool} → b ≡ is_power_of_two low → b ≡ has begin.bits low
bits-power low h is =
    is ∙ beq_same (is_power_of_two low) (has begin.bits low) (all-count (λ m. beq (is_power_of_two m) (has begin.bits m)) (suc most) 0 low bits-tested (omega arith) (omega arith))

-- Each of the code's rows says what the table of heads says of its kind.
unfoldable pub row-is : ℕ → Option Head → Bool
row-is k (Some h) =
    eqb (asked_number h.asked) (asked_of k)
    && (eqb (length h.begins.now) (lows_of k) && all (λ i. eqb (get_or h.begins.now i 0) (state_of k i)) (count (length h.begins.now) 0))
row-is k None = eqb (asked_of k) 0 && eqb (lows_of k) 0

row-head : (k : ℕ) (o : Option Head) → T (row-is k o) → HeadOf k o
unfolding row-is
row-head k (Some h) t =
    let a = eqb (asked_number h.asked) (asked_of k) in
    let l = eqb (length h.begins.now) (lows_of k) in
    let state : ℕ → Bool = λ i. eqb (get_or h.begins.now i 0) (state_of k i) in
    let s = all state (count (length h.begins.now) 0) in
    let u = second-of a (l && s) t in
    record {
      asked = eqb→eq (asked_number h.asked) (asked_of k) (first-of a (l && s) t);
      lows = eqb→eq (length h.begins.now) (lows_of k) (first-of l s u);
      states = λ i below. eqb→eq (get_or h.begins.now i 0) (state_of k i) (all-count state (length h.begins.now) 0 i (second-of l s u) (omega arith) (omega arith));
    }
row-head k None t =
    (eqb→eq (asked_of k) 0 (first-of (eqb (asked_of k) 0) (eqb (lows_of k) 0) t), eqb→eq (lows_of k) 0 (second-of (eqb (asked_of k) 0) (eqb (lows_of k) 0) t))

unfoldable pub rows-are : List (Option Head) → Bool
rows-are rows = eqb (length rows) kinds_end && all (λ k. row-is k (get_or rows k None)) (count kinds_end 0)

pub all-heads : (rows : List (Option Head)) → T (rows-are rows) → AllHeads rows
unfolding rows-are
all-heads rows t =
    let row : ℕ → Bool = λ k. row-is k (get_or rows k None) in
    let long = eqb (length rows) kinds_end in
    let each = all row (count kinds_end 0) in
    record {
      as_many = eqb→eq (length rows) kinds_end (first-of long each t);
      each = λ k h. row-head k (get_or rows k None) (all-count row kinds_end 0 k (second-of long each t) (omega arith) (omega arith));
    }

-- Past the table there is no row.
module _ {rows : List (Option Head)} (its : AllHeads rows) (k : ℕ) {r : Option (Bor (Option Head))} (g : IsItemAt rows k r) where
  pub head-not : r ≡ None → HeadOf k None
  unfolding asked_of lows_of
  head-not e =
      let past : length rows ≤ k = (subst (IsItemAt rows k) e g).3 in
      let over : kinds_end ≤ k = omega (arith, its.as_many) in
      (simp (le-ltb k kinds_end over), simp (le-ltb k kinds_end over))

-- The state, and that it is one of the table's.
abbrev pub Started : ℕ → ℕ → ℕ → ℕ → Type 0
Started r k low high = (r ≡ start k low high) × (r < state_count)

started : (r k low high : ℕ) → r ≡ start k low high → Started r k low high
started r k low high e = (e, subst (λ (q : ℕ). q < state_count) (sym e) (start-below k low high))

-- A kind that there is not has no lows, and asks nothing of the numbers of children.
pub start-without : (k low high : ℕ) {o : Option Head} → o ≡ None → HeadOf k o → Started 0 k low high
unfolding start
start-without k low high none row =
    let its = subst (HeadOf k) none row in
    started 0 k low high (simp (le-ltb (which (asked_of k) low) (lows_of k) (omega (arith, its.1))))

agrees-without : (k low high names parameters patterns : ℕ) → HeadOf k None → true ≡ agrees (asked_of k) low high names parameters patterns
unfolding agrees
agrees-without k low high names parameters patterns its = ap (λ (a : ℕ). agrees a low high names parameters patterns) (sym its.0)

pub agrees-by-row : (k low high names parameters patterns : ℕ) (o : Option Head) {b : Bool} {P : Head → Type 0} → HeadOf k o → MatchOption o (b ≡ true) P
    → ((h : Head) → P h → b ≡ agrees (asked_number h.asked) low high names parameters patterns) → b ≡ agrees (asked_of k) low high names parameters patterns
agrees-by-row k low high names parameters patterns None its e f = e ∙ agrees-without k low high names parameters patterns its
agrees-by-row k low high names parameters patterns (Some h) its e f = f h e ∙ ap (λ (a : ℕ). agrees a low high names parameters patterns) its.asked

module _ (k low high : ℕ) {o : Option Head} {h : Head} (some : o ≡ Some h) (row : HeadOf k o) {i : ℕ} (at : i ≡ which (asked_number h.asked) low) where
  its : HeadOf k (Some h)
  its = subst (HeadOf k) some row

  there : i ≡ which (asked_of k) low
  there = at ∙ ap (λ (x : ℕ). which x low) its.asked

  module _ {r : Option (Bor ℕ)} (g : IsItemAt h.begins.now i r) where
    pub start-past : r ≡ None → Started 0 k low high
    unfolding start
    start-past e =
        let past : length h.begins.now ≤ i = (subst (IsItemAt h.begins.now i) e g).3 in
        started 0 k low high (simp (le-ltb (which (asked_of k) low) (lows_of k) (omega (arith, there, its.lows, past))))

    pub start-there : {b : Bool} → b ≡ besides (asked_number h.asked) low high → b ≡ true → (x : Bor ℕ) → r ≡ Some x → {q : ℕ} → q ≡ x.now → Started q k low high
    unfolding start
    start-there {b} e t x f {q} is =
        let item = subst (IsItemAt h.begins.now i) f g in
        let within : i < length h.begins.now = item.3.0 in
        let asks : besides (asked_of k) low high ≡ true = ap (λ (a : ℕ). besides a low high) (sym its.asked) ∙ sym e ∙ t in
        started q k low high
        (is ∙ item.3.1 0 ∙ its.states i within ∙ ap (state_of k) there
        ∙ sym (simp (lt-ltb (which (asked_of k) low) (lows_of k) (omega (arith, there, its.lows, within)), asks)))

  pub start-not : {b : Bool} → b ≡ besides (asked_number h.asked) low high → b ≡ false → Started 0 k low high
  unfolding start
  start-not {b} e f =
      let asks : besides (asked_of k) low high ≡ false = ap (λ (a : ℕ). besides a low high) (sym its.asked) ∙ sym e ∙ f in
      started 0 k low high (sym (ap (λ (x : Bool). cond (ltb (which (asked_of k) low) (lows_of k) && x) (state_of k (which (asked_of k) low)) 0) asks
      ∙ ap (λ (x : Bool). cond x (state_of k (which (asked_of k) low)) 0) (and-false (ltb (which (asked_of k) low) (lows_of k)))))
