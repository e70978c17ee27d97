-- The loop that writes a run's digits into a cleared buffer, one law a kind of turn.
-- Assumes nothing.
use Rattle.std.specs.Prelude.{None, Some}
use mathlib.Core.List.{List, ◌∷◌, ◌++◌, append-nil}
use mathlib.Core.Path.{◌≡◌, refl, sym, ◌∙◌, ap}
use Prim.Native.Nat.{ℕ, suc, ◌+◌, ◌-◌, ◌≤◌, ◌<◌}
use native.Mathlib.Numerals.{add-one}
use native.Mathlib.Omega.{arith}
use borrow.Author.Tests.{le-leb, lt-leb}
use lib.ListN.{length, get_or, set, take, drop, replicate, length-append, length-set, length-replicate, take-append-drop}
use lib.Seq.{length-take-le, take-suc-set, drop-set-lt, drop-drop, append_snoc}
use Rattle.num.specs.Digits.{plain, answer_of, buffer_of}
use Rattle.num.proofs.Runs.{passed, kept, over}

-- The run is read up to i, and its first n digits stand in the buffer of m bytes, with zeros after them.
pub record Filled (run out : List ℕ) (i n m : ℕ) : Type 0 where
  pub within : i ≤ length run
  pub room : n ≤ m
  pub long : length out ≡ m
  pub front : take n out ++ plain (drop i run) ≡ plain run
  pub back : drop n out ≡ replicate (m - n) 0

module _ (run : List ℕ) where
  pub starts : (out : List ℕ) (k : ℕ) → out ≡ replicate k 0 → Filled run out 0 0 (length out)
  starts out k q =
      let e : k ≡ length out - 0 = omega (arith, ap length q ∙ length-replicate k 0) in
      record { within = omega arith; room = omega arith; long = refl; front = refl; back = q ∙ ap (λ j. replicate j 0) e }

  module _ (out : List ℕ) (i n m : ℕ) (a : Filled run out i n m) where
    count : length (take n out) ≡ n
    count = length-take-le n out (omega (arith, a.long))

    -- at the end of the run the digits are all there
    module _ (h : length run ≤ i) where
      whole : take n out ≡ plain run
      whole = rw (over run i h, append-nil) at a.front

      all : length (plain run) ≡ n
      all = sym (ap length whole) ∙ count

      pub end_answer : Some n ≡ answer_of (plain run) m
      unfolding answer_of
      end_answer = rw (all, le-leb n m a.room) refl

      pub end_buffer : out ≡ buffer_of (plain run) m
      unfolding buffer_of
      end_buffer = rw (all, le-leb n m a.room, ← whole, ← a.back) (sym (take-append-drop n out))

    module _ (h : i < length run) where
      pub passes : get_or run i 0 ≡ 95 → Filled run out (i + 1) n m
      passes e =
          record { within = omega arith; room = a.room; long = a.long; front = rw (passed run i h e) at a.front; back = a.back }

      module _ (e : get_or run i 0 ≡ 95 → ⊥) where
        next : take n out ++ get_or run i 0 ∷ plain (drop (i + 1) run) ≡ plain run
        next = rw (kept run i h e) at a.front

        pub stores : (n ≡ length out → ⊥) → Filled run (set out n (get_or run i 0)) (i + 1) (n + 1) m
        stores l =
            let s : n < length out = omega (arith, a.long, a.room, l) in
            let k : m - n ≡ suc (m - (n + 1)) = omega (arith, a.long) in
            record {
              within = omega arith;
              room = omega (arith, a.long);
              long = length-set out n (get_or run i 0) ∙ a.long;
              front = rw (add-one n, take-suc-set out n (get_or run i 0) s, append_snoc) next;
              back = drop-set-lt (n + 1) out n (get_or run i 0) (omega arith) ∙ sym (drop-drop 1 n out) ∙ ap (drop 1) (a.back ∙ ap (λ j. replicate j 0) k);
            }

        -- a digit more than the buffer has room for
        module _ (l : n ≡ length out) where
          more : m < length (plain run)
          more = omega (arith, a.long, count, sym (ap length next) ∙ length-append (take n out) (get_or run i 0 ∷ plain (drop (i + 1) run)))

          pub over_answer : None ≡ answer_of (plain run) m
          unfolding answer_of
          over_answer = rw (lt-leb (length (plain run)) m more) refl

          pub over_buffer : replicate (length out) 0 ≡ buffer_of (plain run) m
          unfolding buffer_of
          over_buffer = rw (lt-leb (length (plain run)) m more, a.long) refl
