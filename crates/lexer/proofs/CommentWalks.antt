-- What the loops over comments keep, and one law for each kind of turn and of end.
-- Assumes nothing.
use Rattle.std.specs.Prelude.{Bool, true, false, Some, None, List, ◌≡◌, refl, ℕ, ◌+◌, ◌-◌, ◌≤◌, ◌<◌, length, get_or, drop}
use Rattle.std.proofs.Common.{sym, ◌∙◌, arith}
use Rattle.text.specs.declared.refusal.Refusal.TheVariants as refusal
use Rattle.utf8.specs.Found.{char_found}
use Rattle.utf8.proofs.Parts.{Good, good_start, good-next, sequence-within}
use Rattle.utf8.proofs.Founds.{found-length, found-some, none-length}
use Rattle.lexer.specs.Lexemes.{in_line}
use Rattle.lexer.specs.Step.{refused_step, lexeme_at}
use Rattle.lexer.specs.Trivia.{CommentAt, WalkEnds, closed_at, plain_beside, edge_of}
use Rattle.lexer.specs.declared.Step.TheVariants.{Trivia}
use Rattle.lexer.specs.declared.trivia.Edge.TheVariants.{Opens, Closes, Neither}
use Rattle.lexer.specs.declared.trivia.Walked.TheVariants.{Closed, Unclosed, Bad}
use Rattle.lexer.proofs.Runs.{run_end, run_in, run_out, run-over}
use Rattle.lexer.proofs.Closings.{two-within, two-inside, past-neither, first-neither, place-opens, place-closes, place-last, place-neither, place-never}
use Rattle.lexer.proofs.Comments.{comment-begins, plain-line, past-cr, line_plain, line-ends, line-next, line-whole, line-broken, block-plain, good-one, good-two, good-opens, good-closes, good-none, good-bad, block-next}

-- ---- a line comment at i

-- passed up to j: the line ends where it ended, and sequences stand up to here
pub record InLine (s : List ℕ) (i j : ℕ) : Type 0 where
  pub within : j ≤ length s
  pub begun : i ≤ j
  pub ends : run_end in_line s j ≡ run_end in_line s (i + 2)
  pub good : Good s i j

module _ {s : List ℕ} {i : ℕ} (c : CommentAt s i 47) where
  pub line-begins : InLine s i (i + 2)
  line-begins =
      let h = comment-begins s i 46 c in
      record { within = omega arith; begun = omega arith; ends = refl; good = good-two s i i (good_start s i) h (omega (arith, c.0)) (omega (arith, c.1)) }

  module _ {j : ℕ} (v : InLine s i j) where
    -- it ends at the end of the draft, or before a byte that ends a line
    pub line-over : length s ≤ j → Trivia j ≡ lexeme_at s i
    line-over h = line-whole s i j c v.begun v.good (run-over in_line s j h ∙ v.ends)

    pub line-left : j < length s → plain_beside 13 10 (get_or s j 0) ≡ false → get_or s j 0 ≤ 127 → Trivia j ≡ lexeme_at s i
    line-left h p l = line-whole s i j c v.begun v.good (run_out in_line s j h (line-ends (get_or s j 0) (sym (plain-line (get_or s j 0)) ∙ p) l) ∙ v.ends)

    -- or no sequence stands here
    pub line-bad : j < length s → 127 < get_or s j 0 → None ≡ char_found (drop j s) → refused_step refusal.NotUtf8 j ≡ lexeme_at s i
    line-bad h l f = line-broken s i j c v.good h (past-cr (get_or s j 0) (omega arith)) (none-length _ f) v.ends

module _ {s : List ℕ} {i j : ℕ} (v : InLine s i j) (h : j < length s) where
  pub line-plain : plain_beside 13 10 (get_or s j 0) ≡ true → InLine s i (j + 1)
  line-plain p =
      let q = line_plain (get_or s j 0) (sym (plain-line (get_or s j 0)) ∙ p) in
      let l = v.begun in
      record { within = omega arith; begun = omega arith; ends = run_in in_line s j h q.1 ∙ v.ends; good = good-one s i j v.good h q.0 }

  pub line-passes : (n : ℕ) → 127 < get_or s j 0 → Some n ≡ char_found (drop j s) → InLine s i (j + n)
  line-passes n l f =
      let q = found-length _ n f in
      let z = found-some _ n f in
      let b = v.begun in
      record {
        within = sequence-within s j 0 n q v.within;
        begun = omega arith;
        ends = line-next s j n q z h (past-cr (get_or s j 0) (omega arith)) ∙ v.ends;
        good = good-next s i j n v.good q z;
      }

-- ---- a block comment, from a place on and with so many comments open within it

-- passed up to j, with depth open: it is closed where it was, no more are open than bytes are passed, and, by sequences, these stand up to here
pub record InBlock (sequences : Bool) (s : List ℕ) (from inner j depth : ℕ) : Type 0 where
  pub within : j ≤ length s
  pub begun : from ≤ j
  pub few : depth ≤ j
  pub place : closed_at s j depth ≡ closed_at s from inner
  pub good : sequences ≡ true → Good s from j

module _ {b : Bool} {s : List ℕ} {from inner j depth : ℕ} (v : InBlock b s from inner j depth) where
  -- the last byte closes nothing
  pub block-never : length s ≤ j + 1 → WalkEnds b s from inner Unclosed
  block-never h = sym v.place ∙ place-never s j depth h

  module _ (h : j < length s) where
    -- a byte that makes no mark with the one behind it
    pub block-on : Neither ≡ edge_of (get_or s j 0) (get_or s (j + 1) 0) → (b ≡ true → get_or s j 0 ≤ 127) → InBlock b s from inner (j + 1) depth
    block-on e a =
        let l = v.begun in
        let d = v.few in
        record {
          within = omega arith;
          begun = omega arith;
          few = omega arith;
          place = place-neither s j depth h e ∙ v.place;
          good = λ w. good-one s from j (v.good w) h (a w);
        }

    pub block-past : plain_beside 47 42 (get_or s j 0) ≡ true → InBlock b s from inner (j + 1) depth
    block-past p =
        let q = block-plain (get_or s j 0) p in
        block-on (first-neither (get_or s j 0) (get_or s (j + 1) 0) q.1 q.2) (λ w. q.0)

    -- a sequence, or none
    pub block-passes : (n : ℕ) → 127 < get_or s j 0 → Some n ≡ char_found (drop j s) → InBlock b s from inner (j + n) depth
    block-passes n o f =
        let q = found-length _ n f in
        let z = found-some _ n f in
        let l = v.begun in
        let d = v.few in
        record {
          within = sequence-within s j 0 n q v.within;
          begun = omega arith;
          few = omega arith;
          place = block-next s j n q z depth h (past-neither (get_or s j 0) (get_or s (j + 1) 0) (omega arith)) ∙ v.place;
          good = λ w. good-next s from j n (v.good w) q z;
        }

    pub block-bad : b ≡ true → None ≡ char_found (drop j s) → WalkEnds b s from inner (Bad j depth)
    block-bad w f = (w, h, v.begun, v.few, v.place, good-bad s from j (v.good w) h (none-length _ f))

    -- one more is open
    pub block-opens : Opens ≡ edge_of (get_or s j 0) (get_or s (j + 1) 0) → InBlock b s from inner (j + 2) (depth + 1)
    block-opens e =
        let l = v.begun in
        let d = v.few in
        record {
          within = two-within s j depth h e;
          begun = omega arith;
          few = omega arith;
          place = place-opens s j depth h e ∙ v.place;
          good = λ w. good-opens s from j (v.good w) h e;
        }

    -- one less is, or it is closed
    module _ (e : Closes ≡ edge_of (get_or s j 0) (get_or s (j + 1) 0)) where
      pub block-closes : (depth ≡ 0 → ⊥) → InBlock b s from inner (j + 2) (depth - 1)
      block-closes n =
          let l = v.begun in
          let d = v.few in
          record {
            within = two-inside s j depth h e;
            begun = omega arith;
            few = omega arith;
            place = place-closes s j depth h e n ∙ v.place;
            good = λ w. good-closes s from j (v.good w) h e;
          }

      pub block-closed : depth ≡ 0 → WalkEnds b s from inner (Closed (j + 2))
      block-closed z =
          let l = v.begun in
          (sym v.place ∙ place-last s j depth h e z, λ w. (omega arith, good-none s from (j + 2) (good-closes s from j (v.good w) h e)))
