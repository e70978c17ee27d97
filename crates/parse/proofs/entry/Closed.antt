-- From the state and the words that the parser leaves to those of the whole draft: of one function they are these; of a file the first record is
-- put before them, and counted.
-- Assumes nothing.
use Rattle.std.proofs.Common.{◌≡◌, ℕ, suc, ◌+◌, ◌*◌, ◌≤◌, Bool, cond, List, [], ◌++◌, length, take, drop, sym, refl, ap, ◌∙◌, ap₂, arith, length-append, length-drop, length-take-le, drop_at, le-ltb}
use lib.Seq.{sets, sets-eq, drop-drop}
use Rattle.text.specs.Widths.{rec_wide}
use Rattle.text.specs.Front.{front}
use Rattle.text.specs.Lists.{has}
use Rattle.own.specs.Tree.{Node, records}
use Rattle.own.specs.Kinds as kind
use Rattle.own.specs.Words.{rec_then, rec_words}
use Rattle.grammar.specs.Entry.{Entry, single_function, whole_file, records_of}
use Rattle.parse.specs.Contract.{countable, Halved, Put, reserved}
use Rattle.parse.specs.Infos.{behind}
use Rattle.parse.specs.declared.State.{State}

-- The state z and the words l that are made of those of a buffer o, and the state z' and the words l' of the whole buffer, made of o', at an entry.
pub record Closed (en : Entry) (len : ℕ) (z : State) (o l : List ℕ) (z' : State) (o' l' : List ℕ) : Type 0 where
  pub at_is : z'.at ≡ z.at
  pub fault_is : z'.fault ≡ z.fault
  pub counts : (ns : List Node) → length (records ns) ≡ z.out → length (records_of en len ns) ≡ z'.out
  pub words_are : (ns : List Node) → length (records ns) ≡ z.out → rec_wide * z'.out ≤ length o'
      → (rec_wide * z.out ≤ length o → l ≡ front (rec_words (records ns)) o)
      → l' ≡ front (rec_words (records_of en len ns)) o'

pub closed-function : (len : ℕ) (z : State) (o l : List ℕ) → Closed single_function len z o l z o l
closed-function len z o l = record { at_is = refl; fault_is = refl; counts = λ ns e. e; words_are = λ ns e h f. f h }

no_number : (low high : ℕ) → Halved kind.Program low high
unfolding has
no_number low high h = absurd h

module _ (len : ℕ) (l l₁ l' : List ℕ) (z : State) (few : z.out ≤ countable) (long : length l₁ ≡ length (drop (behind (length l)) l))
    (p : Put (take (behind (length l)) l ++ l₁) 0 kind.Program 0 len 0 0 (reserved z).out l') where
  abbrev all : List ℕ
  all = take (behind (length l)) l ++ l₁

  out_is : (reserved z).out ≡ suc z.out
  unfolding reserved
  out_is = omega arith

  -- where the first record fits
  module _ (room : rec_wide ≤ length l) where
    behind-is : behind (length l) ≡ rec_wide
    unfolding behind
    behind-is = ap (λ (b : Bool). cond b (length l) rec_wide) (le-ltb (length l) rec_wide room)

    front-words : length (take (behind (length l)) l) ≡ rec_wide
    front-words = ap (λ (i : ℕ). length (take i l)) behind-is ∙ length-take-le rec_wide l room

    all-long : length all ≡ length l
    all-long =
        let d = length-drop (behind (length l)) l in
        omega (arith, length-append (take (behind (length l)) l) l₁, front-words, long, d, behind-is)

    its-words : l' ≡ rec_then kind.Program 0 len 0 0 (suc z.out) l₁
    its-words =
        p.put (no_number 0 0) (omega (arith, all-long)) ∙ ap (λ (i : ℕ). sets all 0 (rec_then kind.Program 0 len 0 0 i [])) out_is
        ∙ sets-eq (rec_then kind.Program 0 len 0 0 (suc z.out) []) all 0 (omega (arith, all-long))
        ∙ ap (rec_then kind.Program 0 len 0 0 (suc z.out)) (drop_at (take (behind (length l)) l) l₁ rec_wide front-words)

    -- What is behind the records is behind the first one and the others.
    stays : (ws : List ℕ) → front ws (drop (behind (length l)) l) ≡ ws ++ drop (length (rec_then kind.Program 0 len 0 0 0 ws)) l
    stays ws =
        let e : rec_wide + length ws ≡ length (rec_then kind.Program 0 len 0 0 0 ws) = omega arith in
        ap (λ (i : ℕ). ws ++ drop (length ws) (drop i l)) behind-is ∙ ap (λ (u : List ℕ). ws ++ u) (drop-drop (length ws) rec_wide l ∙ ap (λ (i : ℕ). drop i l) e)

  pub closed-file : Closed whole_file len z (drop (behind (length l)) l) l₁ (reserved z) l l'
  unfolding reserved
  closed-file = record {
    at_is = refl;
    fault_is = refl;
    counts = λ ns e. ap suc e ∙ sym out_is;
    words_are = λ ns e h f.
        let room : rec_wide ≤ length l = omega (arith, out_is) in
        let d = length-drop (behind (length l)) l in
        let q = f (omega (arith, behind-is room, out_is, d)) in
        let o : suc z.out ≡ 1 + length (records ns) = omega (arith, e) in
        its-words room ∙ ap₂ (λ (i : ℕ) (u : List ℕ). rec_then kind.Program 0 len 0 0 i u) o (q ∙ stays room (rec_words (records ns)));
  }
