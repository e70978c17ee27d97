-- What is promised of loading a listing: the answer and every word of the buffer, row by row in the requests' own terms, without the functions that
-- read lines and test records.
-- Assumes nothing: these are definitions. That `load_of` and `words_of` keep the promise stands in proofs/Laws.antt.
use Rattle.std.specs.Prelude.{List, ◌++◌, ◌≡◌, ℕ, suc, ◌-◌, ◌*◌, ◌<◌, ◌≤◌, length, replicate}
use Rattle.text.specs.Answers.{Answer, accepted, refused}
use Rattle.text.specs.Refusals as refusal
use Rattle.text.specs.Widths.{rec_wide}
use Rattle.own.specs.Tree.{Rec}
use Rattle.up.specs.Ways.{up_words}
use Rattle.own.specs.Lists.{All}
use Rattle.lines.specs.Lines.{lines_of, InFour}
use Rattle.load.specs.Form.{Form, older, newer, longer, widths_of, rows_of}
use Rattle.load.specs.Listing.InForm.{Fitting, Begins}
use Rattle.load.specs.Function.{Whole}

-- A listing is lines of the form, of these numbers;
pub record Lines (f : Form) (text : List ℕ) (vs : List (List ℕ)) : Type 0 where
  pub fitting : Fitting (widths_of f) vs
  pub they_are : text ≡ lines_of (widths_of f) vs

-- its form is one that they need: of 49 bytes a line only where four digits do not hold them all;
abbrev pub Needed : Form → List (List ℕ) → Type 0
Needed older vs = Unit {0}
Needed newer vs = Unit {0}
Needed longer vs = All InFour vs → ⊥

-- it is the lines of these records, each with its way up where the form has that, in a form that they need.
pub record Lists (f : Form) (text : List ℕ) (rs : List Rec) : Type 0 where
  pub lines : Lines f text (rows_of f rs)
  pub need : Needed f (rows_of f rs)

-- The answer to a listing with a buffer of so many words, and the words of the buffer afterwards.
pub data Loads (text : List ℕ) (room : ℕ) : Answer → List ℕ → Type 0 where
  -- 16: "when a line is not of the stated [..] form", which "covers all three line forms": the first is of none; zeros
  no_form : 0 < length text → ((f : Form) → Begins (widths_of f) text → ⊥) → Loads text room (refused refusal.BadLine 1) (replicate room 0)
  -- 16: "and a line of another form than the first", with "the first bad line, counted from 1"; zeros
  a_bad_line : (f : Form) (vs : List (List ℕ)) (rest : List ℕ) → Fitting (widths_of f) vs → 0 < length vs → text ≡ lines_of (widths_of f) vs ++ rest → 0 < length rest
      → (Begins (widths_of f) rest → ⊥) → Loads text room (refused refusal.BadLine (suc (length vs))) (replicate room 0)
  -- 16: "once every line is in form, a 49-byte listing that four digits would hold, at line 1" (document 02, order 9); zeros
  needless : (vs : List (List ℕ)) → 0 < length vs → Lines longer text vs → All InFour vs → Loads text room (refused refusal.BadLine 1) (replicate room 0)
  -- 17: "when the lines do not form one such function", nor a program, and "17 also covers a wrong parent word"; zeros
  not_whole : (f : Form) (vs : List (List ℕ)) → Lines f text vs → Needed f vs → ((rs : List Rec) → Whole rs → vs ≡ rows_of f rs → ⊥)
      → Loads text room (refused refusal.NotWhole 0) (replicate room 0)
  -- 18: "when the record buffer is too short"; "15 and 18 now ask seven words a record"; zeros
  no_room : (f : Form) (rs : List Rec) → Lists f text rs → Whole rs → room < rec_wide * length rs → Loads text room (refused refusal.NoLoadRoom 0) (replicate room 0)
  -- "the [..] records out, with the number of records", and "Listings of 36-byte lines still load, the word being worked out"; "zeros follow what is written"
  loaded : (f : Form) (rs : List Rec) → Lists f text rs → Whole rs → rec_wide * length rs ≤ room
      → Loads text room (accepted 0 (length rs)) (up_words rs ++ replicate (room - rec_wide * length rs) 0)
