-- What `load` hands over of a listing, for a buffer of so many words (document 02, orders 1, 7 and 9).
-- Assumes nothing: these are definitions. What they come to, in the requests' own terms, is `Loads` of Promised.antt.
use Rattle.std.specs.Prelude.{Bool, true, ◌&&◌, cond, List, ◌++◌, map, ℕ, ◌-◌, ◌*◌, ltb, length, replicate}
use Rattle.text.specs.Answers.{Answer, accepted, refused}
use Rattle.text.specs.Refusals as refusal
use Rattle.text.specs.Same.{same}
use Rattle.text.specs.Widths.{rec_wide}
use Rattle.own.specs.Tree.{Rec}
use Rattle.up.specs.Ways.{ways_up, up_words}
use Rattle.load.specs.Form.{Form, older, newer, longer, widths_of, form_of, needed}
use Rattle.load.specs.Listing.Read.{bad_line, lines_read, rec_of, records_in, up_of}
use Rattle.load.specs.FunctionTest.{is_whole}

-- "17 also covers a wrong parent word": whether each of these lines ends with its record's way up.
abbrev pub ways_given : List (List ℕ) → Bool
ways_given vs = same (map up_of vs) (ways_up (map rec_of vs))

-- A line of the older form has none to test.
unfoldable pub ways_right : Form → List (List ℕ) → Bool
ways_right older vs = true
ways_right newer vs = ways_given vs
ways_right longer vs = ways_given vs

-- 17, "when the lines do not form one such function", of the numbers of all lines.
abbrev pub is_right : Form → List (List ℕ) → Bool
is_right f vs = is_whole (map rec_of vs) && ways_right f vs

-- "16 when a line is not of the stated [..] form, 17 when the lines do not form one such function, 18 when the record buffer is too short; they are
-- tested in this order and give the first bad line, counted from 1, or 0 for 17 and 18": a listing has records, and no tokens. "16 covers [..], once every
-- line is in form, a 49-byte listing that four digits would hold, at line 1" (document 02, order 9).
unfoldable pub load_as : Form → List ℕ → ℕ → Answer
load_as f text room =
    let bad = bad_line (widths_of f) text in
    let vs = lines_read (widths_of f) text in
    cond (ltb 0 bad) (refused refusal.BadLine bad)
    (cond (needed f vs)
    (cond (is_right f vs)
    (cond (ltb room (rec_wide * length vs)) (refused refusal.NoLoadRoom 0) (accepted 0 (length vs)))
    (refused refusal.NotWhole 0))
    (refused refusal.BadLine 1))

-- "16 covers all three line forms", and "a line of another form than the first": the first line says of which form all have to be.
abbrev pub load_of : List ℕ → ℕ → Answer
load_of text room = load_as (form_of text) text room

-- The records of a listing, if all of its lines are of its form.
abbrev pub records_of : List ℕ → List Rec
records_of text = records_in (widths_of (form_of text)) text

-- "Listings of 36-byte lines still load, the word being worked out"; "a refusal zeroes every buffer lent for writing", "zeros follow what is written".
abbrev pub contents : Answer → List Rec → ℕ → List ℕ
contents (accepted n m) rs room = up_words rs ++ replicate (room - rec_wide * length rs) 0
contents (refused c l) rs room = replicate room 0

unfoldable pub words_of : List ℕ → ℕ → List ℕ
words_of text room = contents (load_of text room) (records_of text) room
