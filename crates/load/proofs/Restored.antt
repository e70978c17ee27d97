-- The sentences on writing and loading, of what `lines::list` writes: the lines of the first records of a tree buffer.
-- Assumes nothing.
use Rattle.std.specs.Prelude.{Bool, List, [], ◌∷◌, ◌++◌, map, ◌≡◌, refl, ℕ, ◌+◌, ◌-◌, ◌*◌, ◌/◌, ◌<◌, ◌≤◌, min, length, get_or, take, replicate}
use Rattle.std.proofs.Common.{sym, ap, ap₂, ◌∙◌, subst, arith, length-append}
use Rattle.std.proofs.lemmas.List.{length-replicate}
use Rattle.text.specs.Answers.{accepted}
use Rattle.text.specs.Widths.{rec_wide}
use Rattle.own.specs.Tree.{Rec, concat}
use Rattle.own.specs.Flat.{blank}
use Rattle.own.specs.Lists.{All, nil, ◌&◌}
use Rattle.own.specs.Words.{recs}
use Rattle.own.proofs.WordLaws.{recs-length}
use Rattle.up.specs.Ways.{six, rows, up_words, rows_in}
use Rattle.up.proofs.Laws.{up-words-long, rows-up, rows-words}
use Rattle.lines.specs.Hex.{power}
use Rattle.lines.specs.Lines.{place_digits, six_widths, widths, widths_for, lines_of, listed_rows, lines, widths_by}
use Rattle.lines.specs.Written.{held, lines_in}
use Rattle.load.specs.Form.{Form, older, newer, longer, widths_of, rows_of, form_of}
use Rattle.load.proofs.FormLaws.{rows-fit, fits-short, widths-fit}
use Rattle.load.specs.Listing.InForm.{Fit, Fitting}
use Rattle.load.specs.Function.{Whole}
use Rattle.load.specs.Load.{load_of, words_of}
use Rattle.load.specs.Promised.{Lists, loaded}
use Rattle.load.proofs.Laws.{needed-exactly, of-records, row-only, accepted-taken, taken-records, write-then-load}

-- The records of lines of 36 bytes fit those of 41, since the top counts them in four digits.
size-fits : (rs : List Rec) → All (λ r. Fit six_widths (six r)) rs → (get_or rs 0 blank).size ≡ length rs → length rs < power place_digits
size-fits [] h e = omega arith
size-fits (r ∷ rs) ((k, (b, (s, (l, (i, (z, _)))))) & h) e = omega (arith, z, e)

sixes : (rs : List Rec) → Fitting six_widths (map six rs) → All (λ r. Fit six_widths (six r)) rs
sixes [] h = nil
sixes (r ∷ rs) (p & h) = p & sixes rs h

older-fits : (rs : List Rec) → Whole rs → Fitting six_widths (map six rs) → Fitting widths (rows rs)
older-fits rs o h = let s = sixes rs h in rows-fit place_digits rs s (size-fits rs s o.counts_all)

-- The widths in which the records of a listing are written:
module _ (rs : List Rec) where
  -- those of 41 bytes, where these hold them;
  short-widths : Fitting widths (rows rs) → widths_for (rows rs) ≡ widths
  short-widths h = ap (λ (b : Bool). widths_by b) (fits-short (rows rs) h)

  short-fits : Fitting widths (rows rs) → Fitting (widths_for (rows rs)) (rows rs)
  short-fits h = subst (λ (ws : List ℕ). Fitting ws (rows rs)) (sym (short-widths h)) h

  module _ {text : List ℕ} where
    -- those of its own lines, where these end with the way up;
    its-widths : (f : Form) → (f ≡ older → ⊥) → Lists f text rs → (rows_of f rs ≡ rows rs) × (widths_of f ≡ widths_for (rows rs))
    its-widths older n l = absurd (n refl)
    its-widths newer n l = (refl, sym (short-widths l.lines.fitting))
    its-widths longer n l = (refl, sym (ap (λ (b : Bool). widths_by b) ((needed-exactly longer _).1 l.need)))

    -- and they hold the numbers, whatever the form.
    fits-again : (f : Form) → Whole rs → Lists f text rs → Fitting (widths_for (rows rs)) (rows rs)
    fits-again older o l = short-fits (older-fits rs o l.lines.fitting)
    fits-again newer o l = short-fits l.lines.fitting
    fits-again longer o l = widths-fit (rows rs) l.lines.fitting

-- Listing as many records as were loaded writes their lines, whatever the form that they were loaded from.
pub listed-again : (text : List ℕ) (room n : ℕ) → load_of text room ≡ accepted 0 n → lines_in (words_of text room) n ≡ lines (recs n (words_of text room))
unfolding lines_in
listed-again text room n e =
    let t = accepted-taken text room e in
    let rs = t.its in
    let z = replicate (room - rec_wide * length rs) 0 in
    let w = (row-only text room (loaded t.form rs t.lists t.whole t.fits)).1 in
    let long : length (words_of text room) ≡ room =
    ap length w ∙ length-append (up_words rs) z ∙ room-is (up-words-long rs) (length-replicate (room - rec_wide * length rs) 0) t.fits in
    let all : held (words_of text room) n ≡ length rs = all_held long t.number t.fits in
    ap₂ (λ (m : ℕ) (u : List ℕ). listed_rows (rows_in m u)) all w
    ∙ ap listed_rows (rows-up rs z)
    ∙ ap lines (sym (taken-records text room n t))
  where
    room-is : {a b c : ℕ} → a ≡ c → b ≡ room - c → c ≤ room → a + b ≡ room
    room-is p q h = omega arith

    all_held : {l k : ℕ} → l ≡ room → n ≡ k → rec_wide * k ≤ room → min n (l / rec_wide) ≡ k
    all_held p q h = omega arith

-- "each of these two forms is restored byte for byte", that of 41 and that of 49.
pub load-then-list : (text : List ℕ) (room n : ℕ) → (form_of text ≡ older → ⊥) → load_of text room ≡ accepted 0 n → lines_in (words_of text room) n ≡ text
unfolding listed_rows
load-then-list text room n f e =
    let t = accepted-taken text room e in
    let rs = t.its in
    let (a, b) = its-widths rs t.form (λ k. f (of-records text room t.form rs t.whole t.lists ∙ k)) t.lists in
    listed-again text room n e
    ∙ ap lines (taken-records text room n t)
    ∙ (λ i. lines_of (sym b i) (sym a i))
    ∙ sym t.lists.lines.they_are

-- And what is written back loads again, as the same records: their lines hold them.
pub written-back : (text : List ℕ) (room n : ℕ) → load_of text room ≡ accepted 0 n
    → (load_of (lines_in (words_of text room) n) room ≡ accepted 0 n) × (words_of (lines_in (words_of text room) n) room ≡ words_of text room)
written-back text room n e =
    let t = accepted-taken text room e in
    let rs = t.its in
    let w = (row-only text room (loaded t.form rs t.lists t.whole t.fits)).1 in
    let l : lines_in (words_of text room) n ≡ lines rs = listed-again text room n e ∙ ap lines (taken-records text room n t) in
    let (a, b) = write-then-load rs t.whole (fits-again rs t.form t.whole t.lists) room t.fits in (
      ap (λ (x : List ℕ). load_of x room) l ∙ a ∙ ap (accepted 0) (sym t.number),
      ap (λ (x : List ℕ). words_of x room) l ∙ b ∙ sym w,
    )

-- Lines of 36 bytes "are written back in 41": as those of the same records, each with its way up.
pub older-written : (text : List ℕ) (room n : ℕ) → form_of text ≡ older → load_of text room ≡ accepted 0 n
    → (rs : List Rec) × (text ≡ lines_of six_widths (map six rs)) × (lines_in (words_of text room) n ≡ lines_of widths (rows rs))
unfolding listed_rows
older-written text room n f e =
    let t = accepted-taken text room e in
    let rs = t.its in
    let l : Lists older text rs = subst (λ (g : Form). Lists g text rs) (sym (of-records text room t.form rs t.whole t.lists) ∙ f) t.lists in (
      rs,
      l.lines.they_are,
      listed-again text room n e
          ∙ ap lines (taken-records text room n t)
          ∙ ap (λ (ws : List ℕ). lines_of ws (rows rs)) (short-widths rs (older-fits rs t.whole l.lines.fitting)),
    )

-- Listing records that form a whole, each with its way up, and fit their lines, and then loading, restores the same words, in either width: 41 bytes a line,
-- or 49 exactly where some number needs them (`form-written` of Laws.antt).
pub list-then-load : (words : List ℕ) (n : ℕ) → Whole (recs (held words n) words) → rows_in (held words n) words ≡ rows (recs (held words n) words)
    → Fitting (widths_for (rows_in (held words n) words)) (rows_in (held words n) words) → (room : ℕ) → rec_wide * held words n ≤ room
    → (load_of (lines_in words n) room ≡ accepted 0 (held words n))
    × (words_of (lines_in words n) room ≡ take (rec_wide * held words n) words ++ replicate (room - rec_wide * held words n) 0)
unfolding lines_in
list-then-load words n o u f room h =
    let rs = recs (held words n) words in
    let k : length rs ≡ held words n = recs-length (held words n) words in
    let t : listed_rows (rows_in (held words n) words) ≡ lines rs = ap listed_rows u in
    let same : up_words rs ≡ take (rec_wide * held words n) words = ap concat (sym u) ∙ rows-words (held words n) words in
    let (a, b) = write-then-load rs o (subst (λ (vs : List (List ℕ)). Fitting (widths_for vs) vs) u f) room (omega arith) in (
      ap (λ (l : List ℕ). load_of l room) t ∙ a ∙ ap (accepted 0) k,
      ap (λ (l : List ℕ). words_of l room) t ∙ b ∙ ap₂ (λ (l : List ℕ) (m : ℕ). l ++ replicate (room - rec_wide * m) 0) same k,
    )
