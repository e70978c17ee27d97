-- The promise of Promised.antt is kept by `load_of` and `words_of` and leaves them no choice; from it the sentences of orders 1, 7 and 9 on writing and
-- loading.
-- Assumes nothing.
use Rattle.std.specs.Prelude.{Bool, true, false, cond, List, [], ◌∷◌, ◌++◌, map, ◌↔◌, ◌≡◌, refl, ℕ, zero, suc, ◌-◌, ◌*◌, ◌<◌, ◌≤◌, T, ltb, length, replicate}
use Rattle.std.proofs.Common.{sym, ap, ap₂, ◌∙◌, subst, arith, append-nil}
use borrow.Author.Tests.{ltb-true, ltb-false, lt-ltb, le-ltb}
use Rattle.text.specs.Answers.{Answer, accepted, refused}
use Rattle.text.specs.Refusals as refusal
use Rattle.text.proofs.Same.{differ}
use Rattle.text.proofs.Table.{is_true, is_false, first-of, second-of, pair}
use Rattle.text.specs.Widths.{rec_wide}
use Rattle.own.specs.Tree.{Rec}
use Rattle.own.specs.Lists.{All, nil}
use Rattle.own.specs.Words.{recs}
use Rattle.up.specs.Ways.{rows, up_words}
use Rattle.up.proofs.Laws.{recs-up}
use Rattle.lines.specs.Lines.{six_widths, long_widths, InFour, is_long, widths_for, lines_of, listed_rows, lines, widths_by}
use Rattle.lines.proofs.Lines.{short-exactly}
use Rattle.load.specs.Form.{Form, older, newer, longer, widths_of, rows_of, form_of, form_for, needed}
use Rattle.load.specs.Listing.InForm.{Fitting, Begins}
use Rattle.load.specs.Listing.Read.{in_form, bad_line, lines_read, rec_of}
use Rattle.load.proofs.Listing.RecordLaws.{begins-exactly}
use Rattle.load.proofs.Listing.ListingLaws.{Bad, lines-good, no-bad, first-bad, bad-first, lines-begin}
use Rattle.load.specs.Function.{Whole}
use Rattle.load.specs.FunctionTest.{is_whole}
use Rattle.load.proofs.FunctionTest.{whole-exactly}
use Rattle.load.specs.Load.{ways_right, is_right, load_as, load_of, contents, words_of}
use Rattle.load.proofs.FormLaws.{some-fields, form-newer, form-none, form-is, rows-back, rows-many, rows-right, rows-are}
use Rattle.load.specs.Promised.{Lines, Needed, Lists, Loads, no_form, a_bad_line, needless, not_whole, no_room, loaded}
use Rattle.load.specs.Taken.{Taken}

abbrev Accepts : List ℕ → ℕ → Answer → Type 0
Accepts text room (accepted m n) = Taken text room n
Accepts text room (refused c l) = Unit {0}

-- A whole has a record at least.
pub some-record : (rs : List Rec) → Whole rs → 0 < length rs
some-record [] o = absurd o.top
some-record (r ∷ rs) o = omega arith

-- The numbers of lines that fit are right exactly where they are those of records that form a whole.
records-right : (f : Form) (rs : List Rec) → Whole rs → T (is_right f (rows_of f rs))
records-right f rs o =
    pair (is_whole (map rec_of (rows_of f rs))) (ways_right f (rows_of f rs)) (subst (λ (l : List Rec). T (is_whole l)) (sym (rows-back f rs)) ((whole-exactly rs).1 o))
    (rows-right f rs)

right-records : (f : Form) (vs : List (List ℕ)) → Fitting (widths_of f) vs → T (is_right f vs) → Whole (map rec_of vs) × (vs ≡ rows_of f (map rec_of vs))
right-records f vs h t =
    let a = is_whole (map rec_of vs) in
    let b = ways_right f vs in
    ((whole-exactly (map rec_of vs)).0 (first-of a b t), rows-are f vs h (second-of a b t))

-- The test says whether the form is needed,
long-needed : (vs : List (List ℕ)) → (All InFour vs → ⊥) → is_long vs ≡ true
long-needed vs n = go (is_long vs) refl
  where
    go : (b : Bool) → is_long vs ≡ b → b ≡ true
    go true e = refl
    go false e = absurd (n ((short-exactly vs).0 e))

pub needed-exactly : (f : Form) (vs : List (List ℕ)) → (needed f vs ≡ true) ↔ Needed f vs
needed-exactly older vs = ((λ e. tt), λ n. refl)
needed-exactly newer vs = ((λ e. tt), λ n. refl)
needed-exactly longer vs = ((λ e all. differ (sym ((short-exactly vs).1 all) ∙ e)), long-needed vs)

-- and lines of 49 bytes alone may be needless.
needless-longer : (f : Form) (vs : List (List ℕ)) → needed f vs ≡ false → (f ≡ longer) × (is_long vs ≡ false)
needless-longer older vs e = absurd cc
needless-longer newer vs e = absurd cc
needless-longer longer vs e = (refl, e)

-- The answer where no line is bad, by the three tests that are left.
abbrev judged : ℕ → Bool → Bool → Bool → Answer
judged n need right short =
    cond need (cond right (cond short (refused refusal.NoLoadRoom 0) (accepted 0 n)) (refused refusal.NotWhole 0)) (refused refusal.BadLine 1)

module _ (text : List ℕ) (room : ℕ) where
  -- What a listing of this form is loaded as,
  module _ (f : Form) (its : form_of text ≡ f) where
    behind-bad : {i : ℕ} → Bad (widths_of f) text i → (load_of text room ≡ refused refusal.BadLine (suc i)) × (words_of text room ≡ replicate room 0)
    unfolding load_as words_of
    behind-bad {i} b = rw (its, bad-first (widths_of f) (some-fields f) b, lt-ltb 0 (suc i) (omega arith)) (refl, refl)

    behind-good : {vs : List (List ℕ)} → Lines f text vs → {need right short : Bool} → needed f vs ≡ need → is_right f vs ≡ right → ltb room (rec_wide * length vs) ≡ short
        → (load_of text room ≡ judged (length vs) need right short) × (words_of text room ≡ contents (judged (length vs) need right short) (map rec_of vs) room)
    unfolding load_as words_of
    behind-good {vs} l q o s =
        let g = lines-good (widths_of f) (some-fields f) vs l.fitting in
        rw (its, l.they_are, g.0, g.1, q, o, s) (refl, refl)

  -- and of which form it is: that of its lines, if there are any.
  by_lines : (f : Form) (vs : List (List ℕ)) (rest : List ℕ) → 0 < length vs → text ≡ lines_of (widths_of f) vs ++ rest → form_of text ≡ f
  by_lines f vs rest h e = form-is f text (subst (λ (l : List ℕ). T (in_form (widths_of f) l)) (sym e) (lines-begin (widths_of f) vs rest h))

  of-lines : (f : Form) (vs : List (List ℕ)) → 0 < length vs → Lines f text vs → form_of text ≡ f
  of-lines f vs h l = by_lines f vs [] h (l.they_are ∙ sym (append-nil (lines_of (widths_of f) vs)))

  pub of-records : (f : Form) (rs : List Rec) → Whole rs → Lists f text rs → form_of text ≡ f
  of-records f rs o l = let k = some-record rs o in of-lines f (rows_of f rs) (omega (arith, rows-many f rs)) l.lines

  -- So lines of 49 bytes are refused where four digits would hold their numbers,
  of-needless : (vs : List (List ℕ)) → 0 < length vs → Lines longer text vs → is_long vs ≡ false
      → (load_of text room ≡ refused refusal.BadLine 1) × (words_of text room ≡ replicate room 0)
  of-needless vs h l e = behind-good longer (of-lines longer vs h l) l e refl refl

  -- lines of any form where they are those of no whole,
  of-wrong : (f : Form) (vs : List (List ℕ)) → Lines f text vs → needed f vs ≡ true → ((rs : List Rec) → Whole rs → vs ≡ rows_of f rs → ⊥)
      → (load_of text room ≡ refused refusal.NotWhole 0) × (words_of text room ≡ replicate room 0)
  unfolding lines_of
  of-wrong f [] l q n =
      behind-good newer (form-none text (ap length l.they_are)) (record { fitting = nil; they_are = l.they_are }) refl
      (is_false (is_right newer []) (λ t. (right-records newer [] nil t).0.top)) refl
  of-wrong f (v ∷ vs) l q n =
      let no : is_right f (v ∷ vs) ≡ false =
      is_false (is_right f (v ∷ vs)) (λ t. let (o, e) = right-records f (v ∷ vs) l.fitting t in n (map rec_of (v ∷ vs)) o e) in
      behind-good f (of-lines f (v ∷ vs) (omega arith) l) l q no refl

  -- and loaded, or refused for the room, where they are.
  of-whole : (f : Form) (rs : List Rec) → Lists f text rs → Whole rs → {short : Bool} → ltb room (rec_wide * length rs) ≡ short
      → (load_of text room ≡ judged (length rs) true true short) × (words_of text room ≡ contents (judged (length rs) true true short) rs room)
  of-whole f rs l o {short} s =
      let n = rows-many f rs in
      let yes = is_true (is_right f (rows_of f rs)) (records-right f rs o) in
      let g = behind-good f (of-records f rs o l) l.lines ((needed-exactly f (rows_of f rs)).1 l.need) yes (ap (λ (k : ℕ). ltb room (rec_wide * k)) n ∙ s) in
      (g.0 ∙ ap (λ (k : ℕ). judged k true true short) n, g.1 ∙ ap₂ (λ (k : ℕ) (l : List Rec). contents (judged k true true short) l room) n (rows-back f rs))

  -- Each row of the promise has the answer and the words of `load_of` and `words_of`,
  pub row-only : {a : Answer} {w : List ℕ} → Loads text room a w → (load_of text room ≡ a) × (words_of text room ≡ w)
  unfolding lines_of
  row-only (no_form h n) =
      behind-bad newer (form-newer text (λ t. n older ((begins-exactly six_widths text).0 t)) (λ t. n longer ((begins-exactly long_widths text).0 t)))
      (record { its = []; rest = text; fitting = nil; many = refl; they_are = refl; some = h; other = n newer })
  row-only (a_bad_line f vs rest h k e s o) =
      behind-bad f (by_lines f vs rest k e) (record { its = vs; rest = rest; fitting = h; many = refl; they_are = e; some = s; other = o })
  row-only (needless vs h l all) = of-needless vs h l ((short-exactly vs).1 all)
  row-only (not_whole f vs l q n) = of-wrong f vs l ((needed-exactly f vs).1 q) n
  row-only (no_room f rs l o h) = of-whole f rs l o (lt-ltb room (rec_wide * length rs) h)
  row-only (loaded f rs l o h) = of-whole f rs l o (le-ltb room (rec_wide * length rs) h)

  -- A first line that is bad is of no form.
  first-bad-line : Bad (widths_of (form_of text)) text 0 → Loads text room (refused refusal.BadLine 1) (replicate room 0)
  unfolding lines_of
  first-bad-line b =
      no_form (subst (λ (l : List ℕ). 0 < length l) (sym whole) b.some)
      (λ f x.
      b.other (subst (Begins (widths_of (form_of text))) whole (subst (λ (g : Form). Begins (widths_of g) text) (sym (form-is f text ((begins-exactly (widths_of f) text).1 x))) x)))
    where
      behind : (vs : List (List ℕ)) → length vs ≡ 0 → lines_of (widths_of (form_of text)) vs ++ b.rest ≡ b.rest
      behind [] e = refl
      behind (v ∷ vs) e = absurd (omega arith)

      whole : text ≡ b.rest
      whole = b.they_are ∙ behind b.its b.many

  -- and one of them always holds.
  row-some : (a : Answer) × (w : List ℕ) × Loads text room a w
  unfolding lines_of
  row-some = go (bad_line ws text) refl
    where
      f : Form
      f = form_of text

      ws : List ℕ
      ws = widths_of f

      vs : List (List ℕ)
      vs = lines_read ws text

      rs : List Rec
      rs = map rec_of vs

      by_tests : Lines f text vs → needed f vs ≡ true → (right short : Bool) → is_right f vs ≡ right → ltb room (rec_wide * length rs) ≡ short
          → (a : Answer) × (w : List ℕ) × Loads text room a w
      by_tests l q false short o s =
          (_, _, not_whole f vs l ((needed-exactly f vs).0 q) (λ qs k e. subst T (ap (is_right f) (sym e) ∙ o) (records-right f qs k)))
      by_tests l q true short o s = with-room short s
        where
          both : Whole rs × (vs ≡ rows_of f rs)
          both = right-records f vs l.fitting (subst T (sym o) tt)

          lists : Lists f text rs
          lists = record { lines = subst (Lines f text) both.1 l; need = (needed-exactly f (rows_of f rs)).0 (ap (needed f) (sym both.1) ∙ q) }

          with-room : (short : Bool) → ltb room (rec_wide * length rs) ≡ short → (a : Answer) × (w : List ℕ) × Loads text room a w
          with-room true s = (_, _, no_room f rs lists both.0 (ltb-true room (rec_wide * length rs) s))
          with-room false s = (_, _, loaded f rs lists both.0 (ltb-false room (rec_wide * length rs) s))

      -- lines that need no 49 bytes are some, since a text without any is held against the newer form
      by_need : Lines f text vs → (need : Bool) → needed f vs ≡ need → (a : Answer) × (w : List ℕ) × Loads text room a w
      by_need l true q = by_tests l q (is_right f vs) (ltb room (rec_wide * length rs)) refl refl
      by_need l false q = needless-row vs l (needless-longer f vs q)
        where
          needless-row : (us : List (List ℕ)) → Lines f text us → (f ≡ longer) × (is_long us ≡ false) → (a : Answer) × (w : List ℕ) × Loads text room a w
          needless-row [] m e = let z : ◌≡◌ {A = Form} newer longer = sym (form-none text (ap length m.they_are)) ∙ e.0 in absurd cc
          needless-row (u ∷ us) m e = (_, _, needless (u ∷ us) (omega arith) (subst (λ (g : Form). Lines g text (u ∷ us)) e.0 m) ((short-exactly (u ∷ us)).0 e.1))

      by_bad : (i : ℕ) → Bad ws text i → (a : Answer) × (w : List ℕ) × Loads text room a w
      by_bad zero b = (_, _, first-bad-line b)
      by_bad (suc i) b = (_, _, a_bad_line f b.its b.rest b.fitting (let m = b.many in omega arith) b.they_are b.some b.other)

      go : (bad : ℕ) → bad_line ws text ≡ bad → (a : Answer) × (w : List ℕ) × Loads text room a w
      go zero e =
          let (t, h) = no-bad ws (some-fields f) text e in
          by_need (record { fitting = h; they_are = t }) (needed f vs) refl
      go (suc i) e = by_bad i (first-bad ws (some-fields f) text i e)

  -- So the promise is kept,
  pub promised : Loads text room (load_of text room) (words_of text room)
  promised = let (a, w, l) = row-some in let (e, f) = row-only l in rw (e, f) l

  -- by nothing else.
  pub one-promise : {a b : Answer} {v w : List ℕ} → Loads text room a v → Loads text room b w → (a ≡ b) × (v ≡ w)
  one-promise l m =
      let (e, f) = row-only l in
      let (g, h) = row-only m in
      (sym e ∙ g, sym f ∙ h)

  taken : {a : Answer} {w : List ℕ} → Loads text room a w → Accepts text room a
  taken (no_form h n) = tt
  taken (a_bad_line f vs rest h k e s o) = tt
  taken (needless vs h l e) = tt
  taken (not_whole f vs l q x) = tt
  taken (no_room f rs l o h) = tt
  taken (loaded f rs l o h) = record { form = f; its = rs; lists = l; whole = o; fits = h; number = refl }

  pub accepted-taken : {m n : ℕ} → load_of text room ≡ accepted m n → Taken text room n
  accepted-taken e = subst (Accepts text room) e (taken promised)

  -- "It takes only a listing whose records form one function", or one program, and every one for which there is room.
  pub accepted-exactly : (n : ℕ) → (load_of text room ≡ accepted 0 n) ↔ Taken text room n
  accepted-exactly n =
      (accepted-taken, λ t. (row-only (loaded t.form t.its t.lists t.whole t.fits)).0 ∙ ap (accepted 0) (sym t.number))

  -- Lines of records that form no whole are refused.
  pub none-whole : (f : Form) (rs : List Rec) → Lists f text rs → (Whole rs → ⊥) → Loads text room (refused refusal.NotWhole 0) (replicate room 0)
  none-whole f rs l n =
      not_whole f (rows_of f rs) l.lines l.need (λ qs o e. n (subst Whole (sym (rows-back f qs) ∙ ap (map rec_of) (sym e) ∙ rows-back f rs) o))

  -- The words that are loaded hold the records, each with its way up, whatever the form.
  pub taken-records : (n : ℕ) (t : Taken text room n) → recs n (words_of text room) ≡ t.its
  taken-records n t =
      let rs = t.its in
      let w = (row-only (loaded t.form rs t.lists t.whole t.fits)).1 in
      ap₂ (λ (m : ℕ) (u : List ℕ). recs m u) t.number w ∙ recs-up rs (replicate (room - rec_wide * length rs) 0)

  -- "loading and then writing restores the same bytes": in the form that they had.
  pub load-then-write : (n : ℕ) → load_of text room ≡ accepted 0 n → text ≡ lines_of (widths_of (form_of text)) (rows_of (form_of text) (recs n (words_of text room)))
  load-then-write n e =
      let t = (accepted-exactly n).0 e in
      t.lists.lines.they_are
      ∙ ap (λ (f : Form). lines_of (widths_of f) (rows_of f t.its)) (sym (of-records t.form t.its t.whole t.lists))
      ∙ ap (λ (rs : List Rec). lines_of (widths_of (form_of text)) (rows_of (form_of text) rs)) (sym (taken-records n t))

-- What is written of records is a listing of them, where its widths hold their numbers: of 49 bytes a line exactly where those are needed.
written-as : (rs : List Rec) (b : Bool) → is_long (rows rs) ≡ b → Fitting (widths_by b) (rows rs)
    → Lists (cond b longer newer) (lines_of (widths_by b) (rows rs)) rs
written-as rs true e h = record { lines = record { fitting = h; they_are = refl }; need = (needed-exactly longer (rows rs)).0 e }
written-as rs false e h = record { lines = record { fitting = h; they_are = refl }; need = tt }

pub written : (rs : List Rec) → Fitting (widths_for (rows rs)) (rows rs) → Lists (form_for (rows rs)) (lines rs) rs
unfolding listed_rows
written rs h = written-as rs (is_long (rows rs)) refl h

-- It is told as that form.
pub form-written : (rs : List Rec) → Whole rs → Fitting (widths_for (rows rs)) (rows rs) → form_of (lines rs) ≡ form_for (rows rs)
form-written rs o h = of-records (lines rs) 0 (form_for (rows rs)) rs o (written rs h)

-- Lines of records that form a whole load, in any form: "Listings of 36-byte lines still load".
pub listed-loads : (f : Form) (rs : List Rec) (text : List ℕ) → Lists f text rs → Whole rs → (room : ℕ) → rec_wide * length rs ≤ room
    → (load_of text room ≡ accepted 0 (length rs)) × (words_of text room ≡ up_words rs ++ replicate (room - rec_wide * length rs) 0)
listed-loads f rs text l o room k = row-only text room (loaded f rs l o k)

-- "Writing and then loading restores the same records", whatever the width of their lines.
pub write-then-load : (rs : List Rec) → Whole rs → Fitting (widths_for (rows rs)) (rows rs) → (room : ℕ) → rec_wide * length rs ≤ room
    → (load_of (lines rs) room ≡ accepted 0 (length rs)) × (words_of (lines rs) room ≡ up_words rs ++ replicate (room - rec_wide * length rs) 0)
write-then-load rs o h room k = listed-loads (form_for (rows rs)) rs (lines rs) (written rs h) o room k

-- Lines that are written of records that form no whole, as that of a refusal is, are refused.
pub none-written : (rs : List Rec) → Fitting (widths_for (rows rs)) (rows rs) → (Whole rs → ⊥) → (room : ℕ)
    → (load_of (lines rs) room ≡ refused refusal.NotWhole 0) × (words_of (lines rs) room ≡ replicate room 0)
none-written rs h n room = row-only (lines rs) room (none-whole (lines rs) room (form_for (rows rs)) rs (written rs h) n)
