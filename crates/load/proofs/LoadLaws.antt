-- The answer to a listing, test by test, and the words of the buffer.
-- Assumes nothing.
use Rattle.std.specs.Prelude.{Bool, Result, Ok, Err, Some, None, true, false, ◌&&◌, cond, List, ◌++◌, map, ◌≡◌, refl, ℕ, zero, suc, ◌-◌, ◌*◌, ◌/◌, ◌<◌, ◌≤◌, ltb, length, replicate, take, drop}
use Rattle.std.specs.Result.{result_unwrap_or}
use Rattle.std.proofs.Common.{sym, ap, ◌∙◌, subst, arith, take_at}
use borrow.Author.Tests.{lt-ltb, le-ltb, ltb-false}
use Rattle.text.specs.Answers.{Answer, accepted, refused}
use Rattle.text.specs.Refusals as refusal
use Rattle.text.specs.Widths.{rec_wide}
use Rattle.own.specs.Tree.{Rec}
use Rattle.own.specs.Words.{recs}
use Rattle.own.proofs.WordLaws.{recs-length}
use Rattle.up.specs.Ways.{up_words, upward}
use Rattle.up.proofs.Laws.{up-words-long, upward-held}
use Rattle.lines.specs.Form.{wide}
use Rattle.lines.specs.Lines.{with_way}
use Rattle.load.specs.Form.{Form, widths_of, digits_of, form_of, needed}
use Rattle.load.specs.FunctionTest.{is_whole}
use Rattle.load.specs.Load.{ways_given, ways_right, is_right, load_as, load_of, records_of, contents, words_of}
use Rattle.load.specs.Meant.{meant, not_loaded, as_form}
use Rattle.load.specs.declared.form.Form as code
use Rattle.load.specs.declared.form.Form.TheVariants.{Older, Newer, Longer}
use Rattle.load.proofs.Laws.{promised}
use Rattle.load.specs.Promised.{Loads}
use Rattle.load.specs.declared.NotLoaded.{NotLoaded}
use Rattle.load.specs.declared.NotLoaded.TheVariants.{BadLine, NotWhole, NoRoom}
use Rattle.load.specs.Listing.Read.{bad_line, first_bad, rows_from, lines_read, rec_of}
use Rattle.load.proofs.Listing.RecordLaws.{lines-long}

-- Whether its lines are right, by both tests, the second as the form says it.
pub right-as : (f : Form) (text : List ℕ) {b : Bool} → b ≡ is_whole (map rec_of (lines_read (widths_of f) text)) → b ≡ true
    → {g : Form} → f ≡ g → {x : Bool} → x ≡ ways_right g (lines_read (widths_of g) text) → x ≡ is_right f (lines_read (widths_of f) text)
right-as f text whole e o t = t ∙ (λ i. (sym e ∙ whole) i && ways_right (sym o i) (lines_read (widths_of (sym o i)) text))

-- The second, of a form that has a way up.
pub right-given : (f : code.Form) {n : ℕ} (text : List ℕ) → (f ≡ Older → ⊥) → digits_of (as_form f) ≡ n → {x : Bool} → x ≡ ways_given (lines_read (with_way n) text)
    → x ≡ ways_right (as_form f) (lines_read (widths_of (as_form f)) text)
unfolding ways_right
right-given Older text o d t = absurd (o refl)
right-given Newer text o d t = t ∙ ap (λ (n : ℕ). ways_given (lines_read (with_way n) text)) (sym d)
right-given Longer text o d t = t ∙ ap (λ (n : ℕ). ways_given (lines_read (with_way n) text)) (sym d)

-- What the first bad line is, and that there is none.
first-some : (n : ℕ) {l : ℕ} → Some l ≡ first_bad n → (l ≡ n) × (0 < l)
first-some zero e = absurd cc
first-some (suc n) {l} e = let k : l ≡ suc n = cc in (k, omega arith)

first-none : (n : ℕ) → None ≡ first_bad n → n ≤ 0
first-none zero e = omega arith
first-none (suc n) e = absurd cc

module _ (f : Form) (text : List ℕ) (room : ℕ) where
  pub load-bad : {l : ℕ} → Some l ≡ first_bad (bad_line (widths_of f) text) → refused refusal.BadLine l ≡ load_as f text room
  unfolding load_as
  load-bad e =
      let (is, h) = first-some (bad_line (widths_of f) text) e in
      (λ i. refused refusal.BadLine (is i)) ∙ simp (lt-ltb 0 (bad_line (widths_of f) text) (omega (arith, is)))

  module _ (good : None ≡ first_bad (bad_line (widths_of f) text)) {d : Bool} (need : d ≡ needed f (lines_read (widths_of f) text)) where
    fine : ltb 0 (bad_line (widths_of f) text) ≡ false
    fine = le-ltb 0 (bad_line (widths_of f) text) (first-none (bad_line (widths_of f) text) good)

    -- what is left to test
    left : {x y short : Bool} → d ≡ x → is_right f (lines_read (widths_of f) text) ≡ y → ltb room (rec_wide * length (lines_read (widths_of f) text)) ≡ short
        → cond x (cond y (cond short (refused refusal.NoLoadRoom 0) (accepted 0 (length (lines_read (widths_of f) text)))) (refused refusal.NotWhole 0)) (refused refusal.BadLine 1)
        ≡ load_as f text room
    unfolding load_as
    left {x} {y} {short} n o s =
        let vs = lines_read (widths_of f) text in
        let bad = bad_line (widths_of f) text in
        λ i. cond (sym fine i) (refused refusal.BadLine bad)
        (cond ((sym n ∙ need) i)
        (cond (sym o i) (cond (sym s i) (refused refusal.NoLoadRoom 0) (accepted 0 (length vs))) (refused refusal.NotWhole 0))
        (refused refusal.BadLine 1))

    pub load-needless : d ≡ false → refused refusal.BadLine 1 ≡ load_as f text room
    load-needless n = left n refl refl

    module _ (does : d ≡ true) {b : Bool} (right : b ≡ is_right f (lines_read (widths_of f) text)) where
      pub load-none : b ≡ false → refused refusal.NotWhole 0 ≡ load_as f text room
      load-none e = left does (sym right ∙ e) refl

      module _ (yes : b ≡ true) {n : ℕ} (long : n ≡ length (lines_read (widths_of f) text)) where
        pub load-short : room / rec_wide < n → refused refusal.NoLoadRoom 0 ≡ load_as f text room
        load-short h = left does (sym right ∙ yes) (lt-ltb room (rec_wide * length (lines_read (widths_of f) text)) (omega (arith, long, h)))

        pub load-records : n ≤ room / rec_wide → accepted 0 n ≡ load_as f text room
        load-records h =
            ap (accepted 0) long ∙ left does (sym right ∙ yes) (le-ltb room (rec_wide * length (lines_read (widths_of f) text)) (omega (arith, long, h)))

-- The answer in the form of the listing is the answer.
pub as-formed : (text : List ℕ) (room : ℕ) {f : Form} → f ≡ form_of text → {a : Answer} → a ≡ load_as f text room → a ≡ load_of text room
as-formed text room e q = q ∙ ap (λ (g : Form). load_as g text room) e

-- zeros on a refusal
zeroed : (r : NotLoaded) (rs : List Rec) (room : ℕ) → replicate room 0 ≡ contents (not_loaded r) rs room
zeroed (BadLine l) rs room = refl
zeroed NotWhole rs room = refl
zeroed NoRoom rs room = refl

-- as many records as there are lines, which fit
loaded-is : (text : List ℕ) (room n : ℕ) → accepted 0 n ≡ load_of text room → (n ≡ length text / wide (widths_of (form_of text))) × (rec_wide * n ≤ room)
unfolding load_as
loaded-is text room n e = go (ltb 0 bad) (needed (form_of text) vs) (is_right (form_of text) vs) (ltb room (rec_wide * length vs)) refl e
  where
    vs : List (List ℕ)
    vs = lines_read (widths_of (form_of text)) text

    bad : ℕ
    bad = bad_line (widths_of (form_of text)) text

    none : {c p : ℕ} → accepted 0 n ≡ refused c p → ⊥
    none e = absurd cc

    go : (a d b s : Bool) → ltb room (rec_wide * length vs) ≡ s
        → accepted 0 n
        ≡ cond a (refused refusal.BadLine bad) (cond d (cond b (cond s (refused refusal.NoLoadRoom 0) (accepted 0 (length vs))) (refused refusal.NotWhole 0)) (refused refusal.BadLine 1))
        → (n ≡ length text / wide (widths_of (form_of text))) × (rec_wide * n ≤ room)
    go true d b s q e = absurd (none e)
    go false false b s q e = absurd (none e)
    go false true false s q e = absurd (none e)
    go false true true true q e = absurd (none e)
    go false true true false q e =
        let k : n ≡ length vs = cc in
        let h = ltb-false room (rec_wide * length vs) q in
        (k ∙ lines-long (widths_of (form_of text)) text, omega arith)

-- As many records as are handed over have their lines in the listing: those that are loaded, or none on a refusal.
pub lines-held : (f : Form) (text : List ℕ) (room : ℕ) (x : Result ℕ NotLoaded) → f ≡ form_of text → meant x ≡ load_as f text room
    → result_unwrap_or x 0 ≤ length (lines_read (widths_of f) text)
lines-held f text room (Ok n) e q =
    let k = (loaded-is text room n (as-formed text room e q)).0 in
    let w = lines-long (widths_of f) text ∙ ap (λ (g : Form). length text / wide (widths_of g)) e in
    omega (arith, k, w)
lines-held f text room (Err r) e q = omega arith

-- Their words fit.
pub loaded-fits : (text : List ℕ) (room : ℕ) {f : Form} (x : Result ℕ NotLoaded) → f ≡ form_of text → meant x ≡ load_as f text room → rec_wide * result_unwrap_or x 0 ≤ room
loaded-fits text room (Ok n) e q = (loaded-is text room n (as-formed text room e q)).1
loaded-fits text room (Err r) e q = omega arith

-- The words when all behind those of n records is cleared: those of the records, each with its way up, or zeros alone on a refusal.
module _ (text o l : List ℕ) {t w : List ℕ} (f : Form) (g : f ≡ form_of text) (ll : length l ≡ length o) (lt : length t ≡ length o) where
  pub words-handed : (x : Result ℕ NotLoaded) {n : ℕ} → meant x ≡ load_as f text (length o) → n ≡ result_unwrap_or x 0 → recs n l ≡ map rec_of (rows_from (widths_of f) n text)
      → t ≡ upward n l → w ≡ take (rec_wide * n) t ++ replicate (length t - rec_wide * n) 0 → w ≡ words_of text (length o)
  unfolding words_of lines_read
  words-handed (Err r) {n} q z are up c =
      let a = as-formed text (length o) g q in
      let none : rec_wide * n ≡ 0 = omega (arith, z) in
      let all : length t - rec_wide * n ≡ length o = omega (arith, z, lt) in
      c ∙ (λ i. take (none i) t ++ replicate (all i) 0) ∙ zeroed r (records_of text) (length o) ∙ ap (λ (b : Answer). contents b (records_of text) (length o)) a
  words-handed (Ok m) {n} q e are up c =
      let a = as-formed text (length o) g q in
      let (k, fit) = loaded-is text (length o) m a in
      let rs = records_of text in
      let held : recs n l ≡ rs = are ∙ (λ i. map rec_of (rows_from (ap widths_of g i) ((e ∙ k) i) text)) in
      let many : length rs ≡ n = ap length (sym held) ∙ recs-length n l in
      let words : t ≡ up_words rs ++ drop (rec_wide * n) l = up ∙ upward-held n l (omega (arith, ll, fit, e)) ∙ ap (λ (y : List Rec). up_words y ++ drop (rec_wide * n) l) held in
      let long : length (up_words rs) ≡ rec_wide * n = up-words-long rs ∙ ap (λ (j : ℕ). rec_wide * j) many in
      let rest : length t - rec_wide * n ≡ length o - rec_wide * length rs = omega (arith, lt, many) in
      c
      ∙ (λ i. take (rec_wide * n) (words i) ++ replicate (rest i) 0)
      ∙ ap (λ (y : List ℕ). y ++ replicate (length o - rec_wide * length rs) 0) (take_at (up_words rs) (drop (rec_wide * n) l) (rec_wide * n) long)
      ∙ ap (λ (b : Answer). contents b rs (length o)) a

-- What is promised of the answer and the words, of those that are handed over.
pub handed : (text : List ℕ) (room : ℕ) {a : Answer} → a ≡ load_of text room → {w : List ℕ} → w ≡ words_of text room → Loads text room a w
handed text room q {w} h =
    subst (λ (a : Answer). Loads text room a w) (sym q) (subst (Loads text room (load_of text room)) (sym h) (promised text room))
