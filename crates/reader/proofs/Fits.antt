-- A buffer of a line of 41 bytes for each of 2,049 records has room for the listing of every draft within the small limits, no more bytes are used than there
-- are, and none only where it does not fit.
-- Assumes nothing.
use Rattle.std.specs.Prelude.{Bool, true, false, cond, List, ◌↔◌, ◌≡◌, refl, ℕ, ◌*◌, ◌≤◌, ◌<◌, ltb, length}
use Rattle.std.proofs.Common.{ap, ◌∙◌, arith, ltb-false, le-ltb}
use Rattle.lexer.specs.Limits.{small_limits}
use Rattle.text.specs.Widths.{tok_wide, rec_wide}
use Rattle.grammar.specs.Entry.{whole_file}
use Rattle.text.specs.Answers.{Answer, accepted, refused}
use Rattle.grammar.specs.Answers.Answer.{answer, records_in, records_read}
use Rattle.grammar.proofs.Answers.OutcomeLaws.{read-faultless}
use Rattle.grammar.proofs.Answers.Laws.{law-1}
use Rattle.lines.specs.Form.{wide}
use Rattle.lines.specs.Lines.{widths, line_bytes, lines_of, lines, widths_by}
use Rattle.lines.proofs.Lines.{lines-length, listed-short}
use Rattle.grammar.specs.Answers.Lines.{listed, listing}
use Rattle.reader.specs.Listed.{rows_listed, listing_of, used_of}
use Rattle.reader.specs.Fits.{most, enough}
use Rattle.reader.proofs.Nothing.{nothing-only}
use Rattle.reader.proofs.Restored.{never-long}

-- No draft within the small limits has more lines than 2,049,
few_lines : (draft : List ℕ) (tw rw : ℕ) (x : Answer) → answer whole_file small_limits draft tw rw ≡ x → rw ≤ rec_wide * most → length (listed x (records_read whole_file small_limits draft tw)) ≤ most
unfolding records_read
few_lines draft tw rw (refused c p) e h = omega arith
few_lines draft tw rw (accepted n m) e h =
    let a = (law-1 whole_file small_limits draft tw rw n m).0 e in
    let f = read-faultless whole_file small_limits draft tw rw a.its_tokens a.shape a.shaped a.no_fault in
    omega (arith, a.fits, h, ap (λ y. length (records_in y)) f)

-- so that its listing fits,
pub listing-fits : (draft : List ℕ) → length (listing_of draft) ≤ enough
unfolding listing
listing-fits draft =
    let tw = tok_wide * small_limits.tokens in
    let rw = rec_wide * most in
    let a = answer whole_file small_limits draft tw rw in
    let rs = listed a (records_read whole_file small_limits draft tw) in
    let k = few_lines draft tw rw a refl (omega arith) in
    let e = ap (λ (b : Bool). wide (widths_by b)) (never-long whole_file draft tw rw) in
    let j : length (lines rs) ≡ line_bytes * length rs = lines-length rs ∙ ap (λ (b : ℕ). b * length rs) e in
    omega (arith, k, j)

-- in which every line has 41 bytes,
pub all-short : (draft : List ℕ) → listing_of draft ≡ lines_of widths (rows_listed draft)
unfolding listing
all-short draft = listed-short (rows_listed draft) (never-long whole_file draft (tok_wide * small_limits.tokens) (rec_wide * most))

-- and a buffer of that many bytes or more has all of it;
pub all_listed : (draft : List ℕ) (size : ℕ) → enough ≤ size → used_of draft size ≡ length (listing_of draft)
unfolding used_of
all_listed draft size h =
    let k = listing-fits draft in
    let e : length (listing_of draft) ≤ size = omega (arith, h, k) in
    ap (λ (b : Bool). cond b 0 (length (listing_of draft))) (le-ltb size (length (listing_of draft)) e)

by_size : (m size : ℕ) (b : Bool) → ltb size m ≡ b → cond b 0 m ≤ size
by_size m size true e = omega arith
by_size m size false e = ltb-false size m e

-- and no more bytes are used than there are.
pub used-within : (draft : List ℕ) {size n : ℕ} → n ≡ used_of draft size → n ≤ size
unfolding used_of
used-within draft {size} {n} e = let h = by_size (length (listing_of draft)) size (ltb size (length (listing_of draft))) refl in omega (arith, e, h)

-- No byte is used only when it does not fit: "It gets 0, all bytes zero, only when the lines do not fit."
pub nothing-used : (draft : List ℕ) (size : ℕ) {n : ℕ} → n ≡ used_of draft size → (n ≡ 0) ↔ (size < length (listing_of draft))
unfolding used_of
nothing-used draft size e = nothing-only small_limits draft (tok_wide * small_limits.tokens) (rec_wide * most) size e
