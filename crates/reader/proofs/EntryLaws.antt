-- From what the writer of lines ensures to the listing of a draft in its buffer.
-- Assumes nothing.
use mathlib.Core.List.{List, [], ◌++◌}
use mathlib.Core.Path.{◌≡◌, refl, sym, ap, ap₂, ◌∙◌}
use Prim.Native.Nat.{ℕ, ◌-◌, ◌*◌, ◌≤◌}
use Rattle.std.specs.Prelude.{min, Result, Ok, Err}
use native.Mathlib.Omega.{arith}
use lib.ListN.{length, replicate, drop, length-append, length-replicate}
use Rattle.lexer.specs.Limits.{Limits, small_limits, limits_for, lexed_of}
use Rattle.lexer.proofs.Fits.{lexed-few}
use Rattle.reader.specs.declared.lexed.Lexed.{Lexed}
use Rattle.lexer.specs.declared.Limits as code
use Rattle.lexer.specs.declared.Limits.TheVariants.{Small, Large}
use Rattle.text.specs.Front.{Held}
use Rattle.text.specs.Widths.{tok_wide}
use Rattle.up.specs.Ways.{rows, rows_in, up_words}
use Rattle.up.proofs.Laws.{rows-up, up-words-long}
use Rattle.lines.specs.Lines.{is_long, listed_rows, lines}
use Rattle.lines.specs.Written.{used, padded, held, lines_in}
use Rattle.grammar.specs.Entry.{Entry}
use Rattle.text.specs.Answers.{Answer, accepted, refused}
use Rattle.grammar.specs.Answers.Answer.{answer, content, records_for, records_in, records_read, tree_buffer}
use Rattle.grammar.specs.Answers.Outcome.{Accepted}
use Rattle.grammar.proofs.Answers.OutcomeLaws.{read-faultless}
use Rattle.grammar.proofs.Answers.Laws.{law-1}
use Rattle.grammar.specs.Answers.Lines.{listed, listing}
use Rattle.text.specs.declared.refusal.Refused.{Refused}
use Rattle.reader.specs.declared.Counts.{Counts}
use Rattle.reader.specs.Read.{meant}
use Rattle.reader.specs.Listed.{HandsOver, Short, written, listing_by, used_of, bytes_of}
use Rattle.reader.proofs.LineLaws.{same_is}
use Rattle.reader.proofs.Restored.{never-long}
use Rattle.reader.proofs.Short.{roomy_listing}

-- The records of an accepted draft are those that were read.
pub were-read : (en : Entry) (l : Limits) (draft : List ℕ) (tw rw n m : ℕ) (a : Accepted en l draft tw rw n m) → records_read en l draft tw ≡ records_for en draft a.its_tokens a.shape
unfolding records_read
were-read en l draft tw rw n m a = ap records_in (read-faultless en l draft tw rw a.its_tokens a.shape a.shaped a.no_fault)

-- The rows of a buffer that begins with all records of an accepted draft are theirs,
rows-are : (en : Entry) (l : Limits) (draft rest : List ℕ) {tree : List ℕ} (tw rw n m : ℕ) → answer en l draft tw rw ≡ accepted n m → tree ≡ up_words (records_read en l draft tw) ++ rest
    → rows_in (held tree m) tree ≡ rows (records_read en l draft tw)
rows-are en l draft rest {tree} tw rw n m e h =
    let a = (law-1 en l draft tw rw n m).0 e in
    let rs = records_read en l draft tw in
    let many : m ≡ length rs = a.records_number ∙ ap length (sym (were-read en l draft tw rw n m a)) in
    let all : held tree m ≡ length rs = omega (arith, ap length h, length-append (up_words rs) rest, up-words-long rs, many) in
    ap₂ (λ (k : ℕ) (w : List ℕ). rows_in k w) all h ∙ rows-up rs rest

-- so that what it lists is the listing,
accepted-is : (en : Entry) (l : Limits) (draft rest : List ℕ) {tree : List ℕ} (tw rw n m : ℕ) → answer en l draft tw rw ≡ accepted n m → tree ≡ up_words (records_read en l draft tw) ++ rest
    → lines_in tree m ≡ listing en l draft tw rw
unfolding lines_in listing
accepted-is en l draft rest tw rw n m e h =
    ap listed_rows (rows-are en l draft rest tw rw n m e h) ∙ sym (ap (λ (x : Answer). lines (listed x (records_read en l draft tw))) e)

-- and so is the line of a refusal.
pub refused-listing : (en : Entry) (l : Limits) (draft : List ℕ) (tw rw c p : ℕ) → answer en l draft tw rw ≡ refused c p → lines (listed (refused c p) []) ≡ listing en l draft tw rw
unfolding listing
refused-listing en l draft tw rw c p e = sym (ap (λ (x : Answer). lines (listed x (records_read en l draft tw))) e)

-- So the lines of what was read are the listing: by a buffer that begins with its records,
pub written-is : (en : Entry) (l : Limits) (draft old : List ℕ) {tree : List ℕ} (tw : ℕ) (r : Result Counts Refused) → meant r ≡ answer en l draft tw (length old)
    → Held (meant r) (up_words (records_read en l draft tw)) old tree → written r tree ≡ listing en l draft tw (length old)
written-is en l draft old tw (Ok c) e h =
    accepted-is en l draft (drop (length (up_words (records_read en l draft tw))) old) tw (length old) c.tokens c.records (sym e) (h.holds _ _ refl)
written-is en l draft old tw (Err r) e h = refused-listing en l draft tw (length old) _ _ (sym e)

-- and by one that is as it is handed over.
pub buffer-written : (en : Entry) (l : Limits) (draft : List ℕ) {tree : List ℕ} (tw rw : ℕ) (r : Result Counts Refused) → meant r ≡ answer en l draft tw rw
    → tree ≡ tree_buffer en l draft tw rw → written r tree ≡ listing en l draft tw rw
unfolding tree_buffer
buffer-written en l draft tw rw (Ok c) e h =
    let ws = up_words (records_read en l draft tw) in
    accepted-is en l draft (replicate (rw - length ws) 0) tw rw c.tokens c.records (sym e) (h ∙ ap (λ (x : Answer). content x ws rw) (sym e))
buffer-written en l draft tw rw (Err r) e h = refused-listing en l draft tw rw _ _ (sym e)

-- Within the small limits there are no more tokens than they have,
pub few-lexed : (x : Lexed) → x.limits ≡ Small → x.count ≤ small_limits.tokens
few-lexed x q = lexed-few small_limits x.draft.now (length x.words.now) x.count (sym (ap (λ (c : code.Limits). lexed_of (limits_for c) x.draft.now (length x.words.now)) q) ∙ x.counted)

-- and no record needs more than four digits.
pub short-is : (en : Entry) (c : code.Limits) (draft old : List ℕ) {tree : List ℕ} (tw : ℕ) (r : Result Counts Refused) → meant r ≡ answer en (limits_for c) draft tw (length old)
    → Held (meant r) (up_words (records_read en (limits_for c) draft tw)) old tree → c ≡ Small → Short r tree
short-is en Large draft old tw r e h q = absurd cc
short-is en Small draft old tw (Err r) e h q = tt
short-is en Small draft old tw (Ok k) e h q =
    let rs = records_read en small_limits draft tw in
    ap is_long (rows-are en small_limits draft (drop (length (up_words rs)) old) tw (length old) k.tokens k.records (sym e) (h.holds _ _ refl))
    ∙ ap (λ (x : Answer). is_long (rows (listed x rs))) e
    ∙ never-long en draft tw (length old)

-- What a call hands over that was lent an array of so many words and a buffer is handed over by way of so many words, in that buffer;
pub lent_is : (text : ℕ → List ℕ) (count : ℕ) {words out old left new : List ℕ} {r : ℕ} → words ≡ replicate count 0 → out ≡ old → left ≡ new → HandsOver (text (length words)) (length out) r left
    → HandsOver (text count) (length old) r new
lent_is text count {words} {out} z e f h =
    let (u, b) = same_is (length out) (ap text (ap length z ∙ length-replicate count 0)) h in
    (u ∙ ap (λ (x : List ℕ). used (text count) (length x)) e, sym f ∙ b ∙ ap (λ (x : List ℕ). padded (text count) (length x)) e)

-- and by way of an array that has room for as many tokens as the draft has bytes, or as any may have, it is what is promised of the draft.
pub roomy_is : (draft : List ℕ) (r : ℕ) {count : ℕ} {words out old left new : List ℕ} → tok_wide * min (length draft) small_limits.tokens ≤ count → count ≤ tok_wide * small_limits.tokens
    → words ≡ replicate count 0 → out ≡ old → left ≡ new → HandsOver (listing_by draft (length words)) (length out) r left → (r ≡ used_of draft (length old)) × (new ≡ bytes_of draft (length old))
unfolding used_of bytes_of
roomy_is draft r {count} {old = old} least most z e f h = same_is (length old) (roomy_listing draft count least most) (lent_is (listing_by draft) count z e f h)
