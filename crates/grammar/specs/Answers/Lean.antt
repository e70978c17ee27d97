-- The answer of the entries that keep one word a token, its start (document 02, order 10), and what is promised of it. It is the one answer of Answer.antt
-- with other room for tokens.
-- Assumes nothing: these are definitions. That the answer and its buffers keep the promise stands in proofs/Answers/LeanLaws.antt.
use Rattle.std.specs.Prelude.{List, ◌++◌, ◌↔◌, ◌≡◌, ℕ, ◌-◌, ◌*◌, ◌/◌, ◌≤◌, ◌<◌, min, length, get_or, take, replicate}
use Rattle.lexer.specs.Lexemes.{Token, tokens, lexemes}
use Rattle.lexer.specs.Limits.{Limits, no_token, lexed_in, tokens_of}
use Rattle.lexer.specs.Starts.{start_words, start_room, tokens_at}
use Rattle.own.specs.Tree.{Rec, concat}
use Rattle.own.specs.Words.{recs}
use Rattle.up.specs.Ways.{sevens, up_words}
use Rattle.text.specs.Widths.{tok_wide, rec_wide}
use Rattle.text.specs.Answers.{Answer, accepted, refused}
use Rattle.text.specs.Refusals.{refusal_number}
use Rattle.text.specs.declared.refusal.Refusal.TheVariants as refusal
use Rattle.lines.specs.Lines.{lines}
use Rattle.lines.specs.Written.{used, padded}
use Rattle.grammar.specs.Entry.{Entry, Owned}
use Rattle.grammar.specs.Answers.Answer.{toks_of, ups_for, records_for, Reading, reading_in, fitted, answer, content, tokens_read, records_in, tree_buffer}
use Rattle.grammar.specs.Answers.Lines.{listed, listing}
use Rattle.grammar.specs.Answers.Outcome.{Misshapen, Refusal, Accepted}

-- The reading of a draft with a buffer of so many words for the starts of its tokens,
unfoldable pub lean_reading : Entry → Limits → List ℕ → ℕ → Reading
lean_reading en l draft sw = reading_in en l draft (start_room l sw)

-- the answer with that and a tree buffer of rw words,
unfoldable pub lean_answer : Entry → Limits → List ℕ → ℕ → ℕ → Answer
lean_answer en l draft sw rw = fitted rw (lean_reading en l draft sw)

-- every word of the buffer for the starts, "one word a token",
unfoldable pub start_buffer : Entry → Limits → List ℕ → ℕ → ℕ → List ℕ
start_buffer en l draft sw rw = content (lean_answer en l draft sw rw) (start_words (tokens_read (lean_reading en l draft sw))) sw

-- the records,
unfoldable pub lean_records : Entry → Limits → List ℕ → ℕ → List Rec
lean_records en l draft sw = records_in (lean_reading en l draft sw)

-- every word of the tree buffer,
unfoldable pub lean_tree : Entry → Limits → List ℕ → ℕ → ℕ → List ℕ
lean_tree en l draft sw rw = content (lean_answer en l draft sw rw) (up_words (lean_records en l draft sw)) rw

-- and the listing.
unfoldable pub lean_listing : Entry → Limits → List ℕ → ℕ → ℕ → List ℕ
lean_listing en l draft sw rw = lines (listed (lean_answer en l draft sw rw) (lean_records en l draft sw))

-- ---- what is promised

-- Room for r tokens suffices: the buffer is not what refuses the draft. The draft is over the limit of bytes, or is refused for its bytes, or has no more
-- tokens than r, or there is room for all that there may be.
abbrev pub Suffices : Limits → List ℕ → ℕ → Type 0
Suffices l draft r = length draft ≤ l.bytes → min l.tokens (length (tokens_of (lexemes draft))) ≤ r

-- Room for r tokens is too small: it is less than the limit, and with it the draft is refused for too many tokens. That is so exactly where it does not
-- suffice (proofs/Answers/LeanLaws.antt).
abbrev pub TooSmall : Limits → List ℕ → ℕ → Type 0
TooSmall l draft r = (r < l.tokens) × (p : ℕ) × (lexed_in l draft (min l.tokens r) ≡ refused (refusal_number refusal.TooMany) p)

-- "Its tree, numbers and refusals equal the old entry's on every draft, over tree buffers of one length, whenever both scratch buffers suffice": the answer a,
-- and a tree buffer that holds rs afterwards.
abbrev pub AsOther : Entry → Limits → List ℕ → ℕ → ℕ → Answer → List ℕ → Type 0
AsOther en l draft sw rw a rs =
    (tw : ℕ) → Suffices l draft (tw / tok_wide) → Suffices l draft sw → (a ≡ answer en l draft tw rw) × (rs ≡ tree_buffer en l draft tw rw)

-- And so does the listing: the n bytes used of a buffer of so many, and all of its bytes.
abbrev pub ListedAsOther : Entry → Limits → List ℕ → ℕ → ℕ → ℕ → ℕ → List ℕ → Type 0
ListedAsOther en l draft sw rw size n bytes =
    (tw : ℕ) → Suffices l draft (tw / tok_wide) → Suffices l draft sw → (n ≡ used (listing en l draft tw rw) size) × (bytes ≡ padded (listing en l draft tw rw) size)

-- So many words hold as many whole tokens as sw words hold starts. Every row of the papers is what it is with a buffer of these,
abbrev pub whole_words : ℕ → ℕ
whole_words sw = tok_wide * sw

-- and row 6 in this order's own words is this, at the "first token too many".
pub record TooManyStarts (l : Limits) (draft : List ℕ) (sw p : ℕ) : Type 0 where
  pub short : length draft ≤ l.bytes
  pub its_tokens : List Token
  pub lexes : lexemes draft ≡ tokens its_tokens
  -- "compares tokens with the buffer's words, not with a third of them"
  pub many : start_room l sw < length its_tokens
  pub place : p ≡ (get_or its_tokens (start_room l sw) no_token).start

-- What stands in the two buffers of an accepted draft: the starts in order and the tree, zeros after them, where the ways up are us.
pub record WrittenLean (sw rw : ℕ) (ts : List Token) (us : List ℕ) (rs : List Rec) (sb rb : List ℕ) : Type 0 where
  pub starts_are : sb ≡ start_words ts ++ replicate (sw - length ts) 0
  pub record_words_are : rb ≡ concat (sevens us rs) ++ replicate (rw - rec_wide * length rs) 0

-- The answer a to a draft, with buffers of sw and rw words that hold ss and rs afterwards. Each line is that of `Promised` (Promised.antt).
pub record PromisedLean (en : Entry) (l : Limits) (draft : List ℕ) (sw rw : ℕ) (a : Answer) (ss rs : List ℕ) : Type 0 where
  pub accepts : (n m : ℕ) → (a ≡ accepted n m) ↔ Accepted en l draft (whole_words sw) rw n m
  pub written : (n m : ℕ) (d : Accepted en l draft (whole_words sw) rw n m)
      → WrittenLean sw rw d.its_tokens (ups_for en draft d.its_tokens d.shape) (records_for en draft d.its_tokens d.shape) ss rs
  pub refuses : (c p : ℕ) → (a ≡ refused c p) ↔ Refusal en l draft (whole_words sw) rw c p
  -- Row 6 both ways, in this order's terms;
  pub too_many : (p : ℕ) → (a ≡ refused (refusal_number refusal.TooMany) p) ↔ TooManyStarts l draft sw p
  pub misshapen : (p : ℕ) → (a ≡ refused (refusal_number refusal.Misshapen) p) ↔ Misshapen en l draft (whole_words sw) p
  pub zeros : (c p : ℕ) → a ≡ refused c p → (ss ≡ replicate sw 0) × (rs ≡ replicate rw 0)
  -- Demand 3, over the tokens found again at the starts that are handed over;
  pub owned : (n m : ℕ) → a ≡ accepted n m → Owned en (length draft) (toks_of draft (tokens_at draft (take n ss))) (recs m rs)
  -- and the answer and the tree are those of the other entry.
  pub as_other : AsOther en l draft sw rw a rs
