-- What `parse` hands over (document 01, "What the reader hands over": row 6 for a count that is too large, and from row 8 on; 19 among 9 to 14): from a
-- draft and the words of its token buffer to the answer and every word of the tree buffer. What the draft is read as, and how many tokens there may be, are parameters.
-- Assumes nothing: these are definitions.
use Rattle.std.specs.Prelude.{◌≡◌, ℕ, ◌*◌, Bool, false, cond, ◌||◌, List, [], ◌∷◌, length, take, replicate, nat_le, nat_lt}
use Rattle.std.specs.Prelude.{Option, Some, None, Result, Ok, Err}
use Rattle.std.proofs.Math.Option.{none}
use Rattle.lexer.specs.Lexemes.{Token}
use Rattle.lexer.specs.Buffer.{tokens_in}
use Rattle.lexer.specs.Starts.{tokens_at}
use Rattle.text.specs.Widths.{tok_wide, rec_wide}
use Rattle.text.specs.Answers.{Answer, accepted, refused}
use Rattle.text.specs.declared.refusal.Refusal.TheVariants as refusal
use Rattle.text.specs.Refusals.{refusal_number, refused_by}
use Rattle.text.specs.declared.refusal.Refusal.{Refusal}
use Rattle.text.specs.declared.refusal.Refused.{Refused}
use Rattle.own.specs.Words.{rec_words}
use Rattle.own.specs.Tree.{classes_of}
use Rattle.grammar.specs.Entry.{Entry, single_function, whole_file}
use Rattle.theory.specs.Grammar.{nt}
use Rattle.grammar.specs.Shapes.TablesIndex.{n-function}
use Rattle.grammar.specs.Shapes.WellShaped.{shape_of}
use Rattle.grammar.specs.Answers.Answer.{toks_of, start_of, Reading, shaped, fitted, content, records_in}
use Rattle.parse.specs.Contract.{Text, count_of, source_tokens, kept, Stands, as_items, Parsed, Node, u32_count}
use Rattle.parse.specs.Infos.{FunctionKind, FileRead}
use Rattle.parse.specs.declared.ReadAs.{ReadAs}
use Rattle.parse.specs.declared.ReadAs.TheVariants.{Function, File}
use Rattle.parse.specs.declared.State.{State}
use Rattle.parse.specs.declared.token.Source.{Source}
use Rattle.parse.specs.declared.Step as steps
use Rattle.parse.specs.declared.Step.TheVariants as step
use Rattle.parse.specs.declared.fault.Fault.{Fault}

-- More tokens than there may be, or than the token buffer of so many words holds.
unfoldable pub too_many : ℕ → ℕ → ℕ → Bool
too_many most n tw = nat_lt most n || nat_lt tw (tok_wide * n)

-- The same where the buffer of so many words has their starts alone, "one word a token" (document 02, order 10).
unfoldable pub too_many_starts : ℕ → ℕ → ℕ → Bool
too_many_starts most n sw = nat_lt most n || nat_lt sw n

-- The code's name for an entry.
abbrev pub entry_of : ReadAs → Entry
entry_of Function = single_function
entry_of File = whole_file

-- A file longer than its first record can say. (No draft within the limits is.)
unfoldable pub too_long : Entry → ℕ → Bool
too_long single_function len = false
too_long whole_file len = nat_le u32_count len

-- What the step of a whole draft of so many bytes says.
pub data WholeRead (x : Text) (len : ℕ) (st : State) (l l' : List ℕ) (r : steps.Step) : Entry → Type 0 where
  one_read : Parsed x (nt n-function ∷ []) as_items (Node FunctionKind) st l l' r → WholeRead x len st l l' r single_function
  all_read : FileRead x len st l l' r → WholeRead x len st l l' r whole_file

-- The reading of a draft with these tokens: refusal 8, then those of the shapes, or its tokens and its records.
unfoldable pub reading_of : Entry → List ℕ → List Token → Reading
reading_of en draft ts = shaped en draft ts (shape_of en (classes_of (toks_of draft ts)))

-- The paper's answer for each case of the code's, over n tokens.
abbrev pub meant : ℕ → Result ℕ Refused → Answer
meant n (Ok m) = accepted n m
meant n (Err r) = refused_by r

-- The answer for a draft with these tokens and a tree buffer of rw words. A file that is too long is refusal 1,
abbrev pub answer_for : Entry → List ℕ → List Token → ℕ → Answer
answer_for en draft ts rw = cond (too_long en (length draft)) (refused (refusal_number refusal.TooLong) 0) (fitted rw (reading_of en draft ts))

-- and before that too many tokens are refusal 6. The places of both are the lexer's to give: here they are 0, and the reader never comes to them (`not-many`
-- and `not-long` of its laws).
abbrev pub answer_by : Bool → Entry → List ℕ → List Token → ℕ → Answer
answer_by many en draft ts rw = cond many (refused (refusal_number refusal.TooMany) 0) (answer_for en draft ts rw)

-- The answer for a draft, its n tokens in these words, and a tree buffer of rw words,
unfoldable pub answer_of : Entry → ℕ → List ℕ → List ℕ → ℕ → ℕ → Answer
answer_of en most draft words n rw = answer_by (too_many most n (length words)) en draft (tokens_in n words) rw

-- and that for the tokens found again at the first n starts in these words.
unfoldable pub starts_answer : Entry → ℕ → List ℕ → List ℕ → ℕ → ℕ → Answer
starts_answer en most draft words n rw = answer_by (too_many_starts most n (length words)) en draft (tokens_at draft (take n words)) rw

-- Every word of the tree buffer: six words a record, a seventh that is 0, and zeros behind them; otherwise zeros alone.
unfoldable pub tree_of : Entry → ℕ → List ℕ → List ℕ → ℕ → ℕ → List ℕ
tree_of en most draft words n rw =
    let r = reading_of en draft (tokens_in n words) in
    cond (too_many most n (length words)) (replicate rw 0)
    (cond (too_long en (length draft)) (replicate rw 0) (content (fitted rw r) (rec_words (records_in r)) rw))

-- The first state: at the first token, with no records and no refusal.
pub record Starts (x : Text) (st : State) : Type 0 where
  pub stands : Stands x st
  pub at_is : st.at ≡ 0
  pub out_is : st.out ≡ 0
  pub kept_is : kept st ≡ none

-- A refusal of a shape as the caller sees it.
abbrev pub as_refused : Fault → Refused
as_refused f = record { refusal = f.refusal; place = f.place }

-- The code's answer that refuses,
abbrev pub refuses : Refusal → ℕ → Result ℕ Refused
refuses r p = Err (record { refusal = r; place = p })

-- and that of a refusal that was kept, or else this one.
abbrev pub unless_kept : Option Fault → Result ℕ Refused → Result ℕ Refused
unless_kept None r = r
unless_kept (Some f) r = Err (as_refused f)

-- Where a token starts, or the length at the end.
abbrev pub place_in : Source → ℕ → ℕ
place_in s at = start_of s.draft.now (source_tokens s) at

-- What the last state says: a token left over is refusal 8; then those of the shapes, then 15.
unfoldable pub ended : Source → ℕ → State → Result ℕ Refused
ended s rw z =
    cond (nat_lt z.at (count_of s)) (refuses refusal.Misshapen (place_in s z.at))
    (unless_kept z.fault (cond (nat_lt rw (rec_wide * z.out)) (refuses refusal.NoRoom 0) (Ok z.out)))

-- What the step of the whole draft says.
abbrev pub judged : Source → ℕ → steps.Step → Result ℕ Refused
judged s rw (step.Next z a b) = ended s rw z
judged s rw (step.Refused p) = refuses refusal.Misshapen (place_in s p)
