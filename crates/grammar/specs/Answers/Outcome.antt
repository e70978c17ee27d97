-- When the reader accepts and when it refuses, row by row in document 01's order of refusals: "Refusal 1 is tested first; of 2 to 5 the earliest
-- place wins; then 6, 7 and 8 in turn, each over all tokens; of 9 to 14 the earliest place; last 15." 19 is "among 9 to 14" and 21 "among 2 to 5"
-- (document 02, orders 2 and 6). "Refusals 1 and 6 take the new limits at the library, with places to match" (order 9): the limits are a parameter.
-- Assumes nothing: these are definitions. That `answer` is just that stands in proofs/Answers/OutcomeLaws.antt.
use Rattle.std.specs.Prelude.{List, ◌++◌, map, ◌≡◌, ℕ, suc, ◌-◌, ◌*◌, ◌≤◌, ◌<◌, length, get_or, take, replicate}
use Rattle.std.proofs.Math.Option.{none, some}
use Rattle.theory.specs.Ebnf.{Items, yield}
use Rattle.lexer.specs.Lexemes.{Token, tokens, lexemes}
use Rattle.lexer.specs.Limits.{Limits, first_too_deep, room, no_token, token_words}
use Rattle.lexer.specs.Rows.{Earliest}
use Rattle.own.specs.Tree.{Rec, concat, classes_of}
use Rattle.up.specs.Ways.{sevens}
use Rattle.text.specs.Part.{part_of}
use Rattle.text.specs.Widths.{tok_wide, rec_wide}
use Rattle.text.specs.Refusals.{refusal_number}
use Rattle.text.specs.declared.refusal.Refusal.TheVariants as refusal
use Rattle.grammar.specs.Entry.{Entry}
use Rattle.grammar.specs.Shapes.WellShaped.{Shape, WellShaped}
use Rattle.grammar.specs.Records.Faults.{Fault, fault_of}
use Rattle.grammar.specs.Answers.Answer.{toks_of, start_of, records_for}

-- The draft lexes to these tokens, within the limits: no refusal of the lexer's.
pub record Within (l : Limits) (draft : List ℕ) (tw : ℕ) (ts : List Token) : Type 0 where
  pub short : length draft ≤ l.bytes
  pub lexes : lexemes draft ≡ tokens ts
  pub few : length ts ≤ l.tokens
  pub third : tok_wide * length ts ≤ tw
  pub shallow : first_too_deep 0 0 ts ≡ none

-- The draft is well-shaped besides, with this shape tree: nor is it misshapen.
pub record Shaped (en : Entry) (l : Limits) (draft : List ℕ) (tw : ℕ) (ts : List Token) (r : Items) : Type 0 where
  pub within : Within l draft tw ts
  pub is_shape : Shape en r
  pub its_yield : yield r ≡ classes_of (toks_of draft ts)

-- Tokens as what they are in any draft: their kinds and texts.
abbrev pub spelled : List ℕ → List Token → List (ℕ × List ℕ)
spelled draft ts = map (λ t. (t.kind, part_of draft t.start t.end)) ts

-- Tokens "can be continued to a well-shaped draft": there is one whose first tokens they are.
pub record Continued (en : Entry) (these : List (ℕ × List ℕ)) : Type 0 where
  pub draft : List ℕ
  pub its_tokens : List Token
  pub lexes : lexemes draft ≡ tokens its_tokens
  pub begins : take (length these) (spelled draft its_tokens) ≡ these
  pub well_shaped : WellShaped en (classes_of (toks_of draft its_tokens))

-- Row 8, both halves: "In 8, limits and refusals 9 to 14 are left aside", 19 among them.
pub record Misshapen (en : Entry) (l : Limits) (draft : List ℕ) (tw p : ℕ) : Type 0 where
  pub its_tokens : List Token
  pub within : Within l draft tw its_tokens
  -- the number of the token, as many as there are tokens for the end
  pub at : ℕ
  pub there : at ≤ length its_tokens
  -- "its start, or the length at the end"
  pub place : p ≡ start_of draft its_tokens at
  -- "the tokens before this one can be continued to a well-shaped draft,
  pub before : Continued en (take at (spelled draft its_tokens))
  -- but not with this one"; at the end they are no well-shaped draft themselves
  pub further : at < length its_tokens → Continued en (take (suc at) (spelled draft its_tokens)) → ⊥
  pub ended : at ≡ length its_tokens → WellShaped en (classes_of (toks_of draft its_tokens)) → ⊥

-- Refused: one case a row, or one for rows that are told apart by what is found, each with no row before it.
pub data Refusal (en : Entry) (l : Limits) (draft : List ℕ) (tw rw : ℕ) : ℕ → ℕ → Type 0 where
  -- 1: "draft over 16,384 bytes", and 1,048,576 at the library
  too_long : l.bytes < length draft → Refusal en l draft tw rw (refusal_number refusal.TooLong) l.bytes
  -- those of the bytes: "of 2 to 5 the earliest place wins", 21 among them
  bad_bytes : {c p : ℕ} → length draft ≤ l.bytes → Earliest draft c p → Refusal en l draft tw rw c p
  -- 6: "over 2,048 tokens, or over a third of the token buffer's words", and 131,072 at the library, at the "first token too many"
  too_many : {ts : List Token} → length draft ≤ l.bytes → lexemes draft ≡ tokens ts → room l tw < length ts
      → Refusal en l draft tw rw (refusal_number refusal.TooMany) (get_or ts (room l tw) no_token).start
  -- 7: "over 48 brackets open, or over 8 `match` tokens in a row", at "the token that passes it"
  too_deep : {ts : List Token} {p : ℕ} → length draft ≤ l.bytes → lexemes draft ≡ tokens ts → length ts ≤ room l tw → first_too_deep 0 0 ts ≡ some p
      → Refusal en l draft tw rw (refusal_number refusal.TooDeep) p
  misshapen : {p : ℕ} → Misshapen en l draft tw p → Refusal en l draft tw rw (refusal_number refusal.Misshapen) p
  -- those of the shapes: "of 9 to 14 the earliest place", 19 among them
  faulted : {ts : List Token} {r : Items} {f : Fault} → Shaped en l draft tw ts r → fault_of draft (toks_of draft ts) r ≡ some f → Refusal en l draft tw rw f.number f.place
  -- 15: "tree buffer under six words a record", and by order 7 of document 02 under seven, at 0
  no_room : {ts : List Token} {r : Items} → Shaped en l draft tw ts r → fault_of draft (toks_of draft ts) r ≡ none → rw < rec_wide * length (records_for en draft ts r)
      → Refusal en l draft tw rw (refusal_number refusal.NoRoom) 0

-- "An accepted draft, to which no row below applies: the numbers of tokens and records".
pub record Accepted (en : Entry) (l : Limits) (draft : List ℕ) (tw rw n m : ℕ) : Type 0 where
  pub its_tokens : List Token
  pub shape : Items
  pub shaped : Shaped en l draft tw its_tokens shape
  pub no_fault : fault_of draft (toks_of draft its_tokens) shape ≡ none
  pub fits : rec_wide * length (records_for en draft its_tokens shape) ≤ rw
  pub tokens_number : n ≡ length its_tokens
  pub records_number : m ≡ length (records_for en draft its_tokens shape)

-- What stands in the two buffers of an accepted draft: "tokens and tree written, zeros after them", where the ways up are us.
pub record Written (tw rw : ℕ) (ts : List Token) (us : List ℕ) (rs : List Rec) (tb rb : List ℕ) : Type 0 where
  pub token_words_are : tb ≡ token_words ts ++ replicate (tw - tok_wide * length ts) 0
  pub record_words_are : rb ≡ concat (sevens us rs) ++ replicate (rw - rec_wide * length rs) 0
