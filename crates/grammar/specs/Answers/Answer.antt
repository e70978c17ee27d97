-- The reader's answer (document 01, "What the reader hands over"): from a draft and the numbers of words of the two buffers to the
-- numbers or the refusal with its place, and every word of both buffers. What it is read as, and the byte and token limits, are parameters.
-- Assumes nothing.
use Rattle.std.specs.Prelude.{cond, List, [], ◌∷◌, ◌++◌, ℕ, ◌-◌, ◌*◌, ltb, length, get_or, replicate}
use Rattle.std.proofs.Math.Option.{Option, none, some}
use Rattle.theory.specs.Ebnf.{Items}
use Rattle.theory.specs.Parse.{Found, found, stuck}
use Rattle.lexer.specs.Lexemes.{Token, lexemes}
use Rattle.lexer.specs.Limits.{Limits, no_token, room, lexed_in, token_words, tokens_of}
use Rattle.own.specs.Tree.{Tok, Node, Rec, classes_of}
use Rattle.text.specs.Widths.{rec_wide}
use Rattle.text.specs.Answers.{Answer, accepted, refused}
use Rattle.text.specs.Refusals.{refusal_number}
use Rattle.text.specs.declared.refusal.Refusal.TheVariants as refusal
use Rattle.up.specs.Ways.{up_words}
use Rattle.kinds.specs.Class.{class_of}
use Rattle.grammar.specs.Entry.{Entry, records_of, ups_of}
use Rattle.grammar.specs.Shapes.WellShaped.{shape_of}
use Rattle.grammar.specs.Records.Records.{record_trees}
use Rattle.grammar.specs.Records.Faults.{Fault, fault_of}

-- Tokens of a draft as its trees have them, with their classes.
unfoldable pub toks_of : List ℕ → List Token → List Tok
toks_of draft [] = []
toks_of draft (t ∷ ts) = record { class = class_of draft t.kind t.start t.end; start = t.start; stop = t.end } ∷ toks_of draft ts

-- Where the token of this number starts, "or the length at the end".
unfoldable pub start_of : List ℕ → List Token → ℕ → ℕ
start_of draft ts k = cond (ltb k (length ts)) (get_or ts k no_token).start (length draft)

-- The trees of a draft with these tokens and this shape tree, side by side, and its records.
abbrev pub trees_of : List ℕ → List Token → Items → List Node
trees_of draft ts r = record_trees draft (toks_of draft ts) r

abbrev pub records_for : Entry → List ℕ → List Token → Items → List Rec
records_for en draft ts r = records_of en (length draft) (trees_of draft ts r)

-- The way up of each record, from the tree.
abbrev pub ups_for : Entry → List ℕ → List Token → Items → List ℕ
ups_for en draft ts r = ups_of en (trees_of draft ts r)

-- What is found of a draft before its tree is written: the number and the place of a refusal, or its tokens and its records.
pub data Reading : Type 0 where
  unread : ℕ → ℕ → Reading
  read : List Token → List Rec → Reading

-- "of 9 to 14 the earliest place", and 19 "among" them
abbrev pub faulty : Option Fault → List Token → List Rec → Reading
faulty none ts rs = read ts rs
faulty (some f) ts rs = unread f.number f.place

-- Refusal 8, then those of the shapes.
abbrev pub shaped : Entry → List ℕ → List Token → Found → Reading
shaped en draft ts (stuck k) = unread (refusal_number refusal.Misshapen) (start_of draft ts k)
shaped en draft ts (found r) = faulty (fault_of draft (toks_of draft ts) r) ts (records_for en draft ts r)

-- The lexer's refusals, then these.
abbrev pub lexed : Entry → Answer → List ℕ → List Token → Reading
lexed en (refused c p) draft ts = unread c p
lexed en (accepted n m) draft ts = shaped en draft ts (shape_of en (classes_of (toks_of draft ts)))

-- The reading of a draft with room for r tokens,
abbrev pub reading_in : Entry → Limits → List ℕ → ℕ → Reading
reading_in en l draft r = lexed en (lexed_in l draft r) draft (tokens_of (lexemes draft))

-- and with a token buffer of so many words.
unfoldable pub reading : Entry → Limits → List ℕ → ℕ → Reading
reading en l draft tw = reading_in en l draft (room l tw)

-- Refusal 15: "tree buffer under six words a record"; "15 and 18 now ask seven words a record" (document 02, order 7).
abbrev pub fitted : ℕ → Reading → Answer
fitted rw (unread c p) = refused c p
fitted rw (read ts rs) = cond (ltb rw (rec_wide * length rs)) (refused (refusal_number refusal.NoRoom) 0) (accepted (length ts) (length rs))

-- The answer for a draft, a token buffer of tw words and a tree buffer of rw words.
unfoldable pub answer : Entry → Limits → List ℕ → ℕ → ℕ → Answer
answer en l draft tw rw = fitted rw (reading en l draft tw)

-- The words of a buffer of so many: what is written, and zeros after it; zeros alone on a refusal.
abbrev pub content : Answer → List ℕ → ℕ → List ℕ
content (accepted n m) ws size = ws ++ replicate (size - length ws) 0
content (refused c p) ws size = replicate size 0

abbrev pub tokens_read : Reading → List Token
tokens_read (unread c p) = []
tokens_read (read ts rs) = ts

abbrev pub records_in : Reading → List Rec
records_in (unread c p) = []
records_in (read ts rs) = rs

-- Every word of the token buffer: three words a token.
unfoldable pub token_buffer : Entry → Limits → List ℕ → ℕ → ℕ → List ℕ
token_buffer en l draft tw rw = content (answer en l draft tw rw) (token_words (tokens_read (reading en l draft tw))) tw

-- The records of a draft, in the order handed over.
unfoldable pub records_read : Entry → Limits → List ℕ → ℕ → List Rec
records_read en l draft tw = records_in (reading en l draft tw)

-- Every word of the tree buffer: six words a record, and "a seventh word: how many records back its parent begins" (document 02, order 7).
unfoldable pub tree_buffer : Entry → Limits → List ℕ → ℕ → ℕ → List ℕ
tree_buffer en l draft tw rw = content (answer en l draft tw rw) (up_words (records_read en l draft tw)) rw
