-- What the lexer hands over within its limits (document 01, "What the reader hands over", rows 1 to 7), of which there are two sets (document 02, order 9).
-- Assumes nothing.
use Rattle.std.specs.Prelude.{Bool, cond, ◌||◌, List, [], ◌∷◌, ◌++◌, ℕ, ◌+◌, ◌-◌, ◌*◌, ◌/◌, min, eqb, ltb, length, get_or, replicate, Result, Ok, Err}
use Rattle.std.proofs.Math.Option.{Option, none, some}
use Rattle.text.specs.Answers.{Answer, accepted, refused}
use Rattle.text.specs.declared.refusal.Refusal.TheVariants as refusal
use Rattle.text.specs.Widths.{tok_wide}
use Rattle.lexer.specs.Classes as t
use Rattle.lexer.specs.Lexemes.{Token, Lexemes, tokens, refused_at, lexemes}
use Rattle.text.specs.Refusals.{refusal_number, refused_by}
use Rattle.text.specs.declared.refusal.Refused.{Refused}
use Rattle.lexer.specs.declared.Limits as code
use Rattle.lexer.specs.declared.Limits.TheVariants.{Small, Large}

-- how many bytes and how many tokens a draft may have
pub record Limits : Type 0 where
  pub bytes : ℕ
  pub tokens : ℕ

-- "draft over 16,384 bytes"
abbrev pub small_bytes : ℕ
small_bytes = 16384

-- "over 2,048 tokens"
abbrev pub small_tokens : ℕ
small_tokens = 2048

-- "Raise the library to 1,048,576 bytes and 131,072 tokens" (document 02, order 9)
abbrev pub large_bytes : ℕ
large_bytes = 1048576

abbrev pub large_tokens : ℕ
large_tokens = 131072

-- "over 48 brackets open"
abbrev pub most_open : ℕ
most_open = 48

-- "over 8 `match` tokens in a row"
abbrev pub most_in_row : ℕ
most_in_row = 8

-- "each of `( [ { <` adds one and each of `) ] } >` takes one off, never below 0"
unfoldable pub depth_after : ℕ → ℕ → ℕ
depth_after k d =
    cond (eqb k t.LParen || eqb k t.LBracket || eqb k t.LBrace || eqb k t.LAngle) (d + 1)
    (cond (eqb k t.RParen || eqb k t.RBracket || eqb k t.RBrace || eqb k t.RAngle) (d - 1)
    d)

unfoldable pub row_after : ℕ → ℕ → ℕ
row_after k m = cond (eqb k t.Match) (m + 1) 0

abbrev pub passes : ℕ → ℕ → Bool
passes d m = ltb most_open d || ltb most_in_row m

-- "over 48 brackets open, or over 8 `match` tokens in a row": the token that passes it
unfoldable pub first_too_deep : ℕ → ℕ → List Token → Option ℕ
first_too_deep d m [] = none
first_too_deep d m (t ∷ ts) =
    let d' = depth_after t.kind d in
    let m' = row_after t.kind m in
    cond (passes d' m') (some t.start) (first_too_deep d' m' ts)

-- how many tokens fit: the limit, or "a third of the token buffer's words" if that is less
unfoldable pub room : Limits → ℕ → ℕ
room l size = min l.tokens (size / tok_wide)

abbrev pub no_token : Token
no_token = record { kind = 0; start = 0; end = 0 }

-- The paper's answer for each result, as far as rows 1 to 7 decide it: `accepted n 0` says that none of them applies; there are no records yet.
abbrev pub meant : Result ℕ Refused → Answer
meant (Ok n) = accepted n 0
meant (Err r) = refused_by r

abbrev pub deep : Option ℕ → ℕ → Answer
deep none n = accepted n 0
deep (some p) n = refused (refusal_number refusal.TooDeep) p

-- the refusals of the bytes, then too many tokens for the r that fit, then too deep
abbrev pub judged_in : ℕ → Lexemes → Answer
judged_in r (refused_at c p) = refused c p
judged_in r (tokens ts) = cond (ltb r (length ts)) (refused (refusal_number refusal.TooMany) (get_or ts r no_token).start) (deep (first_too_deep 0 0 ts) (length ts))

-- where the token at p is one too many, by what is left: the refusals of the bytes come first
abbrev pub too_many : Lexemes → ℕ → Answer
too_many (refused_at c q) p = refused c q
too_many (tokens ts) p = refused (refusal_number refusal.TooMany) p

abbrev pub judged : Limits → ℕ → Lexemes → Answer
judged l size = judged_in (room l size)

-- the answer for a draft with room for r tokens: refusal 1, then those
abbrev pub lexed_in : Limits → List ℕ → ℕ → Answer
lexed_in l draft r = cond (ltb l.bytes (length draft)) (refused (refusal_number refusal.TooLong) l.bytes) (judged_in r (lexemes draft))

-- and with a token buffer of so many words
unfoldable pub lexed_of : Limits → List ℕ → ℕ → Answer
lexed_of l draft size = lexed_in l draft (room l size)

-- "A token is three u32 words: kind .., start, end"
unfoldable pub token_words : List Token → List ℕ
token_words [] = []
token_words (t ∷ ts) = t.kind ∷ t.start ∷ t.end ∷ token_words ts

abbrev pub tokens_of : Lexemes → List Token
tokens_of (tokens ts) = ts
tokens_of (refused_at c p) = []

-- what the buffer holds: the tokens and zeros behind them; on a refusal zeros alone
abbrev pub content : Answer → List Token → ℕ → List ℕ
content (accepted n m) ts size = token_words ts ++ replicate (size - tok_wide * length ts) 0
content (refused c p) ts size = replicate size 0

unfoldable pub buffer_of : Limits → List ℕ → ℕ → List ℕ
buffer_of l draft size = content (lexed_of l draft size) (tokens_of (lexemes draft)) size

abbrev pub limits_of : ℕ → ℕ → Limits
limits_of b t = record { bytes = b; tokens = t }

-- "the listing program and the C entry keep 16,384 and 2,048" (document 02, order 9),
abbrev pub small_limits : Limits
small_limits = limits_of small_bytes small_tokens

-- and the library has these.
abbrev pub large_limits : Limits
large_limits = limits_of large_bytes large_tokens

-- The limits that the code names.
abbrev pub limits_for : code.Limits → Limits
limits_for Small = small_limits
limits_for Large = large_limits
