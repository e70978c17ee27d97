-- Tokens kept by their starts alone (document 02, order 10): "an entry that keeps only each token's start, one word a token, and finds kind and end again
-- from the draft".
-- Assumes nothing.
use Rattle.std.specs.Prelude.{List, ℕ, ◌+◌, ◌*◌, ◌%◌, ◌^◌, map, min}
use Rattle.text.specs.Answers.{Answer}
use Rattle.text.specs.Part.{part_of}
use Rattle.lexer.specs.Lexemes.{Token}
use Rattle.lexer.specs.Class.{class_of}
use Rattle.lexer.specs.Limits.{Limits, lexed_in}
use Rattle.lexer.specs.Step.{step_of}
use Rattle.lexer.specs.declared.Step.{Step}
use Rattle.lexer.specs.declared.Step.TheVariants as step

-- "one word a token"
abbrev pub start_wide : ℕ
start_wide = 1

-- "only each token's start"
abbrev pub start_words : List Token → List ℕ
start_words = map (λ t. t.start)

-- How many tokens fit: the limit, or the words if they are fewer: "Refusal 6 there compares tokens with the buffer's words, not with a third of them".
unfoldable pub start_room : Limits → ℕ → ℕ
start_room l size = min l.tokens size

-- the lexer's answer for a draft and a buffer of so many words for the starts
unfoldable pub starts_lexed : Limits → List ℕ → ℕ → Answer
starts_lexed l draft size = lexed_in l draft (start_room l size)

-- "finds kind and end again from the draft": the token that the step at a place finds, its end a word of 32 bits; kind and end are 0 where it finds none
abbrev pub token_from : Step → ℕ → Token
token_from (step.Token k e) i = record { kind = k; start = i; end = e % 2 ^ 32 }
token_from (step.Trivia e) i = record { kind = 0; start = i; end = 0 }
token_from (step.Refused r) i = record { kind = 0; start = i; end = 0 }
token_from step.Nothing i = record { kind = 0; start = i; end = 0 }

unfoldable pub token_at : List ℕ → ℕ → Token
token_at draft i = token_from (step_of draft i) i

-- the tokens of a draft that have these starts
abbrev pub tokens_at : List ℕ → List ℕ → List Token
tokens_at draft = map (token_at draft)

-- what is found again at a start, as one number: the class of the token there for the rules, and its end
abbrev pub class_and_end : List ℕ → Token → ℕ
class_and_end draft t = class_of t.kind (part_of draft t.start t.end) * 2 ^ 32 + t.end
