-- How many words of a lent buffer a token and a record take (document 01, "Lexemes" and "Records and the marks they own"; document 02,
-- order 7): each of the two numbers stands here and nowhere else.
-- Assumes nothing.
use Rattle.std.specs.Prelude.{ℕ}

-- "A token is three u32 words: kind .., start, end".
abbrev pub tok_wide : ℕ
tok_wide = 3

-- "Six u32 words: kind, start, end, low, high, size.", and "a seventh word: how many records back its parent begins" (document 02, order 7).
abbrev pub rec_wide : ℕ
rec_wide = 7
