-- How tokens lie in a buffer that has so many words for each.
-- Assumes nothing.
use Rattle.std.specs.Prelude.{cond, ◌≡◌, List, [], ◌∷◌, ◌++◌, ℕ, zero, suc, ◌*◌, eqb, length, get_or, drop}
use Rattle.std.proofs.lemmas.List.Edits.{sets}
use Rattle.text.specs.Widths.{tok_wide}
use Rattle.lexer.specs.Lexemes.{Token}
use Rattle.lexer.specs.Starts.{start_wide}

-- what is kept of a token: where it has one word its start, else all of it
abbrev pub kept : ℕ → Token → List ℕ
kept w t = cond (eqb w start_wide) (t.start ∷ []) (t.kind ∷ t.start ∷ t.end ∷ [])

-- so many words are kept of each: one or three
abbrev pub Keeps : ℕ → Type 0
Keeps w = (t : Token) → length (kept w t) ≡ w

-- the words of some tokens
unfoldable pub words_kept : ℕ → List Token → List ℕ
words_kept w [] = []
words_kept w (t ∷ ts) = kept w t ++ words_kept w ts

-- token number n is written
abbrev pub put_at : ℕ → List ℕ → ℕ → ℕ → ℕ → ℕ → List ℕ
put_at w out n k a e = sets out (w * n) (kept w (record { kind = k; start = a; end = e }))

-- the first n tokens that the words hold
unfoldable pub tokens_in : ℕ → List ℕ → List Token
tokens_in zero words = []
tokens_in (suc n) words = record { kind = get_or words 0 0; start = get_or words 1 0; end = get_or words 2 0 } ∷ tokens_in n (drop tok_wide words)
