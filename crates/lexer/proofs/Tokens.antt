-- What holds of the lexemes of every draft: its tokens are in order, none is empty and all lie in the draft; and that its refusals
-- are those of the bytes (document 01, "What the reader hands over", rows 2 to 5, and 21).
-- Assumes nothing.
use Rattle.std.specs.Prelude.{List, [], ◌∷◌, ◌≡◌, ℕ, zero, suc, ◌+◌, ◌-◌, ◌≤◌, ◌<◌, T, length}
use Rattle.std.proofs.Common.{subst, arith}
use Rattle.text.specs.Refusals as refusal
use Rattle.text.specs.Lists.{has}
use Rattle.lexer.specs.Lexemes.{Lexeme, token, trivia, refused, lexeme, Token, Lexemes, tokens, refused_at, with_token, add, lexemes_from, lexemes}
use Rattle.lexer.proofs.Moves.{Moves, lexeme-moves}

-- Tokens in order between two places: none is empty, and each starts where the one before ends, or later.
abbrev pub Between : ℕ → ℕ → List Token → Type 0
Between at m [] = Unit {0}
Between at m (t ∷ ts) = (at ≤ t.start) × (t.start < t.end) × (t.end ≤ m) × Between t.end m ts

-- the same between places further apart
between-wider : (at m at' m' : ℕ) (ts : List Token) → at' ≤ at → m ≤ m' → Between at m ts → Between at' m' ts
between-wider at m at' m' [] h k b = tt
between-wider at m at' m' (t ∷ ts) h k b =
    let x = b.0 in
    let y = b.2 in
    (omega arith, b.1, omega arith, between-wider t.end m t.end m' ts (omega arith) k b.3)

-- What lexemes between two places are: tokens in order, or a refusal of the bytes' family at a byte before the second.
abbrev pub Lexed-right : ℕ → ℕ → Lexemes → Type 0
Lexed-right at m (tokens ts) = Between at m ts
Lexed-right at m (refused_at c p) = T (has refusal.of_bytes c) × (p < m)

wider : (at m at' m' : ℕ) (x : Lexemes) → at' ≤ at → m ≤ m' → Lexed-right at m x → Lexed-right at' m' x
wider at m at' m' (tokens ts) h k b = between-wider at m at' m' ts h k b
wider at m at' m' (refused_at c p) h k b = let q = b.1 in (b.0, omega arith)

with-right : (t : Token) (at m : ℕ) (x : Lexemes) → at ≤ t.start → t.start < t.end → t.end ≤ m → Lexed-right t.end m x
    → Lexed-right at m (with_token t x)
with-right t at m (tokens ts) h k l b = (h, k, l, b)
with-right t at m (refused_at c p) h k l b = b

right-from : (r : List ℕ) (i k : ℕ) → Lexed-right (i + k) (i + length r) (lexemes_from r i k)
unfolding lexemes_from
right-from [] i k = tt
right-from (b ∷ r) i (suc k) = wider (i + 1 + k) (i + 1 + length r) (i + suc k) (i + suc (length r)) (lexemes_from r (i + 1) k) (omega arith) (omega arith) (right-from r (i + 1) k)
right-from (b ∷ r) i zero = go (lexeme (b ∷ r)) (lexeme-moves b r) (λ n. right-from r (i + 1) (n - 1))
  where
    go : (x : Lexeme) → Moves (suc (length r)) x → ((n : ℕ) → Lexed-right (i + 1 + (n - 1)) (i + 1 + length r) (lexemes_from r (i + 1) (n - 1)))
        → Lexed-right (i + 0) (i + suc (length r)) (add x i (λ n. lexemes_from r (i + 1) (n - 1)))
    go (token k n) v h =
        let p = v.0 in
        let q = v.1 in
        with-right (record { kind = k; start = i; end = i + n }) (i + 0) (i + suc (length r)) (lexemes_from r (i + 1) (n - 1))
        (omega arith) (omega arith) (omega arith)
        (wider (i + 1 + (n - 1)) (i + 1 + length r) (i + n) (i + suc (length r)) (lexemes_from r (i + 1) (n - 1)) (omega arith) (omega arith) (h n))
    go (trivia n) v h =
        wider (i + 1 + (n - 1)) (i + 1 + length r) (i + 0) (i + suc (length r)) (lexemes_from r (i + 1) (n - 1)) (omega arith) (omega arith) (h n)
    go (refused c n) v h = let q = v.1 in (v.0, omega arith)

-- The lexemes of a draft are right.
pub lexed-right : (draft : List ℕ) → Lexed-right 0 (length draft) (lexemes draft)
unfolding lexemes
lexed-right draft = wider (0 + 0) (0 + length draft) 0 (length draft) (lexemes_from draft 0 0) (omega arith) (omega arith) (right-from draft 0 0)

-- The tokens of a draft are in order, none is empty, and all lie in the draft.
pub tokens-between : (draft : List ℕ) (ts : List Token) → lexemes draft ≡ tokens ts → Between 0 (length draft) ts
tokens-between draft ts e = subst (Lexed-right 0 (length draft)) e (lexed-right draft)

-- A draft that does not lex is refused with a number of the bytes' family, at one of its bytes.
pub lexeme-refused : (draft : List ℕ) (c p : ℕ) → lexemes draft ≡ refused_at c p → T (has refusal.of_bytes c) × (p < length draft)
lexeme-refused draft c p e = subst (Lexed-right 0 (length draft)) e (lexed-right draft)
