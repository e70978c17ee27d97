-- The tokens of a draft as the record tree and the buffers have them: in order, none empty; and what the token buffer's words hold.
-- Assumes nothing.
use Rattle.std.specs.Prelude.{List, [], ◌∷◌, ◌++◌, ◌≡◌, refl, ℕ, ◌≤◌, length}
use Rattle.std.proofs.Common.{ap, ◌∙◌, arith}
use Rattle.lexer.specs.Lexemes.{Token, tokens, lexemes}
use Rattle.lexer.specs.Limits.{token_words}
use Rattle.lexer.proofs.Tokens.{Between, tokens-between}
use Rattle.own.specs.Tree.{InOrder, end, classes_of}
use Rattle.own.specs.Words.{toks}
use Rattle.kinds.specs.Class.{class_of}
use Rattle.grammar.proofs.Spelled.TreeTokens.{length-classes}
use Rattle.grammar.specs.Answers.Answer.{toks_of}

between-order : (draft : List ℕ) (at m : ℕ) (ts : List Token) → Between at m ts → InOrder at (toks_of draft ts)
unfolding toks_of
between-order draft at m [] b = tt
between-order draft at m (t ∷ ts) b = (b.0, b.1, between-order draft t.end m ts b.3)

-- The tokens of every draft are in order from its start on, and none is empty.
pub tokens-in-order : (draft : List ℕ) (ts : List Token) → lexemes draft ≡ tokens ts → InOrder 0 (toks_of draft ts)
tokens-in-order draft ts e = between-order draft 0 (length draft) ts (tokens-between draft ts e)

between-end : (draft : List ℕ) (at m : ℕ) (ts : List Token) → at ≤ m → Between at m ts → end at (toks_of draft ts) ≤ m
unfolding toks_of
between-end draft at m [] h b = h
between-end draft at m (t ∷ ts) h b = between-end draft t.end m ts b.2 b.3

-- None ends past the draft.
pub tokens-inside : (draft : List ℕ) (ts : List Token) → lexemes draft ≡ tokens ts → end 0 (toks_of draft ts) ≤ length draft
tokens-inside draft ts e = between-end draft 0 (length draft) ts (omega arith) (tokens-between draft ts e)

-- As many as the lexer's, and so many classes.
pub toks-length : (draft : List ℕ) (ts : List Token) → length (toks_of draft ts) ≡ length ts
unfolding toks_of
toks-length draft [] = refl
toks-length draft (t ∷ ts) = let h = toks-length draft ts in omega arith

pub classes-length : (draft : List ℕ) (ts : List Token) → length (classes_of (toks_of draft ts)) ≡ length ts
classes-length draft ts = length-classes (toks_of draft ts) ∙ toks-length draft ts

-- The words of tokens, read back with the classes that the draft gives them.
pub tokens-read-back : (draft : List ℕ) (ts : List Token) (z : List ℕ) → toks (class_of draft) (length ts) (token_words ts ++ z) ≡ toks_of draft ts
unfolding token_words toks_of
tokens-read-back draft [] z = refl
tokens-read-back draft (t ∷ ts) z =
    ap (λ l. record { class = class_of draft t.kind t.start t.end; start = t.start; stop = t.end } ∷ l) (tokens-read-back draft ts z)
