-- The lexing step at a place of a draft, as the enum `Step`.
-- Assumes nothing.
use Rattle.std.specs.Prelude.{cond, List, ℕ, ◌+◌, eqb, ltb, length, drop}
use Rattle.text.specs.Refusals.{refusal_number}
use Rattle.text.specs.declared.refusal.Refusal.TheVariants as refusal
use Rattle.text.specs.declared.refusal.Refusal.{Refusal}
use Rattle.lexer.specs.Lexemes.{Lexeme, token, trivia, refused, lexeme}
use Rattle.lexer.specs.declared.Step.{Step}
use Rattle.lexer.specs.declared.Step.TheVariants.{Token, Trivia, Refused, Nothing}

-- "Each step of the reading answers either a next place or a refusal": the numbers of a step. Where there is no refusal its number and place are 0,
-- and so are the kind where no token stands and the next place where there is none.
pub record Numbers : Type 0 where
  pub number : ℕ
  pub place : ℕ
  pub kind : ℕ
  pub next : ℕ

abbrev pub goes_on : ℕ → ℕ → Numbers
goes_on k e = record { number = 0; place = 0; kind = k; next = e }

abbrev pub stops : ℕ → ℕ → Numbers
stops c p = record { number = c; place = p; kind = 0; next = 0 }

-- those of each case of `Step`,
abbrev pub numbers : Step → Numbers
numbers (Token k e) = goes_on k e
numbers (Trivia e) = goes_on 0 e
numbers (Refused r) = stops (refusal_number r.refusal) r.place
numbers Nothing = stops 0 0

-- and those that the lexeme at place i has.
abbrev pub numbers_from : Lexeme → ℕ → Numbers
numbers_from (token k n) i = goes_on k (i + n)
numbers_from (trivia n) i = goes_on 0 (i + n)
numbers_from (refused c n) i = stops c (i + n)

-- What a step at place i is to answer; there is nothing at the end of the draft and past it.
unfoldable pub numbers_at : List ℕ → ℕ → Numbers
numbers_at draft i = cond (ltb i (length draft)) (numbers_from (lexeme (drop i draft)) i) (stops 0 0)

-- the refusal of a number that a lexeme may have: one of the bytes' family
abbrev pub refusal_of : ℕ → Refusal
refusal_of c =
    cond (eqb (refusal_number refusal.NotAscii) c) refusal.NotAscii
    (cond (eqb (refusal_number refusal.NoLexeme) c) refusal.NoLexeme
    (cond (eqb (refusal_number refusal.Unclosed) c) refusal.Unclosed
    (cond (eqb (refusal_number refusal.Simc) c) refusal.Simc
    refusal.NotUtf8)))

abbrev pub refused_step : Refusal → ℕ → Step
refused_step r p = Refused (record { refusal = r; place = p })

-- the lexeme at place i
abbrev pub step_from : Lexeme → ℕ → Step
step_from (token k n) i = Token k (i + n)
step_from (trivia n) i = Trivia (i + n)
step_from (refused c n) i = refused_step (refusal_of c) (i + n)

-- the lexeme that the draft has at place i
abbrev pub lexeme_at : List ℕ → ℕ → Step
lexeme_at draft i = step_from (lexeme (drop i draft)) i

-- what stands at place i: nothing at the end of the draft and past it
unfoldable pub step_of : List ℕ → ℕ → Step
step_of draft i = cond (ltb i (length draft)) (lexeme_at draft i) Nothing
