-- Document 01, "What the reader hands over", rows 2 to 5, and document 02, order 6: what each row says of a draft and a place, and
-- which of them wins.
-- Assumes nothing.
use Rattle.std.specs.Prelude.{true, List, [], ◌∷◌, ◌≡◌, ℕ, ◌+◌, ◌≤◌, ◌<◌, length, get_or, take, drop}
use Rattle.std.proofs.Math.Option.{Option, none, some}
use Rattle.text.specs.Ascii.{ascii}
use Rattle.text.specs.Refusals.{refusal_number}
use Rattle.text.specs.declared.refusal.Refusal.TheVariants as refusal
use Rattle.utf8.specs.Utf8.{bad_at}
use Rattle.lexer.specs.Chars.{begins}
use Rattle.lexer.specs.Lexemes.{Lexeme, token, trivia, refused, line_length, closing, name_length, is_name, trials, lexeme}

abbrev pub Takes : ℕ → Lexeme → Type 0
Takes n (token k m) = m ≡ n
Takes n (trivia m) = m ≡ n
Takes n (refused c m) = ⊥

-- The places that lexing comes to: the first, and the one behind each token and each trivia at such a place.
pub data Reached (draft : List ℕ) : ℕ → Type 0 where
  start : Reached draft 0
  behind : (i n : ℕ) → Reached draft i → i < length draft → Takes n (lexeme (drop i draft)) → Reached draft (i + n)

-- none of the trials finds a lexeme at the front of a text
abbrev pub NoneFinds : List (List ℕ → Option Lexeme) → List ℕ → Type 0
NoneFinds [] r = Unit {0}
NoneFinds (f ∷ fs) r = (f r ≡ none) × NoneFinds fs r

-- A comment of n bytes stands at the front of a text: up to before CR, LF or the end; up to where it is closed; all of the text if it never is.
pub data Comment (r : List ℕ) : ℕ → Type 0 where
  a_line_comment : begins (ascii "//") r ≡ true → Comment r (line_length r)
  a_block_comment : {n : ℕ} → begins (ascii "/*") r ≡ true → closing (drop 2 r) 0 0 ≡ some n → Comment r (2 + n)
  never_closed : begins (ascii "/*") r ≡ true → closing (drop 2 r) 0 0 ≡ none → Comment r (length r)

-- A place is inside a comment that lexing comes to. Behind the first refusal it comes to none, but no row there is the earliest.
pub data Commented (draft : List ℕ) (p : ℕ) : Type 0 where
  within : {q n : ℕ} → Reached draft q → Comment (drop q draft) n → q ≤ p → p < q + n → Commented draft p

-- Row c applies to a draft at place p.
pub data Row (draft : List ℕ) : ℕ → ℕ → Type 0 where
  -- "a byte over 127": "that byte", wherever it stands; order 6: "only of bytes outside comments"
  not_ascii : {p : ℕ} → p < length draft → 127 < get_or draft p 0 → (Commented draft p → ⊥) → Row draft (refusal_number refusal.NotAscii) p
  -- "another byte starts no lexeme": "that byte", where lexing comes to it
  no_lexeme : {p : ℕ} → Reached draft p → p < length draft → get_or draft p 0 ≤ 127 → NoneFinds trials (drop p draft) → Row draft (refusal_number refusal.NoLexeme) p
  -- "block comment never closed": "its outermost `/*`"
  unclosed : {p : ℕ} → Reached draft p → begins (ascii "/*") (drop p draft) ≡ true → closing (drop (p + 2) draft) 0 0 ≡ none → Row draft (refusal_number refusal.Unclosed) p
  -- "the word `simc`": "its start"
  simc : {p : ℕ} → Reached draft p → is_name (drop p draft) ≡ true → take (name_length (drop p draft)) (drop p draft) ≡ ascii "simc" → Row draft (refusal_number refusal.Simc) p
  -- "when bytes inside a comment are not well-formed UTF-8": "at the first byte of the bad sequence"
  not_utf8 : {q n k : ℕ} → Reached draft q → Comment (drop q draft) n → bad_at (take n (drop q draft)) ≡ some k → Row draft (refusal_number refusal.NotUtf8) (q + k)

-- "of 2 to 5 the earliest place wins", and 21 "among 2 to 5 by earliest place"
pub record Earliest (draft : List ℕ) (c p : ℕ) : Type 0 where
  pub applies : Row draft c p
  pub first : (d q : ℕ) → Row draft d q → p ≤ q
