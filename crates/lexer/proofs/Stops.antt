-- Where a row of 3 to 5 or 21 applies, the lexeme is refused: with its number, or where the comment is never closed with that.
-- Assumes nothing.
use Rattle.std.specs.Prelude.{Bool, true, false, ◌&&◌, List, [], ◌∷◌, ◌++◌, ◌≡◌, refl, ℕ, zero, suc, ◌+◌, ◌≤◌, eqb, length, take}
use Rattle.std.proofs.Math.Bool.{cond}
use Rattle.std.proofs.Math.Option.{Option, none, some}
use Rattle.std.proofs.Common.{sym, ◌∙◌, ap₂, subst, arith, add-one, eqb-true, le-ltb, take-append-drop}
use Rattle.std.proofs.Math.Path.{ap}
use Rattle.std.proofs.Math.ListN.{drop}
use Rattle.text.specs.Ascii.{ascii, ascii_from}
use Rattle.text.specs.Counts.{more}
use Rattle.text.specs.Refusals.{refusal_number}
use Rattle.text.specs.declared.refusal.Refusal.TheVariants as refusal
use Rattle.text.specs.Same.{same}
use Rattle.text.proofs.Same.{differ}
use Rattle.utf8.proofs.Sequences.{ascii-one}
use Rattle.utf8.specs.Utf8.{behind, bad_from, bad_at}
use Rattle.words.specs.Words.{KEYWORDS, MACROS, MODULE_RESERVED, find, word_of}
use Rattle.lexer.specs.Chars.{among, whitespace, decimal_digits, name_starts, first, begins}
use Rattle.lexer.specs.Lexemes.{Lexeme, token, trivia, refused, space, checked, comment, line_length, line_comment, closing, block, block_comment, name_length, is_name, module_token, qualified, macro_token, macro, word_token, digits, hexadecimal, binary, decimal, word, no_lexeme, trials, lexeme}
use Rattle.lexer.specs.Rows.{Takes, NoneFinds, Comment, a_line_comment, a_block_comment, never_closed}
use Rattle.lexer.proofs.Trials.{both_left, both_right, none_first}

-- what a text begins with stands at its front
begins-front : (w r : List ℕ) → begins w r ≡ true → r ≡ w ++ drop (length w) r
unfolding begins
begins-front [] r e = refl
begins-front (x ∷ w) [] e = differ e
begins-front (x ∷ w) (b ∷ r) e =
    ap₂ (λ y l. y ∷ l) (eqb-true b x (both_left (eqb b x) (begins w r) e)) (begins-front w r (both_right (eqb b x) (begins w r) e))

-- a trial that finds nothing either way
either-none : (b : Bool) → ◌≡◌ {A = Option Lexeme} (cond b none none) none
either-none true = refl
either-none false = refl

pub stops-nothing : (r : List ℕ) → first r ≤ 127 → NoneFinds trials r → lexeme r ≡ refused (refusal_number refusal.NoLexeme) 0
unfolding lexeme no_lexeme
stops-nothing r h n = none_first trials r (no_lexeme (first r)) n ∙ simp (le-ltb 127 (first r) h)

-- ---- comments

line_at : (r : List ℕ) → lexeme (47 ∷ 47 ∷ r) ≡ comment (line_length (47 ∷ 47 ∷ r)) (47 ∷ 47 ∷ r)
unfolding lexeme space among whitespace line_comment begins ascii ascii_from
line_at r = refl

block_at : (r : List ℕ) → lexeme (47 ∷ 42 ∷ r) ≡ block (closing r 0 0) (47 ∷ 42 ∷ r)
unfolding lexeme space among whitespace line_comment block_comment begins ascii ascii_from
block_at r = refl

is-line : (r : List ℕ) → begins (ascii "//") r ≡ true → lexeme r ≡ comment (line_length r) r
unfolding ascii ascii_from
is-line r b = subst (λ l. lexeme l ≡ comment (line_length l) l) (sym (begins-front (ascii "//") r b)) (line_at (drop 2 r))

is_block : (r : List ℕ) → begins (ascii "/*") r ≡ true → lexeme r ≡ block (closing (drop 2 r) 0 0) r
unfolding ascii ascii_from
is_block r b = subst (λ l. lexeme l ≡ block (closing (drop 2 l) 0 0) l) (sym (begins-front (ascii "/*") r b)) (block_at (drop 2 r))

pub stops-unclosed : (r : List ℕ) → begins (ascii "/*") r ≡ true → closing (drop 2 r) 0 0 ≡ none → lexeme r ≡ refused (refusal_number refusal.Unclosed) 0
stops-unclosed r b e = is_block r b ∙ ap (λ o. block o r) e

-- a lexeme is refused, behind k bytes at most
abbrev pub StopsBy : ℕ → Lexeme → Type 0
StopsBy k (token j n) = ⊥
StopsBy k (trivia n) = ⊥
StopsBy k (refused c n) = n ≤ k

checked-stops : (r : List ℕ) (n k : ℕ) → bad_at (take n r) ≡ some k → StopsBy k (comment n r)
unfolding comment
checked-stops r n k e = subst (λ o. StopsBy k (checked o n)) (sym e) (let z : k ≤ k = omega arith in z)

pub stops-bad : (r : List ℕ) {n k : ℕ} → Comment r n → bad_at (take n r) ≡ some k → StopsBy k (lexeme r)
stops-bad r {n} {k} (a_line_comment b) e = subst (StopsBy k) (sym (is-line r b)) (checked-stops r n k e)
stops-bad r {n} {k} (a_block_comment b q) e = subst (StopsBy k) (sym (is_block r b ∙ ap (λ o. block o r) q)) (checked-stops r n k e)
stops-bad r {n} {k} (never_closed b q) e = subst (StopsBy k) (sym (stops-unclosed r b q)) (omega arith)

-- what is taken at a comment is the comment
checked-takes : (o : Option ℕ) (n m : ℕ) → Takes m (checked o n) → m ≡ n
checked-takes none n m t = sym t
checked-takes (some k) n m t = absurd t

pub comment-takes : (r : List ℕ) {n : ℕ} → Comment r n → (m : ℕ) → Takes m (lexeme r) → m ≡ n
unfolding comment
comment-takes r {n} (a_line_comment b) m t = checked-takes (bad_at (take n r)) n m (subst (Takes m) (is-line r b) t)
comment-takes r {n} (a_block_comment b q) m t = checked-takes (bad_at (take n r)) n m (subst (Takes m) (is_block r b ∙ ap (λ o. block o r) q) t)
comment-takes r {n} (never_closed b q) m t = absurd (subst (Takes m) (stops-unclosed r b q) t)

pub comment-first : (r : List ℕ) {n : ℕ} → Comment r n → first r ≡ 47
unfolding ascii ascii_from
comment-first r (a_line_comment b) = ap (λ l. first l) (begins-front (ascii "//") r b)
comment-first r (a_block_comment b q) = ap (λ l. first l) (begins-front (ascii "/*") r b)
comment-first r (never_closed b q) = ap (λ l. first l) (begins-front (ascii "/*") r b)

-- the bad place is behind the opening
slash-good : (n k : ℕ) (r : List ℕ) → bad_at (take (suc n) (47 ∷ r)) ≡ some k → 1 ≤ k
unfolding bad_at bad_from
slash-good n k r e = go (bad_from (take n r) 0) (sym (ap (λ m. behind m (bad_from (take n r))) (ascii-one 47 (take n r) (omega arith))) ∙ e)
  where
    go : (o : Option ℕ) → more o ≡ some k → 1 ≤ k
    go none q = let z : ◌≡◌ {A = ℕ} 0 1 = cc in absurd (omega arith)
    go (some m) q = let z : suc m ≡ k = cc in omega arith

slash-first : (w r : List ℕ) (n k : ℕ) → 1 ≤ n → r ≡ 47 ∷ w → bad_at (take n r) ≡ some k → 1 ≤ k
slash-first w r zero k h q e = absurd (omega arith)
slash-first w r (suc n) k h q e = slash-good n k w (ap (λ l. bad_at (take (suc n) l)) (sym q) ∙ e)

pub bad-later : (r : List ℕ) {n k : ℕ} → Comment r n → bad_at (take n r) ≡ some k → 1 ≤ k
unfolding ascii ascii_from
bad-later r {n} {k} (a_line_comment b) e = slash-first _ r n k (omega arith) (begins-front (ascii "//") r b) e
bad-later r {n} {k} (a_block_comment b q) e = slash-first _ r n k (omega arith) (begins-front (ascii "/*") r b) e
bad-later r {n} {k} (never_closed b q) e =
    let f = begins-front (ascii "/*") r b in
    slash-first _ r n k (omega (arith, ap length f)) f e

-- ---- `simc`

-- where a text begins with its first byte, only the trials on names are left
only-names : (r : List ℕ) (x : Lexeme) → qualified (115 ∷ r) ≡ none → macro (115 ∷ r) ≡ none → word (115 ∷ r) ≡ some x → lexeme (115 ∷ r) ≡ x
unfolding lexeme space among whitespace line_comment block_comment begins ascii ascii_from hexadecimal binary decimal digits decimal_digits
only-names r x q m w = simp (q, m, w)

module _ (r : List ℕ) (e : take (name_length (115 ∷ r)) (115 ∷ r) ≡ ascii "simc") where
  -- it is none of the words before `::`, no macro begins so, and it is a keyword
  not-qualified : qualified (115 ∷ r) ≡ none
  unfolding qualified MODULE_RESERVED word_of find same ascii ascii_from
  not-qualified =
      let n = name_length (115 ∷ r) in
      let name = drop (n + 2) (115 ∷ r) in
      let c = is_name (115 ∷ r) && begins (ascii "::") (drop n (115 ∷ r)) && is_name name in
      ap (λ p. cond c (module_token (word_of MODULE_RESERVED p) (n + 2 + name_length name)) none) e ∙ either-none c

  not-macro : macro (115 ∷ r) ≡ none
  unfolding macro MACROS word_of find same ascii ascii_from
  not-macro =
      let n = name_length (115 ∷ r) in
      let c = is_name (115 ∷ r) && begins (ascii "!") (drop n (115 ∷ r)) in
      ap (λ k. cond c (macro_token (word_of MACROS (take k (115 ∷ r))) (n + 1)) none) (add-one n) ∙ either-none c

  keyword : word (115 ∷ r) ≡ some (refused (refusal_number refusal.Simc) 0)
  unfolding word among name_starts KEYWORDS word_of find same ascii ascii_from
  keyword = ap (λ p. some (word_token (word_of KEYWORDS p) (name_length (115 ∷ r)))) e

  at-simc : lexeme (115 ∷ r) ≡ refused (refusal_number refusal.Simc) 0
  at-simc = only-names r (refused (refusal_number refusal.Simc) 0) not-qualified not-macro keyword

pub stops-simc : (r : List ℕ) → take (name_length r) r ≡ ascii "simc" → lexeme r ≡ refused (refusal_number refusal.Simc) 0
unfolding ascii ascii_from
stops-simc r e =
    let s : r ≡ ascii "simc" ++ drop (name_length r) r = sym (take-append-drop (name_length r) r) ∙ ap (λ l. l ++ drop (name_length r) r) e in
    subst (λ l. lexeme l ≡ refused (refusal_number refusal.Simc) 0) (sym s) (at-simc (drop 1 (ascii "simc" ++ drop (name_length r) r)) (subst (λ l. take (name_length l) l ≡ ascii "simc") s e))
