-- What the functions on comments cite of the definition.
-- Assumes nothing.
use mathlib.Core.Bool.{Bool, true, false, not, ◌&&◌, ◌||◌, and-false}
use mathlib.Core.List.{List, [], ◌∷◌}
use mathlib.Core.Option.{Option, none, some}
use mathlib.Core.Path.{◌≡◌, refl, sym, ◌∙◌, ap, subst}
use Prim.Native.Nat.{ℕ, zero, suc, ◌+◌, ◌-◌, ◌≤◌, ◌<◌}
use native.Mathlib.Numerals.{add-one}
use native.Mathlib.Omega.{arith}
use borrow.Author.Tests.{eq-eqb, ne_eqb, eqb-true, eqb-false, le-leb, leb-true, ltb-true, ltb-false}
use lib.Dec.{eqb, leb, ltb}
use lib.ListN.{length, get_or, take, drop}
use Rattle.text.specs.Ascii.{ascii, ascii_from}
use Rattle.text.specs.Counts.{more, place_of}
use Rattle.text.specs.Refusals.{refusal_number}
use Rattle.text.specs.declared.refusal.Refusal.TheVariants as refusal
use Rattle.text.proofs.Same.{differ}
use Rattle.text.proofs.Table.{both_left, both_right}
use Rattle.utf8.proofs.Parts.{bad_in, bad-end, bad-found, Good, good_start, good-next}
use Rattle.utf8.proofs.Sequences.{ascii-at, high, char-high}
use Rattle.utf8.specs.Utf8.{char_length, bad_at}
use Rattle.lexer.specs.Chars.{among, whitespace, line_ends, decimal_digits, underscore, name_starts, first, run, begins}
use Rattle.lexer.specs.Lexemes.{Inside, closed, within, inside, onward, closing, block, refused, checked, comment, in_line, space, line_comment, block_comment, qualified, macro, digits, hexadecimal, binary, decimal, word, marks, mark, no_lexeme, lexeme}
use Rattle.lexer.specs.Step.{refused_step, step_from, lexeme_at}
use Rattle.lexer.specs.Trivia.{CommentAt, closed_at, bad_between, plain_beside, plain_in_line, plain_in_block, edge_of, broken_of}
use Rattle.lexer.specs.declared.Step.{Step}
use Rattle.lexer.specs.declared.Step.TheVariants.{Trivia}
use Rattle.lexer.specs.declared.trivia.Edge.TheVariants.{Opens, Closes, Neither}
use Rattle.lexer.proofs.Rest.{rest-first, rest-cons, rest-drop, begins-one, there}
use Rattle.lexer.proofs.Runs.{run_end, run_in, run-true}
use Rattle.lexer.proofs.Closings.{edge-opens, edge-closes, two-within, two-inside, high-on, place-neither}

-- ---- the end of a line

-- a range of one byte
one_byte : (n b : ℕ) → (b ≡ n → ⊥) → (leb n b && leb b n) ≡ false
one_byte n b h = go (leb n b) refl (leb b n) refl
  where
    go : (t : Bool) → leb n b ≡ t → (u : Bool) → leb b n ≡ u → (leb n b && leb b n) ≡ false
    go false p u q = rw p refl
    go true p false q = rw (q, and-false) refl
    go true p true q = absurd (h (let x = leb-true n b p in let y = leb-true b n q in omega arith))

neither-end : (b : ℕ) → (b ≡ 10 → ⊥) → (b ≡ 13 → ⊥) → in_line b ≡ true
unfolding among line_ends
neither-end b l c = simp (one_byte 10 b l, one_byte 13 b c)

pub past-cr : (b : ℕ) → 13 < b → in_line b ≡ true
past-cr b h = neither-end b (λ z. absurd (omega arith)) (λ z. absurd (omega arith))

-- CR, LF, and any other byte
module _ (b : ℕ) where
  is-cr : b ≡ 13 → false ≡ plain_in_line b
  unfolding among line_ends
  is-cr e = rw e refl

  is-lf : b ≡ 10 → false ≡ plain_in_line b
  unfolding among line_ends
  is-lf e = rw e refl

  pub plain-line : plain_beside 13 10 b ≡ plain_in_line b
  plain-line = go (eqb b 13) (eqb b 10) refl refl
    where
      go : (t u : Bool) → eqb b 13 ≡ t → eqb b 10 ≡ u → (leb b 127 && not (t || u)) ≡ plain_in_line b
      go true u e f = and-false (leb b 127) ∙ is-cr (eqb-true b 13 e)
      go false true e f = and-false (leb b 127) ∙ is-lf (eqb-true b 10 f)
      go false false e f = ap (λ t. leb b 127 && t) (sym (neither-end b (eqb-false b 10 f) (eqb-false b 13 e)))

  -- by the bytes that end a line
  pub line-cr : b ≡ 13 → plain_beside 13 10 b ≡ false
  line-cr e = plain-line ∙ sym (is-cr e)

  pub line-lf : b ≡ 10 → plain_beside 13 10 b ≡ false
  line-lf e = plain-line ∙ sym (is-lf e)

  pub line-other : b ≤ 127 → (b ≡ 13 → ⊥) → (b ≡ 10 → ⊥) → plain_beside 13 10 b ≡ true
  line-other l c f = plain-line ∙ simp (le-leb b 127 l, neither-end b f c)

  pub line_plain : plain_in_line b ≡ true → (b ≤ 127) × (in_line b ≡ true)
  line_plain e = (leb-true b 127 (both_left (leb b 127) (in_line b) e), both_right (leb b 127) (in_line b) e)

  pub line-ends : plain_in_line b ≡ false → b ≤ 127 → in_line b ≡ false
  line-ends e h = rw (le-leb b 127 h) at e

  pub block-plain : plain_in_block b ≡ true → (b ≤ 127) × (b ≡ 47 → ⊥) × (b ≡ 42 → ⊥)
  block-plain e =
      let o = both_right (leb b 127) (not (eqb b 47 || eqb b 42)) e in
      (leb-true b 127 (both_left (leb b 127) (not (eqb b 47 || eqb b 42)) e), λ z. not-slash z o, λ z. not-star z o)
    where
      not-slash : b ≡ 47 → not (eqb b 47 || eqb b 42) ≡ true → ⊥
      not-slash z o = differ (rw z at o)

      not-star : b ≡ 42 → not (eqb b 47 || eqb b 42) ≡ true → ⊥
      not-star z o = differ (rw z at o)

-- ---- a sequence inside a comment is one byte, or two and more over 127

by_size : {A : Type 0} (n : ℕ) → (n ≡ 0 → ⊥) → (n ≡ 1 → A) → (1 < n → A) → A
by_size {A = A} n z f g = go (ltb 1 n) refl
  where
    pick : (n : ℕ) → (n ≡ 0 → ⊥) → n ≤ 1 → n ≡ 1
    pick zero z h = absurd (z refl)
    pick (suc n) z h = omega arith

    go : (t : Bool) → ltb 1 n ≡ t → A
    go true p = g (ltb-true 1 n p)
    go false p = f (pick n z (ltb-false 1 n p))

-- bytes over 127 stay in the line
run-high : (k : ℕ) (r : List ℕ) → high k r ≡ true → run in_line r ≡ k + run in_line (drop k r)
unfolding high
run-high zero r e = let z : run in_line r ≡ 0 + run in_line r = omega arith in z
run-high (suc k) [] e = differ e
run-high (suc k) (b ∷ r) e =
    let o = ltb-true 127 b (both_left (ltb 127 b) (high k r) e) in
    let h = run-high k r (both_right (ltb 127 b) (high k r) e) in
    let z = run-true in_line b r (past-cr b (omega arith)) in
    omega arith

module _ (s : List ℕ) (j n : ℕ) (q : n ≡ char_length (drop j s)) (z : n ≡ 0 → ⊥) where
  all-high : 1 < n → high n (drop j s) ≡ true
  all-high o = subst (λ k. high k (drop j s) ≡ true) (sym q) (char-high (drop j s) (let z = q in omega arith))

  pub line-next : j < length s → in_line (get_or s j 0) ≡ true → run_end in_line s (j + n) ≡ run_end in_line s j
  line-next h l =
      by_size n z (λ e. ap (λ m. run_end in_line s (j + m)) e ∙ run_in in_line s j h l)
      (λ o. let x = run-high n (drop j s) (all-high o) in
      let y : run in_line (drop n (drop j s)) ≡ run in_line (drop (j + n) s) = ap (run in_line) (rest-drop s j n (j + n) refl) in
      omega arith)

  pub block-next : (d : ℕ) → j < length s → Neither ≡ edge_of (get_or s j 0) (get_or s (j + 1) 0) → place_of (closing (drop (j + n) s) d 0) (j + n) ≡ place_of (closing (drop j s) d 0) j
  block-next d h e =
      by_size n z (λ f. ap (λ m. place_of (closing (drop (j + m) s) d 0) (j + m)) f ∙ place-neither s j d h e)
      (λ o. ap (λ l. place_of (closing l d 0) (j + n)) (sym (rest-drop s j n (j + n) refl)) ∙ high-on n (drop j s) d j (all-high o))

-- ---- a comment from i up to e

abbrev comment_at : List ℕ → ℕ → ℕ → Step
comment_at draft i e = step_from (comment (e - i) (drop i draft)) i

module _ (s : List ℕ) (i e : ℕ) where
  comment-good : i ≤ e → bad_in s i e ≡ none → Trivia e ≡ comment_at s i e
  unfolding comment bad_in
  comment-good h q = go (bad_at (take (e - i) (drop i s))) q
    where
      go : (x : Option ℕ) → place_of x i ≡ none → Trivia e ≡ step_from (checked x (e - i)) i
      go none q = ap Trivia (let z : e ≡ i + (e - i) = omega arith in z)
      go (some n) q = let z : ◌≡◌ {A = ℕ} 0 1 = cc in absurd (omega arith)

  comment-bad : (j : ℕ) → bad_in s i e ≡ some j → refused_step refusal.NotUtf8 j ≡ comment_at s i e
  unfolding comment bad_in
  comment-bad j q = go (bad_at (take (e - i) (drop i s))) q
    where
      go : (x : Option ℕ) → place_of x i ≡ some j → refused_step refusal.NotUtf8 j ≡ step_from (checked x (e - i)) i
      go none q = let z : ◌≡◌ {A = ℕ} 0 1 = cc in absurd (omega arith)
      go (some n) q = let z : i + n ≡ j = cc in ap (refused_step refusal.NotUtf8) (sym z)

-- sequences up to its end, or up to a place before it where none stands
comment-whole : (s : List ℕ) (i e : ℕ) → i ≤ e → Good s i e → Trivia e ≡ comment_at s i e
comment-whole s i e h g = comment-good s i e h (sym (g.keeps e (omega arith)) ∙ bad-end s e)

comment-broken : (s : List ℕ) (i j e : ℕ) → Good s i j → j < length s → 0 ≡ char_length (drop j s) → j < e → refused_step refusal.NotUtf8 j ≡ comment_at s i e
comment-broken s i j e g h q k = comment-bad s i e j (sym (g.keeps e (omega arith)) ∙ bad-found s j e 0 q refl h k)

-- a byte up to 127 is one
pub good-one : (s : List ℕ) (i j : ℕ) → Good s i j → j < length s → get_or s j 0 ≤ 127 → Good s i (j + 1)
good-one s i j g h a = good-next s i j 1 g (sym (ascii-at s j h a)) (λ z. absurd (omega arith))

-- two of them are two
pub good-two : (s : List ℕ) (i j : ℕ) → Good s i j → j + 1 < length s → get_or s j 0 ≤ 127 → get_or s (j + 1) 0 ≤ 127 → Good s i (j + 2)
good-two s i j w h a b =
    subst (Good s i) (let z : j + 1 + 1 ≡ j + 2 = omega arith in z) (good-one s i (j + 1) (good-one s i j w (omega arith) a) h b)

pub good-opens : (s : List ℕ) (i j : ℕ) → Good s i j → j < length s → Opens ≡ edge_of (get_or s j 0) (get_or s (j + 1) 0) → Good s i (j + 2)
good-opens s i j g h e =
    let p = edge-opens (get_or s j 0) (get_or s (j + 1) 0) e in
    let w = two-within s j 0 h e in
    good-two s i j g (omega arith) (omega (arith, p.0)) (omega (arith, p.1))

pub good-closes : (s : List ℕ) (i j : ℕ) → Good s i j → j < length s → Closes ≡ edge_of (get_or s j 0) (get_or s (j + 1) 0) → Good s i (j + 2)
good-closes s i j g h e =
    let p = edge-closes (get_or s j 0) (get_or s (j + 1) 0) e in
    let w = two-inside s j 0 h e in
    good-two s i j g (omega arith) (omega (arith, p.0)) (omega (arith, p.1))

-- the same of the bytes up to another place
pub good-none : (s : List ℕ) (i e : ℕ) → Good s i e → bad_between s i e ≡ none
unfolding bad_in
good-none s i e g = sym (g.keeps e (omega arith)) ∙ bad-end s e

pub good-bad : (s : List ℕ) (i j : ℕ) → Good s i j → j < length s → 0 ≡ char_length (drop j s) → (e : ℕ) → j < e → bad_between s i e ≡ some j
unfolding bad_in
good-bad s i j g h q e k = sym (g.keeps e (omega arith)) ∙ bad-found s j e 0 q refl h k

-- ---- the lexeme at a `/`

module _ (r : List ℕ) where
  slash-line : first r ≡ 47 → lexeme (47 ∷ r) ≡ comment (2 + run in_line (drop 1 r)) (47 ∷ r)
  unfolding lexeme space among whitespace line_comment begins ascii ascii_from
  slash-line e = simp (begins-one 46 r, eq-eqb _ _ e)

  slash-block : first r ≡ 42 → lexeme (47 ∷ r) ≡ block (closing (drop 1 r) 0 0) (47 ∷ r)
  unfolding lexeme space among whitespace line_comment block_comment begins ascii ascii_from
  slash-block e =
      let n : first r ≡ 47 → ⊥ = (λ z. absurd (omega arith)) in
      simp (begins-one 46 r, begins-one 41 r, ne_eqb _ _ n, eq-eqb _ _ e)

  slash-alone : (first r ≡ 47 → ⊥) → (first r ≡ 42 → ⊥) → lexeme (47 ∷ r) ≡ refused (refusal_number refusal.NoLexeme) 0
  unfolding lexeme space among whitespace line_comment block_comment begins ascii ascii_from qualified name_starts underscore macro hexadecimal binary decimal digits decimal_digits word mark marks no_lexeme
  slash-alone n m = simp (begins-one 46 r, begins-one 41 r, ne_eqb _ _ n, ne_eqb _ _ m)

module _ (s : List ℕ) (i b : ℕ) (h : i < length s) (e : get_or s i 0 ≡ 47) (f : b ≡ get_or s (i + 1) 0) where
  here : drop i s ≡ 47 ∷ drop (suc i) s
  here = rest-cons s i 47 h e

  next : first (drop (suc i) s) ≡ b
  next = rest-first s (suc i) ∙ ap (λ n. get_or s n 0) (sym (add-one i)) ∙ sym f

  at-line : b ≡ 47 → (k : ℕ) → k ≡ i + 2 + run in_line (drop (i + 2) s) → comment_at s i k ≡ lexeme_at s i
  at-line z k q =
      let n : k - i ≡ 2 + run in_line (drop (i + 2) s) = omega arith in
      let d : drop 1 (drop (suc i) s) ≡ drop (i + 2) s = rest-drop s (suc i) 1 (i + 2) (omega arith) in
      let w : comment (k - i) (drop i s) ≡ lexeme (drop i s) =
      ap (λ m. comment m (drop i s)) (n ∙ ap (λ l. 2 + run in_line l) (sym d))
      ∙ ap (λ l. comment (2 + run in_line (drop 1 (drop (suc i) s))) l) here
      ∙ sym (slash-line (drop (suc i) s) (next ∙ z))
      ∙ ap lexeme (sym here) in
      ap (λ x. step_from x i) w

  -- the block comment ends at k, or never
  block-is : b ≡ 42 → block (closing (drop (i + 2) s) 0 0) (drop i s) ≡ lexeme (drop i s)
  block-is z =
      let d : drop 1 (drop (suc i) s) ≡ drop (i + 2) s = rest-drop s (suc i) 1 (i + 2) (omega arith) in
      ap (λ l. block (closing l 0 0) (drop i s)) (sym d)
      ∙ ap (λ l. block (closing (drop 1 (drop (suc i) s)) 0 0) l) here
      ∙ sym (slash-block (drop (suc i) s) (next ∙ z))
      ∙ ap lexeme (sym here)

  at_block : b ≡ 42 → (k : ℕ) → place_of (closing (drop (i + 2) s) 0 0) (i + 2) ≡ some k → comment_at s i k ≡ lexeme_at s i
  at_block z k q = go (closing (drop (i + 2) s) 0 0) refl q
    where
      go : (x : Option ℕ) → closing (drop (i + 2) s) 0 0 ≡ x → place_of x (i + 2) ≡ some k → comment_at s i k ≡ lexeme_at s i
      go none p q = let z : ◌≡◌ {A = ℕ} 0 1 = cc in absurd (omega arith)
      go (some n) p q =
          let m : i + 2 + n ≡ k = cc in
          let l : k - i ≡ 2 + n = omega arith in
          ap (λ x. step_from x i) (ap (λ m. comment m (drop i s)) l ∙ sym (ap (λ x. block x (drop i s)) p) ∙ block-is z)

  at-unclosed : b ≡ 42 → place_of (closing (drop (i + 2) s) 0 0) (i + 2) ≡ none → refused_step refusal.Unclosed i ≡ lexeme_at s i
  at-unclosed z q = go (closing (drop (i + 2) s) 0 0) refl q
    where
      go : (x : Option ℕ) → closing (drop (i + 2) s) 0 0 ≡ x → place_of x (i + 2) ≡ none → refused_step refusal.Unclosed i ≡ lexeme_at s i
      go none p q = ap (refused_step refusal.Unclosed) (let z : i ≡ i + 0 = omega arith in z) ∙ ap (λ x. step_from x i) (sym (ap (λ x. block x (drop i s)) p) ∙ block-is z)
      go (some n) p q = let z : ◌≡◌ {A = ℕ} 0 1 = cc in absurd (omega arith)

  pub at-slash : (b ≡ 47 → ⊥) → (b ≡ 42 → ⊥) → refused_step refusal.NoLexeme i ≡ lexeme_at s i
  at-slash n m =
      ap (refused_step refusal.NoLexeme) (let z : i ≡ i + 0 = omega arith in z)
      ∙ sym (ap (λ x. step_from x i) (ap lexeme here ∙ slash-alone (drop (suc i) s) (λ z. n (sym next ∙ z)) (λ z. m (sym next ∙ z))))

-- ---- a line comment

-- a byte behind the first is within the draft, as it is not 0
pub comment-begins : (s : List ℕ) (i b : ℕ) → CommentAt s i (suc b) → i + 1 < length s
comment-begins s i b c = there s (i + 1) b c.1

module _ (s : List ℕ) (i j : ℕ) (c : CommentAt s i 47) where
  starts : i < length s
  starts = omega (arith, comment-begins s i 46 c)

  pub line-whole : i ≤ j → Good s i j → j ≡ run_end in_line s (i + 2) → Trivia j ≡ lexeme_at s i
  line-whole l g e = comment-whole s i j l g ∙ at-line s i 47 starts c.0 (sym c.1) refl j e

  pub line-broken : Good s i j → j < length s → in_line (get_or s j 0) ≡ true → 0 ≡ char_length (drop j s) → run_end in_line s j ≡ run_end in_line s (i + 2)
      → refused_step refusal.NotUtf8 j ≡ lexeme_at s i
  line-broken g l x q e =
      let z = run_in in_line s j l x in
      comment-broken s i j (run_end in_line s (i + 2)) g l q (omega arith) ∙ at-line s i 47 starts c.0 (sym c.1) refl _ refl

-- ---- a block comment

closing-some : (r : List ℕ) (d p n : ℕ) → closing r d p ≡ some n → 1 ≤ n
unfolding closing
closing-some [] d p n e = let z : ◌≡◌ {A = ℕ} 0 1 = cc in absurd (omega arith)
closing-some (b ∷ r) d p n e = go (inside d p b) e
  where
    further : (x : Option ℕ) → more x ≡ some n → 1 ≤ n
    further none e = let z : ◌≡◌ {A = ℕ} 0 1 = cc in absurd (omega arith)
    further (some m) e = let z : suc m ≡ n = cc in omega arith

    go : (t : Inside) → onward t (closing r) ≡ some n → 1 ≤ n
    go closed e = let z : 1 ≡ n = cc in omega arith
    go (within d p) e = further (closing r d p) e

module _ (s : List ℕ) (i : ℕ) (c : CommentAt s i 42) where
  begins_in : i < length s
  begins_in = omega (arith, comment-begins s i 41 c)

  -- the two bytes at its front are two sequences
  behind : Good s i (i + 2)
  behind = good-two s i i (good_start s i) (comment-begins s i 41 c) (omega (arith, c.0)) (omega (arith, c.1))

  pub block-broken : (j d : ℕ) → i + 2 ≤ j → ((e : ℕ) → j < e → bad_between s (i + 2) e ≡ some j) → closed_at s j d ≡ closed_at s (i + 2) 0
      → broken_of (closing (drop j s) d 0) i j ≡ lexeme_at s i
  unfolding bad_in
  block-broken j d l b e₀ = go (closing (drop j s) d 0) refl
    where
      go : (x : Option ℕ) → closing (drop j s) d 0 ≡ x → broken_of (closing (drop j s) d 0) i j ≡ lexeme_at s i
      go none e = ap (λ x. broken_of x i j) e ∙ at-unclosed s i 42 begins_in c.0 (sym c.1) refl (sym e₀ ∙ ap (λ x. place_of x j) e)
      go (some n) e =
          let o = closing-some (drop j s) d 0 n e in
          ap (λ x. broken_of x i j) e ∙ comment-bad s i (j + n) j (sym (behind.keeps (j + n) (omega arith)) ∙ b (j + n) (omega arith))
          ∙ at_block s i 42 begins_in c.0 (sym c.1) refl (j + n) (sym e₀ ∙ ap (λ x. place_of x j) e)

  pub block-whole : (k : ℕ) → i + 2 ≤ k → bad_between s (i + 2) k ≡ none → closed_at s (i + 2) 0 ≡ some k → Trivia k ≡ lexeme_at s i
  unfolding bad_in
  block-whole k l b e = comment-good s i k (omega arith) (sym (behind.keeps k l) ∙ b) ∙ at_block s i 42 begins_in c.0 (sym c.1) refl k e

  pub block-unclosed : closed_at s (i + 2) 0 ≡ none → refused_step refusal.Unclosed i ≡ lexeme_at s i
  block-unclosed e = at-unclosed s i 42 begins_in c.0 (sym c.1) refl e
