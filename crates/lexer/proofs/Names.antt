-- What the functions on names and words cite of the definition.
-- Assumes nothing.
use mathlib.Core.Bool.{Bool, true, false, cond, ◌&&◌, and-false}
use mathlib.Core.List.{List, ◌∷◌}
use mathlib.Core.Option.{none, some}
use mathlib.Core.Path.{◌≡◌, refl, sym, ◌∙◌, ap}
use Prim.Native.Nat.{ℕ, suc, ◌+◌, ◌-◌, ◌<◌}
use native.Mathlib.Omega.{arith}
use borrow.Author.Tests.{eq-eqb, ne_eqb}
use lib.Dec.{eqb, ltb}
use lib.ListN.{length, get_or, take, drop}
use lib.Seq.{get_or-drop}
use Rattle.text.specs.Ascii.{ascii, ascii_from}
use Rattle.text.specs.Refusals.{refusal_number}
use Rattle.text.specs.declared.refusal.Refusal.TheVariants as refusal
use Rattle.text.specs.Part.{part_of}
use Rattle.words.specs.Words.{KEYWORDS, MACROS, MODULE_RESERVED, word_of}
use Rattle.std.specs.Prelude.{Some, None}
use Rattle.lexer.specs.Bytes.{in_classes}
use Rattle.lexer.specs.Bytes as byte
use Rattle.lexer.specs.Classes as t
use Rattle.lexer.specs.Chars.{among, whitespace, decimal_digits, name_starts, name_bytes, is, run, begins}
use Rattle.lexer.specs.Lexemes.{token, refused, ◌or_else◌, space, line_comment, block_comment, name_length, is_name, module_token, qualified, macro_token, macro, word_token, word, digits, hexadecimal, binary, decimal, lexeme}
use Rattle.lexer.specs.Places.{Named, keyword_at}
use Rattle.lexer.specs.Step.{refused_step, step_from, lexeme_at}
use Rattle.lexer.proofs.TextLaws.{part-rest}
use Rattle.lexer.specs.declared.Step.TheVariants.{Token}
use Rattle.lexer.proofs.ByteClasses.{name-classes, name-apart, not_name, each-fails}
use Rattle.lexer.proofs.Rest.{rest-first, rest-cons, rest-drop, begins-one, begins-two, there}
use Rattle.lexer.proofs.Runs.{run-same, run-end-within}

-- Where a name starts, only the trials on names are left.
only-names : (b : ℕ) (r : List ℕ) → among name_starts b ≡ true
    → lexeme (b ∷ r)
    ≡ (qualified (b ∷ r) or_else macro (b ∷ r) or_else word_token (word_of KEYWORDS (take (name_length (b ∷ r)) (b ∷ r))) (name_length (b ∷ r)))
unfolding lexeme space line_comment block_comment hexadecimal binary decimal digits word begins ascii ascii_from
only-names b r h =
    let no = each-fails (not_name b) (name-apart b h) in
    let w : among whitespace b ≡ false = no 0 in
    let s : is "/" b ≡ false = no 1 in
    let z : is "0" b ≡ false = no 2 in
    let d : among decimal_digits b ≡ false = no 3 in
    simp (w, s, z, d, h)

-- ---- a name from i up to e

module _ (s : List ℕ) (i e : ℕ) (v : Named s i e) where
  behind : (k m : ℕ) → e + k ≡ m → drop (name_length (drop i s) + k) (drop i s) ≡ drop m s
  behind k m q = rest-drop s i (name_length (drop i s) + k) m (let z = v.ends in omega arith)

  text : take (name_length (drop i s)) (drop i s) ≡ part_of s i e
  text = sym (part-rest s i (name_length (drop i s)) e (sym v.ends) v.within)

  sliced : take (e - i) (drop i s) ≡ part_of s i e
  sliced = let n : e - i ≡ name_length (drop i s) = (let z = v.ends in omega arith) in ap (λ n. take n (drop i s)) n ∙ text

  starts : is_name (drop i s) ≡ true
  starts = ap (among name_starts) (rest-first s i) ∙ v.starts

  first-behind : drop (name_length (drop i s)) (drop i s) ≡ drop e s
  first-behind = rest-drop s i (name_length (drop i s)) e (sym v.ends)

  -- the trial of `jet::`, `witness::` and `param::`, by the bytes behind the name
  qualified-is :
      qualified (drop i s)
      ≡ cond (eqb (get_or s e 0) 58 && eqb (get_or s (e + 1) 0) 58 && among name_starts (get_or s (e + 2) 0))
      (module_token (word_of MODULE_RESERVED (part_of s i e)) (name_length (drop i s) + 2 + name_length (drop (e + 2) s)))
      none
  unfolding qualified ascii ascii_from
  qualified-is =
      simp
      (starts, first-behind, behind 2 (e + 2) refl, begins-two 57 57 (drop e s), rest-first s e, rest-first s (e + 2), get_or-drop e s 1 0, text)

  -- the trial of the macros
  macro-is : macro (drop i s) ≡ cond (eqb (get_or s e 0) 33) (macro_token (word_of MACROS (take (name_length (drop i s) + 1) (drop i s))) (name_length (drop i s) + 1)) none
  unfolding macro ascii ascii_from
  macro-is = simp (starts, first-behind, begins-one 32 (drop e s), rest-first s e)

  lexeme-is :
      lexeme (drop i s)
      ≡ (qualified (drop i s) or_else macro (drop i s) or_else word_token (word_of KEYWORDS (part_of s i e)) (name_length (drop i s)))
  lexeme-is =
      let c : drop i s ≡ get_or s i 0 ∷ drop (suc i) s = rest-cons s i (get_or s i 0) v.here refl in
      ap lexeme c
      ∙ only-names (get_or s i 0) (drop (suc i) s) v.starts
      ∙ sym (ap (λ r. qualified r or_else macro r or_else word_token (word_of KEYWORDS (take (name_length r) r)) (name_length r)) c)
      ∙ ap (λ t. qualified (drop i s) or_else macro (drop i s) or_else word_token (word_of KEYWORDS t) (name_length (drop i s))) text

  -- ---- where the trials before a word find nothing

  pub not-module : (get_or s e 0 ≡ 58 → ⊥) → qualified (drop i s) ≡ none
  not-module h = qualified-is ∙ simp (ne_eqb _ _ h)

  pub not-path : (get_or s (e + 1) 0 ≡ 58 → ⊥) → qualified (drop i s) ≡ none
  not-path h = qualified-is ∙ simp (ne_eqb _ _ h, and-false)

  not_named : among name_starts (get_or s (e + 2) 0) ≡ false → qualified (drop i s) ≡ none
  not_named h = qualified-is ∙ simp (h, and-false)

  not-reserved : (get_or s e 0 ≡ 58) × (get_or s (e + 1) 0 ≡ 58) × (among name_starts (get_or s (e + 2) 0) ≡ true) → word_of MODULE_RESERVED (part_of s i e) ≡ None → qualified (drop i s) ≡ none
  not-reserved h d = qualified-is ∙ simp (eq-eqb _ _ h.0, eq-eqb _ _ h.1, h.2, d)

  pub no-macro : (get_or s e 0 ≡ 33 → ⊥) → macro (drop i s) ≡ none
  no-macro h = macro-is ∙ simp (ne_eqb _ _ h)

  -- with the `!` behind it the name is a part of the draft
  with-mark : get_or s e 0 ≡ 33 → take (name_length (drop i s) + 1) (drop i s) ≡ part_of s i (e + 1)
  with-mark a = sym (part-rest s i (name_length (drop i s) + 1) (e + 1) (let z = v.ends in omega arith) (omega (arith, there s e 32 a)))

  -- so the name is a word,
  pub path-word : get_or s e 0 ≡ 58 → (get_or s (e + 1) 0 ≡ 58 → ⊥) → (qualified (drop i s) ≡ none) × (macro (drop i s) ≡ none)
  path-word a b = (not-path b, no-macro (λ z. absurd (omega arith)))

  pub unnamed-word : get_or s e 0 ≡ 58 → among name_starts (get_or s (e + 2) 0) ≡ false → (qualified (drop i s) ≡ none) × (macro (drop i s) ≡ none)
  unnamed-word a b = (not_named b, no-macro (λ z. absurd (omega arith)))

  pub unreserved-word : (get_or s e 0 ≡ 58) × (get_or s (e + 1) 0 ≡ 58) × (among name_starts (get_or s (e + 2) 0) ≡ true) → word_of MODULE_RESERVED (part_of s i e) ≡ None
      → (qualified (drop i s) ≡ none) × (macro (drop i s) ≡ none)
  unreserved-word h d = (not-reserved h d, no-macro (λ z. absurd (omega (arith, h.0))))

  pub unmarked-word : get_or s e 0 ≡ 33 → word_of MACROS (part_of s i (e + 1)) ≡ None → (qualified (drop i s) ≡ none) × (macro (drop i s) ≡ none)
  unmarked-word a d = (not-module (λ z. absurd (omega arith)), macro-is ∙ simp (eq-eqb _ _ a, with-mark a, d))

  -- ---- the lexeme

  pub at-module : (k m : ℕ) → (get_or s e 0 ≡ 58) × (get_or s (e + 1) 0 ≡ 58) × (among name_starts (get_or s (e + 2) 0) ≡ true)
      → word_of MODULE_RESERVED (part_of s i e) ≡ Some k → m ≡ e + 2 + run (in_classes byte.Underscore byte.Letter) (drop (e + 2) s) → Token (t.Jet + k) m ≡ lexeme_at s i
  unfolding name_length
  at-module k m h d q =
      let w : qualified (drop i s) ≡ some (token (t.Jet + k) (name_length (drop i s) + 2 + name_length (drop (e + 2) s))) =
      qualified-is ∙ simp (eq-eqb _ _ h.0, eq-eqb _ _ h.1, h.2, d) in
      let n = run-same (in_classes byte.Underscore byte.Letter) (among name_bytes) name-classes (drop (e + 2) s) in
      let z : m ≡ i + (name_length (drop i s) + 2 + name_length (drop (e + 2) s)) = (let y = v.ends in omega arith) in
      let l : lexeme (drop i s) ≡ token (t.Jet + k) (name_length (drop i s) + 2 + name_length (drop (e + 2) s)) = lexeme-is ∙ simp w in
      ap (Token (t.Jet + k)) z ∙ sym (ap (λ x. step_from x i) l)

  pub at-macro : (k : ℕ) → get_or s e 0 ≡ 33 → word_of MACROS (part_of s i (e + 1)) ≡ Some k → Token t.Macro (e + 1) ≡ lexeme_at s i
  at-macro k a d =
      let b = not-module (λ z. absurd (omega arith)) in
      let w : macro (drop i s) ≡ some (token t.Macro (name_length (drop i s) + 1)) = macro-is ∙ simp (eq-eqb _ _ a, with-mark a, d) in
      let z : e + 1 ≡ i + (name_length (drop i s) + 1) = (let y = v.ends in omega arith) in
      let l : lexeme (drop i s) ≡ token t.Macro (name_length (drop i s) + 1) = lexeme-is ∙ simp (b, w) in
      ap (Token t.Macro) z ∙ sym (ap (λ x. step_from x i) l)

  word-is : qualified (drop i s) ≡ none → macro (drop i s) ≡ none → lexeme_at s i ≡ step_from (word_token (word_of KEYWORDS (part_of s i e)) (name_length (drop i s))) i
  word-is a b =
      let l : lexeme (drop i s) ≡ word_token (word_of KEYWORDS (part_of s i e)) (name_length (drop i s)) = lexeme-is ∙ simp (a, b) in
      ap (λ x. step_from x i) l

  pub at_plain : qualified (drop i s) ≡ none → macro (drop i s) ≡ none → word_of KEYWORDS (take (e - i) (drop i s)) ≡ None → Token t.Ident e ≡ lexeme_at s i
  at_plain a b d = sym (word-is a b ∙ ap (λ f. step_from (word_token f (name_length (drop i s))) i) (ap (word_of KEYWORDS) (sym sliced) ∙ d) ∙ ap (Token t.Ident) (sym v.ends))

  pub at-keyword : (k : ℕ) → qualified (drop i s) ≡ none → macro (drop i s) ≡ none → word_of KEYWORDS (take (e - i) (drop i s)) ≡ Some k → keyword_at k i e ≡ lexeme_at s i
  at-keyword k a b d = sym (word-is a b ∙ ap (λ f. step_from (word_token f (name_length (drop i s))) i) (ap (word_of KEYWORDS) (sym sliced) ∙ d) ∙ go (eqb (t.Pub + k) t.Simc) (ltb t.Simc (t.Pub + k)))
    where
      go : (a b : Bool)
          → step_from (cond a (refused (refusal_number refusal.Simc) 0) (cond b (token t.Bool (name_length (drop i s))) (token (t.Pub + k) (name_length (drop i s))))) i
          ≡ cond a (refused_step refusal.Simc i) (cond b (Token t.Bool e) (Token (t.Pub + k) e))
      go true b = ap (refused_step refusal.Simc) (let z : i + 0 ≡ i = omega arith in z)
      go false true = ap (Token t.Bool) (sym v.ends)
      go false false = ap (Token (t.Pub + k)) (sym v.ends)

-- ---- what is known of a name and of a word found

pub named : (s : List ℕ) (i e : ℕ) → i < length s → among name_starts (get_or s i 0) ≡ true → e ≡ i + run (in_classes byte.Underscore byte.Letter) (drop i s) → Named s i e
unfolding name_length
named s i e h n q = record {
  starts = n;
  ends = q ∙ ap (λ m. i + m) (run-same (in_classes byte.Underscore byte.Letter) (among name_bytes) name-classes (drop i s));
  here = h;
  within = (let w = run-end-within (in_classes byte.Underscore byte.Letter) s i (omega arith) in omega arith);
}

pub keyword_count : length KEYWORDS ≡ 14
unfolding KEYWORDS
keyword_count = refl

pub module-count : length MODULE_RESERVED ≡ 3
unfolding MODULE_RESERVED
module-count = refl
