-- What the kind of a token says of its text: which trial found it.
-- Assumes nothing.
use Rattle.std.specs.Prelude.{Bool, ◌&&◌, ◌||◌, not, List, [], ◌∷◌, ◌≡◌, ℕ, ◌+◌, eqb, ltb, leb, length, take, drop}
use Rattle.std.proofs.Math.Bool.{true, false, cond}
use Rattle.std.proofs.Math.Option.{Option, none, some}
use Rattle.std.proofs.Math.Path.{refl}
use Rattle.std.proofs.Common.{sym, ap, ◌∙◌, subst}
use Rattle.std.proofs.Math.Dec.{T}
use Rattle.std.proofs.Math.Seq.{take-length}
use Rattle.text.specs.Ascii.{ascii}
use Rattle.text.specs.Lists.{has}
use Rattle.text.specs.Refusals.{refusal_number}
use Rattle.text.specs.declared.refusal.Refusal.TheVariants as refusal
use Rattle.text.specs.Table.{every}
use Rattle.text.proofs.Table.{first-of, second-of}
use Rattle.words.proofs.Members.{found-passes}
use Rattle.words.specs.Words.{KEYWORDS, MACROS, MODULE_RESERVED, word_of}
use Rattle.std.specs.Prelude.{Some, None}
use Rattle.std.specs.Prelude as std
use Rattle.lexer.specs.Chars.{Range, among, whitespace, line_ends, underscore, binary_digits, decimal_digits, hex_digits, first, run, begins}
use Rattle.lexer.specs.Classes as t
use Rattle.lexer.specs.Lexemes.{Lexeme, token, trivia, refused, ◌or_else◌, space, comment, line_comment, block, closing, block_comment, name_length, is_name, module_token, qualified, macro_token, macro, word_token, word, digits, hexadecimal, binary, decimal, Mark, marks, mark, no_lexeme, lexeme}
use Rattle.lexer.proofs.Alone.{clash, some_is, no-trivia, no-refusal, no-comment, no_block, macro-length, word-length}
use Rattle.lexer.specs.Texts.{OneToken}

-- the kinds that are classes themselves, names apart: keywords, marks, numbers, jets, witnesses and parameters
abbrev pub other_kind : ℕ → Bool
other_kind k = leb t.Pub k && ltb k t.words && not (has (t.Simc ∷ t.Bool ∷ t.Ident ∷ t.Macro ∷ []) k)

-- A name token is a name and no keyword, a boolean is one of the two, a macro one of the four.
pub data Kind (w : List ℕ) (k : ℕ) : Type 0 where
  a_name : k ≡ t.Ident → name_length w ≡ length w → word_of KEYWORDS w ≡ None → Kind w k
  a_boolean : (i : ℕ) → k ≡ t.Bool → word_of KEYWORDS w ≡ Some i → ltb t.Simc (t.Pub + i) ≡ true → Kind w k
  a_macro : (i : ℕ) → k ≡ t.Macro → word_of MACROS w ≡ Some i → Kind w k
  another : T (other_kind k) → Kind w k

-- the bytes of a line comment
abbrev line_length : List ℕ → ℕ
line_length r = 2 + run (λ b. not (among line_ends b)) (drop 2 r)

or-any : {P : Type 0} {x : Lexeme} (o : Option Lexeme) (y : Lexeme) → (o ≡ some x → P) → (y ≡ x → P) → (o or_else y) ≡ x → P
or-any none y f g e = g e
or-any (some z) y f g e = f (ap some e)

cond-any : {P : Type 0} {x : Lexeme} (c : Bool) (o : Option Lexeme) → (o ≡ some x → P) → cond c o none ≡ some x → P
cond-any true o f e = f e
cond-any false o f e = clash e

module-kinds : T (every (λ i w. other_kind (t.Jet + i)) 0 MODULE_RESERVED)
unfolding MODULE_RESERVED has
module-kinds = tt

-- a keyword's kind, if it is neither `simc` nor a boolean
keyword-kinds : T (every (λ i w. eqb (t.Pub + i) t.Simc || (ltb t.Simc (t.Pub + i) || other_kind (t.Pub + i))) 0 KEYWORDS)
unfolding KEYWORDS has
keyword-kinds = tt

abbrev kinds : List Mark → Bool
kinds [] = true
kinds (m ∷ ms) = other_kind m.kind && kinds ms

mark-kinds : T (kinds marks)
unfolding marks has
mark-kinds = tt

of-module : (p : List ℕ) (f : std.Option ℕ) → word_of MODULE_RESERVED p ≡ f → (n : ℕ) {k m : ℕ} → module_token f n ≡ some (token k m) → T (other_kind k)
of-module p (Some i) q n {k} e = let z : t.Jet + i ≡ k = cc in subst (λ j. T (other_kind j)) z (found-passes (λ i w. other_kind (t.Jet + i)) MODULE_RESERVED module-kinds p i q)
of-module p None q n e = clash e

of-mark : (ms : List Mark) → T (kinds ms) → (r : List ℕ) {k n : ℕ} → mark ms r ≡ some (token k n) → T (other_kind k)
unfolding mark
of-mark [] h r e = clash e
of-mark (m ∷ ms) h r {k} {n} e = go (begins (ascii m.text) r) e (of-mark ms (second-of (other_kind m.kind) (kinds ms) h) r)
  where
    go : (c : Bool) → cond c (some (token m.kind (length (ascii m.text)))) (mark ms r) ≡ some (token k n) → (mark ms r ≡ some (token k n) → T (other_kind k)) → T (other_kind k)
    go true e f = let z : m.kind ≡ k = cc in subst (λ j. T (other_kind j)) z (first-of (other_kind m.kind) (kinds ms) h)
    go false e f = f e

of-digits : (base : List Range) (kind n : ℕ) (r : List ℕ) {k m : ℕ} → digits base kind n r ≡ some (token k m) → kind ≡ k
unfolding digits
of-digits base kind n r {k} e = cond-any {P = kind ≡ k} (among base (first (drop n r))) (some (token kind (n + run (λ b. among base b || among underscore b) (drop n r)))) (λ q. cc) e

module _ (w : List ℕ) (k : ℕ) where
  abbrev x : Lexeme
  x = token k (length w)

  -- a found run of the whole text
  whole : {n : ℕ} → n ≡ length w → take n w ≡ w
  whole e = ap (λ (m : ℕ). take m w) e ∙ take-length w

  of-macro : (f : std.Option ℕ) (n : ℕ) → word_of MACROS (take n w) ≡ f → macro_token f n ≡ some x → Kind w k
  of-macro (Some i) n q e =
      let l : n ≡ length w = macro-length (Some i) n e in
      a_macro i (let z : t.Macro ≡ k = cc in sym z) (ap (word_of MACROS) (sym (whole l)) ∙ q)
  of-macro None n q e = clash e

  of_word : (f : std.Option ℕ) → word_of KEYWORDS (take (name_length w) w) ≡ f → word_token f (name_length w) ≡ x → Kind w k
  of_word None q e =
      let l : name_length w ≡ length w = word-length None (name_length w) e in
      a_name (let z : t.Ident ≡ k = cc in sym z) l (ap (word_of KEYWORDS) (sym (whole l)) ∙ q)
  of_word (Some i) q e = go (eqb (t.Pub + i) t.Simc) (ltb t.Simc (t.Pub + i)) refl (found-passes _ KEYWORDS keyword-kinds w i p) e
    where
      p : word_of KEYWORDS w ≡ Some i
      p = ap (word_of KEYWORDS) (sym (whole (word-length (Some i) (name_length w) e))) ∙ q

      go : (a b : Bool) → ltb t.Simc (t.Pub + i) ≡ b → T (a || (b || other_kind (t.Pub + i)))
          → cond a (refused (refusal_number refusal.Simc) 0) (cond b (token t.Bool (name_length w)) (token (t.Pub + i) (name_length w))) ≡ x → Kind w k
      go true b s h e = no-refusal e
      go false true s h e = a_boolean i (let z : t.Bool ≡ k = cc in sym z) p s
      go false false s h e = let z : t.Pub + i ≡ k = cc in another (subst (λ j. T (other_kind j)) z h)

  none_any : (b : ℕ) → no_lexeme b ≡ x → Kind w k
  unfolding no_lexeme
  none_any b e = go (ltb 127 b) e
    where
      go : (c : Bool) → cond c (refused (refusal_number refusal.NotAscii) 0) (refused (refusal_number refusal.NoLexeme) 0) ≡ x → Kind w k
      go true e = no-refusal e
      go false e = no-refusal e

  -- what each trial may have found: nothing, or the token
  some-any : (c : Bool) (y : Lexeme) → (y ≡ x → Kind w k) → cond c (some y) none ≡ some x → Kind w k
  some-any c y f = cond-any c (some y) (λ e. f (some_is e))

  based-any : (w' : List ℕ) (base : List Range) (kind n : ℕ) → T (other_kind kind) → cond (begins w' w) (digits base kind n w) none ≡ some x → Kind w k
  based-any w' base kind n h = cond-any (begins w' w) (digits base kind n w) (λ e. another (subst (λ j. T (other_kind j)) (of-digits base kind n w e) h))

  qualified-any : qualified w ≡ some x → Kind w k
  unfolding qualified
  qualified-any =
      let n = name_length w in
      let m = n + 2 + name_length (drop (n + 2) w) in
      let f = word_of MODULE_RESERVED (take n w) in
      cond-any (is_name w && begins (ascii "::") (drop n w) && is_name (drop (n + 2) w)) (module_token f m) (λ e. another (of-module (take n w) f refl m e))

  macro-any : macro w ≡ some x → Kind w k
  unfolding macro
  macro-any =
      let n = name_length w in
      let f = word_of MACROS (take (n + 1) w) in
      cond-any (is_name w && begins (ascii "!") (drop n w)) (macro_token f (n + 1)) (λ e. of-macro f (n + 1) refl e)

  word-any : word w ≡ some x → Kind w k
  unfolding word
  word-any =
      let n = name_length w in
      let f = word_of KEYWORDS (take n w) in
      some-any (is_name w) (word_token f n) (of_word f refl)

  -- The kind of a token, by its text.
  pub kind-of : OneToken k w → Kind w k
  unfolding lexeme space line_comment block_comment hexadecimal binary decimal has
  kind-of o =
      or-any (space w) _ (some-any (among whitespace (first w)) (trivia (run (among whitespace) w)) no-trivia)
      (or-any (line_comment w) _ (some-any (begins (ascii "//") w) (comment (line_length w) w) (no-comment (line_length w) w))
      (or-any (block_comment w) _ (some-any (begins (ascii "/*") w) (block (closing (drop 2 w) 0 0) w) (no_block (closing (drop 2 w) 0 0) w))
      (or-any (qualified w) _ qualified-any
      (or-any (macro w) _ macro-any
      (or-any (hexadecimal w) _ (based-any (ascii "0x") hex_digits t.HexLiteral 2 tt)
      (or-any (binary w) _ (based-any (ascii "0b") binary_digits t.BinLiteral 2 tt)
      (or-any (decimal w) _ (λ e. another (subst (λ j. T (other_kind j)) (of-digits decimal_digits t.DecLiteral 0 w e) tt))
      (or-any (word w) _ word-any
      (or-any (mark marks w) _ (λ e. another (of-mark marks mark-kinds w e))
      (none_any (first w)))))))))))
      o.lexed
