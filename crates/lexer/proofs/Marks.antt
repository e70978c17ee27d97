-- What the functions on numbers, marks and single bytes cite of the definition.
-- Assumes nothing.
use mathlib.Core.Bool.{Bool, true, false, cond, ◌&&◌}
use mathlib.Core.List.{List, [], ◌∷◌}
use mathlib.Core.Option.{some}
use mathlib.Core.Path.{◌≡◌, refl, sym, ◌∙◌, ap, subst}
use Prim.Native.Nat.{ℕ, suc, ◌+◌, ◌≤◌, ◌<◌}
use native.Mathlib.Nat.{add-zero}
use native.Mathlib.Numerals.{add-one}
use native.Mathlib.Omega.{arith}
use borrow.Author.Tests.{eq-eqb, ne_eqb, leb-true, leb-false, ltb-true, ltb-false}
use lib.Dec.{T, eqb, leb, ltb}
use lib.ListN.{length, get_or, drop, replicate, length-replicate}
use Rattle.text.specs.Ascii.{ascii, ascii_from}
use Rattle.text.specs.Refusals.{refusal_number}
use Rattle.text.specs.declared.refusal.Refusal.TheVariants as refusal
use Rattle.text.specs.Same.{same}
use Rattle.text.proofs.Same.{differ}
use Rattle.text.specs.Table.{every, all}
use Rattle.text.proofs.Table.{at, each}
use Rattle.lexer.specs.Bytes.{mark_class, byte_class, in_classes}
use Rattle.lexer.specs.Bytes as byte
use Rattle.lexer.specs.Classes as t
use Rattle.lexer.specs.Chars.{among, whitespace, line_ends, plain_bytes, binary_digits, decimal_digits, hex_digits, underscore, name_starts, is, first, begins}
use Rattle.lexer.specs.Lexemes.{Lexeme, token, refused, ◌or_else◌, space, line_comment, block_comment, qualified, macro, digits, hexadecimal, binary, decimal, word, marks, mark, no_lexeme, lexeme}
use Rattle.lexer.specs.Places.{Rare}
use Rattle.lexer.proofs.SameLexeme.{same_lexeme, same-lexeme}
use Rattle.lexer.specs.Step.{refused_step, step_from, lexeme_at}
use Rattle.lexer.specs.declared.Step.TheVariants.{Token}
use Rattle.lexer.proofs.ByteClasses.{class-in, class-above, over-class, mark-apart, not_mark, each-fails}
use Rattle.lexer.proofs.Rest.{rest-first, rest-cons, begins-one}

-- ---- marks: the first byte, and whether `>` or `:` follows

-- the mark of a byte b, where `>` follows (g), or `:` (h)
abbrev chosen : ℕ → Bool → Bool → Lexeme
chosen b g h =
    (cond (is "-" b && g) (some (token t.Arrow 2)) (cond (is "=" b && g) (some (token t.FatArrow 2)) (cond (is ":" b && h) (some (token t.DoubleColon 2)) (mark (drop 3 marks) (b ∷ []))))) or_else no_lexeme b

-- the same by the byte's class
abbrev pub by_class : ℕ → Bool → Bool → Lexeme
by_class c g h =
    cond (eqb c byte.Minus) (cond g (token t.Arrow 2) (refused (refusal_number refusal.NoLexeme) 0))
    (cond (eqb c byte.Colon) (cond h (token t.DoubleColon 2) (token t.Colon 1))
    (cond (eqb c byte.Eq) (cond g (token t.FatArrow 2) (token t.Eq 1))
    (cond (eqb c byte.Other) (refused (refusal_number refusal.NoLexeme) 0)
    (token c 1))))

-- what is tested of each byte up to 127 that may be a mark
abbrev mark_tests : ℕ → List Bool
mark_tests b =
    same_lexeme (chosen b false false) (by_class (byte_class b) false false) ∷
    same_lexeme (chosen b false true) (by_class (byte_class b) false true) ∷
    same_lexeme (chosen b true false) (by_class (byte_class b) true false) ∷
    same_lexeme (chosen b true true) (by_class (byte_class b) true true) ∷ []

marks-pass : T (every {A = ℕ} (λ b x. cond (in_classes byte.Minus byte.Other b) (all (mark_tests b)) true) 0 (replicate 128 0))
unfolding same_lexeme mark marks no_lexeme in_classes byte_class mark_class same ascii ascii_from begins among whitespace line_ends plain_bytes binary_digits decimal_digits hex_digits underscore name_starts
marks-pass = tt

-- behind `-` only the class of no lexeme and that of bytes over 127 are rare
pub over-rare : (c : ℕ) → Rare c → byte.Minus < c → (c ≡ byte.Other → ⊥) → byte.LineEnd < c
over-rare c r a n = go (ltb c byte.Other) (leb c byte.LineEnd) refl refl
  where
    go : (s t : Bool) → ltb c byte.Other ≡ s → leb c byte.LineEnd ≡ t → byte.LineEnd < c
    go true t e f = absurd (r.0 (a, ltb-true _ _ e))
    go false true e f = let h = ltb-false _ _ e in absurd (r.1 (grind (arith, h, n), leb-true _ _ f))
    go false false e f = leb-false _ _ f

-- a byte of these classes is not over 127
not-over : (b : ℕ) → in_classes byte.Minus byte.Other b ≡ true → b ≤ 127
not-over b h = go (leb b 127) refl
  where
    go : (t : Bool) → leb b 127 ≡ t → b ≤ 127
    go true e = leb-true _ _ e
    go false e = differ (sym (class-above byte.Minus byte.Other b byte.NotAscii (sym (over-class b (leb-false _ _ e))) (omega arith)) ∙ h)

passes : (b : ℕ) → in_classes byte.Minus byte.Other b ≡ true → T (all (mark_tests b))
passes b h =
    subst (λ t. T (cond t (all (mark_tests b)) true)) h
    (at {A = ℕ} (λ b x. cond (in_classes byte.Minus byte.Other b) (all (mark_tests b)) true) (replicate 128 0) 0 marks-pass b (let l = not-over b h in omega (arith, length-replicate {A = ℕ} 128 0)))

chosen_is : (b : ℕ) → in_classes byte.Minus byte.Other b ≡ true → (g h : Bool) → chosen b g h ≡ by_class (byte_class b) g h
chosen_is b k false false = same-lexeme _ _ (each (mark_tests b) (passes b k) 0)
chosen_is b k false true = same-lexeme _ _ (each (mark_tests b) (passes b k) 1)
chosen_is b k true false = same-lexeme _ _ (each (mark_tests b) (passes b k) 2)
chosen_is b k true true = same-lexeme _ _ (each (mark_tests b) (passes b k) 3)

-- Where a mark may start, only the trial of the marks is left.
only-marks : (b : ℕ) (r : List ℕ) → in_classes byte.Minus byte.Other b ≡ true → lexeme (b ∷ r) ≡ (mark marks (b ∷ r) or_else no_lexeme b)
unfolding lexeme space line_comment block_comment qualified macro hexadecimal binary decimal digits word begins ascii ascii_from
only-marks b r h =
    let no = each-fails (not_mark b) (mark-apart b h) in
    let w : among whitespace b ≡ false = no 0 in
    let s : is "/" b ≡ false = no 1 in
    let z : is "0" b ≡ false = no 2 in
    let d : among decimal_digits b ≡ false = no 3 in
    let n : among name_starts b ≡ false = no 4 in
    simp (w, s, z, d, n)

mark-is : (b : ℕ) (r : List ℕ) → (mark marks (b ∷ r) or_else no_lexeme b) ≡ chosen b (eqb (first r) 62) (eqb (first r) 58)
unfolding mark marks begins ascii ascii_from
mark-is b r = simp (begins-one 61 r, begins-one 57 r)

two_or_one : (b : Bool) (k l i : ℕ) → cond b (Token k (i + 2)) (Token l (i + 1)) ≡ step_from (cond b (token k 2) (token l 1)) i
two_or_one true k l i = refl
two_or_one false k l i = refl

module _ (s : List ℕ) (i c n : ℕ) (h : i < length s) (q : c ≡ byte_class (get_or s i 0)) (f : n ≡ get_or s (i + 1) 0) (a : byte.Minus ≤ c) (b : c ≤ byte.Other) where
  -- the lexeme by the class of its first byte and the byte behind it
  at_mark : step_from (by_class c (eqb n 62) (eqb n 58)) i ≡ lexeme_at s i
  at_mark =
      let x = get_or s i 0 in
      let k : in_classes byte.Minus byte.Other x ≡ true = class-in byte.Minus byte.Other x c q a b in
      let d : first (drop (suc i) s) ≡ n = rest-first s (suc i) ∙ ap (λ m. get_or s m 0) (sym (add-one i)) ∙ sym f in
      let l : lexeme (drop i s) ≡ by_class c (eqb n 62) (eqb n 58) =
      ap lexeme (rest-cons s i x h refl)
      ∙ only-marks x (drop (suc i) s) k
      ∙ mark-is x (drop (suc i) s)
      ∙ ap (λ m. chosen x (eqb m 62) (eqb m 58)) d
      ∙ chosen_is x k (eqb n 62) (eqb n 58)
      ∙ ap (λ m. by_class m (eqb n 62) (eqb n 58)) (sym q) in
      sym (ap (λ t. step_from t i) l)

  -- a mark of one byte with which no other mark begins
  pub at_alone : (c ≡ byte.Minus → ⊥) → (c ≡ byte.Colon → ⊥) → (c ≡ byte.Eq → ⊥) → (c ≡ byte.Other → ⊥) → Token c (i + 1) ≡ lexeme_at s i
  at_alone k l m o = simp (ne_eqb _ _ k, ne_eqb _ _ l, ne_eqb _ _ m, ne_eqb _ _ o) at at_mark

  -- the marks of one byte or two
  pub at-colon : c ≡ byte.Colon → cond (eqb n 58) (Token t.DoubleColon (i + 2)) (Token t.Colon (i + 1)) ≡ lexeme_at s i
  at-colon e = two_or_one (eqb n 58) t.DoubleColon t.Colon i ∙ (simp (ne_eqb c byte.Minus (λ z. absurd (omega arith)), eq-eqb c byte.Colon e) at at_mark)

  pub at-eq : c ≡ byte.Eq → cond (eqb n 62) (Token t.FatArrow (i + 2)) (Token t.Eq (i + 1)) ≡ lexeme_at s i
  at-eq e =
      two_or_one (eqb n 62) t.FatArrow t.Eq i
      ∙ (simp (ne_eqb c byte.Minus (λ z. absurd (omega arith)), ne_eqb c byte.Colon (λ z. absurd (omega arith)), eq-eqb c byte.Eq e) at at_mark)

-- `-`, with `>` behind it or alone
module _ (s : List ℕ) (i n : ℕ) (h : i < length s) (q : byte.Minus ≡ byte_class (get_or s i 0)) (f : n ≡ get_or s (i + 1) 0) where
  pub at-arrow : n ≡ 62 → Token t.Arrow (i + 2) ≡ lexeme_at s i
  at-arrow g = simp (eq-eqb n 62 g) at (at_mark s i byte.Minus n h q f (omega arith) (omega arith))

  pub at-dash : (n ≡ 62 → ⊥) → refused_step refusal.NoLexeme i ≡ lexeme_at s i
  at-dash g = ap (refused_step refusal.NoLexeme) (sym (add-zero i)) ∙ (simp (ne_eqb n 62 g) at (at_mark s i byte.Minus n h q f (omega arith) (omega arith)))

-- a byte of no mark
pub at-other : (s : List ℕ) (i c : ℕ) → i < length s → c ≡ byte_class (get_or s i 0) → c ≡ byte.Other → refused_step refusal.NoLexeme i ≡ lexeme_at s i
at-other s i c h q o =
    ap (refused_step refusal.NoLexeme) (sym (add-zero i))
    ∙ (simp (ne_eqb c byte.Minus (λ z. absurd (omega arith)), ne_eqb c byte.Colon (λ z. absurd (omega arith)), ne_eqb c byte.Eq (λ z. absurd (omega arith)), eq-eqb c byte.Other o)
    at (at_mark s i c (get_or s (i + 1) 0) h q refl (omega arith) (omega arith)))
