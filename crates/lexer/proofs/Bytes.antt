-- What the functions on numbers, whitespace and bytes over 127 cite of the definition.
-- Assumes nothing.
use mathlib.Core.Bool.{Bool, true, false, ◌&&◌, ◌||◌, and-false}
use mathlib.Core.List.{List, [], ◌∷◌}
use mathlib.Core.Option.{none}
use mathlib.Core.Path.{◌≡◌, refl, sym, ◌∙◌, ap}
use Prim.Native.Nat.{ℕ, suc, ◌+◌, ◌≤◌, ◌<◌}
use native.Mathlib.Nat.{zero-add}
use native.Mathlib.Numerals.{add-one}
use native.Mathlib.Omega.{arith}
use borrow.Author.Tests.{eq-eqb, ne_eqb, lt-ltb, le-leb, leb-false}
use lib.Dec.{T, eqb, leb, leb→le}
use lib.ListN.{length, get_or, drop}
use Rattle.text.specs.Ascii.{ascii, ascii_from}
use Rattle.text.specs.Refusals.{refusal_number}
use Rattle.text.specs.declared.refusal.Refusal.TheVariants as refusal
use Rattle.text.proofs.Same.{differ}
use Rattle.text.proofs.Table.{first-of, second-of}
use Rattle.lexer.specs.Bytes.{byte_class, in_classes}
use Rattle.lexer.specs.Bytes as byte
use Rattle.lexer.specs.Classes as t
use Rattle.lexer.specs.Chars.{Range, among, whitespace, plain_bytes, binary_digits, decimal_digits, hex_digits, underscore, name_starts, is, first, run, begins}
use Rattle.lexer.specs.Lexemes.{token, trivia, refused, ◌or_else◌, Mark, space, line_comment, block_comment, qualified, macro, digits, hexadecimal, binary, decimal, word, marks, mark, no_lexeme, lexeme}
use Rattle.lexer.specs.Places.{Based, decimal_at}
use Rattle.lexer.proofs.Plain.{over-among}
use Rattle.lexer.specs.Step.{refused_step, step_from, lexeme_at}
use Rattle.lexer.specs.declared.Step.TheVariants.{Token, Trivia}
use Rattle.lexer.proofs.ByteClasses.{class-in, class-above, space-classes, plain-classes, decimal-run, hex-classes, hex-run, binary-classes, binary-run, digit-apart, not_digit, each-fails}
use Rattle.lexer.proofs.Rest.{rest-first, rest-cons, rest-drop, begins-one, there}
use Rattle.lexer.proofs.Runs.{run-same}

-- ---- numbers

abbrev run_of : List Range → ℕ → Bool
run_of base b = among base b || among underscore b

-- Where a digit stands, only the trials on digits are left.
only-digits : (b : ℕ) (r : List ℕ) → among decimal_digits b ≡ true
    → lexeme (b ∷ r) ≡ (hexadecimal (b ∷ r) or_else binary (b ∷ r) or_else token t.DecLiteral (run (run_of decimal_digits) (b ∷ r)))
unfolding lexeme space line_comment block_comment qualified macro decimal digits begins ascii ascii_from
only-digits b r h =
    let no = each-fails (not_digit b) (digit-apart b h) in
    let w : among whitespace b ≡ false = no 0 in
    let s : is "/" b ≡ false = no 1 in
    let n : among name_starts b ≡ false = no 2 in
    simp (w, s, n, h, zero-add)

module _ (s : List ℕ) (i : ℕ) (h : i < length s) (d : among decimal_digits (get_or s i 0) ≡ true) where
  here : drop i s ≡ get_or s i 0 ∷ drop (suc i) s
  here = rest-cons s i (get_or s i 0) h refl

  digits-at : lexeme (drop i s) ≡ (hexadecimal (drop i s) or_else binary (drop i s) or_else token t.DecLiteral (run (run_of decimal_digits) (drop i s)))
  digits-at =
      ap lexeme here
      ∙ only-digits (get_or s i 0) (drop (suc i) s) d
      ∙ sym (ap (λ r. hexadecimal r or_else binary r or_else token t.DecLiteral (run (run_of decimal_digits) r)) here)

  next : first (drop (suc i) s) ≡ get_or s (i + 1) 0
  next = rest-first s (suc i) ∙ ap (λ n. get_or s n 0) (sym (add-one i))

  -- the prefix of a base, by its two bytes
  prefix : (x : ℕ) → begins (48 ∷ suc x ∷ []) (drop i s) ≡ (eqb (get_or s i 0) 48 && eqb (get_or s (i + 1) 0) (suc x))
  unfolding begins
  prefix x = ap (begins (48 ∷ suc x ∷ [])) here ∙ ap (λ t. eqb (get_or s i 0) 48 && t) (begins-one x (drop (suc i) s) ∙ ap (λ n. eqb n (suc x)) next)

  decimal-is : step_from (token t.DecLiteral (run (run_of decimal_digits) (drop i s))) i ≡ decimal_at s i
  decimal-is = ap (λ n. Token t.DecLiteral (i + n)) (sym (run-same (in_classes byte.Underscore byte.Digit) (run_of decimal_digits) decimal-run (drop i s)))

  at-decimal : (eqb (get_or s i 0) 48 && eqb (get_or s (i + 1) 0) 120) ≡ false → (eqb (get_or s i 0) 48 && eqb (get_or s (i + 1) 0) 98) ≡ false → decimal_at s i ≡ lexeme_at s i
  unfolding hexadecimal binary ascii ascii_from
  at-decimal a b =
      let l : lexeme (drop i s) ≡ token t.DecLiteral (run (run_of decimal_digits) (drop i s)) = digits-at ∙ simp (prefix 119, prefix 97, a, b) in
      sym (ap (λ x. step_from x i) l ∙ decimal-is)

  -- without a 0, or a base's letter behind it, a number is decimal
  pub at-no-zero : (get_or s i 0 ≡ 48 → ⊥) → decimal_at s i ≡ lexeme_at s i
  at-no-zero n = at-decimal (simp (ne_eqb _ _ n)) (simp (ne_eqb _ _ n))

  pub at-no-base : (get_or s (i + 1) 0 ≡ 120 → ⊥) → (get_or s (i + 1) 0 ≡ 98 → ⊥) → decimal_at s i ≡ lexeme_at s i
  at-no-base x b = at-decimal (simp (ne_eqb _ _ x, and-false)) (simp (ne_eqb _ _ b, and-false))

  -- a base by the classes of its digits
  based-is : (base : List Range) (kind most : ℕ) → ((b : ℕ) → in_classes byte.BinaryDigit most b ≡ among base b) → ((b : ℕ) → in_classes byte.Underscore most b ≡ run_of base b) → i + 2 ≤ length s → most ≤ byte.HexLetter
      → lexeme (drop i s) ≡ (digits base kind 2 (drop i s) or_else token t.DecLiteral (run (run_of decimal_digits) (drop i s))) → Based s i kind most
  unfolding digits
  based-is base kind most one many w m l =
      let f₂ : first (drop 2 (drop i s)) ≡ get_or s (i + 2) 0 = ap first (rest-drop s i 2 (i + 2) refl) ∙ rest-first s (i + 2) in
      let e : among base (first (drop 2 (drop i s))) ≡ in_classes byte.BinaryDigit most (get_or s (i + 2) 0) = ap (among base) f₂ ∙ sym (one (get_or s (i + 2) 0)) in
      let n : run (run_of base) (drop 2 (drop i s)) ≡ run (in_classes byte.Underscore most) (drop (i + 2) s) =
      ap (run (run_of base)) (rest-drop s i 2 (i + 2) refl) ∙ sym (run-same (in_classes byte.Underscore most) (run_of base) many (drop (i + 2) s)) in
      record {
        within = w;
        small = m;
        digits = λ y.
            let k : lexeme (drop i s) ≡ token kind (2 + run (in_classes byte.Underscore most) (drop (i + 2) s)) = l ∙ simp (e, y, n) in
            ap (λ x. step_from x i) k ∙ ap (Token kind) (let z : i + (2 + run (in_classes byte.Underscore most) (drop (i + 2) s)) ≡ i + 2 + run (in_classes byte.Underscore most) (drop (i + 2) s) = omega arith in z);
        others = λ y.
            let f : in_classes byte.BinaryDigit most (get_or s (i + 2) 0) ≡ false = not-true (in_classes byte.BinaryDigit most (get_or s (i + 2) 0)) y in
            let k : lexeme (drop i s) ≡ token t.DecLiteral (run (run_of decimal_digits) (drop i s)) = l ∙ simp (e, f) in
            ap (λ x. step_from x i) k ∙ decimal-is;
      }
    where
      not-true : (t : Bool) → (t ≡ true → ⊥) → t ≡ false
      not-true true n = absurd (n refl)
      not-true false n = refl

  pub at-hex : get_or s i 0 ≡ 48 → get_or s (i + 1) 0 ≡ 120 → Based s i t.HexLiteral byte.HexLetter
  unfolding hexadecimal binary ascii ascii_from
  at-hex a x =
      let w = there s (i + 1) 119 x in
      let n : get_or s (i + 1) 0 ≡ 98 → ⊥ = (λ z. absurd (omega arith)) in
      based-is hex_digits t.HexLiteral byte.HexLetter hex-classes hex-run (omega arith) (omega arith) (digits-at ∙ simp (prefix 119, prefix 97, eq-eqb _ _ a, eq-eqb _ _ x, ne_eqb _ _ n))

  pub at-binary : get_or s i 0 ≡ 48 → get_or s (i + 1) 0 ≡ 98 → Based s i t.BinLiteral byte.BinaryDigit
  unfolding hexadecimal binary ascii ascii_from
  at-binary a x =
      let w = there s (i + 1) 97 x in
      let n : get_or s (i + 1) 0 ≡ 120 → ⊥ = (λ z. absurd (omega arith)) in
      based-is binary_digits t.BinLiteral byte.BinaryDigit binary-classes binary-run (omega arith) (omega arith) (digits-at ∙ simp (prefix 119, prefix 97, eq-eqb _ _ a, eq-eqb _ _ x, ne_eqb _ _ n))

-- ---- whitespace, and bytes over 127

only-space : (b : ℕ) (r : List ℕ) → among whitespace b ≡ true → lexeme (b ∷ r) ≡ trivia (run (among whitespace) (b ∷ r))
unfolding lexeme space
only-space b r h = simp h

-- no mark begins with a byte over 127
low_marks : List Mark → Bool
low_marks [] = true
low_marks (m ∷ ms) = leb 1 (first (ascii m.text)) && leb (first (ascii m.text)) 127 && low_marks ms

begins-not : (w : List ℕ) (b : ℕ) (r : List ℕ) → 1 ≤ first w → first w ≤ 127 → 127 < b → begins w (b ∷ r) ≡ false
unfolding begins
begins-not [] b r h l o = absurd (omega arith)
begins-not (x ∷ w) b r h l o = rw (ne_eqb b x (λ e. absurd (omega arith))) refl

over-marks : (ms : List Mark) → T (low_marks ms) → (b : ℕ) (r : List ℕ) → 127 < b → mark ms (b ∷ r) ≡ none
unfolding low_marks mark
over-marks [] t b r o = refl
over-marks (m ∷ ms) t b r o =
    let x = first (ascii m.text) in
    let f = first-of (leb 1 x && leb x 127) (low_marks ms) t in
    let n : begins (ascii m.text) (b ∷ r) ≡ false =
    begins-not (ascii m.text) b r (leb→le 1 x (first-of (leb 1 x) (leb x 127) f)) (leb→le x 127 (second-of (leb 1 x) (leb x 127) f)) o in
    rw n (over-marks ms (second-of (leb 1 x && leb x 127) (low_marks ms) t) b r o)

only-over : (b : ℕ) (r : List ℕ) → 127 < b → lexeme (b ∷ r) ≡ refused (refusal_number refusal.NotAscii) 0
unfolding lexeme space line_comment block_comment qualified macro hexadecimal binary decimal digits word begins ascii ascii_from no_lexeme whitespace decimal_digits name_starts underscore low_marks marks
only-over b r o =
    let w : among whitespace b ≡ false = over-among whitespace tt b o in
    let d : among decimal_digits b ≡ false = over-among decimal_digits tt b o in
    let n : among name_starts b ≡ false = over-among name_starts tt b o in
    let s : is "/" b ≡ false = ne_eqb b 47 (λ e. absurd (omega arith)) in
    let z : is "0" b ≡ false = ne_eqb b 48 (λ e. absurd (omega arith)) in
    simp (w, d, n, s, z, over-marks marks tt b r o, lt-ltb 127 b o)

module _ (s : List ℕ) (i c : ℕ) (h : i < length s) (q : c ≡ byte_class (get_or s i 0)) where
  pub at-space : byte.Space ≤ c → c ≤ byte.LineEnd → (e : ℕ) → e ≡ i + run (in_classes byte.Space byte.LineEnd) (drop i s) → Trivia e ≡ lexeme_at s i
  at-space a b e f =
      let x = get_or s i 0 in
      let w : among whitespace x ≡ true = sym (space-classes x) ∙ class-in byte.Space byte.LineEnd x c q a b in
      let l : lexeme (drop i s) ≡ trivia (run (among whitespace) (drop i s)) =
      ap lexeme (rest-cons s i x h refl) ∙ only-space x (drop (suc i) s) w ∙ sym (ap (λ r. trivia (run (among whitespace) r)) (rest-cons s i x h refl)) in
      ap Trivia (f ∙ ap (λ n. i + n) (run-same (in_classes byte.Space byte.LineEnd) (among whitespace) space-classes (drop i s))) ∙ sym (ap (λ t. step_from t i) l)

  -- a byte of the last class is over 127
  over : byte.LineEnd < c → 127 < get_or s i 0
  unfolding among plain_bytes
  over a = go (leb (get_or s i 0) 127) refl
    where
      go : (t : Bool) → leb (get_or s i 0) 127 ≡ t → 127 < get_or s i 0
      go false e = leb-false _ _ e
      go true e =
          let p : among plain_bytes (get_or s i 0) ≡ true = simp (le-leb 0 (get_or s i 0) (omega arith), e) in
          differ (sym (class-above byte.Underscore byte.LineEnd (get_or s i 0) c q a) ∙ plain-classes (get_or s i 0) ∙ p)

  pub at-over : byte.LineEnd < c → refused_step refusal.NotAscii i ≡ lexeme_at s i
  at-over a =
      ap (refused_step refusal.NotAscii) (let z : i ≡ i + 0 = omega arith in z)
      ∙ sym (ap (λ x. step_from x i) (ap lexeme (rest-cons s i (get_or s i 0) h refl) ∙ only-over (get_or s i 0) (drop (suc i) s) (over a)))
