-- The classes of bytes: the table's rule, and which classes each set of bytes has, each computed over all of them at once.
-- Assumes nothing.
use Rattle.std.specs.Bool.{beq}
use mathlib.Core.Bool.{Bool, true, false, ◌&&◌, ◌||◌, and-false, or-true}
use mathlib.Core.List.{List, [], ◌∷◌}
use mathlib.Core.Path.{◌≡◌, refl, sym, ◌∙◌, ap}
use Prim.Native.Nat.{ℕ, zero, suc, ◌+◌, ◌-◌, ◌≤◌, ◌<◌}
use native.Mathlib.Omega.{arith}
use borrow.Author.Tests.{le-leb, lt-leb, leb-true, leb-false, ne_eqb, eqb-true}
use lib.Dec.{T, eqb, leb}
use lib.ListN.{length, get_or, replicate, length-replicate}
use Rattle.text.specs.Ascii.{ascii, ascii_from}
use Rattle.text.specs.Same.{same}
use Rattle.text.proofs.Same.{differ}
use Rattle.text.specs.Table.{every, all}
use Rattle.text.proofs.Table.{at, table_at, each, beq_same}
use Rattle.lexer.specs.Chars.{among, whitespace, line_ends, plain_bytes, binary_digits, decimal_digits, hex_digits, underscore, name_starts, name_bytes, is}
use Rattle.lexer.specs.Lexemes.{marks}
use Rattle.lexer.proofs.Plain.{over-among}
use Rattle.lexer.specs.Bytes.{mark_class, byte_class, in_classes, ClassTable}
use Rattle.lexer.specs.Bytes as byte

-- ---- the table

-- a table whose entries pass the test, one after the other, gives each byte its class
pub table-rule : (l : List ℕ) → length l ≡ 256 → T (every (λ b c. eqb c (byte_class b)) 0 l) → ClassTable l
table-rule l e h = record { gives = table_at byte_class l 256 e h }

-- ---- sets of bytes by their classes: a test over the bytes up to 127, and no byte over 127 is in a set

-- one of the tests passes
abbrev pub any : List Bool → Bool
any [] = false
any (t ∷ ts) = t || any ts

pub each-fails : (ts : List Bool) → any ts ≡ false → (i : ℕ) → get_or ts i false ≡ false
each-fails [] e i = refl
each-fails (true ∷ ts) e i = differ (sym e)
each-fails (false ∷ ts) e zero = refl
each-fails (false ∷ ts) e (suc i) = each-fails ts e i

-- the tests that a byte fails which starts a name, is a digit, or is of the class of a mark
abbrev pub not_name : ℕ → List Bool
not_name b = among whitespace b ∷ is "/" b ∷ is "0" b ∷ among decimal_digits b ∷ []

abbrev pub not_digit : ℕ → List Bool
not_digit b = among whitespace b ∷ is "/" b ∷ among name_starts b ∷ []

abbrev pub not_mark : ℕ → List Bool
not_mark b = among whitespace b ∷ is "/" b ∷ is "0" b ∷ among decimal_digits b ∷ among name_starts b ∷ []

-- what is tested of each byte up to 127: each set is a range of classes, and a mark goes by its class
abbrev tests : ℕ → List Bool
tests b =
    beq (in_classes byte.Underscore byte.Letter b) (among name_bytes b) ∷
    beq (in_classes byte.Space byte.LineEnd b) (among whitespace b) ∷
    beq (in_classes byte.Underscore byte.LineEnd b) (among plain_bytes b) ∷
    beq (in_classes byte.BinaryDigit byte.Digit b) (among decimal_digits b) ∷
    beq (in_classes byte.Underscore byte.Digit b) (among decimal_digits b || among underscore b) ∷
    beq (in_classes byte.BinaryDigit byte.HexLetter b) (among hex_digits b) ∷
    beq (in_classes byte.Underscore byte.HexLetter b) (among hex_digits b || among underscore b) ∷
    beq (in_classes byte.BinaryDigit byte.BinaryDigit b) (among binary_digits b) ∷
    beq (in_classes byte.Underscore byte.BinaryDigit b) (among binary_digits b || among underscore b) ∷
    beq (in_classes byte.Slash byte.Slash b) (is "/" b) ∷
    beq (in_classes byte.Underscore byte.Underscore b || in_classes byte.HexLetter byte.Letter b) (among name_starts b) ∷
    beq (in_classes byte.BinaryDigit byte.BinaryDigit b && is "0" b) (is "0" b) ∷
    beq (among name_starts b && any (not_name b)) false ∷
    beq (among decimal_digits b && any (not_digit b)) false ∷
    beq (in_classes byte.Minus byte.Other b && any (not_mark b)) false ∷
    beq (in_classes (byte.Slash + 1) (byte.Minus - 1) b) false ∷ []

tests-pass : T (every {A = ℕ} (λ b x. all (tests b)) 0 (replicate 128 0))
unfolding in_classes byte_class mark_class marks same ascii ascii_from among whitespace line_ends plain_bytes binary_digits decimal_digits hex_digits underscore name_starts name_bytes
tests-pass = tt

test_at : (b : ℕ) → b ≤ 127 → (k : ℕ) → T (get_or (tests b) k true)
test_at b h = each (tests b) (at {A = ℕ} (λ b x. all (tests b)) (replicate 128 0) 0 tests-pass b (omega (arith, length-replicate {A = ℕ} 128 0)))

pub over-class : (b : ℕ) → 127 < b → byte_class b ≡ byte.NotAscii
unfolding byte_class among plain_bytes
over-class b h = simp (lt-leb b 127 h, and-false)

over-classes : (least most b : ℕ) → most ≤ byte.LineEnd → 127 < b → in_classes least most b ≡ false
unfolding in_classes
over-classes least most b h l = simp (over-class b l, lt-leb byte.NotAscii most (omega arith), and-false)

-- two tests that agree up to 127, and that no byte over 127 passes
by-half : (p q : ℕ → Bool) (b : ℕ) → (b ≤ 127 → p b ≡ q b) → (127 < b → p b ≡ false) → (127 < b → q b ≡ false) → p b ≡ q b
by-half p q b low over over' = go (leb b 127) refl
  where
    go : (t : Bool) → leb b 127 ≡ t → p b ≡ q b
    go true e = low (leb-true _ _ e)
    go false e = let h = leb-false _ _ e in over h ∙ sym (over' h)

-- each set by its classes
pub name-classes : (b : ℕ) → in_classes byte.Underscore byte.Letter b ≡ among name_bytes b
unfolding name_bytes name_starts decimal_digits underscore
name-classes b = by-half (in_classes byte.Underscore byte.Letter) (among name_bytes) b (λ h. beq_same _ _ (test_at b h 0)) (over-classes byte.Underscore byte.Letter b (omega arith)) (over-among name_bytes tt b)

pub space-classes : (b : ℕ) → in_classes byte.Space byte.LineEnd b ≡ among whitespace b
unfolding whitespace
space-classes b = by-half (in_classes byte.Space byte.LineEnd) (among whitespace) b (λ h. beq_same _ _ (test_at b h 1)) (over-classes byte.Space byte.LineEnd b (omega arith)) (over-among whitespace tt b)

pub plain-classes : (b : ℕ) → in_classes byte.Underscore byte.LineEnd b ≡ among plain_bytes b
unfolding plain_bytes
plain-classes b = by-half (in_classes byte.Underscore byte.LineEnd) (among plain_bytes) b (λ h. beq_same _ _ (test_at b h 2)) (over-classes byte.Underscore byte.LineEnd b (omega arith)) (over-among plain_bytes tt b)

pub decimal-classes : (b : ℕ) → in_classes byte.BinaryDigit byte.Digit b ≡ among decimal_digits b
unfolding decimal_digits
decimal-classes b = by-half (in_classes byte.BinaryDigit byte.Digit) (among decimal_digits) b (λ h. beq_same _ _ (test_at b h 3)) (over-classes byte.BinaryDigit byte.Digit b (omega arith)) (over-among decimal_digits tt b)

pub decimal-run : (b : ℕ) → in_classes byte.Underscore byte.Digit b ≡ (among decimal_digits b || among underscore b)
unfolding decimal_digits underscore
decimal-run b =
    by-half (in_classes byte.Underscore byte.Digit) (λ b. among decimal_digits b || among underscore b) b (λ h. beq_same _ _ (test_at b h 4)) (over-classes byte.Underscore byte.Digit b (omega arith))
    (λ h. rw (over-among decimal_digits tt b h) (over-among underscore tt b h))

-- a decimal digit is of a decimal run
pub starts_run : (b : ℕ) → among decimal_digits b ≡ true → in_classes byte.Underscore byte.Digit b ≡ true
starts_run b h = decimal-run b ∙ simp h

pub hex-classes : (b : ℕ) → in_classes byte.BinaryDigit byte.HexLetter b ≡ among hex_digits b
unfolding hex_digits
hex-classes b = by-half (in_classes byte.BinaryDigit byte.HexLetter) (among hex_digits) b (λ h. beq_same _ _ (test_at b h 5)) (over-classes byte.BinaryDigit byte.HexLetter b (omega arith)) (over-among hex_digits tt b)

pub hex-run : (b : ℕ) → in_classes byte.Underscore byte.HexLetter b ≡ (among hex_digits b || among underscore b)
unfolding hex_digits underscore
hex-run b =
    by-half (in_classes byte.Underscore byte.HexLetter) (λ b. among hex_digits b || among underscore b) b (λ h. beq_same _ _ (test_at b h 6)) (over-classes byte.Underscore byte.HexLetter b (omega arith))
    (λ h. rw (over-among hex_digits tt b h) (over-among underscore tt b h))

pub binary-classes : (b : ℕ) → in_classes byte.BinaryDigit byte.BinaryDigit b ≡ among binary_digits b
unfolding binary_digits
binary-classes b = by-half (in_classes byte.BinaryDigit byte.BinaryDigit) (among binary_digits) b (λ h. beq_same _ _ (test_at b h 7)) (over-classes byte.BinaryDigit byte.BinaryDigit b (omega arith)) (over-among binary_digits tt b)

pub binary-run : (b : ℕ) → in_classes byte.Underscore byte.BinaryDigit b ≡ (among binary_digits b || among underscore b)
unfolding binary_digits underscore
binary-run b =
    by-half (in_classes byte.Underscore byte.BinaryDigit) (λ b. among binary_digits b || among underscore b) b (λ h. beq_same _ _ (test_at b h 8)) (over-classes byte.Underscore byte.BinaryDigit b (omega arith))
    (λ h. rw (over-among binary_digits tt b h) (over-among underscore tt b h))

-- `/` and `0` by their classes, and what starts a name
pub slash-class : (b : ℕ) → in_classes byte.Slash byte.Slash b ≡ is "/" b
slash-class b = by-half (in_classes byte.Slash byte.Slash) (is "/") b (λ h. beq_same _ _ (test_at b h 9)) (over-classes byte.Slash byte.Slash b (omega arith)) (λ h. ne_eqb b 47 (λ e. absurd (omega arith)))

pub start-classes : (b : ℕ) → (in_classes byte.Underscore byte.Underscore b || in_classes byte.HexLetter byte.Letter b) ≡ among name_starts b
unfolding name_starts underscore
start-classes b =
    by-half (λ b. in_classes byte.Underscore byte.Underscore b || in_classes byte.HexLetter byte.Letter b) (among name_starts) b (λ h. beq_same _ _ (test_at b h 10))
    (λ h. rw (over-classes byte.Underscore byte.Underscore b (omega arith) h) (over-classes byte.HexLetter byte.Letter b (omega arith) h)) (over-among name_starts tt b)

-- ---- sets that have no byte in common

-- a test fails where a test beside it passes and both together do not
beside : (a b : Bool) → (a && b) ≡ false → a ≡ true → b ≡ false
beside true b e h = e
beside false b e h = differ h

pub name-apart : (b : ℕ) → among name_starts b ≡ true → any (not_name b) ≡ false
unfolding name_starts underscore
name-apart b h =
    beside _ _
    (by-half (λ b. among name_starts b && any (not_name b)) (λ b. false) b (λ l. beq_same _ _ (test_at b l 12))
    (λ l. rw (over-among name_starts tt b l) refl) (λ l. refl)) h

pub digit-apart : (b : ℕ) → among decimal_digits b ≡ true → any (not_digit b) ≡ false
unfolding decimal_digits
digit-apart b h =
    beside _ _
    (by-half (λ b. among decimal_digits b && any (not_digit b)) (λ b. false) b (λ l. beq_same _ _ (test_at b l 13))
    (λ l. rw (over-among decimal_digits tt b l) refl) (λ l. refl)) h

pub mark-apart : (b : ℕ) → in_classes byte.Minus byte.Other b ≡ true → any (not_mark b) ≡ false
mark-apart b h =
    beside _ _
    (by-half (λ b. in_classes byte.Minus byte.Other b && any (not_mark b)) (λ b. false) b
    (λ l. beq_same _ _ (test_at b l 14)) (λ l. rw (over-classes byte.Minus byte.Other b (omega arith) l) refl) (λ l. refl)) h

-- ---- a byte whose class is known

module _ (least most b c : ℕ) (e : c ≡ byte_class b) where
  pub class-in : least ≤ c → c ≤ most → in_classes least most b ≡ true
  unfolding in_classes
  class-in h l = simp (← e, le-leb _ _ h, le-leb _ _ l)

  pub class-not : (least ≤ c → c ≤ most → ⊥) → in_classes least most b ≡ false
  unfolding in_classes
  class-not n = ap (λ k. leb least k && leb k most) (sym e) ∙ go (leb least c) (leb c most) refl refl
    where
      go : (t u : Bool) → leb least c ≡ t → leb c most ≡ u → (leb least c && leb c most) ≡ false
      go false u f g = rw f refl
      go true false f g = rw (f, g) refl
      go true true f g = absurd (n (leb-true _ _ f) (leb-true _ _ g))

  pub class-above : most < c → in_classes least most b ≡ false
  class-above h = class-not (λ _ l. absurd (omega arith))

module _ (b c : ℕ) (e : c ≡ byte_class b) where
  -- what starts a name is `_` or a letter
  pub starts_name : c ≤ byte.Letter → (byte.BinaryDigit ≤ c → c ≤ byte.Digit → ⊥) → among name_starts b ≡ true
  starts_name l n = sym (start-classes b) ∙ go (leb byte.HexLetter c) refl
    where
      starts : Bool
      starts = in_classes byte.Underscore byte.Underscore b || in_classes byte.HexLetter byte.Letter b

      zero-class : c < byte.HexLetter → c ≤ byte.Underscore
      zero-class h = go (leb c byte.Underscore) refl
        where
          go : (t : Bool) → leb c byte.Underscore ≡ t → c ≤ byte.Underscore
          go true q = leb-true _ _ q
          go false q = let m = leb-false _ _ q in absurd (n (omega arith) (omega arith))

      go : (t : Bool) → leb byte.HexLetter c ≡ t → starts ≡ true
      go true q = simp (class-in byte.HexLetter byte.Letter b c e (leb-true _ _ q) l, or-true)
      go false q = simp (class-in byte.Underscore byte.Underscore b c e (omega arith) (zero-class (leb-false _ _ q)))

  pub starts_not : (c ≡ byte.Underscore → ⊥) → (byte.HexLetter ≤ c → c ≤ byte.Letter → ⊥) → among name_starts b ≡ false
  starts_not n m = sym (start-classes b) ∙ simp (class-above byte.Underscore byte.Underscore b c e (omega arith), class-not byte.HexLetter byte.Letter b c e m)

  pub digit-class : byte.BinaryDigit ≤ c → c ≤ byte.Digit → among decimal_digits b ≡ true
  digit-class h l = sym (decimal-classes b) ∙ class-in byte.BinaryDigit byte.Digit b c e h l

  pub slash-is : c ≡ byte.Slash → b ≡ 47
  slash-is z = eqb-true b 47 (sym (slash-class b) ∙ class-in byte.Slash byte.Slash b c e (omega arith) (omega arith))

  -- the classes between `/` and `-` are of no byte
  pub class-gap : byte.Slash < c → byte.Minus ≤ c
  class-gap l = go (leb byte.Minus c) refl
    where
      none : in_classes (byte.Slash + 1) (byte.Minus - 1) b ≡ false
      none = by-half (in_classes (byte.Slash + 1) (byte.Minus - 1)) (λ b. false) b (λ h. beq_same _ _ (test_at b h 15)) (over-classes (byte.Slash + 1) (byte.Minus - 1) b (omega arith)) (λ h. refl)

      go : (t : Bool) → leb byte.Minus c ≡ t → byte.Minus ≤ c
      go true q = leb-true _ _ q
      go false q = let m : c < byte.Minus = leb-false _ _ q in differ (sym none ∙ class-in (byte.Slash + 1) (byte.Minus - 1) b c e (omega arith) (omega arith))
