-- Which tokens have a base before their digits: what the library's look at a prefix says of the definition.
-- Assumes nothing.
use lib.Pointwise.{pointwise}
use Rattle.std.specs.Prelude.{true, false, Option, None, Some, MatchOption, ◌≡◌, refl, ℕ, ◌+◌, ◌-◌, List, [], ◌∷◌, eqb, length, take, drop, unwrap_or}
use Rattle.std.proofs.Common.{arith, length-drop, take_all}
use Rattle.std.specs.Borrow.{Bor}
use Rattle.std.specs.Option.{option_or}
use Rattle.text.specs.Ascii.{ascii, ascii_from}
use Rattle.text.specs.Same.{same}
use Rattle.num.specs.Digits.{based, after_base}

-- The part of a token from 2 to its end is what is left behind its first two bytes.
pub rest : (p : List ℕ) → take (length p - 2) (drop 2 p) ≡ drop 2 p
rest p = take_all (length p - 2) (drop 2 p) (omega (arith, length-drop 2 p))

alike : (xs ys : List ℕ) → pointwise eqb xs ys ≡ same xs ys
unfolding same
alike [] [] = refl
alike [] (y ∷ ys) = refl
alike (x ∷ xs) [] = refl
alike (x ∷ xs) (y ∷ ys) = rw (alike xs ys) refl

-- the token without the prefix q of two bytes, if it has it
abbrev Stripped : List ℕ → List ℕ → Option (Bor (List ℕ)) → Type 0
Stripped p q r =
    MatchOption r (pointwise eqb (take 2 p) q ≡ false)
    (λ x. (pointwise eqb (take 2 p) q ≡ true) × (x.now ≡ drop 2 p) × (length x.now + 2 ≡ length p))

pub stripped : (t : Bor (List ℕ)) (r s : Option (Bor (List ℕ))) → Stripped t.now (ascii "0x") r → Stripped t.now (ascii "0b") s
    → (unwrap_or (option_or r s) t).now ≡ after_base t.now
unfolding after_base based ascii ascii_from
stripped t (Some x) s h k = rw (← alike (take 2 t.now) (ascii "0x"), h.0) h.1
stripped t None (Some y) h k = rw (← alike (take 2 t.now) (ascii "0x"), h, ← alike (take 2 t.now) (ascii "0b"), k.0) k.1
stripped t None None h k = rw (← alike (take 2 t.now) (ascii "0x"), h, ← alike (take 2 t.now) (ascii "0b"), k) refl
