-- Digits read back: a byte that is a digit is that of its value, and digits are those of the number that they are.
-- Assumes nothing.
use Rattle.std.specs.Prelude.{Bool, true, false, ◌&&◌, cond, List, [], ◌∷◌, ◌++◌, ◌≡◌, refl, ℕ, zero, suc, ◌+◌, ◌*◌, ◌/◌, ◌%◌, ◌<◌, ◌≤◌, T, eqb, ltb, length, get_or, take}
use Rattle.std.proofs.Common.{sym, ap, ap₂, ◌∙◌, subst, arith, eqb-true, eqb→eq, ltb→lt, lt→ltb, take-suc}
use Rattle.std.proofs.Math.ListN.{get_or-append}
use Rattle.std.proofs.Math.Decide.{dec_lt}
use Rattle.std.proofs.lemmas.List.{get_or_at}
use Rattle.text.specs.Ascii.{ascii, ascii_from}
use Rattle.text.specs.Table.{every}
use Rattle.text.proofs.Table.{first-of, second-of, pair, at, table_at}
use Rattle.own.specs.Lists.{nil, ◌&◌}
use Rattle.lines.specs.Hex.{upper_hex, hex, power}
use Rattle.lines.proofs.Hex.{hex-length}
use Rattle.lines.specs.Form.{after}
use Rattle.lines.specs.Lines.{half_digits, with_way}
use Rattle.load.specs.declared.digits.TheConstants.{DIGITS}
use Rattle.load.specs.Listing.Read.{place_in, digit_of, are_digits, number_of}
use Rattle.load.specs.Listing.DigitLaws.{DigitTable, Short}

-- The table gives each byte its value as a digit.
digits-long : length DIGITS ≡ 256
digits-long = refl

digits-right : T (every (λ b v. eqb v (digit_of b)) 0 DIGITS)
unfolding digit_of place_in upper_hex ascii ascii_from
digits-right = tt

pub table-rule : (t : List ℕ) → length t ≡ 256 → T (every (λ b v. eqb v (digit_of b)) 0 t) → DigitTable t
table-rule t e h = record { gives = table_at digit_of t 256 e h }

pub digit-found : (b : ℕ) → b < 256 → get_or DIGITS b 0 ≡ digit_of b
digit-found = (table-rule DIGITS digits-long digits-right).gives

-- Widths are such that a word holds their numbers, where those of places are.
pub way-short : (n : ℕ) → n ≤ half_digits → Short (with_way n)
way-short n h = omega arith & (h & (h & (omega arith & (omega arith & (h & (h & nil))))))

-- A byte is found where it stands, if each of the list is: that is computed, and says that none stands there twice.
place-back : (l : List ℕ) → T (every (λ v b. eqb (place_in l b) v) 0 l) → (v : ℕ) → v < length l → place_in l (get_or l v 0) ≡ v
place-back l t v h = eqb→eq (place_in l (get_or l v 0)) v (at (λ v b. eqb (place_in l b) v) l 0 t v h)

-- At the place where it is found it stands.
place-again : (l : List ℕ) (b : ℕ) → place_in l b < length l → get_or l (place_in l b) 0 ≡ b
unfolding place_in
place-again [] b h = absurd (omega arith)
place-again (a ∷ l) b h = go (eqb a b) refl h (place-again l b)
  where
    go : (t : Bool) → eqb a b ≡ t → cond t 0 (suc (place_in l b)) < length (a ∷ l) → (place_in l b < length l → get_or l (place_in l b) 0 ≡ b)
        → get_or (a ∷ l) (cond t 0 (suc (place_in l b))) 0 ≡ b
    go true e k r = eqb-true a b e
    go false e k r = r (omega arith)

place-within : (l : List ℕ) (b : ℕ) → place_in l b ≤ length l
unfolding place_in
place-within [] b = omega arith
place-within (a ∷ l) b = go (eqb a b) (place-within l b)
  where
    go : (t : Bool) → place_in l b ≤ length l → cond t 0 (suc (place_in l b)) ≤ length (a ∷ l)
    go true h = omega arith
    go false h = omega arith

sixteen : length upper_hex ≡ 16
unfolding upper_hex ascii ascii_from
sixteen = refl

none-twice : T (every (λ v b. eqb (place_in upper_hex b) v) 0 upper_hex)
unfolding upper_hex ascii ascii_from place_in
none-twice = tt

pub digit-within : (b : ℕ) → digit_of b ≤ 16
unfolding digit_of
digit-within b = omega (arith, place-within upper_hex b, sixteen)

-- The digit of a value is read as it,
pub digit-back : (v : ℕ) → v < 16 → digit_of (get_or upper_hex v 0) ≡ v
unfolding digit_of
digit-back v h = place-back upper_hex none-twice v (omega (arith, sixteen))

-- and a byte that is a digit is written as its value's.
pub digit-again : (b : ℕ) → digit_of b < 16 → get_or upper_hex (digit_of b) 0 ≡ b
unfolding digit_of
digit-again b h = place-again upper_hex b (omega (arith, sixteen))

-- Each of some digits is one,
pub digit-at : (m n : ℕ) (bs : List ℕ) → n < m → T (are_digits m bs) → digit_of (get_or bs n 0) < 16
unfolding are_digits
digit-at zero n bs h t = absurd (omega arith)
digit-at (suc m) n bs h t =
    let a = are_digits m bs in
    let b = ltb (digit_of (get_or bs m 0)) 16 in
    go (dec_lt n m) (λ l. digit-at m n bs l (first-of a b t)) (ltb→lt (digit_of (get_or bs m 0)) 16 (second-of a b t))
  where
    go : Dec (n < m) → (n < m → digit_of (get_or bs n 0) < 16) → digit_of (get_or bs m 0) < 16 → digit_of (get_or bs n 0) < 16
    go (yes l) r d = r l
    go (no l) r d = let e : m ≡ n = omega arith in subst (λ (k : ℕ). digit_of (get_or bs k 0) < 16) e d

-- and the byte after a field is none.
pub no-digit : (k : ℕ) → digit_of (after k) ≡ 16
unfolding digit_of place_in upper_hex ascii ascii_from
no-digit zero = refl
no-digit (suc k) = refl

-- Digits are those of the number that they are,
pub digits_are : (n : ℕ) (bs : List ℕ) → n ≤ length bs → T (are_digits n bs) → take n bs ≡ hex n (number_of n bs)
unfolding are_digits number_of hex
digits_are zero bs h t = refl
digits_are (suc n) bs h t =
    let a = are_digits n bs in
    let b = get_or bs n 0 in
    let d = ltb→lt (digit_of b) 16 (second-of a (ltb (digit_of b) 16) t) in
    let v = number_of n bs in
    let high : v ≡ (16 * v + digit_of b % 16) / 16 = omega arith in
    let low : digit_of b ≡ (16 * v + digit_of b % 16) % 16 = omega arith in
    take-suc bs n 0 (omega arith)
    ∙ ap₂ (λ (x : List ℕ) (y : ℕ). x ++ (y ∷ [])) (digits_are n bs (omega arith) (first-of a (ltb (digit_of b) 16) t)) (sym (digit-again b d))
    ∙ λ i. hex n (high i) ++ (get_or upper_hex (low i) 0 ∷ [])

-- which so many digits hold.
pub number-below : (n : ℕ) (bs : List ℕ) → number_of n bs < power n
unfolding number_of
number-below zero bs = omega arith
number-below (suc n) bs = let h = number-below n bs in omega arith

-- What is read depends on the first bytes only.
number-front : (n : ℕ) (a b : List ℕ) → n ≤ length a → number_of n (a ++ b) ≡ number_of n a
unfolding number_of
number-front zero a b h = refl
number-front (suc n) a b h =
    ap₂ (λ (x y : ℕ). 16 * x + digit_of y % 16) (number-front n a b (omega arith)) (get_or-append a b 0 n (omega arith))

digits-front : (n : ℕ) (a b : List ℕ) → n ≤ length a → are_digits n (a ++ b) ≡ are_digits n a
unfolding are_digits
digits-front zero a b h = refl
digits-front (suc n) a b h =
    ap₂ (λ (x : Bool) (y : ℕ). x && ltb (digit_of y) 16) (digits-front n a b (omega arith)) (get_or-append a b 0 n (omega arith))

-- The last digit of a number, among the bytes.
last-digit : (n v : ℕ) → digit_of (get_or (hex (suc n) v) n 0) ≡ v % 16
unfolding hex
last-digit n v = ap digit_of (get_or_at (hex n (v / 16)) (get_or upper_hex (v % 16) 0) [] 0 n (hex-length n (v / 16))) ∙ digit-back (v % 16) (omega arith)

digits-alone : (n v : ℕ) → T (are_digits n (hex n v))
unfolding hex are_digits
digits-alone zero v = tt
digits-alone (suc n) v =
    let h = hex n (v / 16) in
    let e = last-digit n v in
    pair (are_digits n (hex (suc n) v)) (ltb (digit_of (get_or (hex (suc n) v) n 0)) 16)
    (subst T (sym (digits-front n h (get_or upper_hex (v % 16) 0 ∷ []) (omega (arith, hex-length n (v / 16))))) (digits-alone n (v / 16)))
    (lt→ltb (digit_of (get_or (hex (suc n) v) n 0)) 16 (omega arith))

number-alone : (n v : ℕ) → v < power n → number_of n (hex n v) ≡ v
unfolding hex number_of
number-alone zero v h = omega arith
number-alone (suc n) v h =
    let e = last-digit n v in
    let p = number-front n (hex n (v / 16)) (get_or upper_hex (v % 16) 0 ∷ []) (omega (arith, hex-length n (v / 16))) in
    let q = number-alone n (v / 16) (omega arith) in
    omega arith

-- The digits of a number are digits, whatever follows,
pub hex-digits : (n v : ℕ) (rest : List ℕ) → T (are_digits n (hex n v ++ rest))
hex-digits n v rest = subst T (sym (digits-front n (hex n v) rest (omega (arith, hex-length n v)))) (digits-alone n v)

-- and the number is read from them, if they hold it.
pub hex-back : (n v : ℕ) (rest : List ℕ) → v < power n → number_of n (hex n v ++ rest) ≡ v
hex-back n v rest h = number-front n (hex n v) rest (omega (arith, hex-length n v)) ∙ number-alone n v h
