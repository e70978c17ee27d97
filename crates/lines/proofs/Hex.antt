-- The digits of a number: how many, and of which parts of it.
-- Assumes nothing.
use Rattle.std.specs.Prelude.{List, [], ◌∷◌, ◌++◌, ◌≡◌, refl, ℕ, zero, suc, ◌+◌, ◌*◌, ◌/◌, ◌%◌, length, get_or}
use Rattle.std.proofs.Common.{sym, ap, ◌∙◌, arith, mul_assoc, length-append}
use Rattle.std.proofs.Math.Nat.{div-add-mod}
use Rattle.lines.specs.Hex.{upper_hex, hex, power}

-- So many digits are so many bytes.
pub hex-length : (n v : ℕ) → length (hex n v) ≡ n
unfolding hex
hex-length zero v = refl
hex-length (suc n) v = let h = hex-length n (v / 16) in omega (arith, length-append (hex n (v / 16)) (get_or upper_hex (v % 16) 0 ∷ []))

-- What stands above the digits that are shown does not count:
above : (n q r : ℕ) → hex n (power n * q + r) ≡ hex n r
unfolding hex
above zero q r = refl
above (suc n) q r =
    let a = mul_assoc 16 (power n) q in
    let d : (16 * power n * q + r) / 16 ≡ power n * q + r / 16 = omega (arith, a) in
    let m : (16 * power n * q + r) % 16 ≡ r % 16 = omega (arith, a) in
    (λ i. hex n (d i) ++ (get_or upper_hex (m i) 0 ∷ [])) ∙ ap (λ (l : List ℕ). l ++ (get_or upper_hex (r % 16) 0 ∷ [])) (above n q (r / 16))

-- a number is shown as what it is beyond a multiple of that many.
pub last_digits : (n v : ℕ) → hex n (v % power n) ≡ hex n v
last_digits n v = sym (above n (v / power n) (v % power n)) ∙ ap (hex n) (div-add-mod v (power n))

-- Two digits more tell apart 256 times as many.
pub power-more : (n : ℕ) → power n * power 2 ≡ power (suc (suc n))
power-more n = omega arith
