-- Runs with `_`, leading zeros and at the largest 64-bit number; digit texts; bounds, sizes and lengths.
-- Assumes nothing.
use Rattle.std.specs.Prelude.{None, Some, true, false, ◌≡◌, refl}
use Rattle.text.specs.Ascii.{ascii, ascii_from}
use Rattle.text.specs.Same.{same}
use Rattle.text.specs.Lists.{some, count, span}
use Rattle.num.specs.Digits.{plain, based, after_base, digits_of}
use Rattle.num.specs.Value.{decimal_from, decimal_of, fitted, number_of}
use Rattle.num.specs.Bound.{is_bound, bound_ok, size_ok, length_ok}

pub numbers :
    (number_of (ascii "001_000_") ≡ Some 1000)
    × (number_of (ascii "18446744073709551615") ≡ Some 18446744073709551615)
    × (number_of (ascii "18446744073709551616") ≡ None)
unfolding number_of fitted decimal_of decimal_from plain ascii ascii_from
numbers = (refl, refl, refl)

pub texts :
    (digits_of (ascii "1_000_") ≡ ascii "1000")
    × (digits_of (ascii "0xAB_cd") ≡ ascii "ABcd")
    × (digits_of (ascii "0b1__0") ≡ ascii "10")
unfolding digits_of after_base plain based same ascii ascii_from
texts = (refl, refl, refl)

pub bounds :
    (bound_ok (Some 1) ≡ false)
    × (bound_ok (Some 2) ≡ true)
    × (bound_ok (Some 3) ≡ false)
    × (bound_ok (Some 9223372036854775808) ≡ true)
    × (bound_ok None ≡ false)
unfolding bound_ok is_bound some count span
bounds = (refl, refl, refl, refl, refl)

pub sizes : (size_ok (Some 0) ≡ false) × (size_ok (Some 1) ≡ true) × (size_ok None ≡ false)
unfolding size_ok
sizes = (refl, refl, refl)

pub lengths : (length_ok (Some 0) ≡ true) × (length_ok (Some 18446744073709551615) ≡ true) × (length_ok None ≡ false)
unfolding length_ok
lengths = (refl, refl, refl)
