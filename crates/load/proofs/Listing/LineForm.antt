-- Each form of a line has what the code needs to know of it.
-- Assumes nothing.
use Rattle.std.specs.Prelude.{◌≡◌, refl, ℕ, length}
use Rattle.std.proofs.Common.{sym, ap, ◌∙◌, subst, arith}
use Rattle.own.proofs.Lists.{all_take}
use Rattle.lines.specs.Form.{wide}
use Rattle.lines.specs.Lines.{place_digits, long_digits, sized}
use Rattle.load.specs.Form.{Form, older, newer, longer, widths_of, digits_of}
use Rattle.load.specs.Listing.DigitLaws.{Short}
use Rattle.load.specs.Listing.LineForm.{six_fields, first_six, LineForm}
use Rattle.load.proofs.Listing.DigitLaws.{way-short}

-- The three forms of a listing have it,
pub its-form : (f : Form) → LineForm (widths_of f) (wide (widths_of f))
its-form older = record { short = all_take six_fields (way-short place_digits (omega arith)); full = omega arith; bytes = refl; some = omega arith }
its-form newer = record { short = way-short place_digits (omega arith); full = omega arith; bytes = refl; some = omega arith }
its-form longer = record { short = way-short long_digits (omega arith); full = omega arith; bytes = refl; some = omega arith }

pub held-form : (f : Form) {step : ℕ} → step ≡ wide (widths_of f) → LineForm (widths_of f) step
held-form f s = subst (LineForm (widths_of f)) (sym s) (its-form f)

-- and their first six fields are such, six of them.
pub first-short : (f : Form) → Short (first_six (widths_of f))
first-short f = all_take six_fields (its-form f).short

pub first-many : (f : Form) → length (first_six (widths_of f)) ≡ six_fields
first-many older = refl
first-many newer = refl
first-many longer = refl

-- They are told by the digits of a place, four or six.
pub six-by : (f : Form) {n : ℕ} → digits_of f ≡ n → first_six (widths_of f) ≡ sized n
six-by f {n} e = go f ∙ ap sized e
  where
    go : (f : Form) → first_six (widths_of f) ≡ sized (digits_of f)
    go older = refl
    go newer = refl
    go longer = refl

pub other-digits : (f : Form) {n : ℕ} → digits_of f ≡ n → (n ≡ long_digits → ⊥) → n ≡ place_digits
other-digits older e o = sym e
other-digits newer e o = sym e
other-digits longer e o = absurd (o (sym e))
