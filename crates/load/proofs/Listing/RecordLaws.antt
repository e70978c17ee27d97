-- The numbers and the records of lines: how many, and each from its line.
-- Assumes nothing.
use Rattle.std.specs.Prelude.{List, [], ◌∷◌, ◌++◌, ◌↔◌, ◌≡◌, refl, ℕ, zero, suc, ◌+◌, ◌*◌, ◌/◌, ◌<◌, ◌≤◌, T, length, get_or, take, drop}
use Rattle.std.proofs.Common.{sym, ap, ◌∙◌, subst, arith, mul-zero, mul-suc, length-take-le, drop-drop}
use Rattle.std.proofs.Math.ListN.{get_or-map}
use Rattle.std.proofs.lemmas.List.{length-map}
use Rattle.own.specs.Flat.{blank}
use Rattle.lines.specs.Form.{wide}
use Rattle.load.specs.Listing.InForm.{Begins}
use Rattle.load.specs.Listing.Read.{in_form, values_of, rows_from, lines_read, rec_of, records_in}
use Rattle.load.specs.Listing.LineForm.{six_fields, first_six}
use Rattle.load.proofs.Listing.LineLaws.{line-then, values-fit, values-long, values-front, line-in}
use Rattle.load.specs.Checks.Listed.{its_lines, its_records}
use Rattle.load.specs.declared.form.Listing.{Listing}

rows-long : (ws : List ℕ) (n : ℕ) (bs : List ℕ) → length (rows_from ws n bs) ≡ n
unfolding rows_from
rows-long ws zero bs = refl
rows-long ws (suc n) bs = ap suc (rows-long ws n (drop (wide ws) bs))

row-at : (ws : List ℕ) (n j : ℕ) (bs : List ℕ) → j < n → get_or (rows_from ws n bs) j [] ≡ values_of ws (drop (wide ws * j) bs)
unfolding rows_from
row-at ws zero j bs h = absurd (omega arith)
row-at ws (suc n) zero bs h = ap (λ (k : ℕ). values_of ws (drop k bs)) (sym (mul-zero (wide ws)))
row-at ws (suc n) (suc j) bs h =
    let e : wide ws + wide ws * j ≡ wide ws * suc j = omega (arith, mul-suc (wide ws) j) in
    row-at ws n j (drop (wide ws) bs) (omega arith)
    ∙ ap (values_of ws) (drop-drop (wide ws * j) (wide ws) bs ∙ ap (λ (k : ℕ). drop k bs) e)

-- As many as whole lines,
pub lines-long : (ws text : List ℕ) → length (lines_read ws text) ≡ length text / wide ws
unfolding lines_read
lines-long ws text = rows-long ws (length text / wide ws) text

pub records-long : (ws text : List ℕ) → length (records_in ws text) ≡ length text / wide ws
records-long ws text = length-map (lines_read ws text) rec_of ∙ lines-long ws text

pub records-many : {n : ℕ} (l : Listing n) → length (its_records l) ≡ length (its_lines l)
records-many l = length-map (its_lines l) rec_of

-- so the number of lines is that of the records too,
pub records-counted : {n : ℕ} (l : Listing n) {m : ℕ} → m ≡ length (its_lines l) → m ≡ length (its_records l)
records-counted l e = e ∙ sym (records-many l)

-- each of its line.
pub line-at : (ws text : List ℕ) (j : ℕ) → j < length text / wide ws → get_or (lines_read ws text) j [] ≡ values_of ws (drop (wide ws * j) text)
unfolding lines_read
line-at ws text j h = row-at ws (length text / wide ws) j text h

pub record-at : (ws text : List ℕ) (j : ℕ) → j < length text / wide ws → get_or (records_in ws text) j blank ≡ rec_of (values_of ws (drop (wide ws * j) text))
record-at ws text j h = get_or-map rec_of (lines_read ws text) j [] ∙ ap rec_of (line-at ws text j h)

-- It is told by the first six numbers, whatever follows.
record-front : (vs rest : List ℕ) → six_fields ≤ length vs → rec_of (take six_fields vs ++ rest) ≡ rec_of vs
record-front [] rest h = absurd (omega arith)
record-front (a ∷ []) rest h = absurd (omega arith)
record-front (a ∷ b ∷ []) rest h = absurd (omega arith)
record-front (a ∷ b ∷ c ∷ []) rest h = absurd (omega arith)
record-front (a ∷ b ∷ c ∷ d ∷ []) rest h = absurd (omega arith)
record-front (a ∷ b ∷ c ∷ d ∷ e ∷ []) rest h = absurd (omega arith)
record-front (a ∷ b ∷ c ∷ d ∷ e ∷ f ∷ vs) rest h = refl

pub record-by-six : (ws bs rest : List ℕ) → six_fields ≤ length ws → rec_of (values_of (first_six ws) bs ++ rest) ≡ rec_of (values_of ws bs)
record-by-six ws bs rest h =
    ap (λ (l : List ℕ). rec_of (l ++ rest)) (values-front six_fields ws bs) ∙ record-front (values_of ws bs) rest (omega (arith, h, values-long ws bs))

pub six-long : (ws bs : List ℕ) → six_fields ≤ length ws → length (values_of (first_six ws) bs) ≡ six_fields
six-long ws bs h = values-long (first_six ws) bs ∙ length-take-le six_fields ws h

-- Bytes are in form exactly where they begin with a line of the form.
pub begins-exactly : (ws bs : List ℕ) → T (in_form ws bs) ↔ Begins ws bs
begins-exactly ws bs = (
  λ t. record { its = values_of ws bs; rest = drop (wide ws) bs; fit = values-fit ws bs; they_are = line-then ws bs t },
  λ b. subst (λ (l : List ℕ). T (in_form ws l)) (sym b.they_are) (line-in ws b.its b.rest),
)
