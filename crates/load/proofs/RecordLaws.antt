-- The first six numbers of a line, by name, are the record of the line.
-- Assumes nothing.
use Rattle.std.specs.Prelude.{List, ◌≡◌, refl, ℕ, ◌*◌, ◌<◌, length, get_or, drop}
use Rattle.std.proofs.Common.{sym, ap, ◌∙◌, arith}
use Rattle.own.specs.Tree.{Rec}
use Rattle.own.specs.Flat.{blank}
use Rattle.lines.specs.Form.{wide}
use Rattle.load.specs.Form.{Form, older, newer, longer, widths_of}
use Rattle.load.specs.Listing.LineForm.{first_six}
use Rattle.load.specs.Listing.Read.{values_of, records_in, rec_of}
use Rattle.load.proofs.Listing.RecordLaws.{records-long, record-at}

abbrev named : List ℕ → Rec
named l = record { kind = get_or l 0 0; start = get_or l 1 0; stop = get_or l 2 0; low = get_or l 3 0; high = get_or l 4 0; size = get_or l 5 0 }

its-six : (f : Form) (bs : List ℕ) → named (values_of (first_six (widths_of f)) bs) ≡ rec_of (values_of (widths_of f) bs)
unfolding values_of
its-six older bs = refl
its-six newer bs = refl
its-six longer bs = refl

pub record-named : (f : Form) (text : List ℕ) (i : ℕ) → i < length (records_in (widths_of f) text) → {l : List ℕ} → l ≡ values_of (first_six (widths_of f)) (drop (wide (widths_of f) * i) text)
    → named l ≡ get_or (records_in (widths_of f) text) i blank
record-named f text i h e =
    ap named e
    ∙ its-six f (drop (wide (widths_of f) * i) text)
    ∙ sym (record-at (widths_of f) text i (omega (arith, h, records-long (widths_of f) text)))
