-- The lines of a listing of the code, held against its form, and their records.
-- Assumes nothing: these are definitions.
use Rattle.std.specs.Prelude.{List, ℕ}
use Rattle.own.specs.Tree.{Rec}
use Rattle.load.specs.Form.{widths_of}
use Rattle.load.specs.Meant.{as_form}
use Rattle.load.specs.Listing.Read.{lines_read, records_in}
use Rattle.load.specs.declared.form.Listing.{Listing}

abbrev pub fields : {n : ℕ} → Listing n → List ℕ
fields l = widths_of (as_form l.form)

abbrev pub its_lines : {n : ℕ} → Listing n → List (List ℕ)
its_lines l = lines_read (fields l) l.text.now

abbrev pub its_records : {n : ℕ} → Listing n → List Rec
its_records l = records_in (fields l) l.text.now
