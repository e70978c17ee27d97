-- What the cases of the code's answer mean: "Where the answer is an enum, there is a definition that gives this paper's number and values for each of its cases."
-- Assumes nothing: these are definitions.
use Rattle.std.specs.Prelude.{ℕ, Result, Ok, Err}
use Rattle.text.specs.Answers.{Answer, accepted, refused, Values, values}
use Rattle.text.specs.Refusals as refusal
use Rattle.load.specs.Form as spec
use Rattle.load.specs.declared.form.Form.{Form}
use Rattle.load.specs.declared.form.Form.TheVariants.{Older, Newer, Longer}
use Rattle.load.specs.declared.NotLoaded.{NotLoaded}
use Rattle.load.specs.declared.NotLoaded.TheVariants.{BadLine, NotWhole, NoRoom}

-- The paper's refusal, at the bad line or at 0.
abbrev pub not_loaded : NotLoaded → Answer
not_loaded (BadLine l) = refused refusal.BadLine l
not_loaded NotWhole = refused refusal.NotWhole 0
not_loaded NoRoom = refused refusal.NoLoadRoom 0

-- The paper's answer: a listing has records, and no tokens; its place is the number of a line,
abbrev pub meant : Result ℕ NotLoaded → Answer
meant (Ok n) = accepted 0 n
meant (Err e) = not_loaded e

-- and its number, line and number of records.
abbrev pub returned : Result ℕ NotLoaded → Values
returned r = values (meant r)

-- The form of lines.
abbrev pub as_form : Form → spec.Form
as_form Older = spec.older
as_form Newer = spec.newer
as_form Longer = spec.longer
