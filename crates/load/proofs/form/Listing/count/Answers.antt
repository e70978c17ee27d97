-- A listing has as many lines as their bytes go into it.
-- Assumes nothing.
use Rattle.std.proofs.Common.{ℕ, ◌/◌, length, sym, ap, ◌∙◌}
use Rattle.load.specs.Checks.Listed.{fields}
use Rattle.load.proofs.Listing.RecordLaws.{lines-long}
use Rattle.load.proofs.form.Listing.count.Goals as goal

pub returns : goal.returns
returns g c = ap (λ (k : ℕ). length c.args.self.now.text.now / k) c.bytes.ensures ∙ sym (lines-long (fields c.args.self.now) c.args.self.now.text.now)
