-- The numbers of the line by name are the record of the list.
-- Assumes nothing.
use Rattle.load.specs.Meant.{as_form}
use Rattle.load.proofs.RecordLaws.{record-named}
use Rattle.load.proofs.form.Listing.record.Goals as goal

pub returns : goal.returns
returns g c = record-named (as_form c.args.self.now.form) c.args.self.now.text.now c.args.i c.requires c.numbers.ensures
