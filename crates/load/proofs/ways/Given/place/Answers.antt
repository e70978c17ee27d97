-- The digits stand where the number is read.
-- Assumes nothing.
use Rattle.std.proofs.Common.{◌∙◌}
use Rattle.load.proofs.LineLaws.{number-part}
use Rattle.load.proofs.ways.Given.place.Goals as goal

pub returns : goal.returns
returns g c = c.value.ensures ∙ number-part c.args.at g.row.N c.args.self.now.text.now c.requires
