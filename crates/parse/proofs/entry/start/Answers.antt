-- Assumes nothing.
use Rattle.parse.specs.Contract.{text}
use Rattle.parse.proofs.entry.Ends as ends
use Rattle.parse.proofs.entry.start.Goals as goal

pub returns : goal.returns
returns c = ends.starts-at (text c.args.source.now) c.token-t.ensures
