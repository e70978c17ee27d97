-- The way up is the last number of its line.
-- Assumes nothing.
use Rattle.std.proofs.Common.{◌+◌, arith}
use Rattle.up.specs.Buffer.{up_place}
use Rattle.lines.specs.Lines.{with_way}
use Rattle.load.proofs.WaysLaws.{from-end, up-at}
use Rattle.load.proofs.ways.GivenRecords.way.Goals as goal

pub returns : goal.returns
returns g c =
    let ws = with_way g.row.N in
    let text = c.args.self.now.text.now in
    up-at ws text c.args.i c.requires (omega arith) (from-end ws text c.args.i c.requires up_place (g.row.N + 1) (omega arith) c.bytes.ensures) c.place.ensures
