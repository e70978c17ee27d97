-- The size is the last number but one of its line.
-- Assumes nothing.
use Rattle.std.proofs.Common.{◌+◌, ◌*◌, arith}
use Rattle.up.specs.Buffer.{size_place}
use Rattle.lines.specs.Lines.{with_way}
use Rattle.load.proofs.WaysLaws.{from-end, size-at}
use Rattle.load.proofs.ways.GivenRecords.size.Goals as goal

pub returns : goal.returns
returns g c =
    let ws = with_way g.row.N in
    let text = c.args.self.now.text.now in
    size-at ws text c.args.i c.requires (omega arith) (from-end ws text c.args.i c.requires size_place (2 * (g.row.N + 1)) (omega arith) c.bytes.ensures) c.place.ensures
