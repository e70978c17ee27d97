-- Assumes nothing.
use Rattle.std.proofs.Common.{arith}
use Rattle.lines.specs.Lines.{with_way}
use Rattle.lines.proofs.Listing.{no_room, in-room}
use Rattle.lines.proofs.list_as.Goals as goal

pub returns-then-records-out : goal.returns-then-records-out
returns-then-records-out g c =
    let e = no_room (with_way g.row.N) c.args.out.now c.args.records.now (omega arith) c.requires.wide c.if-records-out.true (c.fill.ensures.after (λ y e. e)) in
    record { used = e.0; bytes = e.1 }

pub returns : goal.returns
returns g c =
    let e = in-room (with_way g.row.N) c.args.out.now c.args.records.now (omega arith) c.requires.wide c.if-records-out.false c.lines-end.ensures.end c.lines-end.ensures.bytes
    c.lines-end.auto.out (c.fill-2.ensures.after (λ y e. e)) in
    record { used = e.0; bytes = e.1 }
