-- A refusal where the records do not fit.
-- Assumes nothing.
use Rattle.std.proofs.Common.{◌≡◌, ◌*◌, true, false, ltb, refl, arith, lt-ltb, le-ltb}
use Rattle.text.specs.Widths.{rec_wide}
use Rattle.parse.specs.Contract.{count_of}
use Rattle.parse.specs.Entry.{ended}
use Rattle.parse.proofs.entry.end.Goals as goal

pub returns-then-room-records : goal.returns-then-room-records
unfolding ended
returns-then-room-records c =
    let n : ltb c.args.z.at (count_of c.args.source.now) ≡ false = le-ltb c.args.z.at (count_of c.args.source.now) (omega (arith, c.if-z-count.false, c.count.ensures)) in
    let k : ltb c.args.room (rec_wide * c.args.z.out) ≡ true = lt-ltb c.args.room (rec_wide * c.args.z.out) c.if-room-records.true in
    rw (n, c.in_default.is, k) refl
