-- Behind the first byte of three or four, each byte is judged in turn.
-- Assumes nothing.
use Rattle.std.proofs.Common.{arith, rules}
use Rattle.utf8.proofs.Leads.{row_three, row_four}
use Rattle.utf8.proofs.wide_found.Goals.{then-contains, else-contains, then-contains-2, else-contains-2, then-tail, else-tail}
use Rattle.utf8.proofs.wide_found.Goals as goal

pub returns-after-contains : goal.returns-after-contains
returns-after-contains c =
    let e = row_three c.args.s.now c.args.i c.requires.0 (omega (arith, c.requires.1)) (omega (arith, c.requires.1)) in
    elim c.if-contains.branch [ then-contains w ↦ search (rules, e) | else-contains w ↦ search (rules, e) ]

pub returns-after-tail : goal.returns-after-tail
returns-after-tail c =
    let e = row_four c.args.s.now c.args.i c.requires.0 (omega (arith, c.requires.1)) (omega (arith, c.requires.1)) in
    elim c.if-contains-2.branch [
      | then-contains-2 v ↦ elim c.if-tail.branch [ then-tail w ↦ search (rules, e) | else-tail w ↦ search (rules, e) ]
      | else-contains-2 v ↦ elim c.if-tail.branch [ then-tail w ↦ search (rules, e) | else-tail w ↦ search (rules, e) ]
    ]
