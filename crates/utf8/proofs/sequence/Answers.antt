-- What the number says of the text is said of whatever is answered.
-- Assumes nothing.
use Rattle.std.proofs.Common.{sym, ◌∙◌, arith}
use Rattle.utf8.proofs.Founds.{lawful, past, ascii}
use Rattle.utf8.proofs.sequence.Goals as goal

pub returns-in_err-b-clause-law : goal.returns-in_err-b-clause-law
returns-in_err-b-clause-law c = lawful _ (c.from_residual.ensures ∙ sym (past c.args.s.now c.args.i (omega (arith, c.in_err-b.ensures.lookup))))

pub returns-then-b-le-LAST_ASCII-clause-law : goal.returns-then-b-le-LAST_ASCII-clause-law
returns-then-b-le-LAST_ASCII-clause-law c =
    let e = c.in_ok-b.ensures.lookup in
    lawful _ (sym (ascii c.args.s.now c.args.i (omega (arith, e)) (omega (arith, e, c.if-b-le-LAST_ASCII.true))))

pub returns-clause-law : goal.returns-clause-law
returns-clause-law c = c.wide.ensures.law
