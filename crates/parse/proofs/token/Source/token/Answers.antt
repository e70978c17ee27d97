-- A token's class, start and end are read from its three words; where there is no row of it, it is found again.
-- Assumes nothing.
use Rattle.std.proofs.Common.{length, sym, arith, ltb-true}
use Rattle.parse.proofs.token.Tokens.{token-in, in-row}
use Rattle.parse.proofs.token.Source.token.Goals as goal

pub returns : goal.returns
returns c =
    let a = c.args in
    let h = ltb-true a.at (length a.self.now.rows.now) (sym c.in-Some.ensures.lookup.0) in
    token-in a.self.now a.at c.class-class.result (omega (arith, h, a.self.now.counted)) (in-row a.self.now a.at h c.in-Some.ensures.lookup.1) c.class-class.ensures.answer
