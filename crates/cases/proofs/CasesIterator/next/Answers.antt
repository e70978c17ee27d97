-- A case stands at the front of the stream, and what is left is behind it.
-- Assumes nothing.
use Rattle.std.proofs.Common.{refl}
use Rattle.cases.proofs.CasesIterator.next.Goals as goal

pub returns-clause-steps : goal.returns-clause-steps
returns-clause-steps g c = (refl, (c.in-Some.ensures.case, c.in-Some.ensures.within))

-- After a wrong case nothing is left.
pub returns-in_default-clause-steps : goal.returns-in_default-clause-steps
returns-in_default-clause-steps g c = (refl, refl)
