-- `agreed` meets its contract.
-- Assumes nothing.
use Rattle.std.proofs.Common.{rules}
use Rattle.load.proofs.BeginLaws.{agrees-by-row}
use Rattle.load.proofs.begin.agreed.Goals as goal

pub returns : goal.returns
returns c = agrees-by-row c.args.r.kind c.args.r.low c.args.r.high c.args.counts.names c.args.counts.parameters c.args.counts.patterns _ c.head_of.ensures c.is_none_or.ensures (λ h e. search rules)
