-- Assumes nothing.
use Rattle.std.proofs.Common.{refl}
use Rattle.lines.proofs.Fields.{field}
use Rattle.lines.proofs.write.field.Goals as goal

pub returns-clause-bytes : goal.returns-clause-bytes
returns-clause-bytes g c = field _ c.args.v _ _ _ c.digits.ensures refl
