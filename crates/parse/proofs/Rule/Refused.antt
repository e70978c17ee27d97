-- A step that is refused has the tag of its variant.
-- Assumes nothing.
use Rattle.std.proofs.Common.{◌≡◌, ℕ, [], ◌∷◌, ap}
use types.Run.{OneOf}
use denote.Enum.Declared.{tag_of}
use Rattle.parse.specs.contracts.Step.{the_type}
use Rattle.parse.specs.declared.Step.{Step}
use Rattle.parse.specs.declared.Step.TheVariants.{Refused}

pub refusal : {r : Step} {p : ℕ} → r ≡ Refused p → OneOf (1 ∷ []) (tag_of the_type r)
refusal e = ap (tag_of the_type) e
