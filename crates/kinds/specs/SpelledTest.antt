-- The rule of law 3 (c) as a test that antt computes.
-- Assumes nothing.
use Rattle.std.specs.Prelude.{Bool, ◌&&◌, List, ℕ}
use Rattle.text.specs.Lists.{some, has, count, span}
use Rattle.num.specs.Bound.{is_bound}
use Rattle.own.specs.Law.{Sort}
use Rattle.kinds.specs.Shape.{number, fits}
use Rattle.kinds.specs.Derive.{blank, dead, then, either, is_mark, is_part, after, spells}
use Rattle.kinds.specs.Fields.{counted, halves, holds}
use Rattle.kinds.specs.Rules.{Form, forms}
use Rattle.kinds.specs.Spelled.{forms_of}

-- Whether what a record is made of is of this form.
unfoldable pub written : ℕ → ℕ → List Sort → Form → Bool
written low high w f = holds f.fields low high w && spells f.shape w

-- Whether a record of this kind, low and high spells the rule; it opens all that it computes with.
unfoldable pub spelled : ℕ → ℕ → ℕ → List Sort → Bool
unfolding has count span number is_bound fits blank dead then either is_mark is_part after spells counted halves holds forms forms_of some written
spelled kind low high w = some (written low high w) (forms_of kind)
