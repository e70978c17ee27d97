-- Only a plain name is looked at, and compared with `_`.
-- Assumes nothing.
use Rattle.std.proofs.Common.{◌∙◌, sym}
use Rattle.std.specs.Cmp.Lexicographic.{same_text, other_text}
use Rattle.parse.proofs.names.Tests.{is-underscore, is-other, no-plain-name}
use Rattle.parse.proofs.names.pattern_name.Goals as goal

pub returns-then-st-ne-IDENT : goal.returns-then-st-ne-IDENT
returns-then-st-ne-IDENT c = no-plain-name _ _ c.if-st-ne-IDENT.true

pub returns-then-eq : goal.returns-then-eq
returns-then-eq c = is-underscore _ _ _ c.part.ensures c.if-st-ne-IDENT.false (same_text _ _ (sym c.if-eq.true ∙ c.eq.ensures) ∙ c.as_slice.ensures)

pub returns : goal.returns
returns c = is-other _ _ _ c.part.ensures c.if-st-ne-IDENT.false (λ e. other_text _ _ (sym c.if-eq.false ∙ c.eq.ensures) (e ∙ sym c.as_slice.ensures))
