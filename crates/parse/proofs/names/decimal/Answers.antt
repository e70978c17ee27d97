-- A decimal is a record of its own that holds its number, or the token is another.
-- Assumes nothing.
use Rattle.parse.specs.Contract.{text}
use Rattle.parse.proofs.names.Steps.{refuses-tok, child-decimal}
use Rattle.parse.proofs.names.decimal.Goals as goal

pub returns-then-st-ne-DEC_LITERAL : goal.returns-then-st-ne-DEC_LITERAL
returns-then-st-ne-DEC_LITERAL c = refuses-tok c.requires c.if-st-ne-DEC_LITERAL.true

pub returns : goal.returns
unfolding text
returns c = child-decimal c.requires c.if-st-ne-DEC_LITERAL.false c.advance-a.ensures c.decimal-b.ensures.put_number c.decimal-b.ensures.value c.number.ensures
