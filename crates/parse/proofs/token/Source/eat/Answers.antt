-- A token of the class is passed; any other is where the parser is stuck.
-- Assumes nothing.
use Rattle.parse.specs.Contract.{ate, lacked}
use Rattle.parse.proofs.token.Source.eat.Goals as goal

pub returns-then-st-class : goal.returns-then-st-class
returns-then-st-class c = lacked c.if-st-class.true

pub returns : goal.returns
returns c = ate c.if-st-class.false c.advance-next.ensures
