-- `answer` meets its contract.
-- Assumes nothing.
use Rattle.load.proofs.LoadLaws.{load-bad, load-needless, load-none, load-short, load-records}
use Rattle.load.proofs.answer.Goals as goal

pub returns-in-Some : goal.returns-in-Some
returns-in-Some g c = load-bad _ _ _ c.in-Some.ensures

pub returns-then-not-needed : goal.returns-then-not-needed
returns-then-not-needed g c = load-needless _ _ _ c.in_default.ensures c.needed.ensures c.if-not-needed.true

pub returns-then-not-is_right : goal.returns-then-not-is_right
returns-then-not-is_right g c = load-none _ _ _ c.in_default.ensures c.needed.ensures c.if-not-needed.false c.is_right.ensures c.if-not-is_right.true

pub returns-then-n-room : goal.returns-then-n-room
returns-then-n-room g c = load-short _ _ _ c.in_default.ensures c.needed.ensures c.if-not-needed.false c.is_right.ensures c.if-not-is_right.false c.count-n.ensures c.if-n-room.true

pub returns : goal.returns
returns g c = load-records _ _ _ c.in_default.ensures c.needed.ensures c.if-not-needed.false c.is_right.ensures c.if-not-is_right.false c.count-n.ensures c.if-n-room.false
