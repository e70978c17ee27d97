-- Assumes nothing.
use Rattle.std.proofs.Common.{◌<◌, ◌≤◌, subst, ◌∙◌}
use Rattle.parse.proofs.entry.Laws as law
use Rattle.parse.proofs.entry.place.Goals as goal

pub returns-then-at-count : goal.returns-then-at-count
returns-then-at-count c = c.token-t.ensures.start_is ∙ law.starts_in c.args.source.now c.args.at (subst (λ n. c.args.at < n) c.count.ensures c.if-at-count.true)

pub returns : goal.returns
returns c = law.starts_out c.args.source.now c.args.at (subst (λ n. n ≤ c.args.at) c.count.ensures c.if-at-count.false)
