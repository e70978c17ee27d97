-- A type item's name: its class leads to some alternative. The search finds that too; written out, another class is refused for its value.
-- Assumes nothing.
use Rattle.std.proofs.Common.{ℕ, not, eqb, ap}
use Rattle.parse.proofs.names.is_name.Goals as goal

pub returns-in-Alias : goal.returns-in-Alias
returns-in-Alias c = rw c.in-Alias.is (ap (λ (n : ℕ). not (eqb n 0)) c.aliases.ensures)
