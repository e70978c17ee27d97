-- A number and its value: the number itself where 64 bits hold it, and otherwise that it is too large.
-- Assumes nothing.
use Rattle.std.specs.Prelude.{None, Some, Bool, true, false, cond, ◌≡◌, refl, ℕ, ◌≤◌, ◌<◌, leb}
use Rattle.std.proofs.Common.{leb-true, leb-false}
use Rattle.num.specs.Value.{Value}
use Rattle.num.specs.Value.{largest, fitted}

pub data Held (n : ℕ) : Value → Type 0 where
  whole : n ≤ largest → Held n (Some n)
  lost : largest < n → Held n None

pub held : (n : ℕ) → Held n (fitted n)
unfolding fitted
held n = go (leb n largest) refl
  where
    go : (b : Bool) → leb n largest ≡ b → Held n (cond b (Some n) None)
    go true e = whole (leb-true n largest e)
    go false e = lost (leb-false n largest e)
