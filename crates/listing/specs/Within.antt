-- What came in is no more than the buffer holds.
-- Assumes nothing.
use Rattle.std.specs.Prelude.{◌≡◌, ℕ, ◌≤◌, Result, Ok, IfOk}
use Rattle.std.proofs.Common.{subst}

abbrev pub Within : {E : Type 0} → Result ℕ E → ℕ → Type 0
Within r size = IfOk r (λ n. n ≤ size)

pub bytes-within : {E : Type 0} {r : Result ℕ E} {n size : ℕ} → r ≡ Ok n → Within r size → n ≤ size
bytes-within {E} {r} {n} {size} e h = subst (λ (i : Result ℕ E). Within i size) e h
