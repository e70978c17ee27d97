-- Words at the front of a buffer and what is behind them, cleared or not.
-- Assumes nothing.
use Rattle.std.specs.Prelude.{List, ◌++◌, ◌≡◌, ℕ, ◌-◌, ◌≤◌, length, replicate, take, drop}
use Rattle.std.proofs.Common.{ap₂, arith, length-append, length-drop}
use lib.Seq.{take_at}
use Rattle.text.specs.Front.{front}

-- The buffer has no word more, and none less.
pub front-long : (ws old : List ℕ) → length ws ≤ length old → length (front ws old) ≡ length old
front-long ws old h = omega (arith, length-append ws (drop (length ws) old), length-drop (length ws) old)

-- With zeros for what stayed it is the words and zeros behind them.
pub front-cleared : (ws old : List ℕ) (n : ℕ) → length ws ≡ n → n ≤ length old → take n (front ws old) ++ replicate (length (front ws old) - n) 0 ≡ ws ++ replicate (length old - length ws) 0
front-cleared ws old n e h =
    let k : length (front ws old) - n ≡ length old - length ws = omega (arith, front-long ws old (omega (arith, e))) in
    ap₂ (λ (l : List ℕ) (m : ℕ). l ++ replicate m 0) (take_at ws (drop (length ws) old) n e) k
