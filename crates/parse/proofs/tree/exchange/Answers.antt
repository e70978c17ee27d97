-- The words of two runs of records are turned round, where they fit.
-- Assumes nothing.
use Rattle.std.proofs.Common.{◌≡◌, ℕ, ◌-◌, ◌*◌, List, ◌++◌, take, drop, ap, ◌∙◌, arith, rules}
use Rattle.text.specs.Widths.{rec_wide}
use Rattle.parse.proofs.tree.Splice.{turns}
use Rattle.parse.proofs.tree.exchange.Goals as goal

pub returns-then-b-tree : goal.returns-then-b-tree
returns-then-b-tree c =
    let a = c.args in
    let t : List ℕ = a.tree.now in
    let i : ℕ = rec_wide * a.from in
    let j : ℕ = rec_wide * a.to in
    let s : List ℕ = take (j - i) (drop i t) in
    let f : rec_wide * (a.mid - a.from) ≡ rec_wide * a.mid - i = omega arith in
    record {
      long = search rules;
      turn = λ l₀ u v h n e p q.
          turns l₀ u v i (rec_wide * a.mid) j p q (omega arith) e
          (ap (λ (ys : List ℕ). take i t ++ (ys ++ drop (j - i) (drop i t))) (c.rotate.ensures ∙ ap (λ (k : ℕ). drop k s ++ take k s) f));
    }
