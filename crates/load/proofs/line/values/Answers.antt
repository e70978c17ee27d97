-- The loop keeps that the fields that are left would complete the numbers.
-- Assumes nothing.
use Rattle.std.proofs.Common.{ℕ, ◌+◌, ◌-◌, ◌≤◌, get_or, drop, ◌∙◌, arith, length-take}
use Rattle.lines.specs.Lines.{half_digits}
use Rattle.std.proofs.lemmas.List.{length-replicate}
use Rattle.own.proofs.Lists.{all-at}
use Rattle.load.proofs.LineLaws.{number-part}
use Rattle.load.proofs.WriteLaws.{filling-start, filling-room, filling-more, filling-end}
use Rattle.load.proofs.line.values.Goals as goal

pub loop-k-init : goal.loop-k-init
loop-k-init g c = filling-start _ _ _ (omega (arith, c.requires.as_many, length-replicate {A = ℕ} g.row.N 0))

pub value-requires : goal.value-requires
value-requires g c =
    let n = get_or c.args.widths.now c.loop-k.k 0 in
    let few = all-at {P = λ (m : ℕ). m ≤ half_digits} c.loop-k.k 0 (omega arith) c.requires.short in
    omega (arith, few, length-take (c.loop-k.p + n - c.loop-k.p) (drop c.loop-k.p c.args.line.now))

pub loop-k-preserved : goal.loop-k-preserved
loop-k-preserved g c =
    filling-more c.loop-k.invariant (omega arith) (c.value.ensures ∙ number-part c.loop-k.p (get_or c.args.widths.now c.loop-k.k 0) c.args.line.now (omega (arith, filling-room c.loop-k.invariant (omega arith))))

pub returns : goal.returns
returns g c = filling-end c.loop-k.invariant (omega arith)
