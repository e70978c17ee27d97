-- What has been seen of children stays small, for as many records as were seen.
-- Assumes nothing.
use Rattle.std.specs.Prelude.{Bool, true, ◌&&◌, ◌≡◌, ℕ, ◌<◌, T, ltb, leb}
use Rattle.std.proofs.Common.{sym, ◌∙◌, ltb→lt, leb→le, lt-ltb}
use Rattle.text.proofs.Table.{first-of, second-of}
use Rattle.own.specs.Tree.{Rec}
use Rattle.load.specs.Checks.Judge.{sits}
use Rattle.load.specs.Checks.Small.{Sat}

pub sat : (left : ℕ) (r c : Rec) → T (sits left r c) → Sat left r c
unfolding sits
sat left r x t =
    let p = ltb 0 x.size in
    let q = leb x.size left in
    let a = leb r.start x.start in
    let b = leb x.stop r.stop in
    let u = second-of p (q && (a && b)) t in
    let v = second-of q (a && b) u in
    record {
      some = ltb→lt 0 x.size (first-of p (q && (a && b)) t);
      fit = leb→le x.size left (first-of q (a && b) u);
      from = leb→le r.start x.start (first-of a b v);
      to = leb→le x.stop r.stop (second-of a b v);
    }

-- Where a child counts itself, no more than is left, and begins no earlier than its parent, its end decides.
pub sits-by-end : (left : ℕ) (r c : Rec) → 0 < c.size → {a : Bool} → a ≡ leb c.size left → a ≡ true → {b : Bool} → b ≡ leb r.start c.start → b ≡ true
    → leb c.stop r.stop ≡ sits left r c
unfolding sits
sits-by-end left r c some p fit q from =
    λ i. sym (lt-ltb 0 c.size some) i && ((sym fit ∙ p) i && ((sym from ∙ q) i && leb c.stop r.stop))
