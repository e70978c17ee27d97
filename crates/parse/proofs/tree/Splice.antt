-- Runs of words written into a buffer.
-- Assumes nothing.
use Rattle.std.proofs.Common.{◌≡◌, ℕ, ◌+◌, ◌-◌, ◌*◌, ◌≤◌, List, [], ◌++◌, length, take, drop, sym, ap, ◌∙◌, append_assoc, arith, length-append, length-take-le, take_at, drop_at}
use lib.Seq.{sets, sets-eq, length-sets}
use Rattle.text.specs.Widths.{rec_wide}
use Rattle.text.proofs.Sets.{sets-append, sets-sets}
use Rattle.own.specs.Words.{rec_then}
use Rattle.parse.specs.Contract.{Halved, Put}

-- The header law: a record written after what lies below it.
pub header : (l : List ℕ) {l₁ l' : List ℕ} (ws : List ℕ) (out k b e low high z : ℕ) → l₁ ≡ sets l (rec_wide * (out + 1)) ws → Put l₁ out k b e low high z l' → Halved k low high → rec_wide * out + rec_wide ≤ length l
    → l' ≡ sets l (rec_wide * out) (rec_then k b e low high z ws)
header l {l₁} ws out k b e low high z p q hold h =
    let hd : List ℕ = rec_then k b e low high z [] in
    let n : length l₁ ≡ length l = ap length p ∙ length-sets l (rec_wide * (out + 1)) ws in
    q.put hold (omega arith) ∙ ap (λ (m : List ℕ). sets m (rec_wide * out) hd) p ∙ sym (sets-sets hd ws l (rec_wide * out) (rec_wide * (out + 1)) (omega arith))
    ∙ ap (λ (j : ℕ). sets (sets l (rec_wide * out) hd) j ws) (omega arith) ∙ sym (sets-append hd ws l (rec_wide * out))

-- the part of a buffer where two runs stand, turned round
pub turns : (l₀ u v : List ℕ) (a m b : ℕ) → a + length u ≡ m → m + length v ≡ b → b ≤ length l₀ → {l l' : List ℕ} → l ≡ sets l₀ a (u ++ v)
    → l' ≡ take a l ++ ((drop (m - a) (take (b - a) (drop a l)) ++ take (m - a) (take (b - a) (drop a l))) ++ drop (b - a) (drop a l)) → l' ≡ sets l₀ a (v ++ u)
turns l₀ u v a m b p q h {l} {l'} e t =
    let uv : length (u ++ v) ≡ length u + length v = length-append u v in
    let vu : length (v ++ u) ≡ length v + length u = length-append v u in
    let z : l ≡ take a l₀ ++ ((u ++ v) ++ drop (a + length (u ++ v)) l₀) = e ∙ sets-eq (u ++ v) l₀ a (omega arith) ∙ append_assoc (take a l₀) (u ++ v) (drop (a + length (u ++ v)) l₀) in
    let ta : take a l ≡ take a l₀ = ap (take a) z ∙ take_at (take a l₀) ((u ++ v) ++ drop (a + length (u ++ v)) l₀) a (length-take-le a l₀ (omega arith)) in
    let da : drop a l ≡ (u ++ v) ++ drop (a + length (u ++ v)) l₀ = ap (drop a) z ∙ drop_at (take a l₀) ((u ++ v) ++ drop (a + length (u ++ v)) l₀) a (length-take-le a l₀ (omega arith)) in
    let tb : take (b - a) (drop a l) ≡ u ++ v = ap (take (b - a)) da ∙ take_at (u ++ v) (drop (a + length (u ++ v)) l₀) (b - a) (omega arith) in
    let db : drop (b - a) (drop a l) ≡ drop (a + length (u ++ v)) l₀ = ap (drop (b - a)) da ∙ drop_at (u ++ v) (drop (a + length (u ++ v)) l₀) (b - a) (omega arith) in
    let tu : take (m - a) (u ++ v) ≡ u = take_at u v (m - a) (omega arith) in
    let du : drop (m - a) (u ++ v) ≡ v = drop_at u v (m - a) (omega arith) in
    let same : a + length (u ++ v) ≡ a + length (v ++ u) = omega arith in
    t ∙ (λ k. ta k ++ ((drop (m - a) (tb k) ++ take (m - a) (tb k)) ++ db k)) ∙ (λ k. take a l₀ ++ ((du k ++ tu k) ++ drop (same k) l₀))
    ∙ sym (sets-eq (v ++ u) l₀ a (omega arith) ∙ append_assoc (take a l₀) (v ++ u) (drop (a + length (v ++ u)) l₀))
