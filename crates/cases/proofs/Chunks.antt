-- The first chunks of a list are those of its front.
-- Assumes nothing.
use Rattle.std.proofs.Common.{◌≡◌, ◌≤◌, ◌<◌, ◌*◌, ◌+◌, ◌/◌, ◌∷◌, ℕ, zero, suc, List, length, take, drop, refl, ap, ap₂, arith, ◌∙◌}
use Rattle.std.specs.Simd.{first_chunks}
use Rattle.std.proofs.lemmas.List.{take-take, drop-take}
use Rattle.std.proofs.lemmas.Nat.{div-mul-add}
use lib.Seq.{length-take-le}

chunks_of_take : {X : Type 0} (n k : ℕ) (xs : List X) → first_chunks n k (take (k * n) xs) ≡ first_chunks n k xs
chunks_of_take n zero xs = refl
chunks_of_take n (suc k) xs =
    let e : suc k * n ≡ n + k * n = omega arith in
    ap₂ (λ l ls. l ∷ ls) (take-take n (suc k * n) xs (omega (arith, e)))
    (ap (λ m. first_chunks n k (drop n (take m xs))) e ∙ (ap (first_chunks n k) (drop-take n (k * n) xs) ∙ chunks_of_take n k (drop n xs)))

-- All the chunks of a front of k * n entries.
pub chunks_of_front : {X : Type 0} (n k : ℕ) {m : ℕ} (xs : List X) {ps : List X} → 0 < n → m ≡ k * n → m ≤ length xs → ps ≡ take m xs →
    first_chunks n (length ps / n) ps ≡ first_chunks n k xs
chunks_of_front n k {m} xs {ps} above e fits held =
    let l : length ps ≡ k * n + 0 = omega (arith, e, ap length held ∙ length-take-le m xs fits) in
    ap₂ (λ j qs. first_chunks n j qs) (ap (λ j. j / n) l ∙ div-mul-add k n 0 above) (held ∙ ap (λ j. take j xs) e) ∙ chunks_of_take n k xs
