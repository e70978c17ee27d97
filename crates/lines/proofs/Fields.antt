-- Fields written into a buffer one after the other.
-- Assumes nothing.
use mathlib.Core.List.{List, [], ◌∷◌, ◌++◌, append_assoc}
use mathlib.Core.Path.{◌≡◌, refl, sym, ap, ◌∙◌}
use Prim.Native.Nat.{ℕ, suc, ◌+◌, ◌-◌, ◌<◌}
use native.Mathlib.Omega.{arith}
use native.Mathlib.Nat.{add-zero}
use lib.ListN.{length, get_or, set, drop, length-append, length-drop}
use lib.Seq.{sets, drop-cons, drop-drop, get_or-drop}
use Rattle.text.proofs.Sets.{sets-next}
use Rattle.lines.specs.Hex.{hex}
use Rattle.lines.proofs.Hex.{hex-length}
use Rattle.lines.specs.Form.{after, line_of}

-- A number and the byte after it.
pub field : (n v c : ℕ) (o : List ℕ) {l : List ℕ} (at : ℕ) {p : ℕ} → l ≡ sets o at (hex n v) → p ≡ at + n → set l p c ≡ sets o at (hex n v ++ (c ∷ []))
field n v c o at {p} e h = sets-next o (hex n v) (c ∷ []) at p e refl (omega (arith, hex-length n v, h))

-- the next field of a line
line-next : (ws vs : List ℕ) (k : ℕ) → k < length ws
    → line_of (drop k ws) (drop k vs) ≡ hex (get_or ws k 0) (get_or vs k 0) ++ (after (length ws - (k + 1)) ∷ line_of (drop (k + 1) ws) (drop (k + 1) vs))
unfolding line_of
line-next ws vs k h =
    let n = get_or ws k 0 in
    let e : suc k ≡ k + 1 = omega arith in
    let f : drop k ws ≡ n ∷ drop (k + 1) ws = drop-cons ws k 0 h ∙ ap (λ (j : ℕ). n ∷ drop j ws) e in
    let g : get_or (drop k vs) 0 0 ≡ get_or vs k 0 = get_or-drop k vs 0 0 ∙ ap (λ (j : ℕ). get_or vs j 0) (add-zero k) in
    ap (λ (l : List ℕ). line_of l (drop k vs)) f
    ∙ λ i. hex n (g i) ++ (after (length-drop (k + 1) ws i) ∷ line_of (drop (k + 1) ws) (drop-drop 1 k vs i))

-- What is left to write of a line: the field at k, and then what is behind it.
pub field-then : (ws vs : List ℕ) (k : ℕ) (l : List ℕ) {l₁ : List ℕ} (p : ℕ) {q : ℕ} → k < length ws
    → l₁ ≡ sets l p (hex (get_or ws k 0) (get_or vs k 0) ++ (after (length ws - (k + 1)) ∷ [])) → q ≡ p + get_or ws k 0 + 1
    → sets l₁ q (line_of (drop (k + 1) ws) (drop (k + 1) vs)) ≡ sets l p (line_of (drop k ws) (drop k vs))
field-then ws vs k l p {q} h e d =
    let digits = hex (get_or ws k 0) (get_or vs k 0) in
    let c = after (length ws - (k + 1)) in
    let rest = line_of (drop (k + 1) ws) (drop (k + 1) vs) in
    sets-next l (digits ++ (c ∷ [])) rest p q e refl (omega (arith, length-append digits (c ∷ []), hex-length (get_or ws k 0) (get_or vs k 0), d))
    ∙ ap (sets l p) (append_assoc digits (c ∷ []) rest ∙ sym (line-next ws vs k h))
