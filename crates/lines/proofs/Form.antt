-- The bytes of a line of a form: as many as its digits and its fields, and told by as many values.
-- Assumes nothing.
use Rattle.std.specs.Prelude.{List, [], ◌∷◌, ◌++◌, ◌≡◌, refl, ℕ, ◌+◌, ◌<◌, length, get_or, drop}
use Rattle.std.proofs.Common.{sym, ◌∙◌, ap₂, arith, length-append, get_or-drop}
use Rattle.lines.specs.Hex.{hex}
use Rattle.lines.proofs.Hex.{hex-length}
use Rattle.lines.specs.Form.{after, line_of, wide}

-- A line has as many bytes as its form says.
pub line-wide : (ws vs : List ℕ) → length (line_of ws vs) ≡ wide ws
unfolding line_of
line-wide [] vs = refl
line-wide (n ∷ ns) vs =
    let h = line-wide ns (drop 1 vs) in
    let k = hex-length n (get_or vs 0 0) in
    omega (arith, length-append (hex n (get_or vs 0 0)) (after (length ns) ∷ line_of ns (drop 1 vs)))

-- A line is told by as many values as it has fields.
pub same_line : (ws vs us : List ℕ) → ((k : ℕ) → k < length ws → get_or vs k 0 ≡ get_or us k 0) → line_of ws vs ≡ line_of ws us
unfolding line_of
same_line [] vs us e = refl
same_line (n ∷ ns) vs us e =
    ap₂ (λ (v : ℕ) (l : List ℕ). hex n v ++ (after (length ns) ∷ l)) (e 0 (omega arith))
    (same_line ns (drop 1 vs) (drop 1 us) (λ k h. get_or-drop 1 vs k 0 ∙ e (1 + k) (omega arith) ∙ sym (get_or-drop 1 us k 0)))
