-- Digits written two at a time.
-- Assumes nothing.
use mathlib.Core.List.{List, [], ◌∷◌, ◌++◌, append_assoc, append-nil}
use mathlib.Core.Path.{◌≡◌, refl, sym, ap, ◌∙◌}
use Prim.Native.Nat.{ℕ, zero, suc, ◌+◌, ◌-◌, ◌*◌, ◌/◌, ◌%◌, ◌<◌, ◌≤◌}
use native.Mathlib.Omega.{arith}
use native.Mathlib.Numerals.{add-one}
use borrow.Rule.Slice.PartMut.{put_mid, mid_of}
use lib.ListN.{length, get_or, set, drop, replicate, length-drop}
use lib.Seq.{sets, length-take-le}
use Rattle.std.proofs.Math.Nat.{div-one, div-div-eq-div-mul}
use Rattle.std.proofs.lemmas.List.{replicate_more}
use Rattle.text.specs.Ascii.{ascii, ascii_from}
use Rattle.text.proofs.Sets.{sets-append, sets-sets}
use Rattle.text.proofs.Table.{at, is_true}
use Rattle.text.specs.Same.{same}
use Rattle.text.proofs.SameLaws.{same_true}
use Rattle.lines.specs.Hex.{upper_hex, hex, power}
use Rattle.lines.proofs.Hex.{hex-length, last_digits, power-more}
use Rattle.lines.proofs.Part.{part-written}
use Rattle.lines.specs.declared.pairs.TheConstants.{PAIRS}

-- The rows of the table are the digits of their numbers, computed over all of them.
rows-held : (k : ℕ) → k < power 2 → get_or PAIRS k [] ≡ hex 2 k
unfolding hex upper_hex ascii ascii_from same
rows-held k h = same_true (get_or PAIRS k []) (hex 2 k) (is_true (same (get_or PAIRS k []) (hex 2 k)) (at (λ i row. same row (hex 2 i)) PAIRS [] tt k (omega (arith, h))))

-- The two bytes of a number's row are its last two digits.
pub pair-written : (v : ℕ) (o : List ℕ) (at : ℕ) → let row = get_or PAIRS (v % power 2) [] in set (set o at (get_or row 0 0)) (at + 1) (get_or row 1 0) ≡ sets o at (hex 2 v)
unfolding hex
pair-written v o at =
    let b = v % power 2 in
    (λ i. set (set o at (get_or (rows-held b (omega arith) i) 0 0)) (add-one at i) (get_or (rows-held b (omega arith) i) 1 0)) ∙ ap (sets o at) (last_digits 2 v)

-- The digits of a number are the two above the last n, and those.
two-above : (n v : ℕ) → hex (suc (suc n)) v ≡ hex 2 (v / power n) ++ hex n v
unfolding hex
two-above zero v =
    let e : v / 1 ≡ v = div-one v in
    sym (append-nil (hex 2 v)) ∙ ap (λ (x : ℕ). hex 2 x ++ []) (sym e)
two-above (suc n) v =
    let d = get_or upper_hex (v % 16) 0 in
    let e : v / 16 / power n ≡ v / (16 * power n) = div-div-eq-div-mul v 16 (power n) in
    ap (λ (l : List ℕ). l ++ (d ∷ [])) (two-above n (v / 16))
    ∙ append_assoc (hex 2 (v / 16 / power n)) (hex n (v / 16)) (d ∷ [])
    ∙ ap (λ (x : ℕ). hex 2 x ++ (hex n (v / 16) ++ (d ∷ []))) e

-- What the loop over the pairs keeps of N digits at `at`: the last i pairs are written.
pub record Paired (o : List ℕ) (at N v : ℕ) (l : List ℕ) (above i : ℕ) : Type 0 where
  pub within : i ≤ N / 2
  pub above_is : above ≡ v / power (2 * i)
  pub done : l ≡ sets o (at + (N - 2 * i)) (hex (2 * i) v)

pub paired-start : (o : List ℕ) (at N v : ℕ) → Paired o at N v o v 0
unfolding hex
paired-start o at N v = record { within = omega arith; above_is = sym (div-one v); done = refl }

module _ {o : List ℕ} {at N v : ℕ} {l : List ℕ} {above i : ℕ} (x : Paired o at N v l above i) where
  pub paired-more : {l₁ : List ℕ} → i < N / 2 → l₁ ≡ sets l (at + (N - 2 * (i + 1))) (hex 2 above) → Paired o at N v l₁ (above / power 2) (i + 1)
  paired-more {l₁} h e =
      let n = 2 * i in
      let p = at + (N - 2 * (i + 1)) in
      let s : suc (suc n) ≡ 2 * (i + 1) = omega arith in
      let q : at + (N - n) ≡ p + 2 = omega arith in
      let k : length (hex 2 above) ≡ 2 = hex-length 2 above in
      let f : l ≡ sets o (p + length (hex 2 above)) (hex n v) = x.done ∙ ap (λ (j : ℕ). sets o j (hex n v)) (omega (arith, q, k)) in
      record {
        within = omega arith;
        above_is = ap (λ (y : ℕ). y / power 2) x.above_is ∙ div-div-eq-div-mul v (power n) (power 2)
            ∙ ap (λ (y : ℕ). v / y) (power-more n) ∙ ap (λ (j : ℕ). v / power j) s;
        done = e
            ∙ ap (λ (m : List ℕ). sets m p (hex 2 above)) f
            ∙ sym (sets-sets (hex 2 above) (hex n v) o p (p + length (hex 2 above)) (omega arith))
            ∙ sym (sets-append (hex 2 above) (hex n v) o p)
            ∙ ap (λ (y : ℕ). sets o p (hex 2 y ++ hex n v)) x.above_is
            ∙ ap (sets o p) (sym (two-above n v))
            ∙ ap (λ (j : ℕ). sets o p (hex j v)) s;
      }

-- Zeros are the digits of 0.
zeros : (n : ℕ) → hex n 0 ≡ replicate n 48
unfolding hex upper_hex ascii ascii_from
zeros zero = refl
zeros (suc n) = ap (λ (l : List ℕ). l ++ (48 ∷ [])) (zeros n) ∙ replicate_more n 48 ∙ ap (λ (k : ℕ). replicate k 48) (add-one n)

pub zeros-written : (n : ℕ) (o : List ℕ) (at : ℕ) {v k : ℕ} {ys : List ℕ} → v ≡ 0 → k ≡ n → at + n ≤ length o → ys ≡ replicate (length (mid_of at k o)) 48
    → put_mid at k o ys ≡ sets o at (hex n v)
zeros-written n o at {v} {k} z e h y =
    let d = length-drop at o in
    let m : length (mid_of at k o) ≡ n = length-take-le k (drop at o) (omega arith) ∙ e in
    part-written at k o (y ∙ ap (λ (j : ℕ). replicate j 48) m ∙ sym (zeros n) ∙ ap (hex n) (sym z)) (e ∙ sym (hex-length n v)) (omega arith)
