-- Lines written one after the other, and zeros behind them.
-- Assumes nothing.
use mathlib.Core.Bool.{Bool, cond}
use mathlib.Core.List.{List, [], ◌∷◌, ◌++◌, append_assoc, append-nil}
use mathlib.Core.Path.{◌≡◌, refl, sym, ap, ◌∙◌}
use Prim.Native.Nat.{ℕ, suc, ◌+◌, ◌-◌, ◌*◌, ◌/◌, ◌≤◌, ◌<◌}
use native.Mathlib.Omega.{arith}
use native.Mathlib.Nat.{mul_comm, mul-suc, mul-zero}
use borrow.Author.Tests.{lt-ltb, le-ltb}
use borrow.Rule.Slice.PartMut.{put_mid, mid_of}
use lib.ListN.{length, get_or, drop, take, replicate}
use lib.Seq.{sets, sets-eq, length-sets, length-take-le, take_at}
use Rattle.std.proofs.Math.Nat.{div-lt_iff_lt-mul, le-div_iff_mul-le}
use Rattle.std.specs.Simd.{first_chunks}
use Rattle.std.proofs.lemmas.List.{take_more}
use Rattle.text.proofs.ClearLaws.{cleared}
use Rattle.text.specs.Widths.{rec_wide}
use Rattle.up.specs.Ways.{rows_in}
use Rattle.lines.specs.Form.{line_of, wide}
use Rattle.lines.specs.Lines.{lines_of, is_long, listed_rows, widths_by}
use Rattle.lines.proofs.Lines.{lines-wide, listed-as}
use Rattle.lines.proofs.Rows.{rows-taken}
use Rattle.lines.specs.Written.{used, padded, held, lines_in}
use Rattle.text.proofs.Sets.{sets-next}

-- Lines side by side.
lines-beside : (ws : List ℕ) (us vs : List (List ℕ)) → lines_of ws (us ++ vs) ≡ lines_of ws us ++ lines_of ws vs
unfolding lines_of
lines-beside ws [] vs = refl
lines-beside ws (u ∷ us) vs =
    ap (λ (l : List ℕ). line_of ws u ++ l) (lines-beside ws us vs) ∙ sym (append_assoc (line_of ws u) (lines_of ws us) (lines_of ws vs))

-- one record more
lines_more : (ws : List ℕ) (vs : List (List ℕ)) (i : ℕ) → i < length vs → lines_of ws (take (i + 1) vs) ≡ lines_of ws (take i vs) ++ line_of ws (get_or vs i [])
unfolding lines_of
lines_more ws vs i h =
    ap (lines_of ws) (take_more vs i [] h)
    ∙ lines-beside ws (take i vs) (get_or vs i [] ∷ [])
    ∙ ap (λ (l : List ℕ). lines_of ws (take i vs) ++ l) (append-nil (line_of ws (get_or vs i [])))

-- What the loop of `lines` keeps: the lines of the first i records are written.
pub record Listing (o ws : List ℕ) (vs : List (List ℕ)) (l : List ℕ) (p i : ℕ) : Type 0 where
  pub within : i ≤ length vs
  pub long : length l ≡ length o
  pub ends : p ≡ wide ws * i
  pub done : l ≡ sets o 0 (lines_of ws (take i vs))

pub listing_start : (o ws : List ℕ) (vs : List (List ℕ)) → Listing o ws vs o 0 0
unfolding lines_of
listing_start o ws vs = record { within = omega arith; long = refl; ends = sym (mul-zero (wide ws)); done = refl }

module _ {o ws : List ℕ} {vs : List (List ℕ)} {l : List ℕ} {p i : ℕ} (x : Listing o ws vs l p i) where
  next-end : p + wide ws ≡ wide ws * suc i
  next-end = ap (λ (k : ℕ). k + wide ws) x.ends ∙ sym (mul-suc (wide ws) i)

  pub listing-more : {l₁ : List ℕ} {q : ℕ} → i < length vs → q ≡ p + wide ws → l₁ ≡ sets l p (line_of ws (get_or vs i [])) → Listing o ws vs l₁ q (i + 1)
  listing-more {l₁} {q} h d e =
      let s : suc i ≡ i + 1 = omega arith in
      let next = line_of ws (get_or vs i []) in
      let k = lines-wide ws (take i vs) ∙ ap (λ (j : ℕ). wide ws * j) (length-take-le i vs x.within) in
      let z = x.ends in
      let t : 0 + length (lines_of ws (take i vs)) ≡ p = omega (arith, k, z) in
      record {
        within = omega arith;
        long = ap length e ∙ length-sets l p next ∙ x.long;
        ends = d ∙ next-end ∙ ap (λ (j : ℕ). wide ws * j) s;
        done = sets-next o (lines_of ws (take i vs)) next 0 p x.done e t ∙ ap (sets o 0) (sym (lines_more ws vs i h));
      }

-- A text that does not fit,
left-out : (t o : List ℕ) {l : List ℕ} → length o < length t → l ≡ replicate (length o) 0 → (0 ≡ used t (length o)) × (l ≡ padded t (length o))
left-out t o h z =
    let b = lt-ltb (length o) (length t) h in (
      sym (ap (λ c. cond c 0 (length t)) b),
      z ∙ sym (ap (λ c. cond c (replicate (length o) 0) (t ++ replicate (length o - length t) 0)) b),
    )

-- and one that does, with zeros behind it.
put-in : (t o : List ℕ) {a : ℕ} {l ys : List ℕ} → length t ≤ length o → length t ≡ a → l ≡ sets o 0 t → length l ≡ length o
    → ys ≡ replicate (length (mid_of a (length l - a) l)) 0 → (a ≡ used t (length o)) × (put_mid a (length l - a) l ys ≡ padded t (length o))
put-in t o {a} {l} {ys} h s f ll z =
    let b = le-ltb (length o) (length t) h in
    let r : length l - a ≡ length o - length t = omega (arith, s, ll) in (
      sym (ap (λ c. cond c 0 (length t)) b ∙ s),
      cleared a l ys (omega (arith, h, s, ll)) z
          ∙ (λ i. take a ((f ∙ sets-eq t o 0 (omega (arith, h))) i) ++ replicate (r i) 0)
          ∙ ap (λ (x : List ℕ). x ++ replicate (length o - length t) 0) (take_at t (drop (0 + length t) o) a s)
          ∙ sym (ap (λ c. cond c (replicate (length o) 0) (t ++ replicate (length o - length t) 0)) b),
    )

-- Lines fit where there is room for as many: those that do not,
module _ (ws o : List ℕ) (vs : List (List ℕ)) {bytes : ℕ} (some : 0 < bytes) (e : bytes ≡ wide ws) where
  bytes-all : length (lines_of ws vs) ≡ length vs * bytes
  bytes-all = lines-wide ws vs ∙ mul_comm (wide ws) (length vs) ∙ ap (λ (n : ℕ). length vs * n) (sym e)

  pub no_room : {l : List ℕ} → length o / bytes < length vs → l ≡ replicate (length o) 0
      → (0 ≡ used (lines_of ws vs) (length o)) × (l ≡ padded (lines_of ws vs) (length o))
  no_room h z =
      let k = (div-lt_iff_lt-mul some).0 h in
      left-out (lines_of ws vs) o (omega (arith, bytes-all, k)) z

  -- and those that do.
  pub in-room : {a : ℕ} {l ys : List ℕ} → length vs ≤ length o / bytes → a ≡ wide ws * length vs → l ≡ sets o 0 (lines_of ws vs) → length l ≡ length o
      → ys ≡ replicate (length (mid_of a (length l - a) l)) 0 → (a ≡ used (lines_of ws vs) (length o)) × (put_mid a (length l - a) l ys ≡ padded (lines_of ws vs) (length o))
  in-room h ea el ll z =
      let k = (le-div_iff_mul-le some).0 h in
      put-in (lines_of ws vs) o (omega (arith, bytes-all, k)) (lines-wide ws vs ∙ sym ea) el ll z

-- The first records of a buffer, or all that it holds, are those that are listed;
pub listed-in : (w : List ℕ) (m : ℕ) {k : ℕ} {rs vs : List (List ℕ)} → rs ≡ first_chunks rec_wide (length w / rec_wide) w → k ≡ held w m → vs ≡ take k rs → vs ≡ rows_in (held w m) w
listed-in w m {k} er ek ev = ev ∙ ap (take k) er ∙ rows-taken rec_wide k (length w / rec_wide) w (omega (arith, ek)) ∙ ap (λ (j : ℕ). rows_in j w) ek

-- what is handed over of their lines, in the form that the test of them says, is what is handed over of the buffer's.
pub listed-by : (w : List ℕ) (m size : ℕ) {b : Bool} {r : ℕ} {l : List ℕ} {vs : List (List ℕ)} → vs ≡ rows_in (held w m) w → is_long vs ≡ b
    → let t = lines_of (widths_by b) vs in (r ≡ used t size) × (l ≡ padded t size) → (r ≡ used (lines_in w m) size) × (l ≡ padded (lines_in w m) size)
unfolding lines_in
listed-by w m size {vs = vs} e eb h =
    let f = sym (listed-as vs eb) ∙ ap listed_rows e in
    (h.0 ∙ ap (λ (x : List ℕ). used x size) f, h.1 ∙ ap (λ (x : List ℕ). padded x size) f)
