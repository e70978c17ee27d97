-- What the loops keep that read digits, fields and lines.
-- Assumes nothing.
use Rattle.std.specs.Prelude.{Some}
use mathlib.Core.Bool.{Bool, true, false, ◌&&◌}
use mathlib.Core.List.{List, [], ◌∷◌}
use mathlib.Core.Path.{◌≡◌, refl, sym, ap, ap₂, ◌∙◌}
use Prim.Native.Nat.{ℕ, zero, suc, ◌+◌, ◌-◌, ◌*◌, ◌%◌, ◌<◌, ◌≤◌}
use native.Mathlib.Omega.{arith}
use native.Mathlib.Numerals.{add-one}
use borrow.Author.Tests.{eq-eqb, ne_eqb}
use lib.Dec.{eqb}
use lib.ListN.{length, get_or, take, drop, length-drop, length-take, drop_of_length-le}
use lib.Seq.{get_or-drop, drop-drop}
use Rattle.lines.specs.Hex.{power}
use Rattle.lines.specs.Form.{after, wide}
use Rattle.lines.specs.Lines.{half_digits}
use Rattle.std.specs.List.{list_all}
use Rattle.std.proofs.lemmas.List.{drop_more, drop-take, get_or-take}
use Rattle.std.proofs.lemmas.List.Folds.{list_all_more}
use Rattle.load.specs.Listing.Read.{digit_of, is_digit, are_digits, number_of, in_form, values_of, first_bad}
use Rattle.load.proofs.Listing.DigitLaws.{number-below}

-- What the loop of `value` keeps: the number that the first i digits are.
pub record Valued (ds : List ℕ) (v i : ℕ) : Type 0 where
  pub within : i ≤ length ds
  pub is : v ≡ number_of i ds

pub valued-start : (ds : List ℕ) → Valued ds 0 0
unfolding number_of
valued-start ds = record { within = omega arith; is = refl }

pub power_le : (a b : ℕ) → a ≤ b → power a ≤ power b
power_le zero zero h = omega arith
power_le zero (suc b) h = omega (arith, power_le zero b (omega arith))
power_le (suc a) zero h = absurd (omega arith)
power_le (suc a) (suc b) h = omega (arith, power_le a b (omega arith))

module _ {ds : List ℕ} {v i : ℕ} (x : Valued ds v i) where
  -- a word holds one digit more
  pub valued-small : length ds ≤ half_digits → i < length ds → v < power 7
  valued-small h k = omega (arith, number-below i ds, power_le i 7 (omega arith), x.is)

  -- s is the number with room for a digit behind it
  pub valued-more : {s d : ℕ} → s ≡ v * 16 → d ≡ digit_of (get_or ds i 0) → i < length ds → Valued ds (s + d % 16) (i + 1)
  unfolding number_of
  valued-more {s} {d} q e h =
      let j : suc i ≡ i + 1 = omega arith in
      record {
        within = omega arith;
        is = omega (arith, x.is, e) ∙ ap (λ (k : ℕ). number_of k ds) j;
      }

-- The number that bytes begin with is that of so many bytes,
pub number-front : (n m : ℕ) (bs : List ℕ) → n ≤ m → number_of n (take m bs) ≡ number_of n bs
unfolding number_of
number-front zero m bs h = refl
number-front (suc n) m bs h = ap₂ (λ (v b : ℕ). 16 * v + digit_of b % 16) (number-front n m bs (omega arith)) (get_or-take m bs n 0 (omega arith))

-- so the numbers of a line are those of its bytes alone,
pub values-part : (ws : List ℕ) (m : ℕ) (bs : List ℕ) → wide ws ≤ m → values_of ws (take m bs) ≡ values_of ws bs
unfolding values_of
values-part [] m bs h = refl
values-part (n ∷ ns) m bs h =
    let k = m - (n + 1) in
    let e : m ≡ n + 1 + k = omega arith in
    let rest : values_of ns (drop (n + 1) (take m bs)) ≡ values_of ns (drop (n + 1) bs) =
    ap (λ (j : ℕ). values_of ns (drop (n + 1) (take j bs))) e
    ∙ ap (values_of ns) (drop-take (n + 1) k bs)
    ∙ values-part ns k (drop (n + 1) bs) (omega arith) in
    λ i. number-front n m bs (omega arith) i ∷ rest i

-- and they begin with digits where all of these are some.
pub digits-front : (n : ℕ) (bs : List ℕ) → n ≤ length bs → list_all is_digit (take n bs) ≡ are_digits n bs
unfolding are_digits
digits-front zero bs h = refl
digits-front (suc n) bs h =
    let e : suc n ≡ n + 1 = omega arith in
    ap (λ (k : ℕ). list_all is_digit (take k bs)) e
    ∙ list_all_more is_digit bs n 0 (omega arith)
    ∙ ap (λ (b : Bool). b && is_digit (get_or bs n 0)) (digits-front n bs (omega arith))

-- So it is with a part of a text.
module _ (at n : ℕ) (text : List ℕ) (h : at + n ≤ length text) where
  abbrev bytes_at : List ℕ
  bytes_at = take (at + n - at) (drop at text)

  as-long : at + n - at ≡ n
  as-long = omega arith

  pub number-part : number_of (length bytes_at) bytes_at ≡ number_of n (drop at text)
  number-part =
      let e : length bytes_at ≡ n = omega (arith, length-take (at + n - at) (drop at text), length-drop at text) in
      ap (λ (k : ℕ). number_of k bytes_at) e ∙ number-front n (at + n - at) (drop at text) (omega arith)

  pub digits-part : list_all is_digit bytes_at ≡ are_digits n (drop at text)
  digits-part = ap (λ (m : ℕ). list_all is_digit (take m (drop at text))) as-long ∙ digits-front n (drop at text) (omega (arith, length-drop at text))

-- Of a text that goes on behind p something is left there.
module _ (text : List ℕ) (p : ℕ) (h : p < length text) where
  pub some_left : 0 < length (drop p text)
  some_left = omega (arith, length-drop p text)

-- What the loop of `in_form` keeps: what is left of the line, from p on, decides.
pub record Forming (text : List ℕ) (ws : List ℕ) (p k : ℕ) : Type 0 where
  pub within : k ≤ length ws
  pub room : p + wide (drop k ws) ≤ length text
  pub same : in_form (drop k ws) (drop p text) ≡ in_form ws text

module _ {text : List ℕ} {ws : List ℕ} {p k : ℕ} (x : Forming text ws p k) (more : k < length ws) where
  -- the next field and the byte after it are inside the text
  pub forming-room : p + get_or ws k 0 + 1 + wide (drop (k + 1) ws) ≤ length text
  forming-room = omega (arith, ap wide (drop_more ws k 0 more), x.room)

  forming-digits : list_all is_digit (take (p + get_or ws k 0 - p) (drop p text)) ≡ are_digits (get_or ws k 0) (drop p text)
  forming-digits = digits-part p (get_or ws k 0) text (omega (arith, forming-room))

  -- the test of the rest, by the digits of the next field and the byte after it
  its-test : in_form ws text
      ≡ (are_digits (get_or ws k 0) (drop p text)
      && (eqb (get_or text (p + get_or ws k 0) 0) (after (length ws - (k + 1))) && in_form (drop (k + 1) ws) (drop (p + get_or ws k 0 + 1) text)))
  unfolding in_form
  its-test =
      let n = get_or ws k 0 in
      let e : p + (n + 1) ≡ p + n + 1 = omega arith in
      sym x.same
      ∙ ap (λ (l : List ℕ). in_form l (drop p text)) (drop_more ws k 0 more)
      ∙ λ i. are_digits n (drop p text)
      && (eqb (get_or-drop p text n 0 i) (after (length-drop (k + 1) ws i)) && in_form (drop (k + 1) ws) ((drop-drop (n + 1) p text ∙ ap (λ (m : ℕ). drop m text) e) i))

  its-verdict : {a b : Bool} {c : ℕ} → a ≡ are_digits (get_or ws k 0) (drop p text) → c ≡ after (length ws - (k + 1)) → eqb (get_or text (p + get_or ws k 0) 0) c ≡ b
      → (a && (b && in_form (drop (k + 1) ws) (drop (p + get_or ws k 0 + 1) text))) ≡ in_form ws text
  its-verdict d e f =
      (λ i. d i && ((sym f ∙ ap (eqb (get_or text (p + get_or ws k 0) 0)) e) i && in_form (drop (k + 1) ws) (drop (p + get_or ws k 0 + 1) text)))
      ∙ sym its-test

  -- what the loop's test told of the bytes of the field
  module _ {told : Bool} (its : told ≡ list_all is_digit (take (p + get_or ws k 0 - p) (drop p text))) where
    pub forming-no : told ≡ false → false ≡ in_form ws text
    forming-no d = its-verdict (sym d ∙ its ∙ forming-digits) refl refl

    pub forming-other : {c : ℕ} → told ≡ true → c ≡ after (length ws - (k + 1)) → (get_or text (p + get_or ws k 0) 0 ≡ c → ⊥) → false ≡ in_form ws text
    forming-other {c} d e f = its-verdict (sym d ∙ its ∙ forming-digits) e (ne_eqb (get_or text (p + get_or ws k 0) 0) c f)

    pub forming-more : {c : ℕ} → told ≡ true → c ≡ after (length ws - (k + 1)) → get_or text (p + get_or ws k 0) 0 ≡ c → Forming text ws (p + get_or ws k 0 + 1) (k + 1)
    forming-more {c} d e f =
        record { within = omega arith; room = forming-room; same = its-verdict (sym d ∙ its ∙ forming-digits) e (eq-eqb (get_or text (p + get_or ws k 0) 0) c f) }

pub forming-end : {text : List ℕ} {ws : List ℕ} {p k : ℕ} → Forming text ws p k → length ws ≤ k → true ≡ in_form ws text
unfolding in_form
forming-end {text} {ws = ws} {p = p} x h = ap (λ (l : List ℕ). in_form l (drop p text)) (sym (drop_of_length-le ws h)) ∙ x.same

-- The number of a line that is bad, as the code says it.
pub some-bad : (i : ℕ) {n : ℕ} → i + 1 ≡ n → Some (i + 1) ≡ first_bad n
some-bad i e = ap Some (add-one i) ∙ ap first_bad (sym (add-one i) ∙ e)
