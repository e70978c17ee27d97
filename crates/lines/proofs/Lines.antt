-- The lines of records: how many bytes a line has, and in how many digits a listing is written.
-- Assumes nothing.
use Rattle.std.specs.Prelude.{Bool, true, false, ◌||◌, List, [], ◌∷◌, ◌↔◌, ◌⊎◌, ◌≡◌, refl, ℕ, ◌+◌, ◌*◌, ◌<◌, ◌≤◌, leb, length, get_or}
use Rattle.std.specs.List.{list_any}
use Rattle.std.proofs.Common.{sym, ap, ap₂, ◌∙◌, add_comm, mul-zero, mul-suc, length-append, leb-false, le-leb, inl, inr}
use Rattle.std.proofs.Math.Bool.{or-false}
use Rattle.std.proofs.lemmas.Bool.{lt-leb}
use Rattle.text.specs.Lists.{some}
use Rattle.text.proofs.Same.{differ}
use Rattle.text.specs.Widths.{rec_wide}
use Rattle.own.specs.Lists.{All, nil, ◌&◌}
use Rattle.own.proofs.Lists.{all_map}
use Rattle.own.specs.Tree.{Rec}
use Rattle.up.specs.Ways.{ways_up, rows}
use Rattle.up.specs.Buffer.{size_place, up_place}
use Rattle.up.proofs.Laws.{sevens-many}
use Rattle.lines.specs.Form.{line_of, wide}
use Rattle.lines.proofs.Form.{line-wide}
use Rattle.lines.specs.Hex.{power}
use Rattle.lines.specs.Lines.{place_digits, with_way, widths, line_bytes, long_bytes, six_bytes, lines_of, widths_by}
use Rattle.lines.specs.Lines.{start_place, end_place, places, needs_more, InFour, is_long, widths_for, listed_rows, lines}

pub fields-counted : (n : ℕ) → length (with_way n) ≡ rec_wide
fields-counted n = refl

-- "36 times the lines", and now "41 bytes in all": the widths come to the papers' figures.
pub six-bytes : six_bytes ≡ 36
six-bytes = refl

pub line-bytes : line_bytes ≡ 41
line-bytes = refl

-- "49 bytes a line"
pub long-bytes : long_bytes ≡ 49
long-bytes = refl

-- The bytes of lines, in any form,
pub lines-wide : (ws : List ℕ) (vs : List (List ℕ)) → length (lines_of ws vs) ≡ wide ws * length vs
unfolding lines_of
lines-wide ws [] = sym (mul-zero (wide ws))
lines-wide ws (v ∷ vs) =
    length-append (line_of ws v) (lines_of ws vs)
    ∙ ap₂ ◌+◌ (line-wide ws v) (lines-wide ws vs)
    ∙ add_comm (wide ws) (wide ws * length vs)
    ∙ sym (mul-suc (wide ws) (length vs))

-- and of a listing.
pub lines-length : (rs : List Rec) → length (lines rs) ≡ wide (widths_for (rows rs)) * length rs
unfolding listed_rows
lines-length rs = let ws = widths_for (rows rs) in lines-wide ws (rows rs) ∙ ap (λ (n : ℕ). wide ws * n) (sevens-many (ways_up rs) rs)

-- A listing is that of six digits or that of four, as the test of its rows says,
pub listed-as : (vs : List (List ℕ)) {b : Bool} → is_long vs ≡ b → listed_rows vs ≡ lines_of (widths_by b) vs
unfolding listed_rows
listed-as vs e = ap (λ (c : Bool). lines_of (widths_by c) vs) e

pub listed-short : (vs : List (List ℕ)) → is_long vs ≡ false → listed_rows vs ≡ lines_of widths vs
listed-short vs e = listed-as vs e

-- which the numbers decide: a test that no entry of a list passes fails at each of them,
neither : (a b : Bool) → (a || b) ≡ false → (a ≡ false) × (b ≡ false)
neither true b e = differ (sym e)
neither false b e = (refl, e)

none-exactly : {A : Type 0} (p : A → Bool) (l : List A) → (some p l ≡ false) ↔ All (λ a. p a ≡ false) l
unfolding some
none-exactly {A} p l = (each l, no)
  where
    each : (l : List A) → some p l ≡ false → All (λ a. p a ≡ false) l
    each [] e = nil
    each (a ∷ l) e = let h = neither (p a) (some p l) e in h.0 & each l h.1

    no : {l : List A} → All (λ a. p a ≡ false) l → some p l ≡ false
    no nil = refl
    no (h & hs) = ap₂ ◌||◌ h (no hs)

-- so a record needs no more than four digits exactly where they hold all four of its numbers,
pub needs-no-more : (v : List ℕ) → (needs_more v ≡ false) ↔ InFour v
unfolding needs_more
needs-no-more v = ((λ e. small (at.0 e)), λ h. at.1 (large h))
  where
    P : ℕ → Type 0
    P k = leb (power place_digits) (get_or v k 0) ≡ false

    at : (needs_more v ≡ false) ↔ All P places
    at = none-exactly (λ k. leb (power place_digits) (get_or v k 0)) places

    small : All P places → InFour v
    small (a & (b & (c & (d & nil)))) = (leb-false _ _ a, leb-false _ _ b, leb-false _ _ c, leb-false _ _ d)

    large : InFour v → All P places
    large (a, b, c, d) = lt-leb _ _ a & (lt-leb _ _ b & (lt-leb _ _ c & (lt-leb _ _ d & nil)))

-- and a listing is written in four exactly where that is so of all its rows.
pub short-exactly : (vs : List (List ℕ)) → (is_long vs ≡ false) ↔ All InFour vs
unfolding is_long
short-exactly vs =
    let e = none-exactly needs_more vs in
    ((λ h. all_map (λ v. (needs-no-more v).0) (e.0 h)), λ h. e.1 (all_map (λ v. (needs-no-more v).1) h))

-- Looked at one after the other: the first three, of which one is larger,
pub more-before : (v : List ℕ) {t : Bool} → t ≡ true
    → (power place_digits ≤ get_or v start_place 0)
    ⊎ ((get_or v start_place 0 < power place_digits) × (power place_digits ≤ get_or v end_place 0)
    ⊎ (get_or v start_place 0 < power place_digits) × (get_or v end_place 0 < power place_digits) × (power place_digits ≤ get_or v size_place 0))
    → t ≡ needs_more v
unfolding needs_more some
more-before v e (inl a) = e ∙ sym (rw (le-leb _ _ a) refl)
more-before v e (inr (inl (a, b))) = e ∙ sym (rw (lt-leb _ _ a, le-leb _ _ b) refl)
more-before v e (inr (inr (a, b, c))) = e ∙ sym (rw (lt-leb _ _ a, lt-leb _ _ b, le-leb _ _ c) refl)

-- or of which none is, so that the way up says it.
pub more-up : (v : List ℕ) → (get_or v start_place 0 < power place_digits) × (get_or v end_place 0 < power place_digits) × (get_or v size_place 0 < power place_digits)
    → leb (power place_digits) (get_or v up_place 0) ≡ needs_more v
unfolding needs_more some
more-up v (a, b, c) = rw (lt-leb _ _ a, lt-leb _ _ b, lt-leb _ _ c) (sym (or-false _))

-- The test of all rows, as std has it of the elements of a slice.
pub long-any : (vs : List (List ℕ)) → list_any needs_more vs ≡ is_long vs
unfolding is_long some
long-any vs = go vs
  where
    go : (l : List (List ℕ)) → list_any needs_more l ≡ some needs_more l
    go [] = refl
    go (v ∷ l) = ap (λ (b : Bool). needs_more v || b) (go l)
