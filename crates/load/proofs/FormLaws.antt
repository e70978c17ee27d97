-- Laws of the forms: no text begins with lines of two, the numbers of lines are those of records exactly where the ways up that they give are right, and
-- lines of 49 bytes are needed exactly where those of 41 do not hold the numbers.
-- Assumes nothing.
use Rattle.std.specs.Prelude.{Bool, true, false, cond, List, [], ◌∷◌, map, ◌≡◌, refl, ℕ, suc, ◌+◌, ◌<◌, T, length, get_or, drop}
use Rattle.std.proofs.Common.{sym, ap, ◌∙◌, subst, arith, get_or-drop}
use Rattle.std.proofs.lemmas.List.{length-map}
use Rattle.text.specs.Same.{same}
use Rattle.text.proofs.SameLaws.{same_true, same_self}
use Rattle.text.proofs.Table.{is_true, is_false}
use Rattle.own.specs.Tree.{Rec}
use Rattle.own.specs.Lists.{All, nil, ◌&◌}
use Rattle.own.proofs.Lists.{all_map, all_both}
use Rattle.up.specs.Ways.{six, seven, sevens, ways_up, way_up, size_of, rows}
use Rattle.up.proofs.Laws.{back-within, each-length, each-at, sevens-many}
use Rattle.lines.specs.Hex.{power}
use Rattle.lines.specs.Lines.{six_widths, widths, long_widths, sized, with_way, place_digits, long_digits, InFour, is_long, widths_for, widths_by}
use Rattle.lines.proofs.Lines.{short-exactly}
use Rattle.load.specs.Form.{Form, older, newer, longer, widths_of, rows_of, form_of}
use Rattle.load.specs.Load.{ways_given, ways_right}
use Rattle.load.specs.Listing.InForm.{Fit, Fitting}
use Rattle.load.specs.Listing.Read.{in_form, rec_of, up_of}
use Rattle.load.proofs.Listing.LineLaws.{form-long, not-both, not-wider}

pub some-fields : (f : Form) → 0 < length (widths_of f)
some-fields older = omega arith
some-fields newer = omega arith
some-fields longer = omega arith

-- What begins with no line of the other two is held against the newer, as a text without bytes is.
pub form-newer : (text : List ℕ) → (T (in_form six_widths text) → ⊥) → (T (in_form long_widths text) → ⊥) → form_of text ≡ newer
form-newer text n m =
    λ i. cond (is_false (in_form six_widths text) n i) older (cond (is_false (in_form long_widths text) m i) longer newer)

pub form-none : (text : List ℕ) → length text ≡ 0 → form_of text ≡ newer
form-none text e = form-newer text (λ t. omega (arith, form-long six_widths text t)) (λ t. omega (arith, form-long long_widths text t))

-- The form of the first line is that of the listing.
pub form-is : (f : Form) (text : List ℕ) → T (in_form (widths_of f) text) → form_of text ≡ f
form-is older text t = ap (λ (b : Bool). cond b older (cond (in_form long_widths text) longer newer)) (is_true (in_form six_widths text) t)
form-is newer text t =
    form-newer text (λ u. not-both six_widths place_digits [] text (omega arith) u t) (λ u. not-wider _ place_digits long_digits _ _ text (omega arith) t u)
form-is longer text t =
    λ i. cond (is_false (in_form six_widths text) (λ u. not-wider _ place_digits long_digits _ _ text (omega arith) u t) i) older
    (cond (is_true (in_form long_widths text) t i) longer newer)

-- It is told by the two tests of the code.
pub form-told : (text : List ℕ) {a b c d : Bool} → a ≡ in_form six_widths text → a ≡ c → b ≡ in_form long_widths text → b ≡ d
    → cond c older (cond d longer newer) ≡ form_of text
form-told text s c l d = λ i. cond ((sym c ∙ s) i) older (cond ((sym d ∙ l) i) longer newer)

-- Records are read back from their numbers,
six-back : (rs : List Rec) → map rec_of (map six rs) ≡ rs
six-back [] = refl
six-back (r ∷ rs) = ap (λ (l : List Rec). r ∷ l) (six-back rs)

sevens-back : (us : List ℕ) (rs : List Rec) → map rec_of (sevens us rs) ≡ rs
sevens-back us [] = refl
sevens-back us (r ∷ rs) = ap (λ (l : List Rec). r ∷ l) (sevens-back (drop 1 us) rs)

pub rows-back : (f : Form) (rs : List Rec) → map rec_of (rows_of f rs) ≡ rs
rows-back older rs = six-back rs
rows-back newer rs = sevens-back (ways_up rs) rs
rows-back longer rs = sevens-back (ways_up rs) rs

-- as many as there are,
pub rows-many : (f : Form) (rs : List Rec) → length (rows_of f rs) ≡ length rs
rows-many older rs = length-map rs six
rows-many newer rs = sevens-many (ways_up rs) rs
rows-many longer rs = sevens-many (ways_up rs) rs

-- and so are their ways up.
ups-back : (us : List ℕ) (rs : List Rec) → length us ≡ length rs → map up_of (sevens us rs) ≡ us
ups-back [] [] e = refl
ups-back [] (r ∷ rs) e = absurd (omega arith)
ups-back (u ∷ us) [] e = absurd (omega arith)
ups-back (u ∷ us) (r ∷ rs) e = ap (λ (l : List ℕ). u ∷ l) (ups-back us rs (omega arith))

rows-given : (rs : List Rec) → T (ways_given (rows rs))
rows-given rs =
    let us = ways_up rs in
    let e : map up_of (rows rs) ≡ us = ups-back us rs (each-length (way_up (size_of rs)) (length rs)) in
    rw (e, sevens-back us rs, same_self us) tt

pub rows-right : (f : Form) (rs : List Rec) → T (ways_right f (rows_of f rs))
unfolding ways_right
rows-right older rs = tt
rows-right newer rs = rows-given rs
rows-right longer rs = rows-given rs

-- The numbers that fit a form are those of their records.
six-of : (v : List ℕ) → Fit six_widths v → six (rec_of v) ≡ v
six-of [] x = absurd x
six-of (a ∷ []) x = absurd x.1
six-of (a ∷ b ∷ []) x = absurd x.1.1
six-of (a ∷ b ∷ c ∷ []) x = absurd x.1.1.1
six-of (a ∷ b ∷ c ∷ d ∷ []) x = absurd x.1.1.1.1
six-of (a ∷ b ∷ c ∷ d ∷ e ∷ []) x = absurd x.1.1.1.1.1
six-of (a ∷ b ∷ c ∷ d ∷ e ∷ f ∷ []) x = refl
six-of (a ∷ b ∷ c ∷ d ∷ e ∷ f ∷ g ∷ v) x = absurd x.1.1.1.1.1.1

seven-of : (n : ℕ) (v : List ℕ) → Fit (with_way n) v → seven (rec_of v) (up_of v) ≡ v
seven-of n [] x = absurd x
seven-of n (a ∷ []) x = absurd x.1
seven-of n (a ∷ b ∷ []) x = absurd x.1.1
seven-of n (a ∷ b ∷ c ∷ []) x = absurd x.1.1.1
seven-of n (a ∷ b ∷ c ∷ d ∷ []) x = absurd x.1.1.1.1
seven-of n (a ∷ b ∷ c ∷ d ∷ e ∷ []) x = absurd x.1.1.1.1.1
seven-of n (a ∷ b ∷ c ∷ d ∷ e ∷ f ∷ []) x = absurd x.1.1.1.1.1.1
seven-of n (a ∷ b ∷ c ∷ d ∷ e ∷ f ∷ g ∷ []) x = refl
seven-of n (a ∷ b ∷ c ∷ d ∷ e ∷ f ∷ g ∷ h ∷ v) x = absurd x.1.1.1.1.1.1.1

six-are : {vs : List (List ℕ)} → Fitting six_widths vs → map six (map rec_of vs) ≡ vs
six-are nil = refl
six-are (◌&◌ {a = v} p h) = λ i. six-of v p i ∷ six-are h i

sevens-are : (n : ℕ) {vs : List (List ℕ)} → Fitting (with_way n) vs → sevens (map up_of vs) (map rec_of vs) ≡ vs
sevens-are n nil = refl
sevens-are n (◌&◌ {a = v} p h) = λ i. seven-of n v p i ∷ sevens-are n h i

-- So lines that give the right ways up are those of their records.
given-are : (n : ℕ) (vs : List (List ℕ)) → Fitting (with_way n) vs → T (ways_given vs) → vs ≡ rows (map rec_of vs)
given-are n vs h t =
    let us = ways_up (map rec_of vs) in
    let e : map up_of vs ≡ us = same_true (map up_of vs) us (is_true (same (map up_of vs) us) t) in
    sym (ap (λ (l : List ℕ). sevens l (map rec_of vs)) (sym e) ∙ sevens-are n h)

pub rows-are : (f : Form) (vs : List (List ℕ)) → Fitting (widths_of f) vs → T (ways_right f vs) → vs ≡ rows_of f (map rec_of vs)
unfolding ways_right
rows-are older vs h t = sym (six-are h)
rows-are newer vs h t = given-are place_digits vs h t
rows-are longer vs h t = given-are long_digits vs h t

-- Records fit lines with a way up where they fit those without and are few: a way up is no more than the number of its record.
sevens-fit : (n : ℕ) (us : List ℕ) {rs : List Rec} → All (λ r. Fit (sized n) (six r)) rs → ((j : ℕ) → j < length rs → get_or us j 0 < power n)
    → Fitting (with_way n) (sevens us rs)
sevens-fit n us nil f = nil
sevens-fit n us (◌&◌ {l = rs} (k, (b, (e, (l, (h, (s, _)))))) hs) f =
    (k, (b, (e, (l, (h, (s, (f 0 (omega arith), tt)))))))
    & sevens-fit n (drop 1 us) hs (λ j i. let e : 1 + j ≡ suc j = omega arith in omega (arith, f (suc j) (omega arith), get_or-drop 1 us j 0 ∙ ap (λ (k : ℕ). get_or us k 0) e))

pub rows-fit : (n : ℕ) (rs : List Rec) → All (λ r. Fit (sized n) (six r)) rs → length rs < power n → Fitting (with_way n) (rows rs)
rows-fit n rs h few =
    sevens-fit n (ways_up rs) h (λ j i. omega (arith, each-at (way_up (size_of rs)) (length rs) j i, back-within (size_of rs) j j))

-- Lines of 41 bytes are enough where they hold the numbers:
in-four : (v : List ℕ) → Fit widths v → InFour v
in-four v h =
    let e = seven-of place_digits v h in
    let (_, (b, (e₁, (_, (_, (s, (w, _))))))) = subst (Fit widths) (sym e) h in
    subst InFour e (b, e₁, s, w)

pub fits-short : (vs : List (List ℕ)) → Fitting widths vs → is_long vs ≡ false
fits-short vs h = (short-exactly vs).1 (all_map in-four h)

-- they hold what those of 49 do, where four digits hold the places;
from-four : (v : List ℕ) → Fit long_widths v × InFour v → Fit widths v
from-four v (h, f) =
    let e = seven-of long_digits v h in
    let (k, (_, (_, (l, (h₁, _))))) = subst (Fit long_widths) (sym e) h in
    let (b, e₁, s, w) = subst InFour (sym e) f in
    subst (Fit widths) e (k, (b, (e₁, (l, (h₁, (s, (w, tt)))))))

-- so the widths in which numbers are written hold them where those of 49 bytes do.
pub widths-fit : (vs : List (List ℕ)) → Fitting long_widths vs → Fitting (widths_for vs) vs
widths-fit vs h = go (is_long vs) refl
  where
    go : (b : Bool) → is_long vs ≡ b → Fitting (widths_by b) vs
    go true e = h
    go false e = all_map from-four (all_both h ((short-exactly vs).0 e))
