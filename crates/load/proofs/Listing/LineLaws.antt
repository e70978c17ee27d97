-- Lines read back, of any form: bytes are in form exactly where they begin with a line of it, and its numbers are those that are read.
-- Assumes nothing.
use Rattle.std.specs.Prelude.{◌&&◌, List, [], ◌∷◌, ◌++◌, ◌≡◌, refl, ℕ, zero, suc, ◌+◌, ◌<◌, ◌≤◌, T, eqb, length, get_or, take, drop}
use Rattle.std.proofs.Common.{append_assoc, sym, ap, ap₂, ◌∙◌, subst, arith, eqb→eq, length-append, length-drop, take-append-drop, drop_at, take-add, drop-cons, drop-drop}
use Rattle.std.proofs.Math.Decide.{dec_lt}
use Rattle.std.proofs.Math.Dec.{eqb_refl}
use Rattle.std.proofs.Math.ListN.{get_or-eq_default}
use Rattle.std.proofs.lemmas.List.{get_or_at}
use Rattle.text.proofs.Table.{first-of, second-of, pair}
use Rattle.lines.specs.Hex.{hex}
use Rattle.lines.proofs.Hex.{hex-length}
use Rattle.lines.specs.Form.{after, line_of, wide}
use Rattle.load.specs.Listing.InForm.{Fit}
use Rattle.load.specs.Listing.Read.{digit_of, are_digits, number_of, in_form, values_of}
use Rattle.load.proofs.Listing.DigitLaws.{digit-at, no-digit, digits_are, number-below, hex-digits, hex-back}

-- a byte that is not 0 is there
is-there : (bs : List ℕ) (n : ℕ) → 0 < get_or bs n 0 → n < length bs
is-there bs n h = go (dec_lt n (length bs))
  where
    go : Dec (n < length bs) → n < length bs
    go (yes l) = l
    go (no l) = absurd (omega (arith, get_or-eq_default bs 0 {n = n} (omega arith)))

after-some : (k : ℕ) → 0 < after k
after-some zero = omega arith
after-some (suc k) = omega arith

-- What is tested of the first field: its digits, the byte after it, and the rest of the line.
module _ (n : ℕ) (ns bs : List ℕ) (t : T (in_form (n ∷ ns) bs)) where
  its-digits : T (are_digits n bs)
  unfolding in_form
  its-digits = first-of (are_digits n bs) (eqb (get_or bs n 0) (after (length ns)) && in_form ns (drop (n + 1) bs)) t

  its-rest : T (eqb (get_or bs n 0) (after (length ns)) && in_form ns (drop (n + 1) bs))
  unfolding in_form
  its-rest = second-of (are_digits n bs) (eqb (get_or bs n 0) (after (length ns)) && in_form ns (drop (n + 1) bs)) t

  its-after : get_or bs n 0 ≡ after (length ns)
  its-after = eqb→eq (get_or bs n 0) (after (length ns)) (first-of (eqb (get_or bs n 0) (after (length ns))) (in_form ns (drop (n + 1) bs)) its-rest)

  its-others : T (in_form ns (drop (n + 1) bs))
  its-others = second-of (eqb (get_or bs n 0) (after (length ns))) (in_form ns (drop (n + 1) bs)) its-rest

  its-room : n < length bs
  its-room = is-there bs n (omega (arith, its-after, after-some (length ns)))

-- A line in form is there as a whole,
pub form-long : (ws bs : List ℕ) → T (in_form ws bs) → wide ws ≤ length bs
form-long [] bs t = omega arith
form-long (n ∷ ns) bs t = omega (arith, form-long ns (drop (n + 1) bs) (its-others n ns bs t), its-room n ns bs t, length-drop (n + 1) bs)

-- and is the line of its numbers,
pub line-is : (ws bs : List ℕ) → T (in_form ws bs) → take (wide ws) bs ≡ line_of ws (values_of ws bs)
unfolding line_of values_of
line-is [] bs t = refl
line-is (n ∷ ns) bs t =
    let r = its-room n ns bs t in
    let e : n + 1 + wide ns ≡ n + suc (wide ns) = omega arith in
    let s : suc n ≡ n + 1 = omega arith in
    ap (λ (m : ℕ). take m bs) e
    ∙ take-add n (suc (wide ns)) bs
    ∙ ap (λ (l : List ℕ). take n bs ++ take (suc (wide ns)) l) (drop-cons bs n 0 r)
    ∙ ap (λ (m : ℕ). take n bs ++ (get_or bs n 0 ∷ take (wide ns) (drop m bs))) s
    ∙ λ i. digits_are n bs (omega arith) (its-digits n ns bs t) i ++ (its-after n ns bs t i ∷ line-is ns (drop (n + 1) bs) (its-others n ns bs t) i)

pub line-then : (ws bs : List ℕ) → T (in_form ws bs) → bs ≡ line_of ws (values_of ws bs) ++ drop (wide ws) bs
line-then ws bs t = sym (take-append-drop (wide ws) bs) ∙ ap (λ (l : List ℕ). l ++ drop (wide ws) bs) (line-is ws bs t)

-- which it holds, as many as it has fields.
pub values-fit : (ws bs : List ℕ) → Fit ws (values_of ws bs)
unfolding values_of
values-fit [] bs = tt
values-fit (n ∷ ns) bs = (number-below n bs, values-fit ns (drop (n + 1) bs))

pub values-long : (ws bs : List ℕ) → length (values_of ws bs) ≡ length ws
unfolding values_of
values-long [] bs = refl
values-long (n ∷ ns) bs = ap suc (values-long ns (drop (n + 1) bs))

-- the field, the byte after it, and what follows
field-then : (n v c : ℕ) (l rest : List ℕ) → drop (n + 1) ((hex n v ++ (c ∷ l)) ++ rest) ≡ l ++ rest
field-then n v c l rest =
    ap (drop (n + 1)) (append_assoc (hex n v) (c ∷ l) rest ∙ sym (append_assoc (hex n v) (c ∷ []) (l ++ rest)))
    ∙ drop_at (hex n v ++ (c ∷ [])) (l ++ rest) (n + 1) (omega (arith, hex-length n v, length-append (hex n v) (c ∷ [])))

-- A line of the form is in form, whatever follows,
pub line-in : (ws vs rest : List ℕ) → T (in_form ws (line_of ws vs ++ rest))
unfolding in_form line_of
line-in [] vs rest = tt
line-in (n ∷ ns) vs rest =
    let v = get_or vs 0 0 in
    let c = after (length ns) in
    let l = line_of ns (drop 1 vs) in
    let bs = (hex n v ++ (c ∷ l)) ++ rest in
    let e = append_assoc (hex n v) (c ∷ l) rest in
    let b : get_or bs n 0 ≡ c = ap (λ (x : List ℕ). get_or x n 0) e ∙ get_or_at (hex n v) c (l ++ rest) 0 n (hex-length n v) in
    pair (are_digits n bs) (eqb (get_or bs n 0) c && in_form ns (drop (n + 1) bs)) (subst (λ (x : List ℕ). T (are_digits n x)) (sym e) (hex-digits n v (c ∷ (l ++ rest))))
    (pair (eqb (get_or bs n 0) c) (in_form ns (drop (n + 1) bs)) (subst (λ (x : ℕ). T (eqb x c)) (sym b) (eqb_refl c))
    (subst (λ (x : List ℕ). T (in_form ns x)) (sym (field-then n v c l rest)) (line-in ns (drop 1 vs) rest)))

-- and its numbers are read from it, if it holds them.
pub line-back : (ws vs rest : List ℕ) → Fit ws vs → values_of ws (line_of ws vs ++ rest) ≡ vs
unfolding values_of line_of
line-back [] [] rest f = refl
line-back [] (v ∷ vs) rest f = absurd f
line-back (n ∷ ns) [] rest f = absurd f
line-back (n ∷ ns) (v ∷ vs) rest f =
    let c = after (length ns) in
    let l = line_of ns vs in
    ap₂ (λ (x : ℕ) (y : List ℕ). x ∷ y) (ap (number_of n) (append_assoc (hex n v) (c ∷ l) rest) ∙ hex-back n v (c ∷ (l ++ rest)) f.0)
    (ap (values_of ns) (field-then n v c l rest) ∙ line-back ns vs rest f.1)

-- The fields that a line begins with are read by their widths alone.
pub values-front : (k : ℕ) (ws bs : List ℕ) → values_of (take k ws) bs ≡ take k (values_of ws bs)
unfolding values_of
values-front zero ws bs = refl
values-front (suc k) [] bs = refl
values-front (suc k) (n ∷ ns) bs = ap (λ (l : List ℕ). number_of n bs ∷ l) (values-front k ns (drop (n + 1) bs))

pub wide-front : (k : ℕ) (ws : List ℕ) → wide (take k ws) ≤ wide ws
wide-front zero ws = omega arith
wide-front (suc k) [] = omega arith
wide-front (suc k) (n ∷ ns) = omega (arith, wide-front k ns)

-- A number is read behind the fields before it.
pub value-at : (k : ℕ) (ws bs : List ℕ) → k < length ws → get_or (values_of ws bs) k 0 ≡ number_of (get_or ws k 0) (drop (wide (take k ws)) bs)
unfolding values_of
value-at k [] bs h = absurd (omega arith)
value-at zero (n ∷ ns) bs h = refl
value-at (suc k) (n ∷ ns) bs h =
    value-at k ns (drop (n + 1) bs) (omega arith) ∙ ap (number_of (get_or ns k 0)) (drop-drop (wide (take k ns)) (n + 1) bs)

-- No bytes begin with a line of a form and with one that has more fields behind the same: after the last of those LF stands, or a space.
pub not-both : (ws : List ℕ) (n : ℕ) (ns bs : List ℕ) → 0 < length ws → T (in_form ws bs) → T (in_form (ws ++ (n ∷ ns)) bs) → ⊥
not-both [] n ns bs h t u = absurd (omega arith)
not-both (w ∷ []) n ns bs h t u = let a = its-after w [] bs t in let b = its-after w (n ∷ ns) bs u in absurd (omega arith)
not-both (w ∷ v ∷ ws) n ns bs h t u = not-both (v ∷ ws) n ns (drop (w + 1) bs) (omega arith) (its-others w (v ∷ ws) bs t) (its-others w (v ∷ (ws ++ (n ∷ ns))) bs u)

-- Nor with two forms that share a field and then have fields of two widths: behind the digits of the narrower stands no digit.
pub not-wider : (k n m : ℕ) (ns ms bs : List ℕ) → n < m → T (in_form (k ∷ n ∷ ns) bs) → T (in_form (k ∷ m ∷ ms) bs) → ⊥
not-wider k n m ns ms bs h t u =
    let t = its-others k (n ∷ ns) bs t in
    let u = its-others k (m ∷ ms) bs u in
    let rest = drop (k + 1) bs in
    omega (arith, digit-at m n rest h (its-digits m ms rest u), ap digit_of (its-after n ns rest t), no-digit (length ns))
