-- What `bad_at` says: none exactly where the text is a concatenation of sequences, which are then the only ones; else the place behind sequences at
-- which none stands, and the only such place.
-- Assumes nothing.
use Rattle.std.specs.Prelude.{true, ◌&&◌, List, [], ◌∷◌, ◌++◌, ◌≡◌, refl, ℕ, zero, suc, ◌+◌, ◌≤◌, ◌<◌, length, get_or, take, drop}
use Rattle.std.proofs.Common.{append-nil, sym, ◌∙◌, ap, ap₂, subst, arith, length-append, length-drop, take-append-drop, length-take-le}
use Rattle.std.proofs.Math.Option.{Option, none, some}
use Rattle.std.proofs.Math.Seq.{drop-append_seam, take-append_seam}
use Rattle.text.specs.Counts.{more, place_of}
use Rattle.text.proofs.Counts.{place-zero}
use Rattle.text.proofs.Same.{differ}
use Rattle.text.proofs.Table.{both_left, both_right}
use Rattle.utf8.specs.Utf8.{utf8_char, char_length, behind, bad_from, bad_at}
use Rattle.utf8.specs.Octets.{is_char, all_chars, joined, Octets, WellFormed, Bad}
use Rattle.utf8.proofs.Sequences.{char-apart, one-full, one-sequence, sequence-one, stops-none, ascii-one}
use Rattle.utf8.proofs.Walks.{bad-here, all-passed, Walk, walk}

no-empty : (cs : List (List ℕ)) → (is_char [] && all_chars cs) ≡ true → ⊥
no-empty cs e = differ (sym (one-full 0 utf8_char char-apart) ∙ both_left (is_char []) (all_chars cs) e)

one_way : (cs ds : List (List ℕ)) → all_chars cs ≡ true → all_chars ds ≡ true → joined cs ≡ joined ds → cs ≡ ds
one_way [] [] e f q = refl
one_way ([] ∷ cs) ds e f q = absurd (no-empty cs e)
one_way [] ([] ∷ ds) e f q = absurd (no-empty ds f)
one_way ((b ∷ c) ∷ cs) ([] ∷ ds) e f q = absurd (no-empty ds f)
one_way [] ((b ∷ d) ∷ ds) e f q = let z : 0 ≡ suc (length (d ++ joined ds)) = ap length q in absurd (omega arith)
one_way ((b ∷ c) ∷ cs) [] e f q = let z : suc (length (c ++ joined cs)) ≡ 0 = ap length q in absurd (omega arith)
one_way ((b ∷ c) ∷ cs) ((x ∷ d) ∷ ds) e f q =
    let m = one-sequence 0 utf8_char char-apart b c (joined cs) (both_left (is_char (b ∷ c)) (all_chars cs) e) in
    let n = one-sequence 0 utf8_char char-apart x d (joined ds) (both_left (is_char (x ∷ d)) (all_chars ds) f) in
    let l : suc (length c) ≡ suc (length d) = sym m ∙ ap (λ l. char_length l) q ∙ n in
    let h : b ∷ c ≡ x ∷ d =
    sym (take-append_seam (b ∷ c) (joined cs)) ∙ ap₂ take l q ∙ take-append_seam (x ∷ d) (joined ds) in
    let t : joined cs ≡ joined ds =
    sym (drop-append_seam (b ∷ c) (joined cs)) ∙ ap₂ drop l q ∙ drop-append_seam (x ∷ d) (joined ds) in
    ap₂ (λ y ys. y ∷ ys) h (one_way cs ds (both_right (is_char (b ∷ c)) (all_chars cs) e) (both_right (is_char (x ∷ d)) (all_chars ds) f) t)

-- A text splits into sequences in one way at most.
pub octets-one : (r : List ℕ) (cs ds : List (List ℕ)) → Octets r cs → Octets r ds → cs ≡ ds
octets-one r cs ds o p = one_way cs ds o.chars p.chars (o.whole ∙ sym p.whole)

-- A text that splits into sequences has no bad place,
pub octets-good : (r : List ℕ) (cs : List (List ℕ)) → Octets r cs → bad_at r ≡ none
unfolding bad_at bad_from
octets-good r cs o =
    sym (place-zero (bad_at r))
    ∙ ap (λ l. place_of (bad_at l) 0) (sym o.whole ∙ sym (append-nil (joined cs)))
    ∙ all-passed [] cs 0 o.chars

-- what a walk finds
abbrev Found : List ℕ → Option ℕ → Type 0
Found r none = WellFormed r
Found r (some p) = Bad r p

found : (r : List ℕ) → Found r (bad_at r)
found r = go w.rest w.whole w.stops
  where
    w : Walk r
    w = walk (length r) r (omega arith)

    front : List ℕ
    front = joined w.passed

    go : (t : List ℕ) → front ++ t ≡ r → char_length t ≡ 0 → Found r (bad_at r)
    go [] q e =
        let o : Octets r w.passed = record { chars = w.chars; whole = sym (append-nil front) ∙ q } in
        subst (Found r) (sym (octets-good r w.passed o)) (record { sequences = w.passed; octets = o })
    go (b ∷ t) q e =
        let p = length front in
        let z : bad_at r ≡ some p =
        sym (place-zero (bad_at r)) ∙ ap (λ l. place_of (bad_at l) 0) (sym q) ∙ all-passed (b ∷ t) w.passed 0 w.chars
        ∙ ap (λ x. place_of x (0 + p)) (bad-here b t e) ∙ ap some (let z : 0 + p + 0 ≡ p = omega arith in z) in
        let k : take p r ≡ front = ap (take p) (sym q) ∙ take-append_seam front (b ∷ t) in
        let d : drop p r ≡ b ∷ t = ap (drop p) (sym q) ∙ drop-append_seam front (b ∷ t) in
        subst (Found r) (sym z)
        (record {
          before = record { sequences = w.passed; octets = record { chars = w.chars; whole = sym k } };
          within = omega (arith, ap length q, length-append front (b ∷ t));
          nothing = λ c u o x. stops-none (b ∷ t) e c u o (sym d ∙ x);
        })

-- and one without a bad place splits.
pub good-octets : (r : List ℕ) → bad_at r ≡ none → WellFormed r
good-octets r e = subst (Found r) e (found r)

-- Otherwise the place is the one behind sequences at which none stands; there is no other.
pub bad-place : (r : List ℕ) (p : ℕ) → bad_at r ≡ some p → Bad r p
bad-place r p e = subst (Found r) e (found r)

pub place-bad : (r : List ℕ) (p : ℕ) → Bad r p → bad_at r ≡ some p
place-bad r p h = go (drop p r) refl
  where
    cs : List (List ℕ)
    cs = h.before.sequences

    go : (t : List ℕ) → drop p r ≡ t → bad_at r ≡ some p
    go [] q = let z = length-drop p r in let y : length (drop p r) ≡ 0 = ap length q in let x = h.within in absurd (omega arith)
    go (b ∷ t) q =
        let l : length (joined cs) ≡ p = ap length h.before.octets.whole ∙ length-take-le p r (let x = h.within in omega arith) in
        let whole : joined cs ++ (b ∷ t) ≡ r = ap₂ (λ x y. x ++ y) h.before.octets.whole (sym q) ∙ take-append-drop p r in
        sym (place-zero (bad_at r)) ∙ ap (λ l. place_of (bad_at l) 0) (sym whole) ∙ all-passed (b ∷ t) cs 0 h.before.octets.chars
        ∙ ap (λ x. place_of x (0 + length (joined cs))) (bad-here b t (none-there (char_length (b ∷ t)) refl))
        ∙ ap some (let z : 0 + length (joined cs) + 0 ≡ p = omega arith in z)
      where
        none-there : (n : ℕ) → char_length (b ∷ t) ≡ n → char_length (b ∷ t) ≡ 0
        none-there zero e = e
        none-there (suc n) e = absurd (h.nothing (take (suc n) (b ∷ t)) (drop (suc n) (b ∷ t)) (sequence-one utf8_char (b ∷ t) n e) (q ∙ sym (take-append-drop (suc n) (b ∷ t))))

-- ASCII is well-formed.

pub ascii-good : (r : List ℕ) → ((i : ℕ) → i < length r → get_or r i 0 ≤ 127) → bad_at r ≡ none
unfolding bad_at bad_from
ascii-good [] h = refl
ascii-good (b ∷ r) h =
    let e = ascii-one b r (h 0 (omega arith)) in
    ap (λ n. behind n (bad_from r)) e ∙ ap more (ascii-good r (λ i l. h (suc i) (omega arith)))
