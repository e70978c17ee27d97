-- A sequence in a part of a text, and the first bad place of a part: what a pass over its sequences keeps.
-- Assumes nothing.
use Rattle.std.specs.Prelude.{Bool, true, false, cond, List, [], ◌∷◌, ◌≡◌, length}
use Rattle.std.proofs.Math.Option.{Option, none, some}
use Rattle.std.proofs.Math.Path.{refl, sym, ap}
use Rattle.std.proofs.Common.{◌∙◌, length-drop, drop-cons}
use Prim.Native.Nat.{ℕ, zero, suc, ◌+◌, ◌-◌, ◌≤◌, ◌<◌}
use native.Mathlib.Omega.{arith}
use Rattle.std.proofs.Math.ListN.{get_or, take, drop}
use Rattle.text.specs.Counts.{place_of}
use Rattle.text.proofs.Same.{differ}
use Rattle.text.proofs.Table.{both_left, both_right}
use Rattle.utf8.specs.Utf8.{utf8_char, fits, sequence, char_length, bad_from, bad_at}
use Rattle.utf8.proofs.Sequences.{sequence-length}
use Rattle.utf8.proofs.Walks.{bad-passes, bad-here}
use Rattle.text.specs.Ranges.{Range, of}
use Rattle.text.proofs.Rest.{rest-take, rest-drop}

-- ---- a sequence in a part of a text

fits-part : (a : List Range) (r : List ℕ) (m : ℕ) → length a ≤ m → fits a r ≡ true → fits a (take m r) ≡ true
unfolding fits
fits-part [] r m h e = refl
fits-part (g ∷ gs) [] m h e = differ e
fits-part (g ∷ gs) (b ∷ r) zero h e = absurd (omega arith)
fits-part (g ∷ gs) (b ∷ r) (suc m) h e = rw (both_left (of g b) (fits gs r) e) (fits-part gs r m (omega arith) (both_right (of g b) (fits gs r) e))

part-fits : (a : List Range) (r : List ℕ) (m : ℕ) → fits a (take m r) ≡ true → fits a r ≡ true
unfolding fits
part-fits [] r m e = refl
part-fits (g ∷ gs) [] zero e = differ e
part-fits (g ∷ gs) [] (suc m) e = differ e
part-fits (g ∷ gs) (b ∷ r) zero e = differ e
part-fits (g ∷ gs) (b ∷ r) (suc m) e = rw (both_left (of g b) (fits gs (take m r)) e) (part-fits gs r m (both_right (of g b) (fits gs (take m r)) e))

sequence-part : (alts : List (List Range)) (r : List ℕ) (m : ℕ) → sequence alts r ≤ m → sequence alts (take m r) ≡ sequence alts r
unfolding sequence
sequence-part [] r m h = refl
sequence-part (a ∷ others) r m h = go (fits a r) refl h (sequence-part others r m)
  where
    not-part : (x : Bool) → fits a (take m r) ≡ x → fits a r ≡ false → fits a (take m r) ≡ false
    not-part true p f = differ (sym f ∙ part-fits a r m p)
    not-part false p f = p

    go : (x : Bool) → fits a r ≡ x → cond x (length a) (sequence others r) ≤ m → (sequence others r ≤ m → sequence others (take m r) ≡ sequence others r)
        → cond (fits a (take m r)) (length a) (sequence others (take m r)) ≡ cond x (length a) (sequence others r)
    go true f h later = ap (λ x. cond x (length a) (sequence others (take m r))) (fits-part a r m h f)
    go false f h later = ap (λ x. cond x (length a) (sequence others (take m r))) (not-part (fits a (take m r)) refl f) ∙ later h

-- ---- the first bad place of a part

-- of the part from j up to e
unfoldable pub bad_in : List ℕ → ℕ → ℕ → Option ℕ
bad_in s j e = place_of (bad_at (take (e - j) (drop j s))) j

pub bad-end : (s : List ℕ) (e : ℕ) → bad_in s e e ≡ none
unfolding bad_in bad_at bad_from
bad-end s e = let z : e - e ≡ 0 = omega arith in ap (λ n. place_of (bad_at (take n (drop e s))) e) z

module _ (s : List ℕ) (j e n : ℕ) (q : n ≡ char_length (drop j s)) where
  here : n ≤ e - j → char_length (take (e - j) (drop j s)) ≡ n
  here h = sequence-part utf8_char (drop j s) (e - j) (let z = q in omega arith) ∙ sym q

  pub bad-stays : (n ≡ 0 → ⊥) → j + n ≤ e → bad_in s (j + n) e ≡ bad_in s j e
  unfolding bad_in
  bad-stays z h = go n refl
    where
      go : (k : ℕ) → n ≡ k → place_of (bad_at (take (e - (j + n)) (drop (j + n) s))) (j + n) ≡ place_of (bad_at (take (e - j) (drop j s))) j
      go zero w = absurd (z w)
      go (suc k) w =
          let d : drop (suc k) (take (e - j) (drop j s)) ≡ take (e - (j + suc k)) (drop (j + suc k) s) =
          rest-take (drop j s) (suc k) (e - j) ∙ ap (λ m. take m (drop (suc k) (drop j s))) (let z : e - j - suc k ≡ e - (j + suc k) = omega arith in z)
          ∙ ap (take (e - (j + suc k))) (rest-drop s j (suc k) (j + suc k) refl) in
          ap (λ m. place_of (bad_at (take (e - (j + m)) (drop (j + m) s))) (j + m)) w
          ∙ sym (bad-passes (take (e - j) (drop j s)) k j (here (omega arith) ∙ w) ∙ ap (λ l. place_of (bad_at l) (j + suc k)) d)

  pub bad-found : n ≡ 0 → j < length s → j < e → bad_in s j e ≡ some j
  unfolding bad_in
  bad-found z h k = go (e - j) refl
    where
      go : (m : ℕ) → e - j ≡ m → place_of (bad_at (take (e - j) (drop j s))) j ≡ some j
      go zero w = absurd (omega arith)
      go (suc m) w =
          let d : take (e - j) (drop j s) ≡ get_or s j 0 ∷ take m (drop (suc j) s) = ap (λ n. take n (drop j s)) w ∙ ap (take (suc m)) (drop-cons s j 0 h) in
          let f : char_length (get_or s j 0 ∷ take m (drop (suc j) s)) ≡ 0 = ap (λ l. char_length l) (sym d) ∙ here (omega arith) ∙ z in
          ap (λ l. place_of (bad_at l) j) d ∙ ap (λ x. place_of x j) (bad-here (get_or s j 0) (take m (drop (suc j) s)) f) ∙ ap some (let z : j + 0 ≡ j = omega arith in z)

  pub sequence-within : j ≤ length s → j + n ≤ length s
  sequence-within h = omega (arith, sequence-length utf8_char (drop j s), length-drop j s)

-- from i on up to j there are sequences: the first bad place behind j is the first behind i
pub record Good (s : List ℕ) (i j : ℕ) : Type 0 where
  pub keeps : (e : ℕ) → j ≤ e → bad_in s j e ≡ bad_in s i e

pub good_start : (s : List ℕ) (i : ℕ) → Good s i i
good_start s i = record { keeps = λ e h. refl }

pub good-next : (s : List ℕ) (i j n : ℕ) → Good s i j → n ≡ char_length (drop j s) → (n ≡ 0 → ⊥) → Good s i (j + n)
good-next s i j n g q z = record { keeps = λ e h. bad-stays s j e n q z h ∙ g.keeps e (omega arith) }
