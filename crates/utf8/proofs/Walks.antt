-- Sequences one behind the other: the first bad place of a text is behind those that it begins with.
-- Assumes nothing.
use Rattle.std.specs.Prelude.{true, List, [], ◌∷◌, ◌++◌, ◌≡◌, refl, ℕ, zero, suc, ◌+◌, ◌≤◌, length, take, drop}
use Rattle.std.proofs.Common.{append_assoc, sym, ◌∙◌, ap, arith, length-append, length-drop, take-append-drop}
use Rattle.std.proofs.Math.Option.{some}
use Rattle.std.proofs.Math.Seq.{drop-append_seam}
use Rattle.text.specs.Counts.{place_of}
use Rattle.text.proofs.Counts.{place-more}
use Rattle.text.proofs.Same.{differ}
use Rattle.text.proofs.Table.{both_left, both_right}
use Rattle.utf8.specs.Utf8.{utf8_char, char_length, behind, bad_from, bad_at}
use Rattle.utf8.specs.Octets.{is_char, all_chars, joined}
use Rattle.utf8.proofs.Sequences.{char-apart, one-full, one-sequence, sequence-one, sequence-length}

bad-behind : (r : List ℕ) (k j : ℕ) → place_of (bad_from r k) j ≡ place_of (bad_from (drop k r) 0) (j + k)
unfolding bad_from
bad-behind [] zero j = refl
bad-behind [] (suc k) j = refl
bad-behind (b ∷ r) zero j = ap (place_of (bad_from (b ∷ r) 0)) (let z : j ≡ j + 0 = omega arith in z)
bad-behind (b ∷ r) (suc k) j =
    place-more (bad_from r k) j ∙ bad-behind r k (j + 1) ∙ ap (place_of (bad_from (drop k r) 0)) (let z : j + 1 + k ≡ j + suc k = omega arith in z)

-- a sequence at the front is passed
pub bad-passes : (r : List ℕ) (n j : ℕ) → char_length r ≡ suc n → place_of (bad_at r) j ≡ place_of (bad_at (drop (suc n) r)) (j + suc n)
unfolding bad_at bad_from
bad-passes [] n j e = let h = sequence-length utf8_char [] in absurd (omega arith)
bad-passes (b ∷ r) n j e =
    ap (λ k. place_of (behind k (bad_from r)) j) e ∙ place-more (bad_from r n) j ∙ bad-behind r n (j + 1)
    ∙ ap (place_of (bad_from (drop n r) 0)) (let z : j + 1 + n ≡ j + suc n = omega arith in z)

-- where none stands the place is bad
pub bad-here : (b : ℕ) (r : List ℕ) → char_length (b ∷ r) ≡ 0 → bad_at (b ∷ r) ≡ some 0
unfolding bad_at bad_from
bad-here b r e = ap (λ k. behind k (bad_from r)) e

-- ---- a text of sequences, and what follows it

module _ (rest : List ℕ) where
  pub all-passed : (cs : List (List ℕ)) (j : ℕ) → all_chars cs ≡ true → place_of (bad_at (joined cs ++ rest)) j ≡ place_of (bad_at rest) (j + length (joined cs))
  all-passed [] j e = ap (place_of (bad_at rest)) (let z : j ≡ j + 0 = omega arith in z)
  all-passed ([] ∷ cs) j e = differ (sym (one-full 0 utf8_char char-apart) ∙ both_left (is_char []) (all_chars cs) e)
  all-passed ((b ∷ c) ∷ cs) j e =
      let r = c ++ (joined cs ++ rest) in
      let q : char_length (b ∷ r) ≡ suc (length c) = one-sequence 0 utf8_char char-apart b c (joined cs ++ rest) (both_left (is_char (b ∷ c)) (all_chars cs) e) in
      let l : j + suc (length c) + length (joined cs) ≡ j + length ((b ∷ c) ++ joined cs) = omega (arith, length-append (b ∷ c) (joined cs)) in
      ap (λ l. place_of (bad_at (b ∷ l)) j) (append_assoc c (joined cs) rest)
      ∙ bad-passes (b ∷ r) (length c) j q
      ∙ ap (λ l. place_of (bad_at l) (j + suc (length c))) (drop-append_seam c (joined cs ++ rest))
      ∙ all-passed cs (j + suc (length c)) (both_right (is_char (b ∷ c)) (all_chars cs) e)
      ∙ ap (place_of (bad_at rest)) l

-- the sequences at the front of a text, up to where none stands
pub record Walk (r : List ℕ) : Type 0 where
  pub passed : List (List ℕ)
  pub rest : List ℕ
  pub chars : all_chars passed ≡ true
  pub whole : joined passed ++ rest ≡ r
  pub stops : char_length rest ≡ 0

pub walk : (fuel : ℕ) (r : List ℕ) → length r ≤ fuel → Walk r
walk zero r h = record { passed = []; rest = r; chars = refl; whole = refl; stops = (let z = sequence-length utf8_char r in omega arith) }
walk (suc fuel) r h = go (char_length r) refl (walk fuel)
  where
    go : (n : ℕ) → char_length r ≡ n → ((r : List ℕ) → length r ≤ fuel → Walk r) → Walk r
    go zero e further = record { passed = []; rest = r; chars = refl; whole = refl; stops = e }
    go (suc n) e further =
        let w = further (drop (suc n) r) (omega (arith, length-drop (suc n) r, sequence-length utf8_char r)) in
        record {
          passed = take (suc n) r ∷ w.passed;
          rest = w.rest;
          chars = (rw (sequence-one utf8_char r n e) w.chars);
          whole = append_assoc (take (suc n) r) (joined w.passed) w.rest ∙ ap (λ l. take (suc n) r ++ l) w.whole ∙ take-append-drop (suc n) r;
          stops = w.stops;
        }
