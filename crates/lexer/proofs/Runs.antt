-- Runs of bytes: what a loop over one keeps, and runs of equal tests.
-- Assumes nothing.
use mathlib.Core.Bool.{Bool, true, false, cond, not}
use mathlib.Core.List.{List, [], ◌∷◌}
use mathlib.Core.Path.{◌≡◌, refl, sym, ◌∙◌, ap, subst}
use Prim.Native.Nat.{ℕ, suc, ◌+◌, ◌≤◌, ◌<◌}
use native.Mathlib.Numerals.{add-one}
use native.Mathlib.Omega.{arith}
use borrow.Author.Tests.{ltb-false}
use lib.Dec.{ltb}
use Rattle.std.specs.Prelude.{Option, Some, None}
use Rattle.std.specs.List.{position, position_or_len}
use Rattle.std.specs.Option.{MatchOption}
use Rattle.std.proofs.lemmas.List.Recursion.{is_position_or_len}
use Rattle.std.proofs.lemmas.List.Sums.{prefix_len-le-length}
use lib.ListN.{length, get_or, drop, length-drop, drop_of_length-le}
use lib.Seq.{drop-cons}
use Rattle.lexer.specs.Chars.{run}

-- where the run from i on ends
abbrev pub run_end : (ℕ → Bool) → List ℕ → ℕ → ℕ
run_end p s i = i + run p (drop i s)

-- one byte more of a run, if it passes
abbrev grown : Bool → ℕ → ℕ
grown t n = elim t [ true ↦ suc n | false ↦ 0 ]

pub run-true : (p : ℕ → Bool) (b : ℕ) (r : List ℕ) → p b ≡ true → run p (b ∷ r) ≡ suc (run p r)
unfolding run
run-true p b r e = ap (λ t. grown t (run p r)) e

run-false : (p : ℕ → Bool) (b : ℕ) (r : List ℕ) → p b ≡ false → run p (b ∷ r) ≡ 0
unfolding run
run-false p b r e = ap (λ t. grown t (run p r)) e

module _ (p : ℕ → Bool) (s : List ℕ) (j : ℕ) where
  pub run_in : j < length s → p (get_or s j 0) ≡ true → run_end p s (j + 1) ≡ run_end p s j
  run_in h e =
      let q : run p (drop j s) ≡ suc (run p (drop (suc j) s)) = ap (run p) (drop-cons s j 0 h) ∙ run-true p (get_or s j 0) (drop (suc j) s) e in
      let a : run p (drop (j + 1) s) ≡ run p (drop (suc j) s) = ap (λ n. run p (drop n s)) (add-one j) in
      omega arith

  pub run_out : j < length s → p (get_or s j 0) ≡ false → j ≡ run_end p s j
  run_out h e =
      let q : run p (drop j s) ≡ 0 = ap (run p) (drop-cons s j 0 h) ∙ run-false p (get_or s j 0) (drop (suc j) s) e in
      omega arith

  pub run-over : length s ≤ j → j ≡ run_end p s j
  unfolding run
  run-over h = let q : run p (drop j s) ≡ 0 = ap (run p) (drop_of_length-le s h) in omega arith

-- where a run that goes on at j ends, by the byte there
module _ (p : ℕ → Bool) (s : List ℕ) (i j : ℕ) (v : run_end p s j ≡ run_end p s i) (h : j < length s) where
  run-goes-on : (k : ℕ) → j + 1 ≡ k → p (get_or s j 0) ≡ true → run_end p s k ≡ run_end p s i
  run-goes-on k q e = ap (run_end p s) (sym q) ∙ run_in p s j h e ∙ v

  pub run-ends : p (get_or s j 0) ≡ false → j ≡ run_end p s i
  run-ends e = run_out p s j h e ∙ v

-- the same behind one to four bytes that pass
module _ (p : ℕ → Bool) (s : List ℕ) (i j : ℕ) (v : run_end p s j ≡ run_end p s i) (h : j + 3 < length s) where
  pub run-behind-one : p (get_or s j 0) ≡ true → run_end p s (j + 1) ≡ run_end p s i
  run-behind-one = run-goes-on p s i j v (omega (arith, h)) (j + 1) refl

  pub run-behind-two : p (get_or s j 0) ≡ true → p (get_or s (j + 1) 0) ≡ true → run_end p s (j + 2) ≡ run_end p s i
  run-behind-two a b = run-goes-on p s i (j + 1) (run-behind-one a) (omega (arith, h)) (j + 2) (omega arith) b

  pub run-behind-three : p (get_or s j 0) ≡ true → p (get_or s (j + 1) 0) ≡ true → p (get_or s (j + 2) 0) ≡ true → run_end p s (j + 3) ≡ run_end p s i
  run-behind-three a b c = run-goes-on p s i (j + 2) (run-behind-two a b) (omega (arith, h)) (j + 3) (omega arith) c

  pub run-behind-four : p (get_or s j 0) ≡ true → p (get_or s (j + 1) 0) ≡ true → p (get_or s (j + 2) 0) ≡ true → p (get_or s (j + 3) 0) ≡ true
      → run_end p s (j + 4) ≡ run_end p s i
  run-behind-four a b c d = run-goes-on p s i (j + 3) (run-behind-three a b c) h (j + 4) (omega arith) d

-- a run is as long as what lies before the first byte that fails
run-position : (p : ℕ → Bool) (r : List ℕ) → run p r ≡ position_or_len (λ b. not (p b)) r
unfolding run
run-position p = is_position_or_len (run p) (λ b. not (p b)) refl (λ b r. turned (p b) (run p r))
  where
    turned : (t : Bool) (n : ℕ) → grown t n ≡ cond (not t) 0 (1 + n)
    turned true n = omega arith
    turned false n = refl

-- the place that is found, or the end
pub run_placed : (p : ℕ → Bool) (i : ℕ) (s : List ℕ) (e : ℕ) {o : Option ℕ} {Behind : ℕ → Type 0} → i ≤ length s
    → o ≡ position (λ b. not (p b)) (drop i s) → MatchOption o (e ≡ length s) Behind → ((n : ℕ) → Behind n → e ≡ i + n) → e ≡ run_end p s i
run_placed p i s e {Behind = Behind} h q m a = go (ltb k (length (drop i s))) refl
  where
    k : ℕ
    k = position_or_len (λ b. not (p b)) (drop i s)

    told : (t : Bool) → ltb k (length (drop i s)) ≡ t → MatchOption (cond t (Some k) None) (e ≡ length s) Behind
    told t f = subst (λ o. MatchOption o (e ≡ length s) Behind) (q ∙ ap (λ t. cond t (Some k) None) f) m

    go : (t : Bool) → ltb k (length (drop i s)) ≡ t → e ≡ run_end p s i
    go true f = a k (told true f) ∙ ap (λ n. i + n) (sym (run-position p (drop i s)))
    go false f =
        let l = prefix_len-le-length (λ b. not (not (p b))) (drop i s) in
        omega (arith, told false f, ltb-false _ _ f, l, length-drop i s, run-position p (drop i s), h)

-- tests that agree have the same runs
pub run-same : (p q : ℕ → Bool) → ((b : ℕ) → p b ≡ q b) → (r : List ℕ) → run p r ≡ run q r
unfolding run
run-same p q h [] = refl
run-same p q h (b ∷ r) = ap (λ t. grown t (run p r)) (h b) ∙ ap (λ n. grown (q b) n) (run-same p q h r)

-- a run stays within the text
pub run-within : (p : ℕ → Bool) (r : List ℕ) → run p r ≤ length r
unfolding run
run-within p [] = omega arith
run-within p (b ∷ r) = go (p b) (run-within p r)
  where
    go : (t : Bool) → run p r ≤ length r → grown t (run p r) ≤ suc (length r)
    go true e = omega arith
    go false e = omega arith

pub run-end-within : (p : ℕ → Bool) (s : List ℕ) (i : ℕ) → i ≤ length s → run_end p s i ≤ length s
run-end-within p s i h = omega (arith, run-within p (drop i s), length-drop i s)
