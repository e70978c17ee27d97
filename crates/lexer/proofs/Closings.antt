-- Where a block comment is closed, step by step: two bytes that open or close one, one byte that does neither, a sequence of bytes over 127.
-- Assumes nothing.
use mathlib.Core.Bool.{Bool, true, false, cond, ◌&&◌}
use mathlib.Core.List.{List, [], ◌∷◌}
use mathlib.Core.Option.{Option, none, some}
use mathlib.Core.Path.{◌≡◌, refl, sym, ◌∙◌, ap}
use Prim.Native.Nat.{ℕ, zero, suc, ◌+◌, ◌-◌, ◌≤◌, ◌<◌}
use native.Mathlib.Numerals.{add-one}
use native.Mathlib.Omega.{arith}
use borrow.Author.Tests.{ne_eqb, eqb-true, ltb-true}
use lib.Dec.{eqb, ltb}
use lib.ListN.{length, get_or, drop, length-drop}
use lib.Seq.{drop-cons}
use Rattle.text.specs.Counts.{more, place_of}
use Rattle.text.proofs.Counts.{place-more}
use Rattle.text.proofs.Same.{differ}
use Rattle.text.proofs.Table.{both_left, both_right}
use Rattle.utf8.proofs.Sequences.{high}
use Rattle.lexer.specs.Chars.{first}
use Rattle.lexer.specs.Lexemes.{closed, within, inside, onward, closing}
use Rattle.lexer.specs.Trivia.{edge_of}
use Rattle.lexer.specs.declared.trivia.Edge.TheVariants.{Opens, Closes, Neither}
use Rattle.lexer.proofs.Rest.{rest-first, rest-cons, there}

-- ---- what two bytes do

module _ (b c : ℕ) where
  pub edge-opens : Opens ≡ edge_of b c → (b ≡ 47) × (c ≡ 42)
  edge-opens e = go (eqb b 47 && eqb c 42) refl (eqb b 42 && eqb c 47) e
    where
      go : (x : Bool) → (eqb b 47 && eqb c 42) ≡ x → (y : Bool) → Opens ≡ cond x Opens (cond y Closes Neither) → (b ≡ 47) × (c ≡ 42)
      go true p y e = (eqb-true b 47 (both_left (eqb b 47) (eqb c 42) p), eqb-true c 42 (both_right (eqb b 47) (eqb c 42) p))
      go false p true e = let z : ◌≡◌ {A = ℕ} 0 1 = cc in absurd (omega arith)
      go false p false e = let z : ◌≡◌ {A = ℕ} 0 1 = cc in absurd (omega arith)

  pub edge-closes : Closes ≡ edge_of b c → (b ≡ 42) × (c ≡ 47)
  edge-closes e = go (eqb b 47 && eqb c 42) (eqb b 42 && eqb c 47) refl e
    where
      go : (x y : Bool) → (eqb b 42 && eqb c 47) ≡ y → Closes ≡ cond x Opens (cond y Closes Neither) → (b ≡ 42) × (c ≡ 47)
      go true y q e = let z : ◌≡◌ {A = ℕ} 0 1 = cc in absurd (omega arith)
      go false true q e = (eqb-true b 42 (both_left (eqb b 42) (eqb c 47) q), eqb-true c 47 (both_right (eqb b 42) (eqb c 47) q))
      go false false q e = let z : ◌≡◌ {A = ℕ} 0 1 = cc in absurd (omega arith)

  pub opens : b ≡ 47 → c ≡ 42 → Opens ≡ edge_of b c
  opens e f = rw (e, f) refl

  pub closes : b ≡ 42 → c ≡ 47 → Closes ≡ edge_of b c
  closes e f = rw (e, f) refl

  neither : (b ≡ 47 → c ≡ 42 → ⊥) → (b ≡ 42 → c ≡ 47 → ⊥) → Neither ≡ edge_of b c
  neither f g = go (eqb b 47) refl (eqb c 42) refl (eqb b 42) refl (eqb c 47) refl
    where
      go : (w : Bool) → eqb b 47 ≡ w → (x : Bool) → eqb c 42 ≡ x → (y : Bool) → eqb b 42 ≡ y → (z : Bool) → eqb c 47 ≡ z
          → Neither ≡ cond (w && x) Opens (cond (y && z) Closes Neither)
      go true p true q y r z s = absurd (f (eqb-true b 47 p) (eqb-true c 42 q))
      go true p false q true r true s = absurd (g (eqb-true b 42 r) (eqb-true c 47 s))
      go true p false q true r false s = refl
      go true p false q false r z s = refl
      go false p x q true r true s = absurd (g (eqb-true b 42 r) (eqb-true c 47 s))
      go false p x q true r false s = refl
      go false p x q false r z s = refl

  pub past-neither : 47 < b → Neither ≡ edge_of b c
  past-neither h = neither (λ e _. absurd (omega arith)) (λ e _. absurd (omega arith))

  pub first-neither : (b ≡ 47 → ⊥) → (b ≡ 42 → ⊥) → Neither ≡ edge_of b c
  first-neither n m = neither (λ e _. n e) (λ e _. m e)

  -- a byte behind one with which it makes no mark is as any other
  inside-neither : (d : ℕ) → Neither ≡ edge_of b c → inside d b c ≡ within d c
  unfolding inside
  inside-neither d e = go (eqb b 47 && eqb c 42) (eqb b 42 && eqb c 47) e
    where
      go : (x y : Bool) → Neither ≡ cond x Opens (cond y Closes Neither) → cond x (within (d + 1) 0) (cond y (cond (eqb d 0) closed (within (d - 1) 0)) (within d c)) ≡ within d c
      go true y e = let z : ◌≡◌ {A = ℕ} 0 1 = cc in absurd (omega arith)
      go false true e = let z : ◌≡◌ {A = ℕ} 0 1 = cc in absurd (omega arith)
      go false false e = refl

-- ---- one step

pub forgotten : (r : List ℕ) (d p : ℕ) → Neither ≡ edge_of p (first r) → closing r d p ≡ closing r d 0
unfolding closing inside
forgotten [] d p e = refl
forgotten (b ∷ r) d p e = ap (λ t. onward t (closing r)) (inside-neither p b d e)

one_on : (b : ℕ) (r : List ℕ) (d : ℕ) → Neither ≡ edge_of b (first r) → closing (b ∷ r) d 0 ≡ more (closing r d 0)
unfolding closing inside
one_on b r d e = ap more (forgotten r d b e)

opens-on : (r : List ℕ) (d : ℕ) → closing (47 ∷ 42 ∷ r) d 0 ≡ more (more (closing r (d + 1) 0))
unfolding closing inside
opens-on r d = refl

closes-on : (r : List ℕ) (d : ℕ) → (d ≡ 0 → ⊥) → closing (42 ∷ 47 ∷ r) d 0 ≡ more (more (closing r (d - 1) 0))
unfolding closing inside
closes-on r d n = simp (ne_eqb d 0 n)

closes-last : (r : List ℕ) → closing (42 ∷ 47 ∷ r) 0 0 ≡ some 2
unfolding closing inside
closes-last r = refl

pub high-on : (k : ℕ) (r : List ℕ) (d j : ℕ) → high k r ≡ true → place_of (closing (drop k r) d 0) (j + k) ≡ place_of (closing r d 0) j
unfolding high
high-on zero r d j e = ap (place_of (closing r d 0)) (let z : j + 0 ≡ j = omega arith in z)
high-on (suc k) [] d j e = differ e
high-on (suc k) (b ∷ r) d j e =
    ap (place_of (closing (drop k r) d 0)) (let z : j + suc k ≡ j + 1 + k = omega arith in z)
    ∙ high-on k r d (j + 1) (both_right (ltb 127 b) (high k r) e)
    ∙ sym (place-more (closing r d 0) j)
    ∙ sym (ap (λ x. place_of x j) (one_on b r d (past-neither b (first r) (let h = ltb-true 127 b (both_left (ltb 127 b) (high k r) e) in omega arith))))

place-two : (x : Option ℕ) (j : ℕ) → place_of (more (more x)) j ≡ place_of x (j + 2)
place-two none j = refl
place-two (some n) j = ap some (let z : j + suc (suc n) ≡ j + 2 + n = omega arith in z)

-- ---- the same at a place of a draft

module _ (s : List ℕ) (j d : ℕ) where
  -- two bytes
  two_here : (a b : ℕ) → j < length s → get_or s j 0 ≡ a → get_or s (j + 1) 0 ≡ suc b → drop j s ≡ a ∷ suc b ∷ drop (j + 2) s
  two_here a b h e f =
      let g : get_or s (suc j) 0 ≡ suc b = ap (λ n. get_or s n 0) (sym (add-one j)) ∙ f in
      rest-cons s j a h e ∙ ap (λ l. a ∷ l) (rest-cons s (suc j) (suc b) (there s (suc j) b g) g ∙ ap (λ n. suc b ∷ drop n s) (let z : suc (suc j) ≡ j + 2 = omega arith in z))

  module _ (h : j < length s) where
    pub two-within : Opens ≡ edge_of (get_or s j 0) (get_or s (j + 1) 0) → j + 2 ≤ length s
    two-within e = let z = there s (j + 1) 41 (edge-opens (get_or s j 0) (get_or s (j + 1) 0) e).1 in omega arith

    pub two-inside : Closes ≡ edge_of (get_or s j 0) (get_or s (j + 1) 0) → j + 2 ≤ length s
    two-inside e = let z = there s (j + 1) 46 (edge-closes (get_or s j 0) (get_or s (j + 1) 0) e).1 in omega arith

    closing-opens : Opens ≡ edge_of (get_or s j 0) (get_or s (j + 1) 0) → closing (drop j s) d 0 ≡ more (more (closing (drop (j + 2) s) (d + 1) 0))
    closing-opens e =
        let p = edge-opens (get_or s j 0) (get_or s (j + 1) 0) e in
        ap (λ l. closing l d 0) (two_here 47 41 h p.0 p.1) ∙ opens-on (drop (j + 2) s) d

    closing-closes : Closes ≡ edge_of (get_or s j 0) (get_or s (j + 1) 0) → (d ≡ 0 → ⊥) → closing (drop j s) d 0 ≡ more (more (closing (drop (j + 2) s) (d - 1) 0))
    closing-closes e n =
        let p = edge-closes (get_or s j 0) (get_or s (j + 1) 0) e in
        ap (λ l. closing l d 0) (two_here 42 46 h p.0 p.1) ∙ closes-on (drop (j + 2) s) d n

    closing-last : Closes ≡ edge_of (get_or s j 0) (get_or s (j + 1) 0) → d ≡ 0 → closing (drop j s) d 0 ≡ some 2
    closing-last e z =
        let p = edge-closes (get_or s j 0) (get_or s (j + 1) 0) e in
        ap (λ n. closing (drop j s) n 0) z ∙ ap (λ l. closing l 0 0) (two_here 42 46 h p.0 p.1) ∙ closes-last (drop (j + 2) s)

    closing-neither : Neither ≡ edge_of (get_or s j 0) (get_or s (j + 1) 0) → closing (drop j s) d 0 ≡ more (closing (drop (j + 1) s) d 0)
    closing-neither e =
        let f : first (drop (j + 1) s) ≡ get_or s (j + 1) 0 = rest-first s (j + 1) in
        ap (λ l. closing l d 0) (drop-cons s j 0 h ∙ ap (λ n. get_or s j 0 ∷ drop n s) (sym (add-one j)))
        ∙ one_on (get_or s j 0) (drop (j + 1) s) d (e ∙ ap (edge_of (get_or s j 0)) (sym f))

    -- the place at which it is closed stays
    pub place-opens : Opens ≡ edge_of (get_or s j 0) (get_or s (j + 1) 0) → place_of (closing (drop (j + 2) s) (d + 1) 0) (j + 2) ≡ place_of (closing (drop j s) d 0) j
    place-opens e = sym (place-two (closing (drop (j + 2) s) (d + 1) 0) j) ∙ sym (ap (λ x. place_of x j) (closing-opens e))

    pub place-closes : Closes ≡ edge_of (get_or s j 0) (get_or s (j + 1) 0) → (d ≡ 0 → ⊥)
        → place_of (closing (drop (j + 2) s) (d - 1) 0) (j + 2) ≡ place_of (closing (drop j s) d 0) j
    place-closes e n = sym (place-two (closing (drop (j + 2) s) (d - 1) 0) j) ∙ sym (ap (λ x. place_of x j) (closing-closes e n))

    pub place-last : Closes ≡ edge_of (get_or s j 0) (get_or s (j + 1) 0) → d ≡ 0 → place_of (closing (drop j s) d 0) j ≡ some (j + 2)
    place-last e z = ap (λ x. place_of x j) (closing-last e z)

    pub place-neither : Neither ≡ edge_of (get_or s j 0) (get_or s (j + 1) 0) → place_of (closing (drop (j + 1) s) d 0) (j + 1) ≡ place_of (closing (drop j s) d 0) j
    place-neither e = sym (place-more (closing (drop (j + 1) s) d 0) j) ∙ sym (ap (λ x. place_of x j) (closing-neither e))

  -- one byte closes nothing
  closing-never : length s ≤ j + 1 → closing (drop j s) d 0 ≡ none
  unfolding closing inside
  closing-never h = go (drop j s) (omega (arith, length-drop j s))
    where
      go : (l : List ℕ) → length l ≤ 1 → closing l d 0 ≡ none
      go [] k = refl
      go (b ∷ []) k = refl
      go (b ∷ c ∷ l) k = absurd (omega arith)

  pub place-never : length s ≤ j + 1 → place_of (closing (drop j s) d 0) j ≡ none
  place-never h = ap (λ x. place_of x j) (closing-never h)
