-- The ways up written one after the other: what stands of a buffer in which the first i records have theirs.
-- Assumes nothing.
use Rattle.std.specs.Prelude.{Bool, true, false, cond, List, [], ◌∷◌, ◌++◌, ◌≡◌, refl, ℕ, zero, suc, ◌+◌, ◌-◌, ◌*◌, ◌/◌, ◌<◌, ◌≤◌, ltb, length, get_or, set, drop}
use Rattle.std.proofs.Common.{sym, ap, ◌∙◌, arith, lt-ltb, le-ltb, ltb-true, ltb-false, length-set, get_or-set_same, get_or-set_other}
use Rattle.text.specs.Widths.{rec_wide}
use Rattle.own.specs.Tree.{concat}
use Rattle.own.specs.Words.{recs}
use Rattle.own.proofs.WordLaws.{recs-length}
use Rattle.up.specs.Ways.{way_up, size_of, each, ways_up, sevens, up_words, upward}
use Rattle.up.specs.Buffer.{size_place, up_place, size_in}
use Rattle.up.proofs.Buffer.{size-in}
use Rattle.up.proofs.Laws.{back-within, back-same, each-same}

-- The first i records have what f gives as their seventh word.
abbrev placed : (ℕ → ℕ) → ℕ → List ℕ → List ℕ
placed f zero w = w
placed f (suc i) w = set (placed f i w) (rec_wide * i + up_place) (f i)

module _ (f : ℕ → ℕ) (w : List ℕ) where
  placed-long : (i : ℕ) → length (placed f i w) ≡ length w
  placed-long zero = refl
  placed-long (suc i) = length-set (placed f i w) (rec_wide * i + up_place) (f i) ∙ placed-long i

  -- no size is written over
  placed-size : (i p : ℕ) → size_in (placed f i w) p ≡ size_in w p
  placed-size zero p = refl
  placed-size (suc i) p = get_or-set_other (placed f i w) (rec_wide * i + up_place) (rec_wide * p + size_place) (f i) 0 (λ e. omega (arith, e)) ∙ placed-size i p

  placed-word : (i q : ℕ) → q < i → rec_wide * i ≤ length w → get_or (placed f i w) (rec_wide * q + up_place) 0 ≡ f q
  placed-word zero q h r = absurd (omega arith)
  placed-word (suc i) q h r = go (ltb q i) refl (λ g. placed-word i q g (omega arith))
    where
      go : (b : Bool) → ltb q i ≡ b → (q < i → get_or (placed f i w) (rec_wide * q + up_place) 0 ≡ f q)
          → get_or (set (placed f i w) (rec_wide * i + up_place) (f i)) (rec_wide * q + up_place) 0 ≡ f q
      go true e k =
          let g : q < i = ltb-true q i e in
          get_or-set_other (placed f i w) (rec_wide * i + up_place) (rec_wide * q + up_place) (f i) 0 (λ z. omega (arith, z, g)) ∙ k g
      go false e k =
          let g : q ≡ i = omega (arith, ltb-false q i e, h) in
          ap (λ (j : ℕ). get_or (set (placed f i w) (rec_wide * i + up_place) (f i)) (rec_wide * j + up_place) 0) g
          ∙ get_or-set_same (placed f i w) (rec_wide * i + up_place) (f i) 0 (omega (arith, placed-long i, r))
          ∙ ap f (sym g)

-- the first record, and those behind it
placed-first : (f : ℕ → ℕ) (i a b c d e g h : ℕ) (w : List ℕ)
    → placed f (suc i) (a ∷ b ∷ c ∷ d ∷ e ∷ g ∷ h ∷ w) ≡ a ∷ b ∷ c ∷ d ∷ e ∷ g ∷ f 0 ∷ placed (λ j. f (suc j)) i w
placed-first f zero a b c d e g h w = refl
placed-first f (suc i) a b c d e g h w =
    let at : rec_wide * suc i + up_place ≡ suc (suc (suc (suc (suc (suc (suc (rec_wide * i + up_place))))))) = omega arith in
    (λ k. set (placed-first f i a b c d e g h w k) (at k) (f (suc i)))

-- so that they are the words of the records.
placed-all : (f : ℕ → ℕ) (n : ℕ) (w : List ℕ) → rec_wide * n ≤ length w → placed f n w ≡ concat (sevens (each f n) (recs n w)) ++ drop (rec_wide * n) w
placed-all f zero w r = refl
placed-all f (suc n) [] r = absurd (omega arith)
placed-all f (suc n) (a ∷ []) r = absurd (omega arith)
placed-all f (suc n) (a ∷ b ∷ []) r = absurd (omega arith)
placed-all f (suc n) (a ∷ b ∷ c ∷ []) r = absurd (omega arith)
placed-all f (suc n) (a ∷ b ∷ c ∷ d ∷ []) r = absurd (omega arith)
placed-all f (suc n) (a ∷ b ∷ c ∷ d ∷ e ∷ []) r = absurd (omega arith)
placed-all f (suc n) (a ∷ b ∷ c ∷ d ∷ e ∷ g ∷ []) r = absurd (omega arith)
placed-all f (suc n) (a ∷ b ∷ c ∷ d ∷ e ∷ g ∷ h ∷ w) r =
    let next : suc (suc (suc (suc (suc (suc (suc (rec_wide * n))))))) ≡ rec_wide * suc n = omega arith in
    placed-first f n a b c d e g h w
    ∙ ap (λ (l : List ℕ). a ∷ b ∷ c ∷ d ∷ e ∷ g ∷ f 0 ∷ l) (placed-all (λ j. f (suc j)) n w (omega arith))
    ∙ ap (λ (j : ℕ). (a ∷ b ∷ c ∷ d ∷ e ∷ g ∷ f 0 ∷ concat (sevens (each (λ j. f (suc j)) n) (recs n w))) ++ drop j (a ∷ b ∷ c ∷ d ∷ e ∷ g ∷ h ∷ w)) next

-- The first i of n records of w have their way up in l, and p is what holds the last of them.
pub record Raised (w : List ℕ) (n : ℕ) (l : List ℕ) (p i : ℕ) : Type 0 where
  pub room : rec_wide * n ≤ length w
  pub some : 0 < i
  pub within : i ≤ n
  pub long : length l ≡ length w
  pub done : l ≡ placed (way_up (size_in w)) i w
  pub at : p ≡ i - 1 - way_up (size_in w) (i - 1)

module _ {w : List ℕ} {n : ℕ} {l : List ℕ} {p i : ℕ} (x : Raised w n l p i) where
  abbrev f : ℕ → ℕ
  f = way_up (size_in w)

  its-ways : (q : ℕ) → way_up (size_in l) q ≡ f q
  its-ways q = back-same (size_in l) (size_in w) q q (λ p h. ap (λ (m : List ℕ). size_in m p) x.done ∙ placed-size f w i p)

  pub raised : (q : ℕ) → q < i → get_or l (rec_wide * q + up_place) 0 ≡ way_up (size_in l) q
  raised q h =
      let a = x.room in
      let b = x.within in
      ap (λ (m : List ℕ). get_or m (rec_wide * q + up_place) 0) x.done ∙ placed-word f w i q h (omega (arith, a, b)) ∙ sym (its-ways q)

  pub raised-at : p ≡ i - 1 - way_up (size_in l) (i - 1)
  raised-at = x.at ∙ sym (ap (λ (u : ℕ). i - 1 - u) (its-ways (i - 1)))

  pub raise-more : {q : ℕ} → q ≡ i - way_up (size_in l) i → i < n → Raised w n (set l (rec_wide * i + up_place) (i - q)) q (i + 1)
  raise-more {q} e h =
      let g : suc i ≡ i + 1 = omega arith in
      let k : i ≡ i + 1 - 1 = omega arith in
      let u : i - q ≡ way_up (size_in l) i = omega (arith, e, back-within (size_in l) i i) in
      record {
        room = x.room;
        some = omega arith;
        within = omega (arith, h);
        long = length-set l (rec_wide * i + up_place) (i - q) ∙ x.long;
        done = (λ j. set (x.done j) (rec_wide * i + up_place) ((u ∙ its-ways i) j)) ∙ ap (λ (j : ℕ). placed f j w) g;
        at = e ∙ ap (λ (v : ℕ). i - v) (its-ways i) ∙ ap (λ (j : ℕ). j - f j) k;
      }

  pub raise-end : n ≤ i → l ≡ upward n w
  unfolding upward
  raise-end h =
      let b = x.within in
      let r = x.room in
      let e : i ≡ n = omega (arith, h, b) in
      let ways : each f n ≡ ways_up (recs n w) =
      each-same f (way_up (size_of (recs n w))) n (λ i h. back-same (size_in w) (size_of (recs n w)) i i (λ p k. size-in n p w (omega arith)))
      ∙ ap (each (way_up (size_of (recs n w)))) (sym (recs-length n w)) in
      x.done ∙ ap (λ (j : ℕ). placed f j w) e
      ∙ placed-all f n w r
      ∙ ap (λ (us : List ℕ). concat (sevens us (recs n w)) ++ drop (rec_wide * n) w) ways
      ∙ sym (ap (λ (b : Bool). cond b w (up_words (recs n w) ++ drop (rec_wide * n) w)) (le-ltb (length w / rec_wide) n (omega (arith, r))))

-- No record, nothing to do;
pub raise-nothing : (n : ℕ) (w : List ℕ) → n ≡ 0 → w ≡ upward n w
unfolding upward
raise-nothing n w e = sym (ap (λ (m : ℕ). cond (ltb (length w / rec_wide) m) w (up_words (recs m w) ++ drop (rec_wide * m) w)) e ∙ either (ltb (length w / rec_wide) 0))
  where
    either : (b : Bool) → cond b w w ≡ w
    either true = refl
    either false = refl

-- and a buffer that has fewer stays as it is.
pub raise-none : (n : ℕ) (w : List ℕ) → length w / rec_wide < n → w ≡ upward n w
unfolding upward
raise-none n w h = sym (ap (λ (b : Bool). cond b w (up_words (recs n w) ++ drop (rec_wide * n) w)) (lt-ltb (length w / rec_wide) n h))
