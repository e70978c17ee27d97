-- Laws of the way up that is found through sizes, and of the words that hold it.
-- Assumes nothing.
use Rattle.std.specs.Prelude.{Bool, true, false, cond, List, [], ◌∷◌, ◌++◌, ◌≡◌, refl, ℕ, zero, suc, ◌+◌, ◌-◌, ◌*◌, ◌/◌, ◌<◌, ◌≤◌, ltb, length, get_or, drop, take}
use Rattle.std.proofs.Common.{ap, ap₂, ◌∙◌, arith, length-append, drop_at, lt-ltb, le-ltb, get_or-drop, sym, take-add}
use Rattle.text.specs.Widths.{rec_wide}
use Rattle.own.specs.Tree.{Rec, concat}
use Rattle.own.specs.Words.{recs, rec_words}
use Rattle.own.proofs.WordLaws.{record-words-length, recs-words}
use Rattle.up.specs.Buffer.{up_place}
use Rattle.up.specs.Ways.{back, each, ways_up, seven, sevens, rows, up_words, rows_in, upward, way_up, size_of}

module _ (s : ℕ → ℕ) where
  -- A record that reaches over i is the one looked for;
  pub found : (i p : ℕ) → i < p + s p → back s i (suc p) ≡ i - p
  found i p h = ap (λ (b : Bool). cond b (i - p) (back s i p)) (lt-ltb i (p + s p) h)

  -- one that does not is passed by.
  pub passed : (i p : ℕ) → p + s p ≤ i → back s i (suc p) ≡ back s i p
  passed i p h = ap (λ (b : Bool). cond b (i - p) (back s i p)) (le-ltb i (p + s p) h)

  -- A parent begins no later than the list.
  pub back-within : (i n : ℕ) → back s i n ≤ i
  back-within i zero = omega arith
  back-within i (suc p) = go (ltb i (p + s p)) (back-within i p)
    where
      go : (b : Bool) → back s i p ≤ i → cond b (i - p) (back s i p) ≤ i
      go true h = omega arith
      go false h = h

-- Sizes that are the same before n give the same.
pub back-same : (s t : ℕ → ℕ) (i n : ℕ) → ((p : ℕ) → p < n → s p ≡ t p) → back s i n ≡ back t i n
back-same s t i zero e = refl
back-same s t i (suc p) e =
    let r = back-same s t i p (λ q h. e q (omega arith)) in
    let z = e p (omega arith) in
    λ k. cond (ltb i (p + z k)) (i - p) (r k)

-- So many.
pub each-length : (f : ℕ → ℕ) (n : ℕ) → length (each f n) ≡ n
each-length f zero = refl
each-length f (suc n) = ap suc (each-length (λ i. f (suc i)) n)

pub each-same : (f g : ℕ → ℕ) (n : ℕ) → ((i : ℕ) → i < n → f i ≡ g i) → each f n ≡ each g n
each-same f g zero e = refl
each-same f g (suc n) e = ap₂ (λ (a : ℕ) (l : List ℕ). a ∷ l) (e 0 (omega arith)) (each-same (λ i. f (suc i)) (λ i. g (suc i)) n (λ i h. e (suc i) (omega arith)))

-- The one of this number.
pub each-at : (f : ℕ → ℕ) (n i : ℕ) → i < n → get_or (each f n) i 0 ≡ f i
each-at f zero i h = absurd (omega arith)
each-at f (suc n) zero h = refl
each-at f (suc n) (suc i) h = each-at (λ j. f (suc j)) n i (omega arith)

-- A list is what is got from it.
pub each-got : (l : List ℕ) → each (λ i. get_or l i 0) (length l) ≡ l
each-got [] = refl
each-got (a ∷ l) = ap (λ (m : List ℕ). a ∷ m) (each-got l)

-- As many rows as records, of as many words.
pub sevens-many : (us : List ℕ) (rs : List Rec) → length (sevens us rs) ≡ length rs
sevens-many us [] = refl
sevens-many us (r ∷ rs) = ap suc (sevens-many (drop 1 us) rs)

pub sevens-long : (us : List ℕ) (rs : List Rec) → length (concat (sevens us rs)) ≡ rec_wide * length rs
sevens-long us [] = refl
sevens-long us (r ∷ rs) = let h = sevens-long (drop 1 us) rs in omega arith

pub up-words-long : (rs : List Rec) → length (up_words rs) ≡ rec_wide * length rs
up-words-long rs = sevens-long (ways_up rs) rs

-- The records are read back, whatever their ways up.
pub recs-sevens : (us : List ℕ) (rs : List Rec) (z : List ℕ) → recs (length rs) (concat (sevens us rs) ++ z) ≡ rs
recs-sevens us [] z = refl
recs-sevens us (r ∷ rs) z = ap (λ (l : List Rec). r ∷ l) (recs-sevens (drop 1 us) rs z)

pub recs-up : (rs : List Rec) (z : List ℕ) → recs (length rs) (up_words rs ++ z) ≡ rs
recs-up rs z = recs-sevens (ways_up rs) rs z

-- What becomes of a buffer that has so many records;
pub upward-held : (n : ℕ) (w : List ℕ) → rec_wide * n ≤ length w → upward n w ≡ up_words (recs n w) ++ drop (rec_wide * n) w
unfolding upward
upward-held n w h = ap (λ (b : Bool). cond b w (up_words (recs n w) ++ drop (rec_wide * n) w)) (le-ltb (length w / rec_wide) n (omega (arith, h)))

-- and of one in which they were written without their ways up.
pub raised-words : (rs : List Rec) (z : List ℕ) → upward (length rs) (rec_words rs ++ z) ≡ up_words rs ++ z
raised-words rs z =
    let n = length rs in
    let w = rec_words rs ++ z in
    let long : length (rec_words rs) ≡ rec_wide * n = record-words-length rs in
    upward-held n w (omega (arith, length-append (rec_words rs) z, long))
    ∙ ap₂ (λ (l : List Rec) (m : List ℕ). up_words l ++ m) (recs-words rs z) (drop_at (rec_words rs) z (rec_wide * n) long)

-- The words are read back record by record.
pub rows-sevens : (us : List ℕ) (rs : List Rec) (z : List ℕ) → rows_in (length rs) (concat (sevens us rs) ++ z) ≡ sevens us rs
rows-sevens us [] z = refl
rows-sevens us (r ∷ rs) z = ap (λ (l : List (List ℕ)). seven r (get_or us 0 0) ∷ l) (rows-sevens (drop 1 us) rs z)

pub rows-up : (rs : List Rec) (z : List ℕ) → rows_in (length rs) (up_words rs ++ z) ≡ rows rs
rows-up rs z = rows-sevens (ways_up rs) rs z

pub rows-words : (n : ℕ) (w : List ℕ) → concat (rows_in n w) ≡ take (rec_wide * n) w
rows-words zero w = refl
rows-words (suc n) w =
    let next : rec_wide + rec_wide * n ≡ rec_wide * suc n = omega arith in
    ap (λ (l : List ℕ). take rec_wide w ++ l) (rows-words n (drop rec_wide w)) ∙ sym (take-add rec_wide (rec_wide * n) w) ∙ ap (λ (k : ℕ). take k w) next

pub rows-length : (n : ℕ) (w : List ℕ) → length (rows_in n w) ≡ n
rows-length zero w = refl
rows-length (suc n) w = ap suc (rows-length n (drop rec_wide w))

-- The way up among the words of a record.
sevens-word : (us : List ℕ) (rs : List Rec) (z : List ℕ) (j : ℕ) → j < length rs → get_or (concat (sevens us rs) ++ z) (rec_wide * j + up_place) 0 ≡ get_or us j 0
sevens-word us [] z j h = absurd (omega (arith, h))
sevens-word us (r ∷ rs) z zero h = refl
sevens-word us (r ∷ rs) z (suc j) h =
    let next : rec_wide * suc j + up_place ≡ suc (suc (suc (suc (suc (suc (suc (rec_wide * j + up_place))))))) = omega arith in
    let one : 1 + j ≡ suc j = omega arith in
    ap (λ (i : ℕ). get_or (concat (sevens us (r ∷ rs)) ++ z) i 0) next ∙ sevens-word (drop 1 us) rs z j (omega (arith, h)) ∙ get_or-drop 1 us j 0 ∙ ap (λ (i : ℕ). get_or us i 0) one

pub up-word : (rs : List Rec) (z : List ℕ) (j : ℕ) → j < length rs → get_or (up_words rs ++ z) (rec_wide * j + up_place) 0 ≡ way_up (size_of rs) j
up-word rs z j h = sevens-word (ways_up rs) rs z j h ∙ each-at (way_up (size_of rs)) (length rs) j h
