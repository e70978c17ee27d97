-- What the loops keep that write the numbers of a line, and of lines.
-- Assumes nothing.
use Rattle.std.specs.Prelude.{List, [], ◌∷◌, ◌++◌, map, ◌≡◌, refl, ℕ, zero, suc, ◌+◌, ◌*◌, ◌<◌, ◌≤◌, length, get_or, set, take, drop}
use Rattle.std.proofs.Common.{sym, ap, ◌∙◌, arith, append-nil, append_assoc, mul-zero, mul-suc, length-set, length-take-le, take-append-drop, drop_of_length-le, drop-drop}
use Rattle.std.proofs.lemmas.List.{drop_more, map-append}
use Rattle.std.proofs.Math.Seq.{length-sets}
use Rattle.std.proofs.lemmas.List.Edits.{sets, sets-eq}
use Rattle.text.specs.Widths.{rec_wide}
use Rattle.own.specs.Tree.{Rec}
use Rattle.own.specs.Words.{recs}
use Rattle.lines.specs.Form.{wide}
use Rattle.load.specs.Listing.LineForm.{first_six, LineForm}
use Rattle.load.specs.Listing.Read.{number_of, values_of, rows_from, rec_of}
use Rattle.load.proofs.Listing.LineLaws.{values-long}
use Rattle.load.proofs.Listing.RecordLaws.{record-by-six, six-long}

-- What the loop of `values` keeps: the fields that are left, from p on, would complete the numbers of the line.
pub record Filling (ws text l : List ℕ) (p k : ℕ) : Type 0 where
  pub within : k ≤ length ws
  pub long : length l ≡ length ws
  pub room : p + wide (drop k ws) ≡ wide ws
  pub left : sets l k (values_of (drop k ws) (drop p text)) ≡ values_of ws text

-- As many numbers as there are words leave none of those.
sets-all : (vs o : List ℕ) → length o ≡ length vs → sets o 0 vs ≡ vs
sets-all vs o h = sets-eq vs o 0 (omega arith) ∙ ap (λ (l : List ℕ). vs ++ l) (drop_of_length-le o (omega arith)) ∙ append-nil vs

pub filling-start : (ws text o : List ℕ) → length o ≡ length ws → Filling ws text o 0 0
filling-start ws text o h =
    record {
      within = omega arith;
      long = h;
      room = omega arith;
      left = sets-all (values_of ws text) o (omega (arith, values-long ws text));
    }

module _ {ws text l : List ℕ} {p k : ℕ} (x : Filling ws text l p k) where
  module _ (h : k < length ws) where
    -- the next field and the byte after it are inside the line
    pub filling-room : p + get_or ws k 0 + 1 + wide (drop (k + 1) ws) ≡ wide ws
    filling-room = omega (arith, ap wide (drop_more ws k 0 h), x.room)

    pub filling-more : {v : ℕ} → v ≡ number_of (get_or ws k 0) (drop p text) → Filling ws text (set l k v) (p + get_or ws k 0 + 1) (k + 1)
    unfolding values_of
    filling-more {v} e =
        let n = get_or ws k 0 in
        let s : p + n + 1 ≡ p + (n + 1) = omega arith in
        let j : k + 1 ≡ suc k = omega arith in
        record {
          within = omega arith;
          long = length-set l k v ∙ x.long;
          room = filling-room;
          left = (λ i. sets (set l k (e i)) (j i) (values_of (drop (k + 1) ws) ((ap (λ (m : ℕ). drop m text) s ∙ sym (drop-drop (n + 1) p text)) i)))
              ∙ ap (λ (d : List ℕ). sets l k (values_of d (drop p text))) (sym (drop_more ws k 0 h)) ∙ x.left;
        }

  pub filling-end : length ws ≤ k → l ≡ values_of ws text
  unfolding values_of
  filling-end h = ap (λ (d : List ℕ). sets l k (values_of d (drop p text))) (sym (drop_of_length-le ws h)) ∙ x.left

-- The first records of a buffer are those of its first words, and those behind them.
recs-split : (i k m : ℕ) (a b : List ℕ) → m ≡ i + k → length a ≡ rec_wide * i → recs m (a ++ b) ≡ recs i a ++ recs k b
recs-split zero k m [] b e h = let z : m ≡ k = omega arith in ap (λ (n : ℕ). recs n b) z
recs-split zero k m (c ∷ a) b e h = absurd (omega arith)
recs-split (suc i) k zero a b e h = absurd (omega arith)
recs-split (suc i) k (suc m) [] b e h = absurd (omega arith)
recs-split (suc i) k (suc m) (c₁ ∷ []) b e h = absurd (omega arith)
recs-split (suc i) k (suc m) (c₁ ∷ c₂ ∷ []) b e h = absurd (omega arith)
recs-split (suc i) k (suc m) (c₁ ∷ c₂ ∷ c₃ ∷ []) b e h = absurd (omega arith)
recs-split (suc i) k (suc m) (c₁ ∷ c₂ ∷ c₃ ∷ c₄ ∷ []) b e h = absurd (omega arith)
recs-split (suc i) k (suc m) (c₁ ∷ c₂ ∷ c₃ ∷ c₄ ∷ c₅ ∷ []) b e h = absurd (omega arith)
recs-split (suc i) k (suc m) (c₁ ∷ c₂ ∷ c₃ ∷ c₄ ∷ c₅ ∷ c₆ ∷ []) b e h = absurd (omega arith)
recs-split (suc i) k (suc m) (c₁ ∷ c₂ ∷ c₃ ∷ c₄ ∷ c₅ ∷ c₆ ∷ c₇ ∷ a) b e h =
    ap (λ (l : List Rec). record { kind = c₁; start = c₂; stop = c₃; low = c₄; high = c₅; size = c₆ } ∷ l) (recs-split i k m a b (omega arith) (omega arith))

recs-front : (i : ℕ) (l : List ℕ) → rec_wide * i ≤ length l → recs i (take (rec_wide * i) l) ≡ recs i l
recs-front i l h =
    let a = take (rec_wide * i) l in
    let z : i ≡ i + 0 = omega arith in
    sym (append-nil (recs i a)) ∙ sym (recs-split i 0 i a (drop (rec_wide * i) l) z (length-take-le (rec_wide * i) l h)) ∙ ap (recs i) (take-append-drop (rec_wide * i) l)

-- The lines behind the first i, one more of them.
rows-last : (ws : List ℕ) (i : ℕ) (bs : List ℕ) → rows_from ws (suc i) bs ≡ rows_from ws i bs ++ (values_of ws (drop (wide ws * i) bs) ∷ [])
unfolding rows_from
rows-last ws zero bs = ap (λ (k : ℕ). values_of ws (drop k bs) ∷ []) (sym (mul-zero (wide ws)))
rows-last ws (suc i) bs =
    let e : wide ws + wide ws * i ≡ wide ws * suc i = omega (arith, mul-suc (wide ws) i) in
    ap (λ (l : List (List ℕ)). values_of ws bs ∷ l)
    (rows-last ws i (drop (wide ws) bs)
    ∙ ap (λ (l : List ℕ). rows_from ws i (drop (wide ws) bs) ++ (values_of ws l ∷ [])) (drop-drop (wide ws * i) (wide ws) bs ∙ ap (λ (k : ℕ). drop k bs) e))

-- What the loop of `write` keeps: the first i records are those of the first i lines.
pub record Writing (ws text : List ℕ) (n : ℕ) (o l : List ℕ) (i : ℕ) : Type 0 where
  pub within : i ≤ n
  pub long : length l ≡ length o
  pub so_far : recs i l ≡ map rec_of (rows_from ws i text)

pub writing-start : (ws text : List ℕ) (n : ℕ) (o : List ℕ) → Writing ws text n o o 0
unfolding rows_from
writing-start ws text n o = record { within = omega arith; long = refl; so_far = refl }

module _ {ws text : List ℕ} {n : ℕ} {o l : List ℕ} {i : ℕ} (x : Writing ws text n o l i) where
  pub record_fits : i < n → rec_wide * n ≤ length o → rec_wide * i + rec_wide ≤ length l
  record_fits h k = omega (arith, x.long)

  pub writing-more : {l₁ : List ℕ} {step : ℕ} → LineForm ws step → i < n → rec_wide * n ≤ length o
      → l₁ ≡ sets l (rec_wide * i) (values_of (first_six ws) (drop (step * i) text)) → Writing ws text n o l₁ (i + 1)
  writing-more {l₁} {step} f h k q =
      let bs = drop (step * i) text in
      let vs = values_of (first_six ws) bs in
      let long = six-long ws bs f.full in
      let room = record_fits h k in
      let z = drop (rec_wide * i + length vs) l in
      let a = take (rec_wide * i) l in
      let e : bs ≡ drop (wide ws * i) text = ap (λ (w : ℕ). drop (w * i) text) f.bytes in
      let s : suc i ≡ i + 1 = omega arith in
      record {
        within = omega arith;
        long = ap length q ∙ length-sets l (rec_wide * i) vs ∙ x.long;
        so_far = ap (recs (i + 1)) (q ∙ sets-eq vs l (rec_wide * i) (omega (arith, long)) ∙ append_assoc a vs z)
            ∙ recs-split i 1 (i + 1) a (vs ++ z) refl (length-take-le (rec_wide * i) l (omega arith))
            ∙ (λ j. recs-front i l (omega arith) j ++ (record-by-six ws bs z f.full j ∷ []))
            ∙ (λ j. x.so_far j ++ (rec_of (values_of ws (e j)) ∷ []))
            ∙ sym (map-append rec_of (rows_from ws i text) (values_of ws (drop (wide ws * i) text) ∷ []))
            ∙ ap (map rec_of) (sym (rows-last ws i text) ∙ ap (λ (m : ℕ). rows_from ws m text) s);
      }
