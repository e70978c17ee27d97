-- Setting a list to zeros: from the front, one element after the other, and behind a place; whatever the width of its elements.
-- Assumes nothing.
use Rattle.std.specs.Prelude.{List, [], ◌++◌, ◌≡◌, refl, ℕ, ◌+◌, ◌-◌, ◌≤◌, ◌<◌, length, replicate, take, drop, set}
use Rattle.std.proofs.Common.{append-nil, ◌∙◌, ap, ap₂, arith, length-set, length-drop, drop_of_length-le, length-take-le}
use Rattle.std.proofs.lemmas.List.Edits.{fill_more}
use borrow.Rule.Slice.PartMut.{put_mid, mid_of, post_of}

-- the first i elements of o are set to 0 in l
pub record Cleared (o l : List ℕ) (i : ℕ) : Type 0 where
  pub within : i ≤ length o
  pub long : length l ≡ length o
  pub filled : l ≡ replicate i 0 ++ drop i o

pub clear-start : (o : List ℕ) → Cleared o o 0
clear-start o = record { within = omega arith; long = refl; filled = refl }

module _ {o l : List ℕ} {i : ℕ} (v : Cleared o l i) where
  pub clear-more : i < length o → Cleared o (set l i 0) (i + 1)
  clear-more h = record {
    within = omega arith;
    long = length-set l i 0 ∙ v.long;
    filled = ap (λ x. set x i 0) v.filled ∙ fill_more i 0 o (omega arith);
  }

  pub clear-end : length o ≤ i → l ≡ replicate (length o) 0
  clear-end h =
      let e : i ≡ length o = (let w = v.within in omega arith) in
      v.filled ∙ rw (drop_of_length-le o h, e, append-nil) refl

-- zeros in the place of all that lies behind a
pub cleared : (a : ℕ) (xs ys : List ℕ) → a ≤ length xs → ys ≡ replicate (length (mid_of a (length xs - a) xs)) 0
    → put_mid a (length xs - a) xs ys ≡ take a xs ++ replicate (length xs - a) 0
cleared a xs ys h e =
    let k : length (drop a xs) ≡ length xs - a = length-drop a xs in
    let n : length (mid_of a (length xs - a) xs) ≡ length xs - a = length-take-le (length xs - a) (drop a xs) (omega arith) in
    let g : length (drop a xs) ≤ length xs - a = omega arith in
    let p : post_of a (length xs - a) xs ≡ [] = drop_of_length-le (drop a xs) g in
    ap (λ l. take a xs ++ l) (ap₂ (λ y z. y ++ z) (e ∙ ap (λ m. replicate m 0) n) p ∙ append-nil _)
