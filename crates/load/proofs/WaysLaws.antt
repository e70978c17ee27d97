-- The ways up that lines give, read line by line and tested one after the other.
-- Assumes nothing.
use Rattle.std.specs.Prelude.{true, false, List, [], ◌≡◌, ℕ, ◌+◌, ◌-◌, ◌*◌, ◌/◌, ◌<◌, ◌≤◌, length, get_or, take, drop}
use Rattle.std.proofs.Common.{sym, ap, ◌∙◌, arith, drop-drop, below_more}
use Rattle.std.proofs.Math.ListN.{get_or-map}
use Rattle.std.proofs.lemmas.List.{length-map}
use Rattle.text.specs.Same.{same}
use Rattle.text.proofs.SameLaws.{same_true, same_self}
use Rattle.text.proofs.Table.{is_true, is_false}
use Rattle.own.specs.Tree.{Rec}
use Rattle.up.specs.Ways.{way_up, each, ways_up}
use Rattle.up.proofs.Laws.{back-within, each-got, each-same, each-at}
use Rattle.up.specs.Buffer.{size_place, up_place}
use Rattle.lines.specs.Form.{wide}
use Rattle.load.specs.Load.{ways_given}
use Rattle.load.specs.Listing.Read.{number_of, lines_read, rec_of, records_in, up_of}
use Rattle.load.proofs.Listing.LineLaws.{value-at}
use Rattle.load.proofs.Listing.RecordLaws.{records-long, line-at}
use Rattle.load.proofs.WalkLines.{mul-distrib-left}
use Rattle.load.specs.Checks.GivenWays.{sizes_in, ups_in}

module _ (ws text : List ℕ) (p : ℕ) (h : p < length text / wide ws) where
  -- a number of a line, where it stands in the text,
  field-at : (k : ℕ) → k < length ws → get_or (get_or (lines_read ws text) p []) k 0 ≡ number_of (get_or ws k 0) (drop (wide ws * p + wide (take k ws)) text)
  field-at k i =
      ap (λ (vs : List ℕ). get_or vs k 0) (line-at ws text p h)
      ∙ value-at k ws (drop (wide ws * p) text) i
      ∙ ap (number_of (get_or ws k 0)) (drop-drop (wide (take k ws)) (wide ws * p) text)

  -- where the code finds it, counted from the end of the line
  pub from-end : (k b : ℕ) → wide (take k ws) + b ≡ wide ws → {step : ℕ} → step ≡ wide ws → step * (p + 1) - b ≡ wide ws * p + wide (take k ws)
  from-end k b e s = omega (arith, e, ap (λ (n : ℕ). n * (p + 1)) s, mul-distrib-left (wide ws) p)

  found-at : (k : ℕ) → k < length ws → {at v : ℕ} → at ≡ wide ws * p + wide (take k ws) → v ≡ number_of (get_or ws k 0) (drop at text)
      → v ≡ get_or (get_or (lines_read ws text) p []) k 0
  found-at k i a e = e ∙ ap (λ (n : ℕ). number_of (get_or ws k 0) (drop n text)) a ∙ sym (field-at k i)

  -- The size of its record,
  pub size-at : size_place < length ws → {at v : ℕ} → at ≡ wide ws * p + wide (take size_place ws) → v ≡ number_of (get_or ws size_place 0) (drop at text)
      → v ≡ sizes_in ws text p
  size-at i a e = found-at size_place i a e ∙ sym (ap (λ (r : Rec). r.size) (get_or-map rec_of (lines_read ws text) p []))

  -- and the way up that it gives.
  pub up-at : up_place < length ws → {at v : ℕ} → at ≡ wide ws * p + wide (take up_place ws) → v ≡ number_of (get_or ws up_place 0) (drop at text)
      → v ≡ get_or (ups_in ws text) p 0
  up-at i a e = found-at up_place i a e ∙ sym (get_or-map up_of (lines_read ws text) p [])

-- What the loop over the lines keeps: the first i give their ways up rightly, and p is what holds the last of them.
pub record Agreeing (ws text : List ℕ) (n p i : ℕ) : Type 0 where
  pub within : i ≤ n
  pub right : (q : ℕ) → q < i → get_or (ups_in ws text) q 0 ≡ way_up (sizes_in ws text) q
  pub at : p ≡ i - 1 - way_up (sizes_in ws text) (i - 1)

module _ {ws text : List ℕ} {n p i : ℕ} (x : Agreeing ws text n p i) (many : n ≡ length text / wide ws) where
  abbrev ups : List ℕ
  ups = ups_in ws text

  abbrev rs : List Rec
  rs = records_in ws text

  -- the distance to what holds a record is its way up
  distance : {q : ℕ} → q ≡ i - way_up (sizes_in ws text) i → i - q ≡ way_up (sizes_in ws text) i
  distance d = omega (arith, d, back-within (sizes_in ws text) i i)

  pub agreeing-more : {q b : ℕ} → q ≡ i - way_up (sizes_in ws text) i → b ≡ get_or ups i 0 → b ≡ i - q → i < n → Agreeing ws text n q (i + 1)
  agreeing-more d e f h =
      let k : i ≡ i + 1 - 1 = omega arith in
      record {
        within = omega arith;
        right = below_more _ _ x.right (sym e ∙ f ∙ distance d);
        at = d ∙ ap (λ (j : ℕ). j - way_up (sizes_in ws text) j) k;
      }

  pub agreeing-not : {q b : ℕ} → q ≡ i - way_up (sizes_in ws text) i → b ≡ get_or ups i 0 → (b ≡ i - q → ⊥) → i < n → false ≡ ways_given (lines_read ws text)
  agreeing-not d e f h =
      let m = records-long ws text in
      let its = each-at (way_up (sizes_in ws text)) (length rs) i (omega (arith, many)) in
      sym (is_false (same ups (ways_up rs)) (λ t. f (e ∙ ap (λ (l : List ℕ). get_or l i 0) (same_true ups (ways_up rs) (is_true (same ups (ways_up rs)) t)) ∙ its ∙ sym (distance d))))

  pub agreeing-all : n ≤ i → true ≡ ways_given (lines_read ws text)
  agreeing-all h =
      let w = x.within in
      let long : length ups ≡ length rs = length-map (lines_read ws text) up_of ∙ sym (length-map (lines_read ws text) rec_of) in
      let all : ups ≡ ways_up rs =
      sym (each-got ups)
      ∙ each-same (λ q. get_or ups q 0) (way_up (sizes_in ws text)) (length ups) (λ q l. x.right q (omega (arith, l, long, records-long ws text, many)))
      ∙ ap (each (way_up (sizes_in ws text))) long in
      sym (ap (λ (l : List ℕ). same l (ways_up rs)) all ∙ same_self (ways_up rs))
