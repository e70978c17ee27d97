-- The records of right trees, each with its way up, fit lines with so many digits for places, where their places and their number do: kinds are few, low and
-- high are halves of 32 bits or count children, and a way up is no more than the number of its record.
-- Assumes nothing.
use Rattle.std.specs.Prelude.{Bool, true, false, ◌&&◌, cond, List, [], ◌∷◌, map, ℕ, suc, ◌+◌, ◌<◌, ◌≤◌, T, eqb, length, get_or}
use Rattle.std.proofs.Common.{sym, subst, arith}
use Rattle.std.proofs.Math.Dec.{ltb, eqb→eq, ltb→lt}
use Rattle.std.proofs.lemmas.List.{length-map}
use Rattle.text.proofs.Table.{first-of, second-of}
use Rattle.text.specs.Lists.{has, keep, span, count, Some, here, there}
use Rattle.text.specs.Lists as lists
use Rattle.text.proofs.ListLaws.{all-has, all-some, from_some, some-keep}
use Rattle.num.specs.Bound.{is_bound}
use Rattle.own.specs.Tree.{Node, roots, end, Rec, record_of, tokens, all, records}
use Rattle.own.specs.Flat.{blank, children}
use Rattle.own.specs.Law.{Sort, word, child}
use Rattle.own.specs.File.{program, filed}
use Rattle.own.specs.Lists.{All, nil, ◌&◌}
use Rattle.own.proofs.Lists.{all-concat, all-at, all_from}
use Rattle.own.proofs.Places.{bounded}
use Rattle.own.proofs.Owners.{no_node, kept}
use Rattle.own.specs.Kinds as kind
use Rattle.lines.specs.Hex.{power}
use Rattle.up.specs.Ways.{six, rows}
use Rattle.lines.specs.Lines.{kind_digits, half_digits, sized, with_way}
use Rattle.kinds.specs.Families as family
use Rattle.kinds.specs.Shape.{half_range, number}
use Rattle.kinds.specs.Fields as field
use Rattle.kinds.specs.Fields.{Fields, counted, halves, holds}
use Rattle.kinds.specs.Rules.{Form, forms, all_forms}
use Rattle.kinds.specs.Decide.{forms_for}
use Rattle.kinds.specs.Ownership as kinds
use Rattle.kinds.proofs.Ownership as owning
use Rattle.load.specs.Bare.{bare}
use Rattle.load.specs.Function.{Fits, sizes, Right}
use Rattle.load.specs.Checks.Parts.{Counts}
use Rattle.load.specs.Checks.Stands.{Stands}
use Rattle.load.specs.Listing.InForm.{Fit, Fitting}
use Rattle.load.proofs.FormLaws.{rows-fit}
use Rattle.load.proofs.Handed.{stands}
use Rattle.load.proofs.LineLaws.{power_le}

-- Fields that name no number beyond a half.
abbrev small : Fields → Bool
small field.plain = true
small field.wide = true
small field.bounded = true
small field.names = true
small field.pairs = true
small (field.low n) = ltb n half_range
small (field.parameters n) = ltb n half_range
small (field.among ns) = lists.all (λ n. ltb n half_range) ns

-- Every form of the kinds table has such fields, and a kind of two digits: by one computation.
abbrev small_form : Form → Bool
small_form f = ltb f.kind (power kind_digits) && small f.fields

all_small : T (lists.all small_form all_forms)
unfolding lists.all all_forms forms span count
all_small = tt

counted-few : (ks : List ℕ) (w : List Sort) → counted ks w ≤ length w
unfolding counted
counted-few ks [] = omega arith
counted-few ks (word c ∷ w) = let h = counted-few ks w in omega arith
counted-few ks (child k l h c ∷ w) = go (has ks k) (counted-few ks w)
  where
    go : (b : Bool) → counted ks w ≤ length w → cond b 1 0 + counted ks w ≤ suc (length w)
    go true i = omega arith
    go false i = omega arith

-- Low and high of a record of few pieces.
module _ (l h : ℕ) (w : List Sort) (few : length w < half_range) where
  equal : (a b : ℕ) → a < half_range → b < half_range → T (eqb l a && eqb h b) → (l < half_range) × (h < half_range)
  equal a b x y t =
      let p = eqb→eq l a (first-of (eqb l a) (eqb h b) t) in
      let q = eqb→eq h b (second-of (eqb l a) (eqb h b) t) in
      (omega arith, omega arith)

  counts : (ks : List ℕ) → counted ks w < half_range
  counts ks = omega (arith, counted-few ks w)

  both_halves : T (halves l h) → (l < half_range) × (h < half_range)
  unfolding halves
  both_halves t =
      (ltb→lt l half_range (first-of (ltb l half_range) (ltb h half_range) t), ltb→lt h half_range (second-of (ltb l half_range) (ltb h half_range) t))

  holds-small : (f : Fields) → T (small f) → T (holds f l h w) → (l < half_range) × (h < half_range)
  unfolding holds
  holds-small field.plain s t = equal 0 0 (omega arith) (omega arith) t
  holds-small field.wide s t = both_halves t
  holds-small field.bounded s t = both_halves (first-of (halves l h) (is_bound (number l h)) t)
  holds-small field.names s t = equal (counted (kind.Name ∷ []) w) 0 (counts (kind.Name ∷ [])) (omega arith) t
  holds-small field.pairs s t = equal (counted (kind.Name ∷ []) w) (counted family.patterns w) (counts (kind.Name ∷ [])) (counts family.patterns) t
  holds-small (field.low n) s t = equal n 0 (ltb→lt n half_range s) (omega arith) t
  holds-small (field.parameters n) s t = equal n (counted (kind.Parameter ∷ []) w) (ltb→lt n half_range s) (counts (kind.Parameter ∷ [])) t
  holds-small (field.among ns) s t =
      let p = ltb→lt l half_range (all-has (λ n. ltb n half_range) ns l s (first-of (has ns l) (eqb h 0) t)) in
      let q = eqb→eq h 0 (second-of (has ns l) (eqb h 0) t) in
      (p, omega arith)

-- children that count themselves are no more than they count
children-few : {cs : List Rec} → All Counts cs → length cs ≤ sizes cs
children-few nil = omega arith
children-few (p & h) = let k = children-few h in omega arith

-- A right record of few children.
right-small : (r : Rec) (cs : List Rec) → Right r cs → All Counts cs → r.size ≤ half_range → (r.kind < power kind_digits) × (r.low < half_range) × (r.high < half_range)
unfolding forms_for
right-small r cs o some few =
    from_some one (all-some small_form all_small (some-keep (λ f. eqb f.kind r.kind) all_forms o.formed))
  where
    one : (f : Form) → T (small_form f) × (T (eqb f.kind r.kind) × Fits r.low r.high cs f)
        → (r.kind < power kind_digits) × (r.low < half_range) × (r.high < half_range)
    one f (s, (e, h)) =
        let a = ltb f.kind (power kind_digits) in
        let less : length (map bare cs) < half_range = omega (arith, length-map cs bare, children-few some, o.adds) in
        let k = ltb→lt f.kind (power kind_digits) (first-of a (small f.fields) s) in
        let q = holds-small r.low r.high (map bare cs) less f.fields (second-of a (small f.fields) s) h.fields in
        (omega (arith, eqb→eq f.kind r.kind e), q.0, q.1)

module _ (n : ℕ) (short : n ≤ half_digits) where
  -- so many digits tell apart no more than a half
  power-few : power n ≤ half_range
  power-few = power_le n half_digits short

  -- A place that fits.
  abbrev Early : Rec → Type 0
  Early r = (r.start < power n) × (r.stop < power n)

  -- The first six numbers of a record that stands in a list fit, if its place and the list do.
  record-fits : (rs : List Rec) (j : ℕ) → Stands rs j → Early (get_or rs j blank) → length rs < power n → Fit (sized n) (six (get_or rs j blank))
  record-fits rs j s (b, e) few =
      let r = get_or rs j blank in
      let m = s.room in
      let (k, l, i) = right-small r (children rs j) s.right s.some (omega (arith, power-few)) in
      (k, (b, (e, (l, (i, (omega arith, tt))))))

  module _ (ns : List Node) (ok : kinds.Right ns) (e : end 0 (tokens ns) < power n) (few : length (tokens ns) < power n) where
    records-few : length (records ns) < power n
    records-few = omega (arith, (owning.law-3 ns ok).few)

    sixes-fit : All (λ r. Fit (sized n) (six r)) (records ns)
    sixes-fit = all_from (records ns) blank each
      where
        each : (j : ℕ) → j < length (records ns) → Fit (sized n) (six (get_or (records ns) j blank))
        each j lt =
            let fine = owning.fine ns ok in
            let in_all : j < length (all ns) = omega (arith, length-map (all ns) record_of) in
            let b = all-at j no_node in_all (all-concat (bounded (roots ns) 0 ok.ordered fine.marked)) in
            let early : Early (get_or (records ns) j blank) = subst Early (sym ((kept ns fine).stands j lt)) (omega (arith, b.some, b.high), omega (arith, b.high)) in
            record-fits (records ns) j (stands ns ok j lt) early records-few

    -- The records of right trees fit, where the last token ends early and there are few.
    pub fitting : Fitting (with_way n) (rows (records ns))
    fitting = rows-fit n (records ns) sixes-fit records-few

  -- The records of a file of right trees fit, where its end does and there are fewer tokens.
  pub file-fitting : (ns : List Node) (len : ℕ) → kinds.Right ns → end 0 (tokens ns) ≤ len → len < power n → suc (length (tokens ns)) < power n
      → Fitting (with_way n) (rows (filed len (records ns)))
  file-fitting ns len ok within e few =
      let m = (owning.law-3 ns ok).few in
      let top : Fit (sized n) (six (program len (records ns))) = (omega arith, (omega arith, (e, (omega arith, (omega arith, (omega (arith, m), tt)))))) in
      rows-fit n (filed len (records ns)) (top & sixes-fit ns ok (omega arith) (omega arith)) (omega (arith, m))
