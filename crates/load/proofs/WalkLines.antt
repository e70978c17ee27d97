-- The walk over a record's children, from line to line: that a line is read where the next child stands.
-- Assumes nothing.
use Rattle.std.specs.Prelude.{Option, Bool, true}
use mathlib.Core.List.{List}
use mathlib.Core.Path.{◌≡◌, sym, ap, ◌∙◌, subst}
use Prim.Native.Nat.{ℕ, suc, ◌+◌, ◌-◌, ◌*◌, ◌/◌, ◌<◌, ◌≤◌}
use native.Mathlib.Omega.{arith}
use native.Mathlib.Nat.{mul-suc, div-add-mod, div-le_self, mul-le-mul_left}
use lib.ListN.{length, get_or, take, drop, length-take, length-drop}
use Rattle.std.proofs.lemmas.List.{take_all}
use Rattle.lines.specs.Form.{wide}
use Rattle.load.specs.Meant.{as_form}
use Rattle.load.proofs.Listing.LineForm.{held-form}
use Rattle.load.proofs.Listing.LineLaws.{wide-front}
use Rattle.own.specs.Tree.{Rec}
use Rattle.own.specs.Flat.{blank}
use Rattle.kinds.specs.Shape.{half_range}
use Rattle.load.specs.Listing.Read.{values_of, records_in}
use Rattle.load.specs.Listing.LineForm.{six_fields, first_six, LineForm}
use Rattle.load.proofs.Listing.RecordLaws.{records-long, lines-long}
use Rattle.load.specs.Children.Table.{state_count}
use Rattle.load.specs.Children.Cue.{cue}
use Rattle.load.specs.Children.Run.{next}
use Rattle.load.proofs.Children.Run.{cue-below}
use Rattle.load.specs.Checks.Judge.{sits, past}
use Rattle.load.specs.Checks.Listed.{fields, its_lines}
use Rattle.load.proofs.Checks.Small.{sat}
use Rattle.load.specs.declared.form.Listing.{Listing}
use Rattle.load.specs.declared.walk.Seen.{Seen}
use Rattle.load.proofs.Told.{told-so}
use Rattle.load.proofs.WalkLaws.{entry-below}
use Rattle.load.proofs.Walking.{Walking, walking-more}

pub mul-distrib-left : (a i : ℕ) → a * (i + 1) ≡ a * i + a
mul-distrib-left a i = let e : i + 1 ≡ suc i = omega arith in ap (λ (k : ℕ). a * k) e ∙ mul-suc a i

module _ (ws text : List ℕ) {step : ℕ} (f : LineForm ws step) where
  -- a line of the records is one of the listing
  pub line-in : (i : ℕ) → i < length (records_in ws text) → step * i + wide ws ≤ length text
  line-in i h =
      let n = length text / wide ws in
      let e = records-long ws text in
      let m : wide ws * (i + 1) ≤ wide ws * n = mul-le-mul_left (wide ws) (omega arith) in
      let s : step * i ≡ wide ws * i = ap (λ (k : ℕ). k * i) f.bytes in
      let t : wide ws * (i + 1) ≡ wide ws * i + wide ws = mul-distrib-left (wide ws) i in
      omega (arith, s, m, t, div-add-mod (length text) (wide ws))

-- There are no more records than bytes.
pub in-listing : (ws text : List ℕ) (j n : ℕ) → j + n ≤ length (records_in ws text) → j + n ≤ length text
in-listing ws text j n h = omega (arith, records-long ws text, div-le_self (length text) (wide ws))

-- What has been seen, one child more.
pub walking_on : {rs : List Rec} {r : Rec} {whole : Option Seen} {i : ℕ} {s : Seen} → Walking rs r whole i s → 0 < s.left → (c : Rec) → c ≡ get_or rs i blank
    → {b : Bool} → b ≡ true → b ≡ sits s.left r c → {x : Seen} → x ≡ past s c → x.state < state_count → Walking rs r whole (i + c.size) x
walking_on {rs} {r} {whole} {i} w h c its {b} p t {x} e q =
    subst (Walking rs r whole (i + c.size)) (sym e) (walking-more w h c its (told-so b p t) (subst (λ (y : Seen). y.state < state_count) e q))

-- A child that sits, as the call of `sits` told, counts itself, and no more than is left.
pub child-small : (left : ℕ) (r c : Rec) {b : Bool} → b ≡ true → b ≡ sits left r c → (0 < c.size) × (c.size ≤ left)
child-small left r c {b} p t = let x = sat left r c (told-so b p t) in (x.some, x.fit)

-- The line behind it has a number.
pub child-room : {rs : List Rec} {r : Rec} {whole : Option Seen} {i : ℕ} {s : Seen} → Walking rs r whole i s → (c : Rec)
    → {b : Bool} → b ≡ true → b ≡ sits s.left r c → i + c.size < half_range * half_range
child-room {r = r} {s = s} w c p t = omega (arith, (child-small s.left r c p t).1, w.fits)

-- Past it less is left.
pub past-less : (s : Seen) (r c : Rec) {b : Bool} → b ≡ true → b ≡ sits s.left r c → {x : Seen} → x ≡ past s c → x.left < s.left
unfolding past
past-less s r c p t e =
    let (some, fit) = child-small s.left r c p t in
    let l = ap (λ (x : Seen). x.left) e in
    omega (arith, l, some, fit)

-- The state past a child is one of the table's.
pub past-state : (s : Seen) (c : Rec) → s.state < state_count → {x : Seen} → x ≡ past s c → x.state < state_count
unfolding past next
past-state s c h e =
    let l = ap (λ (x : Seen). x.state) e in
    let b = entry-below s.state (cue c.kind c.low c.high) h (cue-below c.kind c.low c.high) in
    omega (arith, l, b)

-- The first six fields of a line are there, in the part of the text that begins with it,
pub its-line : {n : ℕ} (l : Listing n) (i : ℕ) {step : ℕ} → step ≡ wide (fields l) → i < length (its_lines l) → step * i + wide (first_six (fields l)) ≤ length l.text.now
its-line l i b h =
    let f = as_form l.form in
    let text = l.text.now in
    omega (arith, line-in (fields l) text (held-form f b) i (omega (arith, h, records-long (fields l) text, lines-long (fields l) text)), wide-front six_fields (fields l))

-- and that part is the rest of the text.
module _ {n : ℕ} (l : Listing n) (i : ℕ) {step : ℕ} (b : step ≡ wide (fields l)) {ws : List ℕ} (six : first_six (fields l) ≡ ws) where
  abbrev from_line : List ℕ
  from_line = take (length l.text.now - step * i) (drop (step * i) l.text.now)

  pub line-room : i < length (its_lines l) → wide ws ≤ length from_line
  line-room h =
      omega (arith, its-line l i b h, ap wide six, length-take (length l.text.now - step * i) (drop (step * i) l.text.now), length-drop (step * i) l.text.now)

  pub line-numbers : {vs : List ℕ} → vs ≡ values_of ws from_line → vs ≡ values_of (first_six (fields l)) (drop (wide (fields l) * i) l.text.now)
  line-numbers e =
      e
      ∙ ap (values_of ws) (take_all (length l.text.now - step * i) (drop (step * i) l.text.now) (omega (arith, length-drop (step * i) l.text.now)))
      ∙ (λ j. values_of (sym six j) (drop (b j * i) l.text.now))
