-- How the parts that records count lie in their list: where the first counts all of them and the sizes add up, each ends in it, each counts itself at
-- least, and each but the first is a child of one before it.
-- Assumes nothing.
use Rattle.std.specs.Prelude.{List, [], ◌∷◌, ◌≡◌, refl, ℕ, zero, suc, ◌+◌, ◌-◌, ◌<◌, ◌≤◌, length, get_or, take, drop}
use Rattle.std.proofs.Common.{sym, ap, ◌∙◌, subst, arith, length-drop, length-take, drop-cons, drop-drop}
use Rattle.std.proofs.Math.Decide.{dec_lt}
use Rattle.std.proofs.Math.Seq.{take-nil}
use Rattle.text.specs.Lists.{Some, here, there}
use Rattle.own.specs.Tree.{Rec}
use Rattle.own.specs.Flat.{blank, row, head_children, children}
use Rattle.own.specs.Lists.{All, nil, ◌&◌}
use Rattle.own.proofs.Lists.{all_from, all_take, all_drop}
use Rattle.load.specs.Function.{sizes}

-- A record is one of these.
abbrev pub Among : Rec → List Rec → Type 0
Among r cs = Some (λ c. c ≡ r) cs

-- A record counts itself at least.
abbrev pub Counts : Rec → Type 0
Counts c = 0 < c.size

-- as many steps as there are records are enough to find those side by side
row-enough : (f g : ℕ) (l : List Rec) → length l ≤ f → length l ≤ g → row f l ≡ row g l
row-enough zero zero l h k = refl
row-enough zero (suc g) [] h k = refl
row-enough zero (suc g) (x ∷ l) h k = absurd (omega arith)
row-enough (suc f) zero [] h k = refl
row-enough (suc f) zero (x ∷ l) h k = absurd (omega arith)
row-enough (suc f) (suc g) [] h k = refl
row-enough (suc f) (suc g) (x ∷ l) h k =
    let d = length-drop (x.size - 1) l in
    ap (λ (m : List Rec). x ∷ m) (row-enough f g (drop (x.size - 1) l) (omega arith) (omega arith))

-- records side by side are records of the list
all_row : {P : Rec → Type 0} (f : ℕ) {l : List Rec} → All P l → All P (row f l)
all_row zero h = nil
all_row (suc f) nil = nil
all_row (suc f) (◌&◌ {a = x} p h) = p & all_row f (all_drop (x.size - 1) h)

-- what stands behind a child in a part
take-drop : {A : Type 0} (s n : ℕ) (l : List A) → drop s (take n l) ≡ take (n - s) (drop s l)
take-drop zero n l = let e : n ≡ n - 0 = omega arith in ap (λ (m : ℕ). take m l) e
take-drop (suc s) zero [] = sym (take-nil (0 - suc s))
take-drop (suc s) zero (a ∷ l) = let e : 0 ≡ 0 - suc s = omega arith in ap (λ (m : ℕ). take m (drop s l)) e
take-drop (suc s) (suc n) [] = sym (take-nil (suc n - suc s))
take-drop (suc s) (suc n) (a ∷ l) = let e : n - s ≡ suc n - suc s = omega arith in take-drop s n l ∙ ap (λ (m : ℕ). take m (drop s l)) e

-- The children that are left: so many records from i on.
abbrev pub left : List Rec → ℕ → ℕ → List Rec
left rs i n = row n (take n (drop i rs))

-- the next of them, and those behind it
pub left-next : (rs : List Rec) (i n : ℕ) → 0 < n → i + n ≤ length rs → 0 < (get_or rs i blank).size → (get_or rs i blank).size ≤ n
    → left rs i n ≡ get_or rs i blank ∷ left rs (i + (get_or rs i blank).size) (n - (get_or rs i blank).size)
left-next rs i zero p h s k = absurd (omega arith)
left-next rs i (suc n) p h s k =
    let x = get_or rs i blank in
    let z = x.size in
    let d : drop i rs ≡ x ∷ drop (suc i) rs = drop-cons rs i blank (omega arith) in
    let a : n - (z - 1) ≡ suc n - z = omega arith in
    let b : suc i + (z - 1) ≡ i + z = omega arith in
    let e : drop (z - 1) (take n (drop (suc i) rs)) ≡ take (suc n - z) (drop (i + z) rs) =
    take-drop (z - 1) n (drop (suc i) rs) ∙ (λ j. take (a j) ((drop-drop (z - 1) (suc i) rs ∙ ap (λ (m : ℕ). drop m rs) b) j)) in
    let t = length-take (suc n - z) (drop (i + z) rs) in
    let u = length-drop (i + z) rs in
    ap (λ (l : List Rec). row (suc n) (take (suc n) l)) d
    ∙ ap (λ (l : List Rec). x ∷ row n l) e
    ∙ ap (λ (l : List Rec). x ∷ l) (row-enough n (suc n - z) (take (suc n - z) (drop (i + z) rs)) (omega arith) (omega arith))

-- the children of a record are all that it counts but itself
pub all_left : (rs : List Rec) (j : ℕ) → j < length rs → 0 < (get_or rs j blank).size → j + (get_or rs j blank).size ≤ length rs
    → children rs j ≡ left rs (j + 1) ((get_or rs j blank).size - 1)
all_left rs j h s k =
    let x = get_or rs j blank in
    let n = x.size - 1 in
    let e : suc j ≡ j + 1 = omega arith in
    let t = length-take n (drop (suc j) rs) in
    ap head_children (drop-cons rs j blank h)
    ∙ row-enough x.size n (take n (drop (suc j) rs)) (omega arith) (omega arith)
    ∙ ap (λ (m : ℕ). left rs m n) e

-- Records whose sizes add up.
module _ (rs : List Rec) (adds : (j : ℕ) → j < length rs → (get_or rs j blank).size ≡ suc (sizes (children rs j))) where
  abbrev at : ℕ → ℕ
  at k = (get_or rs k blank).size

  first_fits : (i n : ℕ) → 0 < n → i < length rs → sizes (left rs i n) ≡ n → at i ≤ n
  first_fits i zero p h e = absurd (omega arith)
  first_fits i (suc n) p h e =
      let d = ap (λ (l : List Rec). sizes (row (suc n) (take (suc n) l))) (drop-cons rs i blank h) in
      omega arith

  -- The first of those left counts itself, has room, and those behind it fill what is left behind it.
  record Next (i n : ℕ) : Type 0 where
    some : 0 < at i
    fits : at i ≤ n
    filled : sizes (left rs (i + at i) (n - at i)) ≡ n - at i

  next : (i n : ℕ) → 0 < n → i + n ≤ length rs → sizes (left rs i n) ≡ n → Next i n
  next i n p h e =
      let a = adds i (omega arith) in
      let s : 0 < at i = omega arith in
      let f = first_fits i n p (omega arith) e in
      record { some = s; fits = f; filled = omega (arith, ap sizes (left-next rs i n p h s f)) }

  -- what is beneath a record fills its part
  beneath : (j : ℕ) → j < length rs → j + at j ≤ length rs → sizes (left rs (j + 1) (at j - 1)) ≡ at j - 1
  beneath j h r = let a = adds j h in omega (arith, ap sizes (all_left rs j h (omega arith) r))

  -- Record k ends in the list, and is a child of one before it.
  pub record Held (k : ℕ) : Type 0 where
    pub room : k + at k ≤ length rs
    pub parent : ℕ
    pub before : parent < k
    pub child : Among (get_or rs k blank) (children rs parent)

  -- Each record among those left, children of the record p, or beneath them is held, where they fill what is left; f is enough to find it.
  abbrev Holds : ℕ → ℕ → ℕ → ℕ → Type 0
  Holds f p i n =
      n ≤ f → i + n ≤ length rs → sizes (left rs i n) ≡ n → p < i → ((c : Rec) → Among c (left rs i n) → Among c (children rs p))
      → (k : ℕ) → i ≤ k → k < i + n → Held k

  left-held : (f p i n : ℕ) → Holds f p i n
  left-held zero p i n l h e b c k m o = absurd (omega arith)
  left-held (suc f) p i n l h e b c k m o = go (dec_lt i k) (dec_lt k (i + at i)) (left-held f i (i + 1) (at i - 1)) (left-held f p (i + at i) (n - at i))
    where
      x : Next i n
      x = next i n (omega arith) h e

      first : left rs i n ≡ get_or rs i blank ∷ left rs (i + at i) (n - at i)
      first = left-next rs i n (omega arith) h x.some x.fits

      among : {r : Rec} → Among r (get_or rs i blank ∷ left rs (i + at i) (n - at i)) → Among r (children rs p)
      among {r} s = c r (subst (Among r) (sym first) s)

      go : Dec (i < k) → Dec (k < i + at i) → Holds f i (i + 1) (at i - 1) → Holds f p (i + at i) (n - at i) → Held k
      go (no q) t u v =
          let y : i ≡ k = omega arith in
          subst Held y (record { room = omega (arith, x.fits); parent = p; before = b; child = among (here refl) })
      go (yes q) (yes t) u v =
          let a = x.fits in
          let d = all_left rs i (omega arith) x.some (omega arith) in
          u (omega arith) (omega arith) (beneath i (omega arith) (omega arith)) (omega arith) (λ r s. subst (Among r) (sym d) s) k (omega arith) (omega arith)
      go (yes q) (no t) u v =
          let a = x.fits in
          let d = x.some in
          v (omega arith) (omega arith) x.filled (omega arith) (λ r s. among (there s)) k (omega arith) (omega arith)

  -- Where the first counts all of them each but the first is held,
  pub each-held : at 0 ≡ length rs → (k : ℕ) → 0 < k → k < length rs → Held k
  each-held e k p h =
      let d = all_left rs 0 (omega arith) (omega arith) (omega arith) in
      left-held (length rs) 0 1 (at 0 - 1) (omega arith) (omega arith) (beneath 0 (omega arith) (omega arith)) (omega arith) (λ r s. subst (Among r) (sym d) s) k (omega arith) (omega arith)

  -- and each ends in the list.
  pub each-room : at 0 ≡ length rs → (k : ℕ) → k < length rs → k + at k ≤ length rs
  each-room e zero h = omega arith
  each-room e (suc k) h = (each-held e (suc k) (omega arith) h).room

  -- Children are records of the list, and so count themselves.
  pub each-some : (k : ℕ) → All Counts (children rs k)
  each-some k = go (drop k rs) (all_drop k (all_from rs blank (λ j h. omega (arith, adds j h))))
    where
      go : (l : List Rec) → All Counts l → All Counts (head_children l)
      go [] h = nil
      go (x ∷ l) (p & h) = all_row x.size (all_take (x.size - 1) h)
