-- The states that children begin in are those of the forms, by two computations: over the forms, and over the kinds with their lows.
-- Assumes nothing.
use Rattle.std.specs.Prelude.{Bool, true, false, ◌&&◌, ◌||◌, cond, List, [], ◌∷◌, ◌⊎◌, ◌≡◌, refl, ℕ, ◌+◌, ◌*◌, ◌<◌, ◌≤◌, T, eqb, ltb, get_or}
use Rattle.std.proofs.Common.{inl, inr, sym, ap, ◌∙◌, subst, arith, ltb-true, ltb-false, le-ltb, eqb-true, eqb→eq, ltb→lt}
use Rattle.std.proofs.Math.Dec.{eqb_refl}
use Rattle.text.specs.Lists.{has, all, some, count, span, Some}
use Rattle.text.proofs.ListLaws.{all-has, all-count, some-sound, from_some}
use Rattle.text.specs.Same.{same}
use Rattle.text.proofs.SameLaws.{same_true}
use Rattle.text.proofs.Table.{is_true, first-of, second-of, pair, or_cases}
use Rattle.num.specs.Bound.{is_bound}
use Rattle.own.specs.Law.{Sort}
use Rattle.own.specs.Kinds as kind
use Rattle.kinds.specs.Shape.{number, fits}
use Rattle.kinds.specs.Families as family
use Rattle.kinds.specs.Fields as fields
use Rattle.kinds.specs.Fields.{Fields, counted, halves, holds}
use Rattle.kinds.specs.Rules.{Form, forms, all_forms}
use Rattle.kinds.specs.Decide.{forms_for}
use Rattle.kinds.specs.Derive.{blank, dead, then, either, is_mark, is_part, after}
use Rattle.load.specs.Bare.{bare_part, bare_shape}
use Rattle.load.specs.Children.Table.{state_count, reaches, states, heads, cue_kinds, cue_lows}
use Rattle.load.specs.Children.Tidy.{part_label, label, first, second, equal, joined, chain, within, added, choice, tidy}
use Rattle.load.specs.Children.Cues.{kinds_end}
use Rattle.load.specs.Children.Laid.{laid}
use Rattle.load.specs.Children.Automaton.{reached, build, residuals, found}
use Rattle.load.specs.Children.Run.{Has}
use Rattle.load.proofs.Children.Run.{has-found, known-state}
use Rattle.load.specs.Children.Begin as begin
use Rattle.load.specs.Children.Begin.{bits, asked, lows_for, which, besides, agrees, asked_of, first_of, lows_of, state_of, start}

-- What a form asks of low and high before the children are seen.
unfoldable pub asks : Fields → ℕ → ℕ → Bool
asks f low high = has (lows_for f) (which (asked f) low) && besides (asked f) low high

-- what the fields of a form say of low and high: what it asks, and that the numbers of children agree
abbrev pub agreed : ℕ → ℕ → ℕ → List Sort → Bool
agreed a low high w = agrees a low high (counted (kind.Name ∷ []) w) (counted (kind.Parameter ∷ []) w) (counted family.patterns w)

flip : (m n : ℕ) → eqb m n ≡ (eqb n m || false)
flip m n = go (eqb m n) refl (eqb n m) refl
  where
    go : (a : Bool) → eqb m n ≡ a → (b : Bool) → eqb n m ≡ b → a ≡ (b || false)
    go true e true f = refl
    go false e false f = refl
    go true e false f = sym (ap (λ x. x || false) (sym f ∙ ap (λ (k : ℕ). eqb k m) (sym (eqb-true m n e)) ∙ is_true (eqb m m) (eqb_refl m)))
    go false e true f = sym e ∙ ap (λ (k : ℕ). eqb k n) (sym (eqb-true n m f)) ∙ is_true (eqb n n) (eqb_refl n)

and-true : (b : Bool) → b ≡ (b && true)
and-true true = refl
and-true false = refl

and-flip : (a b : Bool) → (a && b) ≡ (b && a)
and-flip true true = refl
and-flip true false = refl
and-flip false true = refl
and-flip false false = refl

-- The fields of a form hold exactly when low and high are what it asks and the numbers of children agree; a half of 32 bits holds both.
pub holds-split : (f : Fields) (low high : ℕ) (w : List Sort) → T (halves low high) → holds f low high w ≡ (asks f low high && agreed (asked f) low high w)
unfolding holds asks asked lows_for which besides agrees has
holds-split fields.plain l h w t = ap (λ b. b && eqb h 0) (flip l 0) ∙ and-true ((eqb 0 l || false) && eqb h 0)
holds-split (fields.low n) l h w t = ap (λ b. b && eqb h 0) (flip l n) ∙ and-true ((eqb n l || false) && eqb h 0)
holds-split (fields.among ns) l h w t = go (same ns bits) refl
  where
    go : (b : Bool) → same ns bits ≡ b
        → (has ns l && eqb h 0)
        ≡ (has (cond b (0 ∷ []) ns) (which (cond b begin.Bits begin.Low) l) && besides (cond b begin.Bits begin.Low) l h && agreed (cond b begin.Bits begin.Low) l h w)
    go true e = ap (λ (m : List ℕ). has m l && eqb h 0) (same_true ns bits e) ∙ and-true (has bits l && eqb h 0)
    go false e = and-true (has ns l && eqb h 0)
holds-split fields.wide l h w t = is_true (halves l h) t
holds-split fields.bounded l h w t = ap (λ b. b && is_bound (number l h)) (is_true (halves l h) t) ∙ and-true (is_bound (number l h))
holds-split (fields.parameters n) l h w t = ap (λ b. b && eqb h (counted (kind.Parameter ∷ []) w)) (flip l n ∙ and-true (eqb n l || false))
holds-split fields.names l h w t = and-flip (eqb l (counted (kind.Name ∷ []) w)) (eqb h 0)
holds-split fields.pairs l h w t = refl

-- Each form has its state at each of its lows,
unfoldable pub form_right : Form → Bool
form_right f =
    eqb (asked f.fields) (asked_of f.kind)
    && all (λ i. ltb i (lows_of f.kind) && found (state_of f.kind i) (tidy (laid f))) (lows_for f.fields)

pub forms-right : T (all form_right all_forms)
unfolding
    form_right bits asked lows_for asked_of lows_of first_of state_of heads found residuals build reached reaches states cue_kinds cue_lows all some
    has count span number is_bound fits blank dead then either is_mark is_part after forms all_forms bare_part bare_shape laid part_label label first
    second equal same joined chain within added choice tidy
forms-right = tt

-- and each state of a kind but the dead one is that of a form that has the low.
unfoldable pub low_right : ℕ → ℕ → Form → Bool
low_right k i f = eqb (asked f.fields) (asked_of k) && (has (lows_for f.fields) i && found (state_of k i) (tidy (laid f)))

unfoldable pub kind_right : ℕ → Bool
kind_right k = all (λ i. eqb (state_of k i) 0 || some (low_right k i) (forms_for k)) (count (lows_of k) 0)

pub kinds-right : T (all kind_right (count kinds_end 0))
unfolding
    kind_right low_right bits asked lows_for asked_of lows_of first_of state_of heads found residuals build reached reaches states cue_kinds cue_lows
    all some has count span number is_bound fits blank dead then either is_mark is_part after forms all_forms forms_for bare_part bare_shape laid
    part_label label first second equal same joined chain within added choice tidy
kinds-right = tt

-- A form that asks no more than low and high are has the state that the children begin in,
pub begins-in : (f : Form) (low high : ℕ) → T (form_right f) → T (asks f.fields low high) → (asked f.fields ≡ asked_of f.kind) × Has (start f.kind low high) (tidy (laid f))
unfolding form_right asks start
begins-in f low high t u =
    let a = asked f.fields in
    let k = f.kind in
    let each : ℕ → Bool = λ i. ltb i (lows_of k) && found (state_of k i) (tidy (laid f)) in
    let e : a ≡ asked_of k = eqb→eq a (asked_of k) (first-of (eqb a (asked_of k)) (all each (lows_for f.fields)) t) in
    let i = which a low in
    let one = all-has each (lows_for f.fields) i (second-of (eqb a (asked_of k)) (all each (lows_for f.fields)) t) (first-of (has (lows_for f.fields) i) (besides a low high) u) in
    let c = ltb i (lows_of k) in
    let there : T (ltb i (lows_of k) && besides a low high) = pair c (besides a low high) (first-of c (found (state_of k i) (tidy (laid f))) one) (second-of (has (lows_for f.fields) i) (besides a low high) u) in
    let is : start k low high ≡ state_of k i =
    ap (λ (x : ℕ). cond (ltb (which x low) (lows_of k) && besides x low high) (state_of k (which x low)) 0) (sym e)
    ∙ ap (λ (b : Bool). cond b (state_of k i) 0) (is_true (ltb i (lows_of k) && besides a low high) there) in
    (e, subst (λ (q : ℕ). Has q (tidy (laid f))) (sym is) (has-found (state_of k i) (tidy (laid f)) (second-of c (found (state_of k i) (tidy (laid f))) one)))

-- A form of the kind that asks no more than low and high are, with the state that the children begin in.
pub record Begun (k low high : ℕ) (f : Form) : Type 0 where
  pub same_asked : asked f.fields ≡ asked_of k
  pub suits : T (asks f.fields low high)
  pub state : Has (start k low high) (tidy (laid f))

lows-past : (k : ℕ) → kinds_end ≤ k → lows_of k ≡ 0
unfolding lows_of
lows-past k h = ap (λ (b : Bool). cond b (get_or heads (begin.columns * k + 2) 0) 0) (le-ltb k kinds_end h)

kind-right : (k : ℕ) → T (kind_right k)
unfolding kind_right all count
kind-right k = go (ltb k kinds_end) refl
  where
    go : (b : Bool) → ltb k kinds_end ≡ b → T (kind_right k)
    go true e = all-count kind_right kinds_end 0 k kinds-right (omega arith) (omega (arith, ltb-true k kinds_end e))
    go false e =
        subst (λ (n : ℕ). T (all (λ i. eqb (state_of k i) 0 || some (low_right k i) (forms_for k)) (count n 0)))
        (sym (lows-past k (ltb-false k kinds_end e))) tt

-- and the children begin in the dead state, or in that of such a form.
pub begins-out : (k low high : ℕ) → (start k low high ≡ 0) ⊎ Some (Begun k low high) (forms_for k)
unfolding start kind_right low_right asks
begins-out k low high = go (ltb i (lows_of k) && besides a low high) refl
  where
    a : ℕ
    a = asked_of k

    i : ℕ
    i = which a low

    q : ℕ
    q = start k low high

    open-case : (ltb i (lows_of k) && besides a low high) ≡ true → q ≡ state_of k i
    open-case e = ap (λ (b : Bool). cond b (state_of k i) 0) e

    begun : T (besides a low high) → q ≡ state_of k i → (f : Form) → T (low_right k i f) → Begun k low high f
    begun u e f t =
        let x = eqb (asked f.fields) a in
        let y = has (lows_for f.fields) i in
        let z = found (state_of k i) (tidy (laid f)) in
        let v = second-of x (y && z) t in
        let s : asked f.fields ≡ a = eqb→eq (asked f.fields) a (first-of x (y && z) t) in
        record {
          same_asked = s;
          suits =
              subst (λ (b : ℕ). T (has (lows_for f.fields) (which b low) && besides b low high)) (sym s) (pair y (besides a low high) (first-of y z v) u);
          state = subst (λ (p : ℕ). Has p (tidy (laid f))) (sym e) (has-found (state_of k i) (tidy (laid f)) (second-of y z v));
        }

    go : (b : Bool) → (ltb i (lows_of k) && besides a low high) ≡ b → (cond b (state_of k i) 0 ≡ 0) ⊎ Some (Begun k low high) (forms_for k)
    go false e = inl refl
    go true e =
        let t : T (ltb i (lows_of k) && besides a low high) = subst (λ (b : Bool). T b) (sym e) tt in
        let h = ltb→lt i (lows_of k) (first-of (ltb i (lows_of k)) (besides a low high) t) in
        last (or_cases (eqb (state_of k i) 0) (some (low_right k i) (forms_for k))
        (all-count (λ j. eqb (state_of k j) 0 || some (low_right k j) (forms_for k)) (lows_of k) 0 i (kind-right k) (omega arith) (omega arith)))
      where
        last : T (eqb (state_of k i) 0) ⊎ T (some (low_right k i) (forms_for k)) → (state_of k i ≡ 0) ⊎ Some (Begun k low high) (forms_for k)
        last (inl z) = inl (eqb→eq (state_of k i) 0 z)
        last (inr z) = inr (some-sound (low_right k i) (begun (second-of (ltb i (lows_of k)) (besides a low high) (subst (λ (b : Bool). T b) (sym e) tt)) (open-case e)) (forms_for k) z)

-- It is a state of the table.
pub start-below : (k low high : ℕ) → start k low high < state_count
start-below k low high = go (begins-out k low high)
  where
    go : (start k low high ≡ 0) ⊎ Some (Begun k low high) (forms_for k) → start k low high < state_count
    go (inl e) = omega arith
    go (inr s) = from_some (λ f x. known-state (start k low high) (tidy (laid f)) x.state) s
