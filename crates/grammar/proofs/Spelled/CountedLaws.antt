-- The laws of HeadLaws.antt for the forms that count or hold a number: a function, types with a number or `< >`, what begins with a
-- name, and arms.
-- Assumes nothing.
use Rattle.std.specs.Prelude.{Bool, ◌&&◌, ◌||◌, ◌⊎◌, ◌≡◌}
use Rattle.std.proofs.Math.Bool.{true, false, cond}
use mathlib.Core.List.{List, [], ◌∷◌}
use Rattle.std.proofs.Common.{inl, inr, sym, ◌∙◌, arith}
use Rattle.std.proofs.Math.Path.{refl, ap, subst}
use Prim.Native.Nat.{ℕ, ◌+◌, ◌≤◌}
use Rattle.std.proofs.Math.Dec.{T}
use Rattle.text.proofs.Table.{first-of, second-of, or_cases}
use Rattle.text.specs.Lists.{all, has, count, span}
use Rattle.num.specs.Bound.{is_bound}
use Rattle.num.specs.Value.{largest}
use Rattle.own.specs.Law.{Sort}
use Rattle.own.specs.Kinds as kind
use Rattle.own.specs.Arms as arm
use Rattle.kinds.specs.Shape.{Shape, Spells}
use Rattle.kinds.specs.Fields.{counted}
use Rattle.kinds.specs.Families as family
use Rattle.lexer.specs.Classes as class
use Rattle.grammar.proofs.Spelled.Rows.{Row, variants}
use Rattle.grammar.proofs.Spelled.Inclusion.{dealt}
use Rattle.grammar.proofs.Spelled.Decisions.{sure, free, row_sure, row-free, lacks, row-lacks, counted-dealt, names-dealt}
use Rattle.grammar.proofs.Spelled.FormTests.{SpelledAs, by_rows, form_in, no_number, any_number, a_bound, of_parameters, of_pairs, counts, Says}
use Rattle.grammar.proofs.Spelled.FormTests.{halves_of, number_of}
use Rattle.grammar.proofs.Spelled.HeadLaws.{opened, opened-sound, exact_in, exact-sound, count-sound}
use Rattle.grammar.specs.Records.Records.{role_of, head, wide, sees, opening, name_count, place_in, function_head, arm_head, arm_words}
use Rattle.grammar.specs.Records.Records as rec

-- three tests that pass
pub second-third : (a b c : Bool) → T (a && (b && c)) → T b × T c
second-third a b c t = (first-of b c (second-of a (b && c) t), second-of b c (second-of a (b && c) t))

pub names-construction : (n : ℕ) (w : List Sort) → counted (kind.Name ∷ []) w ≡ 0 → name_count w ≡ counted (kind.Name ∷ []) (dealt kind.EnumConstruction n w)
unfolding role_of has
names-construction n w e = let q = names-dealt kind.EnumConstruction n (λ c. refl) w in omega arith

names-arm : (n : ℕ) (w : List Sort) → counted (kind.Name ∷ []) w ≡ 0 → name_count w ≡ counted (kind.Name ∷ []) (dealt kind.EnumArm n w)
unfolding role_of has
names-arm n w e = let q = names-dealt kind.EnumArm n (λ c. refl) w in omega arith

parameters-function : (n : ℕ) (w : List Sort) → counted (kind.Parameter ∷ []) w ≡ counted (kind.Parameter ∷ []) (dealt kind.Function n w)
unfolding has
parameters-function n w = sym (counted-dealt (kind.Parameter ∷ []) kind.Function n w refl refl)

pairs-arm : (n : ℕ) (w : List Sort) → counted family.patterns w ≡ counted family.patterns (dealt kind.EnumArm n w)
unfolding has span count
pairs-arm n w = sym (counted-dealt family.patterns kind.EnumArm n w refl refl)

module _ (n : ℕ) where
  -- ---- a function
  unfoldable pub function_case : (ℕ → List Shape → Bool) → (ℕ → List Shape → Bool) → ℕ → List Shape → Bool
  function_case p q m row = p class.Pub row && (q class.Arrow row && form_in kind.Function n no_number (counts (of_parameters m)) row)

  unfoldable pub function_row : List Shape → Bool
  function_row row = (function_case free free 0 row || function_case sure free 1 row) || (function_case free sure 2 row || function_case sure sure 3 row)

  -- a token is surely there, or surely not
  abbrev Tells : (ℕ → List Shape → Bool) → Bool → Type 0
  Tells p b = (c : ℕ) (l : List Shape) (w : List Sort) → T (p c l) → Row l w → sees c w ≡ b

  free-tells : Tells free false
  free-tells c l w t r = row-free c t r

  sure-tells : Tells sure true
  sure-tells c l w t r = row_sure c t r

  function-case : (p q : ℕ → List Shape → Bool) (a b : Bool) → Tells p a → Tells q b → (m : ℕ) → cond a 1 0 + cond b 2 0 ≡ m
      → (row : List Shape) {w : List Sort} → T (function_case p q m row) → Row row w → SpelledAs (function_head w) n w
  unfolding function_case function_head Says
  function-case p q a b f g m e row {w} t r =
      let x = p class.Pub row in
      let y = q class.Arrow row in
      let z = form_in kind.Function n no_number (counts (of_parameters m)) row in
      let u = second-third x y z t in
      count-sound n (of_parameters m) (function_head w) row
      (ap (λ i. cond i 1 0 + cond (sees class.Arrow w) 2 0) (f class.Pub row w (first-of x (y && z) t) r) ∙ ap (λ i. cond a 1 0 + cond i 2 0) (g class.Arrow row w u.0 r) ∙ e, parameters-function n w)
      u.1 r

  function-row : (row : List Shape) {w : List Sort} → T (function_row row) → Row row w → SpelledAs (function_head w) n w
  unfolding function_row
  function-row row {w} t r =
      go (or_cases (function_case free free 0 row || function_case sure free 1 row) (function_case free sure 2 row || function_case sure sure 3 row) t)
    where
      one : T (function_case free free 0 row) ⊎ T (function_case sure free 1 row) → SpelledAs (function_head w) n w
      one (inl u) = function-case free free false false free-tells free-tells 0 refl row u r
      one (inr u) = function-case sure free true false sure-tells free-tells 1 refl row u r

      two : T (function_case free sure 2 row) ⊎ T (function_case sure sure 3 row) → SpelledAs (function_head w) n w
      two (inl u) = function-case free sure false true free-tells sure-tells 2 refl row u r
      two (inr u) = function-case sure sure true true sure-tells sure-tells 3 refl row u r

      go : T (function_case free free 0 row || function_case sure free 1 row) ⊎ T (function_case free sure 2 row || function_case sure sure 3 row) → SpelledAs (function_head w) n w
      go (inl u) = one (or_cases (function_case free free 0 row) (function_case sure free 1 row) u)
      go (inr u) = two (or_cases (function_case free sure 2 row) (function_case sure sure 3 row) u)

  pub function-law : (a : Shape) {w : List Sort} → T (all function_row (variants a)) → Spells a w → SpelledAs (function_head w) n w
  function-law a t p = by_rows function_row a t (λ l u r. function-row l u r) p

  -- ---- a number
  pub number-law : (K : ℕ) (a : Shape) → n ≤ largest → {w : List Sort} → T (all (form_in K n no_number (counts any_number)) (variants a)) → Spells a w → SpelledAs (wide K n) n w
  unfolding Says
  number-law K a small t p = by_rows (form_in K n no_number (counts any_number)) a t (λ l u r. count-sound n any_number (wide K n) l (halves_of n small) u r) p

  -- ---- with `< >`, or an alias name
  unfoldable pub angled_row : (List Shape → Bool) → List Shape → Bool
  angled_row test row = (sure class.LAngle row && test row) || (free class.LAngle row && exact_in n (rec.plain kind.Alias) row)

  pub angled-law : (K : ℕ) (test : List Shape → Bool) (a : Shape) {w : List Sort}
      → (sees class.LAngle w ≡ true → (l : List Shape) → T (test l) → Row l w → SpelledAs (wide K n) n w)
      → T (all (angled_row test) (variants a)) → Spells a w → SpelledAs (cond (sees class.LAngle w) (wide K n) (rec.plain kind.Alias)) n w
  unfolding angled_row
  angled-law K test a {w} f t p = by_rows (angled_row test) a t (λ l u r. go l r (or_cases (sure class.LAngle l && test l) (free class.LAngle l && exact_in n (rec.plain kind.Alias) l) u)) p
    where
      go : (l : List Shape) → Row l w → T (sure class.LAngle l && test l) ⊎ T (free class.LAngle l && exact_in n (rec.plain kind.Alias) l) → SpelledAs (cond (sees class.LAngle w) (wide K n) (rec.plain kind.Alias)) n w
      go l r (inl u) = let e = row_sure class.LAngle (first-of (sure class.LAngle l) (test l) u) r in rw e (f e l (second-of (sure class.LAngle l) (test l) u) r)
      go l r (inr u) = rw (row-free class.LAngle (first-of (free class.LAngle l) (exact_in n (rec.plain kind.Alias) l) u) r) (exact-sound n (rec.plain kind.Alias) l (second-of (free class.LAngle l) (exact_in n (rec.plain kind.Alias) l) u) r)

  pub bound-row : n ≤ largest → T (is_bound n) → (l : List Shape) {w : List Sort} → T (form_in kind.ListType n no_number (counts a_bound) l) → Row l w → SpelledAs (wide kind.ListType n) n w
  unfolding Says
  bound-row small b l t r = count-sound n a_bound (wide kind.ListType n) l (halves_of n small, subst (λ (m : ℕ). T (is_bound m)) (sym (number_of n)) b) t r

  -- ---- arms
  unfoldable pub arm_row : ℕ → List Shape → Bool
  arm_row c row =
      (sure class.DoubleColon row && (all (lacks (kind.Name ∷ [])) row && form_in kind.EnumArm n no_number (counts of_pairs) row))
      || (free class.DoubleColon row && exact_in n (head kind.BuiltinArm (place_in 0 arm.Left arm_words c) 0) row)

  arm-row : (c : ℕ) (row : List Shape) {w : List Sort} → T (arm_row c row) → opening w ≡ c → Row row w → SpelledAs (arm_head w) n w
  unfolding arm_row arm_head Says
  arm-row c row {w} t e r =
      let x = sure class.DoubleColon row in
      let y = all (lacks (kind.Name ∷ [])) row in
      let z = form_in kind.EnumArm n no_number (counts of_pairs) row in
      let h = head kind.BuiltinArm (place_in 0 arm.Left arm_words c) 0 in
      go (or_cases (x && (y && z)) (free class.DoubleColon row && exact_in n h row) t)
    where
      low : ℕ
      low = place_in 0 arm.Left arm_words c

      go : T (sure class.DoubleColon row && (all (lacks (kind.Name ∷ [])) row && form_in kind.EnumArm n no_number (counts of_pairs) row)) ⊎ T (free class.DoubleColon row && exact_in n (head kind.BuiltinArm low 0) row) → SpelledAs (arm_head w) n w
      go (inl u) =
          let x = sure class.DoubleColon row in
          let y = all (lacks (kind.Name ∷ [])) row in
          let z = form_in kind.EnumArm n no_number (counts of_pairs) row in
          let v = second-third x y z u in
          rw (row_sure class.DoubleColon (first-of x (y && z) u) r)
          (count-sound n of_pairs (head kind.EnumArm (name_count w) (counted family.patterns w)) row (names-arm n w (row-lacks (kind.Name ∷ []) v.0 r), pairs-arm n w) v.1 r)
      go (inr u) =
          rw (row-free class.DoubleColon (first-of (free class.DoubleColon row) (exact_in n (head kind.BuiltinArm low 0) row) u) r, e)
          (exact-sound n (head kind.BuiltinArm low 0) row (second-of (free class.DoubleColon row) (exact_in n (head kind.BuiltinArm low 0) row) u) r)

  pub arm-law : (a : Shape) {w : List Sort} → T (all (opened arm_row) (variants a)) → Spells a w → SpelledAs (arm_head w) n w
  arm-law a t p = by_rows (opened arm_row) a t (λ l u r. opened-sound arm_row l u (λ c m x e s. arm-row c m x e s) r) p
