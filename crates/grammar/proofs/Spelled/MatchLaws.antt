-- The law of HeadLaws.antt for a match: without refusals 11 to 14 it is one of enum arms, or of two built-in arms that are partners.
-- Assumes nothing.
use Rattle.std.specs.Prelude.{Bool, true, false, ◌&&◌, ◌||◌, not, cond, ◌⊎◌, ◌≡◌, refl, ℕ, ◌+◌, ◌<◌, ltb, length}
use mathlib.Core.List.{cons-ne-nil}
use mathlib.Core.List.{List, [], ◌∷◌, ◌++◌, foldr}
use Rattle.std.proofs.Common.{inl, inr, sym, ap, ◌∙◌, subst, arith, eqb-true, lt-ltb, eqb→eq, pos_of_ne-zero}
use Rattle.std.proofs.lemmas.Bool.{eqb-false}
use Rattle.std.proofs.lemmas.List.{nil_from_length}
use Rattle.std.proofs.Math.Dec.{T, eqb}
use Rattle.text.proofs.ListLaws.{all-has}
use Rattle.text.proofs.Table.{first-of, second-of, or_cases, pair, not-true}
use Rattle.text.specs.Refusals.{refusal_number}
use Rattle.text.specs.declared.refusal.Refusal.TheVariants as refusal
use Rattle.text.specs.Lists.{all, some, here, has, count, span}
use Rattle.own.specs.Tree.{partner}
use Rattle.own.specs.Law.{Sort, word, child}
use Rattle.own.specs.Kinds as kind
use Rattle.own.specs.Arms as arm
use Rattle.kinds.specs.Shape.{of, arm, Shape, never, part, ◌▸◌, ◌¦◌, many, fits, Spells, one_mark, one_part, seq, left, right, stop, more}
use Rattle.kinds.specs.Fields.{counted, holds}
use Rattle.kinds.specs.Rules.{the, expression, enum_arm, arms, braces, forms}
use Rattle.kinds.specs.Rules as rules
use Rattle.kinds.specs.Spelled.{Spelled, forms_of}
use Rattle.kinds.specs.Families as family
use Rattle.lexer.specs.Classes as class
use Rattle.grammar.proofs.Spelled.Inclusion.{dealt, roled}
use Rattle.grammar.proofs.Spelled.Decisions.{counted-append}
use Rattle.grammar.proofs.Spelled.FormTests.{SpelledAs}
use Rattle.grammar.proofs.Spelled.Rules.{expression-in}
use Rattle.grammar.specs.Records.Records.{aMark, role_of}
use Rattle.grammar.specs.Records.Records as rec
use Rattle.grammar.specs.Records.Faults.{arm_lows, mates, arms_fault}

abbrev any_arm : Shape
any_arm = part (of family.arms)

-- a kind whose tokens are all its own
dealt-plain : (K n : ℕ) → ((c : ℕ) → role_of K c ≡ aMark) → (w : List Sort) → dealt K n w ≡ w
unfolding dealt roled
dealt-plain K n r [] = refl
dealt-plain K n r (word c ∷ w) = ap (λ o. roled o n c ∷ dealt K n w) (r c) ∙ ap (λ l. word c ∷ l) (dealt-plain K n r w)
dealt-plain K n r (child x l h d ∷ w) = ap (λ m. child x l h d ∷ m) (dealt-plain K n r w)

arm-cases : (x : ℕ) → T (has family.arms x) → (x ≡ kind.BuiltinArm) ⊎ (x ≡ kind.EnumArm)
unfolding has
arm-cases x t = go (or_cases (eqb kind.BuiltinArm x) (eqb kind.EnumArm x || false) t)
  where
    more_of : T (eqb kind.EnumArm x) ⊎ T false → (x ≡ kind.BuiltinArm) ⊎ (x ≡ kind.EnumArm)
    more_of (inl u) = inr (sym (eqb→eq kind.EnumArm x u))
    more_of (inr u) = absurd u

    go : T (eqb kind.BuiltinArm x) ⊎ T (eqb kind.EnumArm x || false) → (x ≡ kind.BuiltinArm) ⊎ (x ≡ kind.EnumArm)
    go (inl u) = inl (sym (eqb→eq kind.BuiltinArm x u))
    go (inr u) = more_of (or_cases (eqb kind.EnumArm x) false u)

-- arms of which none is built-in
enum_arms : {v : List Sort} → Spells (many any_arm) v → arm_lows v ≡ [] → Spells (many enum_arm) v
unfolding arm_lows fits has
enum_arms stop e = stop
enum_arms (more {w = w} (one_part x l h c i) q) e = go (arm-cases x i) (λ z. enum_arms q z)
  where
    go : (x ≡ kind.BuiltinArm) ⊎ (x ≡ kind.EnumArm) → (arm_lows w ≡ [] → Spells (many enum_arm) w) → Spells (many enum_arm) (child x l h c ∷ w)
    go (inl k) f =
        let z : l ∷ arm_lows w ≡ [] = subst (λ (y : ℕ). cond (eqb y kind.BuiltinArm) (l ∷ arm_lows w) (arm_lows w) ≡ []) k e in
        absurd (cons-ne-nil _ _ z)
    go (inr k) f =
        let z : arm_lows w ≡ [] = subst (λ (y : ℕ). cond (eqb y kind.BuiltinArm) (l ∷ arm_lows w) (arm_lows w) ≡ []) k e in
        subst (λ (y : ℕ). Spells (many enum_arm) (child y l h c ∷ w)) (sym k) (more (one_part kind.EnumArm l h c tt) (f z))

some-enum : {v : List Sort} → Spells (many enum_arm) v → 0 < counted (kind.EnumArm ∷ []) v → Spells (enum_arm ▸ many enum_arm) v
unfolding counted
some-enum stop h = absurd (omega arith)
some-enum (more p q) h = seq p q

-- built-in arms with their lows
data Built : List Sort → List ℕ → Type 0 where
  b_end : Built [] []
  b_more : {w : List Sort} {ls : List ℕ} (l h c : ℕ) → Built w ls → Built (child kind.BuiltinArm l h c ∷ w) (l ∷ ls)

built-arms : {v : List Sort} → Spells (many any_arm) v → counted (kind.EnumArm ∷ []) v ≡ 0 → Built v (arm_lows v)
unfolding arm_lows counted fits has
built-arms stop e = b_end
built-arms (more {w = w} (one_part x l h c i) q) e = go (arm-cases x i) (λ z. built-arms q z)
  where
    go : (x ≡ kind.BuiltinArm) ⊎ (x ≡ kind.EnumArm) → (counted (kind.EnumArm ∷ []) w ≡ 0 → Built w (arm_lows w)) → Built (child x l h c ∷ w) (arm_lows (child x l h c ∷ w))
    go (inl k) f =
        let z : 0 + counted (kind.EnumArm ∷ []) w ≡ 0 = subst (λ (y : ℕ). cond (has (kind.EnumArm ∷ []) y) 1 0 + counted (kind.EnumArm ∷ []) w ≡ 0) k e in
        subst (λ (y : ℕ). Built (child y l h c ∷ w) (cond (eqb y kind.BuiltinArm) (l ∷ arm_lows w) (arm_lows w))) (sym k) (b_more l h c (f (omega arith)))
    go (inr k) f =
        let z : 1 + counted (kind.EnumArm ∷ []) w ≡ 0 = subst (λ (y : ℕ). cond (has (kind.EnumArm ∷ []) y) 1 0 + counted (kind.EnumArm ∷ []) w ≡ 0) k e in
        absurd (omega arith)

module _ (a h c b h' c' : ℕ) where
  abbrev two : List Sort
  two = child kind.BuiltinArm a h c ∷ child kind.BuiltinArm b h' c' ∷ []

  in_order : (x y : ℕ) → T (eqb a x && eqb b y) → Spells (part (arm x) ▸ part (arm y)) two
  unfolding fits
  in_order x y t = seq (one_part kind.BuiltinArm a h c (first-of (eqb a x) (eqb b y) t)) (one_part kind.BuiltinArm b h' c' (second-of (eqb a x) (eqb b y) t))

  mated : (x y : ℕ) → T (eqb a x && eqb b y) ⊎ T (eqb b x && eqb a y) → Spells (arms x y) two
  mated x y (inl t) = left (in_order x y t)
  mated x y (inr t) = right (in_order y x (pair (eqb a y) (eqb b x) (second-of (eqb b x) (eqb a y) t) (first-of (eqb b x) (eqb a y) t)))

  abbrev Partners : Type 0
  Partners = Spells rules.partners two

  -- the shape of one of these pairs
  abbrev PairOf : List (ℕ × ℕ) → Type 0
  PairOf l = Spells (foldr (λ r s. arms r.0 r.1 ¦ s) never l) two

  abbrev among : ℕ → ℕ → List (ℕ × ℕ) → Bool
  among p q = some (λ r. eqb p r.0 && eqb q r.1)

  one_of : (p q : ℕ) → ((x y : ℕ) → T (eqb p x && eqb q y) → Spells (arms x y) two) → (l : List (ℕ × ℕ)) → T (among p q l) → PairOf l
  unfolding some
  one_of p q f [] t = absurd t
  one_of p q f (r ∷ l) t = go (or_cases (eqb p r.0 && eqb q r.1) (among p q l) t) (one_of p q f l)
    where
      go : T (eqb p r.0 && eqb q r.1) ⊎ T (among p q l) → (T (among p q l) → PairOf l) → PairOf (r ∷ l)
      go (inl u) g = left (f r.0 r.1 u)
      go (inr u) g = right (g u)

  partners : (p q : ℕ) → ((x y : ℕ) → T (eqb p x && eqb q y) → Spells (arms x y) two) → T (partner p q) → Partners
  unfolding partner
  partners p q f t = one_of p q f arm.partners t

  either_order : T (partner a b) ⊎ T (partner b a) → Partners
  either_order (inl t) = partners a b (λ x y u. mated x y (inl u)) t
  either_order (inr t) = partners b a (λ x y u. mated x y (inr u)) t

two_arms : {v : List Sort} {ls : List ℕ} → Built v ls → T (mates ls) → Spells rules.partners v
unfolding mates
two_arms b_end t = absurd t
two_arms (b_more a h c b_end) t = absurd t
two_arms (b_more a h c (b_more b h' c' b_end)) t = either_order a h c b h' c' (or_cases (partner a b) (partner b a) t)
two_arms (b_more a h c (b_more b h' c' (b_more d x y r))) t = absurd t

-- No refusal of 11 to 14.
faultless : (e : ℕ) (lows : List ℕ) → arms_fault e lows ≡ 0 → ((e ≡ 0) × T (mates lows)) ⊎ ((0 < e) × (lows ≡ []))
unfolding arms_fault
faultless e lows f = go (eqb e 0) refl (eqb (length lows) 0) refl (eqb (length lows) 2) (mates lows) refl f
  where
    go : (a : Bool) → eqb e 0 ≡ a → (b : Bool) → eqb (length lows) 0 ≡ b → (c d : Bool) → mates lows ≡ d
        → ◌≡◌ {A = ℕ} (cond a (cond b (refusal_number refusal.NoArms) (cond c (cond d 0 (refusal_number refusal.NoPartners)) (refusal_number refusal.ArmCount))) (cond b 0 (refusal_number refusal.MixedArms))) 0 → ((e ≡ 0) × T (mates lows)) ⊎ ((0 < e) × (lows ≡ []))
    go true p true q c d m z = absurd (omega arith)
    go true p false q true true m z = inl (eqb-true e 0 p, subst (λ b. T b) (sym m) tt)
    go true p false q true false m z = absurd (omega arith)
    go true p false q false d m z = absurd (omega arith)
    go false p true q c d m z = inr (pos_of_ne-zero (eqb-false e 0 p), nil_from_length lows (eqb-true (length lows) 0 q))
    go false p false q c d m z = absurd (omega arith)

lows-end : (v : List Sort) (d : ℕ) → arm_lows (v ++ (word d ∷ [])) ≡ arm_lows v
unfolding arm_lows
lows-end [] d = refl
lows-end (word c ∷ v) d = lows-end v d
lows-end (child x l h c ∷ v) d = ap (λ m. cond (eqb x kind.BuiltinArm) (l ∷ m) m) (lows-end v d)

count-end : (v : List Sort) (d : ℕ) → counted (kind.EnumArm ∷ []) (v ++ (word d ∷ [])) ≡ counted (kind.EnumArm ∷ []) v
unfolding counted
count-end v d = counted-append (kind.EnumArm ∷ []) v (word d ∷ []) ∙ omega arith

-- what is matched is no arm
matched-kinds : T (all (λ x. not (eqb x kind.BuiltinArm) && not (has (kind.EnumArm ∷ []) x)) family.expressions)
unfolding all has span count
matched-kinds = tt

-- the two rules
spelled-match : (w : List Sort) → Spells (the class.Match ▸ expression ▸ braces rules.partners) w → Spelled kind.Match 0 0 w
unfolding forms_of forms holds
spelled-match w p = here (record { fields = tt; shape = p })

spelled-enum : (w : List Sort) → Spells (the class.Match ▸ expression ▸ braces (enum_arm ▸ many enum_arm)) w → Spelled kind.EnumMatch 0 0 w
unfolding forms_of forms holds
spelled-enum w p = here (record { fields = tt; shape = p })

own-match : (c : ℕ) → role_of kind.Match c ≡ aMark
unfolding role_of has
own-match c = refl

own-enum : (c : ℕ) → role_of kind.EnumMatch c ≡ aMark
unfolding role_of has
own-enum c = refl

as-match : (n : ℕ) (w : List Sort) → Spelled kind.Match 0 0 w → SpelledAs (rec.plain kind.Match) n w
as-match n w p = subst (λ (u : List Sort). Spelled kind.Match 0 0 u) (sym (dealt-plain kind.Match n own-match w)) p

as_enum : (n : ℕ) (w : List Sort) → Spelled kind.EnumMatch 0 0 w → SpelledAs (rec.plain kind.EnumMatch) n w
as_enum n w p = subst (λ (u : List Sort). Spelled kind.EnumMatch 0 0 u) (sym (dealt-plain kind.EnumMatch n own-enum w)) p

module _ (n a x l h c b : ℕ) (v : List Sort) (d : ℕ) (i : T (has (class.Match ∷ []) a)) (y : Spells expression (child x l h c ∷ [])) (j : T (has (class.LBrace ∷ []) b)) (m : Spells (many any_arm) v) (o : T (has (class.RBrace ∷ []) d)) where
  abbrev whole : List Sort
  whole = word a ∷ child x l h c ∷ word b ∷ (v ++ (word d ∷ []))

  built-match : counted (kind.EnumArm ∷ []) v ≡ 0 → T (mates (arm_lows v)) → SpelledAs (rec.plain kind.Match) n whole
  built-match e t = as-match n whole (spelled-match whole (seq (one_mark a i) (seq y (seq (one_mark b j) (seq (two_arms (built-arms m e) t) (one_mark d o))))))

  enum-match : 0 < counted (kind.EnumArm ∷ []) v → arm_lows v ≡ [] → SpelledAs (rec.plain kind.EnumMatch) n whole
  enum-match e t = as_enum n whole (spelled-enum whole (seq (one_mark a i) (seq y (seq (one_mark b j) (seq (some-enum (enum_arms m t) e) (one_mark d o))))))

  match_of : ((counted (kind.EnumArm ∷ []) v ≡ 0) × T (mates (arm_lows v))) ⊎ ((0 < counted (kind.EnumArm ∷ []) v) × (arm_lows v ≡ []))
      → SpelledAs (cond (ltb 0 (counted (kind.EnumArm ∷ []) v)) (rec.plain kind.EnumMatch) (rec.plain kind.Match)) n whole
  match_of (inl z) = subst (λ (q : ℕ). SpelledAs (cond (ltb 0 q) (rec.plain kind.EnumMatch) (rec.plain kind.Match)) n whole) (sym z.0) (built-match z.0 z.1)
  match_of (inr z) = subst (λ (q : Bool). SpelledAs (cond q (rec.plain kind.EnumMatch) (rec.plain kind.Match)) n whole) (sym (lt-ltb 0 (counted (kind.EnumArm ∷ []) v) z.0)) (enum-match z.0 z.1)

-- The law of a match.
pub match-law : (n : ℕ) {w : List Sort} → arms_fault (counted (kind.EnumArm ∷ []) w) (arm_lows w) ≡ 0
    → Spells (the class.Match ▸ (part (of family.blocks) ¦ part (of family.singles)) ▸ the class.LBrace ▸ many any_arm ▸ the class.RBrace) w
    → SpelledAs (cond (ltb 0 (counted (kind.EnumArm ∷ []) w)) (rec.plain kind.EnumMatch) (rec.plain kind.Match)) n w
unfolding counted arm_lows all has span count fits
match-law n f (seq (one_mark a i) (seq e (seq (one_mark b j) (seq {v = v} m (one_mark d o))))) = go e f (expression-in family.expressions tt tt e)
  where
    clear : (x l : ℕ) → eqb x kind.BuiltinArm ≡ false → has (kind.EnumArm ∷ []) x ≡ false
        → arms_fault (cond (has (kind.EnumArm ∷ []) x) 1 0 + counted (kind.EnumArm ∷ []) (v ++ (word d ∷ []))) (cond (eqb x kind.BuiltinArm) (l ∷ arm_lows (v ++ (word d ∷ []))) (arm_lows (v ++ (word d ∷ [])))) ≡ 0
        → arms_fault (counted (kind.EnumArm ∷ []) v) (arm_lows v) ≡ 0
    clear x l p q g =
        let s : 0 + counted (kind.EnumArm ∷ []) (v ++ (word d ∷ [])) ≡ counted (kind.EnumArm ∷ []) v = omega (arith, count-end v d) in
        subst (λ (y : ℕ). arms_fault y (arm_lows v) ≡ 0) s (subst (λ (y : List ℕ). arms_fault (0 + counted (kind.EnumArm ∷ []) (v ++ (word d ∷ []))) y ≡ 0) (lows-end v d) (rw (p, q) at g))

    go : {u : List Sort} → Spells (part (of family.blocks) ¦ part (of family.singles)) u → arms_fault (counted (kind.EnumArm ∷ []) (word a ∷ (u ++ (word b ∷ (v ++ (word d ∷ [])))))) (arm_lows (word a ∷ (u ++ (word b ∷ (v ++ (word d ∷ [])))))) ≡ 0
        → Spells (part (of family.expressions)) u → SpelledAs (cond (ltb 0 (counted (kind.EnumArm ∷ []) (word a ∷ (u ++ (word b ∷ (v ++ (word d ∷ []))))))) (rec.plain kind.EnumMatch) (rec.plain kind.Match)) n (word a ∷ (u ++ (word b ∷ (v ++ (word d ∷ [])))))
    go e g (one_part x l h c y) =
        let k = all-has (λ z. not (eqb z kind.BuiltinArm) && not (has (kind.EnumArm ∷ []) z)) family.expressions x matched-kinds y in
        let p = not-true (eqb x kind.BuiltinArm) (first-of (not (eqb x kind.BuiltinArm)) (not (has (kind.EnumArm ∷ []) x)) k) in
        let q = not-true (has (kind.EnumArm ∷ []) x) (second-of (not (eqb x kind.BuiltinArm)) (not (has (kind.EnumArm ∷ []) x)) k) in
        let s : cond (has (kind.EnumArm ∷ []) x) 1 0 + counted (kind.EnumArm ∷ []) (v ++ (word d ∷ [])) ≡ counted (kind.EnumArm ∷ []) v = rw q (omega (arith, count-end v d)) in
        subst (λ (z : ℕ). SpelledAs (cond (ltb 0 z) (rec.plain kind.EnumMatch) (rec.plain kind.Match)) n (word a ∷ child x l h c ∷ word b ∷ (v ++ (word d ∷ [])))) (sym s)
        (match_of n a x l h c b v d i (one_part x l h c y) j m o (faultless (counted (kind.EnumArm ∷ []) v) (arm_lows v) (clear x l p q g)))
