-- The order of arms says what they are, and with it the kind and the refusal of their match.
-- Assumes nothing.
use Rattle.std.proofs.Common.{◌≡◌, ℕ, ◌+◌, ◌<◌, ◌≤◌, Bool, true, false, cond, ◌||◌, eqb, ltb, ◌⊎◌, List, [], ◌∷◌, ◌++◌, length, sym, refl, ap, ◌∙◌, subst, ap₂, inl, inr, append_assoc, append-nil, arith, length-append, le-ltb, lt-ltb, ne_eqb}
use Rattle.std.specs.Prelude.{Option, Some, None}
use Rattle.own.specs.Tree.{Tok, Items, marks, partner}
use Rattle.own.specs.Law.{Sort, word, child, sorts}
use Rattle.own.specs.Arms as arm
use Rattle.own.specs.Kinds as kind
use Rattle.kinds.specs.Fields.{counted}
use Rattle.lexer.specs.Classes as t
use Rattle.grammar.proofs.Spelled.Decisions.{counted-append}
use Rattle.grammar.specs.Shapes.Row.{aMatch}
use Rattle.grammar.specs.Records.Records.{plain, head_of, first_tok}
use Rattle.grammar.specs.Records.Faults.{unless, arm_lows, mates, arms_fault, faults_at, earlier, earliest}
use Rattle.grammar.specs.Shapes.ShapeKind.{MatchShape}
use Rattle.text.specs.declared.refusal.Refusal.TheVariants as refusal
use Rattle.text.specs.Refusals.{refusal_number}
use Rattle.text.specs.declared.refusal.Refusal.{Refusal}
use Rattle.text.specs.Lists.{has}
use Rattle.parse.specs.Contract.{fault_at}
use Rattle.parse.specs.Infos.{ArmKind, Armed, pair_arm, after_arm, order_from, order_kind, order_fault}
use Rattle.parse.specs.Orders as order

-- How many enum arms there are.
abbrev pub enum_arm_count : List Sort → ℕ
enum_arm_count w = counted (kind.EnumArm ∷ []) w

pub lows-append : (v w : List Sort) → arm_lows (v ++ w) ≡ arm_lows v ++ arm_lows w
unfolding arm_lows
lows-append [] w = refl
lows-append (word c ∷ v) w = lows-append v w
lows-append (child k l h c ∷ v) w = go (eqb k kind.BuiltinArm) (lows-append v w)
  where
    go : (b : Bool) → arm_lows (v ++ w) ≡ arm_lows v ++ arm_lows w → cond b (l ∷ arm_lows (v ++ w)) (arm_lows (v ++ w)) ≡ cond b (l ∷ arm_lows v) (arm_lows v) ++ arm_lows w
    go true e = ap (λ u. l ∷ u) e
    go false e = e

-- What the order o says of the arms w.
pub data Means (o : ℕ) (w : List Sort) : Type 0 where
  no_arm : o ≡ 0 → w ≡ [] → Means o w
  one_arm : (h c : ℕ) → arm.Left ≤ o → o ≤ arm.True → w ≡ child kind.BuiltinArm o h c ∷ [] → Means o w
  enum_arms : o ≡ order.Enums → 0 < enum_arm_count w → arm_lows w ≡ [] → Means o w
  two_arms : (a h c b h' c' : ℕ) → a ≤ arm.True → b ≤ arm.True → o ≡ pair_arm a b → w ≡ child kind.BuiltinArm a h c ∷ child kind.BuiltinArm b h' c' ∷ [] → Means o w
  more_arms : o ≡ order.More → enum_arm_count w ≡ 0 → 3 ≤ length (arm_lows w) → Means o w
  both_sorts : o ≡ order.Mixed → 0 < enum_arm_count w → 0 < length (arm_lows w) → Means o w

pub pair-range : (a b : ℕ) → (order.Paired ≤ pair_arm a b) × (pair_arm a b ≤ order.Unpaired)
unfolding pair_arm
pair-range a b = go (partner a b) (partner b a)
  where
    go : (p q : Bool) → (order.Paired ≤ cond p order.Paired (cond q order.Turned order.Unpaired)) × (cond p order.Paired (cond q order.Turned order.Unpaired) ≤ order.Unpaired)
    go true q = (omega arith, omega arith)
    go false true = (omega arith, omega arith)
    go false false = (omega arith, omega arith)

-- One enum arm more,
after-enum : (o l : ℕ) → (o ≡ 0) ⊎ (o ≡ order.Enums) → after_arm o kind.EnumArm l ≡ order.Enums
unfolding after_arm
after-enum o l (inl e) = rw e refl
after-enum o l (inr e) = rw e refl

after-mixed : (o l : ℕ) → (o ≡ 0 → ⊥) → (o ≡ order.Enums → ⊥) → after_arm o kind.EnumArm l ≡ order.Mixed
unfolding after_arm
after-mixed o l m n = rw (ne_eqb o 0 m, ne_eqb o order.Enums n) refl

-- and one built-in arm more.
after_none : (l : ℕ) → after_arm 0 kind.BuiltinArm l ≡ l
unfolding after_arm
after_none l = refl

after_one : (o l : ℕ) → arm.Left ≤ o → o ≤ arm.True → after_arm o kind.BuiltinArm l ≡ pair_arm o l
unfolding after_arm
after_one o l p q = rw (ne_eqb o 0 (λ e. omega arith), ne_eqb o order.Enums (λ e. omega arith), ne_eqb o order.Mixed (λ e. omega arith), le-ltb order.Enums o (omega arith)) refl

after_two : (o l : ℕ) → order.Paired ≤ o → o ≤ order.More → after_arm o kind.BuiltinArm l ≡ order.More
unfolding after_arm
after_two o l p q = rw (ne_eqb o 0 (λ e. omega arith), ne_eqb o order.Enums (λ e. omega arith), ne_eqb o order.Mixed (λ e. omega arith), lt-ltb order.Enums o (omega arith)) refl

after_both : (o l : ℕ) → (o ≡ order.Enums) ⊎ (o ≡ order.Mixed) → after_arm o kind.BuiltinArm l ≡ order.Mixed
unfolding after_arm
after_both o l (inl e) = rw e refl
after_both o l (inr e) = rw e refl

module _ (l h c : ℕ) (w : List Sort) where
  enum-count : enum_arm_count (w ++ (child kind.EnumArm l h c ∷ [])) ≡ enum_arm_count w + 1
  unfolding counted has
  enum-count = counted-append (kind.EnumArm ∷ []) w (child kind.EnumArm l h c ∷ [])

  enum-lows : arm_lows (w ++ (child kind.EnumArm l h c ∷ [])) ≡ arm_lows w
  unfolding arm_lows
  enum-lows = lows-append w (child kind.EnumArm l h c ∷ []) ∙ append-nil (arm_lows w)

  built-count : enum_arm_count (w ++ (child kind.BuiltinArm l h c ∷ [])) ≡ enum_arm_count w
  unfolding counted has
  built-count = counted-append (kind.EnumArm ∷ []) w (child kind.BuiltinArm l h c ∷ []) ∙ omega arith

  built-lows : arm_lows (w ++ (child kind.BuiltinArm l h c ∷ [])) ≡ arm_lows w ++ (l ∷ [])
  unfolding arm_lows
  built-lows = lows-append w (child kind.BuiltinArm l h c ∷ [])

  built-many : length (arm_lows (w ++ (child kind.BuiltinArm l h c ∷ []))) ≡ length (arm_lows w) + 1
  built-many = ap length built-lows ∙ length-append (arm_lows w) (l ∷ [])

lows-nil : arm_lows [] ≡ []
unfolding arm_lows
lows-nil = refl

lows-one : (a h c : ℕ) → arm_lows (child kind.BuiltinArm a h c ∷ []) ≡ a ∷ []
unfolding arm_lows
lows-one a h c = refl

lows-two : (a h c b h' c' : ℕ) → arm_lows (child kind.BuiltinArm a h c ∷ child kind.BuiltinArm b h' c' ∷ []) ≡ a ∷ b ∷ []
unfolding arm_lows
lows-two a h c b h' c' = refl

none-nil : enum_arm_count [] ≡ 0
unfolding counted
none-nil = refl

none-one : (a h c : ℕ) → enum_arm_count (child kind.BuiltinArm a h c ∷ []) ≡ 0
unfolding counted has
none-one a h c = refl

none-two : (a h c b h' c' : ℕ) → enum_arm_count (child kind.BuiltinArm a h c ∷ child kind.BuiltinArm b h' c' ∷ []) ≡ 0
unfolding counted has
none-two a h c b h' c' = refl

-- An enum arm more.
enum-more : (o : ℕ) (w : List Sort) (l h c : ℕ) → Means o w → Means (after_arm o kind.EnumArm l) (w ++ (child kind.EnumArm l h c ∷ []))
enum-more o w l h c (no_arm e f) =
    let n = enum-count l h c w in
    enum_arms (after-enum o l (inl e)) (omega arith) (enum-lows l h c w ∙ ap arm_lows f ∙ lows-nil)
enum-more o w l h c (one_arm h' c' p q f) =
    let n = enum-count l h c w in
    let z : length (arm_lows (w ++ (child kind.EnumArm l h c ∷ []))) ≡ 1 = ap length (enum-lows l h c w ∙ ap arm_lows f ∙ lows-one o h' c') in
    both_sorts (after-mixed o l (λ e. omega arith) (λ e. omega arith)) (omega arith) (omega arith)
enum-more o w l h c (enum_arms e f g) =
    let n = enum-count l h c w in
    enum_arms (after-enum o l (inr e)) (omega arith) (enum-lows l h c w ∙ g)
enum-more o w l h c (two_arms a i d b i' d' p q e f) =
    let n = enum-count l h c w in
    let r = pair-range a b in
    let z : length (arm_lows (w ++ (child kind.EnumArm l h c ∷ []))) ≡ 2 = ap length (enum-lows l h c w ∙ ap arm_lows f ∙ lows-two a i d b i' d') in
    both_sorts (after-mixed o l (λ u. omega (arith, r.0)) (λ u. omega (arith, r.0))) (omega arith) (omega arith)
enum-more o w l h c (more_arms e f g) =
    let n = enum-count l h c w in
    let z : length (arm_lows (w ++ (child kind.EnumArm l h c ∷ []))) ≡ length (arm_lows w) = ap length (enum-lows l h c w) in
    both_sorts (after-mixed o l (λ u. omega arith) (λ u. omega arith)) (omega arith) (omega arith)
enum-more o w l h c (both_sorts e f g) =
    let n = enum-count l h c w in
    let z : length (arm_lows (w ++ (child kind.EnumArm l h c ∷ []))) ≡ length (arm_lows w) = ap length (enum-lows l h c w) in
    both_sorts (after-mixed o l (λ u. omega arith) (λ u. omega arith)) (omega arith) (omega arith)

-- A built-in arm more.
built-more : (o : ℕ) (w : List Sort) (l h c : ℕ) → arm.Left ≤ l → l ≤ arm.True → Means o w → Means (after_arm o kind.BuiltinArm l) (w ++ (child kind.BuiltinArm l h c ∷ []))
built-more o w l h c i j (no_arm e f) =
    let z : after_arm o kind.BuiltinArm l ≡ l = ap (λ (u : ℕ). after_arm u kind.BuiltinArm l) e ∙ after_none l in
    one_arm h c (omega arith) (omega arith) (ap (λ u. u ++ (child kind.BuiltinArm l h c ∷ [])) f ∙ ap (λ (u : ℕ). child kind.BuiltinArm u h c ∷ []) (sym z))
built-more o w l h c i j (one_arm h' c' p q f) =
    two_arms o h' c' l h c q j (after_one o l p q) (ap (λ u. u ++ (child kind.BuiltinArm l h c ∷ [])) f)
built-more o w l h c i j (enum_arms e f g) =
    both_sorts (after_both o l (inl e)) (omega (arith, built-count l h c w)) (omega (arith, built-many l h c w))
built-more o w l h c i j (two_arms a x y b x' y' p q e f) =
    let r = pair-range a b in
    let z : length (arm_lows w) ≡ 2 = ap length (ap arm_lows f ∙ lows-two a x y b x' y') in
    more_arms (after_two o l (omega (arith, r.0)) (omega (arith, r.1))) (built-count l h c w ∙ ap enum_arm_count f ∙ none-two a x y b x' y') (omega (arith, built-many l h c w))
built-more o w l h c i j (more_arms e f g) =
    more_arms (after_two o l (omega arith) (omega arith)) (built-count l h c w ∙ f) (omega (arith, built-many l h c w))
built-more o w l h c i j (both_sorts e f g) =
    both_sorts (after_both o l (inr e)) (omega (arith, built-count l h c w)) (omega (arith, built-many l h c w))

one_more : (o : ℕ) (w : List Sort) (k l h c : ℕ) → ArmKind k l → Means o w → Means (after_arm o k l) (w ++ (child k l h c ∷ []))
one_more o w k l h c (inl a) m =
    subst (λ (u : ℕ). Means (after_arm o u l) (w ++ (child u l h c ∷ []))) (sym a.0) (built-more o w l h c a.1 a.2 m)
one_more o w k l h c (inr e) m = subst (λ (u : ℕ). Means (after_arm o u l) (w ++ (child u l h c ∷ []))) (sym e) (enum-more o w l h c m)

from : (o : ℕ) (v w : List Sort) → Means o v → Armed w → Means (order_from o w) (v ++ w)
unfolding order_from
from o v [] m a = subst (Means o) (sym (append-nil v)) m
from o v (word c ∷ w) m a = absurd a
from o v (child k l h c ∷ w) m a =
    subst (Means (order_from (after_arm o k l) w)) (append_assoc v (child k l h c ∷ []) w)
    (from (after_arm o k l) (v ++ (child k l h c ∷ [])) w (one_more o v k l h c a.0 m) a.1)

-- The order of arms, and what they are.
pub order-means : (w : List Sort) → Armed w → Means (order_from 0 w) w
order-means w a = from 0 [] w (no_arm refl refl) a

-- One arm more.
pub order-snoc : (o : ℕ) (w : List Sort) (k l h c : ℕ) → order_from o (w ++ (child k l h c ∷ [])) ≡ after_arm (order_from o w) k l
unfolding order_from
order-snoc o [] k l h c = refl
order-snoc o (word d ∷ w) k l h c = order-snoc o w k l h c
order-snoc o (child k' l' h' d ∷ w) k l h c = order-snoc (after_arm o k' l') w k l h c

pub armed-snoc : (w : List Sort) (k l h c : ℕ) → Armed w → ArmKind k l → Armed (w ++ (child k l h c ∷ []))
armed-snoc [] k l h c a b = (b, tt)
armed-snoc (word d ∷ w) k l h c a b = absurd a
armed-snoc (child k' l' h' d ∷ w) k l h c a b = (a.0, armed-snoc w k l h c a.1 b)

-- The order 0 is that of no arm.
pub order-none : (w : List Sort) → Armed w → order_from 0 w ≡ 0 → w ≡ []
order-none w a e = go (order-means w a)
  where
    go : Means (order_from 0 w) w → w ≡ []
    go (no_arm p q) = q
    go (one_arm h c p q f) = absurd (omega arith)
    go (enum_arms p q f) = absurd (omega arith)
    go (two_arms x h c y h' c' p q f g) = let r = pair-range x y in absurd (omega (arith, r.0))
    go (more_arms p q f) = absurd (omega arith)
    go (both_sorts p q f) = absurd (omega arith)

-- The pieces of a whole match.
module _ (k l h c : ℕ) (w : List Sort) where
  abbrev pub whole_match : List Sort
  whole_match = word t.Match ∷ child k l h c ∷ word t.LBrace ∷ (w ++ (word t.RBrace ∷ []))

  pub whole-count : (k ≡ kind.EnumArm → ⊥) → enum_arm_count whole_match ≡ enum_arm_count w
  unfolding counted has
  whole-count n = rw (ne_eqb kind.EnumArm k (λ e. n (sym e))) (omega (arith, counted-append (kind.EnumArm ∷ []) w (word t.RBrace ∷ [])))

  pub whole-lows : (k ≡ kind.BuiltinArm → ⊥) → arm_lows whole_match ≡ arm_lows w
  unfolding arm_lows
  whole-lows n = rw (ne_eqb k kind.BuiltinArm n) (lows-append w (word t.RBrace ∷ []) ∙ append-nil (arm_lows w))

kind-by : (o : ℕ) (w : List Sort) → Means o w → cond (ltb 0 (enum_arm_count w)) (plain kind.EnumMatch) (plain kind.Match) ≡ plain (order_kind o)
unfolding order_kind
kind-by o w (no_arm e f) = rw (e, f, none-nil) refl
kind-by o w (one_arm h c p q f) = rw (f, none-one o h c, ne_eqb o order.Enums (λ e. omega arith), ne_eqb o order.Mixed (λ e. omega arith)) refl
kind-by o w (enum_arms e f g) = rw (e, lt-ltb 0 (enum_arm_count w) f) refl
kind-by o w (two_arms a i d b i' d' p q e f) =
    let r = pair-range a b in
    rw (f, none-two a i d b i' d', ne_eqb o order.Enums (λ u. omega (arith, r.0)), ne_eqb o order.Mixed (λ u. omega (arith, r.1))) refl
kind-by o w (more_arms e f g) = rw (e, f) refl
kind-by o w (both_sorts e f g) = rw (e, lt-ltb 0 (enum_arm_count w) f) refl

-- The kind of a match.
pub match-kind : (text : List ℕ) (n k l h c : ℕ) (w : List Sort) → (k ≡ kind.EnumArm → ⊥) → Armed w → head_of aMatch text n (whole_match k l h c w) ≡ plain (order_kind (order_from 0 w))
unfolding head_of
match-kind text n k l h c w q a = ap (λ (u : ℕ). cond (ltb 0 u) (plain kind.EnumMatch) (plain kind.Match)) (whole-count k l h c w q) ∙ kind-by (order_from 0 w) w (order-means w a)

-- The number of a refusal, 0 for none.
abbrev number_if : Option Refusal → ℕ
number_if None = 0
number_if (Some r) = refusal_number r

mates-are : (a b : ℕ) → cond (mates (a ∷ b ∷ [])) 0 (refusal_number refusal.NoPartners) ≡ number_if (order_fault (pair_arm a b))
unfolding mates order_fault pair_arm
mates-are a b = go (partner a b) (partner b a)
  where
    go : (p q : Bool) → cond (p || q) 0 (refusal_number refusal.NoPartners) ≡ number_if (order_fault (cond p order.Paired (cond q order.Turned order.Unpaired)))
    go true q = refl
    go false true = refl
    go false false = refl

fault-by : (o : ℕ) (w : List Sort) → Means o w → arms_fault (enum_arm_count w) (arm_lows w) ≡ number_if (order_fault o)
unfolding arms_fault order_fault
fault-by o w (no_arm e f) = rw (e, f, none-nil, lows-nil) refl
fault-by o w (one_arm h c p q f) =
    rw (f, none-one o h c, lows-one o h c, ne_eqb o 0 (λ e. omega arith), ne_eqb o order.Enums (λ e. omega arith), ne_eqb o order.Paired (λ e. omega arith), ne_eqb o order.Turned (λ e. omega arith), ne_eqb o order.Unpaired (λ e. omega arith), ne_eqb o order.Mixed (λ e. omega arith)) refl
fault-by o w (enum_arms e f g) = rw (e, g, ne_eqb (enum_arm_count w) 0 (λ u. omega arith)) refl
fault-by o w (two_arms a i d b i' d' p q e f) = rw (e, f, none-two a i d b i' d', lows-two a i d b i' d') (mates-are a b)
fault-by o w (more_arms e f g) = rw (e, f, ne_eqb (length (arm_lows w)) 0 (λ u. omega arith), ne_eqb (length (arm_lows w)) 2 (λ u. omega arith)) refl
fault-by o w (both_sorts e f g) = rw (e, ne_eqb (enum_arm_count w) 0 (λ u. omega arith), ne_eqb (length (arm_lows w)) 0 (λ u. omega arith)) refl

-- The refusal of a match, by its pieces,
pub arms-fault : (k l h c : ℕ) (w : List Sort) → (k ≡ kind.BuiltinArm → ⊥) → (k ≡ kind.EnumArm → ⊥) → Armed w → arms_fault (enum_arm_count (whole_match k l h c w)) (arm_lows (whole_match k l h c w)) ≡ number_if (order_fault (order_from 0 w))
arms-fault k l h c w m n a = ap₂ arms_fault (whole-count k l h c w n) (whole-lows k l h c w m) ∙ fault-by (order_from 0 w) w (order-means w a)

-- and as it is kept.
one-fault : (o : ℕ) (y : Tok) → earliest (unless (eqb (number_if (order_fault o)) 0) (number_if (order_fault o)) y) ≡ fault_at (order_fault o) y.start
unfolding unless fault_at earliest earlier order_fault
one-fault o y = go (eqb o 0) (eqb o order.Enums || (eqb o order.Paired || eqb o order.Turned)) (eqb o order.Unpaired) (eqb o order.Mixed)
  where
    its : Bool → Bool → Bool → Bool → Option Refusal
    its a b c d = cond a (Some refusal.NoArms) (cond b None (cond c (Some refusal.NoPartners) (cond d (Some refusal.MixedArms) (Some refusal.ArmCount))))

    go : (a b c d : Bool) → earliest (unless (eqb (number_if (its a b c d)) 0) (number_if (its a b c d)) y) ≡ fault_at (its a b c d) y.start
    go true b c d = refl
    go false true c d = refl
    go false false true d = refl
    go false false false true = refl
    go false false false false = refl

pub match-fault : (draft : List ℕ) (is : Items) (k l h c : ℕ) (w : List Sort) {y : Tok} {ms : List Tok} → (k ≡ kind.BuiltinArm → ⊥) → (k ≡ kind.EnumArm → ⊥) → Armed w → sorts is ≡ whole_match k l h c w → marks is ≡ y ∷ ms
    → earliest (faults_at draft MatchShape is) ≡ fault_at (order_fault (order_from 0 w)) y.start
unfolding faults_at first_tok
match-fault draft is k l h c w {y} {ms} m n a e f =
    ap₂ (λ (v : List Sort) (u : List Tok). earliest (unless (eqb (arms_fault (enum_arm_count v) (arm_lows v)) 0) (arms_fault (enum_arm_count v) (arm_lows v)) (first_tok u))) e f
    ∙ ap (λ (u : ℕ). earliest (unless (eqb u 0) u y)) (arms-fault k l h c w m n a)
    ∙ one-fault (order_from 0 w) y
