-- The numbers of the refusals of a shape tree are of the family of the shapes (document 01, "What the reader hands over"; 19: document 02, order 2).
-- Assumes nothing.
use Rattle.std.specs.Prelude.{Bool, true, false, cond, List, [], ◌∷◌, ◌≡◌, refl, ℕ, T, eqb, length, drop}
use Rattle.std.proofs.Math.Option.{some}
use Rattle.std.proofs.Common.{sym, subst}
use Rattle.std.proofs.lemmas.Bool.{eqb-false}
use Rattle.text.specs.Refusals as refusals
use Rattle.text.specs.Refusals.{refusal_number}
use Rattle.text.specs.declared.refusal.Refusal.TheVariants as refusal
use Rattle.text.specs.Lists.{has, Some, here, there}
use Rattle.theory.specs.Ebnf as shape
use Rattle.own.specs.Tree.{Tok, Items, marks}
use Rattle.own.specs.Lists.{All, nil, ◌&◌}
use Rattle.own.proofs.Lists.{all_append}
use Rattle.own.specs.Kinds as kind
use Rattle.own.specs.Law.{sorts}
use Rattle.lexer.specs.Classes as t
use Rattle.kinds.specs.Fields.{counted}
use Rattle.grammar.specs.Shapes.Row.{Refused, never, byBound, byLength, byFold, byArms}
use Rattle.grammar.specs.Records.Records.{opening, first_tok, record_items}
use Rattle.grammar.specs.Records.Faults.{Fault, unless, arm_lows, mates, arms_fault, faults_by, refused_of, faults_at, faults, fault_of}
use Rattle.grammar.proofs.Records.FaultLaws.{earliest-first}

module _ (P : Fault → Type 0) where
  pub chosen : (b : Bool) {k l : List Fault} → All P k → All P l → All P (cond b k l)
  chosen true a c = a
  chosen false a c = c

  among : {f : Fault} {l : List Fault} → Some (λ g. f ≡ g) l → All P l → P f
  among (here e) (p & a) = subst P (sym e) p
  among (there s) (p & a) = among s a

  -- What holds of every refusal of a shape tree holds of the one that is answered.
  pub of-answered : (draft : List ℕ) (ts : List Tok) (r : shape.Items) (f : Fault) → All P (faults draft r ts) → fault_of draft ts r ≡ some f → P f
  unfolding fault_of
  of-answered draft ts r f a e = among (earliest-first (faults draft r ts) f e).one_of a

-- The number is one of the family.
abbrev Numbered : Fault → Type 0
Numbered f = T (has refusals.of_shapes f.number)

-- The number of a match's refusal, if it has one.
abbrev ArmsNumber : ℕ → Type 0
ArmsNumber n = (n ≡ 0 → ⊥) → T (has refusals.of_shapes n)

if-either : (b : Bool) (x y : ℕ) → ArmsNumber x → ArmsNumber y → ArmsNumber (cond b x y)
if-either true x y p q = p
if-either false x y p q = q

is-nothing : ArmsNumber 0
is-nothing h = absurd (h refl)

is_number : (n : ℕ) → T (has refusals.of_shapes n) → ArmsNumber n
is_number n t h = t

arms-number : (e : ℕ) (lows : List ℕ) → ArmsNumber (arms_fault e lows)
unfolding arms_fault has
arms-number e lows =
    if-either (eqb e 0) _ _
    (if-either (eqb (length lows) 0) _ _ (is_number (refusal_number refusal.NoArms) tt)
    (if-either (eqb (length lows) 2) _ _ (if-either (mates lows) _ _ is-nothing (is_number (refusal_number refusal.NoPartners) tt)) (is_number (refusal_number refusal.ArmCount) tt)))
    (if-either (eqb (length lows) 0) _ _ is-nothing (is_number (refusal_number refusal.MixedArms) tt))

unless-numbered : (ok : Bool) (n : ℕ) (u : Tok) → (ok ≡ false → T (has refusals.of_shapes n)) → All Numbered (unless ok n u)
unfolding unless
unless-numbered true n u h = nil
unless-numbered false n u h = h refl & nil

by-numbered : (r : Refused) (draft : List ℕ) (is : Items) → All Numbered (faults_by r draft is)
unfolding has
by-numbered never draft is = nil
by-numbered byBound draft is = unless-numbered _ (refusal_number refusal.Bound) _ (λ e. tt)
by-numbered byLength draft is = unless-numbered _ (refusal_number refusal.Length) _ (λ e. tt)
by-numbered byFold draft is = chosen Numbered (eqb (opening (sorts is)) t.array_fold) (unless-numbered _ (refusal_number refusal.Size) _ (λ e. tt)) (unless-numbered _ (refusal_number refusal.Bound) _ (λ e. tt))
by-numbered byArms draft is =
    let f = arms_fault (counted (kind.EnumArm ∷ []) (sorts is)) (arm_lows (sorts is)) in
    unless-numbered (eqb f 0) f (first_tok (marks is)) (λ e. arms-number (counted (kind.EnumArm ∷ []) (sorts is)) (arm_lows (sorts is)) (eqb-false f 0 e))

at-numbered : (draft : List ℕ) (k : ℕ) (is : Items) → All Numbered (faults_at draft k is)
unfolding faults_at
at-numbered draft k is = by-numbered (refused_of k) draft is

all-numbered : (draft : List ℕ) (r : shape.Items) (ts : List Tok) → All Numbered (faults draft r ts)
unfolding faults
all-numbered draft shape.nil ts = nil
all-numbered draft (shape.word c r) ts = all-numbered draft r (drop 1 ts)
all-numbered draft (shape.sub k js r) ts =
    all_append (at-numbered draft k (record_items draft js ts))
    (all_append (all-numbered draft js ts) (all-numbered draft r (drop (length (shape.yield js)) ts)))

-- The number of a refusal of a shape tree is one of the family.
pub fault-numbers : (draft : List ℕ) (ts : List Tok) (r : shape.Items) (f : Fault) → fault_of draft ts r ≡ some f → T (has refusals.of_shapes f.number)
fault-numbers draft ts r f e = of-answered Numbered draft ts r f (all-numbered draft r ts) e
