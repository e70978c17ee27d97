-- The refusals of the shapes, each with its place, and the earliest of a shape tree (document 01, "What the reader hands over"; 19: document 02, order 2).
-- Assumes nothing.
use Rattle.std.specs.Prelude.{Bool, false, ◌||◌, not, cond, List, [], ◌∷◌, ◌++◌, map, ◌≡◌, ℕ, ◌≤◌, eqb, ltb, length, drop, get_or}
use Rattle.std.proofs.Math.Option.{Option, none, some}
use Rattle.text.specs.Lists.{Some}
use Rattle.text.specs.Refusals.{refusal_number}
use Rattle.text.specs.declared.refusal.Refusal.TheVariants as refusal
use Rattle.num.specs.Value.{Value, fitted}
use Rattle.num.specs.Bound.{bound_ok, size_ok, length_ok}
use Rattle.theory.specs.Ebnf as shape
use Rattle.own.specs.Tree.{Tok, Items, marks, partner}
use Rattle.own.specs.Law.{Sort, word, child, sorts}
use Rattle.own.specs.Kinds as kind
use Rattle.own.specs.Lists.{All}
use Rattle.kinds.specs.Fields.{counted}
use Rattle.lexer.specs.Classes as t
use Rattle.grammar.specs.Shapes.Row.{Refused, never, byBound, byLength, byFold, byArms}
use Rattle.grammar.specs.Shapes.Shapes.{rows}
use Rattle.grammar.specs.Records.Records.{sees, opening, first_tok, first_of, decimal, record_items}

pub record Fault : Type 0 where
  pub number : ℕ
  pub place : ℕ

-- The refusal of this number at a token, where the test fails.
unfoldable pub unless : Bool → ℕ → Tok → List Fault
unless ok n t = cond ok [] (record { number = n; place = t.start } ∷ [])

unfoldable pub arm_lows : List Sort → List ℕ
arm_lows [] = []
arm_lows (word c ∷ w) = arm_lows w
arm_lows (child k l h c ∷ w) = cond (eqb k kind.BuiltinArm) (l ∷ arm_lows w) (arm_lows w)

-- "Left with Right, None with Some, False with True", in either order.
unfoldable pub mates : List ℕ → Bool
mates [] = false
mates (a ∷ []) = false
mates (a ∷ b ∷ []) = partner a b || partner b a
mates (a ∷ b ∷ c ∷ l) = false

-- The refusal of a match with e enum arms and these built-in arms, or 0: 11 "match without arms", 12 "enum and built-in arms in one
-- match", 13 "built-in arms only, 1 or over 2", 14 "two built-in arms, not Left with Right, None with Some, False with True".
unfoldable pub arms_fault : ℕ → List ℕ → ℕ
arms_fault e lows =
    cond (eqb e 0) (cond (eqb (length lows) 0) (refusal_number refusal.NoArms) (cond (eqb (length lows) 2) (cond (mates lows) 0 (refusal_number refusal.NoPartners)) (refusal_number refusal.ArmCount)))
    (cond (eqb (length lows) 0) 0 (refusal_number refusal.MixedArms))

-- 9 "`List` or `fold` bound not a power of two from 2 to 9,223,372,036,854,775,808" and 10 "`array_fold` size 0 or over
-- 18,446,744,073,709,551,615", at the number. Without `<` a List is an alias name, and `fold` a variable or a path.
abbrev pub number_fault : (Value → Bool) → ℕ → List ℕ → Items → List Fault
number_fault ok n draft is = unless (not (sees t.LAngle (sorts is)) || ok (fitted (decimal draft is))) n (first_of t.DecLiteral (marks is))

-- The refusals of a shape made of these items: those two; 19 "when an array type's length is over the largest 64-bit number, at the number"; 11 to 14
-- at `match`. Which of them a shape of kind k may have is in its row.
abbrev pub faults_by : Refused → List ℕ → Items → List Fault
faults_by never draft is = []
faults_by byBound draft is = number_fault bound_ok (refusal_number refusal.Bound) draft is
faults_by byLength draft is = unless (length_ok (fitted (decimal draft is))) (refusal_number refusal.Length) (first_of t.DecLiteral (marks is))
faults_by byFold draft is = cond (eqb (opening (sorts is)) t.array_fold) (number_fault size_ok (refusal_number refusal.Size) draft is) (number_fault bound_ok (refusal_number refusal.Bound) draft is)
faults_by byArms draft is = let f = arms_fault (counted (kind.EnumArm ∷ []) (sorts is)) (arm_lows (sorts is)) in unless (eqb f 0) f (first_tok (marks is))

abbrev pub refused_of : ℕ → Refused
refused_of k = get_or (map (λ r. r.refused) rows) k never

unfoldable pub faults_at : List ℕ → ℕ → Items → List Fault
faults_at draft k is = faults_by (refused_of k) draft is

-- The refusals of all shapes side by side, whose tokens are those that the list begins with.
unfoldable pub faults : List ℕ → shape.Items → List Tok → List Fault
faults draft shape.nil ts = []
faults draft (shape.word c r) ts = faults draft r (drop 1 ts)
faults draft (shape.sub k js r) ts = faults_at draft k (record_items draft js ts) ++ (faults draft js ts ++ faults draft r (drop (length (shape.yield js)) ts))

-- "of 9 to 14 the earliest place", 19 "among" them: the one of two, and of a list.
unfoldable pub earlier : Fault → Option Fault → Option Fault
earlier f none = some f
earlier f (some g) = cond (ltb g.place f.place) (some g) (some f)

unfoldable pub earliest : List Fault → Option Fault
earliest [] = none
earliest (f ∷ l) = earlier f (earliest l)

unfoldable pub fault_of : List ℕ → List Tok → shape.Items → Option Fault
fault_of draft ts r = earliest (faults draft r ts)

-- A refusal that a list has, none of which is earlier.
pub record EarliestFault (f : Fault) (l : List Fault) : Type 0 where
  pub one_of : Some (λ g. f ≡ g) l
  pub first : All (λ g. f.place ≤ g.place) l
