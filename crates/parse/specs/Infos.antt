-- What the functions of the cycle and of arms' heads say besides: of the records of what was read (J, before tokens became records; L, as
-- laid), of the m tokens that belong to no record yet, and of their two numbers a and b.
-- Assumes nothing: these are definitions.
use Rattle.std.specs.Prelude.{◌≡◌, ℕ, ◌+◌, ◌-◌, ◌≤◌, true, false, cond, ◌||◌, ◌⊎◌, List, [], ◌∷◌, ◌++◌, length, take, drop, ◌==◌, ◌≢◌, nat_lt, Option, Some, None}
use Rattle.theory.specs.Grammar.{nt}
use Rattle.theory.specs.Machine.{choose}
use Rattle.own.specs.Tree as own
use Rattle.own.specs.Tree.{Items, partner}
use Rattle.own.specs.Law.{Sort, word, child, sorts}
use Rattle.own.specs.Words.{sizes}
use Rattle.own.specs.Arms as arm
use Rattle.own.specs.Kinds as kind
use Rattle.kinds.specs.Fields.{counted}
use Rattle.kinds.specs.Families as family
use Rattle.lexer.specs.Classes as t
use Rattle.grammar.specs.Records.Records.{head, sees, name_count, lone, unended, arm_head, arranged, call_head}
use Rattle.grammar.specs.Shapes.Tables.{table}
use Rattle.grammar.specs.Shapes.TablesIndex.{n-single, n-arguments, n-function, n-type_item, n-file}
use Rattle.text.specs.declared.refusal.Refusal.{Refusal}
use Rattle.text.specs.declared.refusal.Refusal.TheVariants as refusal
use Rattle.text.specs.Widths.{rec_wide}
use Rattle.parse.specs.Contract.{Text, as_items, Parsed, Put, Moved, Eaten, Only, Turned, countable, reserved, head_sort}
use Rattle.parse.specs.Choice as choice
use Rattle.parse.specs.declared.State.{State}
use Rattle.parse.specs.declared.expr.c.GenericCall.{GenericCall}
use Rattle.parse.specs.declared.expr.c.GenericCall.TheVariants as call
use Rattle.parse.specs.declared.Step.{Step}
use Rattle.parse.specs.declared.Step.TheVariants.{Next, Refused}
use Rattle.parse.specs.Orders as order

abbrev pub LetKind : ℕ → Type 0
LetKind k = k ≡ kind.Let

-- Elements of a block: a is 1 if the last has no `;`.
pub record Elements (J L : Items) (m a b : ℕ) : Type 0 where
  pub same : L ≡ J
  pub semis : Only t.Semi (sorts J)
  pub last_is : a ≡ cond (unended false (sorts J)) 1 0

-- Expressions with commas between them: a is 1 if it is one without a comma.
pub record Lone (J L : Items) (m a b : ℕ) : Type 0 where
  pub same : L ≡ J
  pub commas : Only t.Comma (sorts J)
  pub lone_is : lone (sorts J) ≡ (a == 1)

-- An argument list, likewise.
pub record Args (J L : Items) (m a b : ℕ) : Type 0 where
  pub roles : (K n : ℕ) → arranged K n J ≡ L
  pub W : List Sort
  pub sorts_is : sorts J ≡ word t.LParen ∷ (W ++ (word t.RParen ∷ []))
  pub commas : Only t.Comma W
  pub lone_is : lone W ≡ (a == 1)
  pub own : 1 ≤ m

-- What is read of a call whose record begins at st, from its arguments on: those, and then that record; or the parser is stuck.
pub data CallEnds (x : Text) (st a : State) (l l' : List ℕ) : Step → Type 0 where
  call_ends : {z : State} {l₁ : List ℕ} {u v : ℕ} → Parsed x (nt n-arguments ∷ []) as_items Args a l l₁ (Next z u v)
      → Put l₁ st.out kind.Call st.start z.end (call_head st.class).low 0 (z.out - st.out) l' → CallEnds x st a l l' (Next z 0 0)
  call_stuck : {l₁ : List ℕ} {p : ℕ} → Parsed x (nt n-arguments ∷ []) as_items Args a l l₁ (Refused p) → CallEnds x st a l l' (Refused p)

-- The same with the `>` of `::<..>` before the arguments.
pub data AngleEnds (x : Text) (st a : State) (l l' : List ℕ) : Step → Type 0 where
  angle_ends : {b : State} {u v : ℕ} {s : Step} → Eaten x a t.RAngle (Next b u v) → CallEnds x st b l l' s → AngleEnds x st a l l' s
  angle_stuck : {p : ℕ} → Eaten x a t.RAngle (Refused p) → AngleEnds x st a l l' (Refused p)

-- What follows the first `::` of an enum construction: a names.
pub record Path (J L : Items) (m a b : ℕ) : Type 0 where
  pub roles : (n : ℕ) → arranged kind.EnumConstruction n J ≡ L
  pub count_is : name_count (sorts J) ≡ a
  pub bounded : a ≤ countable
  pub angles : sees t.LAngle (sorts J) ≡ false

-- The state behind a name and `::`.
pub record Begun (x : Text) (st b : State) : Type 0 where
  pub a : State
  pub first : Moved x st a
  pub colons : a.class ≡ t.DoubleColon
  pub second : Moved x a b

-- The same where `<` follows.
pub record Angled (x : Text) (st b : State) : Type 0 where
  pub begun : Begun x st b
  pub angle : b.class ≡ t.LAngle

-- The alternative of each call that `::<..>` may belong to,
abbrev pub alternative : GenericCall → ℕ
alternative call.Typed = choice.Typed
alternative call.Folding = choice.Folding
alternative call.ForWhile = choice.ForWhile

-- and a name of this class that begins such a call.
abbrev pub Generic : ℕ → GenericCall → Type 0
Generic c g = choose table n-single c ≡ alternative g

-- A name of this class that no argument list may follow right away: one that begins no call, or such a call.
abbrev pub Uncalled : ℕ → Option GenericCall → Type 0
Uncalled c None = choose table n-single c ≡ choice.Bare
Uncalled c (Some g) = Generic c g

-- A name of the class c and `::`, with a token of the class b behind them, begin an enum construction.
pub data Leads (c b : ℕ) : Type 0 where
  named_leads : choose table n-single c ≡ choice.Named → Leads c b
  bare_leads : choose table n-single c ≡ choice.Bare → Leads c b
  generic_leads : (g : GenericCall) → Generic c g → (b ≢ t.LAngle) → Leads c b

-- A name of the class c begins an enum path in an arm's head, with a token of the class b behind it.
pub data Leading (c b : ℕ) : Type 0 where
  none_begins : head_sort c ≡ choice.NoneHead → b ≡ t.DoubleColon → Leading c b
  word_begins : head_sort c ≡ choice.WrappedHead → (b ≢ t.LParen) → Leading c b
  name_begins : head_sort c ≡ choice.NamedHead → Leading c b

-- Pieces that say nothing of an arm's head: no `::`, no name, no pattern.
pub record Quiet (w : List Sort) : Type 0 where
  pub paths : sees t.DoubleColon w ≡ false
  pub names : name_count w ≡ 0
  pub patterns : counted family.patterns w ≡ 0

-- `p: T`, and pairs with commas between them: as many patterns as said.
pub record Pairs (n : ℕ) (J L : Items) (m a b : ℕ) : Type 0 where
  pub roles : (K i : ℕ) → arranged K i J ≡ L
  pub paths : sees t.DoubleColon (sorts J) ≡ false
  pub names : name_count (sorts J) ≡ 0
  pub patterns : counted family.patterns (sorts J) ≡ n

-- so many as the first number says, and one more than that before
abbrev pub ManyPairs : Items → Items → ℕ → ℕ → ℕ → Type 0
ManyPairs J L m a b = Pairs a J L m a b

pub record MorePairs (J L : Items) (m a b : ℕ) : Type 0 where
  pub k : ℕ
  pub one_more : a ≡ k + 1
  pub pairs : Pairs k J L m a b

-- An enum path in an arm's head, from its first `::` on: a names, b pairs.
pub record HeadPath (J L : Items) (m a b : ℕ) : Type 0 where
  pub roles : (n : ℕ) → arranged kind.EnumArm n J ≡ L
  pub count_is : name_count (sorts J) ≡ a
  pub bounded : a ≤ countable
  pub path : sees t.DoubleColon (sorts J) ≡ true
  pub patterns : counted family.patterns (sorts J) ≡ b

-- Kind, low and high of an arm: a built-in one where there are no names (low b), otherwise an enum arm with a names and b pairs.
unfoldable pub arm_kind : ℕ → ℕ
arm_kind a = cond (a == 0) kind.BuiltinArm kind.EnumArm

unfoldable pub arm_low : ℕ → ℕ → ℕ
arm_low a b = cond (a == 0) b a

unfoldable pub arm_high : ℕ → ℕ → ℕ
arm_high a b = cond (a == 0) 0 b

-- The head of an arm decides its record, whatever quiet pieces follow.
pub record ArmHead (J L : Items) (m a b : ℕ) : Type 0 where
  pub roles : (n : ℕ) → arranged (arm_kind a) n J ≡ L
  pub decides : (v : List Sort) → Quiet v → arm_head (sorts J ++ v) ≡ head (arm_kind a) (arm_low a b) (arm_high a b)
  pub low_is : a ≡ 0 → (arm.Left ≤ b) × (b ≤ arm.True)

-- What an arm has behind its fat arrow.
pub record Body (J L : Items) (m a b : ℕ) : Type 0 where
  pub roles : (K n : ℕ) → arranged K n J ≡ L
  pub quiet : Quiet (sorts J)

-- Kind and low of an arm.
abbrev pub ArmKind : ℕ → ℕ → Type 0
ArmKind k l = ((k ≡ kind.BuiltinArm) × (arm.Left ≤ l) × (l ≤ arm.True)) ⊎ (k ≡ kind.EnumArm)

-- An arm: a is its kind, b its low.
pub record Arm (J L : Items) (m a b : ℕ) : Type 0 where
  pub high : ℕ
  pub js : Items
  pub raw_is : J ≡ own.sub a b high js own.none
  pub laid_is : L ≡ own.sub a b high js own.none
  pub none_left : m ≡ 0
  pub its_kind : ArmKind a b

-- The order of arms with one arm more, as a number (Orders.antt): 0 is none, a built-in arm alone has its low.
unfoldable pub pair_arm : ℕ → ℕ → ℕ
pair_arm a b = cond (partner a b) order.Paired (cond (partner b a) order.Turned order.Unpaired)

unfoldable pub after_arm : ℕ → ℕ → ℕ → ℕ
after_arm o k l =
    cond (k == kind.EnumArm) (cond (o == 0 || o == order.Enums) order.Enums order.Mixed) (cond (o == 0) l (cond (o == order.Enums || o == order.Mixed) order.Mixed (cond (nat_lt order.Enums o) order.More (pair_arm o l))))

unfoldable pub order_from : ℕ → List Sort → ℕ
order_from o [] = o
order_from o (word c ∷ w) = order_from o w
order_from o (child k l h c ∷ w) = order_from (after_arm o k l) w

-- The kind of a match with arms in this order, and its refusal, if there is one.
unfoldable pub order_kind : ℕ → ℕ
order_kind o = cond (o == order.Enums || o == order.Mixed) kind.EnumMatch kind.Match

unfoldable pub order_fault : ℕ → Option Refusal
order_fault o = cond (o == 0) (Some refusal.NoArms) (cond (o == order.Enums || (o == order.Paired || o == order.Turned)) None (cond (o == order.Unpaired) (Some refusal.NoPartners) (cond (o == order.Mixed) (Some refusal.MixedArms) (Some refusal.ArmCount))))

-- Nothing but arms.
abbrev pub Armed : List Sort → Type 0
Armed [] = Unit {0}
Armed (word c ∷ w) = ⊥
Armed (child k l h c ∷ w) = ArmKind k l × Armed w

-- The first of records side by side.
abbrev pub first_node : Items → Items
first_node own.none = own.none
first_node (own.mark t r) = own.none
first_node (own.sub k l h js r) = own.sub k l h js own.none

-- Arms side by side from the state st on: a is their order, b the first record after the first of them.
pub record Arms (st : State) (J L : Items) (m a b : ℕ) : Type 0 where
  pub same : L ≡ J
  pub armed : Armed (sorts J)
  pub order_is : a ≡ order_from 0 (sorts J)
  pub mid_is : b ≡ st.out + sizes (first_node J)

-- Arms that are partners the other way round are exchanged, others stay.
pub data Arranged (o : ℕ) (l : List ℕ) (from mid to : ℕ) (l' : List ℕ) : Type 0 where
  exchanged : o ≡ order.Turned → Turned l from mid to l' → Arranged o l from mid to l'
  stayed : (o ≢ order.Turned) → l' ≡ l → Arranged o l from mid to l'

abbrev pub ParameterKind : ℕ → Type 0
ParameterKind k = k ≡ kind.Parameter

abbrev pub FunctionKind : ℕ → Type 0
FunctionKind k = k ≡ kind.Function

abbrev pub TypeItemKind : ℕ → Type 0
TypeItemKind k = k ≡ kind.TypeItem

abbrev pub ItemKind : ℕ → Type 0
ItemKind k = (k ≡ kind.Function) ⊎ (k ≡ kind.TypeItem)

-- The nonterminal of the item that begins with a token of this class: a type item's, or a function's.
unfoldable pub item_at : ℕ → ℕ
item_at c = cond ((c == t.«Type»)) n-type_item n-function

-- Items side by side: no token of theirs becomes a record here.
pub record FileItems (J L : Items) (m a b : ℕ) : Type 0 where
  pub same : L ≡ J

-- Where the words behind the first record begin, in a buffer of so many.
unfoldable pub behind : ℕ → ℕ
behind n = cond (nat_lt n rec_wide) n rec_wide

-- What is read of a whole file of so many bytes: its items, behind the first record, and then that record; or the parser is stuck.
pub data FileRead (x : Text) (len : ℕ) (st : State) (l l' : List ℕ) : Step → Type 0 where
  file_read : {z : State} {l₁ : List ℕ} {a b : ℕ} → Parsed x (nt n-file ∷ []) as_items FileItems st (drop (behind (length l)) l) l₁ (Next z a b)
      → Put (take (behind (length l)) l ++ l₁) 0 kind.Program 0 len 0 0 (reserved z).out l' → FileRead x len st l l' (Next (reserved z) 0 0)
  file_stuck : {l₁ : List ℕ} {p : ℕ} → Parsed x (nt n-file ∷ []) as_items FileItems st (drop (behind (length l)) l) l₁ (Refused p) → FileRead x len st l l' (Refused p)

-- Parameters with commas between them: a is how many.
pub record Parameters (J L : Items) (m a b : ℕ) : Type 0 where
  pub same : L ≡ J
  pub commas : Only t.Comma (sorts J)
  pub count_is : counted (kind.Parameter ∷ []) (sorts J) ≡ a

-- "low 1 for pub, plus 2 for a result type".
abbrev pub public : ℕ
public = 1

abbrev pub typed : ℕ
typed = 2

-- Nothing, or what begins with a token of the class c, which is a mark: a is n if it is there.
pub record Optional (c n : ℕ) (J L : Items) (m a b : ℕ) : Type 0 where
  pub roles : (K i : ℕ) → arranged K i J ≡ L
  pub there : a ≡ cond (sees c (sorts J)) n 0
  pub others : (d : ℕ) → (d ≢ c) → sees d (sorts J) ≡ false
  pub no_parameters : counted (kind.Parameter ∷ []) (sorts J) ≡ 0
