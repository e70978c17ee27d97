-- Every record of a draft's record tree spells the rule of its kind: document 01, "what it owns, with its children in order of place,
-- spells that rule with its row's marks and its list's commas, none over and none missing". With the draft's tokens in order it follows
-- that the trees are right, from which law 3 follows.
-- Assumes nothing.
use Rattle.std.specs.Prelude.{Bool, true, false, ◌&&◌, ◌||◌, not, cond, ◌≡◌, refl, ℕ, ◌≤◌, T, eqb, leb, length, drop, get_or}
use Rattle.std.proofs.Math.Bool.{or-true}
use mathlib.Core.List.{List, [], ◌∷◌, ◌++◌, append_assoc, append-nil, append-eq-nil_iff}
use Rattle.std.proofs.Math.Option.{some}
use Rattle.std.proofs.Math.Option as option
use Rattle.std.proofs.Math.Path.{sym, subst}
use mathlib.Core.List.{cons-ne-nil}
use Rattle.std.proofs.Common.{ap, ◌∙◌, true≢false}
use borrow.Author.Tests.{eqb-true, eq-eqb, ne_eqb}
use Rattle.std.proofs.Math.ListN.{get_elem?}
use Rattle.text.specs.Part.{part_of}
use Rattle.text.specs.Refusals.{refusal_number}
use Rattle.text.specs.declared.refusal.Refusal.TheVariants as refusal
use Rattle.text.specs.Lists.{all, here, has}
use Rattle.num.specs.Digits as digits
use Rattle.num.specs.Value.{decimal_from, decimal_of, largest, fitted}
use Rattle.num.specs.Bound.{bound_ok, size_ok, length_ok}
use Rattle.theory.specs.Ebnf as shape
use Rattle.theory.specs.Ebnf.{Ex, m_end, m_word, m_sub, m_choice}
use Rattle.theory.specs.Parse.{found}
use Rattle.own.specs.Tree.{Tok, Items, none, mark, sub, roots, yield, marks, Each, InOrder, classes_of}
use Rattle.own.specs.Flat.{blank_tok}
use Rattle.own.specs.Law.{Sort, word, first_class, sorts, Keeps}
use Rattle.own.specs.Kinds as kind
use Rattle.kinds.specs.Shape.{of, fits, ◌▸◌, Spells, empty, one_mark, one_part, seq}
use Rattle.kinds.specs.Fields.{counted, holds}
use Rattle.kinds.specs.Rules.{the}
use Rattle.kinds.specs.Rules as rules
use Rattle.kinds.proofs.Build.{the-mark}
use Rattle.kinds.specs.Spelled.{Spelled, Program, forms_of}
use Rattle.kinds.specs.Ownership.{Right}
use Rattle.kinds.specs.Families as family
use Rattle.lexer.specs.Classes as class
use Rattle.grammar.specs.Shapes.ShapeKind.{ListTypeShape, ArrayTypeShape, MatchShape, FoldingShape}
use Rattle.grammar.specs.Shapes.Shapes.{shapes}
use Rattle.grammar.specs.Shapes.Categories.{file}
use Rattle.grammar.specs.Entry.{Entry, start_ex}
use Rattle.grammar.specs.Shapes.WellShaped.{shape_of}
use Rattle.grammar.specs.Records.Records.{Role, aMark, asName, as_number, role_of, placed, arranged, low_half, high_half, sees, opening, text_of, first_tok, first_of, decimal, head_of, form_of, head_for, recorded, record_items, record_trees}
use Rattle.grammar.specs.Records.Faults.{unless, arm_lows, arms_fault, faults_at, faults, fault_of}
use Rattle.grammar.proofs.Records.FaultLaws.{none-exactly}
use Rattle.grammar.proofs.Spelled.TreeTokens.{whole-trees, is_shape, its_yield, keeps-tokens}
use Rattle.grammar.proofs.Spelled.Rules.{kinds_in, seen, part_shapes, row, last_off, row-append, pair-in, items-in, choice-in, has_within}
use Rattle.grammar.proofs.Spelled.Inclusion.{sorts-arranged}
use Rattle.grammar.proofs.Spelled.FormTests.{SpelledAs, halves_of}
use Rattle.grammar.proofs.Spelled.ShapeTests.{body_shape}
use Rattle.grammar.proofs.Spelled.ShapeLaws.{Given, kept, has-law, kind-of-category}
use Rattle.grammar.proofs.Spelled.NumberLaws.{fits-call}

-- ---- the tokens that become records of their own

name-spelled : (c : ℕ) → T (has (class.Jet ∷ class.identifiers) c) → Spelled kind.Name 0 0 (word c ∷ [])
unfolding forms_of rules.forms holds
name-spelled c h = here (record { fields = tt; shape = one_mark c h })

number_spelled : (n : ℕ) → n ≤ largest → Spelled kind.Number (low_half n) (high_half n) (word class.DecLiteral ∷ [])
unfolding forms_of rules.forms holds
number_spelled n h = here (record { fields = halves_of n h; shape = the-mark class.DecLiteral })

-- which tokens these are, and of which kind the record is that has a number
pub data RoleOf (K c : ℕ) : Role → Type 0 where
  its_own : RoleOf K c aMark
  a_name : T (has (class.Jet ∷ class.identifiers) c) → RoleOf K c asName
  a_number : K ≡ kind.Call → c ≡ class.DecLiteral → RoleOf K c as_number

calls-within : T (all (has (class.Jet ∷ class.identifiers)) (class.Jet ∷ class.function_names))
unfolding all has
calls-within = tt

names-within : T (all (has (class.Jet ∷ class.identifiers)) class.identifiers)
unfolding all has
names-within = tt

role-cases : (K c : ℕ) → RoleOf K c (role_of K c)
unfolding role_of
role-cases K c = go (has family.names_kept K) (has class.identifiers c) refl (eqb K kind.Call) refl (has (class.Jet ∷ class.function_names) c) refl (eqb c class.DecLiteral) refl
  where
    go : (a b : Bool) → has class.identifiers c ≡ b → (d : Bool) → eqb K kind.Call ≡ d → (e : Bool) → has (class.Jet ∷ class.function_names) c ≡ e → (f : Bool) → eqb c class.DecLiteral ≡ f
        → RoleOf K c (cond a (cond b asName aMark) (cond d (cond e asName (cond f as_number aMark)) aMark))
    go true true p d o e q f r = a_name (has_within class.identifiers (class.Jet ∷ class.identifiers) names-within c (subst (λ y. T y) (sym p) tt))
    go true false p d o e q f r = its_own
    go false b p true o true q f r = a_name (has_within (class.Jet ∷ class.function_names) (class.Jet ∷ class.identifiers) calls-within c (subst (λ y. T y) (sym q) tt))
    go false b p true o false q true r = a_number (eqb-true K kind.Call o) (eqb-true c class.DecLiteral r)
    go false b p true o false q false r = its_own
    go false b p false o e q f r = its_own

each_placed : (K n : ℕ) (o : Role) (t : Tok) (r : Items) → (K ≡ kind.Call → t.class ≡ class.DecLiteral → n ≤ largest) → RoleOf K t.class o → Each (Keeps Spelled) r → Each (Keeps Spelled) (placed o n t r)
unfolding placed
each_placed K n aMark t r h its_own e = e
each_placed K n asName t r h (a_name u) e = (name-spelled t.class u, tt, e)
each_placed K n as_number t r h (a_number k u) e = (subst (λ (c : ℕ). Spelled kind.Number (low_half n) (high_half n) (word c ∷ [])) (sym u) (number_spelled n (h k u)), tt, e)

-- A call's number, if it has one, is of 64 bits.
abbrev Fit : ℕ → ℕ → List Sort → Type 0
Fit K n w = K ≡ kind.Call → sees class.DecLiteral w ≡ true → n ≤ largest

each-arranged : (K n : ℕ) (is : Items) → Fit K n (sorts is) → Each (Keeps Spelled) is → Each (Keeps Spelled) (arranged K n is)
unfolding arranged sees
each-arranged K n none h e = tt
each-arranged K n (mark t r) h e =
    each_placed K n (role_of K t.class) t (arranged K n r) (λ k u. h k (rw (eq-eqb t.class class.DecLiteral u) refl)) (role-cases K t.class)
    (each-arranged K n r (λ k u. h k (ap (λ b. eqb t.class class.DecLiteral || b) u ∙ or-true (eqb t.class class.DecLiteral))) e)
each-arranged K n (sub k l i js r) h e = (e.0, e.1, each-arranged K n r h e.2)

-- ---- what is given at each shape

no-first : (c : ℕ) (is : Items) → sees c (sorts is) ≡ false → first_of c (marks is) ≡ blank_tok
unfolding sees first_of
no-first c none e = refl
no-first c (mark t r) e = go (eqb t.class c) e (no-first c r)
  where
    go : (b : Bool) → (b || sees c (sorts r)) ≡ false → (sees c (sorts r) ≡ false → first_of c (marks r) ≡ blank_tok) → cond b t (first_of c (marks r)) ≡ blank_tok
    go true q f = absurd (true≢false q)
    go false q f = f q
no-first c (sub k l h js r) e = no-first c r e

no_text : (draft : List ℕ) → text_of draft blank_tok ≡ []
unfolding text_of part_of
no_text draft = go (leb 0 0 && leb 0 (length draft))
  where
    go : (b : Bool) → ◌≡◌ {A = List ℕ} (cond b [] []) []
    go true = refl
    go false = refl

no_number : (draft : List ℕ) (is : Items) → sees class.DecLiteral (sorts is) ≡ false → decimal draft is ≡ 0
unfolding decimal decimal_of decimal_from digits.plain
no_number draft is e = ap (λ t. decimal_of (text_of draft t)) (no-first class.DecLiteral is e) ∙ ap decimal_of (no_text draft)

passes : (b : Bool) (i : ℕ) (t : Tok) → unless b i t ≡ [] → b ≡ true
unfolding unless
passes true i t e = refl
passes false i t e = absurd (cons-ne-nil _ _ e)

module _ (draft : List ℕ) (is : Items) where
  abbrev w : List Sort
  w = sorts is

  list-clear : faults_at draft ListTypeShape is ≡ [] → sees class.LAngle w ≡ true → bound_ok (fitted (decimal draft is)) ≡ true
  unfolding faults_at
  list-clear f s = rw s at (passes (not (sees class.LAngle w) || bound_ok (fitted (decimal draft is))) (refusal_number refusal.Bound) (first_of class.DecLiteral (marks is)) f)

  length-clear : faults_at draft ArrayTypeShape is ≡ [] → length_ok (fitted (decimal draft is)) ≡ true
  unfolding faults_at
  length-clear f = passes (length_ok (fitted (decimal draft is))) (refusal_number refusal.Length) _ f

  size-clear : faults_at draft FoldingShape is ≡ [] → sees class.LAngle w ≡ true → opening w ≡ class.array_fold → size_ok (fitted (decimal draft is)) ≡ true
  unfolding faults_at
  size-clear f s o = rw s at (passes (not (sees class.LAngle w) || size_ok (fitted (decimal draft is))) (refusal_number refusal.Size) (first_of class.DecLiteral (marks is)) (rw o at f))

  fold-clear : faults_at draft FoldingShape is ≡ [] → sees class.LAngle w ≡ true → (opening w ≡ class.array_fold → ⊥) → bound_ok (fitted (decimal draft is)) ≡ true
  unfolding faults_at
  fold-clear f s o = rw s at (passes (not (sees class.LAngle w) || bound_ok (fitted (decimal draft is))) (refusal_number refusal.Bound) (first_of class.DecLiteral (marks is)) (rw (ne_eqb (opening w) class.array_fold o) at f))

  arms-clear : faults_at draft MatchShape is ≡ [] → arms_fault (counted (kind.EnumArm ∷ []) w) (arm_lows w) ≡ 0
  unfolding faults_at
  arms-clear f = eqb-true (arms_fault (counted (kind.EnumArm ∷ []) w) (arm_lows w)) 0 (passes (eqb (arms_fault (counted (kind.EnumArm ∷ []) w) (arm_lows w)) 0) (arms_fault (counted (kind.EnumArm ∷ []) w) (arm_lows w)) (first_tok (marks is)) f)

  given : (k : ℕ) → faults_at draft k is ≡ [] → Given k (decimal draft is) w
  given k f =
      record {
        absent = no_number draft is;
        listed = λ e s. list-clear (subst (λ (j : ℕ). faults_at draft j is ≡ []) e f) s;
        long = λ e. length-clear (subst (λ (j : ℕ). faults_at draft j is ≡ []) e f);
        sized = λ e s o. size-clear (subst (λ (j : ℕ). faults_at draft j is ≡ []) e f) s o;
        folded = λ e s o. fold-clear (subst (λ (j : ℕ). faults_at draft j is ≡ []) e f) s o;
        armed = λ e. arms-clear (subst (λ (j : ℕ). faults_at draft j is ≡ []) e f);
      }

-- ---- the tree

first-class : (c : ℕ) (l : List ℕ) (ts : List Tok) → c ∷ l ≡ classes_of ts → ((first_tok ts).class ≡ c) × (l ≡ classes_of (drop 1 ts))
unfolding classes_of first_tok
first-class c l [] e = absurd (cons-ne-nil _ _ e)
first-class c l (t ∷ ts) e = (cc, cc)

later-classes : (a b : List ℕ) (ts : List Tok) → a ++ b ≡ classes_of ts → b ≡ classes_of (drop (length a) ts)
unfolding classes_of
later-classes [] b ts e = e
later-classes (c ∷ a) b [] e = absurd (cons-ne-nil _ _ e)
later-classes (c ∷ a) b (t ∷ ts) e = later-classes a b ts (cc)

-- Records that all keep their rules, made of what a row of expressions says.
pub record Good (es : List Ex) (is : Items) : Type 0 where
  pub each : Each (Keeps Spelled) is
  pub made : Spells (row es) (sorts is)

body : (k : ℕ) (is : Items) → Spells (row (shape.body_of shapes k)) (sorts is) → Spells (body_shape k) (sorts is)
unfolding shape.body_of body_shape
body k is p = items-in (get_or shapes.bodies k shape.eps) p

part-fits : (C i k : ℕ) → get_elem? (shape.kinds_of shapes C) i ≡ some k → (text : List ℕ) (n : ℕ) (v : List Sort) (l h c : ℕ) → T (fits (of (kinds_in C)) (head_of (form_of k) text n v).kind l h c)
unfolding fits
part-fits C i k e text n v l h c = kind-of-category C i k e text n v

module _ (draft : List ℕ) where
  good-word : {es : List Ex} (c : ℕ) (t : Tok) (is : Items) → t.class ≡ c → Good es is → Good (shape.mark c ∷ es) (mark t is)
  unfolding row seen
  good-word {es} c t is e g = record {
    each = g.each;
    made = subst (λ (x : ℕ). Spells (the c ▸ row es) (word x ∷ sorts is)) (sym e) (seq (the-mark c) g.made);
  }

  good-sub : {es : List Ex} (C i k : ℕ) → get_elem? (shape.kinds_of shapes C) i ≡ some k → (is r : Items) → faults_at draft k is ≡ []
      → Good (shape.body_of shapes k) is → Good es r → Good (shape.child C ∷ es) (recorded (decimal draft is) (head_for draft k is) is r)
  unfolding recorded head_for row seen shape.body_of
  good-sub {es} C i k h is r f g g' =
      let n = decimal draft is in
      let o = given draft is k f in
      let text = text_of draft (first_tok (marks is)) in
      let hd = head_of (form_of k) text n (sorts is) in
      let c = first_class (yield (arranged hd.kind n is)) in
      let s : SpelledAs hd n (sorts is) = kept k (has-law C i k h) text n (sorts is) o (body k is g.made) in
      record {
        each = (subst (λ (u : List Sort). Spelled hd.kind hd.low hd.high u) (sym (sorts-arranged hd.kind n is)) s, each-arranged hd.kind n is (fits-call k (has-law C i k h) text n (sorts is) o (body k is g.made)) g.each, g'.each);
        made = seq (one_part hd.kind hd.low hd.high c (part-fits C i k h text n (sorts is) hd.low hd.high c)) g'.made;
      }

  good-choice : {e : Ex} {es α : List Ex} (i : ℕ) (is : Items) → get_elem? (shape.choices shapes e) i ≡ some α → Good (α ++ es) is → Good (e ∷ es) is
  unfolding row
  good-choice {e} {es} {α} i is h g = record { each = g.each; made = pair-in (λ v p. choice-in e i α h v p) (λ v p. p) (row-append α es g.made) }

  -- The records of shapes side by side that match a row of expressions, where none of them has a refusal of 9 to 14 and 19.
  good-items : {es : List Ex} {r : shape.Items} → shape.Match shapes es r → (ts : List Tok) (more : List ℕ) → shape.yield r ++ more ≡ classes_of ts → faults draft r ts ≡ []
      → Good es (record_items draft r ts)
  unfolding record_items faults shape.yield row
  good-items m_end ts more e f = record { each = tt; made = empty }
  good-items (m_word {c = c} {r = r} m) ts more e f =
      let q = first-class c (shape.yield r ++ more) ts e in
      good-word c (first_tok ts) (record_items draft r (drop 1 ts)) q.0 (good-items m (drop 1 ts) more q.1 f)
  good-items (m_sub {C = C} {k = k} {js = js} {r = r} i h m m') ts more e f =
      let is = record_items draft js ts in
      let e' : shape.yield js ++ (shape.yield r ++ more) ≡ classes_of ts = sym (append_assoc (shape.yield js) (shape.yield r) more) ∙ e in
      let a = append-eq-nil_iff.0 f in
      let b = append-eq-nil_iff.0 a.1 in
      good-sub C i k h is (record_items draft r (drop (length (shape.yield js)) ts)) a.0 (good-items m ts (shape.yield r ++ more) e' b.0)
      (good-items m' (drop (length (shape.yield js)) ts) more (later-classes (shape.yield js) (shape.yield r ++ more) ts e') b.1)
  good-items (m_choice {r = r} i h m) ts more e f = good-choice i (record_items draft r ts) h (good-items m ts more e f)

module _ (en : Entry) (draft : List ℕ) (ts : List Tok) (r : shape.Items) (found_it : shape_of en (classes_of ts) ≡ found r) (clear : fault_of draft ts r ≡ option.none) where
  no-faults : faults draft r ts ≡ []
  unfolding fault_of
  no-faults = (none-exactly (faults draft r ts)).0 clear

  good-trees : Good (start_ex en ∷ []) (roots (record_trees draft ts r))
  good-trees =
      let s = is_shape en draft ts r found_it in
      let e : shape.yield r ++ [] ≡ classes_of ts = append-nil (shape.yield r) ∙ its_yield en draft ts r found_it in
      subst (Good (start_ex en ∷ [])) (sym (whole-trees en draft ts s)) (good-items draft s ts [] e no-faults)

  -- Without refusals of the shapes, every record of the trees spells the rule of its kind, low and high;
  pub all-spelled : Each (Keeps Spelled) (roots (record_trees draft ts r))
  all-spelled = good-trees.each

  -- and side by side they spell what the entry reads.
  pub tops-spelled : Spells (row (start_ex en ∷ [])) (sorts (roots (record_trees draft ts r)))
  tops-spelled = good-trees.made

  -- If the tokens are in order too, the trees are right.
  pub is_right : InOrder 0 ts → Right (record_trees draft ts r)
  is_right o = record { ordered = subst (InOrder 0) (sym (keeps-tokens en draft ts r found_it)) o; spelled = all-spelled }

-- The trees of a file are items.
pub file-spelled : {w : List Sort} → Spells (row (file ∷ [])) w → Program w
unfolding row seen part_shapes shapes
file-spelled p = last_off p
