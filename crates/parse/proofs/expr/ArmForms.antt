-- Argument lists, and an arm with its body: their rules in grammar's table, and what their functions say of them.
-- Assumes nothing.
use Rattle.std.proofs.Common.{◌≡◌, ℕ, ◌+◌, ◌-◌, ◌*◌, ◌≤◌, Bool, true, false, cond, not, ◌&&◌, ◌||◌, T, eqb, ◌⊎◌, List, [], ◌∷◌, ◌++◌, get_or, sym, refl, ap, ◌∙◌, subst, ap₂, inl, inr, append_assoc, arith, eqb→eq}
use mathlib.Core.Option.{Option, none, some, none-ne-some, some-injective}
use lib.Seq.{sets}
use types.Run.{OneOf}
use denote.Enum.Declared.{tag_of}
use Rattle.text.proofs.Same.{differ}
use Rattle.kinds.specs.Fields.{counted}
use Rattle.kinds.specs.Families as family
use Rattle.lexer.specs.Classes as t
use Rattle.theory.specs.Grammar.{Sym, tok, nt, look, row, alt, pick}
use Rattle.theory.specs.Machine.{choose, expand}
use Rattle.theory.specs.Ebnf as shape
use Rattle.theory.specs.Ebnf.{sort_of}
use Rattle.theory.specs.Same.{ex}
use Rattle.theory.specs.Walk.{n-flat, n-sub, k_nt, k_in}
use Rattle.own.specs.Tree.{Tok, arrange, concat}
use Rattle.text.specs.Widths.{rec_wide}
use Rattle.text.specs.Lists.{has}
use Rattle.own.specs.Words.{word_groups}
use Rattle.own.specs.Law.{Sort, word, child}
use Rattle.own.specs.Arms as arm
use Rattle.own.specs.Kinds as kind
use Rattle.grammar.specs.Shapes.Shapes.{shapes}
use Rattle.grammar.specs.Shapes.Tables.{means, table}
use Rattle.grammar.specs.Records.Records.{head, sees, name_count, lone, head_of, form_of, arm_head, role_of}
use Rattle.grammar.specs.Records.Faults.{Fault, earliest}
use Rattle.grammar.specs.Shapes.ShapeKind.{ArmShape}
use Rattle.grammar.specs.Shapes.TablesIndex.{n-arguments, n-arm, n-arm-choice, n-arm-choice-optional-Comma, n-block, n-head, n-head_path, n-list-expression, n-other_name, n-single}
use Rattle.parse.specs.contracts.Step.{the_type}
use Rattle.parse.specs.Contract.{Text, classes, tok_at, raw, fault_in, sooner, Read, Stuck, kept, Stands, Ready, Near, Put, Eaten, Info, as_items, as_node, Went, Parsed, read, stuck, reserved, ExprKind, Only}
use Rattle.parse.specs.Infos.{Args, Quiet, Body, ArmHead, Arm, ArmKind, arm_kind, arm_low, arm_high}
use Rattle.parse.specs.declared.State.{State}
use Rattle.parse.specs.declared.Step.{Step}
use Rattle.parse.specs.declared.Step.TheVariants.{Next}
use Rattle.parse.specs.Choice as choice
use Rattle.parse.proofs.Rule.ByClass.{run, either-passed, beyond, past_classes, and_both}
use Rattle.parse.proofs.choice.Chosen.{Forked, Optionally, forked, optionally, goes}
use Rattle.parse.proofs.Rule.Marks.{sign-mark}
use Rattle.parse.proofs.Rule.Amid.{Amid, starts, then-passed, went}
use Rattle.parse.proofs.Rule.Steps.{stuck-here, decided}
use Rattle.parse.proofs.Rule.Closing.{Opened, Rule, opens, shuts-as, its-raw, its-fault, enters}
use Rattle.parse.proofs.Rule.Entered as entered
use Rattle.parse.proofs.Rule.Entered.{Entered}
use Rattle.parse.proofs.Rule.Told.{Told, then-told}
use Rattle.parse.proofs.Rule.Chain.{then-eats}
use Rattle.parse.proofs.Rule.Commas.{AnyN, arranged-zero, comma-mark, finish}
use Rattle.parse.proofs.Rule.Heads.{no_fault, unturned}
use Rattle.parse.proofs.Rule.Pieces.{Marks, marks-append, arranged-marks, expr-uncounted}

-- An argument list.
pub flat-args : sort_of (ex means (nt n-arguments)) ≡ shape.flat
unfolding sort_of ex means
flat-args = refl

pub args-rule : (a : ℕ) → expand table n-arguments a ≡ some (tok t.LParen ∷ nt n-list-expression ∷ tok t.RParen ∷ [])
unfolding choose row table look alt pick
args-rule a = refl

only-marks : (K : ℕ) (w : List Sort) → Only t.Comma w → Marks K w
only-marks K [] o = tt
only-marks K (word c ∷ w) o = (ap (role_of K) o.0 ∙ comma-mark K, only-marks K w o.1)
only-marks K (child k l h c ∷ w) o = only-marks K w o

pub args_are : {x : Text} {full : List Sym} {st : State} {l : List ℕ} {ms : List Tok} {m : ℕ} {st₁ : State} {l₁ : List ℕ} (W : List Sort) {a : ℕ}
    → Amid x 0 AnyN full [] st l (word t.LParen ∷ (W ++ (word t.RParen ∷ []))) ms m st₁ l₁ → 1 ≤ m → Only t.Comma W → lone W ≡ eqb a 1 → Went x full as_items Args st l st₁ l₁ a 0
args_are {x} {st = st} W d one o e =
    let same : d.L ≡ raw x st.at d.pre = sym (d.roles 0 tt) ∙ arranged-zero 0 (raw x st.at d.pre) in
    finish d (record {
      roles = λ K n.
          arranged-marks K n (raw x st.at d.pre) (subst (Marks K) (sym d.sorted) (sign-mark K t.LParen tt, marks-append K W (word t.RParen ∷ []) (only-marks K W o) (sign-mark K t.RParen tt, tt)))
          ∙ sym same;
      W = W;
      sorts_is = d.sorted;
      commas = o;
      lone_is = e;
      own = one;
    })

-- In an argument list behind a name that is a record.
pub near-onward : {x : Text} {K : ℕ} {N : ℕ → Type 0} {full left : List Sym} {st : State} {l : List ℕ} {w : List Sort} {ms : List Tok} {m : ℕ} {st₁ : State} {l₁ : List ℕ}
    → Near x st → Amid x K N full left st l w ms m st₁ l₁ → 1 ≤ m → Ready x st₁
near-onward y d h = record { stands = d.lays.stands; short = y.short; few = omega (arith, d.lays.few, y.few) }

-- The body of an arm.
pub body-choice : Forked n-arm-choice t.LBrace (nt n-block ∷ nt n-arm-choice-optional-Comma ∷ []) (nt n-single ∷ tok t.Comma ∷ [])
unfolding sort_of ex means choose row look table alt pick
body-choice = forked refl (λ c. refl) refl refl

pub comma-optional : Optionally n-arm-choice-optional-Comma t.Comma (tok t.Comma ∷ [])
unfolding sort_of ex means choose row look table alt pick
comma-optional = optionally refl (λ c. refl) refl refl

body-quiet : (k l h c : ℕ) (v : List Sort) → ExprKind k → (v ≡ []) ⊎ (v ≡ word t.Comma ∷ []) → Quiet (child k l h c ∷ v)
unfolding sees name_count counted has
body-quiet k l h c v p e = record { paths = seen e; names = named e; patterns = let f : ◌≡◌ {A = ℕ} (cond (has family.patterns k) 1 0) 0 = ap (λ (b : Bool). cond b 1 0) (expr-uncounted k p) in omega (arith, f, none_in e) }
  where
    seen : (v ≡ []) ⊎ (v ≡ word t.Comma ∷ []) → sees t.DoubleColon v ≡ false
    seen (inl q) = ap (sees t.DoubleColon) q
    seen (inr q) = ap (sees t.DoubleColon) q

    named : (v ≡ []) ⊎ (v ≡ word t.Comma ∷ []) → name_count v ≡ 0
    named (inl q) = ap name_count q
    named (inr q) = ap name_count q

    none_in : (v ≡ []) ⊎ (v ≡ word t.Comma ∷ []) → counted family.patterns v ≡ 0
    none_in (inl q) = ap (counted family.patterns) q
    none_in (inr q) = ap (counted family.patterns) q

body-marks : (K : ℕ) (v : List Sort) → (v ≡ []) ⊎ (v ≡ word t.Comma ∷ []) → Marks K v
body-marks K v (inl q) = subst (Marks K) (sym q) tt
body-marks K v (inr q) = subst (Marks K) (sym q) (comma-mark K, tt)

pub body_is : {x : Text} {full : List Sym} {st : State} {l : List ℕ} {ms : List Tok} {m : ℕ} {st₁ : State} {l₁ : List ℕ} (k i h c : ℕ) (v : List Sort)
    → Amid x 0 AnyN full [] st l (child k i h c ∷ v) ms m st₁ l₁ → ExprKind k → (v ≡ []) ⊎ (v ≡ word t.Comma ∷ []) → Went x full as_items Body st l st₁ l₁ 0 0
body_is {x} {st = st} k i h c v d p e =
    let same : d.L ≡ raw x st.at d.pre = sym (d.roles 0 tt) ∙ arranged-zero 0 (raw x st.at d.pre) in
    finish d (record {
      roles = λ K n. arranged-marks K n (raw x st.at d.pre) (subst (Marks K) (sym d.sorted) (body-marks K v e)) ∙ sym same;
      quiet = subst Quiet (sym d.sorted) (body-quiet k i h c v p e);
    })

-- An arm begins with a name or a boolean; at any other token its head is stuck at once.
pub data Begins (c : ℕ) : Type 0 where
  begins : choose table n-arm c ≡ 1 → Begins c
  lacks : expand table n-arm c ≡ none → expand table n-head c ≡ some (nt n-other_name ∷ nt n-head_path ∷ []) → expand table n-other_name c ≡ none → Begins c

abbrev lacking : ℕ → Bool
lacking c = eqb (choose table n-arm c) 0 && (eqb (choose table n-head c) choice.NamedHead && eqb (choose table n-other_name c) 0)

begins-test : T (run (λ c. eqb (choose table n-arm c) 1 || lacking c) past_classes 0)
unfolding choose row table look
begins-test = tt

pub arm-begins : (c : ℕ) → Begins c
unfolding row table alt pick
arm-begins c = go (either-passed (λ c. eqb (choose table n-arm c) 1) lacking begins-test (λ c h. rw (beyond n-arm c h, beyond n-head c h, beyond n-other_name c h) tt) c)
  where
    go : T (eqb (choose table n-arm c) 1) ⊎ T (lacking c) → Begins c
    go (inl u) = begins (eqb→eq (choose table n-arm c) 1 u)
    go (inr u) =
        let p = and_both (eqb (choose table n-arm c) 0) (eqb (choose table n-head c) choice.NamedHead && eqb (choose table n-other_name c) 0) u in
        let q = and_both (eqb (choose table n-head c) choice.NamedHead) (eqb (choose table n-other_name c) 0) p.1 in
        lacks (goes n-arm 0 c (eqb→eq (choose table n-arm c) 0 p.0) refl) (goes n-head choice.NamedHead c (eqb→eq (choose table n-head c) choice.NamedHead q.0) refl)
        (goes n-other_name 0 c (eqb→eq (choose table n-other_name c) 0 q.1) refl)

abbrev is_flat : shape.Sort → Bool
is_flat (shape.token c) = false
is_flat (shape.node c) = false
is_flat shape.flat = true

-- What the table has for the next token is what is read,
reads-some : (x : Text) {A : ℕ} {σ : List Sym} {at : ℕ} {r : shape.Items} {j : ℕ} → Read x (nt A ∷ σ) at r j → (rhs : List Sym) × (expand table A (get_or (classes x) at 0) ≡ some rhs)
reads-some x (n-flat {rhs = rhs} f e p) = (rhs, e)
reads-some x {A} (n-sub {rhs = rhs} C i k c y f e p p') = (rhs, ap (alt table A) f ∙ e)

reads_in : (x : Text) {A : ℕ} {σ rhs : List Sym} {at : ℕ} {r : shape.Items} {j : ℕ} → sort_of (ex means (nt A)) ≡ shape.flat → expand table A (get_or (classes x) at 0) ≡ some rhs → Read x (nt A ∷ σ) at r j
    → Read x (rhs ++ σ) at r j
unfolding sort_of
reads_in x {σ = σ} {at = at} {r = r} {j = j} g h (n-flat f e p) = subst (λ ρ. Read x (ρ ++ σ) at r j) (some-injective _ _ (sym e ∙ h)) p
reads_in x g h (n-sub C i k c y f e p p') = absurd (differ (ap is_flat (sym (ap sort_of c) ∙ g)))

-- and where it is stuck.
sticks-in : (x : Text) {A : ℕ} {σ rhs : List Sym} {at p : ℕ} → expand table A (get_or (classes x) at 0) ≡ some rhs → Stuck x (nt A ∷ σ) at p → Stuck x (rhs ++ σ) at p
sticks-in x h (k_nt e) = absurd (none-ne-some _ (sym e ∙ h))
sticks-in x {σ = σ} {at = at} {p = p} h (k_in e k) = subst (λ ρ. Stuck x (ρ ++ σ) at p) (some-injective _ _ (sym e ∙ h)) k

flat-head : sort_of (ex means (nt n-head)) ≡ shape.flat
unfolding sort_of ex means
flat-head = refl

-- Where no arm begins, its head is refused at that token, and so is the arm.
module _ {x : Text} {st : State} (y : Stands x st) (p : expand table n-arm st.class ≡ none) (q : expand table n-head st.class ≡ some (nt n-other_name ∷ nt n-head_path ∷ [])) (r : expand table n-other_name st.class ≡ none) where
  here : (A : ℕ) {o : Option (List Sym)} → expand table A st.class ≡ o → expand table A (get_or (classes x) st.at 0) ≡ o
  here A e = ap (expand table A) (sym y.class_is) ∙ e

  pub none_read : {I : Info} {l l' : List ℕ} {a b : ℕ} {st' : State} → Went x (nt n-head ∷ []) as_items I st l st' l' a b → ⊥
  none_read w = let z = reads-some x (reads_in x flat-head (here n-head q) w.reads) in none-ne-some _ (sym (here n-other_name r) ∙ z.1)

  pub none_stuck : {I J : Info} {l l' l₀ l₁ : List ℕ} {s : Step} → OneOf (1 ∷ []) (tag_of the_type s) → Parsed x (nt n-head ∷ []) as_items I st l l' s → Parsed x (nt n-arm ∷ []) as_items J st l₀ l₁ s
  none_stuck k (read h) = absurd (omega arith)
  none_stuck k (stuck {p = i} h g) =
      let e : i ≡ st.at = stuck-here x (here n-other_name r) (sticks-in x (here n-head q) (g [])) in
      stuck h (λ τ. subst (λ j. Stuck x (nt n-arm ∷ τ) st.at j) (sym e) (k_nt (here n-arm p)))

-- The steps of an arm: its head, and its body.
module _ {x : Text} {K : ℕ} {N : ℕ → Type 0} {full left : List Sym} {st : State} {l : List ℕ} {w : List Sort} {ms : List Tok} {m : ℕ} {st₁ : State} {l₁ : List ℕ} {s : Sym} {st₂ : State} {l₂ : List ℕ} {a b : ℕ} {r : Step}
    (d : Amid x K N full (s ∷ left) st l w ms m st₁ l₁) where
  pub then-body : Parsed x (s ∷ []) as_items Body st₁ l₁ l₂ r → r ≡ Next st₂ a b → Told x K N full left st l w ms m Quiet st₂ l₂
  then-body p e = let q = went e p in then-told d q (λ n g. q.info.roles K n) q.info.quiet

-- The head decides the record, whatever quiet pieces follow it.
abbrev Decides : ℕ → ℕ → List Sort → Type 0
Decides a b W = (v : List Sort) → Quiet v → arm_head (W ++ v) ≡ head (arm_kind a) (arm_low a b) (arm_high a b)

module _ {x : Text} {N : ℕ → Type 0} {full left : List Sym} {st : State} {l : List ℕ} {w : List Sort} {ms : List Tok} {m : ℕ} {st₁ : State} {l₁ : List ℕ} {s : Sym} {st₂ : State} {l₂ : List ℕ} {a b : ℕ} {r : Step} where
  pub then-head : Amid x (arm_kind a) N full (s ∷ left) st l w ms m st₁ l₁ → Parsed x (s ∷ []) as_items ArmHead st₁ l₁ l₂ r → r ≡ Next st₂ a b
      → Told x (arm_kind a) N full left st l w ms m (Decides a b) st₂ l₂
  then-head d p e = let q = went e p in then-told d q (λ n g. q.info.roles n) q.info.decides

pub head-low : {x : Text} {σ : List Sym} {st : State} {l l' : List ℕ} {r : Step} {st' : State} {a b : ℕ} → Parsed x σ as_items ArmHead st l l' r → r ≡ Next st' a b → a ≡ 0 → (arm.Left ≤ b) × (b ≤ arm.True)
head-low p e = (went e p).info.low_is

arrow-quiet : (v : List Sort) → Quiet v → Quiet (word t.FatArrow ∷ v)
unfolding sees name_count counted has
arrow-quiet v q = record { paths = q.paths; names = omega (arith, q.names); patterns = q.patterns }

kinds-of : (a : ℕ) → (arm_kind a ≡ kind.BuiltinArm) ⊎ (arm_kind a ≡ kind.EnumArm)
unfolding arm_kind
kinds-of a = go (eqb a 0)
  where
    go : (b : Bool) → (◌≡◌ {A = ℕ} (cond b kind.BuiltinArm kind.EnumArm) kind.BuiltinArm) ⊎ (◌≡◌ {A = ℕ} (cond b kind.BuiltinArm kind.EnumArm) kind.EnumArm)
    go true = inl refl
    go false = inr refl

pub arm-unturned : (a : ℕ) → T (not (eqb (arm_kind a) kind.Match))
arm-unturned a = go (kinds-of a)
  where
    go : (arm_kind a ≡ kind.BuiltinArm) ⊎ (arm_kind a ≡ kind.EnumArm) → T (not (eqb (arm_kind a) kind.Match))
    go (inl e) = rw e tt
    go (inr e) = rw e tt

pub arm-kinds : (a b : ℕ) → (a ≡ 0 → (arm.Left ≤ b) × (b ≤ arm.True)) → ArmKind (arm_kind a) (arm_low a b)
unfolding arm_kind arm_low
arm-kinds a b h = go (eqb a 0) refl
  where
    go : (c : Bool) → eqb a 0 ≡ c → ArmKind (cond c kind.BuiltinArm kind.EnumArm) (cond c b a)
    go true e = let z = h (eqb→eq a 0 (rw e tt)) in inl (refl, z.0, z.1)
    go false e = inr refl

arm-decides : (x : Text) (a b : ℕ) (W U : List Sort) (ms : List Tok) → Decides a b W → Quiet U
    → decided x ArmShape (W ++ (word t.FatArrow ∷ U)) ms ≡ head (arm_kind a) (arm_low a b) (arm_high a b)
unfolding head_of form_of
arm-decides x a b W U ms h q = h (word t.FatArrow ∷ U) (arrow-quiet U q)

-- The record of an arm.
pub arm-shut : {x : Text} {st r : State} {rhs : List Sym} {l : List ℕ} {ms : List Tok} {m : ℕ} {st₁ : State} {l₁ l' : List ℕ} (a b : ℕ) (W U : List Sort) {kind low high : ℕ}
    → Ready x st → (o : Opened x st r (kept st)) → (d : Amid x (arm_kind a) AnyN rhs [] r l (W ++ (word t.FatArrow ∷ U)) ms m st₁ l₁) → 1 ≤ m
    → Decides a b W → Quiet U → (a ≡ 0 → (arm.Left ≤ b) × (b ≤ arm.True))
    → (kind ≡ arm_kind a) × (low ≡ arm_low a b) × (high ≡ arm_high a b) → Put l₁ st.out kind st.start st₁.end low high (st₁.out - st.out) l'
    → Went x rhs (as_node ArmShape) Arm st l st₁ l' kind low
unfolding earliest
arm-shut {x} {st} {r} {rhs} {l} {ms} {m} {st₁} {l₁} {l'} a b W U {kind} {low} {high} y o d one h q i e put =
    let hd = arm-decides x a b W U ms h q in
    let put' : Put l₁ st.out (arm_kind a) st.start st₁.end (arm_low a b) (arm_high a b) (st₁.out - st.out) l' =
    subst (λ u. Put l₁ st.out (arm_kind a) st.start st₁.end (arm_low a b) u (st₁.out - st.out) l') e.2
    (subst (λ u. Put l₁ st.out (arm_kind a) st.start st₁.end u high (st₁.out - st.out) l') e.1
    (subst (λ u. Put l₁ st.out u st.start st₁.end low high (st₁.out - st.out) l') e.0 put)) in
    let base : Went x rhs (as_node ArmShape) Arm st l st₁ l' (arm_kind a) (arm_low a b) =
    shuts-as ArmShape y o d one hd tt
    (record { high = arm_high a b; js = d.L; raw_is = its-raw ArmShape y o d one hd tt; laid_is = refl; none_left = refl; its_kind = arm-kinds a b i })
    d.lays.long
    (λ n k. d.lays.laid n k ∙ ap (λ u. sets l (rec_wide * r.out) (concat (arrange u (word_groups d.L)))) (sym (unturned (arm_kind a) d.L (arm-unturned a))))
    put' refl (record { at_is = refl; out_is = refl }) d.lays.stands
    (d.lays.worst ∙ ap₂ sooner o.kept_is (sym (its-fault ArmShape y o d one hd tt ∙ ap (λ u. sooner (earliest u) (fault_in x r.at d.pre)) (no_fault x.draft ArmShape (raw x r.at d.pre) tt)))) in
    subst (λ u. Went x rhs (as_node ArmShape) Arm st l st₁ l' kind u) (sym e.1) (subst (λ u. Went x rhs (as_node ArmShape) Arm st l st₁ l' u (arm_low a b)) (sym e.0) base)

-- The rule of an arm.
abbrev pub arm_symbols : List Sym
arm_symbols = nt n-head ∷ tok t.FatArrow ∷ nt n-arm-choice ∷ []

pub arm_is : Rule n-arm 1 ArmShape arm_symbols
unfolding ex means shape.kinds_of shapes row table alt pick
arm_is = record { category = refl; from_one = refl; kind = refl; rule = refl }

-- The head of an arm refuses, and so the arm does.
pub head-refused : {x : Text} {st r : State} {F : Option Fault} {I J : Info} {l l₁ l₀ l' : List ℕ} {s : Step} → Ready x st → Opened x st r F → OneOf (1 ∷ []) (tag_of the_type s) → Parsed x (nt n-head ∷ []) as_items I r l l₁ s
    → Parsed x (nt n-arm ∷ []) as_items J st l₀ l' s
head-refused {x} {st} {r} {I = I} {J = J} {l = l} {l₁ = l₁} {l₀ = l₀} {l' = l'} {s = s} y o k p = go (arm-begins st.class) p
  where
    moved : {I : Info} {l l₁ : List ℕ} {s : Step} {J : Info} {l₀ l' : List ℕ} → OneOf (1 ∷ []) (tag_of the_type s) → Parsed x (nt n-arm ∷ []) as_items I r l l₁ s → Parsed x (nt n-arm ∷ []) as_items J st l₀ l' s
    moved k (read h) = absurd (omega arith)
    moved k (stuck {p = i} h g) = stuck h (λ τ. subst (λ j. Stuck x (nt n-arm ∷ τ) j i) o.at_is (g τ))

    go : Begins st.class → Parsed x (nt n-head ∷ []) as_items I r l l₁ s → Parsed x (nt n-arm ∷ []) as_items J st l₀ l' s
    go (begins e) q = then-passed (starts kind.BuiltinArm AnyN arm_symbols l o.stands) k (enters arm_is y e o) q
    go (lacks a b c) q = moved {I = J} {l = l₀} {l₁ = l'} k (none_stuck o.stands (ap (expand table n-arm) o.class_is ∙ a) (ap (expand table n-head) o.class_is ∙ b) (ap (expand table n-other_name) o.class_is ∙ c) k q)

-- Where it was read an arm begins.
pub begins-there : {x : Text} {st r : State} {F : Option Fault} {I : Info} {l l₁ : List ℕ} {s : Step} {st' : State} {a b : ℕ} → Ready x st → Opened x st r F → Parsed x (nt n-head ∷ []) as_items I r l l₁ s → s ≡ Next st' a b
    → choose table n-arm st.class ≡ 1
begins-there {x} {st} {r} y o p e = go (arm-begins st.class)
  where
    go : Begins st.class → choose table n-arm st.class ≡ 1
    go (begins f) = f
    go (lacks f g h) = absurd (none_read o.stands (ap (expand table n-arm) o.class_is ∙ f) (ap (expand table n-head) o.class_is ∙ g) (ap (expand table n-other_name) o.class_is ∙ h) (went e p))

-- The pieces of an arm, bracketed to the right.
pub shifted : {x : Text} {K : ℕ} {N : ℕ → Type 0} {full left : List Sym} {st : State} {l : List ℕ} {ms : List Tok} {m : ℕ} {st₁ : State} {l₁ : List ℕ} (W U : List Sort)
    → Amid x K N full left st l ((W ++ (word t.FatArrow ∷ [])) ++ U) ms m st₁ l₁ → Amid x K N full left st l (W ++ (word t.FatArrow ∷ U)) ms m st₁ l₁
shifted {x} {K} {N} {full} {left} {st} {l} {ms} {m} {st₁} {l₁} W U d = subst (λ w. Amid x K N full left st l w ms m st₁ l₁) (append_assoc W (word t.FatArrow ∷ []) U) d

-- An arm has been entered once its head was read:
pub arm₀ : {x : Text} {st r a : State} {I : Info} {l l₁ : List ℕ} {s : Step} {i j : ℕ}
    → Ready x st → r ≡ reserved st → Parsed x (nt n-head ∷ []) as_items I r l l₁ s → s ≡ Next a i j
    → Entered n-arm 1 ArmShape arm_symbols x st r (kept st)
arm₀ y h p e = entered.by arm_is y (begins-there y (opens y h) p e) h

-- that head,
module _ {x : Text} {st r a : State} {F : Option Fault} {l l₁ : List ℕ} {s₁ : Step} {i₁ j₁ : ℕ}
    (n : Entered n-arm 1 ArmShape arm_symbols x st r F) (p₁ : Parsed x (nt n-head ∷ []) as_items ArmHead r l l₁ s₁) (q₁ : s₁ ≡ Next a i₁ j₁) where
  pub arm₁ : Told x (arm_kind i₁) AnyN arm_symbols (tok t.FatArrow ∷ nt n-arm-choice ∷ []) r l [] [] 0 (Decides i₁ j₁) a l₁
  arm₁ = then-head (starts (arm_kind i₁) AnyN arm_symbols l n.opened.stands) p₁ q₁

  -- and `=>`.
  pub arm₂ : {s₂ : Step} {b : State} {i₂ j₂ : ℕ} → Eaten x a t.FatArrow s₂ → s₂ ≡ Next b i₂ j₂
      → Amid x (arm_kind i₁) AnyN arm_symbols (nt n-arm-choice ∷ []) r l (arm₁.W ++ (word t.FatArrow ∷ [])) (arm₁.more ++ (tok_at x a.at ∷ [])) (0 + arm₁.k + 1) b l₁
  arm₂ p q = then-eats arm₁.amid (omega arith) p q (sign-mark (arm_kind i₁) t.FatArrow tt)

-- Its body too, and its record is put.
pub arm-whole : {x : Text} {st r a b z : State} {l l₁ l₂ l' : List ℕ} {s₁ s₂ s₃ : Step} {i₁ j₁ i₂ j₂ i₃ j₃ kind low high : ℕ}
    → Entered n-arm 1 ArmShape arm_symbols x st r (kept st) → Parsed x (nt n-head ∷ []) as_items ArmHead r l l₁ s₁ → s₁ ≡ Next a i₁ j₁
    → Eaten x a t.FatArrow s₂ → s₂ ≡ Next b i₂ j₂ → Parsed x (nt n-arm-choice ∷ []) as_items Body b l₁ l₂ s₃ → s₃ ≡ Next z i₃ j₃
    → (kind ≡ arm_kind i₁) × (low ≡ arm_low i₁ j₁) × (high ≡ arm_high i₁ j₁) → Put l₂ st.out kind st.start z.end low high (z.out - st.out) l'
    → Parsed x (nt n-arm ∷ []) as_items Arm st l l' (Next z kind low)
arm-whole {i₁ = i} {j₁ = j} n p₁ q₁ p₂ q₂ p₃ q₃ e put =
    let d₁ = arm₁ n p₁ q₁ in
    let d₃ = then-body (arm₂ n p₁ q₁ p₂ q₂) p₃ q₃ in
    entered.whole n (arm-shut i j d₁.W d₃.W n.ready n.opened (shifted d₁.W d₃.W d₃.amid) (omega arith) d₁.so d₃.so (head-low p₁ q₁) e put)
