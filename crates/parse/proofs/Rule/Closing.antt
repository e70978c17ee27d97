-- A record over all that was read since it was reserved.
-- Assumes nothing.
use Rattle.std.proofs.Common.{◌≡◌, ℕ, suc, ◌+◌, ◌-◌, ◌*◌, ◌<◌, ◌≤◌, false, List, [], ◌∷◌, ◌++◌, length, get_or, sym, refl, ap, ◌∙◌, subst, ap₂, append-nil, arith}
use mathlib.Core.Option.{Option, none, some}
use lib.Seq.{sets}
use Rattle.theory.specs.Grammar.{Sym, nt, alt}
use Rattle.theory.specs.Machine.{choose, expand}
use Rattle.theory.specs.Ebnf as shape
use Rattle.theory.specs.Ebnf.{child, kinds_of}
use Rattle.theory.specs.Same.{ex}
use Rattle.theory.specs.Walk.{n-end, n-sub, k_in}
use lib.ListN.{get_elem?}
use Rattle.own.specs.Tree as own
use Rattle.own.specs.Tree.{Tok, Items, sub, Each, begin, end, turned, arrange, concat}
use Rattle.own.specs.Law.{Sort, sorts}
use Rattle.text.specs.Widths.{rec_wide}
use Rattle.own.specs.Words.{rec_then, sizes, word_groups}
use Rattle.own.specs.Tree.{marks}
use Rattle.grammar.specs.Shapes.Shapes.{shapes}
use Rattle.grammar.specs.Shapes.Tables.{means, table}
use Rattle.grammar.specs.Records.Records.{head, arranged}
use Rattle.grammar.specs.Records.Faults.{Fault, faults_at, earliest}
use Rattle.grammar.proofs.Spelled.TreeTokens.{yield-arranged}
use Rattle.parse.specs.Contract.{Text, classes, Read, Stuck, raw, fault_in, sooner, kept, fault, Stands, Ready, Holds, Put, Info, as_items, as_node, Went, Parsed, read, stuck, reserved, cleaned, Node, countable}
use Rattle.parse.specs.declared.State.{State}
use Rattle.parse.specs.declared.Step.{Step}
use Rattle.parse.proofs.tree.Splice.{header}
use Rattle.parse.proofs.Rule.Amid.{Amid, done}
use Rattle.parse.proofs.Rule.Steps.{begins, stops, number_in, decided, raw-node, fault-node}

-- The state r is st with a record reserved, and keeps the refusal F.
pub record Opened (x : Text) (st r : State) (F : Option Fault) : Type 0 where
  pub at_is : r.at ≡ st.at
  pub class_is : r.class ≡ st.class
  pub out_is : r.out ≡ st.out + 1
  pub kept_is : kept r ≡ F
  pub stands : Stands x r

-- The state with a record more stands where it stood.
pub reserved-class : (a : State) {c : State} → c ≡ reserved a → c.class ≡ a.class
unfolding reserved
reserved-class a e = ap (λ (y : State). y.class) e

pub reserved-stands : {x : Text} {a : State} → Stands x a → Stands x (reserved a)
unfolding reserved
reserved-stands s = record { within = s.within; class_is = s.class_is; start_is = s.start_is; stop_is = s.stop_is; end_is = s.end_is }

reserved-opens : {x : Text} {st : State} → Stands x st → st.out ≤ countable → Opened x st (reserved st) (kept st)
unfolding reserved
reserved-opens s h = record { at_is = refl; class_is = refl; out_is = omega arith; kept_is = refl; stands = reserved-stands s }

few-enough : {x : Text} {st : State} → Ready x st → st.out ≤ countable
few-enough h = omega (arith, h.few, h.short, h.stands.within)

pub opens : {x : Text} {st r : State} → Ready x st → r ≡ reserved st → Opened x st r (kept st)
opens {x} {st} h e = subst (λ r. Opened x st r (kept st)) (sym e) (reserved-opens h.stands (few-enough h))

cleaned-opens : {x : Text} {st : State} → Ready x st → Opened x st (reserved (cleaned st)) none
unfolding cleaned reserved fault
cleaned-opens h =
    let s = h.stands in
    let f = few-enough h in
    record { at_is = refl; class_is = refl; out_is = omega arith; kept_is = refl; stands = record { within = s.within; class_is = s.class_is; start_is = s.start_is; stop_is = s.stop_is; end_is = s.end_is } }

pub opens-clean : {x : Text} {st c r : State} → Ready x st → c ≡ cleaned st → r ≡ reserved c → Opened x st r none
opens-clean {x} {st} h e f = subst (λ r. Opened x st r none) (sym (f ∙ ap reserved e)) (cleaned-opens h)

-- The last state differs from the one where the record ends at most in its refusal.
pub record Ends (st₁ st₂ : State) : Type 0 where
  pub at_is : st₂.at ≡ st₁.at
  pub out_is : st₂.out ≡ st₁.out

module _ {x : Text} {st r : State} {F : Option Fault} {K : ℕ} {N : ℕ → Type 0} {rhs : List Sym} {l : List ℕ} {w : List Sort} {ms : List Tok} {m : ℕ} {st₁ : State} {l₁ : List ℕ} {low high : ℕ}
    (k : ℕ) (y : Ready x st) (o : Opened x st r F) (d : Amid x K N rhs [] r l w ms m st₁ l₁) (one : 1 ≤ m) (hd : decided x k w ms ≡ head K low high) (hn : N (number_in x ms)) where
  pre_at : raw x st.at d.pre ≡ raw x r.at d.pre
  pre_at = ap (λ i. raw x i d.pre) (sym o.at_is)

  pub its-raw : raw x st.at (shape.sub k d.pre shape.nil) ≡ sub K low high d.L own.none
  its-raw = raw-node x st.at k d.pre K low high (ap sorts pre_at ∙ d.sorted) (ap marks pre_at ∙ d.marked) hd d.L (ap (arranged K (number_in x ms)) pre_at ∙ d.roles (number_in x ms) hn)

  pub its-fault : fault_in x st.at (shape.sub k d.pre shape.nil) ≡ sooner (earliest (faults_at x.draft k (raw x r.at d.pre))) (fault_in x r.at d.pre)
  its-fault =
      fault-node x st.at k d.pre K low high (ap sorts pre_at ∙ d.sorted) (ap marks pre_at ∙ d.marked) hd
      ∙ ap (λ i. sooner (earliest (faults_at x.draft k (raw x i d.pre))) (fault_in x i d.pre)) (sym o.at_is)

  yields : own.yield d.L ≡ own.yield (raw x st.at d.pre)
  yields = ap own.yield (sym (d.roles (number_in x ms) hn)) ∙ yield-arranged K (number_in x ms) (raw x r.at d.pre) ∙ ap own.yield (sym pre_at)

  long-enough : (st.at + length (shape.yield d.pre) ≤ length x.ts) × (0 < length (shape.yield d.pre))
  long-enough =
      let e = d.lays.ends in
      let f = d.lays.few in
      let s = d.lays.sized in
      let h = d.lays.stands.within in
      let a = o.at_is in
      (omega arith, omega arith)

  its-start : st.start ≡ begin (own.yield d.L)
  its-start = y.stands.start_is ∙ sym (begins x st.at d.pre long-enough.0 long-enough.1) ∙ ap begin (sym yields)

  its-end : st₁.end ≡ end 0 (own.yield d.L)
  its-end =
      let q = long-enough.1 in
      let e = d.lays.ends in
      let a = o.at_is in
      let p : ℕ = st.at + length (shape.yield d.pre) - 1 in
      let f : st₁.at ≡ suc p = omega arith in
      let g : suc p ≡ st.at + length (shape.yield d.pre) = omega arith in
      d.lays.stands.end_is p f ∙ sym (stops x st.at d.pre long-enough.0 long-enough.1 p g) ∙ ap (end 0) (sym yields)

  -- With the words of what lies below arranged, and the header written over them.
  pub shuts-as : {l₂ l' : List ℕ} {z : ℕ} {st₂ : State} {I : Info} {a b : ℕ} → I (raw x st.at (shape.sub k d.pre shape.nil)) (sub K low high d.L own.none) 0 a b → length l₂ ≡ length l
      → (Each Holds d.L → rec_wide * st₁.out ≤ length l → l₂ ≡ sets l (rec_wide * r.out) (concat (arrange (turned K d.L) (word_groups d.L))))
      → Put l₂ st.out K st.start st₁.end low high z l' → z ≡ st₁.out - st.out → Ends st₁ st₂ → Stands x st₂
      → kept st₂ ≡ sooner (kept st) (fault_in x st.at (shape.sub k d.pre shape.nil)) → Went x rhs (as_node k) I st l st₂ l' a b
  unfolding shape.yield
  shuts-as {l₂} {l'} {z} {st₂} inf long text put hz e s f =
      let o₁ = o.at_is in
      let o₂ = o.out_is in
      let e₁ = e.at_is in
      let e₂ = e.out_is in
      let ends = d.lays.ends in
      let few = d.lays.few in
      let sized = d.lays.sized in
      let n : length (shape.yield d.pre ++ []) ≡ length (shape.yield d.pre) = ap length (append-nil (shape.yield d.pre)) in
      let body : List ℕ = concat (arrange (turned K d.L) (word_groups d.L)) in
      record {
        items = d.pre;
        L = sub K low high d.L own.none;
        m = 0;
        reads = subst (λ i. Read x rhs i d.pre st₂.at) o₁ (subst (λ j. Read x rhs r.at d.pre j) (sym e₁) (done d));
        lays = record {
          ends = omega arith;
          sized = omega arith;
          few = omega arith;
          long = put.long ∙ long;
          laid = λ v g.
              let h : rec_wide * st₁.out ≤ length l = omega arith in
              let q : rec_wide * st.out + rec_wide ≤ length l = omega arith in
              header l body st.out K st.start st₁.end low high z (text v.1 h ∙ ap (λ i. sets l (rec_wide * i) body) o₂) put v.0 q
              ∙ (λ j. sets l (rec_wide * st.out) (rec_then K (its-start j) (its-end j) low high ((hz ∙ size) j) (sym (append-nil body) j)));
          worst = f;
          stands = s;
        };
        info = inf;
      }
    where
      size : st₁.out - st.out ≡ 1 + sizes d.L
      size = omega (arith, d.lays.sized, o.out_is)

  -- The same, with the node as it is.
  pub shuts-in : {l₂ l' : List ℕ} {z : ℕ} {st₂ : State} (P : ℕ → Type 0) → P K → length l₂ ≡ length l
      → (Each Holds d.L → rec_wide * st₁.out ≤ length l → l₂ ≡ sets l (rec_wide * r.out) (concat (arrange (turned K d.L) (word_groups d.L))))
      → Put l₂ st.out K st.start st₁.end low high z l' → z ≡ st₁.out - st.out → Ends st₁ st₂ → Stands x st₂
      → kept st₂ ≡ sooner (kept st) (fault_in x st.at (shape.sub k d.pre shape.nil)) → Went x rhs (as_node k) (Node P) st l st₂ l' 0 0
  shuts-in P p = shuts-as (record { kind = K; low = low; high = high; js = d.L; raw_is = its-raw; laid_is = refl; none_left = refl; its_kind = p })

-- A record whose parts stand in the order of the text and which has no refusal of its own.
module _ {x : Text} {st r : State} {K : ℕ} {N : ℕ → Type 0} {rhs : List Sym} {l : List ℕ} {w : List Sort} {ms : List Tok} {m : ℕ} {st₁ : State} {l₁ l' : List ℕ} {low high z : ℕ} where
  pub shuts : (k : ℕ) → Ready x st → Opened x st r (kept st) → (d : Amid x K N rhs [] r l w ms m st₁ l₁) → 1 ≤ m → decided x k w ms ≡ head K low high → N (number_in x ms)
      → ((is : Items) → faults_at x.draft k is ≡ []) → turned K d.L ≡ false → (P : ℕ → Type 0) → P K
      → Put l₁ st.out K st.start st₁.end low high z l' → z ≡ st₁.out - st.out → Went x rhs (as_node k) (Node P) st l st₁ l' 0 0
  unfolding earliest
  shuts k y o d one hd hn hf ht P p put hz =
      shuts-in k y o d one hd hn P p d.lays.long
      (λ v h. d.lays.laid v h ∙ ap (λ b. sets l (rec_wide * r.out) (concat (arrange b (word_groups d.L)))) (sym ht))
      put hz (record { at_is = refl; out_is = refl }) d.lays.stands
      (d.lays.worst ∙ ap₂ sooner o.kept_is (sym (its-fault k y o d one hd hn ∙ ap (λ u. sooner (earliest u) (fault_in x r.at d.pre)) (hf (raw x r.at d.pre)))))

-- The number of a category; an expression that is none has 0.
abbrev pub category_of : shape.Ex → ℕ
category_of shape.eps = 0
category_of (shape.mark c) = 0
category_of (child C) = C
category_of (shape.part P) = 0
category_of (shape.seq a b) = 0
category_of (shape.or a b) = 0
category_of (shape.many a) = 0
category_of (shape.list a c) = 0
category_of (shape.tail a c) = 0

-- The table's rule of a node: at the classes where it chooses the alternative i of A (they are counted from 1), the kind of the node and
-- the symbols.
pub record Rule (A i k : ℕ) (rhs : List Sym) : Type 0 where
  pub category : ex means (nt A) ≡ child (category_of (ex means (nt A)))
  pub from_one : suc (i - 1) ≡ i
  pub kind : get_elem? (kinds_of shapes (category_of (ex means (nt A)))) (i - 1) ≡ some k
  pub rule : alt table A i ≡ some rhs

module _ {A i k : ℕ} {rhs : List Sym} (z : Rule A i k rhs) {x : Text} {st : State} (y : Ready x st) (e : choose table A st.class ≡ i) where
  chosen : choose table A (get_or (classes x) st.at 0) ≡ i
  chosen = ap (choose table A) (sym y.stands.class_is) ∙ e

  expands : expand table A (get_or (classes x) st.at 0) ≡ some rhs
  expands = ap (alt table A) chosen ∙ z.rule

  -- What was read by the rule is the nonterminal.
  pub as-nonterminal : {I : Info} {l l' : List ℕ} {s : Step} → Parsed x rhs (as_node k) I st l l' s → Parsed x (nt A ∷ []) as_items I st l l' s
  as-nonterminal (read q) =
      read (record {
        items = shape.sub k q.items shape.nil;
        L = q.L;
        m = q.m;
        reads = n-sub (category_of (ex means (nt A))) (i - 1) k z.category z.kind (chosen ∙ sym z.from_one) (ap (alt table A) z.from_one ∙ z.rule) q.reads n-end;
        lays = q.lays;
        info = q.info;
      })
  as-nonterminal (stuck h g) = stuck h (λ τ. k_in expands (g τ))

  -- Where the rule is stuck the nonterminal is.
  pub enters : {r : State} {F : Option Fault} → Opened x st r F → (τ : List Sym) (p : ℕ) → Stuck x (rhs ++ τ) r.at p → Stuck x (nt A ∷ τ) st.at p
  enters o τ p h = k_in expands (subst (λ i. Stuck x (rhs ++ τ) i p) o.at_is h)
