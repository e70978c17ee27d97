-- Laws of what stands side by side: shapes, their records, the words of records, refusals.
-- Assumes nothing.
use Rattle.std.proofs.Common.{◌≡◌, ℕ, suc, ◌+◌, ◌*◌, Bool, true, false, cond, ltb, List, [], ◌∷◌, ◌++◌, length, drop, sym, refl, ap, ◌∙◌, append_assoc, arith, length-append, drop-drop, ltb-false, ltb-true}
use mathlib.Core.Option.{Option, none, some}
use Rattle.theory.specs.Ebnf as shape
use Rattle.theory.specs.Walk.{join}
use Rattle.own.specs.Tree as own
use Rattle.own.specs.Tree.{Tok, Items, mark, sub, Node, Each, marks, turned, arrange, exchange, concat}
use Rattle.own.specs.Law.{sorts}
use Rattle.text.specs.Widths.{rec_wide}
use Rattle.own.specs.Words.{rec_then, sizes, word_groups}
use Rattle.grammar.specs.Records.Records.{Role, aMark, asName, as_number, role_of, placed, arranged, decimal, first_tok, head_for, recorded, record_items}
use Rattle.grammar.specs.Records.Faults.{Fault, faults_at, faults, earlier, earliest}
use Rattle.parse.specs.Contract.{Text, raw, fault_in, sooner}

-- Records side by side.
abbrev pub joined : Items → Items → Items
joined own.none s = s
joined (mark t r) s = mark t (joined r s)
joined (sub k l h js r) s = sub k l h js (joined r s)

pub joined-none : (r : Items) → joined r own.none ≡ r
joined-none own.none = refl
joined-none (mark t r) = ap (mark t) (joined-none r)
joined-none (sub k l h js r) = ap (sub k l h js) (joined-none r)

pub sorts-joined : (r s : Items) → sorts (joined r s) ≡ sorts r ++ sorts s
sorts-joined own.none s = refl
sorts-joined (mark t r) s = let h = sorts-joined r s in cc
sorts-joined (sub k l h js r) s = let e = sorts-joined r s in cc

pub marks-joined : (r s : Items) → marks (joined r s) ≡ marks r ++ marks s
marks-joined own.none s = refl
marks-joined (mark t r) s = let h = marks-joined r s in cc
marks-joined (sub k l h js r) s = marks-joined r s

placed-joined : (o : Role) (n : ℕ) (t : Tok) (r s : Items) → placed o n t (joined r s) ≡ joined (placed o n t r) s
unfolding placed
placed-joined aMark n t r s = refl
placed-joined asName n t r s = refl
placed-joined as_number n t r s = refl

pub arranged-joined : (kind n : ℕ) (r s : Items) → arranged kind n (joined r s) ≡ joined (arranged kind n r) (arranged kind n s)
unfolding arranged
arranged-joined kind n own.none s = refl
arranged-joined kind n (mark t r) s = ap (placed (role_of kind t.class) n t) (arranged-joined kind n r s) ∙ placed-joined (role_of kind t.class) n t (arranged kind n r) (arranged kind n s)
arranged-joined kind n (sub k l h js r) s = ap (sub k l h js) (arranged-joined kind n r s)

pub sizes-joined : (r s : Items) → sizes (joined r s) ≡ sizes r + sizes s
sizes-joined own.none s = omega arith
sizes-joined (mark t r) s = sizes-joined r s
sizes-joined (sub k l h js r) s = let e = sizes-joined r s in omega arith

pub groups-joined : (r s : Items) → word_groups (joined r s) ≡ word_groups r ++ word_groups s
groups-joined own.none s = refl
groups-joined (mark t r) s = groups-joined r s
groups-joined (sub k l h js r) s = let e = groups-joined r s in cc

pub concat-append : (a b : List (List ℕ)) → concat (a ++ b) ≡ concat a ++ concat b
concat-append [] b = refl
concat-append (x ∷ a) b = ap (λ l. x ++ l) (concat-append a b) ∙ sym (append_assoc x (concat a) (concat b))

-- the words of records side by side
pub words-joined : (r s : Items) → concat (word_groups (joined r s)) ≡ concat (word_groups r) ++ concat (word_groups s)
words-joined r s = ap concat (groups-joined r s) ∙ concat-append (word_groups r) (word_groups s)

-- what holds of every record beneath
pub each-joined : (P : Node → Type 0) (r s : Items) → Each P (joined r s) → Each P r × Each P s
each-joined P own.none s h = (tt, h)
each-joined P (mark t r) s h = each-joined P r s h
each-joined P (sub k l i js r) s h = let b = each-joined P r s h.2 in ((h.0, h.1, b.0), b.1)

length-arranged : (b : Bool) (gs : List (List ℕ)) → length (concat (arrange b gs)) ≡ length (concat gs)
length-arranged false gs = refl
length-arranged true [] = refl
length-arranged true (a ∷ []) = refl
length-arranged true (a ∷ b ∷ []) = refl
length-arranged true (e ∷ a ∷ b ∷ []) =
    omega (arith, length-append e (b ++ (a ++ [])), length-append b (a ++ []), length-append a [], length-append e (a ++ (b ++ [])), length-append a (b ++ []), length-append b [])
length-arranged true (e ∷ a ∷ b ∷ c ∷ l) = refl

-- So many words a record.
pub length-words : (L : Items) → length (concat (word_groups L)) ≡ rec_wide * sizes L
length-words own.none = refl
length-words (mark t r) = length-words r
length-words (sub k l h js r) =
    let g = arrange (turned k js) (word_groups js) in
    omega (arith, length-append (rec_then k (own.begin (own.yield js)) (own.end 0 (own.yield js)) l h (1 + sizes js) (concat g)) (concat (word_groups r)), length-arranged (turned k js) (word_groups js), length-words js, length-words r)

pub yield-join : (r u : shape.Items) → shape.yield (join r u) ≡ shape.yield r ++ shape.yield u
unfolding shape.yield
yield-join shape.nil u = refl
yield-join (shape.word c r) u = ap (λ l. c ∷ l) (yield-join r u)
yield-join (shape.sub k js r) u = ap (λ l. shape.yield js ++ l) (yield-join r u) ∙ sym (append_assoc (shape.yield js) (shape.yield r) (shape.yield u))

pub length-join : (r u : shape.Items) → length (shape.yield (join r u)) ≡ length (shape.yield r) + length (shape.yield u)
length-join r u = ap length (yield-join r u) ∙ length-append (shape.yield r) (shape.yield u)

drops : (a b : ℕ) (ts : List Tok) → drop b (drop a ts) ≡ drop (a + b) ts
drops a b ts = drop-drop b a ts

drops-one : (b : ℕ) (ts : List Tok) → drop b (drop 1 ts) ≡ drop (suc b) ts
drops-one b ts = let e : 1 + b ≡ suc b = omega arith in drops 1 b ts ∙ ap (λ i. drop i ts) e

items-join : (draft : List ℕ) (r u : shape.Items) (ts : List Tok) → record_items draft (join r u) ts ≡ joined (record_items draft r ts) (record_items draft u (drop (length (shape.yield r)) ts))
unfolding record_items shape.yield recorded
items-join draft shape.nil u ts = refl
items-join draft (shape.word c r) u ts =
    ap (mark (first_tok ts)) (items-join draft r u (drop 1 ts) ∙ ap (λ l. joined (record_items draft r (drop 1 ts)) (record_items draft u l)) (drops-one (length (shape.yield r)) ts))
items-join draft (shape.sub k js r) u ts =
    let n = length (shape.yield js) in
    let is = record_items draft js ts in
    let e : drop (length (shape.yield r)) (drop n ts) ≡ drop (length (shape.yield js ++ shape.yield r)) ts = drops n (length (shape.yield r)) ts ∙ ap (λ i. drop i ts) (sym (length-append (shape.yield js) (shape.yield r))) in
    ap (recorded (decimal draft is) (head_for draft k is) is)
    (items-join draft r u (drop n ts) ∙ ap (λ l. joined (record_items draft r (drop n ts)) (record_items draft u l)) e)

pub raw-join : (x : Text) (at : ℕ) (r u : shape.Items) → raw x at (join r u) ≡ joined (raw x at r) (raw x (at + length (shape.yield r)) u)
unfolding raw
raw-join x at r u = items-join x.draft r u (drop at x.ts) ∙ ap (λ l. joined (record_items x.draft r (drop at x.ts)) (record_items x.draft u l)) (drops at (length (shape.yield r)) x.ts)

faults-join : (draft : List ℕ) (r u : shape.Items) (ts : List Tok) → faults draft (join r u) ts ≡ faults draft r ts ++ faults draft u (drop (length (shape.yield r)) ts)
unfolding faults shape.yield
faults-join draft shape.nil u ts = refl
faults-join draft (shape.word c r) u ts = faults-join draft r u (drop 1 ts) ∙ ap (λ l. faults draft r (drop 1 ts) ++ faults draft u l) (drops-one (length (shape.yield r)) ts)
faults-join draft (shape.sub k js r) u ts =
    let n = length (shape.yield js) in
    let f = faults_at draft k (record_items draft js ts) in
    let g = faults draft js ts in
    let h = faults draft r (drop n ts) in
    let e : drop (length (shape.yield r)) (drop n ts) ≡ drop (length (shape.yield js ++ shape.yield r)) ts = drops n (length (shape.yield r)) ts ∙ ap (λ i. drop i ts) (sym (length-append (shape.yield js) (shape.yield r))) in
    ap (λ l. f ++ (g ++ l)) (faults-join draft r u (drop n ts) ∙ ap (λ l. h ++ faults draft u l) e)
    ∙ ap (λ l. f ++ l) (sym (append_assoc g h (faults draft u (drop (length (shape.yield js ++ shape.yield r)) ts))))
    ∙ sym (append_assoc f (g ++ h) (faults draft u (drop (length (shape.yield js ++ shape.yield r)) ts)))

pub sooner-none : (f : Option Fault) → sooner f none ≡ f
unfolding earlier
sooner-none none = refl
sooner-none (some f) = refl

at_one : (f g : Fault) → sooner (some f) (some g) ≡ cond (ltb g.place f.place) (some g) (some f)
unfolding earlier
at_one f g = refl

three : (f g h : Fault) (a b c : Bool) → ltb g.place f.place ≡ a → ltb h.place g.place ≡ b → ltb h.place f.place ≡ c
    → sooner (cond a (some g) (some f)) (some h) ≡ sooner (some f) (cond b (some h) (some g))
unfolding earlier
three f g h true true true p q r = rw (q, r) refl
three f g h true true false p q r = absurd (omega (arith, ltb-true g.place f.place p, ltb-true h.place g.place q, ltb-false h.place f.place r))
three f g h true false c p q r = rw (p, q) refl
three f g h false true c p q r = refl
three f g h false false true p q r = absurd (omega (arith, ltb-false g.place f.place p, ltb-false h.place g.place q, ltb-true h.place f.place r))
three f g h false false false p q r = rw (p, r) refl

pub sooner-assoc : (f g h : Option Fault) → sooner (sooner f g) h ≡ sooner f (sooner g h)
sooner-assoc none g h = refl
sooner-assoc (some f) none h = ap (λ x. sooner x h) (sooner-none (some f))
sooner-assoc (some f) (some g) none = sooner-none (sooner (some f) (some g)) ∙ ap (sooner (some f)) (sym (sooner-none (some g)))
sooner-assoc (some f) (some g) (some h) =
    ap (λ x. sooner x (some h)) (at_one f g) ∙ three f g h (ltb g.place f.place) (ltb h.place g.place) (ltb h.place f.place) refl refl refl ∙ ap (sooner (some f)) (sym (at_one g h))

pub earliest-append : (k l : List Fault) → earliest (k ++ l) ≡ sooner (earliest k) (earliest l)
unfolding earliest
earliest-append [] l = refl
earliest-append (f ∷ k) l = ap (sooner (some f)) (earliest-append k l) ∙ sym (sooner-assoc (some f) (earliest k) (earliest l))

pub fault-join : (x : Text) (at : ℕ) (r u : shape.Items) → fault_in x at (join r u) ≡ sooner (fault_in x at r) (fault_in x (at + length (shape.yield r)) u)
unfolding fault_in
fault-join x at r u =
    let b = faults x.draft u (drop (at + length (shape.yield r)) x.ts) in
    ap earliest (faults-join x.draft r u (drop at x.ts) ∙ ap (λ l. faults x.draft r (drop at x.ts) ++ faults x.draft u l) (drops at (length (shape.yield r)) x.ts))
    ∙ earliest-append (faults x.draft r (drop at x.ts)) b
