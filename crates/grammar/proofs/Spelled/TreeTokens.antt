-- The record trees of a shape tree have exactly the draft's tokens, in order, and those of one function are one, a function's.
-- Assumes nothing.
use Rattle.std.specs.Prelude.{List, [], ◌∷◌, ◌++◌, ◌≡◌, ℕ, suc, ◌≤◌, length, take, drop}
use Rattle.std.proofs.Math.Path.{refl}
use Rattle.std.proofs.Common.{sym, ap, ap₂, subst, ◌∙◌, arith, length-append, length-drop, take-add}
use Rattle.std.proofs.Math.Seq.{take-length}
use Rattle.theory.specs.Ebnf as shape
use Rattle.theory.specs.Parse.{found}
use Rattle.own.specs.Tree.{Tok, classes_of, Items, none, mark, sub, Node, roots, yield, tokens}
use Rattle.own.specs.Kinds as kind
use Rattle.grammar.specs.Shapes.ShapeKind.{FunctionShape}
use Rattle.grammar.specs.Entry.{Entry, single_function}
use Rattle.grammar.specs.Shapes.WellShaped.{Shape, shape_of}
use Rattle.grammar.proofs.Shapes.WellShapedLaws.{Nodes, no_more, a_node, shape-function, shape-nodes, shape-exactly}
use Rattle.grammar.specs.Records.Records.{Role, aMark, asName, as_number, role_of, placed, arranged, first_tok, decimal, function_head, head_of, form_of, Head, head_for, recorded, record_items, record_trees}

pub length-classes : (ts : List Tok) → length (classes_of ts) ≡ length ts
unfolding classes_of
length-classes [] = refl
length-classes (t ∷ ts) = ap suc (length-classes ts)

yield-placed : (o : Role) (n : ℕ) (t : Tok) (r : Items) → yield (placed o n t r) ≡ t ∷ yield r
unfolding placed
yield-placed aMark n t r = refl
yield-placed asName n t r = refl
yield-placed as_number n t r = refl

-- What becomes a record of its own keeps its place in the text.
pub yield-arranged : (K n : ℕ) (is : Items) → yield (arranged K n is) ≡ yield is
unfolding arranged
yield-arranged K n none = refl
yield-arranged K n (mark t r) = yield-placed (role_of K t.class) n t (arranged K n r) ∙ ap (λ l. t ∷ l) (yield-arranged K n r)
yield-arranged K n (sub k l h js r) = ap (λ m. yield js ++ m) (yield-arranged K n r)

yield-recorded : (n : ℕ) (h : Head) (is r : Items) → yield (recorded n h is r) ≡ yield is ++ yield r
unfolding recorded
yield-recorded n h is r = ap (λ l. l ++ yield r) (yield-arranged h.kind n is)

take-first : (n : ℕ) (ts : List Tok) → suc n ≤ length ts → first_tok ts ∷ take n (drop 1 ts) ≡ take (suc n) ts
unfolding first_tok
take-first n [] h = absurd (omega arith)
take-first n (t ∷ ts) h = refl

-- Shapes side by side take the tokens that the list begins with, one for one.
pub yield-records : (draft : List ℕ) (r : shape.Items) (ts : List Tok) → length (shape.yield r) ≤ length ts
    → yield (record_items draft r ts) ≡ take (length (shape.yield r)) ts
unfolding record_items shape.yield
yield-records draft shape.nil ts h = refl
yield-records draft (shape.word c r) ts h =
    ap (λ l. first_tok ts ∷ l) (yield-records draft r (drop 1 ts) (omega (arith, length-drop 1 ts))) ∙ take-first (length (shape.yield r)) ts h
yield-records draft (shape.sub k js r) ts h =
    let n = length (shape.yield js) in
    let m = length (shape.yield r) in
    let e = length-append (shape.yield js) (shape.yield r) in
    let a = yield-records draft js ts (omega arith) in
    let b = yield-records draft r (drop n ts) (omega (arith, length-drop n ts)) in
    let is = record_items draft js ts in
    yield-recorded (decimal draft is) (head_for draft k is) is (record_items draft r (drop n ts)) ∙ ap₂ (λ x y. x ++ y) a b ∙ sym (take-add n m ts)
    ∙ ap (λ i. take i ts) (sym e)

-- the records of nodes alone are trees side by side
nodes-trees : (draft : List ℕ) (ts : List Tok) {r : shape.Items} → Nodes r → roots (record_trees draft ts r) ≡ record_items draft r ts
unfolding record_trees record_items recorded
nodes-trees draft ts no_more = refl
nodes-trees draft ts (a_node k js {r} n) =
    let is = record_items draft js ts in
    let h = head_for draft k is in
    ap (λ x. sub h.kind h.low h.high (arranged h.kind (decimal draft is) is) x) (nodes-trees draft (drop (length (shape.yield js)) ts) n)

-- The records of a shape tree are trees side by side.
pub whole-trees : (en : Entry) (draft : List ℕ) (ts : List Tok) {r : shape.Items} → Shape en r → roots (record_trees draft ts r) ≡ record_items draft r ts
whole-trees en draft ts s = nodes-trees draft ts (shape-nodes en s)

module _ (en : Entry) (draft : List ℕ) (ts : List Tok) (r : shape.Items) (found_it : shape_of en (classes_of ts) ≡ found r) where
  -- it is a shape tree of these tokens
  pub is_shape : Shape en r
  is_shape = ((shape-exactly en (classes_of ts) r).0 found_it).0

  pub its_yield : shape.yield r ≡ classes_of ts
  its_yield = ((shape-exactly en (classes_of ts) r).0 found_it).1

  -- The tokens of the record trees are exactly the draft's, in order: none dropped, none read twice.
  pub keeps-tokens : tokens (record_trees draft ts r) ≡ ts
  keeps-tokens =
      let e : length (shape.yield r) ≡ length ts = ap length its_yield ∙ length-classes ts in
      ap yield (whole-trees en draft ts is_shape) ∙ yield-records draft r ts (omega arith) ∙ ap (λ n. take n ts) e ∙ take-length ts

module _ (draft : List ℕ) (ts : List Tok) where
  -- a record tree by itself, of a function
  abbrev Top : List Node → Type 0
  Top ns = (n : Node) × (ns ≡ n ∷ []) × (n.kind ≡ kind.Function)

  of_node : (js : shape.Items) → Top (record_trees draft ts (shape.sub FunctionShape js shape.nil))
  unfolding record_trees record_items recorded head_for head_of form_of function_head
  of_node js = (_, refl, refl)

  -- "1 function": the trees of one function are one, and the record above all is a function.
  pub top-function : (r : shape.Items) → shape_of single_function (classes_of ts) ≡ found r → Top (record_trees draft ts r)
  top-function r e =
      let f = shape-function (is_shape single_function draft ts r e) in subst (λ q. Top (record_trees draft ts q)) (sym f.1) (of_node f.0)
