-- What is of a form of the kinds table is, its marks taken away, of the bare form: so it is with the children of a node, as they are handed over.
-- Assumes nothing.
use Rattle.std.specs.Prelude.{Bool, true, false, cond, List, [], ◌∷◌, ◌++◌, map, ◌≡◌, refl, ℕ, ◌+◌, T, eqb}
use Rattle.std.proofs.Common.{sym, ap, ◌∙◌, subst, eqb→eq}
use Rattle.text.proofs.Table.{first-of}
use Rattle.text.specs.Lists.{has, Some, here, there}
use Rattle.text.proofs.ListLaws.{only_one, some-map, some-keep, keep_some}
use Rattle.own.specs.Tree.{Items, none, mark, sub, Node, node, roots, kids, reversed, turned, exchange, arrange, below, record_of}
use Rattle.own.specs.Law.{Sort, word, child, sorts, Keeps}
use Rattle.own.proofs.Lists.{arrange-map}
use Rattle.own.specs.Kinds as kind
use Rattle.own.specs.Arms as arm
use Rattle.lexer.specs.Classes as t
use Rattle.kinds.specs.Families as family
use Rattle.kinds.specs.Shape as shape
use Rattle.kinds.specs.Shape.{Part, fits, Shape, ◌▸◌, many, Spells, empty, one_mark, one_part, seq, left, right, stop, more}
use Rattle.kinds.specs.Fields as fields
use Rattle.kinds.specs.Fields.{Fields, counted, holds}
use Rattle.kinds.specs.Rules.{Form, form, forms, all_forms, the, expression, braces, arms, partners, program}
use Rattle.kinds.specs.Decide.{forms_for}
use Rattle.kinds.specs.Spelled.{forms_of, Written, Spelled, Program}
use Rattle.load.specs.Bare.{bare, bare_part, bare_shape}
use Rattle.load.specs.Function.{Fits}

-- Pieces without the marks and without the classes of names.
unfoldable strip : List Sort → List Sort
strip [] = []
strip (word c ∷ w) = strip w
strip (child k l h c ∷ w) = child k l h 0 ∷ strip w

strip-append : (v w : List Sort) → strip (v ++ w) ≡ strip v ++ strip w
unfolding strip
strip-append [] w = refl
strip-append (word c ∷ v) w = strip-append v w
strip-append (child k l h c ∷ v) w = ap (λ (m : List Sort). child k l h 0 ∷ m) (strip-append v w)

-- A rule sees the children of the node, in the order of the text.
strip-sorts : (is : Items) → strip (sorts is) ≡ map bare (map record_of (kids is))
unfolding strip
strip-sorts none = refl
strip-sorts (mark u r) = strip-sorts r
strip-sorts (sub k l h js r) = ap (λ (m : List Sort). child k l h 0 ∷ m) (strip-sorts r)

bare-fits : (p : Part) (k l h c : ℕ) → T (fits p k l h c) → T (fits (bare_part p) k l h 0)
unfolding fits bare_part has
bare-fits (shape.of ks) k l h c u = u
bare-fits (shape.name cs) k l h c u = rw (eqb→eq k kind.Name (first-of (eqb k kind.Name) (has cs c) u)) tt
bare-fits (shape.arm n) k l h c u = u
bare-fits shape.bound k l h c u = u
bare-fits shape.size k l h c u = u

bare-spells : {a : Shape} {w : List Sort} → Spells a w → Spells (bare_shape a) (strip w)
unfolding bare_shape strip
bare-spells empty = empty
bare-spells (one_mark c h) = empty
bare-spells (one_part {p = p} k l h c i) = one_part k l h 0 (bare-fits p k l h c i)
bare-spells (seq {a = a} {b = b} {v = v} {w = w} p q) =
    subst (λ (l : List Sort). Spells (bare_shape a ▸ bare_shape b) l) (sym (strip-append v w)) (seq (bare-spells p) (bare-spells q))
bare-spells (left p) = left (bare-spells p)
bare-spells (right p) = right (bare-spells p)
bare-spells stop = stop
bare-spells (more {a = a} {v = v} {w = w} p q) =
    subst (λ (l : List Sort). Spells (many (bare_shape a)) l) (sym (strip-append v w)) (more (bare-spells p) (bare-spells q))

-- Low and high see no more of the pieces than how many there are of some kinds.
bare-counted : (ks : List ℕ) (w : List Sort) → counted ks (strip w) ≡ counted ks w
unfolding counted strip
bare-counted ks [] = refl
bare-counted ks (word c ∷ w) = bare-counted ks w
bare-counted ks (child k l h c ∷ w) = ap (λ (n : ℕ). cond (has ks k) 1 0 + n) (bare-counted ks w)

bare-holds : (f : Fields) (l h : ℕ) (w : List Sort) → holds f l h (strip w) ≡ holds f l h w
unfolding holds
bare-holds fields.plain l h w = refl
bare-holds (fields.low n) l h w = refl
bare-holds (fields.among ns) l h w = refl
bare-holds fields.wide l h w = refl
bare-holds fields.bounded l h w = refl
bare-holds (fields.parameters n) l h w = rw (bare-counted (kind.Parameter ∷ []) w) refl
bare-holds fields.names l h w = rw (bare-counted (kind.Name ∷ []) w) refl
bare-holds fields.pairs l h w = rw (bare-counted (kind.Name ∷ []) w, bare-counted family.patterns w) refl

-- What a node is made of, as a listing shows it in the order of the text.
bare-written : (n : Node) (f : Form) → Written n.low n.high (sorts n.items) f → Fits n.low n.high (map record_of (kids n.items)) f
bare-written n f w =
    let e = strip-sorts n.items in
    record {
      fields = subst (λ (l : List Sort). T (holds f.fields n.low n.high l)) e
          (subst T (sym (bare-holds f.fields n.low n.high (sorts n.items))) w.fields);
      shape = subst (Spells (bare_shape f.shape)) e (bare-spells w.shape);
    }

-- The arms of a match in the other order.
record Turns (a : Shape) (v : List Sort) : Type 0 where
  others : List Sort
  they_are : (s : Sort) → exchange (s ∷ (v ++ [])) ≡ s ∷ (others ++ [])
  spell : Spells a others

arms-turn : (a b : ℕ) {v : List Sort} → Spells (bare_shape (arms a b)) v → Turns (bare_shape (arms a b)) v
unfolding bare_shape
arms-turn a b (left (seq (one_part k l h c p) (one_part k' l' h' c' q))) =
    record { others = child k' l' h' c' ∷ child k l h c ∷ []; they_are = λ s. refl; spell = right (seq (one_part k' l' h' c' q) (one_part k l h c p)) }
arms-turn a b (right (seq (one_part k l h c p) (one_part k' l' h' c' q))) =
    record { others = child k' l' h' c' ∷ child k l h c ∷ []; they_are = λ s. refl; spell = left (seq (one_part k' l' h' c' q) (one_part k l h c p)) }

turns-map : {a b : Shape} {v : List Sort} → ((u : List Sort) → Spells a u → Spells b u) → Turns a v → Turns b v
turns-map f t = record { others = t.others; they_are = t.they_are; spell = f t.others t.spell }

partners-turn : {v : List Sort} → Spells (bare_shape partners) v → Turns (bare_shape partners) v
unfolding bare_shape
partners-turn {v = v} (right (right (right x12))) = elim x12 [ ]
partners-turn (left p) = turns-map (λ u s. left s) (arms-turn arm.Left arm.Right p)
partners-turn (right (left p)) = turns-map (λ u s. right (left s)) (arms-turn arm.None arm.Some p)
partners-turn (right (right (left p))) = turns-map (λ u s. right (right (left s))) (arms-turn arm.False arm.True p)

match-turned : {w : List Sort} → Spells (bare_shape (the t.Match ▸ expression ▸ braces partners)) w
    → Spells (bare_shape (the t.Match ▸ expression ▸ braces partners)) (exchange w)
unfolding bare_shape
match-turned (seq empty (seq (one_part k l h c q) (seq empty (seq x empty)))) =
    let y = partners-turn x in
    subst (Spells (bare_shape (the t.Match ▸ expression ▸ braces partners))) (sym (y.they_are (child k l h c)))
    (seq empty (seq (one_part k l h c q) (seq empty (seq y.spell empty))))

-- A match whose arms are exchanged when it is handed over.
formed-turned : (n : Node) → n.kind ≡ kind.Match → Keeps Spelled n → Some (Fits n.low n.high (map record_of (exchange (kids n.items)))) (forms_of n.kind)
unfolding forms_of forms holds
formed-turned n e s =
    let cs = kids n.items in
    let x : map bare (map record_of (exchange cs)) ≡ exchange (map bare (map record_of cs)) =
    ap (map bare) (arrange-map record_of true cs) ∙ arrange-map bare true (map record_of cs) in
    let f = only_one (some-map (bare-written n) (subst (λ (k : ℕ). Spelled k n.low n.high (sorts n.items)) e s)) in
    subst (λ (k : ℕ). Some (Fits n.low n.high (map record_of (exchange cs))) (forms_of k)) (sym e)
    (here {l = []} (record { fields = f.fields; shape = subst (Spells _) (sym x) (match-turned f.shape) }))

-- The forms of a kind that the rule has are among all of its forms.
of-all : {P : Form → Type 0} (k : ℕ) → Some P (forms_of k) → Some P (forms_for k)
unfolding forms_of forms_for all_forms
of-all k s = keep_some (λ f. eqb f.kind k) (there (some-keep (λ f. eqb f.kind k) forms s))

-- A node that keeps the rule of its kind is, as it is handed over, of one of the forms of its kind.
pub formed : (n : Node) → Keeps Spelled n → Some (Fits n.low n.high (map record_of (below n))) (forms_for n.kind)
unfolding turned
formed n s = of-all n.kind (go (turned n.kind n.items) refl)
  where
    go : (b : Bool) → turned n.kind n.items ≡ b → Some (Fits n.low n.high (map record_of (arrange b (kids n.items)))) (forms_of n.kind)
    go true e = formed-turned n (eqb→eq n.kind kind.Match (first-of (eqb n.kind kind.Match) (reversed (kids n.items)) (subst T (sym e) tt))) s
    go false e = some-map (bare-written n) s

-- Items side by side are of the form of a program.
pub formed-program : (ns : List Node) → Program (sorts (roots ns)) → Some (Fits 0 0 (map record_of (kids (roots ns)))) (forms_for kind.Program)
unfolding forms_for all_forms forms holds
formed-program ns p =
    here {l = []} (bare-written (node kind.Program 0 0 (roots ns)) (form kind.Program fields.plain program) (record { fields = tt; shape = p }))
