-- Law 3 with the kinds table: a tree whose tokens are in order and whose nodes all spell the rule of their kind is owned as demand 3 says.
-- Each form has a mark of its own, and the arms of a match are partners: both follow from the table.
-- Assumes nothing.
use Rattle.std.specs.Prelude.{◌||◌, List, [], ◌∷◌, ◌++◌, map, ◌⊎◌, ◌≡◌, refl, ℕ, suc, ◌+◌, ◌<◌, ◌≤◌, T, eqb, length, get_or, drop}
use Rattle.std.proofs.Common.{inl, inr, sym, ap, ◌∙◌, subst, arith, eqb→eq}
use Rattle.text.proofs.Table.{first-of, second-of, or_left, or_right, or_cases}
use Rattle.text.specs.Lists.{some, all, count, span}
use Rattle.text.proofs.ListLaws.{all_keep, all-some, from_some, only_one}
use Rattle.own.specs.Tree.{Tok, Rec, Items, none, mark, sub, Node, node, roots, marks, kids, end, Owning, Paired, partner, canonical, paired, tokens, records, Fine}
use Rattle.own.specs.Flat.{blank}
use Rattle.own.specs.Law.{Sort, word, child, made, Ownership, sorts, Keeps}
use Rattle.own.specs.File.{filed, FileOwnership}
use Rattle.own.proofs.FileLaws.{file-ownership}
use Rattle.own.proofs.Rules.{each_map, ownership}
use Rattle.own.specs.Words.{toks, recs}
use Rattle.own.specs.Kinds as kind
use Rattle.own.specs.Arms as arm
use Rattle.own.proofs.WordLaws.{handed}
use Rattle.kinds.specs.Shape.{arm, fits, Shape, ◌▸◌, Spells, empty, one_mark, one_part, seq, left, right, stop, more}
use Rattle.lexer.specs.Classes as t
use Rattle.kinds.specs.Rules.{forms, all_forms, the, expression, braces, arms, partners}
use Rattle.kinds.specs.Spelled.{forms_of, Spelled, Program}
use Rattle.kinds.specs.SpelledTest.{spelled}
use Rattle.kinds.proofs.SpelledTest.{spelled-complete}
use Rattle.kinds.specs.Class.{class_of}
use Rattle.kinds.specs.Ownership.{marked, words, Right}

-- Each form has a mark of its own, by one computation over the table.
pub each-marked : T (all (λ f. marked f.shape) forms)
unfolding all marked forms
each-marked = tt

-- Each kind has a form, by one computation.
pub each-kind : T (all (λ k. some (λ f. eqb f.kind k) all_forms) (span kind.Function kind.Last))
unfolding all some all_forms forms count span
each-kind = tt

words_append : (v w : List Sort) → words (v ++ w) ≡ words v + words w
unfolding words
words_append [] w = omega arith
words_append (word c ∷ v) w = let h = words_append v w in omega arith
words_append (child k l h c ∷ v) w = words_append v w

words-marks : (is : Items) → words (sorts is) ≡ length (marks is)
unfolding words
words-marks none = refl
words-marks (mark t r) = ap suc (words-marks r)
words-marks (sub k l h js r) = words-marks r

has-mark : {a : Shape} {w : List Sort} → Spells a w → T (marked a) → 0 < words w
unfolding marked words
has-mark empty t = absurd t
has-mark (one_mark c h) t = omega arith
has-mark (one_part k l h c i) t = absurd t
has-mark (seq {a = a} {b = b} {v = v} {w = w} p q) t = go (or_cases (marked a) (marked b) t) (λ u. has-mark p u) (λ u. has-mark q u)
  where
    go : T (marked a) ⊎ T (marked b) → (T (marked a) → 0 < words v) → (T (marked b) → 0 < words w) → 0 < words (v ++ w)
    go (inl u) f g = let h = f u in omega (arith, words_append v w)
    go (inr u) f g = let h = g u in omega (arith, words_append v w)
has-mark (left {a = a} {b = b} p) t = has-mark p (first-of (marked a) (marked b) t)
has-mark (right {a = a} {b = b} p) t = has-mark p (second-of (marked a) (marked b) t)
has-mark stop t = absurd t
has-mark (more p q) t = absurd t

-- A node that spells the rule of its kind has a token of its own.
pub owning : (n : Node) → Keeps Spelled n → Owning n
unfolding forms_of
owning n s =
    let its : T (all (λ f. marked f.shape) (forms_of n.kind)) = all_keep (λ f. marked f.shape) (λ f. eqb f.kind n.kind) forms each-marked in
    subst (λ (m : ℕ). 0 < m) (words-marks n.items) (from_some (λ f x. has-mark x.1.shape x.0) (all-some (λ f. marked f.shape) its s))

-- two arms that a match spells, as it sees them
record Arms (v : List Sort) : Type 0 where
  a : Node
  b : Node
  a_class : ℕ
  b_class : ℕ
  are : v ≡ child a.kind a.low a.high a_class ∷ child b.kind b.low b.high b_class ∷ []
  partners : T (canonical a b || canonical b a)

is-arm : (k l n h c : ℕ) → T (fits (arm n) k l h c) → (k ≡ kind.BuiltinArm) × (l ≡ n)
unfolding fits
is-arm k l n h c t = (eqb→eq k kind.BuiltinArm (first-of (eqb k kind.BuiltinArm) (eqb l n) t), eqb→eq l n (second-of (eqb k kind.BuiltinArm) (eqb l n) t))

arms-are : (x y : ℕ) → T (partner x y) → {v : List Sort} → Spells (arms x y) v → Arms v
unfolding canonical
arms-are x y t (left (seq (one_part k l h c p) (one_part k' l' h' c' p'))) =
    let e = is-arm k l x h c p in
    let f = is-arm k' l' y h' c' p' in
    record {
      a = node k l h none;
      b = node k' l' h' none;
      a_class = c;
      b_class = c';
      are = refl;
      partners = rw (e.0, e.1, f.0, f.1)
          (or_left (partner x y) (partner y x) t);
    }
arms-are x y t (right (seq (one_part k l h c p) (one_part k' l' h' c' p'))) =
    let e = is-arm k l y h c p in
    let f = is-arm k' l' x h' c' p' in
    record {
      a = node k l h none;
      b = node k' l' h' none;
      a_class = c;
      b_class = c';
      are = refl;
      partners = rw (e.0, e.1, f.0, f.1)
          (or_right (partner y x) (partner x y) t);
    }

any-arms : {v : List Sort} → Spells partners v → Arms v
unfolding partner
any-arms (left p) = arms-are arm.Left arm.Right tt p
any-arms (right (left p)) = arms-are arm.None arm.Some tt p
any-arms (right (right (left p))) = arms-are arm.False arm.True tt p
any-arms (right (right (right x))) = elim x [ ]

-- the children that a rule sees, as nodes with nothing beneath
kids_of : List Sort → List Node
kids_of [] = []
kids_of (word c ∷ w) = kids_of w
kids_of (child k l h c ∷ w) = node k l h none ∷ kids_of w

strip : Node → Node
strip n = node n.kind n.low n.high none

kids-seen : (is : Items) → kids_of (sorts is) ≡ map strip (kids is)
unfolding kids_of strip
kids-seen none = refl
kids-seen (mark t r) = kids-seen r
kids-seen (sub k l h js r) = ap (λ m. node k l h none ∷ m) (kids-seen r)

paired-seen : (ks : List Node) → paired (map strip ks) ≡ paired ks
unfolding strip canonical
paired-seen [] = refl
paired-seen (e ∷ []) = refl
paired-seen (e ∷ a ∷ []) = refl
paired-seen (e ∷ a ∷ b ∷ []) = refl
paired-seen (e ∷ a ∷ b ∷ c ∷ l) = refl

match-paired : {w : List Sort} → Spells (the t.Match ▸ expression ▸ braces partners) w → T (paired (kids_of w))
unfolding kids_of canonical
match-paired (seq (one_mark c p) (seq (one_part k l h c' q) (seq (one_mark d r) (seq {v = v} x (one_mark e z))))) =
    let a = any-arms x in
    subst (λ (u : List Sort). T (paired (node k l h none ∷ kids_of (u ++ (word e ∷ []))))) (sym a.are) a.partners

-- The two arms of a match that spells the rule of its kind are partners.
pub pairs : (n : Node) → Keeps Spelled n → Paired n
unfolding forms_of forms
pairs n s e =
    let its : Spelled kind.Match n.low n.high (sorts n.items) = subst (λ (k : ℕ). Spelled k n.low n.high (sorts n.items)) e s in
    subst (λ b. T b) (ap paired (kids-seen n.items) ∙ paired-seen (kids n.items)) (match-paired (only_one its).shape)

-- Right trees are fine.
pub fine : (ns : List Node) → Right ns → Fine ns
fine ns r =
    record {
      ordered = r.ordered;
      marked = each_map (Keeps Spelled) Owning owning (roots ns) r.spelled;
      paired = each_map (Keeps Spelled) Paired pairs (roots ns) r.spelled;
    }

-- Law 3, of the tokens and the records of such trees.
pub law-3 : (ns : List Node) → Right ns → Ownership Spelled (tokens ns) (records ns)
law-3 ns r = ownership Spelled ns (fine ns r) r.spelled

-- Law 3, of what two buffers begin with: the classes of the tokens come from the draft.
pub law-3-handed : (draft : List ℕ) (ns : List Node) (nt : ℕ) (tw : List ℕ) (nr : ℕ) (rw : List ℕ) → Right ns
    → toks (class_of draft) nt tw ≡ tokens ns → recs nr rw ≡ records ns → Ownership Spelled (toks (class_of draft) nt tw) (recs nr rw)
law-3-handed draft ns nt tw nr rw r e f =
    handed Spelled {c = class_of draft} {ns = ns} {nt = nt} {nr = nr} {tw = tw} {rw = rw} r.spelled
    (record { fine = fine ns r; tokens_are = e; records_are = f })

-- Law 3 of a file: of right trees that are items, none of whose tokens ends past it.
pub law-3-file : (ns : List Node) (len : ℕ) → Right ns → end 0 (tokens ns) ≤ len → Program (sorts (roots ns)) → FileOwnership Spelled Program len (tokens ns) (filed len (records ns))
law-3-file ns len r h p = file-ownership Spelled Program ns (fine ns r) r.spelled len h p

no_program : (low high : ℕ) (w : List Sort) → Spelled kind.Program low high w → ⊥
unfolding spelled forms_of forms some
no_program low high w s = spelled-complete kind.Program low high w s

-- No record but the first is a program's, so that "all records but 41" are the others.
pub only-top : {len : ℕ} {ts : List Tok} {rs : List Rec} → FileOwnership Spelled Program len ts rs → (j : ℕ) → j < length (drop 1 rs) → (get_or (drop 1 rs) j blank).kind ≡ kind.Program → ⊥
only-top {ts = ts} {rs = rs} o j h e =
    let r = get_or (drop 1 rs) j blank in
    no_program r.low r.high (made ts (drop 1 rs) j) (subst (λ (k : ℕ). Spelled k r.low r.high (made ts (drop 1 rs) j)) e (o.others.spelled j h))
