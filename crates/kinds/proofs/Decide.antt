-- What a record of a kind may own and hold is what the rules say: a record that spells the rule of its kind owns and holds nothing else.
-- Assumes nothing.
use Rattle.std.specs.Prelude.{Bool, true, false, cond, List, ◌∷◌, ◌++◌, ℕ, ◌<◌, T, eqb, ltb, length, get_or}
use Rattle.std.proofs.Common.{eqb→eq}
use Rattle.text.proofs.Table.{first-of}
use Rattle.text.specs.Lists.{Some, here, there, has}
use Rattle.text.proofs.ListLaws.{has_left, has_right}
use Rattle.num.specs.Bound.{is_bound}
use Rattle.own.specs.Tree.{Node, tokens, records}
use Rattle.own.specs.Flat.{blank}
use Rattle.own.specs.Law.{Sort, word, child, made}
use Rattle.own.specs.Lists.{All, nil, ◌&◌}
use Rattle.own.proofs.Lists.{all_map, all_append}
use Rattle.own.specs.Kinds as kind
use Rattle.kinds.specs.Shape.{Part, of, name, arm, bound, size, number, fits, Shape, Spells, empty, one_mark, one_part, seq, left, right, stop, more}
use Rattle.kinds.specs.Fields.{plain}
use Rattle.kinds.specs.Rules.{Form, form, all_forms, program}
use Rattle.kinds.specs.Spelled.{forms_of, Written, Spelled}
use Rattle.kinds.specs.Ownership.{Right}
use Rattle.kinds.proofs.Ownership.{law-3}
use Rattle.kinds.specs.Decide.{kinds_of, gather, classes_in, kinds_in, in_forms, forms_for, may_own, may_hold, listed, may}

fits-kind : (p : Part) (k l h c : ℕ) → T (fits p k l h c) → T (has (kinds_of p) k)
unfolding fits kinds_of has
fits-kind (of ks) k l h c t = t
fits-kind (name cs) k l h c t = rw (eqb→eq k kind.Name (first-of (eqb k kind.Name) (has cs c) t)) tt
fits-kind (arm n) k l h c t = rw (eqb→eq k kind.BuiltinArm (first-of (eqb k kind.BuiltinArm) (eqb l n) t)) tt
fits-kind bound k l h c t = rw (eqb→eq k kind.Number (first-of (eqb k kind.Number) (is_bound (number l h)) t)) tt
fits-kind size k l h c t = rw (eqb→eq k kind.Number (first-of (eqb k kind.Number) (ltb 0 (number l h)) t)) tt

-- what is listed is listed in longer lists
more_left : (cs cs' ks ks' : List ℕ) {w : List Sort} → All (λ s. T (listed cs ks s)) w → All (λ s. T (listed (cs ++ cs') (ks ++ ks') s)) w
more_left cs cs' ks ks' = all_map go
  where
    go : (s : Sort) → T (listed cs ks s) → T (listed (cs ++ cs') (ks ++ ks') s)
    go (word c) t = has_left cs cs' c t
    go (child k l h c) t = has_left ks ks' k t

more-right : (cs cs' ks ks' : List ℕ) {w : List Sort} → All (λ s. T (listed cs' ks' s)) w → All (λ s. T (listed (cs ++ cs') (ks ++ ks') s)) w
more-right cs cs' ks ks' = all_map go
  where
    go : (s : Sort) → T (listed cs' ks' s) → T (listed (cs ++ cs') (ks ++ ks') s)
    go (word c) t = has_right cs cs' c t
    go (child k l h c) t = has_right ks ks' k t

-- A sequence of a shape has only pieces of it.
pub spells-listed : {a : Shape} {w : List Sort} → Spells a w → All (λ s. T (listed (classes_in a) (kinds_in a) s)) w
unfolding gather
spells-listed empty = nil
spells-listed (one_mark c h) = h & nil
spells-listed (one_part {p = p} k l h c t) = fits-kind p k l h c t & nil
spells-listed (seq {a = a} {b = b} p q) =
    all_append (more_left (classes_in a) (classes_in b) (kinds_in a) (kinds_in b) (spells-listed p))
    (more-right (classes_in a) (classes_in b) (kinds_in a) (kinds_in b) (spells-listed q))
spells-listed (left {a = a} {b = b} p) = more_left (classes_in a) (classes_in b) (kinds_in a) (kinds_in b) (spells-listed p)
spells-listed (right {a = a} {b = b} p) = more-right (classes_in a) (classes_in b) (kinds_in a) (kinds_in b) (spells-listed p)
spells-listed stop = nil
spells-listed (more p q) = all_append (spells-listed p) (spells-listed q)

forms-listed : {low high : ℕ} {w : List Sort} {l : List Form} → Some (Written low high w) l
    → All (λ s. T (listed (in_forms classes_in l) (in_forms kinds_in l) s)) w
unfolding in_forms
forms-listed (here {a = f} {l = l} x) = more_left (classes_in f.shape) (in_forms classes_in l) (kinds_in f.shape) (in_forms kinds_in l)
    (spells-listed x.shape)
forms-listed (there {a = f} {l = l} s) = more-right (classes_in f.shape) (in_forms classes_in l) (kinds_in f.shape) (in_forms kinds_in l) (forms-listed s)

-- the program's form before others
abbrev headed : Bool → List Form → List Form
headed b l = cond b (form kind.Program plain program ∷ l) l

more-forms : (b : Bool) (l : List Form) {w : List Sort} → All (λ s. T (listed (in_forms classes_in l) (in_forms kinds_in l) s)) w
    → All (λ s. T (listed (in_forms classes_in (headed b l)) (in_forms kinds_in (headed b l)) s)) w
unfolding in_forms
more-forms true l a = more-right (classes_in program) (in_forms classes_in l) (kinds_in program) (in_forms kinds_in l) a
more-forms false l a = a

-- What spells the rule of a kind is made of marks that the kind may own and children that it may hold.
pub spelled-may : (kind low high : ℕ) {w : List Sort} → Spelled kind low high w → All (λ s. T (may kind s)) w
unfolding may_own may_hold forms_for forms_of all_forms
spelled-may k low high s = all_map go (more-forms (eqb kind.Program k) (forms_of k) (forms-listed s))
  where
    go : (x : Sort) → T (listed (in_forms classes_in (headed (eqb kind.Program k) (forms_of k))) (in_forms kinds_in (headed (eqb kind.Program k) (forms_of k))) x) → T (may k x)
    go (word c) t = t
    go (child k' l h c) t = t

-- So by law 3 each record owns only what its kind may own, and holds only what its kind may hold.
pub law-3-may : (ns : List Node) → Right ns → (j : ℕ) → j < length (records ns)
    → All (λ s. T (may (get_or (records ns) j blank).kind s)) (made (tokens ns) (records ns) j)
law-3-may ns r j h = spelled-may (get_or (records ns) j blank).kind (get_or (records ns) j blank).low (get_or (records ns) j blank).high ((law-3 ns r).spelled j h)
