-- A file of trees side by side is owned as File.antt says, and behind its first record the others are found as they are without it.
-- Assumes nothing.
use Rattle.std.specs.Prelude.{◌≡◌, refl, Bool, ◌&&◌, not, List, [], ◌∷◌, map, ℕ, suc, ◌+◌, ◌-◌, ◌≤◌, T, length, get_or}
use Rattle.std.proofs.Common.{sym, ap, ◌∙◌, subst, append-nil, arith, take_all}
use Rattle.text.specs.Lists.{some, keep}
use Rattle.own.specs.Tree.{Tok, Node, roots, marks, kids, Each, end, Rec, record_of, tokens, records, Fine}
use Rattle.own.specs.Flat.{holds, blank, row, children, owns, owned, merge}
use Rattle.own.specs.Law.{Sort, sort_of, made, Rule, Ordered, sorts, Keeps}
use Rattle.own.specs.Lists.{All}
use Rattle.own.proofs.Lists.{all_map, keep_all, keep-ext, keep-and}
use Rattle.own.proofs.Places.{order-all, holds-in, own-marks}
use Rattle.own.proofs.Shape.{kids-roots, tops}
use Rattle.own.proofs.Merge.{merge-kids, ordered-kids}
use Rattle.own.proofs.Rules.{sorts-pieces, ownership}
use Rattle.own.specs.File.{program, filed, FileOwnership}

-- Behind a first record: a record, its children through the sizes, what it owns, what it is made of.
module _ (first : Rec) (rs : List Rec) (j : ℕ) where
  pub record-after : get_or (first ∷ rs) (suc j) blank ≡ get_or rs j blank
  record-after = refl

  pub children-after : children (first ∷ rs) (suc j) ≡ children rs j
  children-after = refl

  pub owned-after : (ts : List Tok) → owned ts (first ∷ rs) (suc j) ≡ owned ts rs j
  owned-after ts = refl

  pub made_after : (ts : List Tok) → made ts (first ∷ rs) (suc j) ≡ made ts rs j
  made_after ts = refl

-- Fine trees that keep the rule, none of whose tokens ends past the file, and whose roots spell what a program is made of.
module _ (R : Rule) (P : List Sort → Type 0) (ns : List Node) (fine : Fine ns) (keeps : Each (Keeps R) (roots ns)) (len : ℕ) (inside : end 0 (tokens ns) ≤ len) (items : P (sorts (roots ns))) where
  abbrev top : Rec
  top = program len (records ns)

  abbrev rs : List Rec
  rs = filed len (records ns)

  -- The children of the first record are those of the trees themselves.
  pub its-children : children rs 0 ≡ map record_of (kids (roots ns))
  its-children =
      ap (row (1 + length (records ns))) (take_all (1 + length (records ns) - 1) (records ns) (omega arith)) ∙ tops ns (1 + length (records ns)) (omega arith)
      ∙ ap (map record_of) (sym (kids-roots ns))

  no-marks : (ms : List Node) → marks (roots ms) ≡ []
  no-marks [] = refl
  no-marks (n ∷ ms) = no-marks ms

  all_held : All (λ t. T (holds top t)) (tokens ns)
  all_held = all_map (λ t b. holds-in top t (omega arith) (omega (arith, b.high, inside))) (order-all 0 (tokens ns) fine.ordered)

  owns_none : owned (tokens ns) rs 0 ≡ []
  owns_none =
      let no-kid : Tok → Bool = λ t. not (some (λ c. holds c t) (map record_of (kids (roots ns)))) in
      keep-ext (owns rs 0) (λ t. holds top t && no-kid t) (λ t. ap (λ cs. holds top t && not (some (λ c. holds c t) cs)) its-children) (tokens ns)
      ∙ keep-and (holds top) no-kid (tokens ns)
      ∙ ap (keep no-kid) (keep_all (holds top) all_held)
      ∙ own-marks (roots ns) 0 fine.ordered fine.marked
      ∙ no-marks ns

  is_made : made (tokens ns) rs 0 ≡ sorts (roots ns)
  is_made =
      ap (map (sort_of (tokens ns)))
      (ap (λ cs. merge cs (owned (tokens ns) rs 0)) its-children ∙ ap (merge (map record_of (kids (roots ns)))) (owns_none ∙ sym (no-marks ns))
      ∙ merge-kids (roots ns) 0 fine.ordered fine.marked)
      ∙ sorts-pieces (tokens ns) fine.ordered (roots ns) [] [] (sym (append-nil (tokens ns))) fine.marked

  ends-later : (lo hi hi' : ℕ) (cs : List Rec) → hi ≤ hi' → Ordered lo hi cs → Ordered lo hi' cs
  ends-later lo hi hi' [] h o = omega arith
  ends-later lo hi hi' (c ∷ cs) h o = (o.0, o.1, ends-later c.stop hi hi' cs h o.2)

  -- Law 3 of the file that they make.
  pub file-ownership : FileOwnership R P len (tokens ns) rs
  file-ownership =
      record {
        top = refl;
        nothing = owns_none;
        spelled = subst P (sym is_made) items;
        ordered = subst (Ordered 0 len) (sym its-children)
            (ends-later 0 (end 0 (tokens ns)) len (map record_of (kids (roots ns))) inside (ordered-kids (roots ns) 0 fine.ordered fine.marked));
        few = let h = (ownership R ns fine keeps).few in omega arith;
        others = ownership R ns fine keeps;
      }
