-- Lists as a reader finds them, one item after the other: nothing; an item; an item, a comma and a list. Each is a list of the rules.
-- Assumes nothing.
use Rattle.std.specs.Prelude.{List, [], ◌∷◌, ◌++◌, refl, ℕ, T}
use Rattle.std.proofs.Common.{append_assoc, append-nil, subst, eq-eqb}
use Rattle.text.specs.Lists.{has}
use Rattle.own.specs.Law.{Sort, word}
use Rattle.lexer.specs.Classes as t
use Rattle.kinds.specs.Shape.{Shape, Spells, empty, one_mark, seq, left, right, stop, more}
use Rattle.kinds.specs.Rules.{the, some, list, comma_list}

-- One token of a class.
pub the-mark : (c : ℕ) → Spells (the c) (word c ∷ [])
unfolding has
the-mark c = one_mark c (same c)
  where
    same : (n : ℕ) → T (has (n ∷ []) n)
    same n = rw (eq-eqb n n refl) tt

module _ {a : Shape} where
  -- One item is a list of at least one.
  pub some_one : {v : List Sort} → Spells a v → Spells (some a) v
  some_one {v} p = subst (λ (l : List Sort). Spells (some a) l) (append-nil v) (seq p (seq stop (left empty)))

  -- So is an item with a comma.
  pub some_comma : {v : List Sort} → Spells a v → Spells (some a) (v ++ (word t.Comma ∷ []))
  some_comma p = seq p (seq stop (right (the-mark t.Comma)))

  -- An item, a comma and a list of at least one.
  pub some_more : {v w : List Sort} → Spells a v → Spells (some a) w → Spells (some a) (v ++ (word t.Comma ∷ w))
  some_more {v} p (seq {v = x} q (seq {v = ms} {w = o} m e)) =
      subst (λ (l : List Sort). Spells (some a) (v ++ (word t.Comma ∷ l))) (append_assoc x ms o) (seq p (seq (more (seq (the-mark t.Comma) q) m) e))

  -- Nothing is a list.
  pub list-none : Spells (list a) []
  list-none = left empty

  -- A list of at least one is a list.
  pub list-some : {w : List Sort} → Spells (some a) w → Spells (list a) w
  list-some p = right p

  -- An item, a comma and a list.
  pub list-more : {v w : List Sort} → Spells a v → Spells (list a) w → Spells (list a) (v ++ (word t.Comma ∷ w))
  list-more p (left empty) = right (some_comma p)
  list-more p (right q) = right (some_more p q)

  -- The same, as a list that is not one item without a comma.
  pub comma-more : {v w : List Sort} → Spells a v → Spells (list a) w → Spells (comma_list a) (v ++ (word t.Comma ∷ w))
  comma-more p q = right (seq p (seq (the-mark t.Comma) q))
