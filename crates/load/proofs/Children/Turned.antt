-- Arms of a match that are not the other way round are in the canonical order: the form of a match as its children stand in a listing.
-- Assumes nothing.
use Rattle.std.specs.Prelude.{Bool, not, List, [], ◌∷◌, ◌++◌, map, ◌≡◌, refl, ℕ, eqb}
use Rattle.std.proofs.Math.Bool.{true, false}
use Rattle.std.proofs.Common.{sym, ap, subst, eqb→eq}
use Rattle.std.proofs.Math.Dec.{T}
use Rattle.text.specs.Lists.{some}
use Rattle.text.proofs.Table.{first-of, second-of}
use Rattle.own.specs.Tree.{Rec, Node, node, none, partner, canonical, reversed}
use Rattle.own.specs.Law.{Sort, word, child}
use Rattle.own.specs.Kinds as kind
use Rattle.own.specs.Arms as arm
use Rattle.lexer.specs.Classes as t
use Rattle.kinds.specs.Shape.{arm, fits, Shape, ◌▸◌, Spells, empty, one_part, seq, left, right}
use Rattle.kinds.specs.Rules.{the, expression, braces, arms, partners}
use Rattle.load.specs.Bare.{bare, bare_part, bare_shape}
use Rattle.load.specs.Function.{alone}
use Rattle.load.specs.Children.Laid.{turn, in_turn}

-- The children that a rule sees, as nodes with nothing beneath.
unfoldable seen : List Sort → List Node
seen [] = []
seen (word c ∷ w) = seen w
seen (child k l h c ∷ w) = node k l h none ∷ seen w

seen-bare : (cs : List Rec) → seen (map bare cs) ≡ map alone cs
unfolding seen
seen-bare [] = refl
seen-bare (r ∷ cs) = ap (λ (l : List Node). alone r ∷ l) (seen-bare cs)

is-arm : (k l n h c : ℕ) → T (fits (arm n) k l h c) → (k ≡ kind.BuiltinArm) × (l ≡ n)
unfolding fits
is-arm k l n h c u = (eqb→eq k kind.BuiltinArm (first-of (eqb k kind.BuiltinArm) (eqb l n) u), eqb→eq l n (second-of (eqb k kind.BuiltinArm) (eqb l n) u))

-- whether of an expression and these two arms the arms are the other way round
other : (m : Node) (a b : ℕ) {v : List Sort} → Spells (turn a b) v → reversed (m ∷ seen v) ≡ partner b a
unfolding seen canonical
other m a b (seq (one_part k l h c p) (one_part k' l' h' c' q)) =
    let e = is-arm k l a h c p in
    let f = is-arm k' l' b h' c' q in
    rw (e.0, e.1, f.0, f.1) refl

no_more : {v : List Sort} (a b : ℕ) → Spells (turn a b) v → v ++ [] ≡ v
no_more a b (seq (one_part k l h c p) (one_part k' l' h' c' q)) = refl

module _ (m : Node) where
  -- the arms of one pair, in either order
  pair-in : (a b : ℕ) → T (partner a b) → {v : List Sort} → Spells (bare_shape (arms a b)) v → T (not (reversed (m ∷ seen v))) → Spells (turn a b) v
  unfolding bare_shape bare_part
  pair-in a b u (left p) n = p
  pair-in a b u (right p) n = absurd (no (partner a b) u (subst (λ (x : Bool). T (not x)) (other m b a p) n))
    where
      no : (x : Bool) → T x → T (not x) → ⊥
      no true y z = z
      no false y z = y

  arms-in : {v : List Sort} → Spells (bare_shape partners) v → T (not (reversed (m ∷ seen v))) → Spells in_turn v
  unfolding bare_shape bare_part partner some
  arms-in {v = v} (right (right (right x13))) n = elim x13 [ ]
  arms-in (left p) n = left (pair-in arm.Left arm.Right tt p n)
  arms-in (right (left p)) n = right (left (pair-in arm.None arm.Some tt p n))
  arms-in (right (right (left p))) n = right (right (left (pair-in arm.False arm.True tt p n)))

  arms-out : {v : List Sort} → Spells in_turn v → Spells (bare_shape partners) v × T (not (reversed (m ∷ seen v))) × (v ++ [] ≡ v)
  unfolding bare_shape bare_part partner some
  arms-out {v = v} (right (right (right x12))) = elim x12 [ ]
  arms-out (left p) = (left (left p), rw (other m arm.Left arm.Right p) tt, no_more arm.Left arm.Right p)
  arms-out (right (left p)) = (right (left (left p)), rw (other m arm.None arm.Some p) tt, no_more arm.None arm.Some p)
  arms-out (right (right (left p))) = (right (right (left (left p))), rw (other m arm.False arm.True p) tt, no_more arm.False arm.True p)

-- The form of a match.
abbrev pub match_shape : Shape
match_shape = the t.Match ▸ expression ▸ braces partners

-- the arms with nothing behind them
arms_alone : {v : List Sort} → Spells (bare_shape partners) v → v ++ [] ≡ v
unfolding bare_shape bare_part
arms_alone {v = v} (right (right (right x12))) = elim x12 [ ]
arms_alone (left (left p)) = no_more arm.Left arm.Right p
arms_alone (left (right p)) = no_more arm.Right arm.Left p
arms_alone (right (left (left p))) = no_more arm.None arm.Some p
arms_alone (right (left (right p))) = no_more arm.Some arm.None p
arms_alone (right (right (left (left p)))) = no_more arm.False arm.True p
arms_alone (right (right (left (right p)))) = no_more arm.True arm.False p

match-in : {w : List Sort} → Spells (bare_shape match_shape) w → T (not (reversed (seen w))) → Spells (expression ▸ in_turn) w
unfolding bare_shape bare_part seen
match-in (seq empty (seq (one_part k l h c q) (seq empty (seq x empty)))) n =
    let e = arms_alone x in
    subst (λ (v : List Sort). Spells (expression ▸ in_turn) (child k l h c ∷ v)) (sym e)
    (seq (one_part k l h c q) (arms-in (node k l h none) x (subst (λ (v : List Sort). T (not (reversed (node k l h none ∷ seen v)))) e n)))

match-out : {w : List Sort} → Spells (expression ▸ in_turn) w → Spells (bare_shape match_shape) w × T (not (reversed (seen w)))
unfolding bare_shape bare_part seen
match-out (seq (one_part k l h c q) x) =
    let (y, n, e) = arms-out (node k l h none) x in
    (subst (λ (v : List Sort). Spells (bare_shape match_shape) (child k l h c ∷ v)) e (seq empty (seq (one_part k l h c q) (seq empty (seq y empty)))), n)

module _ (cs : List Rec) where
  -- Children of a match whose arms are not the other way round stand as in a listing,
  pub match-laid : Spells (bare_shape match_shape) (map bare cs) → T (not (reversed (map alone cs))) → Spells (expression ▸ in_turn) (map bare cs)
  match-laid p n = match-in p (subst (λ (l : List Node). T (not (reversed l))) (sym (seen-bare cs)) n)

  -- and only those.
  pub laid-match : Spells (expression ▸ in_turn) (map bare cs) → Spells (bare_shape match_shape) (map bare cs) × T (not (reversed (map alone cs)))
  laid-match p = let (q, n) = match-out p in (q, subst (λ (l : List Node). T (not (reversed l))) (seen-bare cs) n)
