-- Where programs and items (order 3) stand among records that form a whole: a program is the first record, and an item that is not the first stands
-- directly below it. No form has another place for them, by one computation.
-- Assumes nothing.
use Rattle.std.specs.Prelude.{Bool, ◌&&◌, ◌||◌, not, List, ◌∷◌, map, ◌≢◌, ◌⊎◌, ◌≡◌, ℕ, zero, suc, ◌<◌, eqb, length, get_or}
use Rattle.std.proofs.Common.{inl, inr, sym, subst, arith, eqb→eq}
use Rattle.std.proofs.Math.Dec.{T}
use Rattle.text.specs.Lists.{has, all, count, span, here, there}
use Rattle.text.proofs.ListLaws.{all-has, all-some, from_some, some-keep}
use Rattle.text.proofs.Table.{first-of, second-of, or_cases, implied}
use Rattle.own.specs.Tree.{Rec}
use Rattle.own.specs.Flat.{blank, children}
use Rattle.own.specs.Law.{Sort}
use Rattle.own.specs.Lists.{All, ◌&◌}
use Rattle.own.specs.Kinds as kind
use Rattle.kinds.specs.Families as family
use Rattle.kinds.specs.Rules.{Form, forms, all_forms}
use Rattle.kinds.specs.Decide.{kinds_of, gather, kinds_in, forms_for}
use Rattle.kinds.proofs.Decide.{spells-listed}
use Rattle.load.specs.Bare.{bare, bare_part, bare_shape}
use Rattle.load.specs.Function.{Fits, Right, Whole}
use Rattle.load.specs.Checks.Parts.{Among, Held, each-held}

-- What a record of a kind may have below it: no program, and an item only where it is a program itself.
abbrev below : ℕ → ℕ → Bool
below parent kid = not (eqb kid kind.Program) && (not (has family.items kid) || eqb parent kind.Program)

abbrev Below : ℕ → ℕ → Type 0
Below parent kid = (kid ≢ kind.Program) × (T (has family.items kid) → parent ≡ kind.Program)

is_below : (parent kid : ℕ) → T (below parent kid) → Below parent kid
is_below parent kid t =
    let a = not (eqb kid kind.Program) in
    let b = not (has family.items kid) || eqb parent kind.Program in (
      λ e. subst (λ (k : ℕ). T (not (eqb k kind.Program))) e (first-of a b t),
      λ u. eqb→eq parent kind.Program (implied (has family.items kid) (eqb parent kind.Program) (second-of a b t) u),
    )

-- No form has other children,
abbrev keeps : Form → Bool
keeps f = all (below f.kind) (kinds_in (bare_shape f.shape))

forms-keep : T (all keeps all_forms)
unfolding all has count span all_forms forms bare_shape bare_part gather kinds_of
forms-keep = tt

pick : {P : Sort → Type 0} {c : Rec} (cs : List Rec) → All P (map bare cs) → Among c cs → P (bare c)
pick {P = P} {c = c} mathlib.Core.List.[] _ x3 = elim x3 [ ]
pick {P} (x ∷ cs) (p & h) (here e) = subst (λ (r : Rec). P (bare r)) e p
pick (x ∷ cs) (p & h) (there s) = pick cs h s

-- and so no right record.
child-below : (r c : Rec) (cs : List Rec) → Right r cs → Among c cs → Below r.kind c.kind
unfolding forms_for
child-below r c cs o a = from_some one (all-some keeps forms-keep (some-keep (λ f. eqb f.kind r.kind) all_forms o.formed))
  where
    one : (f : Form) → T (keeps f) × (T (eqb f.kind r.kind) × Fits r.low r.high cs f) → Below r.kind c.kind
    one f (t, (e, h)) =
        subst (λ (k : ℕ). Below k c.kind) (eqb→eq f.kind r.kind e)
        (is_below f.kind c.kind (all-has (below f.kind) (kinds_in (bare_shape f.shape)) c.kind t (pick cs (spells-listed h.shape) a)))

module _ (rs : List Rec) (w : Whole rs) where
  abbrev kind_at : ℕ → ℕ
  kind_at j = (get_or rs j blank).kind

  held : (j : ℕ) → 0 < j → j < length rs → Held rs (λ i l. (w.each i l).adds) j
  held = each-held rs (λ i l. (w.each i l).adds) w.counts_all

  its-parent : (j : ℕ) (p : 0 < j) (h : j < length rs) → Below (kind_at (held j p h).parent) (kind_at j)
  its-parent j p h =
      let x = held j p h in
      let i = x.parent in
      child-below (get_or rs i blank) (get_or rs j blank) (children rs i) (w.each i (omega (arith, x.before))) x.child

  -- A program is the first record, and no other.
  pub program-first : (j : ℕ) → 0 < j → j < length rs → (get_or rs j blank).kind ≢ kind.Program
  program-first j p h = (its-parent j p h).0

  -- An item that is not the first record is a child of the first, a program.
  pub items-below : (j : ℕ) → 0 < j → j < length rs → T (has family.items (get_or rs j blank).kind) → ((get_or rs 0 blank).kind ≡ kind.Program) × Among (get_or rs j blank) (children rs 0)
  items-below j p h t = let x = held j p h in go x.parent x.before ((its-parent j p h).1 t) x.child
    where
      go : (i : ℕ) → i < j → kind_at i ≡ kind.Program → Among (get_or rs j blank) (children rs i) → (kind_at 0 ≡ kind.Program) × Among (get_or rs j blank) (children rs 0)
      go zero b e s = (e, s)
      go (suc i) b e s = absurd (program-first (suc i) (omega arith) (omega arith) e)

  -- So the listing of a function has, below it, neither: no kind but those that it could have before order 3.
  pub function-alone : (get_or rs 0 blank).kind ≡ kind.Function → (j : ℕ) → 0 < j → j < length rs → T (has (kind.Program ∷ family.items) (get_or rs j blank).kind) → ⊥
  unfolding has
  function-alone e j p h t = go (or_cases (eqb kind.Program (kind_at j)) (has family.items (kind_at j)) t)
    where
      go : T (eqb kind.Program (kind_at j)) ⊎ T (has family.items (kind_at j)) → ⊥
      go (inl u) = program-first j p h (sym (eqb→eq kind.Program (kind_at j) u))
      go (inr u) = let q = (items-below j p h u).0 in absurd (omega arith)
