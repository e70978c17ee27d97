-- The test of whether records form a whole function or program agrees with `Whole`.
-- Assumes nothing.
use Rattle.std.specs.Prelude.{Bool, true, false, ◌&&◌, ◌||◌, not, List, map, ◌↔◌, ◌≢◌, ℕ, suc, ◌<◌, T, eqb, ltb, leb, length, get_or}
use Rattle.text.specs.Lists.{all, some, count}
use Rattle.text.proofs.Exactly.{both, itself, equal, less, no_more, unless, below-exactly, some-exactly}
use Rattle.text.proofs.Table.{first-of, second-of, pair}
use Rattle.own.specs.Tree.{Rec, reversed}
use Rattle.own.specs.Flat.{blank, children}
use Rattle.own.proofs.Lists.{all-exactly}
use Rattle.own.specs.Kinds as kind
use Rattle.kinds.specs.Derive.{spells}
use Rattle.kinds.proofs.Derive.{spells-sound, spells-complete}
use Rattle.kinds.specs.Fields.{holds}
use Rattle.kinds.specs.Rules.{Form}
use Rattle.kinds.specs.Decide.{forms_for}
use Rattle.load.specs.Bare.{bare, bare_shape}
use Rattle.load.specs.Function.{Fits, alone, sizes, Inside, Right, is_top, Whole}
use Rattle.load.specs.FunctionTest.{fits, inside, placed, right, is_whole}

fits-exactly : (low high : ℕ) (cs : List Rec) (f : Form) → T (fits low high cs f) ↔ Fits low high cs f
unfolding fits
fits-exactly low high cs f =
    let a = holds f.fields low high (map bare cs) in
    let b = spells (bare_shape f.shape) (map bare cs) in (
      λ t. record { fields = first-of a b t; shape = spells-sound (bare_shape f.shape) (map bare cs) (second-of a b t) },
      λ h. pair a b h.fields (spells-complete (bare_shape f.shape) (map bare cs) h.shape),
    )

inside-exactly : (r c : Rec) → T (inside r c) ↔ Inside r c
unfolding inside
inside-exactly r c =
    let e = both (leb r.start c.start) (leb c.stop r.stop) (no_more r.start c.start) (no_more c.stop r.stop) in
    (λ t. let (l, h) = e.0 t in record { from = l; to = h }, λ i. e.1 (i.from, i.to))

-- Where the first does not pass the second does, as a test.
but : {P Q : Type 0} (a b : Bool) → T a ↔ P → T b ↔ Q → T (a || b) ↔ ((P → ⊥) → Q)
but true b f g = (λ t n. absurd (n (f.0 tt)), λ h. tt)
but false b f g = (λ t n. g.0 t, λ h. g.1 (h (λ p. absurd (f.1 p))))

pub placed-exactly : (r : Rec) → T (placed r) ↔ (r.kind ≢ kind.Program → r.start < r.stop)
unfolding placed
placed-exactly r = but (eqb r.kind kind.Program) (ltb r.start r.stop) (equal r.kind kind.Program) (less r.start r.stop)

-- The test of a record with its children passes exactly where they are right.
pub right-exactly : (r : Rec) (cs : List Rec) → T (right r cs) ↔ Right r cs
unfolding right
right-exactly r cs =
    let t₁ = some (fits r.low r.high cs) (forms_for r.kind) in
    let t₂ = not (eqb r.kind kind.Match) || not (reversed (map alone cs)) in
    let t₃ = eqb r.size (suc (sizes cs)) in
    let t₄ = placed r in
    let t₅ = all (inside r) cs in
    let e =
    both t₁ (t₂ && (t₃ && (t₄ && t₅))) (some-exactly (fits r.low r.high cs) (fits-exactly r.low r.high cs) (forms_for r.kind))
    (both t₂ (t₃ && (t₄ && t₅)) (unless (eqb r.kind kind.Match) (not (reversed (map alone cs))) (equal r.kind kind.Match) (itself (not (reversed (map alone cs)))))
    (both t₃ (t₄ && t₅) (equal r.size (suc (sizes cs))) (both t₄ t₅ (placed-exactly r) (all-exactly (inside r) (inside-exactly r) cs)))) in (
      λ t. let (f, (x, (a, (p, i)))) = e.0 t in record { formed = f; exchanged = x; adds = a; place = p; inside = i },
      λ h. e.1 (h.formed, (h.exchanged, (h.adds, (h.place, h.inside)))),
    )

-- The test passes exactly where the records form a whole.
pub whole-exactly : (rs : List Rec) → T (is_whole rs) ↔ Whole rs
unfolding is_whole
whole-exactly rs =
    let r = get_or rs 0 blank in
    let its : ℕ → Bool = λ j. right (get_or rs j blank) (children rs j) in
    let e =
    both (is_top r) (eqb r.size (length rs) && all its (count (length rs) 0)) (itself (is_top r))
    (both (eqb r.size (length rs)) (all its (count (length rs) 0)) (equal r.size (length rs))
    (below-exactly its (λ j. right-exactly (get_or rs j blank) (children rs j)) (length rs))) in
    (λ t. let (p, (w, h)) = e.0 t in record { top = p; counts_all = w; each = h }, λ o. e.1 (o.top, (o.counts_all, o.each)))
