-- What the walk over a record's children finds is what `Right` asks of them, and that they count themselves.
-- Assumes nothing.
use Rattle.std.specs.Prelude.{Option, Some, None, Bool, true, false, cond, List, [], ◌∷◌, map, ◌≢◌, ◌≡◌, ℕ, ◌+◌, ◌-◌, ◌<◌, ◌≤◌, eqb, length, get_or}
use Rattle.std.specs.Bool.{beq}
use Rattle.std.proofs.Math.Path.{refl, subst}
use Rattle.std.proofs.Common.{sym, ap, ◌∙◌, arith, eq-eqb, eqb-true, lt-ltb, le-leb}
use Rattle.std.proofs.Math.Nat.{zero-add}
use Rattle.std.proofs.Math.Dec.{T}
use Rattle.text.specs.Lists.{has, all, count, span}
use Rattle.text.specs.Table.{every}
use Rattle.text.proofs.Table.{first-of, second-of, pair, at, beq_same}
use Rattle.own.specs.Tree.{Rec}
use Rattle.own.specs.Lists.{All, nil, ◌&◌}
use Rattle.own.specs.Kinds as kind
use Rattle.kinds.specs.Shape.{of, fits}
use Rattle.kinds.specs.Families as family
use Rattle.kinds.specs.Fields.{counted, halves}
use Rattle.kinds.specs.Derive.{is_part}
use Rattle.load.specs.Bare.{bare}
use Rattle.load.specs.Function.{sizes, Inside, Right}
use Rattle.load.specs.Children.Table.{kind_cues, cue_kinds}
use Rattle.load.specs.Children.Cue as cue
use Rattle.load.specs.Children.Cue.{cues, cue, rep}
use Rattle.load.specs.Children.Cues.{even}
use Rattle.load.proofs.Children.Even.{even-fits}
use Rattle.load.specs.Children.Run.{run, ended}
use Rattle.load.proofs.Children.Run.{cue-below}
use Rattle.load.specs.Children.Begin.{agrees, asked_of, start}
use Rattle.load.proofs.Children.Begins.{agreed}
use Rattle.load.proofs.Children.Decided.{Decided, decided, decided-formed, decided-exchanged}
use Rattle.load.specs.Checks.Parts.{Counts}
use Rattle.load.specs.Checks.Judge.{sits, one, past, judge, before, verdict}
use Rattle.load.proofs.Checks.Small.{sat}
use Rattle.load.specs.declared.walk.Seen.{Seen}

-- A child is counted by its cue.
cues-many : length cue_kinds ≡ cues
unfolding cue_kinds
cues-many = refl

count_is : (this : ℕ) (ks : List ℕ) → T (even (of ks)) → T (every (λ c k. beq (eqb c this) (has ks k)) 0 cue_kinds) → (k low high : ℕ)
    → one (cue k low high) this ≡ cond (has ks k) 1 0
unfolding one is_part fits
count_is this ks ev t k low high =
    let c = cue k low high in
    let e : has ks k ≡ has ks (get_or cue_kinds c 0) = even-fits k low high (of ks) ev in
    let b = at (λ c k. beq (eqb c this) (has ks k)) cue_kinds 0 t c (omega (arith, cues-many, cue-below k low high)) in
    ap (λ (x : Bool). cond x 1 0) (beq_same (eqb c this) (has ks (get_or cue_kinds c 0)) b ∙ sym e)

count-name : (k low high : ℕ) → one (cue k low high) cue.Name ≡ cond (has (kind.Name ∷ []) k) 1 0
unfolding even kind_cues cue_kinds has all
count-name = count_is cue.Name (kind.Name ∷ []) tt tt

count-parameter : (k low high : ℕ) → one (cue k low high) cue.Parameter ≡ cond (has (kind.Parameter ∷ []) k) 1 0
unfolding even kind_cues cue_kinds has all
count-parameter = count_is cue.Parameter (kind.Parameter ∷ []) tt tt

count-pattern : (k low high : ℕ) → one (cue k low high) cue.Pattern ≡ cond (has family.patterns k) 1 0
unfolding even kind_cues cue_kinds has all span count
count-pattern = count_is cue.Pattern family.patterns tt tt

-- What has been seen past all children.
past_all : Seen → List Rec → Seen
past_all s [] = s
past_all s (c ∷ cs) = past_all (past s c) cs

-- Children inside the place whose sizes add up are passed,
judged : (r : Rec) (s : Seen) (cs : List Rec) → All (Inside r) cs → All Counts cs → sizes cs ≡ s.left → judge r s cs ≡ Some (past_all s cs)
unfolding judge sits past past_all
judged r s [] nil nil e = ap (λ (b : Bool). cond b (Some s) None) (eq-eqb s.left 0 (sym e))
judged r s (c ∷ cs) (i & is) (p & ps) e =
    let fit : c.size ≤ s.left = omega arith in
    let t : sits s.left r c ≡ true = simp (lt-ltb 0 c.size p, le-leb c.size s.left fit, le-leb r.start c.start i.from, le-leb c.stop r.stop i.to) in
    ap (λ (b : Bool). cond b (judge r (past s c) cs) None) t ∙ judged r (past s c) cs is ps (omega arith)

-- and no others.
judged-only : (r : Rec) (s : Seen) (cs : List Rec) {x : Seen} → judge r s cs ≡ Some x → All (Inside r) cs × All Counts cs × (sizes cs ≡ s.left)
unfolding judge past
judged-only r s [] {x} e = (nil, nil, go (eqb s.left 0) refl e)
  where
    go : (t : Bool) → eqb s.left 0 ≡ t → cond t (Some s) None ≡ Some x → 0 ≡ s.left
    go true z e = sym (eqb-true s.left 0 z)
    go false z e = let y : ◌≡◌ {A = ℕ} 0 1 = cc in absurd (omega arith)
judged-only r s (c ∷ cs) {x} e = go (sits s.left r c) refl e (λ d. judged-only r (past s c) cs d)
  where
    go : (t : Bool) → sits s.left r c ≡ t → cond t (judge r (past s c) cs) None ≡ Some x
        → (judge r (past s c) cs ≡ Some x → All (Inside r) cs × All Counts cs × (sizes cs ≡ s.left - c.size)) → All (Inside r) (c ∷ cs) × All Counts (c ∷ cs) × (sizes (c ∷ cs) ≡ s.left)
    go true z e f =
        let y = sat s.left r c (subst T (sym z) tt) in
        let (is, ps, d) = f e in
        let k = y.fit in
        (record { from = y.from; to = y.to } & is, y.some & ps, omega arith)
    go false z e f = let y : ◌≡◌ {A = ℕ} 0 1 = cc in absurd (omega arith)

-- The state and the numbers past all children are those of the automaton and of the rules.
record Told (s x : Seen) (cs : List Rec) : Type 0 where
  state : x.state ≡ run s.state cs
  names : x.counts.names ≡ s.counts.names + counted (kind.Name ∷ []) (map bare cs)
  parameters : x.counts.parameters ≡ s.counts.parameters + counted (kind.Parameter ∷ []) (map bare cs)
  patterns : x.counts.patterns ≡ s.counts.patterns + counted family.patterns (map bare cs)

told : (s : Seen) (cs : List Rec) → Told s (past_all s cs) cs
unfolding run counted past past_all
told s [] = record { state = refl; names = omega arith; parameters = omega arith; patterns = omega arith }
told s (c ∷ cs) =
    let t = told (past s c) cs in
    let a = count-name c.kind c.low c.high in
    let b = count-parameter c.kind c.low c.high in
    let d = count-pattern c.kind c.low c.high in
    record { state = t.state; names = omega (arith, t.names, a); parameters = omega (arith, t.parameters, b); patterns = omega (arith, t.patterns, d) }

-- the verdict on what has been seen past all children of a record, from its beginning on
module _ (r : Rec) (cs : List Rec) where
  q : ℕ
  q = start r.kind r.low r.high

  end : Seen
  end = past_all (before r q) cs

  counts-are : agrees (asked_of r.kind) r.low r.high end.counts.names end.counts.parameters end.counts.patterns ≡ agreed (asked_of r.kind) r.low r.high (map bare cs)
  unfolding end
  counts-are =
      let t = told (before r q) cs in
      λ i.
      agrees (asked_of r.kind) r.low r.high ((t.names ∙ zero-add (counted (kind.Name ∷ []) (map bare cs))) i)
      ((t.parameters ∙ zero-add (counted (kind.Parameter ∷ []) (map bare cs))) i) ((t.patterns ∙ zero-add (counted family.patterns (map bare cs))) i)

  given : Decided r.kind r.low r.high cs → T (verdict r (Some end))
  unfolding verdict end q
  given d =
      let t = told (before r q) cs in
      let a = ended end.state in
      let b = agrees (asked_of r.kind) r.low r.high end.counts.names end.counts.parameters end.counts.patterns in
      pair a b (subst (λ (x : ℕ). T (ended x)) (sym t.state) d.taken) (subst T (sym counts-are) d.agreeing)

  taken_of : T (verdict r (Some end)) → Decided r.kind r.low r.high cs
  unfolding verdict end q
  taken_of v =
      let t = told (before r q) cs in
      let a = ended end.state in
      let b = agrees (asked_of r.kind) r.low r.high end.counts.names end.counts.parameters end.counts.patterns in
      record { taken = subst (λ (x : ℕ). T (ended x)) t.state (first-of a b v); agreeing = subst T counts-are (second-of a b v) }

  -- A right record is found right,
  pub right-found : T (halves r.low r.high) → Right r cs → All Counts cs → T (verdict r (judge r (before r (start r.kind r.low r.high)) cs))
  unfolding end q
  right-found small ok some =
      let sum : sizes cs ≡ r.size - 1 = (let s = ok.adds in omega arith) in
      subst (λ (w : Option Seen). T (verdict r w)) (sym (judged r (before r q) cs ok.inside some sum))
      (given (decided r.low r.high cs r.kind small ok.formed ok.exchanged))

  -- and what is found right is right.
  pub found_right : T (halves r.low r.high) → 0 < r.size → (r.kind ≢ kind.Program → r.start < r.stop) → T (verdict r (judge r (before r (start r.kind r.low r.high)) cs)) → All Counts cs × Right r cs
  unfolding end q verdict
  found_right small some place v = go (judge r (before r q) cs) refl v
    where
      go : (w : Option Seen) → judge r (before r q) cs ≡ w → T (verdict r w) → All Counts cs × Right r cs
      go None e v = absurd v
      go (Some x) e v =
          let (is, ps, sum) = judged-only r (before r q) cs e in
          let d = taken_of (subst (λ (w : Option Seen). T (verdict r w)) (sym e ∙ judged r (before r q) cs is ps sum) v) in (
            ps,
            record {
              formed = decided-formed r.low r.high cs r.kind small d;
              exchanged = decided-exchanged r.low r.high cs r.kind small d;
              adds = omega arith;
              place = place;
              inside = is;
            },
          )
