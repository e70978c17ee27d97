-- Every tree that the reader hands over may be loaded: the records of right trees are right as a listing shows them, and those of one function, or of
-- a file, form a whole.
-- Assumes nothing.
use Rattle.std.specs.Prelude.{Bool, true, false, not, List, [], ◌∷◌, map, ◌≡◌, refl, ℕ, zero, suc, ◌+◌, ◌<◌, ◌≤◌, T, length, get_or}
use Rattle.std.proofs.Common.{sym, ap, ◌∙◌, subst, arith, length-append, length-drop}
use Rattle.std.proofs.Math.ListN.{length-map}
use Rattle.own.specs.Tree.{Items, none, mark, sub, Node, node, roots, kids, partner, canonical, reversed, turned, exchange, arrange, nodes, below, end, Rec, record_of, tokens, all, records}
use Rattle.own.specs.Flat.{blank, children}
use Rattle.own.specs.Law.{Ordered, Canonical, sorts, Keeps}
use Rattle.own.specs.File.{program, filed}
use Rattle.own.proofs.FileLaws.{its-children}
use Rattle.own.specs.Lists.{All, nil, ◌&◌}
use Rattle.own.proofs.Lists.{all-arrange, all-concat, all-at, arrange-map}
use Rattle.own.specs.Words as own
use Rattle.own.proofs.WordLaws.{size_is}
use Rattle.own.proofs.Partners.{by-partners}
use Rattle.own.proofs.Places.{bounded}
use Rattle.own.proofs.Shape.{leads-all, leads-at}
use Rattle.own.proofs.Rules.{each_all}
use Rattle.own.proofs.Owners.{no_node, kept}
use Rattle.own.specs.Kinds as kind
use Rattle.kinds.specs.Spelled.{Spelled, Program}
use Rattle.kinds.specs.Ownership as kinds
use Rattle.kinds.proofs.Ownership as owning
use Rattle.load.specs.Function.{alone, sizes, Inside, Right, Whole}
use Rattle.load.specs.Checks.Parts.{Counts}
use Rattle.load.specs.Checks.Stands.{Stands}
use Rattle.load.proofs.HandedForms.{formed, formed-program}

-- Sizes add up, in either arrangement.
sizes-kids : (is : Items) → sizes (map record_of (kids is)) ≡ own.sizes is
sizes-kids none = refl
sizes-kids (mark t r) = sizes-kids r
sizes-kids (sub k l h js r) = let e = sizes-kids r in omega (arith, size_is (node k l h js))

sizes-exchange : (cs : List Rec) → sizes (exchange cs) ≡ sizes cs
sizes-exchange [] = refl
sizes-exchange (a ∷ []) = refl
sizes-exchange (a ∷ b ∷ []) = refl
sizes-exchange (e ∷ a ∷ b ∷ []) = omega arith
sizes-exchange (e ∷ a ∷ b ∷ c ∷ l) = refl

sizes-arrange : (b : Bool) (cs : List Rec) → sizes (arrange b cs) ≡ sizes cs
sizes-arrange true cs = sizes-exchange cs
sizes-arrange false cs = refl

adds : (n : Node) → (record_of n).size ≡ suc (sizes (map record_of (below n)))
adds n =
    let b = turned n.kind n.items in
    let cs = kids n.items in
    omega (arith, size_is n, ap sizes (arrange-map record_of b cs), sizes-arrange b (map record_of cs), sizes-kids n.items)

-- Children in order of place lie inside.
ordered-ends : (lo hi : ℕ) (cs : List Rec) → Ordered lo hi cs → lo ≤ hi
ordered-ends lo hi [] o = o
ordered-ends lo hi (c ∷ cs) o = let h = ordered-ends c.stop hi cs o.2 in omega arith

inside-kids : (r : Rec) (lo : ℕ) (cs : List Node) → r.start ≤ lo → Ordered lo r.stop (map record_of cs) → All (Inside r) (map record_of cs)
inside-kids r lo [] h o = nil
inside-kids r lo (c ∷ cs) h o =
    let i : Inside r (record_of c) = record { from = omega arith; to = ordered-ends (record_of c).stop r.stop (map record_of cs) o.2 } in
    i & inside-kids r (record_of c).stop cs (omega arith) o.2

-- A node counts itself at least.
kids-count : (cs : List Node) → All Counts (map record_of cs)
kids-count [] = nil
kids-count (c ∷ cs) = let i : Counts (record_of c) = omega arith in i & kids-count cs

-- Arms in the canonical order are not the other way round.
one_way : (a b : ℕ) → T (partner a b) → T (not (partner b a))
unfolding partner
one_way a b = by-partners (λ x y. T (not (partner y x))) tt tt tt a b

not-reversed : (lo hi : ℕ) (cs : List Rec) → Canonical lo hi cs → T (not (reversed (map alone cs)))
unfolding canonical
not-reversed lo hi cs c = rw (c.they_are, c.first_arm, c.second_arm) (one_way c.first.low c.second.low c.partners)

module _ (ns : List Node) (ok : kinds.Right ns) (j : ℕ) (lt : j < length (records ns)) where
  -- Each record of right trees side by side stands in the list with all that it counts, and is right.
  pub stands : Stands (records ns) j
  stands =
      let fine = owning.fine ns ok in
      let k = kept ns fine in
      let n = get_or (all ns) j no_node in
      let turn = turned n.kind n.items in
      let in_all : j < length (all ns) = omega (arith, length-map (all ns) record_of) in
      let (rest, e) = leads-at j no_node in_all (leads-all ns) in
      let its : get_or (records ns) j blank ≡ record_of n = k.stands j lt in
      let kin : children (records ns) j ≡ map record_of (below n) = k.beneath j lt in
      let room : j + (record_of n).size ≤ length (records ns) =
      omega (arith, length-map (all ns) record_of, length-drop j (all ns), ap length e, length-append (nodes n) rest) in
      let keeps : Keeps Spelled n = all-at j no_node in_all (all-concat (each_all (Keeps Spelled) (roots ns) ok.spelled)) in
      let place = all-at j no_node in_all (all-concat (bounded (roots ns) 0 ok.ordered fine.marked)) in
      let ordered : Ordered (record_of n).start (record_of n).stop (map record_of (kids n.items)) =
      subst (λ (r : Rec). Ordered r.start r.stop (map record_of (kids n.items))) its (k.ordered j lt) in
      let its-right : Right (record_of n) (map record_of (below n)) =
      record {
        formed = formed n keeps;
        exchanged = λ q. subst (λ cs. T (not (reversed (map alone cs)))) kin
            (not-reversed (get_or (records ns) j blank).start (get_or (records ns) j blank).stop (children (records ns) j)
            ((owning.law-3 ns ok).canonical j lt (ap (λ r. r.kind) its ∙ q)));
        adds = adds n;
        place = λ _. place.some;
        inside = subst (All (Inside (record_of n))) (sym (arrange-map record_of turn (kids n.items)))
            (all-arrange turn (inside-kids (record_of n) (record_of n).start (kids n.items) (omega arith) ordered));
      } in
      record {
        room = subst (λ (r : Rec). j + r.size ≤ length (records ns)) (sym its) room;
        some = subst (All Counts) (sym kin) (kids-count (below n));
        right = rw (its, kin) its-right;
      }

-- The records of one function form a whole.
pub one_function : (n : Node) → n.kind ≡ kind.Function → kinds.Right (n ∷ []) → Whole (records (n ∷ []))
one_function n e ok =
    record {
      top = rw e tt;
      counts_all = omega (arith, length-map (all (n ∷ [])) record_of, length-append (nodes n) []);
      each = λ j lt. (stands (n ∷ []) ok j lt).right;
    }

-- Right trees that are items, none of whose tokens ends past a file of so many bytes.
module _ (ns : List Node) (len : ℕ) (ok : kinds.Right ns) (within : end 0 (tokens ns) ≤ len) (items : Program (sorts (roots ns))) where
  abbrev top : Rec
  top = program len (records ns)

  abbrev rs : List Rec
  rs = filed len (records ns)

  kin : children rs 0 ≡ map record_of (kids (roots ns))
  kin = its-children Spelled Program ns (owning.fine ns ok) ok.spelled len within items

  -- The record of the program counts them as a node above them would.
  top-adds : top.size ≡ suc (sizes (map record_of (kids (roots ns))))
  unfolding turned
  top-adds = let e = adds (node kind.Program 0 0 (roots ns)) in omega (arith, e, length-map (all ns) record_of)

  top_right : Right top (map record_of (kids (roots ns)))
  top_right =
      record {
        formed = formed-program ns items;
        exchanged = λ q. absurd (omega arith);
        adds = top-adds;
        place = λ n. absurd (n refl);
        inside = inside-kids top 0 (kids (roots ns)) (omega arith) (subst (Ordered 0 len) kin (owning.law-3-file ns len ok within items).ordered);
      }

  -- The records of the file form a whole.
  pub whole-file : Whole (filed len (records ns))
  whole-file = record { top = tt; counts_all = omega arith; each = each }
    where
      each : (j : ℕ) → j < length rs → Right (get_or rs j blank) (children rs j)
      each zero lt = subst (Right top) (sym kin) top_right
      each (suc j) lt = (stands ns ok j (omega arith)).right
