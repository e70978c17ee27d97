-- Arms that are partners written the other way round: the match that has them is turned, and so are its words.
-- Assumes nothing.
use Rattle.std.proofs.Common.{◌≡◌, ℕ, suc, ◌+◌, ◌*◌, ◌≤◌, Bool, true, false, cond, ◌&&◌, T, eqb, List, [], ◌∷◌, ◌++◌, length, sym, refl, ap, ◌∙◌, ap₂, append-nil, arith, length-append, eq-eqb, ne_eqb}
use lib.Seq.{sets, length-sets}
use Rattle.own.specs.Tree as own
use Rattle.own.specs.Tree.{Tok, Items, mark, sub, Node, node, kids, partner, canonical, reversed, turned, arrange, concat}
use Rattle.own.specs.Law.{Sort, word, child, sorts}
use Rattle.text.specs.Widths.{rec_wide}
use Rattle.own.specs.Words.{rec_then, sizes, word_groups}
use Rattle.own.proofs.Partners.{by-partners}
use Rattle.own.specs.Kinds as kind
use Rattle.grammar.specs.Records.Faults.{arm_lows}
use Rattle.parse.specs.Contract.{Turned}
use Rattle.parse.specs.Infos.{Armed, pair_arm, order_from, order_kind, first_node, Arranged, exchanged, stayed}
use Rattle.parse.specs.Orders as order
use Rattle.text.proofs.Sets.{sets-append}
use Rattle.parse.proofs.Rule.Lists.{joined, groups-joined, sizes-joined, length-words}
use Rattle.parse.proofs.arms.Laws.{Means, no_arm, one_arm, enum_arms, two_arms, more_arms, both_sorts, order-means, pair-range}

pub kids-joined : (r s : Items) → kids (joined r s) ≡ kids r ++ kids s
kids-joined own.none s = refl
kids-joined (mark t r) s = kids-joined r s
kids-joined (sub k l h js r) s = let e = kids-joined r s in cc

-- What stands before the arms: a token, an expression, a token.
pub record Scrutiny (P : Items) : Type 0 where
  pub its : Node
  pub words : List ℕ
  pub kids_is : kids P ≡ its ∷ []
  pub groups_is : word_groups P ≡ words ∷ []

pub no_pieces : (P : Items) → sorts P ≡ [] → P ≡ own.none
no_pieces own.none e = refl
no_pieces (mark t r) e = let z : suc (length (sorts r)) ≡ 0 = ap length e in absurd (omega arith)
no_pieces (sub k l h js r) e = let z : suc (length (sorts r)) ≡ 0 = ap length e in absurd (omega arith)

-- The pieces of items, taken apart.
piece-rest : (t : Tok) (r : Items) {a : ℕ} {w : List Sort} → sorts (mark t r) ≡ word a ∷ w → sorts r ≡ w
piece-rest t r e = cc

part-rest : (k l h : ℕ) (js r : Items) {k' l' h' c' : ℕ} {w : List Sort} → sorts (sub k l h js r) ≡ child k' l' h' c' ∷ w → sorts r ≡ w
part-rest k l h js r e = cc

no-mark : (t : Tok) (r : Items) {k l h c : ℕ} {w : List Sort} → sorts (mark t r) ≡ child k l h c ∷ w → ⊥
no-mark t r e = let z : ◌≡◌ {A = ℕ} 0 1 = cc in omega arith

no_sub : (k l h : ℕ) (js r : Items) {a : ℕ} {w : List Sort} → sorts (sub k l h js r) ≡ word a ∷ w → ⊥
no_sub k l h js r e = let z : ◌≡◌ {A = ℕ} 0 1 = cc in omega arith

last-mark : (P : Items) {b : ℕ} → sorts P ≡ word b ∷ [] → (kids P ≡ []) × (word_groups P ≡ [])
last-mark own.none e = let z : ◌≡◌ {A = ℕ} 0 1 = ap length e in absurd (omega arith)
last-mark (mark t r) e = let z = no_pieces r (piece-rest t r e) in rw z (refl, refl)
last-mark (sub k l h js r) e = absurd (no_sub k l h js r e)

then-part : (P : Items) {k l h c b : ℕ} → sorts P ≡ child k l h c ∷ word b ∷ [] → Scrutiny P
then-part own.none e = let z : ◌≡◌ {A = ℕ} 0 2 = ap length e in absurd (omega arith)
then-part (mark t r) e = absurd (no-mark t r e)
then-part (sub k l h js r) e =
    let z = last-mark r (part-rest k l h js r e) in
    record {
      its = node k l h js;
      words = concat (word_groups (sub k l h js own.none));
      kids_is = ap (λ u. node k l h js ∷ u) z.0;
      groups_is = ap₂ (λ (u : List ℕ) (v : List (List ℕ)). u ∷ v) (sym (append-nil (rec_then k (own.begin (own.yield js)) (own.end 0 (own.yield js)) l h (1 + sizes js) (concat (arrange (turned k js) (word_groups js)))))) z.1;
    }

pub scrutiny : (P : Items) {a k l h c b : ℕ} → sorts P ≡ word a ∷ child k l h c ∷ word b ∷ [] → Scrutiny P
scrutiny own.none e = let z : ◌≡◌ {A = ℕ} 0 3 = ap length e in absurd (omega arith)
scrutiny (mark t r) e = let z = then-part r (piece-rest t r e) in record { its = z.its; words = z.words; kids_is = z.kids_is; groups_is = z.groups_is }
scrutiny (sub k l h js r) e = absurd (no_sub k l h js r e)

-- Two parts and nothing else.
pub record Two (A : Items) (k₁ l₁ h₁ k₂ l₂ h₂ : ℕ) : Type 0 where
  pub j₁ : Items
  pub j₂ : Items
  pub is : A ≡ sub k₁ l₁ h₁ j₁ (sub k₂ l₂ h₂ j₂ own.none)

part-is : (k l h : ℕ) (js r : Items) {k' l' h' c' : ℕ} {w : List Sort} → sorts (sub k l h js r) ≡ child k' l' h' c' ∷ w → (k ≡ k') × (l ≡ l') × (h ≡ h')
part-is k l h js r e = (cc, cc, cc)

one_part : (A : Items) {k l h c : ℕ} → sorts A ≡ child k l h c ∷ [] → (js : Items) × (A ≡ sub k l h js own.none)
one_part own.none e = let z : ◌≡◌ {A = ℕ} 0 1 = ap length e in absurd (omega arith)
one_part (mark t r) e = absurd (no-mark t r e)
one_part (sub k l h js r) e =
    let p = part-is k l h js r e in
    (js, λ i. sub (p.0 i) (p.1 i) (p.2 i) js (no_pieces r (part-rest k l h js r e) i))

pub two-parts : (A : Items) {k₁ l₁ h₁ c₁ k₂ l₂ h₂ c₂ : ℕ} → sorts A ≡ child k₁ l₁ h₁ c₁ ∷ child k₂ l₂ h₂ c₂ ∷ [] → Two A k₁ l₁ h₁ k₂ l₂ h₂
two-parts own.none e = let z : ◌≡◌ {A = ℕ} 0 2 = ap length e in absurd (omega arith)
two-parts (mark t r) e = absurd (no-mark t r e)
two-parts (sub k l h js r) e =
    let p = part-is k l h js r e in
    let q = one_part r (part-rest k l h js r e) in
    record { j₁ = js; j₂ = q.0; is = λ i. sub (p.0 i) (p.1 i) (p.2 i) js (q.1 i) }

-- The arms are no partners in both orders.
partner-one : (a b : ℕ) → T (partner a b) → partner b a ≡ false
unfolding partner
partner-one a b = by-partners (λ x y. partner y x ≡ false) refl refl refl a b

-- The order of two arms is `Turned` where they are partners the other way round.
pair-nine : (a b : ℕ) → partner b a ≡ eqb (pair_arm a b) order.Turned
unfolding pair_arm
pair-nine a b = go (partner a b) (partner b a) (partner-one a b)
  where
    go : (p q : Bool) → (T p → q ≡ false) → q ≡ eqb (cond p order.Paired (cond q order.Turned order.Unpaired)) order.Turned
    go true q f = f tt
    go false true f = refl
    go false false f = refl

-- More than two arms are never turned.
many-parts : (e : Node) (ns : List Node) → 3 ≤ length ns → reversed (e ∷ ns) ≡ false
many-parts e [] h = absurd (omega arith)
many-parts e (a ∷ []) h = absurd (omega arith)
many-parts e (a ∷ b ∷ []) h = absurd (omega arith)
many-parts e (a ∷ b ∷ c ∷ l) h = refl

lows-kids : (A : Items) → length (arm_lows (sorts A)) ≤ length (kids A)
unfolding arm_lows
lows-kids own.none = omega arith
lows-kids (mark t r) = lows-kids r
lows-kids (sub k l h js r) = go (eqb k kind.BuiltinArm) (lows-kids r)
  where
    go : (b : Bool) → length (arm_lows (sorts r)) ≤ length (kids r) → length (cond b (l ∷ arm_lows (sorts r)) (arm_lows (sorts r))) ≤ suc (length (kids r))
    go true e = omega arith
    go false e = omega arith

turned_by : (o : ℕ) (e : Node) (A : Items) → Means o (sorts A) → (eqb (order_kind o) kind.Match && reversed (e ∷ kids A)) ≡ eqb o order.Turned
unfolding order_kind canonical
turned_by o e A (no_arm p q) = rw (p, no_pieces A q) refl
turned_by o e A (one_arm h c p q f) =
    let z = one_part A f in
    rw (z.1, ne_eqb o order.Enums (λ u. omega arith), ne_eqb o order.Mixed (λ u. omega arith), ne_eqb o order.Turned (λ u. omega arith)) refl
turned_by o e A (enum_arms p q f) = rw p refl
turned_by o e A (two_arms a h c b h' c' p q f g) =
    let z = two-parts A g in
    let r = pair-range a b in
    rw (z.is, ne_eqb o order.Enums (λ u. omega (arith, r.0)), ne_eqb o order.Mixed (λ u. omega (arith, r.1))) (rw f (pair-nine a b))
turned_by o e A (more_arms p q f) = rw (p, many-parts e (kids A) (omega (arith, lows-kids A))) refl
turned_by o e A (both_sorts p q f) = rw p refl

-- A match is turned where the order of its arms is `Turned`.
pub match-turned : (P A : Items) (y : Tok) → Scrutiny P → Armed (sorts A) → turned (order_kind (order_from 0 (sorts A))) (joined P (joined A (mark y own.none))) ≡ eqb (order_from 0 (sorts A)) order.Turned
unfolding turned
match-turned P A y s a =
    ap (λ (u : List Node). eqb (order_kind (order_from 0 (sorts A))) kind.Match && reversed u)
    (kids-joined P (joined A (mark y own.none)) ∙ ap₂ (λ (u v : List Node). u ++ v) s.kids_is (kids-joined A (mark y own.none) ∙ append-nil (kids A)))
    ∙ turned_by (order_from 0 (sorts A)) s.its A (order-means (sorts A) a)

-- The arms of that order are two.
pub record Pair (A : Items) : Type 0 where
  pub k₁ : ℕ
  pub l₁ : ℕ
  pub h₁ : ℕ
  pub k₂ : ℕ
  pub l₂ : ℕ
  pub h₂ : ℕ
  pub parts : Two A k₁ l₁ h₁ k₂ l₂ h₂

pub nine-two : (A : Items) → Armed (sorts A) → order_from 0 (sorts A) ≡ order.Turned → Pair A
nine-two A a e = go (order-means (sorts A) a)
  where
    go : Means (order_from 0 (sorts A)) (sorts A) → Pair A
    go (no_arm p q) = absurd (omega arith)
    go (one_arm h c p q f) = absurd (omega arith)
    go (enum_arms p q f) = absurd (omega arith)
    go (two_arms x h c y h' c' p q f g) = record { k₁ = kind.BuiltinArm; l₁ = x; h₁ = h; k₂ = kind.BuiltinArm; l₂ = y; h₂ = h'; parts = two-parts A g }
    go (more_arms p q f) = absurd (omega arith)
    go (both_sorts p q f) = absurd (omega arith)

-- The words of a node.
abbrev node_text : ℕ → ℕ → ℕ → Items → List ℕ
node_text k l h js = rec_then k (own.begin (own.yield js)) (own.end 0 (own.yield js)) l h (1 + sizes js) (concat (arrange (turned k js) (word_groups js)))

node-length : (k l h : ℕ) (js : Items) → length (node_text k l h js) ≡ rec_wide * (1 + sizes js)
node-length k l h js = omega (arith, length-words (sub k l h js own.none), length-append (node_text k l h js) [])

-- The words of the two arms, exchanged behind those before them.
module _ (P : Items) (s : Scrutiny P) (k₁ l₁ h₁ k₂ l₂ h₂ : ℕ) (j₁ j₂ : Items) (y : Tok) where
  abbrev these : Items
  these = joined P (joined (sub k₁ l₁ h₁ j₁ (sub k₂ l₂ h₂ j₂ own.none)) (mark y own.none))

  three-groups : word_groups these ≡ s.words ∷ node_text k₁ l₁ h₁ j₁ ∷ node_text k₂ l₂ h₂ j₂ ∷ []
  three-groups = groups-joined P (joined (sub k₁ l₁ h₁ j₁ (sub k₂ l₂ h₂ j₂ own.none)) (mark y own.none)) ∙ ap (λ (u : List (List ℕ)). u ++ (node_text k₁ l₁ h₁ j₁ ∷ node_text k₂ l₂ h₂ j₂ ∷ [])) s.groups_is

  first-length : length s.words ≡ rec_wide * sizes P
  first-length = omega (arith, length-append s.words [], ap (λ (u : List (List ℕ)). length (concat u)) s.groups_is, length-words P)

  pub exchanges : (l : List ℕ) {m m' : List ℕ} (r : ℕ) {from mid to : ℕ} → length m ≡ length l → rec_wide * to ≤ length l → m ≡ sets l (rec_wide * r) (concat (word_groups these))
      → from ≡ r + sizes P → mid ≡ from + (1 + sizes j₁) → to ≡ mid + (1 + sizes j₂) → Turned m from mid to m' → m' ≡ sets l (rec_wide * r) (concat (arrange true (word_groups these)))
  exchanges l {m} {m'} r {from} {mid} {to} n f e a b c v =
      let g : List ℕ = s.words in
      let u : List ℕ = node_text k₁ l₁ h₁ j₁ in
      let w : List ℕ = node_text k₂ l₂ h₂ j₂ in
      let i : rec_wide * r + length g ≡ rec_wide * from = omega (arith, first-length) in
      let e₁ : m ≡ sets l (rec_wide * r) (g ++ (u ++ w)) = e ∙ ap (λ (z : List (List ℕ)). sets l (rec_wide * r) (concat z)) three-groups ∙ ap (λ (z : List ℕ). sets l (rec_wide * r) (g ++ (u ++ z))) (append-nil w) in
      let e₂ : m ≡ sets (sets l (rec_wide * r) g) (rec_wide * from) (u ++ w) = e₁ ∙ sets-append g (u ++ w) l (rec_wide * r) ∙ ap (λ (z : ℕ). sets (sets l (rec_wide * r) g) z (u ++ w)) i in
      let e₃ : m' ≡ sets (sets l (rec_wide * r) g) (rec_wide * from) (w ++ u) =
      v.turn (sets l (rec_wide * r) g) u w (omega arith) (length-sets l (rec_wide * r) g ∙ sym n) e₂ (omega (arith, node-length k₁ l₁ h₁ j₁)) (omega (arith, node-length k₂ l₂ h₂ j₂)) in
      e₃ ∙ ap (λ (z : ℕ). sets (sets l (rec_wide * r) g) z (w ++ u)) (sym i) ∙ sym (sets-append g (w ++ u) l (rec_wide * r))
      ∙ ap (λ (z : List ℕ). sets l (rec_wide * r) (g ++ (w ++ z))) (sym (append-nil u))
      ∙ ap (λ (z : List (List ℕ)). sets l (rec_wide * r) (concat (arrange true z))) (sym three-groups)

-- What `arrange` leaves: as many words as before,
pub arranges-long : {o k : ℕ} {m m' : List ℕ} {from mid to : ℕ} → length m ≡ k → Arranged o m from mid to m' → length m' ≡ k
arranges-long n (exchanged o v) = v.long ∙ n
arranges-long n (stayed o q) = ap length q ∙ n

-- and those of the match as they are handed over.
module _ (P A : Items) (y : Tok) (s : Scrutiny P) (a : Armed (sorts A)) (l : List ℕ) (r : ℕ) {m m' : List ℕ} {from mid to : ℕ} (n : length m ≡ length l)
    (e : rec_wide * to ≤ length l → m ≡ sets l (rec_wide * r) (concat (word_groups (joined P (joined A (mark y own.none))))))
    (f : from ≡ r + sizes P) (g : mid ≡ from + sizes (first_node A)) (h : to ≡ r + sizes (joined P (joined A (mark y own.none)))) where
  arranges-nine : order_from 0 (sorts A) ≡ order.Turned → Turned m from mid to m' → rec_wide * to ≤ length l → m' ≡ sets l (rec_wide * r) (concat (arrange true (word_groups (joined P (joined A (mark y own.none))))))
  arranges-nine o v q =
      let p = nine-two A a o in
      let t = p.parts in
      let L : Items → Items = λ B. joined P (joined B (mark y own.none)) in
      let B : Items = sub p.k₁ p.l₁ p.h₁ t.j₁ (sub p.k₂ p.l₂ p.h₂ t.j₂ own.none) in
      let e₁ : m ≡ sets l (rec_wide * r) (concat (word_groups (L B))) = e q ∙ ap (λ (z : Items). sets l (rec_wide * r) (concat (word_groups (L z)))) t.is in
      let m₁ : sizes (first_node A) ≡ 1 + sizes t.j₁ + 0 = ap (λ (z : Items). sizes (first_node z)) t.is in
      let s₁ : sizes (L A) ≡ sizes P + sizes (joined A (mark y own.none)) = sizes-joined P (joined A (mark y own.none)) in
      let s₂ : sizes (joined A (mark y own.none)) ≡ 1 + sizes t.j₁ + (1 + sizes t.j₂ + 0) = ap (λ (z : Items). sizes (joined z (mark y own.none))) t.is in
      exchanges P s p.k₁ p.l₁ p.h₁ p.k₂ p.l₂ p.h₂ t.j₁ t.j₂ y l r n q e₁ f (omega arith) (omega arith) v
      ∙ ap (λ (z : Items). sets l (rec_wide * r) (concat (arrange true (word_groups (L z))))) (sym t.is)

  pub arranges : Arranged (order_from 0 (sorts A)) m from mid to m' → rec_wide * to ≤ length l
      → m' ≡ sets l (rec_wide * r) (concat (arrange (turned (order_kind (order_from 0 (sorts A))) (joined P (joined A (mark y own.none)))) (word_groups (joined P (joined A (mark y own.none))))))
  arranges v q =
      go v ∙ ap (λ (b : Bool). sets l (rec_wide * r) (concat (arrange b (word_groups (joined P (joined A (mark y own.none))))))) (sym (match-turned P A y s a))
    where
      go : Arranged (order_from 0 (sorts A)) m from mid to m' → m' ≡ sets l (rec_wide * r) (concat (arrange (eqb (order_from 0 (sorts A)) order.Turned) (word_groups (joined P (joined A (mark y own.none))))))
      go (exchanged o v) = rw (eq-eqb (order_from 0 (sorts A)) order.Turned o) (arranges-nine o v q)
      go (stayed o p) = rw (ne_eqb (order_from 0 (sorts A)) order.Turned o) (p ∙ e q)
