-- Arms side by side, as the loop of `arms` reads them.
-- Assumes nothing.
use Rattle.std.proofs.Common.{◌≡◌, ℕ, suc, ◌+◌, Bool, true, false, cond, eqb, List, [], ◌∷◌, ◌++◌, length, sym, refl, ap, ◌∙◌, subst, ap₂, arith, ne_eqb}
use types.Run.{OneOf}
use denote.Enum.Declared.{tag_of}
use Rattle.theory.specs.Grammar.{Sym, nt, look, row, alt, pick}
use Rattle.theory.specs.Machine.{choose, expand}
use Rattle.theory.specs.Ebnf.{sort_of}
use Rattle.theory.specs.Same.{ex}
use Rattle.own.specs.Tree as own
use Rattle.own.specs.Tree.{Tok, Items, mark, sub, marks}
use Rattle.own.specs.Law.{Sort, child, sorts, first_class}
use Rattle.own.specs.Words.{sizes}
use Rattle.grammar.specs.Shapes.Tables.{means, table}
use Rattle.grammar.specs.Records.Records.{arranged}
use Rattle.grammar.specs.Shapes.TablesIndex.{n-arm, n-many-arm}
use Rattle.lexer.specs.Classes as t
use Rattle.parse.specs.contracts.Step.{the_type}
use Rattle.parse.specs.Contract.{Text, raw, Ready, Info, as_items, Went, Parsed}
use Rattle.parse.specs.Infos.{Arm, Armed, Arms, after_arm, order_from, first_node}
use Rattle.parse.specs.declared.State.{State}
use Rattle.parse.specs.declared.Step.{Step}
use Rattle.parse.specs.declared.Step.TheVariants.{Next}
use Rattle.parse.proofs.Rule.Lists.{joined}
use Rattle.parse.proofs.Rule.Amid.{Amid, Grown, starts, grows, grown-turns, then-passed, went}
use Rattle.parse.proofs.Rule.Commas.{AnyN, arranged-zero, finish}
use Rattle.parse.proofs.choice.Chosen.{Forked, forked}
use Rattle.parse.proofs.arms.Laws.{order-snoc, order-none, armed-snoc}
use Rattle.parse.proofs.arms.Turned.{no_pieces}

-- The row of arms.
arms-choice : Forked n-many-arm t.RBrace [] (nt n-arm ∷ nt n-many-arm ∷ [])
unfolding sort_of ex means choose row look table alt pick
arms-choice = forked refl (λ c. refl) refl refl

-- The records of the first arm, with one arm more.
pub first-sizes : (A : Items) (k l h : ℕ) (js : Items) → Armed (sorts A)
    → sizes (first_node (joined A (sub k l h js own.none))) ≡ cond (eqb (order_from 0 (sorts A)) 0) (sizes (joined A (sub k l h js own.none))) (sizes (first_node A))
unfolding order_from
first-sizes own.none k l h js a = refl
first-sizes (mark t r) k l h js a = absurd a
first-sizes (sub k' l' h' js' r) k l h js a = rw (ne_eqb (order_from 0 (sorts (sub k' l' h' js' r))) 0 some-arm) refl
  where
    some-arm : order_from 0 (sorts (sub k' l' h' js' r)) ≡ 0 → ⊥
    some-arm e = let z : suc (length (sorts r)) ≡ 0 = ap length (order-none (sorts (sub k' l' h' js' r)) a e) in omega arith

-- The arms up to `here`.
pub record ArmsInv (x : Text) (st : State) (l : List ℕ) (here : State) (l₁ : List ℕ) (order mid : ℕ) : Type 0 where
  pub w : List Sort
  pub amid : Amid x 0 AnyN (nt n-many-arm ∷ []) (nt n-many-arm ∷ []) st l w [] 0 here l₁
  pub armed : Armed w
  pub order_is : order ≡ order_from 0 w
  pub mid_is : mid ≡ st.out + sizes (first_node amid.L)

-- What is laid are the records of what was read.
same-items : {x : Text} {full left : List Sym} {st : State} {l : List ℕ} {w : List Sort} {ms : List Tok} {m : ℕ} {here : State} {l₁ : List ℕ}
    → (d : Amid x 0 AnyN full left st l w ms m here l₁) → d.L ≡ raw x st.at d.pre
same-items {x} {st = st} d = sym (d.roles 0 tt) ∙ arranged-zero 0 (raw x st.at d.pre)

its-sorts : {x : Text} {full left : List Sym} {st : State} {l : List ℕ} {w : List Sort} {ms : List Tok} {m : ℕ} {here : State} {l₁ : List ℕ}
    → (d : Amid x 0 AnyN full left st l w ms m here l₁) → sorts d.L ≡ w
its-sorts d = ap sorts (same-items d) ∙ d.sorted

module _ {x : Text} {st : State} {l : List ℕ} (y : Ready x st) where
  pub arms-starts : ArmsInv x st l st l 0 st.out
  unfolding order_from
  arms-starts =
      let d = starts 0 AnyN (nt n-many-arm ∷ []) l y.stands in
      let z : sizes (first_node d.L) ≡ 0 = ap (λ (u : Items). sizes (first_node u)) (no_pieces d.L (its-sorts d)) in
      record { w = []; amid = d; armed = tt; order_is = refl; mid_is = omega arith }

  module _ {here : State} {l₁ : List ℕ} {order mid : ℕ} (v : ArmsInv x st l here l₁ order mid) where
    -- The arms end at the brace,
    pub arms-ends : here.class ≡ t.RBrace → Went x (nt n-many-arm ∷ []) as_items (Arms st) st l here l₁ order mid
    arms-ends c =
        let g = grown-turns [] v.amid arms-choice.flat (ap (expand table n-many-arm) (sym v.amid.lays.stands.class_is) ∙ arms-choice.there here.class c) in
        let d = g.amid in
        finish d (record {
          same = same-items d;
          armed = subst Armed (sym d.sorted) v.armed;
          order_is = v.order_is ∙ ap (order_from 0) (sym d.sorted);
          mid_is = v.mid_is ∙ ap (λ (u : Items). st.out + sizes (first_node u)) (sym g.is ∙ same-items d);
        })

    module _ (n : here.class ≡ t.RBrace → ⊥) where
      into : Grown x 0 AnyN (nt n-many-arm ∷ []) (nt n-arm ∷ nt n-many-arm ∷ []) st l v.w [] 0 here l₁ v.amid.L
      into = grown-turns (nt n-arm ∷ nt n-many-arm ∷ []) v.amid arms-choice.flat (ap (expand table n-many-arm) (sym v.amid.lays.stands.class_is) ∙ arms-choice.elsewhere here.class n)

      -- or an arm is refused,
      pub arms-passed : {J : Info} {l₂ l' : List ℕ} {r : Step} → OneOf (1 ∷ []) (tag_of the_type r) → Parsed x (nt n-arm ∷ []) as_items Arm here l₁ l₂ r → Parsed x (nt n-many-arm ∷ []) as_items J st l l' r
      arms-passed k p = then-passed into.amid k (λ τ q h. h) p

      -- or there is one arm more.
      pub arms-again : {l₂ : List ℕ} {r : Step} {a : State} {kind low order' mid' : ℕ} → Parsed x (nt n-arm ∷ []) as_items Arm here l₁ l₂ r → r ≡ Next a kind low
          → order' ≡ after_arm order kind low → mid' ≡ cond (eqb order 0) a.out mid → ArmsInv x st l a l₂ order' mid'
      unfolding arranged
      arms-again {l₂} {r} {a} {kind} {low} {order'} {mid'} p e f g =
          let q = went e p in
          let i = q.info in
          let c : ℕ = first_class (own.yield i.js) in
          let z : Grown x 0 AnyN (nt n-many-arm ∷ []) (nt n-many-arm ∷ []) st l (v.w ++ (child kind low i.high c ∷ [])) [] 0 a l₂ (joined into.amid.L q.L) =
          grows (nt n-arm ∷ []) (nt n-many-arm ∷ []) into.amid q (λ n h. ap (arranged 0 n) i.raw_is ∙ sym i.laid_is) (ap (λ u. v.w ++ sorts u) i.raw_is) (ap marks i.raw_is) (ap (λ (u : ℕ). 0 + u) i.none_left) in
          let A : Items = v.amid.L in
          let B : Items = sub kind low i.high i.js own.none in
          let L-is : z.amid.L ≡ joined A B = z.is ∙ ap₂ joined into.is i.laid_is in
          let o_is : order ≡ order_from 0 (sorts A) = v.order_is ∙ ap (order_from 0) (sym (its-sorts v.amid)) in
          let out_is : a.out ≡ st.out + sizes (joined A B) = z.amid.lays.sized ∙ ap (λ (u : Items). st.out + sizes u) L-is in
          let first : sizes (first_node (joined A B)) ≡ cond (eqb (order_from 0 (sorts A)) 0) (sizes (joined A B)) (sizes (first_node A)) =
          first-sizes A kind low i.high i.js (subst Armed (sym (its-sorts v.amid)) v.armed) in
          record {
            w = v.w ++ (child kind low i.high c ∷ []);
            amid = z.amid;
            armed = armed-snoc v.w kind low i.high c v.armed i.its_kind;
            order_is = f ∙ ap (λ (u : ℕ). after_arm u kind low) v.order_is ∙ sym (order-snoc 0 v.w kind low i.high c);
            mid_is = g ∙ by_order (eqb order 0) st.out (sizes (joined A B)) (sizes (first_node A)) out_is v.mid_is ∙ ap (λ (u : ℕ). st.out + u) (ap (λ (u : ℕ). cond (eqb u 0) (sizes (joined A B)) (sizes (first_node A))) o_is ∙ sym first) ∙ ap (λ (u : Items). st.out + sizes (first_node u)) (sym L-is);
          }
        where
          by_order : (b : Bool) (s m n : ℕ) {p q : ℕ} → p ≡ s + m → q ≡ s + n → cond b p q ≡ s + cond b m n
          by_order true s m n e f = e
          by_order false s m n e f = f
