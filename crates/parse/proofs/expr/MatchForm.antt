-- A match: its rule, the steps through it, and its record, whose arms may be exchanged.
-- Assumes nothing.
use Rattle.std.proofs.Common.{◌≡◌, ℕ, ◌+◌, ◌-◌, ◌*◌, ◌≤◌, Bool, true, false, cond, ◌||◌, T, eqb, List, [], ◌∷◌, length, sym, refl, ap, ◌∙◌, subst, ap₂, arith}
use mathlib.Core.Option.{none}
use lib.Seq.{sets}
use Rattle.theory.specs.Grammar.{Sym, tok, nt, look, row, alt, pick}
use Rattle.theory.specs.Machine.{choose}
use Rattle.theory.specs.Ebnf.{kinds_of}
use Rattle.theory.specs.Same.{ex}
use Rattle.own.specs.Tree as own
use Rattle.own.specs.Tree.{Tok, Items, mark, sub, Each, marks, turned, arrange, concat}
use Rattle.own.specs.Law.{Sort, word, child, sorts}
use Rattle.text.specs.Widths.{rec_wide}
use Rattle.own.specs.Words.{sizes, word_groups}
use Rattle.own.specs.Kinds as kind
use Rattle.grammar.specs.Shapes.Shapes.{shapes}
use Rattle.grammar.specs.Shapes.Tables.{means, table}
use Rattle.grammar.specs.Records.Records.{head, plain, Role, placed, arranged, form_of}
use Rattle.grammar.specs.Records.Faults.{faults_at, earliest}
use Rattle.grammar.specs.Shapes.ShapeKind.{MatchShape}
use Rattle.grammar.specs.Shapes.TablesIndex.{n-expression, n-many-arm, n-single}
use Rattle.lexer.specs.Classes as t
use Rattle.parse.specs.Contract.{Text, tok_at, raw, fault_at, Moved, Eaten, Holds, Put, Judged, as_items, Went, Parsed, Node, ExprKind}
use Rattle.parse.specs.Infos.{Armed, Arms, order_from, order_kind, order_fault, first_node, Arranged}
use Rattle.parse.specs.declared.State.{State}
use Rattle.parse.specs.declared.Step.{Step}
use Rattle.parse.specs.declared.Step.TheVariants.{Next}
use Rattle.parse.specs.Choice as choice
use Rattle.parse.specs.Orders as order
use Rattle.parse.proofs.choice.Chosen.{only-class}
use Rattle.parse.proofs.Rule.Marks.{keeping, keeping-mark, sign-mark}
use Rattle.parse.proofs.Rule.Lists.{joined}
use Rattle.parse.proofs.Rule.Amid.{Amid, Grown, grows, went}
use Rattle.parse.proofs.Rule.Steps.{decided}
use Rattle.parse.proofs.Rule.Closing.{shuts-in, Rule}
use Rattle.parse.proofs.Rule.Entered.{Entered, first, whole}
use Rattle.parse.proofs.Rule.Chain.{Noded, then-node, eaten, grown-eats, then-eats}
use Rattle.parse.proofs.Rule.Commas.{AnyN}
use Rattle.parse.proofs.Rule.Heads.{judged-stands, judged-kept}
use Rattle.parse.proofs.arms.Laws.{whole_match, match-kind, match-fault}
use Rattle.parse.proofs.arms.Turned.{scrutiny, arranges, arranges-long}

abbrev pub match_rhs : List Sym
match_rhs = tok t.Match ∷ nt n-expression ∷ tok t.LBrace ∷ nt n-many-arm ∷ tok t.RBrace ∷ []

pub match-rule : Rule n-single choice.Match MatchShape match_rhs
unfolding ex means kinds_of shapes row table alt pick
match-rule = record { category = refl; from_one = refl; kind = refl; rule = refl }

pub at-match : (c : ℕ) → choose table n-single c ≡ choice.Match → c ≡ t.Match
unfolding choose row table look
at-match c e = only-class n-single choice.Match t.Match tt tt c e

-- The kind of a match: it keeps all tokens, and is that of an expression.
kinds-two : (P : ℕ → Type 0) → P kind.Match → P kind.EnumMatch → (b : Bool) → P (cond b kind.EnumMatch kind.Match)
kinds-two P p q true = q
kinds-two P p q false = p

pub order-keeping : (o : ℕ) → T (keeping (order_kind o))
unfolding order_kind
order-keeping o = kinds-two (λ k. T (keeping k)) tt tt (eqb o order.Enums || eqb o order.Mixed)

pub order-expr : (o : ℕ) → ExprKind (order_kind o)
unfolding order_kind
order-expr o = kinds-two ExprKind (omega arith, omega arith, λ e. omega arith, λ e. omega arith) (omega arith, omega arith, λ e. omega arith, λ e. omega arith) (eqb o order.Enums || eqb o order.Mixed)

-- Records of such a kind hold the items as they are,
pub arranged-keeping : (K n : ℕ) → T (keeping K) → (is : Items) → arranged K n is ≡ is
unfolding arranged placed
arranged-keeping K n h own.none = refl
arranged-keeping K n h (mark y r) = ap₂ (λ (ρ : Role) (u : Items). placed ρ n y u) (keeping-mark K y.class h) (arranged-keeping K n h r)
arranged-keeping K n h (sub k l i js r) = ap (sub k l i js) (arranged-keeping K n h r)

-- and arms have no tokens of their own.
pub arranged-arms : (K n : ℕ) (A : Items) → Armed (sorts A) → arranged K n A ≡ A
unfolding arranged
arranged-arms K n own.none a = refl
arranged-arms K n (mark y r) a = absurd a
arranged-arms K n (sub k l h js r) a = ap (sub k l h js) (arranged-arms K n r a.1)

pub marks-arms : (A : Items) → Armed (sorts A) → marks A ≡ []
marks-arms own.none a = refl
marks-arms (mark y r) a = absurd a
marks-arms (sub k l h js r) a = marks-arms r a.1

pub joined-assoc : (p q r : Items) → joined (joined p q) r ≡ joined p (joined q r)
joined-assoc own.none q r = refl
joined-assoc (mark y p) q r = ap (mark y) (joined-assoc p q r)
joined-assoc (sub k l h js p) q r = ap (sub k l h js) (joined-assoc p q r)

-- The steps: `match`,
module _ {x : Text} (K : ℕ) {st r a : State} (l : List ℕ) (n : Entered n-single choice.Match MatchShape match_rhs x st r none) (v : Moved x r a) where
  pub match₁ : Amid x K AnyN match_rhs (nt n-expression ∷ tok t.LBrace ∷ nt n-many-arm ∷ tok t.RBrace ∷ []) r l (word t.Match ∷ []) (tok_at x r.at ∷ []) 1 a l
  match₁ = first K AnyN t.Match l n.opened (at-match st.class n.chosen) (omega arith) v (sign-mark K t.Match tt)

  -- an expression,
  module _ {l₁ : List ℕ} {s₁ : Step} {b : State} {i j : ℕ} (p₁ : Parsed x (nt n-expression ∷ []) as_items (Node ExprKind) a l l₁ s₁) (e₁ : s₁ ≡ Next b i j) where
    pub match₂ : Noded x K AnyN match_rhs (tok t.LBrace ∷ nt n-many-arm ∷ tok t.RBrace ∷ []) r l (word t.Match ∷ []) (tok_at x r.at ∷ []) 1 ExprKind b l₁
    match₂ = then-node match₁ p₁ e₁

    -- the brace.
    module _ {s₂ : Step} {d : State} {i' j' : ℕ} (p₂ : Eaten x b t.LBrace s₂) (e₂ : s₂ ≡ Next d i' j') where
      pub match₃ : Amid x K AnyN match_rhs (nt n-many-arm ∷ tok t.RBrace ∷ []) r l (word t.Match ∷ child match₂.kind match₂.low match₂.high match₂.first ∷ word t.LBrace ∷ []) (tok_at x r.at ∷ tok_at x b.at ∷ []) 2 d l₁
      match₃ = then-eats match₂.amid (omega arith) p₂ e₂ (sign-mark K t.LBrace tt)

-- All of a match: s₁ is what the expression answers, s₂ the brace, s₃ the arms,
module _ {x : Text} {st r a b d f : State} {l l₁ l₂ : List ℕ} {s₁ s₂ s₃ : Step} {order mid i₁ j₁ i₂ j₂ : ℕ} (n : Entered n-single choice.Match MatchShape match_rhs x st r none) (v : Moved x r a)
    (p₁ : Parsed x (nt n-expression ∷ []) as_items (Node ExprKind) a l l₁ s₁) (e₁ : s₁ ≡ Next b i₁ j₁) (p₂ : Eaten x b t.LBrace s₂) (e₂ : s₂ ≡ Next d i₂ j₂)
    (p₃ : Parsed x (nt n-many-arm ∷ []) as_items (Arms d) d l₁ l₂ s₃) (e₃ : s₃ ≡ Next f order mid) where
  abbrev K : ℕ
  K = order_kind order

  abbrev inner : Noded x K AnyN match_rhs (tok t.LBrace ∷ nt n-many-arm ∷ tok t.RBrace ∷ []) r l (word t.Match ∷ []) (tok_at x r.at ∷ []) 1 ExprKind b l₁
  inner = match₂ K l n v p₁ e₁

  abbrev third : Amid x K AnyN match_rhs (nt n-many-arm ∷ tok t.RBrace ∷ []) r l
      (word t.Match ∷ child inner.kind inner.low inner.high inner.first ∷ word t.LBrace ∷ []) (tok_at x r.at ∷ tok_at x b.at ∷ []) 2 d l₁
  third = match₃ K l n v p₁ e₁ p₂ e₂

  abbrev q : Went x (nt n-many-arm ∷ []) as_items (Arms d) d l₁ f l₂ order mid
  q = went e₃ p₃

  abbrev J : Items
  J = raw x d.at q.items

  abbrev pieces : List Sort
  pieces = whole_match inner.kind inner.low inner.high inner.first (sorts J)

  pub match₄ : Grown x K AnyN match_rhs (tok t.RBrace ∷ []) r l
      (word t.Match ∷ child inner.kind inner.low inner.high inner.first ∷ word t.LBrace ∷ sorts J)
      (tok_at x r.at ∷ tok_at x b.at ∷ []) (2 + q.m) f l₂ (joined third.L q.L)
  match₄ = grows (nt n-many-arm ∷ []) (tok t.RBrace ∷ []) third q (λ n h. arranged-arms K n J q.info.armed ∙ sym q.info.same) refl (ap (λ (u : List Tok). tok_at x r.at ∷ tok_at x b.at ∷ u) (marks-arms J q.info.armed)) refl

  third-sorts : sorts third.L ≡ word t.Match ∷ child inner.kind inner.low inner.high inner.first ∷ word t.LBrace ∷ []
  third-sorts = ap sorts (sym (third.roles 0 tt) ∙ arranged-keeping K 0 (order-keeping order) (raw x r.at third.pre)) ∙ third.sorted

  same-sorts : sorts q.L ≡ sorts J
  same-sorts = ap sorts q.info.same

  order-here : order ≡ order_from 0 (sorts q.L)
  order-here = q.info.order_is ∙ ap (order_from 0) (sym same-sorts)

  -- and s₄ the other brace.
  module _ {g : State} {s₄ : Step} {i₄ j₄ : ℕ} (p₄ : Eaten x f t.RBrace s₄) (e₄ : s₄ ≡ Next g i₄ j₄) where
    -- All symbols were read; what is laid is known.
    pub match₅ : Grown x K AnyN match_rhs [] r l pieces (tok_at x r.at ∷ tok_at x b.at ∷ tok_at x f.at ∷ []) (2 + q.m + 1) g l₂ (joined third.L (joined q.L (mark (tok_at x f.at) own.none)))
    match₅ =
        let e = eaten p₄ e₄ in
        let z = grown-eats t.RBrace (omega arith) match₄.amid e.0 e.1 (sign-mark K t.RBrace tt) in
        record { amid = z.amid; is = z.is ∙ ap (λ (u : Items). joined u (mark (tok_at x f.at) own.none)) match₄.is ∙ joined-assoc third.L q.L (mark (tok_at x f.at) own.none) }

    pub match-decides : decided x MatchShape pieces (tok_at x r.at ∷ tok_at x b.at ∷ tok_at x f.at ∷ []) ≡ head K 0 0
    unfolding form_of
    match-decides =
        match-kind _ _ inner.kind inner.low inner.high inner.first (sorts J) inner.its_kind.3 q.info.armed
        ∙ ap (λ (u : ℕ). plain (order_kind u)) (sym q.info.order_is)

    pub match-refuses : (is : Items) → sorts is ≡ pieces → marks is ≡ tok_at x r.at ∷ tok_at x b.at ∷ tok_at x f.at ∷ [] → earliest (faults_at x.draft MatchShape is) ≡ fault_at (order_fault order) st.start
    match-refuses is e₁' e₂' =
        match-fault x.draft is inner.kind inner.low inner.high inner.first (sorts J)
        inner.its_kind.2 inner.its_kind.3 q.info.armed e₁' e₂'
        ∙ ap₂ (λ (u i : ℕ). fault_at (order_fault u) (tok_at x i).start) (sym q.info.order_is) n.opened.at_is
        ∙ ap (fault_at (order_fault order)) (sym n.ready.stands.start_is)

    -- The words of the match, as `arrange` leaves them.
    module _ {l₃ : List ℕ} (u : Arranged order l₂ b.out mid g.out l₃) where
      abbrev M : Items
      M = joined third.L (joined q.L (mark (tok_at x f.at) own.none))

      its-arms : Armed (sorts q.L)
      its-arms = subst Armed (sym same-sorts) q.info.armed

      from_is : b.out ≡ r.out + sizes third.L
      from_is = sym (eaten p₂ e₂).1.out_is ∙ third.lays.sized

      mid-here : mid ≡ b.out + sizes (first_node q.L)
      mid-here = q.info.mid_is ∙ ap₂ (λ (n : ℕ) (w : Items). n + sizes (first_node w)) (eaten p₂ e₂).1.out_is (sym q.info.same)

      to_is : g.out ≡ r.out + sizes M
      to_is = match₅.amid.lays.sized ∙ ap (λ (w : Items). r.out + sizes w) match₅.is

      words-here : Each Holds match₅.amid.L → rec_wide * g.out ≤ length l → l₂ ≡ sets l (rec_wide * r.out) (concat (word_groups M))
      words-here v h = match₅.amid.lays.laid v h ∙ ap (λ (w : Items). sets l (rec_wide * r.out) (concat (word_groups w))) match₅.is

      here : Arranged (order_from 0 (sorts q.L)) l₂ b.out mid g.out l₃
      here = subst (λ (n : ℕ). Arranged n l₂ b.out mid g.out l₃) order-here u

      pub match-long : length l₃ ≡ length l
      match-long = arranges-long match₅.amid.lays.long u

      pub match-words : Each Holds match₅.amid.L → rec_wide * g.out ≤ length l → l₃ ≡ sets l (rec_wide * r.out) (concat (arrange (turned K match₅.amid.L) (word_groups match₅.amid.L)))
      match-words v h =
          arranges third.L q.L (tok_at x f.at) (scrutiny third.L third-sorts) its-arms l r.out match₅.amid.lays.long (words-here v) from_is mid-here to_is here h
          ∙ ap₂ (λ (n : ℕ) (w : Items). sets l (rec_wide * r.out) (concat (arrange (turned (order_kind n) w) (word_groups w)))) (sym order-here) (sym match₅.is)

      -- The record of the match.
      pub match-shut : {l' : List ℕ} {z : State} → Put l₃ st.out K st.start g.end 0 0 (g.out - st.out) l' → Judged st g (fault_at (order_fault order) st.start) z
          → Parsed x (nt n-single ∷ []) as_items (Node ExprKind) st l l' (Next z 0 0)
      match-shut put j =
          let y = n.ready in
          let o = n.opened in
          whole n (shuts-in MatchShape y o match₅.amid (omega arith) match-decides tt ExprKind (order-expr order) match-long match-words put refl (record { at_is = j.at_is; out_is = j.out_is })
          (judged-stands match₅.amid.lays.stands j) (judged-kept MatchShape y o match₅.amid (omega arith) match-decides tt j match-refuses))
