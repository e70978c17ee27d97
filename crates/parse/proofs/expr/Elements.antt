-- The elements of a block, as a loop reads them; and expressions of which it matters whether there is one without a comma.
-- Assumes nothing.
use Rattle.std.proofs.Common.{◌≡◌, ℕ, suc, ◌+◌, ◌-◌, ◌<◌, Bool, true, false, cond, not, ◌&&◌, eqb, List, [], ◌∷◌, ◌++◌, length, sym, refl, ap, ◌∙◌, subst, arith}
use mathlib.Core.Option.{some}
use types.Run.{OneOf}
use denote.Enum.Declared.{tag_of}
use Rattle.theory.specs.Grammar.{Sym, tok, nt, on, look, row, alt, pick}
use Rattle.theory.specs.Machine.{choose, expand}
use Rattle.theory.specs.Ebnf as shape
use Rattle.theory.specs.Ebnf.{sort_of}
use Rattle.theory.specs.Same.{ex}
use Rattle.own.specs.Tree.{Tok}
use Rattle.own.specs.Law.{Sort, word, child}
use Rattle.lexer.specs.Classes as t
use Rattle.grammar.specs.Shapes.Tables.{means, table}
use Rattle.grammar.specs.Records.Records.{sees, part_count, lone, unended}
use Rattle.grammar.specs.Shapes.TablesIndex.{n-assignment, n-elements, n-elements-optional-Semi, n-expression, n-list-expression}
use Rattle.parse.specs.contracts.Step.{the_type}
use Rattle.parse.specs.Contract.{Text, tok_at, raw, Stands, Ready, Moved, Eaten, Info, as_items, Went, Parsed, Node, ExprKind, Only}
use Rattle.parse.specs.Infos.{LetKind, Elements, Lone}
use Rattle.parse.specs.declared.State.{State}
use Rattle.parse.specs.declared.Step.{Step}
use Rattle.parse.specs.declared.Step.TheVariants.{Next}
use Rattle.parse.proofs.choice.Chosen.{Optionally, optionally, hit, miss, goes}
use Rattle.parse.proofs.Rule.Marks.{sign-mark}
use Rattle.parse.proofs.Rule.Amid.{inside, Amid, starts, then-passed, went}
use Rattle.parse.proofs.Rule.Told.{Told, then-told}
use Rattle.parse.proofs.Rule.Chain.{turns, Noded, then-node, advances, eaten, then-eats, then-lacks}
use Rattle.parse.proofs.Rule.Commas.{AnyN, arranged-zero, arranged-only, comma-mark, semi-mark, only-append, finish, went-ahead, Lined, item, lined-again}
use Rattle.parse.proofs.Rule.Pieces.{seen_first, seen-second}
use Rattle.parse.proofs.pattern.Forms.{Closes}
use Rattle.parse.proofs.expr.Forms.{expression-rows}
use Rattle.std.proofs.Math.Bool.{and-false}

flat-elements : sort_of (ex means (nt n-elements)) ≡ shape.flat
unfolding sort_of ex means
flat-elements = refl

semi-optional : Optionally n-elements-optional-Semi t.Semi (tok t.Semi ∷ nt n-elements ∷ [])
unfolding sort_of ex means choose row look table alt pick
semi-optional = optionally refl (λ c. refl) refl refl

module _ {a : ℕ} where
  no_more : a ≡ t.RBrace → expand table n-elements a ≡ some []
  unfolding choose row table look alt pick
  no_more h = goes n-elements 1 a (miss t.Let 2 (on t.RBrace 1 ∷ []) 3 (λ e. let g : t.RBrace ≡ t.Let = sym h ∙ e in omega arith) (hit t.RBrace 1 [] 3 h)) refl

  a-let : a ≡ t.Let → expand table n-elements a ≡ some (nt n-assignment ∷ tok t.Semi ∷ nt n-elements ∷ [])
  unfolding choose row table look alt pick
  a-let h = goes n-elements 2 a (hit t.Let 2 (on t.RBrace 1 ∷ []) 3 h) refl

  an-expression : (a ≡ t.Let → ⊥) → (a ≡ t.RBrace → ⊥) → expand table n-elements a ≡ some (nt n-expression ∷ nt n-elements-optional-Semi ∷ [])
  unfolding choose row table look alt pick
  an-expression h g = goes n-elements 3 a (miss t.Let 2 (on t.RBrace 1 ∷ []) 3 h (miss t.RBrace 1 [] 3 g refl)) refl

ends-semi : (b : Bool) (w : List Sort) → unended b (w ++ (word t.Semi ∷ [])) ≡ false
unfolding unended
ends-semi true [] = refl
ends-semi false [] = refl
ends-semi b (word c ∷ w) = ends-semi (b && not (eqb c t.Semi)) w
ends-semi b (child k l h c ∷ w) = ends-semi true w

ends-part : (b : Bool) (w : List Sort) (k l h c : ℕ) → unended b (w ++ (child k l h c ∷ [])) ≡ true
unfolding unended
ends-part b [] k l h c = refl
ends-part b (word d ∷ w) k l h c = ends-part (b && not (eqb d t.Semi)) w k l h c
ends-part b (child i j g d ∷ w) k l h c = ends-part true w k l h c

-- `eat` goes on.
pub eaten-ahead : {x : Text} {st st' : State} {k a b : ℕ} {s : Step} → Stands x st → Eaten x st (suc k) s → s ≡ Next st' a b → st.at < st'.at
eaten-ahead {x} {st} {k = k} h q e = let v = eaten q e in omega (arith, v.1.ahead (inside x st.at (omega arith) (sym h.class_is ∙ v.0)))

-- The elements up to `here`, each with its `;`.
pub record Elemed (x : Text) (st : State) (l : List ℕ) (here : State) (l₁ : List ℕ) : Type 0 where
  pub w : List Sort
  pub ms : List Tok
  pub m : ℕ
  pub amid : Amid x 0 AnyN (nt n-elements ∷ []) (nt n-elements ∷ []) st l w ms m here l₁
  pub semis : Only t.Semi w
  pub ended : unended false w ≡ false

module _ {x : Text} {st : State} {l : List ℕ} (y : Ready x st) where
  pub elems-start : Elemed x st l st l
  unfolding unended
  elems-start = record { w = []; ms = []; m = 0; amid = starts 0 AnyN (nt n-elements ∷ []) l y.stands; semis = tt; ended = refl }

  module _ {here : State} {l₁ : List ℕ} (v : Elemed x st l here l₁) where
    pub elems-end : here.class ≡ t.RBrace → Went x (nt n-elements ∷ []) as_items Elements st l here l₁ 0 0
    elems-end c =
        let d = turns [] v.amid flat-elements (no_more c) in
        finish d (record {
          same = sym (d.roles 0 tt) ∙ arranged-zero 0 (raw x st.at d.pre);
          semis = subst (Only t.Semi) (sym d.sorted) v.semis;
          last_is = ap (λ (b : Bool). cond b 1 0) (sym (ap (unended false) d.sorted ∙ v.ended));
        })

    -- one that is ended
    closed : {ms' : List Tok} {next : State} {l₂ : List ℕ} (k i h c m' : ℕ)
        → Amid x 0 AnyN (nt n-elements ∷ []) (nt n-elements ∷ []) st l ((v.w ++ (child k i h c ∷ [])) ++ (word t.Semi ∷ [])) ms' m' next l₂ → Elemed x st l next l₂
    closed {ms' = ms'} k i h c m' d = record {
      w = (v.w ++ (child k i h c ∷ [])) ++ (word t.Semi ∷ []);
      ms = ms';
      m = m';
      amid = d;
      semis = only-append t.Semi (v.w ++ (child k i h c ∷ [])) (word t.Semi ∷ []) (only-append t.Semi v.w (child k i h c ∷ []) v.semis tt) (refl, tt);
      ended = ends-semi false (v.w ++ (child k i h c ∷ []));
    }

    -- A `let`,
    module _ (c : here.class ≡ t.Let) where
      into-let : Amid x 0 AnyN (nt n-elements ∷ []) (nt n-assignment ∷ tok t.Semi ∷ nt n-elements ∷ []) st l v.w v.ms v.m here l₁
      into-let = turns (nt n-assignment ∷ tok t.Semi ∷ nt n-elements ∷ []) v.amid flat-elements (a-let c)

      pub let-passed : {J : Info} {l₂ l' : List ℕ} {r : Step} → OneOf (1 ∷ []) (tag_of the_type r) → Parsed x (nt n-assignment ∷ []) as_items (Node LetKind) here l₁ l₂ r → Parsed x (nt n-elements ∷ []) as_items J st l l' r
      let-passed k p = then-passed into-let k (λ τ q h. h) p

      module _ {l₂ : List ℕ} {r : Step} {st₂ : State} {a b : ℕ} (p : Parsed x (nt n-assignment ∷ []) as_items (Node LetKind) here l₁ l₂ r) (e : r ≡ Next st₂ a b) where
        the-let : Noded x 0 AnyN (nt n-elements ∷ []) (tok t.Semi ∷ nt n-elements ∷ []) st l v.w v.ms v.m LetKind st₂ l₂
        the-let = then-node into-let p e

        pub let-lacks : {J : Info} {l' : List ℕ} {s : Step} → OneOf (1 ∷ []) (tag_of the_type s) → Eaten x st₂ t.Semi s → Parsed x (nt n-elements ∷ []) as_items J st l l' s
        let-lacks k q = then-lacks the-let.amid k (λ τ i h. h) q

        module _ {s : Step} {st₃ : State} {a' b' : ℕ} (q : Eaten x st₂ t.Semi s) (f : s ≡ Next st₃ a' b') where
          pub let-again : Elemed x st l st₃ l₂
          let-again = closed the-let.kind the-let.low the-let.high the-let.first (v.m + 1) (then-eats the-let.amid (omega arith) q f (sign-mark 0 t.Semi tt))

          pub let-less : length x.ts - st₃.at < length x.ts - here.at
          let-less = omega (arith, let-again.amid.lays.stands.within, v.amid.lays.ends, moved_on, went-ahead p e)
            where
              moved_on : st₂.at < st₃.at
              moved_on = eaten-ahead the-let.amid.lays.stands q f

    -- or an expression.
    module _ (n : here.class ≡ t.RBrace → ⊥) (c : here.class ≡ t.Let → ⊥) where
      into-expr : Amid x 0 AnyN (nt n-elements ∷ []) (nt n-expression ∷ nt n-elements-optional-Semi ∷ []) st l v.w v.ms v.m here l₁
      into-expr = turns (nt n-expression ∷ nt n-elements-optional-Semi ∷ []) v.amid flat-elements (an-expression c n)

      pub expr-passed : {J : Info} {l₂ l' : List ℕ} {r : Step} → OneOf (1 ∷ []) (tag_of the_type r) → Parsed x (nt n-expression ∷ []) as_items (Node ExprKind) here l₁ l₂ r → Parsed x (nt n-elements ∷ []) as_items J st l l' r
      expr-passed k p = then-passed into-expr k (λ τ q h. h) p

      module _ {l₂ : List ℕ} {r : Step} {st₂ : State} {a b : ℕ} (p : Parsed x (nt n-expression ∷ []) as_items (Node ExprKind) here l₁ l₂ r) (e : r ≡ Next st₂ a b) where
        the-expr : Noded x 0 AnyN (nt n-elements ∷ []) (nt n-elements-optional-Semi ∷ []) st l v.w v.ms v.m ExprKind st₂ l₂
        the-expr = then-node into-expr p e

        pub expr-last : (st₂.class ≡ t.Semi → ⊥) → Went x (nt n-elements ∷ []) as_items Elements st l st₂ l₂ 1 0
        expr-last h =
            let d = turns [] the-expr.amid semi-optional.flat (semi-optional.elsewhere st₂.class h) in
            let i = the-expr in
            finish d (record {
              same = sym (d.roles 0 tt) ∙ arranged-zero 0 (raw x st.at d.pre);
              semis = subst (Only t.Semi) (sym d.sorted) (only-append t.Semi v.w (child i.kind i.low i.high i.first ∷ []) v.semis tt);
              last_is = ap (λ (b : Bool). cond b 1 0) (sym (ap (unended false) d.sorted ∙ ends-part false v.w i.kind i.low i.high i.first));
            })

        module _ {next : State} (h : st₂.class ≡ t.Semi) (mv : Moved x st₂ next) where
          with-semi : Amid x 0 AnyN (nt n-elements ∷ []) (nt n-elements ∷ []) st l ((v.w ++ (child the-expr.kind the-expr.low the-expr.high the-expr.first ∷ [])) ++ (word t.Semi ∷ [])) (v.ms ++ (tok_at x st₂.at ∷ [])) (v.m + 1) next l₂
          with-semi = advances (turns (tok t.Semi ∷ nt n-elements ∷ []) the-expr.amid semi-optional.flat (semi-optional.there st₂.class h)) h (omega arith) mv (sign-mark 0 t.Semi tt)

          pub expr-again : Elemed x st l next l₂
          expr-again = closed the-expr.kind the-expr.low the-expr.high the-expr.first (v.m + 1) with-semi

          pub expr-less : length x.ts - next.at < length x.ts - here.at
          expr-less = omega (arith, with-semi.lays.stands.within, went-ahead p e, mv.ahead (inside x st₂.at (omega arith) (sym the-expr.amid.lays.stands.class_is ∙ h)))

-- A list of expressions: nothing, or some and a comma.
pub data Counted : ℕ → List Sort → Type 0 where
  nothing : Counted 0 []
  some_comma : {w : List Sort} → sees t.Comma w ≡ true → Counted 2 w

not-lone : (w : List Sort) → sees t.Comma w ≡ true → lone w ≡ false
unfolding lone
not-lone w e = ap (λ (b : Bool). eqb (part_count w) 1 && not b) e ∙ and-false (eqb (part_count w) 1)

pub counted-lone : {n : ℕ} {w : List Sort} → Counted n w → lone w ≡ eqb n 1
unfolding lone part_count
counted-lone nothing = refl
counted-lone {w = w} (some_comma e) = not-lone w e

pub counted-last : {n : ℕ} {w : List Sort} (k l h c f : ℕ) → Counted n w → f ≡ cond (eqb n 0) 1 2 → lone (w ++ (child k l h c ∷ [])) ≡ eqb f 1
unfolding lone part_count sees
counted-last k l h c f nothing e = ap (λ (i : ℕ). eqb i 1) (sym e)
counted-last {w = w} k l h c f (some_comma e) g = not-lone (w ++ (child k l h c ∷ [])) (seen_first t.Comma w (child k l h c ∷ []) e) ∙ ap (λ (i : ℕ). eqb i 1) (sym g)

pub counted-again : (w : List Sort) → Counted 2 (w ++ (word t.Comma ∷ []))
unfolding sees
counted-again w = some_comma (seen-second t.Comma w (word t.Comma ∷ []) refl)

-- The loop goes on behind a comma.
module _ {x : Text} {st : State} {l : List ℕ} (y : Ready x st) {k : ℕ} {here : State} {l₁ : List ℕ} (v : Lined x n-list-expression (Counted k) st l here l₁) (n : Closes here.class → ⊥)
    {l₂ : List ℕ} {r : Step} {st₂ : State} {a b : ℕ} (p : Parsed x (nt n-expression ∷ []) as_items (Node ExprKind) here l₁ l₂ r) (e : r ≡ Next st₂ a b) {next : State} (c : st₂.class ≡ t.Comma) (mv : Moved x st₂ next) where
  pub exprs-again : Lined x n-list-expression (Counted 2) st l next l₂
  exprs-again =
      let i = item expression-rows y v n p e in
      lined-again expression-rows y v n p e c mv (counted-again (v.w ++ (child i.kind i.low i.high i.first ∷ [])))

-- Lists that a function read, and what is known of them.
module _ {x : Text} {K : ℕ} {N : ℕ → Type 0} {full left : List Sym} {st : State} {l : List ℕ} {w : List Sort} {ms : List Tok} {m : ℕ} {st₁ : State} {l₁ : List ℕ} {s : Sym} {st₂ : State} {l₂ : List ℕ} {a b : ℕ} {r : Step}
    (d : Amid x K N full (s ∷ left) st l w ms m st₁ l₁) where
  pub then-lone : Parsed x (s ∷ []) as_items Lone st₁ l₁ l₂ r → r ≡ Next st₂ a b → Told x K N full left st l w ms m (λ W. Only t.Comma W × (lone W ≡ eqb a 1)) st₂ l₂
  then-lone p e =
      let q = went e p in
      then-told d q (λ n g. arranged-only K n t.Comma (comma-mark K) (raw x st₁.at q.items) q.info.commas ∙ sym q.info.same) (q.info.commas, q.info.lone_is)

  pub then-elements : Parsed x (s ∷ []) as_items Elements st₁ l₁ l₂ r → r ≡ Next st₂ a b → Told x K N full left st l w ms m (λ W. a ≡ cond (unended false W) 1 0) st₂ l₂
  then-elements p e =
      let q = went e p in
      then-told d q (λ n g. arranged-only K n t.Semi (semi-mark K) (raw x st₁.at q.items) q.info.semis ∙ sym q.info.same) q.info.last_is
