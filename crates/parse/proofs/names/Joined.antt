-- Names joined by `::`, as a loop reads them.
-- Assumes nothing.
use Rattle.std.proofs.Common.{◌≡◌, ℕ, suc, ◌+◌, ◌-◌, ◌<◌, ◌≤◌, Bool, true, false, ◌||◌, ◌⊎◌, List, [], ◌∷◌, ◌++◌, length, get_or, sym, refl, ap, ◌∙◌, ap₂, inl, inr, arith, ne_eqb}
use mathlib.Core.Option.{some}
use types.Run.{OneOf}
use denote.Enum.Declared.{tag_of}
use Rattle.text.proofs.Same.{differ}
use Rattle.text.specs.Lists.{has}
use Rattle.theory.specs.Grammar.{Sym, tok, nt, alt}
use Rattle.theory.specs.Machine.{choose, expand}
use Rattle.theory.specs.Ebnf as shape
use Rattle.theory.specs.Walk.{n-flat, n-sub}
use Rattle.own.specs.Tree.{Tok, Items}
use Rattle.own.specs.Law.{Sort, word, child, sorts}
use Rattle.own.specs.Kinds as kind
use Rattle.kinds.specs.Fields.{counted}
use Rattle.kinds.specs.Families as family
use Rattle.lexer.specs.Classes as t
use Rattle.grammar.specs.Shapes.Tables.{table}
use Rattle.grammar.specs.Shapes.TablesIndex.{n-identifier, n-function_name, n-alias_name, n-path-many-DoubleColon}
use Rattle.grammar.specs.Records.Records.{aMark, role_of, arranged, sees, name_count}
use Rattle.parse.specs.contracts.Step.{the_type}
use Rattle.parse.specs.Contract.{Text, classes, tok_at, Read, raw, Stands, Ready, Moved, Info, as_items, Went, Parsed, Named, Names, countable}
use Rattle.parse.specs.declared.State.{State}
use Rattle.parse.specs.declared.Step.{Step}
use Rattle.parse.specs.declared.Step.TheVariants.{Next}
use Rattle.parse.proofs.Rule.Marks.{sign-mark}
use Rattle.parse.proofs.Rule.Amid.{class-at, inside, Amid, starts, then-passed, then-went, went}
use Rattle.parse.proofs.Rule.Chain.{turns, advances, onward}
use Rattle.parse.proofs.Rule.Pieces.{name_count-append, name_count-name}
use Rattle.parse.proofs.Rule.Commas.{AnyN, finish, laid-ahead}
use Rattle.parse.proofs.names.Chain.{then-named}
use Rattle.parse.specs.declared.names.NameSort.TheVariants as name
use Rattle.parse.proofs.names.Rows.{expanded-name, expanded-function-name, names-optional, name-role, arranged-names}

-- What was chosen is what the table has.
chosen : (A i a : ℕ) {rhs : List Sym} → choose table A a ≡ i → alt table A i ≡ some rhs → expand table A a ≡ some rhs
chosen A i a c e = rw c e

-- Where symbols were read that begin with a nonterminal, the table has something for it.
expands : (x : Text) {A : ℕ} {σ : List Sym} {at j : ℕ} {r : shape.Items} → Read x (nt A ∷ σ) at r j → (rhs : List Sym) × (expand table A (get_or (classes x) at 0) ≡ some rhs)
expands x (n-flat {rhs = rhs} f e p) = (rhs, e)
expands x {A} {at = at} (n-sub {rhs = rhs} C i k c y f e p q) = (rhs, chosen A (suc i) (get_or (classes x) at 0) f e)

module _ {x : Text} {wrap : shape.Items → shape.Items} {I : Info} {st : State} {l l' : List ℕ} {r : Step} {st' : State} {a b : ℕ} {σ : List Sym} where
  -- The token that was read as an identifier is one,
  pub identifier-class : Parsed x (nt n-identifier ∷ σ) wrap I st l l' r → r ≡ Next st' a b → has t.identifiers (tok_at x st.at).class ≡ true
  identifier-class p e = let q = expands x (went e p).reads in ap (has t.identifiers) (sym (class-at x.ts st.at)) ∙ expanded-name name.Identifier (get_or (classes x) st.at 0) q.1

  -- and so is one that was read as a function's name.
  pub function-name-class : Parsed x (nt n-function_name ∷ σ) wrap I st l l' r → r ≡ Next st' a b → has t.function_names (tok_at x st.at).class ≡ true
  function-name-class p e = let q = expands x (went e p).reads in ap (has t.function_names) (sym (class-at x.ts st.at)) ∙ expanded-function-name (get_or (classes x) st.at 0) q.1

  -- and one that was read as a type item's name.
  pub alias-name-class : Parsed x (nt n-alias_name ∷ σ) wrap I st l l' r → r ≡ Next st' a b → has t.identifiers (tok_at x st.at).class ≡ true
  alias-name-class p e = let q = expands x (went e p).reads in ap (has t.identifiers) (sym (class-at x.ts st.at)) ∙ expanded-name name.Alias (get_or (classes x) st.at 0) q.1

-- A token that is a record of its own lies ahead.
pub named-ahead : {x : Text} {σ : List Sym} {t : Tok} {kind low high : ℕ} {st : State} {l l' : List ℕ} {r : Step} {st' : State} {a b : ℕ} → Parsed x σ as_items (Named t kind low high) st l l' r → r ≡ Next st' a b → st.at < st'.at
named-ahead p e = let q = went e p in laid-ahead q q.info.laid_is

-- Names and `::` only.
abbrev pub Paths : List Sort → Type 0
Paths [] = Unit {0}
Paths (word d ∷ w) = ((d ≡ t.DoubleColon) ⊎ (has t.identifiers d ≡ true)) × Paths w
Paths (child k l h d ∷ w) = ⊥

paths-append : (w v : List Sort) → Paths w → Paths v → Paths (w ++ v)
paths-append [] v p q = q
paths-append (word d ∷ w) v p q = (p.0, paths-append w v p.1 q)
paths-append (child k l h d ∷ w) v p q = absurd p

paths-others : (c : ℕ) → has t.identifiers c ≡ false → (c ≡ t.DoubleColon → ⊥) → (w : List Sort) → Paths w → sees c w ≡ false
unfolding sees
paths-others c h n [] p = refl
paths-others c h n (word d ∷ w) p = ap₂ (λ (a b : Bool). a || b) (ne_eqb d c (apart p.0)) (paths-others c h n w p.1)
  where
    apart : (d ≡ t.DoubleColon) ⊎ (has t.identifiers d ≡ true) → d ≡ c → ⊥
    apart (inl e) q = n (sym q ∙ e)
    apart (inr e) q = differ (sym h ∙ ap (has t.identifiers) (sym q) ∙ e)
paths-others c h n (child k l i d ∷ w) p = absurd p

paths-parts : (ks : List ℕ) (w : List Sort) → Paths w → counted ks w ≡ 0
unfolding counted
paths-parts ks [] p = refl
paths-parts ks (word d ∷ w) p = paths-parts ks w p.1
paths-parts ks (child k l h d ∷ w) p = absurd p

count-colon : name_count (word t.DoubleColon ∷ []) ≡ 0
unfolding name_count has
count-colon = refl

no-count : name_count [] ≡ 0
unfolding name_count
no-count = refl

colon-mark : role_of kind.EnumConstruction t.DoubleColon ≡ aMark
colon-mark = sign-mark kind.EnumConstruction t.DoubleColon tt

named-kind : has family.names_kept kind.EnumConstruction ≡ true
unfolding has
named-kind = refl

-- The names after the first one, up to `here`: `number` of them with the first.
pub record Joined (x : Text) (st : State) (l : List ℕ) (here : State) (l₁ : List ℕ) (number : ℕ) : Type 0 where
  pub w : List Sort
  pub ms : List Tok
  pub m : ℕ
  pub amid : Amid x kind.EnumConstruction AnyN (nt n-path-many-DoubleColon ∷ []) (nt n-path-many-DoubleColon ∷ []) st l w ms m here l₁
  pub paths : Paths w
  pub count_is : 1 + name_count w ≡ number
  pub far : number + st.at ≤ here.at + 1

-- What they are as a whole.
pub record Rest (w : List Sort) (J L : Items) (m a b : ℕ) : Type 0 where
  pub roles : (n : ℕ) → arranged kind.EnumConstruction n J ≡ L
  pub sorted : sorts J ≡ w

pub joined-starts : {x : Text} {st : State} {l : List ℕ} → Stands x st → Joined x st l st l 1
unfolding name_count
joined-starts {l = l} h = record { w = []; ms = []; m = 0; amid = starts kind.EnumConstruction AnyN (nt n-path-many-DoubleColon ∷ []) l h; paths = tt; count_is = refl; far = omega arith }

module _ {x : Text} {st : State} {l : List ℕ} {here : State} {l₁ : List ℕ} {number : ℕ} (v : Joined x st l here l₁ number) where
  -- They end where no `::` stands,
  joined-ends : (here.class ≡ t.DoubleColon → ⊥) → Went x (nt n-path-many-DoubleColon ∷ []) as_items (Rest v.w) st l here l₁ number 0
  joined-ends n =
      let d = turns [] v.amid names-optional.flat (names-optional.elsewhere here.class n) in
      finish d (record { roles = λ n. d.roles n tt; sorted = d.sorted })

  module _ (c : here.class ≡ t.DoubleColon) {next : State} (mv : Moved x here next) where
    -- or go on with one more.
    pub joined-into : Amid x kind.EnumConstruction AnyN (nt n-path-many-DoubleColon ∷ []) (nt n-identifier ∷ nt n-path-many-DoubleColon ∷ []) st l (v.w ++ (word t.DoubleColon ∷ [])) (v.ms ++ (tok_at x here.at ∷ [])) (v.m + 1) next l₁
    joined-into =
        advances (turns (tok t.DoubleColon ∷ nt n-identifier ∷ nt n-path-many-DoubleColon ∷ []) v.amid names-optional.flat (names-optional.there here.class c)) c (omega arith) mv colon-mark

    joined-next : next.at ≡ here.at + 1
    joined-next = mv.ahead (inside x here.at (omega arith) (sym v.amid.lays.stands.class_is ∙ c))

    module _ {l₂ : List ℕ} {r : Step} {st₂ : State} {a b : ℕ} (p : Parsed x (nt n-identifier ∷ []) as_items (Named (tok_at x next.at) kind.Name 0 0) next l₁ l₂ r) (e : r ≡ Next st₂ a b) where
      joined-less : here.at < st₂.at
      joined-less = omega (arith, joined-next, named-ahead p e)

      pub joined-fewer : length x.ts - st₂.at < length x.ts - here.at
      joined-fewer = let q = went e p in omega (arith, joined-less, q.lays.stands.within)

      pub joined-again : Joined x st l st₂ l₂ (number + 1)
      joined-again =
          let cls = (tok_at x next.at).class in
          let name = identifier-class p e in
          let n₁ = name_count-append (v.w ++ (word t.DoubleColon ∷ [])) (word cls ∷ []) in
          let n₂ = name_count-append v.w (word t.DoubleColon ∷ []) in
          let n₃ = name_count-name cls [] name in
          record {
            w = (v.w ++ (word t.DoubleColon ∷ [])) ++ (word cls ∷ []);
            ms = (v.ms ++ (tok_at x here.at ∷ [])) ++ (tok_at x next.at ∷ []);
            m = v.m + 1;
            amid = then-named joined-into p e (name-role kind.EnumConstruction cls named-kind name);
            paths = paths-append (v.w ++ (word t.DoubleColon ∷ [])) (word cls ∷ []) (paths-append v.w (word t.DoubleColon ∷ []) v.paths (inl refl, tt)) (inr name, tt);
            count_is = omega (arith, n₁, n₂, n₃, count-colon, no-count, v.count_is);
            far = omega (arith, v.far, joined-less, joined-next, named-ahead p e);
          }

module _ {x : Text} {st : State} (y : Ready x st) {l l₁ : List ℕ} {r : Step} where
  -- The first name is refused,
  pub names-passed : {J : Info} {l' : List ℕ} → OneOf (1 ∷ []) (tag_of the_type r) → Parsed x (nt n-identifier ∷ []) as_items (Named (tok_at x st.at) kind.Name 0 0) st l l₁ r
      → Parsed x (nt n-identifier ∷ nt n-path-many-DoubleColon ∷ []) as_items J st l l' r
  names-passed k p = then-passed (starts kind.EnumConstruction AnyN (nt n-identifier ∷ nt n-path-many-DoubleColon ∷ []) l y.stands) k (λ τ q h. h) p

  module _ {st₁ : State} {a b : ℕ} (p : Parsed x (nt n-identifier ∷ []) as_items (Named (tok_at x st.at) kind.Name 0 0) st l l₁ r) (e : r ≡ Next st₁ a b) where
    first-name : Amid x kind.EnumConstruction AnyN (nt n-identifier ∷ nt n-path-many-DoubleColon ∷ []) (nt n-path-many-DoubleColon ∷ []) st l (word (tok_at x st.at).class ∷ []) (tok_at x st.at ∷ []) 0 st₁ l₁
    first-name =
        then-named (starts kind.EnumConstruction AnyN (nt n-identifier ∷ nt n-path-many-DoubleColon ∷ []) l y.stands) p e (name-role kind.EnumConstruction (tok_at x st.at).class named-kind (identifier-class p e))

    pub first-ready : Ready x st₁
    first-ready = onward y first-name

    module _ {here : State} {l₂ : List ℕ} {number : ℕ} (v : Joined x st₁ l₁ here l₂ number) where
      pub names-few : number ≤ countable
      names-few = omega (arith, v.far, named-ahead p e, v.amid.lays.stands.within, y.short)

      -- or one after a `::`,
      pub next-ready : here.class ≡ t.DoubleColon → {next : State} → Moved x here next → Ready x next
      next-ready c mv = onward first-ready (joined-into v c mv)

      pub next-passed : here.class ≡ t.DoubleColon → {next : State} → Moved x here next → {J : Info} {l₃ l' : List ℕ} {r₂ : Step} → OneOf (1 ∷ []) (tag_of the_type r₂)
          → Parsed x (nt n-identifier ∷ []) as_items (Named (tok_at x next.at) kind.Name 0 0) next l₂ l₃ r₂ → Parsed x (nt n-identifier ∷ nt n-path-many-DoubleColon ∷ []) as_items J st l l' r₂
      next-passed c mv k q = then-passed (joined-into v c mv) k (λ τ p h. first-name.off τ p h) q

      -- or all are read.
      pub names-went : (here.class ≡ t.DoubleColon → ⊥) → Went x (nt n-identifier ∷ nt n-path-many-DoubleColon ∷ []) as_items Names st l here l₂ number 0
      names-went n =
          let q = joined-ends v n in
          let cls = (tok_at x st.at).class in
          let name = identifier-class p e in
          let d = then-went first-name q (λ n g. q.info.roles n) in
          let J = raw x st.at d.pre in
          let s : sorts J ≡ word cls ∷ v.w = d.sorted ∙ ap (λ u. word cls ∷ u) q.info.sorted in
          finish d (record {
            count_is = ap name_count s ∙ name_count-name cls v.w name ∙ v.count_is;
            bounded = names-few;
            roles = λ K n h. arranged-names K n h J ∙ d.roles n tt;
            others = λ c h i. ap (sees c) s ∙ paths-others c h i (word cls ∷ v.w) (inr name, v.paths);
            no_parts = λ ks. ap (counted ks) s ∙ paths-parts ks (word cls ∷ v.w) (inr name, v.paths);
          })
