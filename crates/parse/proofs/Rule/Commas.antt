-- Parts with commas between them, as a loop reads them.
-- Assumes nothing.
use Rattle.std.proofs.Common.{◌≡◌, ℕ, ◌+◌, ◌-◌, ◌<◌, ◌≤◌, eqb, List, [], ◌∷◌, ◌++◌, length, sym, refl, ap, ◌∙◌, subst, ap₂, arith}
use mathlib.Core.Option.{some}
use types.Run.{OneOf}
use denote.Enum.Declared.{tag_of}
use Rattle.text.specs.Lists.{has}
use Rattle.theory.specs.Grammar.{Sym, tok, nt}
use Rattle.theory.specs.Machine.{expand}
use Rattle.theory.specs.Ebnf as shape
use Rattle.theory.specs.Ebnf.{sort_of}
use Rattle.theory.specs.Same.{ex}
use Rattle.own.specs.Tree as own
use Rattle.own.specs.Tree.{Tok, Items, mark, sub}
use Rattle.own.specs.Law.{Sort, word, child, sorts}
use Rattle.own.specs.Words.{sizes}
use Rattle.own.specs.Kinds as kind
use Rattle.kinds.specs.Families as family
use Rattle.lexer.specs.Classes as t
use Rattle.grammar.specs.Shapes.Tables.{means, table}
use Rattle.grammar.specs.Records.Records.{Role, aMark, role_of, placed, arranged}
use Rattle.parse.specs.contracts.Step.{the_type}
use Rattle.parse.specs.Contract.{Text, tok_at, raw, Ready, Moved, Info, as_items, Went, Parsed, Node, Only, Commas}
use Rattle.parse.specs.declared.State.{State}
use Rattle.parse.specs.declared.Step.{Step}
use Rattle.parse.specs.declared.Step.TheVariants.{Next}
use Rattle.parse.proofs.choice.Chosen.{Forked, Optionally}
use Rattle.parse.proofs.Rule.Amid.{inside, Amid, starts, then-passed, went, done}
use Rattle.parse.proofs.Rule.Told.{Told, then-told}
use Rattle.parse.proofs.Rule.Marks.{both-marks}
use Rattle.parse.proofs.Rule.Chain.{turns, Noded, then-node, advances}

-- Any number.
abbrev pub AnyN : ℕ → Type 0
AnyN n = Unit {0}

-- A record of kind 0 keeps all of its tokens.
pub arranged-zero : (n : ℕ) (is : Items) → arranged 0 n is ≡ is
unfolding arranged role_of placed has
arranged-zero n own.none = refl
arranged-zero n (mark t r) = ap (mark t) (arranged-zero n r)
arranged-zero n (sub k l h js r) = ap (sub k l h js) (arranged-zero n r)

-- So does any record whose tokens all have a class that is always a mark.
pub arranged-only : (K n c : ℕ) → role_of K c ≡ aMark → (is : Items) → Only c (sorts is) → arranged K n is ≡ is
unfolding arranged placed
arranged-only K n c e own.none o = refl
arranged-only K n c e (mark t r) o =
    ap₂ (λ (ρ : Role) (u : Items). placed ρ n t u) (ap (role_of K) o.0 ∙ e) (arranged-only K n c e r o.1)
arranged-only K n c e (sub k l h js r) o = ap (sub k l h js) (arranged-only K n c e r o)

-- A comma and a `;` are marks of every record.
pub comma-mark : (K : ℕ) → role_of K t.Comma ≡ aMark
unfolding role_of has
comma-mark K = both-marks (has family.names_kept K) (eqb K kind.Call)

pub semi-mark : (K : ℕ) → role_of K t.Semi ≡ aMark
unfolding role_of has
semi-mark K = both-marks (has family.names_kept K) (eqb K kind.Call)

pub only-append : (c : ℕ) (w v : List Sort) → Only c w → Only c v → Only c (w ++ v)
only-append c [] v o p = p
only-append c (word d ∷ w) v o p = (o.0, only-append c w v o.1 p)
only-append c (child k l h d ∷ w) v o p = only-append c w v o p

-- All symbols of a part were read.
pub finish : {x : Text} {K : ℕ} {N : ℕ → Type 0} {full : List Sym} {st : State} {l : List ℕ} {w : List Sort} {ms : List Tok} {m : ℕ} {st₁ : State} {l₁ : List ℕ} {I : Info} {a b : ℕ}
    → (d : Amid x K N full [] st l w ms m st₁ l₁) → I (raw x st.at d.pre) d.L m a b → Went x full as_items I st l st₁ l₁ a b
finish {m = m} d i = record { items = d.pre; L = d.L; m = m; reads = done d; lays = d.lays; info = i }

-- What is read lies ahead.
pub went-ahead : {x : Text} {σ : List Sym} {wrap : shape.Items → shape.Items} {I : Info} {st : State} {l l' : List ℕ} {r : Step} {st' : State} {a b : ℕ} → Parsed x σ wrap I st l l' r → r ≡ Next st' a b → st.at ≤ st'.at
went-ahead p e = let q = went e p in omega (arith, q.lays.ends)

-- Where a record is laid a token was passed.
pub laid-ahead : {x : Text} {σ : List Sym} {wrap : shape.Items → shape.Items} {I : Info} {st : State} {l l' : List ℕ} {st' : State} {a b : ℕ} (q : Went x σ wrap I st l st' l' a b)
    {k low high : ℕ} {js r : Items} → q.L ≡ sub k low high js r → st.at < st'.at
laid-ahead q e = let s = ap sizes e in omega (arith, q.lays.few, q.lays.sized, s)

-- The rows of a list: L its nonterminal, T what follows an item, A the item; `closes` says at which classes it ends.
pub record Rows (L T A : ℕ) (closes : ℕ → Type 0) : Type 0 where
  pub flat_list : sort_of (ex means (nt L)) ≡ shape.flat
  pub flat_tail : sort_of (ex means (nt T)) ≡ shape.flat
  pub ends : (c : ℕ) → closes c → expand table L c ≡ some []
  pub more : (c : ℕ) → (closes c → ⊥) → expand table L c ≡ some (nt A ∷ nt T ∷ [])
  pub stops : (c : ℕ) → (c ≡ t.Comma → ⊥) → expand table T c ≡ some []
  pub goes : (c : ℕ) → c ≡ t.Comma → expand table T c ≡ some (tok t.Comma ∷ nt L ∷ [])

-- Those of a list that ends at `)`.
pub rows-to-paren : {L T A : ℕ} → Forked L t.RParen [] (nt A ∷ nt T ∷ []) → Optionally T t.Comma (tok t.Comma ∷ nt L ∷ []) → Rows L T A (λ c. c ≡ t.RParen)
rows-to-paren y z = record { flat_list = y.flat; flat_tail = z.flat; ends = y.there; more = y.elsewhere; stops = z.elsewhere; goes = z.there }

-- The items up to `here`, each with its comma; Q holds of what they are made of.
pub record Lined (x : Text) (L : ℕ) (Q : List Sort → Type 0) (st : State) (l : List ℕ) (here : State) (l₁ : List ℕ) : Type 0 where
  pub w : List Sort
  pub ms : List Tok
  pub m : ℕ
  pub amid : Amid x 0 AnyN (nt L ∷ []) (nt L ∷ []) st l w ms m here l₁
  pub commas : Only t.Comma w
  pub so : Q w

module _ {L T A : ℕ} {closes : ℕ → Type 0} (z : Rows L T A closes) {x : Text} {Q : List Sort → Type 0} {st : State} {l : List ℕ} (y : Ready x st) where
  pub lined-starts : Q [] → Lined x L Q st l st l
  lined-starts q = record { w = []; ms = []; m = 0; amid = starts 0 AnyN (nt L ∷ []) l y.stands; commas = tt; so = q }

  module _ {here : State} {l₁ : List ℕ} (v : Lined x L Q st l here l₁) where
    -- The list ends where it closes,
    pub lined-ends : {I : Info} {a b : ℕ} → closes here.class → ((J K : Items) (m : ℕ) → K ≡ J → Only t.Comma (sorts J) → Q (sorts J) → I J K m a b) → Went x (nt L ∷ []) as_items I st l here l₁ a b
    lined-ends c f =
        let d = turns [] v.amid z.flat_list (z.ends here.class c) in
        finish d (f (raw x st.at d.pre) d.L v.m (sym (d.roles 0 tt) ∙ arranged-zero 0 (raw x st.at d.pre))
        (subst (Only t.Comma) (sym d.sorted) v.commas) (subst Q (sym d.sorted) v.so))

    module _ (n : closes here.class → ⊥) where
      into : Amid x 0 AnyN (nt L ∷ []) (nt A ∷ nt T ∷ []) st l v.w v.ms v.m here l₁
      into = turns (nt A ∷ nt T ∷ []) v.amid z.flat_list (z.more here.class n)

      -- or an item is refused,
      pub lined-passed : {P : ℕ → Type 0} {J : Info} {l₂ l' : List ℕ} {r : Step} → OneOf (1 ∷ []) (tag_of the_type r) → Parsed x (nt A ∷ []) as_items (Node P) here l₁ l₂ r → Parsed x (nt L ∷ []) as_items J st l l' r
      lined-passed k p = then-passed into k (λ τ q h. h) p

      module _ {P : ℕ → Type 0} {l₂ : List ℕ} {r : Step} {st₂ : State} {a b : ℕ} (p : Parsed x (nt A ∷ []) as_items (Node P) here l₁ l₂ r) (e : r ≡ Next st₂ a b) where
        pub item : Noded x 0 AnyN (nt L ∷ []) (nt T ∷ []) st l v.w v.ms v.m P st₂ l₂
        item = then-node into p e

        only_item : Only t.Comma (v.w ++ (child item.kind item.low item.high item.first ∷ []))
        only_item = only-append t.Comma v.w (child item.kind item.low item.high item.first ∷ []) v.commas tt

        -- or an item is the last,
        pub lined-last : {I : Info} {a' b' : ℕ} → (st₂.class ≡ t.Comma → ⊥)
            → ((J K : Items) (m : ℕ) → K ≡ J → Only t.Comma (sorts J) → sorts J ≡ v.w ++ (child item.kind item.low item.high item.first ∷ []) → I J K m a' b')
            → Went x (nt L ∷ []) as_items I st l st₂ l₂ a' b'
        lined-last c f =
            let d = turns [] item.amid z.flat_tail (z.stops st₂.class c) in
            finish d (f (raw x st.at d.pre) d.L v.m (sym (d.roles 0 tt) ∙ arranged-zero 0 (raw x st.at d.pre)) (subst (Only t.Comma) (sym d.sorted) only_item) d.sorted)

        -- or it has a comma, and the list goes on.
        pub lined-again : {Q' : List Sort → Type 0} {next : State} → st₂.class ≡ t.Comma → Moved x st₂ next
            → Q' ((v.w ++ (child item.kind item.low item.high item.first ∷ [])) ++ (word t.Comma ∷ [])) → Lined x L Q' st l next l₂
        lined-again c mv q =
            let d = turns (tok t.Comma ∷ nt L ∷ []) item.amid z.flat_tail (z.goes st₂.class c) in
            let d₁ = advances d c (omega arith) mv refl-role in
            record {
              w = (v.w ++ (child item.kind item.low item.high item.first ∷ [])) ++ (word t.Comma ∷ []);
              ms = v.ms ++ (tok_at x st₂.at ∷ []);
              m = v.m + 1;
              amid = d₁;
              commas = only-append t.Comma (v.w ++ (child item.kind item.low item.high item.first ∷ [])) (word t.Comma ∷ []) only_item (refl, tt);
              so = q;
            }
          where
            refl-role : role_of 0 t.Comma ≡ aMark
            refl-role = comma-mark 0

        pub again-less : {next : State} → st₂.class ≡ t.Comma → Moved x st₂ next → here.at < next.at
        again-less c mv = let h = mv.ahead (here_in c) in omega (arith, item.amid.lays.few, item.amid.lays.sized, v.amid.lays.few, v.amid.lays.sized, h, before-item)
          where
            here_in : st₂.class ≡ t.Comma → st₂.at < length x.ts
            here_in c = inside x st₂.at (omega arith) (sym item.amid.lays.stands.class_is ∙ c)

            before-item : here.at ≤ st₂.at
            before-item = went-ahead p e

        -- Less of the text is left then.
        pub again-fewer : {next : State} → st₂.class ≡ t.Comma → Moved x st₂ next → length x.ts - next.at < length x.ts - here.at
        again-fewer c mv = let v' = lined-again {Q' = λ w. Unit {0}} c mv tt in omega (arith, again-less c mv, v'.amid.lays.stands.within)

-- A list that a function read.
abbrev pub Listed : Text → ℕ → (ℕ → Type 0) → List Sym → List Sym → State → List ℕ → List Sort → List Tok → ℕ → State → List ℕ → Type 0
Listed x K N full left st l w ms m st₂ l₂ = Told x K N full left st l w ms m (Only t.Comma) st₂ l₂

pub then-list : {x : Text} {K : ℕ} {N : ℕ → Type 0} {full left : List Sym} {st : State} {l : List ℕ} {w : List Sort} {ms : List Tok} {m : ℕ} {st₁ : State} {l₁ : List ℕ} {s : Sym} {st₂ : State} {l₂ : List ℕ} {a b : ℕ} {r : Step}
    → Amid x K N full (s ∷ left) st l w ms m st₁ l₁ → Parsed x (s ∷ []) as_items Commas st₁ l₁ l₂ r → r ≡ Next st₂ a b → Listed x K N full left st l w ms m st₂ l₂
then-list {x} {K} {st₁ = st₁} d p e =
    let q = went e p in
    then-told d q (λ n g. arranged-only K n t.Comma (comma-mark K) (raw x st₁.at q.items) q.info.commas ∙ sym q.info.same) q.info.commas
