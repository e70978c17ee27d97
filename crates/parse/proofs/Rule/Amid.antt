-- How the answers of the parser's functions are put together. `Amid` is the state on the way through a rule: each law is one step of
-- the code.
-- Assumes nothing.
use Rattle.std.proofs.Common.{◌≡◌, ℕ, zero, suc, ◌+◌, ◌*◌, ◌<◌, List, [], ◌∷◌, ◌++◌, length, get_or, sym, refl, ap, ◌∙◌, subst, ap₂, append_assoc, arith}
use mathlib.Core.Option.{some}
use native.Mathlib.Decide.{dec_lt}
use lib.ListN.{get_or-eq_default}
use lib.Seq.{sets}
use types.Run.{OneOf}
use denote.Enum.Declared.{tag_of}
use Rattle.theory.specs.Grammar.{Sym, nt}
use Rattle.theory.specs.Machine.{expand}
use Rattle.theory.specs.Ebnf as shape
use Rattle.theory.specs.Ebnf.{child, kinds_of, flat, sort_of}
use Rattle.theory.specs.Same.{ex}
use Rattle.theory.specs.Walk.{join, join-nil, join-join, n-end, n-flat, k_in, reads-reads, reads-sticks}
use Rattle.own.specs.Tree as own
use Rattle.own.specs.Tree.{Tok, Items, mark, sub, marks, concat, classes_of}
use Rattle.own.specs.Flat.{blank_tok}
use Rattle.own.specs.Law.{Sort, sorts}
use Rattle.text.specs.Widths.{rec_wide}
use Rattle.own.specs.Words.{word_groups}
use Rattle.grammar.specs.Shapes.Shapes.{shapes}
use Rattle.grammar.specs.Shapes.Tables.{means, table}
use Rattle.grammar.specs.Records.Records.{arranged, record_items}
use Rattle.grammar.specs.Records.Faults.{faults, earliest}
use Rattle.grammar.proofs.Spelled.TreeTokens.{length-classes}
use Rattle.parse.specs.contracts.Step.{the_type}
use Rattle.parse.specs.Contract.{Text, classes, Read, Stuck, raw, fault_in, sooner, kept, Stands, Holds, Laid, Info, as_items, Went, Parsed, read, stuck}
use Rattle.parse.specs.declared.State.{State}
use Rattle.parse.specs.declared.Step.{Step}
use Rattle.parse.specs.declared.Step.TheVariants.{Next, Refused}
use Rattle.text.proofs.Sets.{sets-next}
use Rattle.parse.proofs.Rule.Lists.{joined, sorts-joined, marks-joined, arranged-joined, sizes-joined, words-joined, each-joined, length-words, length-join, raw-join, fault-join, sooner-none, sooner-assoc}

-- the class of a token
pub class-at : (ts : List Tok) (i : ℕ) → get_or (classes_of ts) i 0 ≡ (get_or ts i blank_tok).class
unfolding classes_of
class-at [] i = refl
class-at (t ∷ ts) zero = refl
class-at (t ∷ ts) (suc i) = class-at ts i

-- a token of a class other than 0 is before the end
pub inside : (x : Text) (i : ℕ) {c : ℕ} → 0 < c → get_or (classes x) i 0 ≡ c → i < length x.ts
inside x i pos e = go (dec_lt i (length (classes x)))
  where
    go : Dec (i < length (classes x)) → i < length x.ts
    go (yes h) = subst (λ n. i < n) (length-classes x.ts) h
    go (no h) = let z : get_or (classes x) i 0 ≡ 0 = get_or-eq_default (classes x) 0 (omega arith) in absurd (omega arith)

-- What the `else` of a `let Step::Next(..) = r else { return r; }` knows of r: that its tag is 1.
pub refused : (r : Step) → OneOf (1 ∷ []) (tag_of the_type r) → (p : ℕ) × (r ≡ Refused p)
refused (Next st a b) h = absurd (omega arith)
refused (Refused p) h = (p, refl)

module _ {x : Text} {σ : List Sym} {wrap : shape.Items → shape.Items} {I : Info} {st : State} {l l' : List ℕ} where
  is_read : {st' : State} {a b : ℕ} → Parsed x σ wrap I st l l' (Next st' a b) → Went x σ wrap I st l st' l' a b
  is_read (read h) = h

  pub went : {r : Step} {st' : State} {a b : ℕ} → r ≡ Next st' a b → Parsed x σ wrap I st l l' r → Went x σ wrap I st l st' l' a b
  went e p = is_read (subst (λ q. Parsed x σ wrap I st l l' q) e p)

-- What stands in the buffer: nothing more,
pub laid_nil : (x : Text) {st : State} (l : List ℕ) → Stands x st → Laid x st l shape.nil own.none 0 st l
unfolding shape.yield fault_in faults earliest
laid_nil x {st} l h = record { ends = omega arith; sized = omega arith; few = omega arith; long = refl; laid = λ n g. refl; worst = sym (sooner-none (kept st)); stands = h }

-- or what stands there and more.
pub laid-join : {x : Text} {st : State} {l : List ℕ} {r : shape.Items} {L : Items} {m : ℕ} {st₁ : State} {l₁ : List ℕ} {u : shape.Items} {M : Items} {n : ℕ} {st₂ : State} {l₂ : List ℕ}
    → Laid x st l r L m st₁ l₁ → Laid x st₁ l₁ u M n st₂ l₂ → Laid x st l (join r u) (joined L M) (m + n) st₂ l₂
laid-join {x} {st} {l} {r} {L} {m} {st₁} {l₁} {u} {M} {n} {st₂} {l₂} p q =
    let e₁ = p.ends in let s₁ = p.sized in let f₁ = p.few in let g₁ = p.long in
    let e₂ = q.ends in let s₂ = q.sized in let f₂ = q.few in let g₂ = q.long in
    let nn = length-join r u in
    let zz = sizes-joined L M in
    let ww = length-words L in
    record {
      ends = omega arith;
      sized = omega arith;
      few = omega arith;
      long = g₂ ∙ g₁;
      laid = λ o h.
          let b = each-joined Holds L M o in
          sets-next l (concat (word_groups L)) (concat (word_groups M)) (rec_wide * st.out) (rec_wide * st₁.out) (p.laid b.0 (omega arith)) (q.laid b.1 (omega arith)) (omega arith)
          ∙ ap (sets l (rec_wide * st.out)) (sym (words-joined L M));
      worst =
          q.worst ∙ ap₂ (λ a i. sooner a (fault_in x i u)) p.worst e₁ ∙ sooner-assoc (kept st) (fault_in x st.at r) (fault_in x (st.at + length (shape.yield r)) u)
          ∙ ap (sooner (kept st)) (sym (fault-join x st.at r u));
      stands = q.stands;
    }

-- On the way through the symbols `full` from st: `left` is to come from st₁. The kind of the record over them is K, its number, if a token
-- needs it, fulfils N; w is what they are made of, ms are the tokens of its own, m of which are no records.
pub record Amid (x : Text) (K : ℕ) (N : ℕ → Type 0) (full left : List Sym) (st : State) (l : List ℕ) (w : List Sort) (ms : List Tok) (m : ℕ) (st₁ : State) (l₁ : List ℕ) : Type 0 where
  pub pre : shape.Items
  pub L : Items
  pub on : (r : shape.Items) (j : ℕ) → Read x left st₁.at r j → Read x full st.at (join pre r) j
  pub off : (τ : List Sym) (p : ℕ) → Stuck x (left ++ τ) st₁.at p → Stuck x (full ++ τ) st.at p
  pub lays : Laid x st l pre L m st₁ l₁
  pub roles : (n : ℕ) → N n → arranged K n (raw x st.at pre) ≡ L
  pub sorted : sorts (raw x st.at pre) ≡ w
  pub marked : marks (raw x st.at pre) ≡ ms

-- The same, with the records M laid.
pub record Grown (x : Text) (K : ℕ) (N : ℕ → Type 0) (full left : List Sym) (st : State) (l : List ℕ) (w : List Sort) (ms : List Tok) (m : ℕ) (st₁ : State) (l₁ : List ℕ) (M : Items) : Type 0 where
  pub amid : Amid x K N full left st l w ms m st₁ l₁
  pub is : amid.L ≡ M

pub starts : {x : Text} (K : ℕ) (N : ℕ → Type 0) (full : List Sym) {st : State} (l : List ℕ) → Stands x st → Amid x K N full full st l [] [] 0 st l
unfolding raw record_items arranged
starts K N full l h =
    record { pre = shape.nil; L = own.none; on = λ r j k. k; off = λ τ p k. k; lays = laid_nil _ l h; roles = λ n k. refl; sorted = refl; marked = refl }

module _ {x : Text} {K : ℕ} {N : ℕ → Type 0} {full : List Sym} {st : State} {l : List ℕ} {w : List Sort} {ms : List Tok} {m : ℕ} {st₁ : State} {l₁ : List ℕ} where
  -- Symbols that a function read, made of W with the tokens T,
  pub grows : (σ left : List Sym) {I : Info} {st₂ : State} {l₂ : List ℕ} {a b : ℕ} (d : Amid x K N full (σ ++ left) st l w ms m st₁ l₁) (q : Went x σ as_items I st₁ l₁ st₂ l₂ a b)
      → ((n : ℕ) → N n → arranged K n (raw x st₁.at q.items) ≡ q.L) → {W : List Sort} {T : List Tok} {n : ℕ}
      → w ++ sorts (raw x st₁.at q.items) ≡ W → ms ++ marks (raw x st₁.at q.items) ≡ T → m + q.m ≡ n
      → Grown x K N full left st l W T n st₂ l₂ (joined d.L q.L)
  grows σ left {st₂ = st₂} {l₂ = l₂} d q f {W} {T} {n} g h i =
      let e = d.lays.ends in
      let s₂ = classes x in
      let at_is : raw x st.at (join d.pre q.items) ≡ joined (raw x st.at d.pre) (raw x st₁.at q.items) =
      raw-join x st.at d.pre q.items ∙ ap (λ i. joined (raw x st.at d.pre) (raw x i q.items)) (sym e) in
      record {
        amid = record {
          pre = join d.pre q.items;
          L = joined d.L q.L;
          on = λ r j h. subst (λ y. Read x full st.at y j) (sym (join-join d.pre q.items r)) (d.on (join q.items r) j (reads-reads shapes means table s₂ q.reads h));
          off = λ τ p h. d.off τ p (subst (λ y. Stuck x y st₁.at p) (sym (append_assoc σ left τ)) (reads-sticks shapes means table s₂ q.reads h));
          lays = subst (λ (k : ℕ). Laid x st l (join d.pre q.items) (joined d.L q.L) k st₂ l₂) i (laid-join d.lays q.lays);
          roles = λ n h. ap (arranged K n) at_is ∙ arranged-joined K n (raw x st.at d.pre) (raw x st₁.at q.items) ∙ ap₂ joined (d.roles n h) (f n h);
          sorted = ap sorts at_is ∙ sorts-joined (raw x st.at d.pre) (raw x st₁.at q.items) ∙ ap (λ y. y ++ sorts (raw x st₁.at q.items)) d.sorted ∙ g;
          marked = ap marks at_is ∙ marks-joined (raw x st.at d.pre) (raw x st₁.at q.items) ∙ ap (λ y. y ++ marks (raw x st₁.at q.items)) d.marked ∙ h;
        };
        is = refl;
      }

  pub went_on : (σ left : List Sym) {I : Info} {st₂ : State} {l₂ : List ℕ} {a b : ℕ} → Amid x K N full (σ ++ left) st l w ms m st₁ l₁ → (q : Went x σ as_items I st₁ l₁ st₂ l₂ a b)
      → ((n : ℕ) → N n → arranged K n (raw x st₁.at q.items) ≡ q.L)
      → Amid x K N full left st l (w ++ sorts (raw x st₁.at q.items)) (ms ++ marks (raw x st₁.at q.items)) (m + q.m) st₂ l₂
  went_on σ left d q f = (grows σ left d q f refl refl refl).amid

  -- or that it refused.
  pub passed_on : (σ left : List Sym) {I : Info} {l₂ : List ℕ} {r : Step} {σ' : List Sym} {wrap wrap' : shape.Items → shape.Items} {J : Info} {st₀ : State} {l₀ l' : List ℕ} → Amid x K N full (σ ++ left) st l w ms m st₁ l₁
      → OneOf (1 ∷ []) (tag_of the_type r) → ((τ : List Sym) (p : ℕ) → Stuck x (full ++ τ) st.at p → Stuck x (σ' ++ τ) st₀.at p)
      → Parsed x σ wrap I st₁ l₁ l₂ r → Parsed x σ' wrap' J st₀ l₀ l' r
  passed_on σ left d k f (read h) = absurd (omega arith)
  passed_on σ left d k f (stuck {p = p} h g) = stuck h (λ τ. f τ p (d.off τ p (subst (λ y. Stuck x y st₁.at p) (sym (append_assoc σ left τ)) (g (left ++ τ)))))

  -- The same of one symbol.
  pub then-went : {s : Sym} {left : List Sym} {I : Info} {st₂ : State} {l₂ : List ℕ} {a b : ℕ} → Amid x K N full (s ∷ left) st l w ms m st₁ l₁ → (q : Went x (s ∷ []) as_items I st₁ l₁ st₂ l₂ a b)
      → ((n : ℕ) → N n → arranged K n (raw x st₁.at q.items) ≡ q.L)
      → Amid x K N full left st l (w ++ sorts (raw x st₁.at q.items)) (ms ++ marks (raw x st₁.at q.items)) (m + q.m) st₂ l₂
  then-went {s} {left} d q f = went_on (s ∷ []) left d q f

  pub then-passed : {s : Sym} {left : List Sym} {I : Info} {l₂ : List ℕ} {r : Step} {σ' : List Sym} {wrap wrap' : shape.Items → shape.Items} {J : Info} {st₀ : State} {l₀ l' : List ℕ} → Amid x K N full (s ∷ left) st l w ms m st₁ l₁
      → OneOf (1 ∷ []) (tag_of the_type r) → ((τ : List Sym) (p : ℕ) → Stuck x (full ++ τ) st.at p → Stuck x (σ' ++ τ) st₀.at p)
      → Parsed x (s ∷ []) wrap I st₁ l₁ l₂ r → Parsed x σ' wrap' J st₀ l₀ l' r
  then-passed {s} {left} d k f p = passed_on (s ∷ []) left d k f p

  -- A nonterminal that is no node is replaced by what the table has for the next token.
  pub grown-turns : {A : ℕ} {left : List Sym} (rhs : List Sym) (d : Amid x K N full (nt A ∷ left) st l w ms m st₁ l₁) → sort_of (ex means (nt A)) ≡ shape.flat → expand table A (get_or (classes x) st₁.at 0) ≡ some rhs
      → Grown x K N full (rhs ++ left) st l w ms m st₁ l₁ d.L
  grown-turns rhs d f e = record {
    amid = record {
      pre = d.pre;
      L = d.L;
      on = λ r j h. d.on r j (n-flat f e h);
      off = λ τ p h. d.off τ p (k_in e (rw append_assoc at h));
      lays = d.lays;
      roles = d.roles;
      sorted = d.sorted;
      marked = d.marked;
    };
    is = refl;
  }

  pub then_turns : {A : ℕ} {left : List Sym} (rhs : List Sym) → Amid x K N full (nt A ∷ left) st l w ms m st₁ l₁ → sort_of (ex means (nt A)) ≡ shape.flat → expand table A (get_or (classes x) st₁.at 0) ≡ some rhs
      → Amid x K N full (rhs ++ left) st l w ms m st₁ l₁
  then_turns rhs d f e = (grown-turns rhs d f e).amid

-- all of it was read
pub done : {x : Text} {K : ℕ} {N : ℕ → Type 0} {full : List Sym} {st : State} {l : List ℕ} {w : List Sort} {ms : List Tok} {m : ℕ} {st₁ : State} {l₁ : List ℕ}
    → (d : Amid x K N full [] st l w ms m st₁ l₁) → Read x full st.at d.pre st₁.at
done {x} {full = full} {st = st} {st₁ = st₁} d = subst (λ y. Read x full st.at y st₁.at) (join-nil d.pre) (d.on shape.nil st₁.at n-end)
