-- The steps of a rule as the code takes them: one law a step.
-- Assumes nothing.
use Rattle.std.proofs.Common.{◌≡◌, ℕ, ◌+◌, ◌<◌, ◌≤◌, List, [], ◌∷◌, ◌++◌, length, get_or, sym, ap, ◌∙◌, subst, append-nil, add-zero, arith}
use mathlib.Core.Option.{Option, some}
use types.Run.{OneOf}
use denote.Enum.Declared.{tag_of}
use Rattle.theory.specs.Grammar.{Sym, tok, nt}
use Rattle.theory.specs.Machine.{expand}
use Rattle.theory.specs.Ebnf as shape
use Rattle.theory.specs.Ebnf.{sort_of}
use Rattle.theory.specs.Same.{ex}
use Rattle.theory.specs.Walk.{k_tok}
use Rattle.own.specs.Tree as own
use Rattle.own.specs.Tree.{Tok, Items, mark, marks}
use Rattle.own.specs.Law.{Sort, word, child, sorts, first_class}
use Rattle.grammar.specs.Shapes.Tables.{means, table}
use Rattle.grammar.specs.Records.Records.{aMark, role_of, placed, arranged}
use Rattle.grammar.specs.Records.Faults.{Fault}
use Rattle.parse.specs.contracts.Step.{the_type}
use Rattle.parse.specs.Contract.{Text, classes, tok_at, Read, Stuck, Ready, Moved, Eaten, ate, lacked, Info, as_items, Parsed, stuck, Node}
use Rattle.parse.specs.declared.State.{State}
use Rattle.parse.specs.declared.Step.{Step}
use Rattle.parse.specs.declared.Step.TheVariants.{Next}
use Rattle.parse.proofs.Rule.Amid.{class-at, inside, went, Amid, Grown, grows, then_turns}
use Rattle.parse.proofs.Rule.Lists.{joined}
use Rattle.parse.proofs.Rule.Steps.{word-went, reads-tok, reads-one}
use Rattle.parse.proofs.Rule.Closing.{Opened}

is-ate : {x : Text} {st₁ : State} {c : ℕ} {st₂ : State} {a b : ℕ} → Eaten x st₁ c (Next st₂ a b) → (st₁.class ≡ c) × Moved x st₁ st₂
is-ate (ate e v) = (e, v)

-- What `eat` says where it goes on.
pub eaten : {x : Text} {st : State} {c : ℕ} {s : Step} {st₂ : State} {a b : ℕ} → Eaten x st c s → s ≡ Next st₂ a b → (st.class ≡ c) × Moved x st st₂
eaten {x} {st} {c} e q = is-ate (subst (λ s. Eaten x st c s) q e)

-- One node more.
pub record Noded (x : Text) (K : ℕ) (N : ℕ → Type 0) (full left : List Sym) (st : State) (l : List ℕ) (w : List Sort) (ms : List Tok) (m : ℕ) (P : ℕ → Type 0) (st₂ : State) (l₂ : List ℕ) : Type 0 where
  pub kind : ℕ
  pub low : ℕ
  pub high : ℕ
  pub first : ℕ
  pub its_kind : P kind
  pub amid : Amid x K N full left st l (w ++ (child kind low high first ∷ [])) ms m st₂ l₂

-- Further on than where the rule began, and ready to go on.
pub record Further (x : Text) (st st₁ : State) : Type 0 where
  pub ready : Ready x st₁
  pub ahead : st.at < st₁.at
  pub within : st₁.at ≤ length x.ts

module _ {x : Text} {K : ℕ} {N : ℕ → Type 0} {full left : List Sym} {st r : State} {F : Option Fault} {l : List ℕ} {w : List Sort} {ms : List Tok} {m : ℕ} {st₁ : State} {l₁ : List ℕ} where
  -- In a rule whose record was reserved,
  pub further : Ready x st → Opened x st r F → Amid x K N full left r l w ms m st₁ l₁ → 1 ≤ m → Further x st st₁
  further y o d h =
      let few = d.lays.few in
      let sized = d.lays.sized in
      let a = o.at_is in
      let b = o.out_is in
      let f = y.few in
      record {
        ready = record { stands = d.lays.stands; short = y.short; few = omega arith };
        ahead = omega arith;
        within = d.lays.stands.within;
      }

module _ {x : Text} {K : ℕ} {N : ℕ → Type 0} {full left : List Sym} {st : State} {l : List ℕ} {w : List Sort} {ms : List Tok} {m : ℕ} {st₁ : State} {l₁ : List ℕ} where
  -- and in one that has no record of its own.
  pub onward : Ready x st → Amid x K N full left st l w ms m st₁ l₁ → Ready x st₁
  onward y d =
      let few = d.lays.few in
      let f = y.few in
      record { stands = d.lays.stands; short = y.short; few = omega arith }

  pub onward-ahead : Amid x K N full left st l w ms m st₁ l₁ → 1 ≤ m → st.at < st₁.at
  onward-ahead d h = omega (arith, d.lays.few, d.lays.sized)

module _ {x : Text} {K : ℕ} {N : ℕ → Type 0} {full left : List Sym} {st : State} {l : List ℕ} {w : List Sort} {ms : List Tok} {m : ℕ} {st₁ : State} {l₁ : List ℕ} where
  -- A nonterminal is replaced by what the table has for the class of the state.
  pub turns : {A : ℕ} (rhs : List Sym) → Amid x K N full (nt A ∷ left) st l w ms m st₁ l₁ → sort_of (ex means (nt A)) ≡ shape.flat → expand table A st₁.class ≡ some rhs → Amid x K N full (rhs ++ left) st l w ms m st₁ l₁
  turns {A} rhs d f e = then_turns rhs d f (ap (expand table A) (sym d.lays.stands.class_is) ∙ e)

  class-here : {s : Sym} {c : ℕ} → Amid x K N full (s ∷ left) st l w ms m st₁ l₁ → st₁.class ≡ c → get_or (classes x) st₁.at 0 ≡ c
  class-here d e = sym d.lays.stands.class_is ∙ e

  in-there : {s : Sym} {c : ℕ} → Amid x K N full (s ∷ left) st l w ms m st₁ l₁ → st₁.class ≡ c → 0 < c → st₁.at < length x.ts
  in-there d e h = inside x st₁.at h (class-here d e)

  -- A token, from the symbol that stands for it.
  grown-as : {s : Sym} {c : ℕ} {st₂ : State} (d : Amid x K N full (s ∷ left) st l w ms m st₁ l₁) → st₁.class ≡ c → 0 < c → Moved x st₁ st₂ → role_of K c ≡ aMark
      → (st₁.at < length x.ts → get_or (classes x) st₁.at 0 ≡ c → Read x (s ∷ []) st₁.at (shape.word c shape.nil) (st₁.at + 1))
      → Grown x K N full left st l (w ++ (word c ∷ [])) (ms ++ (tok_at x st₁.at ∷ [])) (m + 1) st₂ l₁ (joined d.L (mark (tok_at x st₁.at) own.none))
  unfolding arranged placed
  grown-as {s} {c} {st₂} d e h v role k =
      let i = in-there d e h in
      let f = class-here d e in
      let q = word-went d.lays.stands i v c l₁ (k i f) in
      let t : (tok_at x st₁.at).class ≡ c = sym (class-at x.ts st₁.at) ∙ f in
      let z = grows (s ∷ []) left d q (λ n g. ap (arranged K n) q.info.raw_is ∙ ap (λ o. placed o n (tok_at x st₁.at) own.none) (ap (role_of K) t ∙ role) ∙ sym q.info.laid_is)
      (ap (λ u. w ++ u) (ap sorts q.info.raw_is ∙ ap (λ a. word a ∷ []) t)) (ap (λ u. ms ++ u) (ap marks q.info.raw_is)) (ap (λ u. m + u) q.info.one) in
      record { amid = z.amid; is = ◌∙◌ {a = z.amid.L} z.is (ap (joined d.L) q.info.laid_is) }

  pub eats-as : {s : Sym} {c : ℕ} {st₂ : State} → Amid x K N full (s ∷ left) st l w ms m st₁ l₁ → st₁.class ≡ c → 0 < c → Moved x st₁ st₂ → role_of K c ≡ aMark
      → (st₁.at < length x.ts → get_or (classes x) st₁.at 0 ≡ c → Read x (s ∷ []) st₁.at (shape.word c shape.nil) (st₁.at + 1))
      → Amid x K N full left st l (w ++ (word c ∷ [])) (ms ++ (tok_at x st₁.at ∷ [])) (m + 1) st₂ l₁
  eats-as d e h v role k = (grown-as d e h v role k).amid

  -- A token whose class the code knows, as a mark.
  pub grown-eats : {st₂ : State} (c : ℕ) → 0 < c → (d : Amid x K N full (tok c ∷ left) st l w ms m st₁ l₁) → st₁.class ≡ c → Moved x st₁ st₂ → role_of K c ≡ aMark
      → Grown x K N full left st l (w ++ (word c ∷ [])) (ms ++ (tok_at x st₁.at ∷ [])) (m + 1) st₂ l₁ (joined d.L (mark (tok_at x st₁.at) own.none))
  grown-eats c h d e v role = grown-as d e h v role (λ i f. reads-tok x c f i)

  -- A token whose class the code knows: it goes on to the next one.
  pub advances : {c : ℕ} {st₂ : State} → Amid x K N full (tok c ∷ left) st l w ms m st₁ l₁ → st₁.class ≡ c → 0 < c → Moved x st₁ st₂ → role_of K c ≡ aMark
      → Amid x K N full left st l (w ++ (word c ∷ [])) (ms ++ (tok_at x st₁.at ∷ [])) (m + 1) st₂ l₁
  advances {c} d e h v role = eats-as d e h v role (λ i f. reads-tok x c f i)

  -- The same, of a nonterminal that has the class as an alternative.
  pub advances-one : {A c : ℕ} {st₂ : State} → Amid x K N full (nt A ∷ left) st l w ms m st₁ l₁ → sort_of (ex means (nt A)) ≡ shape.flat → expand table A c ≡ some (tok c ∷ []) → st₁.class ≡ c → 0 < c
      → Moved x st₁ st₂ → role_of K c ≡ aMark → Amid x K N full left st l (w ++ (word c ∷ [])) (ms ++ (tok_at x st₁.at ∷ [])) (m + 1) st₂ l₁
  advances-one {A} {c} d a b e h v role = eats-as d e h v role (λ i f. reads-one x A c a b f i)

  -- A token that `eat` found,
  pub then-eats : {c : ℕ} {st₂ : State} {a b : ℕ} {s : Step} → Amid x K N full (tok c ∷ left) st l w ms m st₁ l₁ → 0 < c → Eaten x st₁ c s → s ≡ Next st₂ a b → role_of K c ≡ aMark
      → Amid x K N full left st l (w ++ (word c ∷ [])) (ms ++ (tok_at x st₁.at ∷ [])) (m + 1) st₂ l₁
  then-eats {c} {st₂} {a} {b} d h e q role = let v = eaten e q in advances d v.0 h v.1 role

  -- or did not find.
  pub then-lacks : {c : ℕ} {s : Step} {σ' : List Sym} {wrap' : shape.Items → shape.Items} {J : Info} {st₀ : State} {l₀ l' : List ℕ} → Amid x K N full (tok c ∷ left) st l w ms m st₁ l₁
      → OneOf (1 ∷ []) (tag_of the_type s) → ((τ : List Sym) (p : ℕ) → Stuck x (full ++ τ) st.at p → Stuck x (σ' ++ τ) st₀.at p)
      → Eaten x st₁ c s → Parsed x σ' wrap' J st₀ l₀ l' s
  then-lacks d k f (ate e v) = absurd (omega arith)
  then-lacks d k f (lacked n) = stuck d.lays.stands.within (λ τ. f τ st₁.at (d.off τ st₁.at (k_tok (λ i e. n (d.lays.stands.class_is ∙ e)))))

  -- A node that a function read.
  pub then-node : {s : Sym} {P : ℕ → Type 0} {st₂ : State} {l₂ : List ℕ} {a b : ℕ} {r : Step} → Amid x K N full (s ∷ left) st l w ms m st₁ l₁ → Parsed x (s ∷ []) as_items (Node P) st₁ l₁ l₂ r → r ≡ Next st₂ a b
      → Noded x K N full left st l w ms m P st₂ l₂
  unfolding arranged
  then-node {s} d p e =
      let q = went e p in
      let i = q.info in
      let z = grows (s ∷ []) left d q (λ n g. ap (arranged K n) i.raw_is ∙ sym i.laid_is)
      (ap (λ u. w ++ u) (ap sorts i.raw_is)) (ap (λ u. ms ++ u) (ap marks i.raw_is) ∙ append-nil ms) (ap (λ u. m + u) i.none_left ∙ add-zero m) in
      record {
        kind = i.kind;
        low = i.low;
        high = i.high;
        first = first_class (own.yield i.js);
        its_kind = i.its_kind;
        amid = z.amid;
      }
