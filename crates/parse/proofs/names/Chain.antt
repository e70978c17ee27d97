-- More steps of a rule: names, a number, and names joined by `::`.
-- Assumes nothing.
use Rattle.std.proofs.Common.{◌≡◌, ℕ, ◌+◌, ◌≤◌, true, false, List, [], ◌∷◌, ◌++◌, sym, ap, ◌∙◌, ap₂, add-zero}
use types.Run.{OneOf}
use denote.Enum.Declared.{tag_of}
use Rattle.text.specs.Lists.{has}
use Rattle.theory.specs.Grammar.{Sym, nt}
use Rattle.theory.specs.Ebnf as shape
use Rattle.own.specs.Tree as own
use Rattle.own.specs.Tree.{Tok, Items, mark, sub, marks}
use Rattle.own.specs.Law.{Sort, word, sorts}
use Rattle.own.specs.Kinds as kind
use Rattle.kinds.specs.Fields.{counted}
use Rattle.kinds.specs.Families as family
use Rattle.lexer.specs.Classes as t
use Rattle.grammar.specs.Shapes.TablesIndex.{n-identifier, n-path-many-DoubleColon}
use Rattle.grammar.specs.Records.Records.{Role, asName, as_number, role_of, placed, arranged, low_half, high_half, sees, name_count}
use Rattle.parse.specs.contracts.Step.{the_type}
use Rattle.parse.specs.Contract.{Text, tok_at, Stuck, Info, as_items, Parsed, Named, Decimal, Names, value_at, countable}
use Rattle.parse.specs.declared.State.{State}
use Rattle.parse.specs.declared.Step.{Step}
use Rattle.parse.specs.declared.Step.TheVariants.{Next}
use Rattle.parse.proofs.Rule.Told.{Told, told-on}
use Rattle.parse.proofs.Rule.Amid.{went, Amid, grows, passed_on}

-- The pieces of names more: a names, and `::` between them.
pub record NamePieces (a : ℕ) (W : List Sort) : Type 0 where
  pub count_is : name_count W ≡ a
  pub bounded : a ≤ countable
  pub others : (c : ℕ) → has t.identifiers c ≡ false → (c ≡ t.DoubleColon → ⊥) → sees c W ≡ false
  pub no_parts : (ks : List ℕ) → counted ks W ≡ 0

module _ {x : Text} {K : ℕ} {N : ℕ → Type 0} {full left : List Sym} {st : State} {l : List ℕ} {w : List Sort} {ms : List Tok} {m : ℕ} {st₁ : State} {l₁ : List ℕ} where
  -- a token that is a record of its own
  named-as : {s : Sym} (kind low high : ℕ) {st₂ : State} {l₂ : List ℕ} {a b : ℕ} {r : Step} → Amid x K N full (s ∷ left) st l w ms m st₁ l₁
      → Parsed x (s ∷ []) as_items (Named (tok_at x st₁.at) kind low high) st₁ l₁ l₂ r → r ≡ Next st₂ a b
      → ((n : ℕ) → N n → arranged K n (mark (tok_at x st₁.at) own.none) ≡ sub kind low high (mark (tok_at x st₁.at) own.none) own.none)
      → Amid x K N full left st l (w ++ (word (tok_at x st₁.at).class ∷ [])) (ms ++ (tok_at x st₁.at ∷ [])) m st₂ l₂
  named-as {s} kind low high d p e f =
      let q = went e p in
      let i = q.info in
      let z = grows (s ∷ []) left d q (λ n g. ap (arranged K n) i.raw_is ∙ f n g ∙ sym i.laid_is)
      (ap (λ u. w ++ u) (ap sorts i.raw_is)) (ap (λ u. ms ++ u) (ap marks i.raw_is)) (ap (λ u. m + u) i.none_left ∙ add-zero m) in
      z.amid

  -- A name that a function read.
  pub then-named : {s : Sym} {st₂ : State} {l₂ : List ℕ} {a b : ℕ} {r : Step} → Amid x K N full (s ∷ left) st l w ms m st₁ l₁
      → Parsed x (s ∷ []) as_items (Named (tok_at x st₁.at) kind.Name 0 0) st₁ l₁ l₂ r → r ≡ Next st₂ a b → role_of K (tok_at x st₁.at).class ≡ asName
      → Amid x K N full left st l (w ++ (word (tok_at x st₁.at).class ∷ [])) (ms ++ (tok_at x st₁.at ∷ [])) m st₂ l₂
  unfolding arranged placed
  then-named d p e role = named-as kind.Name 0 0 d p e (λ n g. ap (λ (o : Role). placed o n (tok_at x st₁.at) own.none) role)

  -- A decimal that a function read, where it is the number of the record above.
  pub then-number : {s : Sym} {st₂ : State} {l₂ : List ℕ} {a b : ℕ} {r : Step} → Amid x K N full (s ∷ left) st l w ms m st₁ l₁
      → Parsed x (s ∷ []) as_items (Decimal x st₁.at) st₁ l₁ l₂ r → r ≡ Next st₂ a b → role_of K (tok_at x st₁.at).class ≡ as_number → ((n : ℕ) → N n → n ≡ value_at x st₁.at)
      → Amid x K N full left st l (w ++ (word (tok_at x st₁.at).class ∷ [])) (ms ++ (tok_at x st₁.at ∷ [])) m st₂ l₂
  unfolding arranged placed
  then-number d p e role f =
      named-as kind.Number (low_half (value_at x st₁.at)) (high_half (value_at x st₁.at)) d p e
      (λ n g. ap₂ (λ (o : Role) (k : ℕ). placed o k (tok_at x st₁.at) own.none) role (f n g))

  -- Names joined by `::` that a function read,
  pub then-names : {st₂ : State} {l₂ : List ℕ} {a b : ℕ} {r : Step} → Amid x K N full (nt n-identifier ∷ nt n-path-many-DoubleColon ∷ left) st l w ms m st₁ l₁
      → Parsed x (nt n-identifier ∷ nt n-path-many-DoubleColon ∷ []) as_items Names st₁ l₁ l₂ r → r ≡ Next st₂ a b → has family.names_kept K ≡ true
      → Told x K N full left st l w ms m (NamePieces a) st₂ l₂
  then-names d p e h =
      let q = went e p in
      let i = q.info in
      told-on (nt n-identifier ∷ nt n-path-many-DoubleColon ∷ []) left d q (λ n g. i.roles K n h) (record { count_is = i.count_is; bounded = i.bounded; others = i.others; no_parts = i.no_parts })

  -- or refused.
  pub then-names-passed : {I : Info} {l₂ : List ℕ} {r : Step} {σ' : List Sym} {wrap wrap' : shape.Items → shape.Items} {J : Info} {st₀ : State} {l₀ l' : List ℕ}
      → Amid x K N full (nt n-identifier ∷ nt n-path-many-DoubleColon ∷ left) st l w ms m st₁ l₁ → OneOf (1 ∷ []) (tag_of the_type r)
      → ((τ : List Sym) (p : ℕ) → Stuck x (full ++ τ) st.at p → Stuck x (σ' ++ τ) st₀.at p)
      → Parsed x (nt n-identifier ∷ nt n-path-many-DoubleColon ∷ []) wrap I st₁ l₁ l₂ r → Parsed x σ' wrap' J st₀ l₀ l' r
  then-names-passed d k f p = passed_on (nt n-identifier ∷ nt n-path-many-DoubleColon ∷ []) left d k f p

module _ {x : Text} {K : ℕ} {full left : List Sym} {st : State} {l : List ℕ} {w : List Sort} {ms : List Tok} {m : ℕ} {st₁ : State} {l₁ : List ℕ} where
  -- The same, where the number above is said to be that of this decimal.
  pub then-decimal : {s : Sym} {st₂ : State} {l₂ : List ℕ} {a b : ℕ} {r : Step} → Amid x K (λ n. n ≡ value_at x st₁.at) full (s ∷ left) st l w ms m st₁ l₁
      → Parsed x (s ∷ []) as_items (Decimal x st₁.at) st₁ l₁ l₂ r → r ≡ Next st₂ a b → role_of K (tok_at x st₁.at).class ≡ as_number
      → Amid x K (λ n. n ≡ value_at x st₁.at) full left st l (w ++ (word (tok_at x st₁.at).class ∷ [])) (ms ++ (tok_at x st₁.at ∷ [])) m st₂ l₂
  then-decimal d p e role = then-number d p e role (λ n g. g)
