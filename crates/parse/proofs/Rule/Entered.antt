-- A rule that was entered: its record is reserved, and what refuses inside it refuses its nonterminal.
-- Assumes nothing.
use Rattle.std.proofs.Common.{◌≡◌, ℕ, ◌-◌, ◌<◌, ◌≤◌, not, T, eqb, List, [], ◌∷◌, ◌∙◌}
use mathlib.Core.Option.{Option, none, some}
use Rattle.theory.specs.Grammar.{Sym, tok, nt}
use Rattle.theory.specs.Machine.{choose, expand}
use Rattle.theory.specs.Ebnf as shape
use Rattle.theory.specs.Ebnf.{sort_of}
use Rattle.theory.specs.Same.{ex}
use Rattle.own.specs.Tree.{Tok, Items, marks}
use Rattle.own.specs.Law.{Sort, word, sorts}
use Rattle.own.specs.Kinds as kind
use Rattle.grammar.specs.Shapes.Tables.{means, table}
use Rattle.grammar.specs.Records.Records.{head, aMark, role_of}
use Rattle.grammar.specs.Records.Faults.{Fault, faults_at, earliest}
use Rattle.parse.specs.Contract.{Text, tok_at, kept, Ready, Moved, Put, Eaten, Judged, Info, as_items, as_node, Went, Parsed, read, reserved, cleaned, Node}
use Rattle.parse.specs.declared.State.{State}
use Rattle.parse.specs.declared.Step.{Step}
use Rattle.parse.specs.declared.Step.TheVariants.{Next, Refused}
use Rattle.parse.proofs.Rule.Refused.{refusal}
use Rattle.parse.proofs.Rule.Amid.{Amid, starts, then-passed}
use Rattle.parse.proofs.Rule.Steps.{number_in, decided}
use Rattle.parse.proofs.Rule.Closing.{Opened, opens, opens-clean, Rule, as-nonterminal, enters}
use Rattle.parse.proofs.Rule.Chain.{Further, further, advances, advances-one, then-lacks}
use Rattle.parse.proofs.Rule.Commas.{AnyN}
use Rattle.parse.proofs.Rule.Heads.{faultless, shut, shut-judged}

-- At st the table chooses this rule of the nonterminal A; r is st with the record of the rule reserved, and keeps the refusal F.
pub record Entered (A i k : ℕ) (rhs : List Sym) (x : Text) (st r : State) (F : Option Fault) : Type 0 where
  pub rule : Rule A i k rhs
  pub ready : Ready x st
  pub chosen : choose table A st.class ≡ i
  pub opened : Opened x st r F

module _ {A i k : ℕ} {rhs : List Sym} (z : Rule A i k rhs) {x : Text} {st : State} (y : Ready x st) (e : choose table A st.class ≡ i) where
  -- So it is where the code has tested which rule it is, and reserved its record.
  pub by : {r : State} → r ≡ reserved st → Entered A i k rhs x st r (kept st)
  by h = record { rule = z; ready = y; chosen = e; opened = opens y h }

  -- The same where what is refused inside is kept apart.
  pub apart : {c r : State} → c ≡ cleaned st → r ≡ reserved c → Entered A i k rhs x st r none
  apart h g = record { rule = z; ready = y; chosen = e; opened = opens-clean y h g }

-- The first token of a rule, a mark of its record,
pub first : {x : Text} {st r a : State} {F : Option Fault} {left : List Sym} (K : ℕ) (N : ℕ → Type 0) (c : ℕ) (l : List ℕ) → Opened x st r F → st.class ≡ c → 0 < c → Moved x r a → role_of K c ≡ aMark
    → Amid x K N (tok c ∷ left) left r l (word c ∷ []) (tok_at x r.at ∷ []) 1 a l
first {left = left} K N c l o e h v role = advances (starts K N (tok c ∷ left) l o.stands) (o.class_is ∙ e) h v role

-- or a nonterminal that has its class as an alternative.
pub first-one : {x : Text} {st r a : State} {F : Option Fault} {A : ℕ} {left : List Sym} (K : ℕ) (l : List ℕ) → Opened x st r F → sort_of (ex means (nt A)) ≡ shape.flat → expand table A st.class ≡ some (tok st.class ∷ []) → 0 < st.class
    → Moved x r a → role_of K st.class ≡ aMark → Amid x K AnyN (nt A ∷ left) left r l (word st.class ∷ []) (tok_at x r.at ∷ []) 1 a l
first-one {A = A} {left = left} K l o f e h v role = advances-one (starts K AnyN (nt A ∷ left) l o.stands) f e o.class_is h v role

module _ {A i k : ℕ} {rhs : List Sym} {x : Text} {st r : State} {F : Option Fault} (n : Entered A i k rhs x st r F)
    {K : ℕ} {N : ℕ → Type 0} {l : List ℕ} {w : List Sort} {ms : List Tok} {m : ℕ} {st₁ : State} {l₁ : List ℕ} where
  -- On the way through the rule it goes on from where it came to,
  pub on : {left : List Sym} → Amid x K N rhs left r l w ms m st₁ l₁ → 1 ≤ m → Further x st st₁
  on d one = further n.ready n.opened d one

  -- or the function that reads the next symbol refuses,
  pub passed : {s : Sym} {left : List Sym} {wrap : shape.Items → shape.Items} {I J : Info} {l₂ l₀ l' : List ℕ} {q : Step} {p : ℕ}
      → Amid x K N rhs (s ∷ left) r l w ms m st₁ l₁ → q ≡ Refused p → Parsed x (s ∷ []) wrap I st₁ l₁ l₂ q → Parsed x (nt A ∷ []) as_items J st l₀ l' q
  passed d e h = then-passed d (refusal e) (enters n.rule n.ready n.chosen n.opened) h

  -- or the next token is another.
  pub lacks : {c : ℕ} {left : List Sym} {J : Info} {l₀ l' : List ℕ} {q : Step} {p : ℕ} → Amid x K N rhs (tok c ∷ left) r l w ms m st₁ l₁ → q ≡ Refused p → Eaten x st₁ c q
      → Parsed x (nt A ∷ []) as_items J st l₀ l' q
  lacks d e h = then-lacks d (refusal e) (enters n.rule n.ready n.chosen n.opened) h

-- What was read by the rule is its nonterminal.
module _ {A i k : ℕ} {rhs : List Sym} {x : Text} {st r : State} {F : Option Fault} (n : Entered A i k rhs x st r F) where
  pub whole : {I : Info} {l l' : List ℕ} {st₁ : State} {a b : ℕ} → Went x rhs (as_node k) I st l st₁ l' a b → Parsed x (nt A ∷ []) as_items I st l l' (Next st₁ a b)
  whole q = as-nonterminal n.rule n.ready n.chosen (read q)

-- Its record, if that has no refusal of its own and is no match.
module _ {A i k : ℕ} {rhs : List Sym} {x : Text} {st r : State} (n : Entered A i k rhs x st r (kept st))
    {K : ℕ} {l : List ℕ} {w : List Sort} {ms : List Tok} {m : ℕ} {st₁ : State} {l₁ l' : List ℕ} {low high : ℕ} where
  pub closes : T (faultless k) → Amid x K AnyN rhs [] r l w ms m st₁ l₁ → 1 ≤ m → decided x k w ms ≡ head K low high → T (not (eqb K kind.Match)) → (P : ℕ → Type 0) → P K
      → Put l₁ st.out K st.start st₁.end low high (st₁.out - st.out) l' → Parsed x (nt A ∷ []) as_items (Node P) st l l' (Next st₁ 0 0)
  closes f d one hd t P p put = whole n (shut k f n.ready n.opened d one hd t P p put)

-- The same with one.
module _ {A i k : ℕ} {rhs : List Sym} {x : Text} {st r : State} (n : Entered A i k rhs x st r none)
    {K : ℕ} {N : ℕ → Type 0} {l : List ℕ} {w : List Sort} {ms : List Tok} {m : ℕ} {st₁ : State} {l₁ l' : List ℕ} {low high : ℕ} where
  pub closes-judged : {st₂ : State} {its : Option Fault} → (d : Amid x K N rhs [] r l w ms m st₁ l₁) → 1 ≤ m → decided x k w ms ≡ head K low high → N (number_in x ms) → T (not (eqb K kind.Match))
      → (P : ℕ → Type 0) → P K → Put l₁ st.out K st.start st₁.end low high (st₁.out - st.out) l' → Judged st st₁ its st₂
      → ((is : Items) → sorts is ≡ w → marks is ≡ ms → earliest (faults_at x.draft k is) ≡ its) → Parsed x (nt A ∷ []) as_items (Node P) st l l' (Next st₂ 0 0)
  closes-judged d one hd hn t P p put j own = whole n (shut-judged k n.ready n.opened d one hd hn t P p put j own)

-- In a part without a record of its own, where it is refused, what it is part of is.
module _ {x : Text} {K : ℕ} {N : ℕ → Type 0} {full left : List Sym} {st : State} {l : List ℕ} {w : List Sort} {ms : List Tok} {m : ℕ} {st₁ : State} {l₁ l₀ l' : List ℕ} {wrap' : shape.Items → shape.Items} {J : Info} {q : Step} {p : ℕ} where
  pub part-passed : {s : Sym} {wrap : shape.Items → shape.Items} {I : Info} {l₂ : List ℕ} → Amid x K N full (s ∷ left) st l w ms m st₁ l₁ → q ≡ Refused p
      → Parsed x (s ∷ []) wrap I st₁ l₁ l₂ q → Parsed x full wrap' J st l₀ l' q
  part-passed d e h = then-passed d (refusal e) (λ τ p g. g) h

  pub part-lacks : {c : ℕ} → Amid x K N full (tok c ∷ left) st l w ms m st₁ l₁ → q ≡ Refused p → Eaten x st₁ c q → Parsed x full wrap' J st l₀ l' q
  part-lacks d e h = then-lacks d (refusal e) (λ τ p g. g) h
