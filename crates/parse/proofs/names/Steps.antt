-- The answers of a function that reads one token as a record of its own.
-- Assumes nothing.
use Rattle.std.proofs.Common.{◌≡◌, ℕ, ◌<◌, ◌≤◌, List, [], ◌∷◌, length, sym, ap, ◌∙◌, arith}
use mathlib.Core.Option.{none, some}
use Rattle.num.specs.Value.{Value, number_of}
use Rattle.text.specs.Part.{part_of}
use Rattle.theory.specs.Grammar.{tok, nt}
use Rattle.theory.specs.Machine.{expand}
use Rattle.theory.specs.Ebnf as shape
use Rattle.theory.specs.Ebnf.{sort_of}
use Rattle.theory.specs.Same.{ex}
use Rattle.theory.specs.Walk.{k_tok, k_nt}
use Rattle.grammar.specs.Shapes.Tables.{means, table}
use Rattle.lexer.specs.Classes as t
use Rattle.own.specs.Kinds as kind
use Rattle.parse.specs.Contract.{Text, tok_at, Ready, Near, Moved, Put, PutNumber, Info, as_items, Parsed, read, stuck, reserved, Named, Decimal, value_at, countable}
use Rattle.parse.specs.declared.State.{State}
use Rattle.parse.specs.declared.Step.TheVariants.{Next, Refused}
use Rattle.parse.proofs.tree.Numbers.{number-numbered, put-number}
use Rattle.parse.proofs.Rule.Amid.{inside}
use Rattle.parse.proofs.Rule.Steps.{child-went, reads-tok, reads-one}
use Rattle.parse.proofs.Rule.Heads.{value-here}

-- Where nothing was reserved there is room.
pub ready-near : {x : Text} {st : State} → Ready x st → Near x st
ready-near y = record { stands = y.stands; short = y.short; few = omega (arith, y.few) }

module _ {x : Text} {st : State} (y : Near x st) where
  pub is-inside : 0 < st.class → st.at < length x.ts
  is-inside h = inside x st.at h (sym y.stands.class_is)

  -- A nonterminal that the table has nothing for,
  pub refuses-near : {A : ℕ} {wrap : shape.Items → shape.Items} {I : Info} {l l' : List ℕ} → expand table A st.class ≡ none → Parsed x (nt A ∷ []) wrap I st l l' (Refused st.at)
  refuses-near {A} e = stuck y.stands.within (λ τ. k_nt (ap (expand table A) (sym y.stands.class_is) ∙ e))

  module _ {st₁ st₂ : State} {l l' : List ℕ} {kind low high : ℕ} (pos : 0 < st.class) (v : Moved x st st₁) (put : Put l st₁.out kind st.start st.stop low high 1 l') (more : st₂ ≡ reserved st₁) where
    few : st.out ≤ countable
    few = omega (arith, y.few, is-inside pos, y.short)

    -- A nonterminal that has the class of the token as an alternative,
    pub child-near : {A : ℕ} → sort_of (ex means (nt A)) ≡ shape.flat → expand table A st.class ≡ some (tok st.class ∷ [])
        → Parsed x (nt A ∷ []) as_items (Named (tok_at x st.at) kind low high) st l l' (Next st₂ 0 0)
    child-near {A} f e =
        read (child-went y.stands (is-inside pos) v put more few st.class (reads-one x A st.class f e (sym y.stands.class_is) (is-inside pos)))

    -- and a token.
    child-tok : {c : ℕ} → st.class ≡ c → Parsed x (tok c ∷ []) as_items (Named (tok_at x st.at) kind low high) st l l' (Next st₂ 0 0)
    child-tok {c} e = read (child-went y.stands (is-inside pos) v put more few c (reads-tok x c (sym y.stands.class_is ∙ e) (is-inside pos)))

-- The same where nothing was reserved.
module _ {x : Text} {st : State} (y : Ready x st) where
  pub refuses-nt : {A : ℕ} {wrap : shape.Items → shape.Items} {I : Info} {l l' : List ℕ} → expand table A st.class ≡ none → Parsed x (nt A ∷ []) wrap I st l l' (Refused st.at)
  refuses-nt e = refuses-near (ready-near y) e

  -- A token of another class.
  pub refuses-tok : {c : ℕ} {wrap : shape.Items → shape.Items} {I : Info} {l l' : List ℕ} → (st.class ≡ c → ⊥) → Parsed x (tok c ∷ []) wrap I st l l' (Refused st.at)
  refuses-tok n = stuck y.stands.within (λ τ. k_tok (λ i e. n (y.stands.class_is ∙ e)))

  pub child-nt : {st₁ st₂ : State} {l l' : List ℕ} {kind low high : ℕ} → 0 < st.class → Moved x st st₁ → Put l st₁.out kind st.start st.stop low high 1 l' → st₂ ≡ reserved st₁
      → {A : ℕ} → sort_of (ex means (nt A)) ≡ shape.flat → expand table A st.class ≡ some (tok st.class ∷ [])
      → Parsed x (nt A ∷ []) as_items (Named (tok_at x st.at) kind low high) st l l' (Next st₂ 0 0)
  child-nt pos v put more f e = child-near (ready-near y) pos v put more f e

-- A decimal, with the halves of its number.
pub child-decimal : {x : Text} {st st₁ st₂ : State} {l l' : List ℕ} {v : Value} → Ready x st → st.class ≡ t.DecLiteral → Moved x st st₁
    → PutNumber l st₁.out kind.Number st.start st.stop v 1 l' → st₂ ≡ reserved st₁ → v ≡ number_of (part_of x.draft st.start st.stop)
    → Parsed x (tok t.DecLiteral ∷ []) as_items (Decimal x st.at) st l l' (Next st₂ 0 0)
child-decimal {x} {st} y c m put more e =
    child-tok (ready-near y) (omega arith) m (put-number (value_at x st.at) (e ∙ value-here y.stands) number-numbered put) more c
