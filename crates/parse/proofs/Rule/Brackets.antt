-- What opens brackets and what closes them, as steps of a rule: both are marks of every record. And a list in brackets, whatever stands in it.
-- Assumes nothing.
use Rattle.std.proofs.Common.{◌≡◌, ℕ, ◌+◌, List, [], ◌∷◌, ◌++◌, ◌∙◌}
use mathlib.Core.Option.{Option}
use Rattle.theory.specs.Grammar.{Sym, tok, nt}
use Rattle.own.specs.Tree.{Tok}
use Rattle.own.specs.Law.{Sort, word}
use Rattle.grammar.specs.Records.Faults.{Fault}
use Rattle.parse.specs.Contract.{Text, tok_at, Moved, Eaten, as_items, Parsed, Commas, opening_class, closing_class}
use Rattle.parse.specs.declared.State.{State}
use Rattle.parse.specs.declared.Step.{Step}
use Rattle.parse.specs.declared.Step.TheVariants.{Next}
use Rattle.parse.specs.declared.token.Brackets.{Brackets}
use Rattle.parse.proofs.Rule.Marks.{sign_pos, sign-mark, opens-sign, closes-sign}
use Rattle.parse.proofs.Rule.Amid.{Amid, starts}
use Rattle.parse.proofs.Rule.Closing.{Opened}
use Rattle.parse.proofs.Rule.Chain.{advances, then-eats}
use Rattle.parse.proofs.Rule.Commas.{AnyN, Listed, then-list}

module _ {x : Text} {K : ℕ} {N : ℕ → Type 0} {full left : List Sym} {st : State} {l : List ℕ} {w : List Sort} {ms : List Tok} {m : ℕ} {st₁ : State} {l₁ : List ℕ} (b : Brackets) where
  pub then-opens : {st₂ : State} → Amid x K N full (tok (opening_class b) ∷ left) st l w ms m st₁ l₁ → st₁.class ≡ opening_class b → Moved x st₁ st₂
      → Amid x K N full left st l (w ++ (word (opening_class b) ∷ [])) (ms ++ (tok_at x st₁.at ∷ [])) (m + 1) st₂ l₁
  then-opens d e v = advances d e (sign_pos (opening_class b) (opens-sign b)) v (sign-mark K (opening_class b) (opens-sign b))

  pub then-closes : {st₂ : State} {i j : ℕ} {s : Step} → Amid x K N full (tok (closing_class b) ∷ left) st l w ms m st₁ l₁ → Eaten x st₁ (closing_class b) s → s ≡ Next st₂ i j
      → Amid x K N full left st l (w ++ (word (closing_class b) ∷ [])) (ms ++ (tok_at x st₁.at ∷ [])) (m + 1) st₂ l₁
  then-closes d q e = then-eats d (sign_pos (closing_class b) (closes-sign b)) q e (sign-mark K (closing_class b) (closes-sign b))

-- A list in brackets.
abbrev in_brackets : Brackets → ℕ → List Sym
in_brackets b L = tok (opening_class b) ∷ nt L ∷ tok (closing_class b) ∷ []

-- What opens them,
module _ {x : Text} {st r a : State} {F : Option Fault} (K L : ℕ) (b : Brackets) (l : List ℕ) (o : Opened x st r F) (e : st.class ≡ opening_class b) (v : Moved x r a) where
  pub bracket₁ : Amid x K AnyN (in_brackets b L) (nt L ∷ tok (closing_class b) ∷ []) r l (word (opening_class b) ∷ []) (tok_at x r.at ∷ []) 1 a l
  bracket₁ = then-opens b (starts K AnyN (in_brackets b L) l o.stands) (o.class_is ∙ e) v

  -- the list,
  module _ {l₁ : List ℕ} {s₁ : Step} {d : State} {i₁ j₁ : ℕ} (p₁ : Parsed x (nt L ∷ []) as_items Commas a l l₁ s₁) (q₁ : s₁ ≡ Next d i₁ j₁) where
    pub bracket₂ : Listed x K AnyN (in_brackets b L) (tok (closing_class b) ∷ []) r l (word (opening_class b) ∷ []) (tok_at x r.at ∷ []) 1 d l₁
    bracket₂ = then-list bracket₁ p₁ q₁

    -- and what closes them.
    pub bracket₃ : {s₂ : Step} {f : State} {i₂ j₂ : ℕ} → Eaten x d (closing_class b) s₂ → s₂ ≡ Next f i₂ j₂
        → Amid x K AnyN (in_brackets b L) [] r l (((word (opening_class b) ∷ []) ++ bracket₂.W) ++ (word (closing_class b) ∷ [])) (((tok_at x r.at ∷ []) ++ bracket₂.more) ++ (tok_at x d.at ∷ [])) ((1 + bracket₂.k) + 1) f l₁
    bracket₃ p q = then-closes b bracket₂.amid p q
