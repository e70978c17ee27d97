-- The steps of a function, of a parameter and of a result type.
-- Assumes nothing.
use Rattle.std.proofs.Common.{◌≡◌, ℕ, ◌+◌, ◌≤◌, true, List, [], ◌∷◌, ◌++◌, sym, ap, ◌∙◌, arith}
use Rattle.theory.specs.Grammar.{Sym, tok, nt}
use Rattle.theory.specs.Ebnf as shape
use Rattle.text.specs.Lists.{has}
use Rattle.own.specs.Tree.{Tok}
use Rattle.own.specs.Law.{Sort, word}
use Rattle.own.specs.Kinds as kind
use Rattle.grammar.specs.Shapes.TablesIndex.{n-block, n-function, n-function-optional-Arrow, n-function-optional-Pub, n-function_name, n-identifier, n-list-parameter, n-parameter, n-type}
use Rattle.grammar.specs.Shapes.ShapeKind.{ParameterShape}
use Rattle.lexer.specs.Classes as t
use Rattle.parse.specs.Contract.{Text, tok_at, kept, Ready, Moved, Eaten, Info, as_items, Parsed, NameAt, reserved}
use Rattle.parse.specs.Infos.{Optional, Parameters, public, typed}
use Rattle.parse.specs.declared.State.{State}
use Rattle.parse.specs.declared.Step.{Step}
use Rattle.parse.specs.declared.Step.TheVariants.{Next, Refused}
use Rattle.parse.proofs.Rule.Marks.{sign-mark}
use Rattle.parse.proofs.Rule.Amid.{Amid, class-at, starts, then-passed}
use Rattle.parse.proofs.Rule.Closing.{opens}
use Rattle.parse.proofs.Rule.Chain.{further, turns, advances, then-eats, then-lacks}
use Rattle.parse.proofs.Rule.Told.{Told}
use Rattle.parse.proofs.Rule.Commas.{AnyN}
use Rattle.parse.proofs.Rule.Entered as entered
use Rattle.parse.proofs.Rule.Entered.{Entered}
use Rattle.parse.proofs.Rule.Refused.{refusal}
use Rattle.parse.proofs.names.Chain.{then-named}
use Rattle.parse.proofs.names.Rows.{name-role}
use Rattle.parse.proofs.names.Joined.{identifier-class, function-name-class}
use Rattle.parse.proofs.program.Forms as form
use Rattle.parse.proofs.program.Forms.{OptionPieces, ParameterPieces}

-- What is left of a function's rule from some of its symbols on.
abbrev from-block : List Sym
from-block = nt n-function-optional-Arrow ∷ nt n-block ∷ []

abbrev from-list : List Sym
from-list = nt n-list-parameter ∷ tok t.RParen ∷ from-block

abbrev from-name : List Sym
from-name = nt n-function_name ∷ tok t.LParen ∷ from-list

-- A function is refused where a part of it is or a token is not there; and from each state on the way it may go on.
module _ {x : Text} {st r : State} (y : Ready x st) (o : r ≡ reserved st) {left : List Sym} {l : List ℕ} {w : List Sort} {ms : List Tok} {m : ℕ} {st₁ : State} {l₁ : List ℕ} where
  module _ {wrap' : shape.Items → shape.Items} {J : Info} {l₀ l' : List ℕ} {q : Step} {p : ℕ} where
    pub function-passed : {s : Sym} {wrap : shape.Items → shape.Items} {I : Info} {l₂ : List ℕ} → Amid x kind.Function AnyN form.function_rhs (s ∷ left) r l w ms m st₁ l₁ → q ≡ Refused p
        → Parsed x (s ∷ []) wrap I st₁ l₁ l₂ q → Parsed x (nt n-function ∷ []) wrap' J st l₀ l' q
    function-passed d f g = then-passed d (refusal f) (form.function-enters y (opens y o)) g

    pub function-lacks : {c : ℕ} → Amid x kind.Function AnyN form.function_rhs (tok c ∷ left) r l w ms m st₁ l₁ → q ≡ Refused p → Eaten x st₁ c q → Parsed x (nt n-function ∷ []) wrap' J st l₀ l' q
    function-lacks d f g = then-lacks d (refusal f) (form.function-enters y (opens y o)) g

  pub function-ready : Amid x kind.Function AnyN form.function_rhs left r l w ms m st₁ l₁ → 1 ≤ m → Ready x st₁
  function-ready d h = (further y (opens y o) d h).ready

module _ {x : Text} {st r : State} (y : Ready x st) (o : r ≡ reserved st) (l : List ℕ) where
  -- `pub` or nothing,
  module _ {s₁ : Step} {a : State} {low j₁ : ℕ} (p₁ : Parsed x (nt n-function-optional-Pub ∷ []) as_items (Optional t.Pub public) r l l s₁) (q₁ : s₁ ≡ Next a low j₁) where
    pub function₁ : Told x kind.Function AnyN form.function_rhs (tok t.Fn ∷ from-name) r l [] [] 0 (OptionPieces t.Pub public low) a l
    function₁ = form.then-optional (starts kind.Function AnyN form.function_rhs l (opens y o).stands) p₁ q₁

    -- `fn`,
    module _ {s₂ : Step} {b : State} {i₂ j₂ : ℕ} (p₂ : Eaten x a t.Fn s₂) (q₂ : s₂ ≡ Next b i₂ j₂) where
      abbrev w₂ : List Sort
      w₂ = function₁.W ++ (word t.Fn ∷ [])

      abbrev t₂ : List Tok
      t₂ = function₁.more ++ (tok_at x a.at ∷ [])

      abbrev m₂ : ℕ
      m₂ = (0 + function₁.k) + 1

      pub function₂ : Amid x kind.Function AnyN form.function_rhs from-name r l w₂ t₂ m₂ b l
      function₂ = then-eats function₁.amid (omega arith) p₂ q₂ (sign-mark kind.Function t.Fn tt)

      -- the name,
      module _ {n₁ : List ℕ} {s₃ : Step} {d : State} {i₃ j₃ : ℕ} (p₃ : Parsed x (nt n-function_name ∷ []) as_items (NameAt x b.at) b l n₁ s₃) (q₃ : s₃ ≡ Next d i₃ j₃) where
        abbrev w₃ : List Sort
        w₃ = w₂ ++ (word (tok_at x b.at).class ∷ [])

        abbrev t₃ : List Tok
        t₃ = t₂ ++ (tok_at x b.at ∷ [])

        pub function₃ : Amid x kind.Function AnyN form.function_rhs (tok t.LParen ∷ from-list) r l w₃ t₃ m₂ d n₁
        function₃ = then-named function₂ p₃ q₃ (name-role kind.Function (tok_at x b.at).class form.named-function (form.name-identifier (tok_at x b.at).class (function-name-class p₃ q₃)))

        -- `(`,
        module _ {s₄ : Step} {f : State} {i₄ j₄ : ℕ} (p₄ : Eaten x d t.LParen s₄) (q₄ : s₄ ≡ Next f i₄ j₄) where
          abbrev w₄ : List Sort
          w₄ = w₃ ++ (word t.LParen ∷ [])

          abbrev t₄ : List Tok
          t₄ = t₃ ++ (tok_at x d.at ∷ [])

          pub function₄ : Amid x kind.Function AnyN form.function_rhs from-list r l w₄ t₄ (m₂ + 1) f n₁
          function₄ = then-eats function₃ (omega arith) p₄ q₄ (sign-mark kind.Function t.LParen tt)

          -- the parameters,
          module _ {l₁ : List ℕ} {s₅ : Step} {g : State} {number j₅ : ℕ} (p₅ : Parsed x (nt n-list-parameter ∷ []) as_items Parameters f n₁ l₁ s₅) (q₅ : s₅ ≡ Next g number j₅) where
            pub function₅ : Told x kind.Function AnyN form.function_rhs (tok t.RParen ∷ from-block) r l w₄ t₄ (m₂ + 1) (ParameterPieces number) g l₁
            function₅ = form.then-parameters function₄ p₅ q₅

            -- `)`,
            module _ {s₆ : Step} {h : State} {i₆ j₆ : ℕ} (p₆ : Eaten x g t.RParen s₆) (q₆ : s₆ ≡ Next h i₆ j₆) where
              abbrev w₆ : List Sort
              w₆ = (w₄ ++ function₅.W) ++ (word t.RParen ∷ [])

              abbrev t₆ : List Tok
              t₆ = (t₄ ++ function₅.more) ++ (tok_at x g.at ∷ [])

              abbrev m₆ : ℕ
              m₆ = ((m₂ + 1) + function₅.k) + 1

              pub function₆ : Amid x kind.Function AnyN form.function_rhs from-block r l w₆ t₆ m₆ h l₁
              function₆ = then-eats function₅.amid (omega arith) p₆ q₆ (sign-mark kind.Function t.RParen tt)

              -- an arrow and a type, or nothing.
              pub function₇ : {l₂ : List ℕ} {s₇ : Step} {j : State} {more j₇ : ℕ} → Parsed x (nt n-function-optional-Arrow ∷ []) as_items (Optional t.Arrow typed) h l₁ l₂ s₇ → s₇ ≡ Next j more j₇
                  → Told x kind.Function AnyN form.function_rhs (nt n-block ∷ []) r l w₆ t₆ m₆ (OptionPieces t.Arrow typed more) j l₂
              function₇ p q = form.then-optional function₆ p q

  -- A parameter: where its name was read the table chose the rule.
  module _ {l₁ : List ℕ} {s₁ : Step} {a : State} {i₁ j₁ : ℕ} (p₁ : Parsed x (nt n-identifier ∷ []) as_items (NameAt x r.at) r l l₁ s₁) (q₁ : s₁ ≡ Next a i₁ j₁) where
    named : has t.identifiers (tok_at x r.at).class ≡ true
    named = identifier-class p₁ q₁

    pub parameter-entered : Entered n-parameter 1 ParameterShape form.parameter_rhs x st r (kept st)
    parameter-entered =
        let v = opens y o in
        entered.by form.parameter-rule y (form.at-parameter st.class (sym (ap (has t.identifiers) (sym (class-at x.ts r.at) ∙ sym v.stands.class_is ∙ v.class_is)) ∙ named)) o

    pub parameter₁ : Amid x kind.Parameter AnyN form.parameter_rhs (tok t.Colon ∷ nt n-type ∷ []) r l (word (tok_at x r.at).class ∷ []) (tok_at x r.at ∷ []) 0 a l₁
    parameter₁ = then-named (starts kind.Parameter AnyN form.parameter_rhs l (opens y o).stands) p₁ q₁ (name-role kind.Parameter (tok_at x r.at).class form.named-parameter named)

    -- `:` behind it.
    pub parameter₂ : {s₂ : Step} {b : State} {i₂ j₂ : ℕ} → Eaten x a t.Colon s₂ → s₂ ≡ Next b i₂ j₂
        → Amid x kind.Parameter AnyN form.parameter_rhs (nt n-type ∷ []) r l (word (tok_at x r.at).class ∷ word t.Colon ∷ []) (tok_at x r.at ∷ tok_at x a.at ∷ []) 1 b l₁
    parameter₂ p q = then-eats parameter₁ (omega arith) p q (sign-mark kind.Parameter t.Colon tt)

-- The arrow before a result type.
pub arrow₁ : {x : Text} {st a : State} (l : List ℕ) → Ready x st → st.class ≡ t.Arrow → Moved x st a
    → Amid x 0 AnyN (nt n-function-optional-Arrow ∷ []) (nt n-type ∷ []) st l (word t.Arrow ∷ []) (tok_at x st.at ∷ []) 1 a l
arrow₁ {st = st} l y e v = advances (turns (tok t.Arrow ∷ nt n-type ∷ []) (starts 0 AnyN (nt n-function-optional-Arrow ∷ []) l y.stands) form.arrow-optional.flat (form.arrow-optional.there st.class e)) e (omega arith) v (sign-mark 0 t.Arrow tt)
