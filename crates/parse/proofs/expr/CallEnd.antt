-- The end of a call: its arguments, behind `>` where the call has `::<..>`, and its record.
-- Assumes nothing.
use Rattle.std.proofs.Common.{◌≡◌, ℕ, ◌+◌, ◌-◌, T, List, [], ◌∷◌, ◌++◌, sym, refl, subst, arith}
use Rattle.lexer.specs.Classes as t
use Rattle.theory.specs.Grammar.{Sym, tok, nt}
use Rattle.theory.specs.Ebnf as shape
use Rattle.own.specs.Kinds as kind
use Rattle.own.specs.Tree.{Tok}
use Rattle.own.specs.Law.{Sort, word}
use Rattle.grammar.specs.Shapes.TablesIndex.{n-single, n-arguments}
use Rattle.grammar.specs.Records.Records.{call_head}
use Rattle.parse.specs.Contract.{Text, tok_at, Stuck, kept, Put, Eaten, Info, as_items, Parsed, Parses, Node, ExprKind, Only}
use Rattle.parse.specs.Infos.{Args, CallEnds, call_ends, call_stuck, AngleEnds, angle_ends, angle_stuck}
use Rattle.parse.specs.declared.State.{State}
use Rattle.parse.specs.declared.Step.{Step}
use Rattle.parse.specs.declared.Step.TheVariants.{Next, Refused}
use Rattle.parse.proofs.Rule.Amid.{Amid, then-passed}
use Rattle.parse.proofs.Rule.Steps.{decided}
use Rattle.parse.proofs.Rule.Entered.{Entered, closes, passed, lacks}
use Rattle.parse.proofs.Rule.Chain.{then-eats, then-lacks}
use Rattle.parse.proofs.Rule.Marks.{sign-mark}
use Rattle.parse.proofs.Rule.Commas.{AnyN}
use Rattle.parse.proofs.Rule.Heads.{faultless}
use Rattle.parse.proofs.Rule.Refused.{refusal}
use Rattle.parse.proofs.expr.CallForms as call
use Rattle.parse.proofs.expr.CallLaws as law

-- As the code takes its steps.
module _ {x : Text} {st a : State} {l l' : List ℕ} {s : Step} where
  pub call-stuck : {l₁ : List ℕ} {p : ℕ} → s ≡ Refused p → Parsed x (nt n-arguments ∷ []) as_items Args a l l₁ s → CallEnds x st a l l' s
  call-stuck {l₁} e q = subst (λ r. CallEnds x st a l l' r) (sym e) (call_stuck (subst (λ r. Parsed x (nt n-arguments ∷ []) as_items Args a l l₁ r) e q))

  pub call-ends : {l₁ : List ℕ} {z : State} {u v : ℕ} → s ≡ Next z u v → Parsed x (nt n-arguments ∷ []) as_items Args a l l₁ s
      → Put l₁ st.out kind.Call st.start z.end (call_head st.class).low 0 (z.out - st.out) l' → CallEnds x st a l l' (Next z 0 0)
  call-ends {l₁} e q put = call_ends (subst (λ r. Parsed x (nt n-arguments ∷ []) as_items Args a l l₁ r) e q) put

  pub angle-stuck : {p : ℕ} → s ≡ Refused p → Eaten x a t.RAngle s → AngleEnds x st a l l' s
  angle-stuck e q = subst (λ r. AngleEnds x st a l l' r) (sym e) (angle_stuck (subst (λ r. Eaten x a t.RAngle r) e q))

  pub angle-ends : {b : State} {u v : ℕ} {r : Step} → s ≡ Next b u v → Eaten x a t.RAngle s → CallEnds x st b l l' r → AngleEnds x st a l l' r
  angle-ends e q c = angle_ends (subst (λ r. Eaten x a t.RAngle r) e q) c

-- In a rule that has only its arguments left, which reads a call by the class of its first token:
module _ {x : Text} {st r : State} {i k : ℕ} {rhs : List Sym} {l : List ℕ} {w : List Sort} {ms : List Tok} {m : ℕ} {a : State} {l₁ l' : List ℕ}
    (n : Entered n-single i k rhs x st r (kept st)) (f : T (faultless k)) where
  pub call-shut : {s : Step} → Amid x kind.Call AnyN rhs (nt n-arguments ∷ []) r l w ms m a l₁
      → ((W : List Sort) → Only t.Comma W → (ms₂ : List Tok) (m₂ : ℕ) (st₂ : State) (l₂ : List ℕ) → Amid x kind.Call AnyN rhs [] r l (w ++ (word t.LParen ∷ (W ++ (word t.RParen ∷ [])))) ms₂ m₂ st₂ l₂
      → decided x k (w ++ (word t.LParen ∷ (W ++ (word t.RParen ∷ [])))) ms₂ ≡ call_head st.class)
      → CallEnds x st a l₁ l' s → Parses n-single (Node ExprKind) x st l l' s
  call-shut d h (call_ends {z = st₂} {l₁ = l₂} p put) =
      let g = law.then-args d p refl in
      closes n f g.amid (omega (arith, g.one)) (call.call-low st.class (h g.W g.commas (ms ++ g.more) (m + g.k) st₂ l₂ g.amid) refl) tt ExprKind call.call-kind put
  call-shut d h (call_stuck p) = passed n d refl p

module _ {x : Text} {st r : State} {i k : ℕ} {rhs : List Sym} {l : List ℕ} {w : List Sort} {ms : List Tok} {m : ℕ} {a : State} {l₁ l' : List ℕ}
    (n : Entered n-single i k rhs x st r (kept st)) (f : T (faultless k)) where
  -- or `>` before them.
  pub angle-shut : {s : Step} → Amid x kind.Call AnyN rhs (tok t.RAngle ∷ nt n-arguments ∷ []) r l w ms m a l₁
      → ((W : List Sort) → Only t.Comma W → (ms₂ : List Tok) (m₂ : ℕ) (st₂ : State) (l₂ : List ℕ) → Amid x kind.Call AnyN rhs [] r l ((w ++ (word t.RAngle ∷ [])) ++ (word t.LParen ∷ (W ++ (word t.RParen ∷ [])))) ms₂ m₂ st₂ l₂
      → decided x k ((w ++ (word t.RAngle ∷ [])) ++ (word t.LParen ∷ (W ++ (word t.RParen ∷ [])))) ms₂ ≡ call_head st.class)
      → AngleEnds x st a l₁ l' s → Parses n-single (Node ExprKind) x st l l' s
  angle-shut d h (angle_ends q c) = call-shut n f (then-eats d (omega arith) q refl (sign-mark kind.Call t.RAngle tt)) h c
  angle-shut d h (angle_stuck q) = lacks n d refl q

-- Where it is refused the rule is stuck,
module _ {x : Text} {N : ℕ → Type 0} {full left : List Sym} {r : State} {l : List ℕ} {w : List Sort} {ms : List Tok} {m : ℕ} {st a : State} {l₁ l₂ : List ℕ} where
  stuck-there : {p : ℕ} {σ' : List Sym} {wrap' : shape.Items → shape.Items} {J : Info} {st₀ : State} {l₀ l' : List ℕ} → Amid x kind.Call N full (tok t.RAngle ∷ nt n-arguments ∷ left) r l w ms m a l₁
      → ((τ : List Sym) (p : ℕ) → Stuck x (full ++ τ) r.at p → Stuck x (σ' ++ τ) st₀.at p) → AngleEnds x st a l₁ l₂ (Refused p) → Parsed x σ' wrap' J st₀ l₀ l' (Refused p)
  stuck-there {p = n} d f (angle_ends q (call_stuck p)) = then-passed (then-eats d (omega arith) q refl (sign-mark kind.Call t.RAngle tt)) (refusal {p = n} refl) f p
  stuck-there {p = n} d f (angle_stuck q) = then-lacks d (refusal {p = n} refl) f q

  pub angle-passed : {s : Step} {p : ℕ} {σ' : List Sym} {wrap' : shape.Items → shape.Items} {J : Info} {st₀ : State} {l₀ l' : List ℕ} → Amid x kind.Call N full (tok t.RAngle ∷ nt n-arguments ∷ left) r l w ms m a l₁
      → s ≡ Refused p → ((τ : List Sym) (p : ℕ) → Stuck x (full ++ τ) r.at p → Stuck x (σ' ++ τ) st₀.at p) → AngleEnds x st a l₁ l₂ s → Parsed x σ' wrap' J st₀ l₀ l' s
  angle-passed {σ' = σ'} {wrap' = wrap'} {J = J} {st₀ = st₀} {l₀ = l₀} {l' = l'} d e f q =
      subst (λ u. Parsed x σ' wrap' J st₀ l₀ l' u) (sym e) (stuck-there d f (subst (λ u. AngleEnds x st a l₁ l₂ u) e q))

-- and where it goes on, `>` and the arguments were read and the record was put.
pub record AngleRead (x : Text) (N : ℕ → Type 0) (full left : List Sym) (r : State) (l : List ℕ) (w : List Sort) (ms : List Tok) (m : ℕ) (st a z : State) (l' : List ℕ) : Type 0 where
  pub u : ℕ
  pub l₂ : List ℕ
  pub argued : law.Argued x kind.Call N full left r l (w ++ (word t.RAngle ∷ [])) (ms ++ (tok_at x a.at ∷ [])) (m + 1) u z l₂
  pub put : Put l₂ st.out kind.Call st.start z.end (call_head st.class).low 0 (z.out - st.out) l'

module _ {x : Text} {N : ℕ → Type 0} {full left : List Sym} {r : State} {l : List ℕ} {w : List Sort} {ms : List Tok} {m : ℕ} {st a : State} {l₁ l' : List ℕ} where
  went-there : {z : State} {u v : ℕ} → Amid x kind.Call N full (tok t.RAngle ∷ nt n-arguments ∷ left) r l w ms m a l₁ → AngleEnds x st a l₁ l' (Next z u v) → AngleRead x N full left r l w ms m st a z l'
  went-there d (angle_ends q (call_ends {l₁ = l₂} {u = u} p put)) = record { u = u; l₂ = l₂; argued = law.then-args (then-eats d (omega arith) q refl (sign-mark kind.Call t.RAngle tt)) p refl; put = put }

  pub angle-went : {s : Step} {z : State} {u v : ℕ} → Amid x kind.Call N full (tok t.RAngle ∷ nt n-arguments ∷ left) r l w ms m a l₁ → AngleEnds x st a l₁ l' s → s ≡ Next z u v → AngleRead x N full left r l w ms m st a z l'
  angle-went d q e = went-there d (subst (λ g. AngleEnds x st a l₁ l' g) e q)
