-- The heads that the forms of the shapes decide, and what a record needs to be closed.
-- Assumes nothing.
use Rattle.std.proofs.Common.{◌≡◌, ℕ, suc, ◌-◌, ◌*◌, ◌≤◌, Bool, true, false, cond, not, T, eqb, List, [], ◌∷◌, get_or, sym, refl, ap, ◌∙◌, subst, ap₂, arith}
use mathlib.Core.Option.{Option, none}
use Rattle.std.specs.Prelude as std
use Rattle.std.specs.Prelude.{Some, None}
use Rattle.text.specs.Refusals as numbers
use Rattle.text.specs.declared.refusal.Refusal.{Refusal}
use lib.Seq.{sets}
use Rattle.text.proofs.Table.{not-true}
use Rattle.text.specs.Part.{part_of}
use Rattle.num.specs.Value.{Value, decimal_of, fitted, number_of}
use Rattle.theory.specs.Grammar.{Sym}
use Rattle.theory.specs.Ebnf as shape
use Rattle.own.specs.Tree as own
use Rattle.own.specs.Tree.{Tok, Items, mark, sub, marks, turned, arrange, concat}
use Rattle.text.specs.Widths.{rec_wide}
use Rattle.own.specs.Words.{word_groups}
use Rattle.own.specs.Flat.{blank_tok}
use Rattle.own.specs.Law.{Sort, word, child, sorts}
use Rattle.own.specs.Kinds as kind
use Rattle.lexer.specs.Classes as t
use Rattle.grammar.specs.Records.Records.{head, first_of, text_of}
use Rattle.grammar.specs.Records.Faults.{Fault, unless, faults_by, refused_of, faults_at, earlier, earliest}
use Rattle.grammar.specs.Shapes.Row.{Refused, never, byBound, byLength, byFold, byArms}
use Rattle.parse.specs.Contract.{Text, text, classes, tok_at, raw, fault_in, sooner, fault_at, Judged, kept, Stands, Ready, Put, as_node, Went, Node, value_at}
use Rattle.parse.specs.declared.State.{State}
use Rattle.parse.specs.declared.token.Source.{Source}
use Rattle.parse.proofs.Rule.Amid.{Amid}
use Rattle.parse.proofs.Rule.Steps.{number_in, decided}
use Rattle.parse.proofs.Rule.Closing.{Opened, shuts, shuts-in, its-fault}
use Rattle.parse.proofs.Rule.Commas.{AnyN}

-- Shapes that are never refused by themselves.
abbrev pub spared : Refused → Bool
spared never = true
spared byBound = false
spared byLength = false
spared byFold = false
spared byArms = false

abbrev pub faultless : ℕ → Bool
faultless k = spared (refused_of k)

pub no_fault : (draft : List ℕ) (k : ℕ) (is : Items) → T (faultless k) → faults_at draft k is ≡ []
unfolding faults_at
no_fault draft k is h = go (refused_of k) h
  where
    go : (r : Refused) → T (spared r) → faults_by r draft is ≡ []
    go never t = refl
    go byBound t = absurd t
    go byLength t = absurd t
    go byFold t = absurd t
    go byArms t = absurd t

pub unturned : (K : ℕ) (L : Items) → T (not (eqb K kind.Match)) → turned K L ≡ false
unfolding turned
unturned K L h = rw (not-true (eqb K kind.Match) h) refl

-- A record with no number among its tokens that needs it, and no refusal of its own.
module _ {x : Text} {st r : State} {K : ℕ} {rhs : List Sym} {l : List ℕ} {w : List Sort} {ms : List Tok} {m : ℕ} {st₁ : State} {l₁ l' : List ℕ} {low high : ℕ} where
  pub shut : (k : ℕ) → T (faultless k) → Ready x st → Opened x st r (kept st) → (d : Amid x K AnyN rhs [] r l w ms m st₁ l₁) → 1 ≤ m → decided x k w ms ≡ head K low high → T (not (eqb K kind.Match))
      → (P : ℕ → Type 0) → P K → Put l₁ st.out K st.start st₁.end low high (st₁.out - st.out) l' → Went x rhs (as_node k) (Node P) st l st₁ l' 0 0
  shut k f y o d one hd t P p put = shuts k y o d one hd tt (λ is. no_fault x.draft k is f) (unturned K d.L t) P p put refl

-- The classes of the tokens among the pieces.
abbrev pub words_in : List Sort → List ℕ
words_in [] = []
words_in (word c ∷ w) = c ∷ words_in w
words_in (child k l h c ∷ w) = words_in w

-- The place of a class in a list.
abbrev pub place : ℕ → List ℕ → ℕ
place c [] = 0
place c (d ∷ l) = cond (eqb d c) 0 (suc (place c l))

first-place : (c : ℕ) (is : Items) → first_of c (marks is) ≡ get_or (marks is) (place c (words_in (sorts is))) blank_tok
unfolding first_of
first-place c own.none = refl
first-place c (mark t r) = go (eqb t.class c) (first-place c r)
  where
    go : (b : Bool) → first_of c (marks r) ≡ get_or (marks r) (place c (words_in (sorts r))) blank_tok
        → cond b t (first_of c (marks r)) ≡ get_or (t ∷ marks r) (cond b 0 (suc (place c (words_in (sorts r))))) blank_tok
    go true e = refl
    go false e = e
first-place c (sub k l h js r) = first-place c r

-- The number of the decimal among the tokens, by its place among them.
pub number_at : {x : Text} {K : ℕ} {N : ℕ → Type 0} {full left : List Sym} {st : State} {l : List ℕ} {w : List Sort} {ms : List Tok} {m : ℕ} {st₁ : State} {l₁ : List ℕ}
    → Amid x K N full left st l w ms m st₁ l₁ → number_in x ms ≡ decimal_of (text_of x.draft (get_or ms (place t.DecLiteral (words_in w)) blank_tok))
number_at {x} {st = st} d =
    ap (number_in x) (sym d.marked) ∙ ap (λ t. decimal_of (text_of x.draft t)) (first-place t.DecLiteral (raw x st.at d.pre))
    ∙ ap₂ (λ (u : List Tok) (v : List Sort). decimal_of (text_of x.draft (get_or u (place t.DecLiteral (words_in v)) blank_tok))) d.marked d.sorted

-- The number of the token where a state stands.
pub value-here : {x : Text} {st : State} → Stands x st → number_of (part_of x.draft st.start st.stop) ≡ fitted (value_at x st.at)
unfolding text_of number_of
value-here {x} s = ap₂ (λ (a b : ℕ). fitted (decimal_of (part_of x.draft a b))) s.start_is s.stop_is

pub value-is : (x : Source) {st : State} {v : Value} → Stands (text x) st → v ≡ number_of (part_of x.draft.now st.start st.stop) → v ≡ fitted (value_at (text x) st.at)
unfolding text
value-is x s e = e ∙ value-here s

-- The refusal of a number stands at its token.
pub judged-at : {outer inner r : State} {own : Option Fault} {n n' : std.Option Refusal} {p p' : ℕ} → Judged outer inner own r → own ≡ fault_at n p → n ≡ n' → p ≡ p' → Judged outer inner (fault_at n' p') r
judged-at {outer} {inner} {r} j h e f = subst (λ q. Judged outer inner q r) (h ∙ ap₂ fault_at e f) j

-- The state with a refusal judged stands where it stood.
pub judged-stands : {x : Text} {outer inner r : State} {own : Option Fault} → Stands x inner → Judged outer inner own r → Stands x r
judged-stands {x} s j =
    let a = j.at_is in
    record {
      within = omega (arith, s.within);
      class_is = j.class_is ∙ s.class_is ∙ ap (λ i. get_or (classes x) i 0) (sym a);
      start_is = j.start_is ∙ s.start_is ∙ ap (λ i. (tok_at x i).start) (sym a);
      stop_is = j.stop_is ∙ s.stop_is ∙ ap (λ i. (tok_at x i).stop) (sym a);
      end_is = λ p e. j.end_is ∙ s.end_is p (sym a ∙ e);
    }

module _ {x : Text} {st r : State} {K : ℕ} {N : ℕ → Type 0} {rhs : List Sym} {l : List ℕ} {w : List Sort} {ms : List Tok} {m : ℕ} {st₁ st₂ : State} {l₁ : List ℕ} {low high : ℕ} {its : Option Fault} where
  -- The earliest refusal is that of all.
  pub judged-kept : (k : ℕ) → Ready x st → (o : Opened x st r none) (d : Amid x K N rhs [] r l w ms m st₁ l₁) → 1 ≤ m → decided x k w ms ≡ head K low high → N (number_in x ms) → Judged st st₁ its st₂
      → ((is : Items) → sorts is ≡ w → marks is ≡ ms → earliest (faults_at x.draft k is) ≡ its)
      → kept st₂ ≡ sooner (kept st) (fault_in x st.at (shape.sub k d.pre shape.nil))
  judged-kept k y o d one hd hn j own =
      j.kept_is
      ∙ ap₂ (λ a b. sooner (kept st) (sooner a b)) (sym (own (raw x r.at d.pre) d.sorted d.marked)) (d.lays.worst ∙ ap (λ f. sooner f (fault_in x r.at d.pre)) o.kept_is)
      ∙ ap (sooner (kept st)) (sym (its-fault k y o d one hd hn))

  -- A record that may have a refusal of its own: what was read inside was kept apart.
  pub shut-judged : {l' : List ℕ} (k : ℕ) → Ready x st → Opened x st r none → (d : Amid x K N rhs [] r l w ms m st₁ l₁) → 1 ≤ m → decided x k w ms ≡ head K low high → N (number_in x ms) → T (not (eqb K kind.Match))
      → (P : ℕ → Type 0) → P K → Put l₁ st.out K st.start st₁.end low high (st₁.out - st.out) l' → Judged st st₁ its st₂
      → ((is : Items) → sorts is ≡ w → marks is ≡ ms → earliest (faults_at x.draft k is) ≡ its) → Went x rhs (as_node k) (Node P) st l st₂ l' 0 0
  shut-judged k y o d one hd hn t P p put j own =
      shuts-in k y o d one hd hn P p d.lays.long
      (λ n h. d.lays.laid n h ∙ ap (λ b. sets l (rec_wide * r.out) (concat (arrange b (word_groups d.L)))) (sym (unturned K d.L t)))
      put refl (record { at_is = j.at_is; out_is = j.out_is }) (judged-stands d.lays.stands j)
      (judged-kept k y o d one hd hn j own)

-- The text of a number, likewise.
pub value-text : (x : Source) {st : State} {v : Value} → Stands (text x) st → v ≡ number_of (part_of x.draft.now st.start st.stop) → v ≡ number_of (text_of (text x).draft (tok_at (text x) st.at))
unfolding text text_of
value-text x s e = e ∙ ap₂ (λ (a b : ℕ). number_of (part_of x.draft.now a b)) s.start_is s.stop_is

-- The decimal among the tokens, by its place among them.
pub first-is : (is : Items) {w : List Sort} {ms : List Tok} → sorts is ≡ w → marks is ≡ ms → first_of t.DecLiteral (marks is) ≡ get_or ms (place t.DecLiteral (words_in w)) blank_tok
first-is is e f = first-place t.DecLiteral is ∙ ap₂ (λ (u : List Tok) (v : List Sort). get_or u (place t.DecLiteral (words_in v)) blank_tok) f e

-- The refusal of a number that fails its test.
pub unless-is : (y : Tok) (b : Bool) (r : Refusal) → earliest (unless b (numbers.refusal_number r) y) ≡ fault_at (cond b None (Some r)) y.start
unfolding unless earliest earlier fault_at
unless-is y true r = refl
unless-is y false r = refl
