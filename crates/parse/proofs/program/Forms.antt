-- The function and its parameters: their rules in grammar's table, and what stands in their records.
-- Assumes nothing.
use Rattle.std.proofs.Common.{◌≡◌, ℕ, ◌+◌, ◌<◌, ◌≤◌, Bool, true, false, cond, not, ◌&&◌, ◌||◌, T, eqb, ◌⊎◌, List, [], ◌∷◌, ◌++◌, get_or, sym, refl, ap, ◌∙◌, subst, ap₂, inl, inr, arith, eqb→eq, eq-eqb, ne_eqb}
use mathlib.Core.Option.{Option, none, some}
use types.Run.{OneOf}
use denote.Enum.Declared.{tag_of}
use Rattle.text.proofs.Same.{differ}
use Rattle.text.specs.Lists.{has}
use Rattle.theory.specs.Grammar.{Sym, tok, nt, on, look, row, alt, pick}
use Rattle.theory.specs.Machine.{choose, expand}
use Rattle.theory.specs.Ebnf as shape
use Rattle.theory.specs.Ebnf.{sort_of, kinds_of}
use Rattle.theory.specs.Same.{ex}
use Rattle.theory.specs.Walk.{n-tok, n-flat, n-sub, k_tok, k_nt, k_eat, k_in}
use Rattle.own.specs.Tree.{Tok}
use Rattle.own.specs.Law.{Sort, word, child, sorts}
use Rattle.own.specs.Kinds as kind
use Rattle.kinds.specs.Fields.{counted}
use Rattle.kinds.specs.Families as family
use Rattle.lexer.specs.Classes as t
use Rattle.grammar.specs.Shapes.Shapes.{shapes}
use Rattle.grammar.specs.Shapes.Tables.{means, table}
use Rattle.grammar.specs.Records.Records.{head, sees, head_of, form_of}
use Rattle.grammar.specs.Records.Faults.{Fault}
use Rattle.grammar.specs.Shapes.ShapeKind.{FunctionShape, ParameterShape}
use Rattle.grammar.specs.Shapes.TablesIndex.{n-block, n-function, n-function-optional-Arrow, n-function-optional-Pub, n-function_name, n-identifier, n-list-parameter, n-parameter, n-tail-parameter, n-type}
use Rattle.parse.specs.contracts.Step.{the_type}
use Rattle.parse.specs.Contract.{Text, classes, name_sort, Read, Stuck, raw, Ready, Near, Info, as_items, Went, Parsed, read, stuck, Only, TypeKind}
use Rattle.parse.specs.Infos.{Optional, Parameters}
use Rattle.parse.specs.declared.State.{State}
use Rattle.parse.specs.declared.Step.{Step}
use Rattle.parse.specs.declared.Step.TheVariants.{Next}
use Rattle.parse.specs.Choice as choice
use Rattle.parse.proofs.Rule.ByClass.{run, where-passed, either-passed, beyond, past_classes, has-past, and_both}
use Rattle.parse.proofs.choice.Chosen.{Optionally, optionally, forked, miss, goes}
use Rattle.parse.proofs.Rule.Marks.{sign, sign-mark}
use Rattle.parse.proofs.names.Rows.{sort-identifier}
use Rattle.parse.proofs.Rule.Amid.{Amid, went}
use Rattle.parse.proofs.Rule.Steps.{stuck-here, decided}
use Rattle.parse.proofs.Rule.Closing.{Opened, Rule, enters}
use Rattle.parse.proofs.Rule.Told.{Told, then-told}
use Rattle.parse.proofs.Rule.Commas.{AnyN, Rows, rows-to-paren, arranged-zero, arranged-only, comma-mark, finish}
use Rattle.parse.proofs.Rule.Pieces.{counted-append}

-- The rules of a function and of a parameter.
abbrev pub function_rhs : List Sym
function_rhs = nt n-function-optional-Pub ∷ tok t.Fn ∷ nt n-function_name ∷ tok t.LParen ∷ nt n-list-parameter ∷ tok t.RParen ∷ nt n-function-optional-Arrow ∷ nt n-block ∷ []

abbrev pub parameter_rhs : List Sym
parameter_rhs = nt n-identifier ∷ tok t.Colon ∷ nt n-type ∷ []

pub function-rule : Rule n-function 1 FunctionShape function_rhs
unfolding ex means kinds_of shapes row table alt pick
function-rule = record { category = refl; from_one = refl; kind = refl; rule = refl }

pub parameter-rule : Rule n-parameter 1 ParameterShape parameter_rhs
unfolding ex means kinds_of shapes row table alt pick
parameter-rule = record { category = refl; from_one = refl; kind = refl; rule = refl }

-- The rows of a list of parameters.
pub parameter-rows : Rows n-list-parameter n-tail-parameter n-parameter (λ c. c ≡ t.RParen)
unfolding sort_of ex means choose row look table alt pick
parameter-rows = rows-to-paren (forked refl (λ c. refl) refl refl) (optionally refl (λ c. refl) refl refl)

-- What may stand before `fn` and after `)`.
pub public-optional : Optionally n-function-optional-Pub t.Pub (tok t.Pub ∷ [])
unfolding sort_of ex means choose row look table alt pick
public-optional = optionally refl (λ c. refl) refl refl

pub arrow-optional : Optionally n-function-optional-Arrow t.Arrow (tok t.Arrow ∷ nt n-type ∷ [])
unfolding sort_of ex means choose row look table alt pick
arrow-optional = optionally refl (λ c. refl) refl refl

-- A parameter begins with an identifier, and with nothing else.

is-test : T (run (λ c. not (has t.identifiers c) || eqb (choose table n-parameter c) 1) past_classes 0)
unfolding has choose row look table
is-test = tt

pub at-parameter : (c : ℕ) → has t.identifiers c ≡ true → choose table n-parameter c ≡ 1
at-parameter c e =
    eqb→eq (choose table n-parameter c) 1
    (where-passed (λ c. eqb (choose table n-parameter c) 1) (λ c. has t.identifiers c) is-test (λ c h u. absurd (rw (has-past t.identifiers c tt h) at u)) c (rw e tt))

abbrev no_parameter : ℕ → Bool
no_parameter c = eqb (choose table n-parameter c) 0 && eqb (choose table n-identifier c) 0

either-test : T (run (λ c. eqb (choose table n-parameter c) 1 || no_parameter c) past_classes 0)
unfolding choose row look table
either-test = tt

-- Where a parameter begins or the table has nothing, neither for it nor for an identifier.
abbrev MaybeParameter : ℕ → Type 0
MaybeParameter c = (choose table n-parameter c ≡ 1) ⊎ ((expand table n-parameter c ≡ none) × (expand table n-identifier c ≡ none))

pub parameter-or : (c : ℕ) → MaybeParameter c
unfolding row table alt pick
parameter-or c = go (either-passed (λ c. eqb (choose table n-parameter c) 1) no_parameter either-test (λ c h. rw (beyond n-parameter c h, beyond n-identifier c h) tt) c)
  where
    go : T (eqb (choose table n-parameter c) 1) ⊎ T (no_parameter c) → MaybeParameter c
    go (inl u) = inl (eqb→eq (choose table n-parameter c) 1 u)
    go (inr u) =
        let p = and_both (eqb (choose table n-parameter c) 0) (eqb (choose table n-identifier c) 0) u in
        inr (goes n-parameter 0 c (eqb→eq (choose table n-parameter c) 0 p.0) refl, goes n-identifier 0 c (eqb→eq (choose table n-identifier c) 0 p.1) refl)

-- A parameter is refused where its name is.
pub parameter-passed : {x : Text} {st r : State} {F : Option Fault} {wrap wrap' : shape.Items → shape.Items} {I J : Info} {l l₁ l₀ l' : List ℕ} {s : Step} → Ready x st → Opened x st r F
    → OneOf (1 ∷ []) (tag_of the_type s) → Parsed x (nt n-identifier ∷ []) wrap I r l l₁ s → Parsed x (nt n-parameter ∷ []) wrap' J st l₀ l' s
parameter-passed y o k (read h) = absurd (omega arith)
parameter-passed {x} {st} {r} y o k (stuck {p = p} h g) = stuck h (λ τ. go τ (parameter-or st.class))
  where
    cls : get_or (classes x) st.at 0 ≡ st.class
    cls = sym y.stands.class_is

    go : (τ : List Sym) → MaybeParameter st.class → Stuck x (nt n-parameter ∷ τ) st.at p
    go τ (inl e) = enters parameter-rule y e o τ p (g (tok t.Colon ∷ nt n-type ∷ τ))
    go τ (inr e) =
        let here : Stuck x (nt n-identifier ∷ τ) st.at p = subst (λ i. Stuck x (nt n-identifier ∷ τ) i p) o.at_is (g τ) in
        subst (λ q. Stuck x (nt n-parameter ∷ τ) st.at q) (sym (stuck-here x (ap (expand table n-identifier) cls ∙ e.1) here)) (k_nt (ap (expand table n-parameter) cls ∙ e.0))

-- The state with a record reserved is near.
pub opened-near : {x : Text} {st r : State} {F : Option Fault} → Ready x st → Opened x st r F → Near x r
opened-near y o = record { stands = o.stands; short = y.short; few = omega (arith, o.out_is, o.at_is, y.few) }

-- The head of a parameter.
pub parameter-head : {x : Text} {K : ℕ} {N : ℕ → Type 0} {full left : List Sym} {st : State} {l : List ℕ} {w : List Sort} {ms : List Tok} {m : ℕ} {st₁ : State} {l₁ : List ℕ}
    → Amid x K N full left st l w ms m st₁ l₁ → decided x ParameterShape w ms ≡ head kind.Parameter 0 0
unfolding head_of form_of
parameter-head d = refl

pub named-parameter : has family.names_kept kind.Parameter ≡ true
unfolding has
named-parameter = refl

pub named-function : has family.names_kept kind.Function ≡ true
unfolding has
named-function = refl

-- How many parameters there are in one piece.
counted-one : (k l h c : ℕ) → k ≡ kind.Parameter → counted (kind.Parameter ∷ []) (child k l h c ∷ []) ≡ 1
unfolding counted has
counted-one k l h c e = ap (λ (k : ℕ). counted (kind.Parameter ∷ []) (child k l h c ∷ [])) e

pub counted-word : (c : ℕ) → counted (kind.Parameter ∷ []) (word c ∷ []) ≡ 0
unfolding counted
counted-word c = refl

no-counted : counted (kind.Parameter ∷ []) [] ≡ 0
unfolding counted
no-counted = refl

-- The parameters up to a state: so many, and no more than tokens were passed.
abbrev pub Many : ℕ → State → State → List Sort → Type 0
Many number st here w = (counted (kind.Parameter ∷ []) w ≡ number) × (number + st.at ≤ here.at)

pub many-starts : (st : State) → Many 0 st st []
many-starts st = (no-counted, omega arith)

pub many_more : (w : List Sort) {number : ℕ} (k l h c : ℕ) → counted (kind.Parameter ∷ []) w ≡ number → k ≡ kind.Parameter → counted (kind.Parameter ∷ []) (w ++ (child k l h c ∷ [])) ≡ number + 1
many_more w k l h c e f = omega (arith, counted-append (kind.Parameter ∷ []) w (child k l h c ∷ []), counted-one k l h c f)

pub many-again : (w : List Sort) (number k l h c : ℕ) (st here next : State) → Many number st here w → k ≡ kind.Parameter → here.at < next.at → Many (number + 1) st next ((w ++ (child k l h c ∷ [])) ++ (word t.Comma ∷ []))
many-again w number k l h c st here next q f n =
    (omega (arith, counted-append (kind.Parameter ∷ []) (w ++ (child k l h c ∷ [])) (word t.Comma ∷ []), counted-word t.Comma, many_more w k l h c q.0 f), omega (arith, q.1))

-- Nothing, or what begins with a token of the class c.
pub only-others : (c d : ℕ) → (d ≡ c → ⊥) → (w : List Sort) → Only c w → sees d w ≡ false
unfolding sees
only-others c d n [] o = refl
only-others c d n (word a ∷ w) o = ap₂ (λ (a b : Bool). a || b) (ne_eqb a d (λ e. n (sym e ∙ o.0))) (only-others c d n w o.1)
only-others c d n (child k l h a ∷ w) o = only-others c d n w o

optional-went : {x : Text} {full : List Sym} {st : State} {l : List ℕ} {w : List Sort} {ms : List Tok} {m : ℕ} {st₁ : State} {l₁ : List ℕ} {a b : ℕ} (c n : ℕ)
    → Amid x 0 AnyN full [] st l w ms m st₁ l₁ → T (sign c) → Only c w → a ≡ cond (sees c w) n 0 → counted (kind.Parameter ∷ []) w ≡ 0 → Went x full as_items (Optional c n) st l st₁ l₁ a b
optional-went {x} {st = st} c n d h o e k =
    let J = raw x st.at d.pre in
    let p : Only c (sorts J) = subst (Only c) (sym d.sorted) o in
    let same : d.L ≡ J = sym (d.roles 0 tt) ∙ arranged-zero 0 J in
    finish d (record {
      roles = λ K i. arranged-only K i c (sign-mark K c h) J p ∙ sym same;
      there = e ∙ ap (λ u. cond (sees c u) n 0) (sym d.sorted);
      others = λ q g. only-others c q g (sorts J) p;
      no_parameters = ap (counted (kind.Parameter ∷ [])) d.sorted ∙ k;
    })

module _ {x : Text} {full : List Sym} {st : State} {l : List ℕ} {ms : List Tok} {m : ℕ} {st₁ : State} {l₁ : List ℕ} {b : ℕ} where
  pub nothing-went : (c n : ℕ) → T (sign c) → Amid x 0 AnyN full [] st l [] ms m st₁ l₁ → Went x full as_items (Optional c n) st l st₁ l₁ 0 b
  unfolding sees counted
  nothing-went c n h d = optional-went c n d h tt refl refl

  pub public-went : Amid x 0 AnyN full [] st l (word t.Pub ∷ []) ms m st₁ l₁ → Went x full as_items (Optional t.Pub 1) st l st₁ l₁ 1 b
  unfolding sees counted
  public-went d = optional-went t.Pub 1 d tt (refl, tt) refl refl

  pub arrow-went : {k low high c : ℕ} → TypeKind k → Amid x 0 AnyN full [] st l (word t.Arrow ∷ child k low high c ∷ []) ms m st₁ l₁ → Went x full as_items (Optional t.Arrow 2) st l st₁ l₁ 2 b
  unfolding sees counted has
  arrow-went {k} {low} {high} {c} h d = optional-went t.Arrow 2 d tt (refl, tt) refl (ap (λ (b : Bool). cond (b || false) 1 0 + 0) (ne_eqb kind.Parameter k (λ e. omega (arith, h.0))))

-- A function begins with `pub` or `fn`, and with nothing else.
abbrev Begins : ℕ → Type 0
Begins c = (c ≡ t.Pub) ⊎ (c ≡ t.Fn)

at-function : (c : ℕ) → Begins c → choose table n-function c ≡ 1
unfolding choose row look table
at-function c (inl e) = ap (choose table n-function) e
at-function c (inr e) = ap (choose table n-function) e

abbrev MaybeFunction : ℕ → Type 0
MaybeFunction c = (choose table n-function c ≡ 1) ⊎ ((expand table n-function c ≡ none) × (Begins c → ⊥))

pub function-or : (c : ℕ) → MaybeFunction c
unfolding choose row look table alt pick
function-or c = go (eqb c t.Pub) refl (eqb c t.Fn) refl
  where
    neither : eqb c t.Pub ≡ false → eqb c t.Fn ≡ false → Begins c → ⊥
    neither e f (inl h) = differ (sym e ∙ eq-eqb c t.Pub h)
    neither e f (inr h) = differ (sym f ∙ eq-eqb c t.Fn h)

    go : (a : Bool) → eqb c t.Pub ≡ a → (b : Bool) → eqb c t.Fn ≡ b → MaybeFunction c
    go true e b f = inl (at-function c (inl (eqb→eq c 1 (rw e tt))))
    go false e true f = inl (at-function c (inr (eqb→eq c t.Fn (rw f tt))))
    go false e false f = inr (goes n-function 0 c (miss t.Pub 1 (on t.Fn 1 ∷ []) 0 (λ h. neither e f (inl h)) (miss t.Fn 1 [] 0 (λ h. neither e f (inr h)) refl)) refl, neither e f)

abbrev flatly : shape.Sort → Bool
flatly shape.flat = true
flatly (shape.token c) = false
flatly (shape.node C) = false

no_node : {C : ℕ} → ex means (nt n-function-optional-Pub) ≡ shape.child C → ⊥
unfolding sort_of
no_node e = differ (sym (ap flatly (sym public-optional.flat ∙ ap sort_of e)))

abbrev or_nothing : Option (List Sym) → List Sym
or_nothing none = []
or_nothing (some l) = l

-- what stands for the optional `pub` where there is none
empty-rhs : {c : ℕ} {rhs : List Sym} → (c ≡ t.Pub → ⊥) → expand table n-function-optional-Pub c ≡ some rhs → rhs ≡ []
empty-rhs {c} h e = ap or_nothing (sym e ∙ public-optional.elsewhere c h)

four-read : (x : Text) {σ : List Sym} {at j : ℕ} {r : shape.Items} → Read x (tok t.Fn ∷ σ) at r j → Begins (get_or (classes x) at 0)
four-read x (n-tok h e p) = inr e

begins-read : (x : Text) {σ : List Sym} {at j : ℕ} {r : shape.Items} → Read x (nt n-function-optional-Pub ∷ tok t.Fn ∷ σ) at r j → Begins (get_or (classes x) at 0)
begins-read x (n-sub C i k c y f e p q) = absurd (no_node c)
begins-read x {σ} {at} {j} {r} (n-flat {rhs = rhs} f e p) = go (eqb (get_or (classes x) at 0) 1) refl
  where
    go : (b : Bool) → eqb (get_or (classes x) at 0) 1 ≡ b → Begins (get_or (classes x) at 0)
    go true q = inl (eqb→eq (get_or (classes x) at 0) 1 (rw q tt))
    go false q = four-read x (subst (λ (u : List Sym). Read x (u ++ (tok t.Fn ∷ σ)) at r j) (empty-rhs (λ h. differ (sym q ∙ eq-eqb (get_or (classes x) at 0) 1 h)) e) p)

four-stuck : (x : Text) {σ : List Sym} {at p : ℕ} → (Begins (get_or (classes x) at 0) → ⊥) → Stuck x (tok t.Fn ∷ σ) at p → p ≡ at
four-stuck x n (k_tok g) = refl
four-stuck x n (k_eat i e g) = absurd (n (inr e))

begins-stuck : (x : Text) {σ : List Sym} {at p : ℕ} → (Begins (get_or (classes x) at 0) → ⊥) → Stuck x (nt n-function-optional-Pub ∷ tok t.Fn ∷ σ) at p → p ≡ at
begins-stuck x n (k_nt e) = refl
begins-stuck x {σ} {at} {p} n (k_in {rhs = rhs} e h) = four-stuck x n (subst (λ (u : List Sym). Stuck x (u ++ (tok t.Fn ∷ σ)) at p) (empty-rhs (λ g. n (inl g)) e) h)

-- Where its symbols were read a function begins,
pub function-begins : {x : Text} {st r : State} {F : Option Fault} {items : shape.Items} {j : ℕ} → Ready x st → Opened x st r F → Read x function_rhs r.at items j → choose table n-function st.class ≡ 1
function-begins {x} {st} y o h =
    at-function st.class (subst Begins (ap (λ i. get_or (classes x) i 0) o.at_is ∙ sym y.stands.class_is) (begins-read x h))

-- and where they are stuck it is.
pub function-enters : {x : Text} {st r : State} {F : Option Fault} → Ready x st → Opened x st r F → (τ : List Sym) (p : ℕ) → Stuck x (function_rhs ++ τ) r.at p → Stuck x (nt n-function ∷ τ) st.at p
function-enters {x} {st} {r} y o τ p h = go (function-or st.class)
  where
    cls : get_or (classes x) st.at 0 ≡ st.class
    cls = sym y.stands.class_is

    here : Stuck x (function_rhs ++ τ) st.at p
    here = subst (λ i. Stuck x (function_rhs ++ τ) i p) o.at_is h

    go : MaybeFunction st.class → Stuck x (nt n-function ∷ τ) st.at p
    go (inl e) = enters function-rule y e o τ p h
    go (inr e) =
        subst (λ q. Stuck x (nt n-function ∷ τ) st.at q) (sym (begins-stuck x (λ b. e.1 (subst Begins cls b)) here)) (k_nt (ap (expand table n-function) cls ∙ e.0))

-- No block begins with another class.
pub no_block : (c : ℕ) → (c ≡ t.LBrace → ⊥) → expand table n-block c ≡ none
unfolding choose row look table alt pick
no_block c h = goes n-block 0 c (miss t.LBrace 1 [] 0 h refl) refl

-- What a function has of its own: nothing or `pub`, and nothing or an arrow with a type.
pub record OptionPieces (c n a : ℕ) (W : List Sort) : Type 0 where
  pub there : a ≡ cond (sees c W) n 0
  pub others : (d : ℕ) → (d ≡ c → ⊥) → sees d W ≡ false
  pub no_parameters : counted (kind.Parameter ∷ []) W ≡ 0

-- Its parameters: a of them.
pub record ParameterPieces (a : ℕ) (W : List Sort) : Type 0 where
  pub commas : Only t.Comma W
  pub count_is : counted (kind.Parameter ∷ []) W ≡ a

module _ {x : Text} {K : ℕ} {N : ℕ → Type 0} {full left : List Sym} {st : State} {l : List ℕ} {w : List Sort} {ms : List Tok} {m : ℕ} {st₁ : State} {l₁ : List ℕ} {s : Sym} {st₂ : State} {l₂ : List ℕ} {a b : ℕ} {r : Step} where
  pub then-optional : {c n : ℕ} → Amid x K N full (s ∷ left) st l w ms m st₁ l₁ → Parsed x (s ∷ []) as_items (Optional c n) st₁ l₁ l₂ r → r ≡ Next st₂ a b → Told x K N full left st l w ms m (OptionPieces c n a) st₂ l₂
  then-optional d p e =
      let q = went e p in
      then-told d q (λ n g. q.info.roles K n) (record { there = q.info.there; others = q.info.others; no_parameters = q.info.no_parameters })

  pub then-parameters : Amid x K N full (s ∷ left) st l w ms m st₁ l₁ → Parsed x (s ∷ []) as_items Parameters st₁ l₁ l₂ r → r ≡ Next st₂ a b → Told x K N full left st l w ms m (ParameterPieces a) st₂ l₂
  then-parameters d p e =
      let q = went e p in
      then-told d q (λ n g. arranged-only K n t.Comma (comma-mark K) (raw x st₁.at q.items) q.info.commas ∙ sym q.info.same) (record { commas = q.info.commas; count_is = q.info.count_is })

-- A function's name is an identifier.
pub name-identifier : (c : ℕ) → has t.function_names c ≡ true → has t.identifiers c ≡ true
unfolding name_sort
name-identifier c e = sort-identifier c (λ z. two (sym (ap (λ (b : Bool). cond b choice.FunctionName (cond (has t.identifiers c) choice.ReservedName 0)) e) ∙ z))
  where
    two : ◌≡◌ {A = ℕ} choice.FunctionName 0 → ⊥
    two z = omega arith
