-- Calls: what the pieces of a record say of its head, and the heads of calls, wrappers and enum constructions.
-- Assumes nothing.
use Rattle.std.proofs.Common.{◌≡◌, ℕ, suc, ◌+◌, ◌≤◌, Bool, true, false, cond, not, ◌&&◌, ◌||◌, T, eqb, ◌⊎◌, List, [], ◌∷◌, ◌++◌, sym, refl, ap, ◌∙◌, subst, ap₂, inl, inr, arith, eq-eqb, ne_eqb}
use Rattle.std.proofs.Math.Bool.{or-false, or-true}
use Rattle.std.proofs.lemmas.Bool.{eqb-true, eqb-false}
use Rattle.text.proofs.Same.{differ}
use Rattle.text.specs.Lists.{has}
use Rattle.kinds.specs.Rules.{wrappers}
use Rattle.lexer.specs.Classes as t
use Rattle.theory.specs.Grammar.{Sym}
use Rattle.own.specs.Tree.{Tok}
use Rattle.own.specs.Law.{Sort, word, child}
use Rattle.own.specs.Calls as call
use Rattle.own.specs.Kinds as kind
use Rattle.grammar.specs.Shapes.Row.{Form, aName}
use Rattle.grammar.specs.Records.Records.{Head, head, plain, form_of, head_of, sees, opening, name_count, part_count, lone, place_in, call_head, wrapper_head, called_head, alone_head, name_head, text_of, first_tok}
use Rattle.grammar.specs.Shapes.ShapeKind.{CastCallShape, FoldingShape, ForWhileShape, NamedShape, SimpleCallShape, TypedShape}
use Rattle.parse.specs.declared.State.{State}
use Rattle.parse.proofs.Rule.Amid.{Amid}
use Rattle.parse.specs.Contract.{Text, ExprKind, Only, callees}
use Rattle.parse.proofs.Rule.Marks.{keeping, keeps-between}
use Rattle.parse.proofs.Rule.Steps.{number_in, decided}
pub use Rattle.parse.proofs.expr.CallRows.{
  simple_rhs,
  named_rhs,
  simple-rule,
  cast-rule,
  named_rule,
  bare-rule,
  typed-rule,
  folding-rule,
  whiles-rule,
  For,
  Apart,
  called-role,
  marked-role,
  number-role,
  path-row,
  flat-named,
  flat-path,
  bare-optional,
  typed-optional,
  folding-optional,
  whiles-optional,
  typed-choice,
  folding-choice,
  whiles-choice,
  path-optional,
  for-simple,
  at-cast,
  for-named,
  for-bare,
  for-typed,
  for-folding,
  for-whiles,
  simple-apart,
  named-apart,
  folding-apart,
  simple-unwrapped,
  named-name,
  bare-name,
  typed-name,
  folding-name,
  whiles-name,
  named-variable,
  typed-mark,
  folding-mark,
  whiles-mark,
  named-alone,
  named-args,
  named-colons,
}
use Rattle.parse.proofs.Rule.Pieces.{sees-append}

-- Kinds of the records.
pub call-kind : ExprKind kind.Call
call-kind = (omega arith, omega arith, (λ e. omega arith), (λ e. omega arith))

pub enum_kind : ExprKind kind.EnumConstruction
enum_kind = (omega arith, omega arith, (λ e. omega arith), (λ e. omega arith))

pub variable-kind : ExprKind kind.Variable
variable-kind = (omega arith, omega arith, (λ e. omega arith), (λ e. omega arith))

-- What the pieces say: which classes are not among commas and parts,
pub only-unseen : (d c : ℕ) → (d ≡ c → ⊥) → (w : List Sort) → Only d w → sees c w ≡ false
unfolding sees
only-unseen d c h [] o = refl
only-unseen d c h (word a ∷ w) o = ap₂ (λ (u v : Bool). u || v) (ne_eqb a c (λ e. h (sym o.0 ∙ e))) (only-unseen d c h w o.1)
only-unseen d c h (child k l i a ∷ w) o = only-unseen d c h w o

parts-end : (c : ℕ) (w : List Sort) → part_count (w ++ (word c ∷ [])) ≡ part_count w
unfolding part_count
parts-end c [] = refl
parts-end c (word d ∷ w) = parts-end c w
parts-end c (child k l h d ∷ w) = ap suc (parts-end c w)

-- an argument list behind some class,
module _ (c : ℕ) (W : List Sort) where
  abbrev pub calling : List Sort
  calling = word c ∷ word t.LParen ∷ (W ++ (word t.RParen ∷ []))

  unseen : (a : ℕ) → eqb c a ≡ false → eqb t.LParen a ≡ false → sees a W ≡ false → eqb t.RParen a ≡ false → sees a calling ≡ false
  unfolding sees
  unseen a p q r s =
      (λ i. p i || (q i || sees-append a W (word t.RParen ∷ []) i)) ∙ (λ i. r i || (s i || false))

  lone-call : Apart c → lone calling ≡ lone W
  unfolding lone part_count sees
  lone-call h =
      ap₂ (λ (n : ℕ) (b : Bool). eqb n 1 && not b) (parts-end t.RParen W)
      ((λ i. h.comma i || sees-append t.Comma W (word t.RParen ∷ []) i) ∙ or-false (sees t.Comma W))

  sees-paren : sees t.LParen calling ≡ true
  unfolding sees
  sees-paren = or-true (eqb c t.LParen)

-- and what they decide.
name-head : (w : List Sort) {a b d : Bool} → sees t.LAngle w ≡ a → sees t.DoubleColon w ≡ b → sees t.LParen w ≡ d
    → name_head w ≡ cond a (call_head (opening w)) (cond b (head kind.EnumConstruction (name_count w) 0) (cond d (called_head w) (alone_head (opening w))))
unfolding name_head
name-head w p q r = λ i. cond (p i) (call_head (opening w)) (cond (q i) (head kind.EnumConstruction (name_count w) 0) (cond (r i) (called_head w) (alone_head (opening w))))

pub called_is : (c : ℕ) (W : List Sort) → Apart c → Only t.Comma W → name_head (calling c W) ≡ cond (has wrappers c && lone W) (wrapper_head c) (call_head c)
unfolding called_head opening
called_is c W h o =
    name-head (calling c W) (unseen c W t.LAngle h.angle refl (only-unseen t.Comma t.LAngle (λ e. omega arith) W o) refl)
    (unseen c W t.DoubleColon h.colons refl (only-unseen t.Comma t.DoubleColon (λ e. omega arith) W o) refl) (sees-paren c W)
    ∙ ap (λ (b : Bool). cond (has wrappers c && b) (wrapper_head c) (call_head c)) (lone-call c W h)

-- no wrapper,
pub unwrapped-is : (c : ℕ) (W : List Sort) → Apart c → has wrappers c ≡ false → Only t.Comma W → name_head (calling c W) ≡ call_head c
unwrapped-is c W h g o = called_is c W h o ∙ ap (λ (b : Bool). cond (b && lone W) (wrapper_head c) (call_head c)) g

pub angled-is : (c : ℕ) (w : List Sort) → name_head (word c ∷ word t.DoubleColon ∷ word t.LAngle ∷ w) ≡ call_head c
unfolding sees opening
angled-is c w = name-head (word c ∷ word t.DoubleColon ∷ word t.LAngle ∷ w) (or-true (eqb c t.LAngle)) refl refl

pub cast_is : (w : List Sort) → name_head (word t.LAngle ∷ w) ≡ call_head t.LAngle
unfolding name_head sees opening
cast_is w = refl

-- A name is no `<`, `::`, `(`.
name-not : (c k : ℕ) → has t.identifiers c ≡ true → has t.identifiers k ≡ false → eqb c k ≡ false
name-not c k h g = ne_eqb c k (λ e. differ (sym g ∙ ap (has t.identifiers) (sym e) ∙ h))

no-name-angle : has t.identifiers t.LAngle ≡ false
unfolding has
no-name-angle = refl

no-name-colons : has t.identifiers t.DoubleColon ≡ false
unfolding has
no-name-colons = refl

no-name-paren : has t.identifiers t.LParen ≡ false
unfolding has
no-name-paren = refl

pub alone-is : (c : ℕ) → has t.identifiers c ≡ true → name_head (word c ∷ []) ≡ alone_head c
unfolding sees opening
alone-is c h =
    name-head (word c ∷ []) (ap (λ (b : Bool). b || false) (name-not c t.LAngle h no-name-angle)) (ap (λ (b : Bool). b || false) (name-not c t.DoubleColon h no-name-colons))
    (ap (λ (b : Bool). b || false) (name-not c t.LParen h no-name-paren))

pub variable-is : (c : ℕ) → has t.identifiers c ≡ true → eqb c t.None ≡ false → name_head (word c ∷ []) ≡ head kind.Variable 0 0
unfolding alone_head
variable-is c h g = alone-is c h ∙ ap (λ (b : Bool). cond b (plain kind.None) (plain kind.Variable)) g

pub enum-unseen : (c : ℕ) (W : List Sort) → has t.identifiers c ≡ true → sees t.LAngle W ≡ false → sees t.LAngle (word c ∷ word t.DoubleColon ∷ W) ≡ false
unfolding sees
enum-unseen c W h g = ap₂ (λ (p q : Bool). p || q) (name-not c t.LAngle h no-name-angle) g

enum-colons : (c : ℕ) (W : List Sort) → sees t.DoubleColon (word c ∷ word t.DoubleColon ∷ W) ≡ true
unfolding sees
enum-colons c W = or-true (eqb c t.DoubleColon)

enum-count : (c a : ℕ) (W : List Sort) → has t.identifiers c ≡ true → name_count W ≡ a → name_count (word c ∷ word t.DoubleColon ∷ W) ≡ a + 1
unfolding name_count has
enum-count c a W h e =
    let f : 1 + (0 + name_count W) ≡ a + 1 = omega (arith, e) in
    ap (λ (b : Bool). cond b 1 0 + (0 + name_count W)) h ∙ f

pub enum_is : (c : ℕ) {a : ℕ} (W : List Sort) → has t.identifiers c ≡ true → sees t.LAngle W ≡ false → name_count W ≡ a → name_head (word c ∷ word t.DoubleColon ∷ W) ≡ head kind.EnumConstruction (a + 1) 0
enum_is c {a} W h g e = name-head (word c ∷ word t.DoubleColon ∷ W) (enum-unseen c W h g) (enum-colons c W) refl ∙ ap (λ (n : ℕ). head kind.EnumConstruction n 0) (enum-count c a W h e)

-- The form of these six shapes is that of a name.
module _ {x : Text} {K : ℕ} {N : ℕ → Type 0} {full left : List Sym} {st : State} {l : List ℕ} {w : List Sort} {ms : List Tok} {m : ℕ} {st₁ : State} {l₁ : List ℕ} where
  pub by_form : (k : ℕ) → form_of k ≡ aName → Amid x K N full left st l w ms m st₁ l₁ → decided x k w ms ≡ name_head w
  unfolding head_of
  by_form k e d = ap (λ (f : Form). head_of f (text_of x.draft (first_tok ms)) (number_in x ms) w) e

  pub form-simple : Amid x K N full left st l w ms m st₁ l₁ → decided x SimpleCallShape w ms ≡ name_head w
  unfolding form_of
  form-simple = by_form SimpleCallShape refl

  pub form-cast : Amid x K N full left st l w ms m st₁ l₁ → decided x CastCallShape w ms ≡ name_head w
  unfolding form_of
  form-cast = by_form CastCallShape refl

  pub form-named : Amid x K N full left st l w ms m st₁ l₁ → decided x NamedShape w ms ≡ name_head w
  unfolding form_of
  form-named = by_form NamedShape refl

  pub form-typed : Amid x K N full left st l w ms m st₁ l₁ → decided x TypedShape w ms ≡ name_head w
  unfolding form_of
  form-typed = by_form TypedShape refl

  pub form-folding : Amid x K N full left st l w ms m st₁ l₁ → decided x FoldingShape w ms ≡ name_head w
  unfolding form_of
  form-folding = by_form FoldingShape refl

  pub form-whiles : Amid x K N full left st l w ms m st₁ l₁ → decided x ForWhileShape w ms ≡ name_head w
  unfolding form_of
  form-whiles = by_form ForWhileShape refl

-- The heads of calls with `< >`.
module _ {x : Text} {K : ℕ} {N : ℕ → Type 0} {full left : List Sym} {st : State} {l : List ℕ} {w : List Sort} {ms : List Tok} {m : ℕ} {st₁ : State} {l₁ : List ℕ} where
  pub cast-head : Amid x K N full left st l (word t.LAngle ∷ w) ms m st₁ l₁ → decided x CastCallShape (word t.LAngle ∷ w) ms ≡ call_head t.LAngle
  cast-head d = form-cast d ∙ cast_is w

module _ {x : Text} {K : ℕ} {N : ℕ → Type 0} {full left : List Sym} {st : State} {l : List ℕ} {c : ℕ} {w : List Sort} {ms : List Tok} {m : ℕ} {st₁ : State} {l₁ : List ℕ} where
  pub typed-head : Amid x K N full left st l (word c ∷ word t.DoubleColon ∷ word t.LAngle ∷ w) ms m st₁ l₁ → decided x TypedShape (word c ∷ word t.DoubleColon ∷ word t.LAngle ∷ w) ms ≡ call_head c
  typed-head d = form-typed d ∙ angled-is c w

  pub folding-head : Amid x K N full left st l (word c ∷ word t.DoubleColon ∷ word t.LAngle ∷ w) ms m st₁ l₁ → decided x FoldingShape (word c ∷ word t.DoubleColon ∷ word t.LAngle ∷ w) ms ≡ call_head c
  folding-head d = form-folding d ∙ angled-is c w

  pub whiles-head : Amid x K N full left st l (word c ∷ word t.DoubleColon ∷ word t.LAngle ∷ w) ms m st₁ l₁ → decided x ForWhileShape (word c ∷ word t.DoubleColon ∷ word t.LAngle ∷ w) ms ≡ call_head c
  whiles-head d = form-whiles d ∙ angled-is c w

-- The head of a call, by its low.
pub call-low : {H : Head} (c : ℕ) {low : ℕ} → H ≡ call_head c → low ≡ (call_head c).low → H ≡ head kind.Call low 0
unfolding call_head
call-low c e f = e ∙ ap (λ (l : ℕ). head kind.Call l 0) (sym f)

-- The kind of a name alone.
pub alone-kinds : (c k : ℕ) → plain k ≡ alone_head c → (k ≡ kind.None) ⊎ (k ≡ kind.Variable)
unfolding alone_head
alone-kinds c k e = go (eqb c t.None) (ap (λ (h : Head). h.kind) e)
  where
    go : (b : Bool) → k ≡ (cond b (plain kind.None) (plain kind.Variable)).kind → (k ≡ kind.None) ⊎ (k ≡ kind.Variable)
    go true e = inl e
    go false e = inr e

pub alone-keeps : {k : ℕ} → (k ≡ kind.None) ⊎ (k ≡ kind.Variable) → T (keeping k)
alone-keeps (inl e) = subst (λ k. T (keeping k)) (sym e) tt
alone-keeps (inr e) = subst (λ k. T (keeping k)) (sym e) tt

pub alone-unturned : {k : ℕ} → (k ≡ kind.None) ⊎ (k ≡ kind.Variable) → T (not (eqb k kind.Match))
alone-unturned (inl e) = subst (λ k. T (not (eqb k kind.Match))) (sym e) tt
alone-unturned (inr e) = subst (λ k. T (not (eqb k kind.Match))) (sym e) tt

pub alone-kind : {k : ℕ} → (k ≡ kind.None) ⊎ (k ≡ kind.Variable) → ExprKind k
alone-kind (inl e) = (omega arith, omega arith, (λ f. omega (arith, e, f)), (λ f. omega (arith, e, f)))
alone-kind (inr e) = (omega arith, omega arith, (λ f. omega (arith, e, f)), (λ f. omega (arith, e, f)))

has-none : (c : ℕ) → (c ≡ t.Left → ⊥) → (c ≡ t.Right → ⊥) → (c ≡ t.Some → ⊥) → has wrappers c ≡ false
unfolding has
has-none c f g h = rw (ne_eqb t.Left c (λ e. f (sym e)), ne_eqb t.Right c (λ e. g (sym e)), ne_eqb t.Some c (λ e. h (sym e))) refl

-- The class of a wrapper.
pub wrapper-class : (c : ℕ) → has wrappers c ≡ true → (c ≡ t.Left) ⊎ (c ≡ t.Right) ⊎ (c ≡ t.Some)
wrapper-class c h = go (eqb c t.Left) (eqb c t.Right) (eqb c t.Some) refl refl refl
  where
    go : (a b d : Bool) → eqb c t.Left ≡ a → eqb c t.Right ≡ b → eqb c t.Some ≡ d → (c ≡ t.Left) ⊎ (c ≡ t.Right) ⊎ (c ≡ t.Some)
    go true b d p q k = inl (eqb-true c t.Left p)
    go false true d p q k = inr (inl (eqb-true c t.Right q))
    go false false true p q k = inr (inr (eqb-true c t.Some k))
    go false false false p q k = absurd (differ (sym (has-none c (eqb-false c t.Left p) (eqb-false c t.Right q) (eqb-false c t.Some k)) ∙ h))

-- Its record: one of the three kinds of wrappers.
wrapped-low : (c : ℕ) → (c ≡ t.Left) ⊎ (c ≡ t.Right) ⊎ (c ≡ t.Some) → (kind.Left ≤ (wrapper_head c).kind) × ((wrapper_head c).kind ≤ kind.Some)
unfolding wrapper_head place_in
wrapped-low c (inl e) = let f : (wrapper_head c).kind ≡ kind.Left = ap (λ (k : ℕ). (wrapper_head k).kind) e in (omega (arith, f), omega (arith, f))
wrapped-low c (inr (inl e)) = let f : (wrapper_head c).kind ≡ kind.Right = ap (λ (k : ℕ). (wrapper_head k).kind) e in (omega (arith, f), omega (arith, f))
wrapped-low c (inr (inr e)) = let f : (wrapper_head c).kind ≡ kind.Some = ap (λ (k : ℕ). (wrapper_head k).kind) e in (omega (arith, f), omega (arith, f))

module _ (c : ℕ) {k : ℕ} (h : has wrappers c ≡ true) (e : k ≡ (wrapper_head c).kind) where
  kind-range : (kind.Left ≤ k) × (k ≤ kind.Some)
  kind-range = let p = wrapped-low c (wrapper-class c h) in (omega (arith, e, p.0), omega (arith, e, p.1))

  pub wrapper-kind : ExprKind k
  wrapper-kind = (omega (arith, kind-range.0), omega (arith, kind-range.1), (λ f. omega (arith, kind-range.1, f)), (λ f. omega (arith, kind-range.1, f)))

  pub wrapper-unturned : T (not (eqb k kind.Match))
  wrapper-unturned = rw (ne_eqb k kind.Match (λ f. omega (arith, kind-range.1, f))) tt

  pub wrapper-keeps : T (keeping k)
  wrapper-keeps = keeps-between kind.Left kind.Some k tt kind-range.0 kind-range.1

  wrapper-plain : wrapper_head c ≡ head k 0 0
  unfolding wrapper_head
  wrapper-plain = ap (λ (n : ℕ). head n 0 0) (sym e)

  pub wrapper-is : (W : List Sort) {a : ℕ} → Apart c → Only t.Comma W → lone W ≡ eqb a 1 → a ≡ 1 → name_head (calling c W) ≡ head k 0 0
  wrapper-is W p o f g = called_is c W p o ∙ ap₂ (λ (u v : Bool). cond (u && v) (wrapper_head c) (call_head c)) h (f ∙ eq-eqb _ 1 g) ∙ wrapper-plain

-- A call of that name.
wrapper-call : (c : ℕ) → (c ≡ t.Left) ⊎ (c ≡ t.Right) ⊎ (c ≡ t.Some) → call_head c ≡ head kind.Call call.Custom 0
unfolding call_head place_in
wrapper-call c (inl e) = ap call_head e
wrapper-call c (inr (inl e)) = ap call_head e
wrapper-call c (inr (inr e)) = ap call_head e

pub wrapper-named : (c : ℕ) → has wrappers c ≡ true → has callees c ≡ true
unfolding has
wrapper-named c h = go (wrapper-class c h)
  where
    go : (c ≡ t.Left) ⊎ (c ≡ t.Right) ⊎ (c ≡ t.Some) → has callees c ≡ true
    go (inl e) = subst (λ k. has callees k ≡ true) (sym e) refl
    go (inr (inl e)) = subst (λ k. has callees k ≡ true) (sym e) refl
    go (inr (inr e)) = subst (λ k. has callees k ≡ true) (sym e) refl

pub other-is : (c : ℕ) (W : List Sort) {a : ℕ} → has wrappers c ≡ true → Apart c → Only t.Comma W → lone W ≡ eqb a 1 → (a ≡ 1 → ⊥) → name_head (calling c W) ≡ head kind.Call call.Custom 0
other-is c W h p o f g =
    called_is c W p o ∙ ap₂ (λ (u v : Bool). cond (u && v) (wrapper_head c) (call_head c)) h (f ∙ ne_eqb _ 1 g) ∙ wrapper-call c (wrapper-class c h)

-- No `<` in a name alone and in a path.
pub alone-angle : (c : ℕ) → has t.identifiers c ≡ true → sees t.LAngle (word c ∷ []) ≡ false
unfolding sees
alone-angle c h = ap (λ (b : Bool). b || false) (name-not c t.LAngle h no-name-angle)

-- What arguments say of a path.
pub args-angle : (W : List Sort) → Only t.Comma W → sees t.LAngle (word t.LParen ∷ (W ++ (word t.RParen ∷ []))) ≡ false
unfolding sees
args-angle W o = sees-append t.LAngle W (word t.RParen ∷ []) ∙ ap (λ (b : Bool). b || false) (only-unseen t.Comma t.LAngle (λ e. omega arith) W o)

count-end : (W : List Sort) → Only t.Comma W → name_count (W ++ (word t.RParen ∷ [])) ≡ 0
unfolding name_count has
count-end [] o = refl
count-end (word d ∷ w) o = ap (λ (k : ℕ). cond (has t.identifiers k) 1 0 + name_count (w ++ (word t.RParen ∷ []))) o.0 ∙ ap (λ (n : ℕ). 0 + n) (count-end w o.1)
count-end (child k l h d ∷ w) o = count-end w o

pub args_count : (W : List Sort) → Only t.Comma W → name_count (word t.LParen ∷ (W ++ (word t.RParen ∷ []))) ≡ 0
unfolding name_count has
args_count W o = ap (λ (n : ℕ). 0 + n) (count-end W o)

pub no-angle-name : has t.identifiers t.LAngle ≡ false
unfolding has
no-angle-name = refl
