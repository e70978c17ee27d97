-- What begins with a name and may go on with `::`: its rule, whichever of the five it is, and the enum construction that it may begin.
-- Assumes nothing.
use Rattle.std.proofs.Common.{◌≡◌, ℕ, ◌-◌, ◌*◌, ◌≤◌, Bool, true, false, not, T, eqb, ◌⊎◌, inl, inr, List, [], ◌∷◌, sym, refl, ap, ◌∙◌, subst, ap₂}
use Rattle.std.specs.Prelude as std
use Rattle.std.specs.Prelude.{Some, None}
use mathlib.Core.Option.{none, some}
use lib.Seq.{sets}
use Rattle.lexer.specs.Classes as t
use Rattle.theory.specs.Grammar.{Sym, tok, nt, row, look}
use Rattle.theory.specs.Machine.{choose, expand}
use Rattle.theory.specs.Ebnf as shape
use Rattle.theory.specs.Ebnf.{sort_of}
use Rattle.theory.specs.Same.{ex}
use Rattle.own.specs.Kinds as kind
use Rattle.own.specs.Tree.{Tok, Items, arrange, concat}
use Rattle.own.specs.Law.{Sort, word, sorts}
use Rattle.own.specs.Words.{word_groups}
use Rattle.text.specs.Widths.{rec_wide}
use Rattle.text.specs.Lists.{has}
use Rattle.grammar.specs.Shapes.ShapeKind.{NamedShape, BareShape, TypedShape, FoldingShape, ForWhileShape}
use Rattle.kinds.specs.Rules.{wrappers}
use Rattle.grammar.specs.Shapes.Tables.{means, table}
use Rattle.grammar.specs.Shapes.TablesIndex.{n-single, n-path}
use Rattle.grammar.specs.Shapes.Row.{aName}
use Rattle.grammar.specs.Records.Records.{head, form_of, sees, name_head}
use Rattle.grammar.specs.Records.Faults.{faults_at, earliest}
use Rattle.parse.specs.declared.State.{State}
use Rattle.parse.specs.declared.expr.c.GenericCall.{GenericCall}
use Rattle.parse.specs.declared.expr.c.GenericCall.TheVariants as generic
use Rattle.parse.specs.Choice as choice
use Rattle.parse.specs.Contract.{Text, tok_at, raw, fault_in, sooner, kept, fault_at, Ready, Moved, Put, as_node, Went, Node, reserved, cleaned}
use Rattle.parse.specs.Infos.{Begun, Generic, Uncalled, Leads, named_leads, bare_leads, generic_leads}
use Rattle.parse.proofs.Rule.Amid.{Amid}
use Rattle.parse.proofs.Rule.Chain.{turns}
use Rattle.parse.proofs.choice.Chosen.{Forked, Optionally}
use Rattle.parse.proofs.Rule.Steps.{decided}
use Rattle.parse.proofs.Rule.Closing.{Opened, reserved-class, Rule, shuts-in, its-fault}
use Rattle.parse.proofs.Rule.Entered as entered
use Rattle.parse.proofs.Rule.Entered.{Entered}
use Rattle.parse.proofs.Rule.Commas.{AnyN}
use Rattle.parse.proofs.Rule.Heads.{faultless, no_fault, unturned}
use Rattle.parse.proofs.expr.CallForms as call
use Rattle.parse.proofs.expr.CallForms.{For}
use Rattle.parse.proofs.expr.FoldForm.{fold-faultless}
use Rattle.parse.proofs.expr.CallLaws as law

-- Without `<` among its pieces a record of this shape has no refusal of its own.
abbrev Quiet : ℕ → Type 0
Quiet k = (draft : List ℕ) (is : Items) (w : List Sort) → sorts is ≡ w → sees t.LAngle w ≡ false → earliest (faults_at draft k is) ≡ none

-- The rule of a name of the class c: a symbol for the name, and the nonterminal of what may follow it.
pub record NameRule (c : ℕ) : Type 0 where
  pub i : ℕ
  pub k : ℕ
  pub s : Sym
  pub B : ℕ
  pub rule : Rule n-single i k (s ∷ nt B ∷ [])
  pub chosen : choose table n-single c ≡ i
  pub one_token : For s c
  pub name : has t.identifiers c ≡ true
  pub form : form_of k ≡ aName
  pub flat : sort_of (ex means (nt B)) ≡ shape.flat
  pub quiet : Quiet k

-- One that may stand alone: D is what follows `::`.
pub record AloneRule (c : ℕ) : Type 0 where
  pub by : NameRule c
  pub D : ℕ
  pub optional : Optionally by.B t.DoubleColon (tok t.DoubleColon ∷ nt D ∷ [])

-- One that `::<..>` may follow: `rest` is what follows `<`.
pub record GenericRule (c : ℕ) : Type 0 where
  pub named : AloneRule c
  pub rest : List Sym
  pub choice_is : Forked named.D t.LAngle (tok t.LAngle ∷ rest) (nt n-path ∷ [])

never : (k : ℕ) → T (faultless k) → Quiet k
unfolding earliest
never k h draft is w e f = ap earliest (no_fault draft k is h)

no_bound : Quiet FoldingShape
unfolding fault_at
no_bound draft is w e f = fold-faultless draft is e f

module _ {c : ℕ} where
  abbrev by_rule : {i k : ℕ} {s : Sym} {B : ℕ} → Rule n-single i k (s ∷ nt B ∷ []) → choose table n-single c ≡ i → For s c → has t.identifiers c ≡ true → form_of k ≡ aName
      → sort_of (ex means (nt B)) ≡ shape.flat → Quiet k → NameRule c
  by_rule {i} {k} {s} {B} r e z n f g q =
      record { i = i; k = k; s = s; B = B; rule = r; chosen = e; one_token = z; name = n; form = f; flat = g; quiet = q }

  named_rule : choose table n-single c ≡ choice.Named → NameRule c
  unfolding form_of
  named_rule e = by_rule call.named_rule e (call.for-named c e) (call.named-name c e) refl call.flat-named (never NamedShape tt)

  bare-rule : choose table n-single c ≡ choice.Bare → NameRule c
  unfolding form_of
  bare-rule e = by_rule call.bare-rule e (call.for-bare c e) (call.bare-name c e) refl call.bare-optional.flat (never BareShape tt)

  abbrev angled : (z : NameRule c) {D : ℕ} {rest : List Sym} → Optionally z.B t.DoubleColon (tok t.DoubleColon ∷ nt D ∷ []) → Forked D t.LAngle (tok t.LAngle ∷ rest) (nt n-path ∷ []) → GenericRule c
  angled z {D} {rest} p q = record { named = record { by = z; D = D; optional = p }; rest = rest; choice_is = q }

  typed-rule : choose table n-single c ≡ choice.Typed → GenericRule c
  unfolding form_of
  typed-rule e =
      angled (by_rule call.typed-rule e (call.for-typed c e) (call.typed-name c e) refl call.typed-optional.flat (never TypedShape tt)) call.typed-optional call.typed-choice

  folding-rule : choose table n-single c ≡ choice.Folding → GenericRule c
  unfolding form_of
  folding-rule e =
      angled (by_rule call.folding-rule e (call.for-folding c e) (call.folding-name c e) refl call.folding-optional.flat no_bound) call.folding-optional call.folding-choice

  while-rule : choose table n-single c ≡ choice.ForWhile → GenericRule c
  unfolding form_of
  while-rule e =
      angled (by_rule call.whiles-rule e (call.for-whiles c e) (call.whiles-name c e) refl call.whiles-optional.flat (never ForWhileShape tt)) call.whiles-optional call.whiles-choice

  pub generic-rule : (g : GenericCall) → Generic c g → GenericRule c
  generic-rule generic.Typed e = typed-rule e
  generic-rule generic.Folding e = folding-rule e
  generic-rule generic.ForWhile e = while-rule e

  -- Such a name may stand alone,
  pub uncalled-rule : (g : std.Option GenericCall) → Uncalled c g → AloneRule c
  unfolding bare-rule
  uncalled-rule None e = record { by = bare-rule e; D = n-path; optional = call.bare-optional }
  uncalled-rule (Some g) e = (generic-rule g e).named

  -- or begin an enum construction where no `<` follows `::`.
  pub uncalled-leads : {b : ℕ} (g : std.Option GenericCall) → Uncalled c g → (b ≡ t.LAngle → ⊥) → Leads c b
  uncalled-leads None e h = bare_leads e
  uncalled-leads (Some g) e h = generic_leads g e h

-- A wrapper's word is a name.
pub wrapper-chosen : (c : ℕ) → has wrappers c ≡ true → choose table n-single c ≡ choice.Named
unfolding choose row table look
wrapper-chosen c h = go (call.wrapper-class c h)
  where
    go : (c ≡ t.Left) ⊎ (c ≡ t.Right) ⊎ (c ≡ t.Some) → choose table n-single c ≡ choice.Named
    go (inl e) = ap (choose table n-single) e
    go (inr (inl e)) = ap (choose table n-single) e
    go (inr (inr e)) = ap (choose table n-single) e

-- The head of such a record is that of a name.
pub by_name : {x : Text} {K : ℕ} {N : ℕ → Type 0} {full left : List Sym} {st : State} {l : List ℕ} {w : List Sort} {ms : List Tok} {m : ℕ} {st₁ : State} {l₁ : List ℕ} {c : ℕ}
    (z : NameRule c) → Amid x K N full left st l w ms m st₁ l₁ → decided x z.k w ms ≡ name_head w
by_name z d = call.by_form z.k z.form d

-- Such a rule, entered.
pub enters : {x : Text} {st r : State} (z : NameRule st.class) → Ready x st → r ≡ reserved st → Entered n-single z.i z.k (z.s ∷ nt z.B ∷ []) x st r (kept st)
enters z y h = entered.by z.rule y z.chosen h

-- A name and `::`, whose records are those of an enum construction: a path follows.
pub record EnumOf (x : Text) (st r : State) (l : List ℕ) (d : State) (l' : List ℕ) : Type 0 where
  pub by : NameRule st.class
  pub entered : Entered n-single by.i by.k (by.s ∷ nt by.B ∷ []) x st r (kept st)
  pub ms : List Tok
  pub amid : Amid x kind.EnumConstruction AnyN (by.s ∷ nt by.B ∷ []) (nt n-path ∷ []) r l (word st.class ∷ word t.DoubleColon ∷ []) ms 1 d l'

module _ {x : Text} {st r b d : State} {l l' : List ℕ} (y : Ready x st) (h : r ≡ reserved st) (g : Begun x r b)
    (put : Put l b.out kind.Name st.start st.stop 0 0 1 l') (more : d ≡ reserved b) where
  -- with a path right behind `::`,
  at_once : (z : NameRule st.class) → ((i : ℕ) → i ≡ t.DoubleColon → expand table z.B i ≡ some (tok t.DoubleColon ∷ nt n-path ∷ [])) → EnumOf x st r l d l'
  at_once z k =
      let n = enters z y h in
      record {
        by = z;
        entered = n;
        ms = tok_at x r.at ∷ tok_at x (reserved g.a).at ∷ [];
        amid = law.late-name y n.opened z.one_token AnyN (nt n-path ∷ []) z.flat k z.name g.first g.colons g.second put more;
      }

  -- or where `<` might have stood.
  without-angle : (z : GenericRule st.class) → (b.class ≡ t.LAngle → ⊥) → EnumOf x st r l d l'
  without-angle z f =
      let u = z.named in
      let n = enters u.by y h in
      let d₁ = law.late-name y n.opened u.by.one_token AnyN (nt u.D ∷ []) u.optional.flat u.optional.there u.by.name g.first g.colons g.second put more in
      record {
        by = u.by;
        entered = n;
        ms = tok_at x r.at ∷ tok_at x (reserved g.a).at ∷ [];
        amid = turns (nt n-path ∷ []) d₁ z.choice_is.flat (z.choice_is.elsewhere d.class (λ e. f (sym (reserved-class b more) ∙ e)));
      }

  pub enum-begins : Leads st.class b.class → EnumOf x st r l d l'
  unfolding named_rule bare-rule
  enum-begins (named_leads e) = at_once (named_rule e) (λ i c. call.named-colons c)
  enum-begins (bare_leads e) = at_once (bare-rule e) call.bare-optional.there
  enum-begins (generic_leads q z f) = without-angle (generic-rule q z) f

-- A record of such a rule, with no `<` among its pieces.
module _ {x : Text} {st r : State} {K : ℕ} {l : List ℕ} {w : List Sort} {ms : List Tok} {m : ℕ} {st₁ : State} {l₁ l' : List ℕ} {low high : ℕ} where
  pub shut-named : (z : NameRule st.class) → Ready x st → Opened x st r (kept st) → (d : Amid x K AnyN (z.s ∷ nt z.B ∷ []) [] r l w ms m st₁ l₁) → 1 ≤ m → name_head w ≡ head K low high
      → sees t.LAngle w ≡ false → T (not (eqb K kind.Match)) → (P : ℕ → Type 0) → P K → Put l₁ st.out K st.start st₁.end low high (st₁.out - st.out) l'
      → Went x (z.s ∷ nt z.B ∷ []) (as_node z.k) (Node P) st l st₁ l' 0 0
  shut-named z y o d one hd h u P p put =
      let e = by_name z d ∙ hd in
      shuts-in z.k y o d one e tt P p d.lays.long
      (λ n i. d.lays.laid n i ∙ ap (λ (b : Bool). sets l (rec_wide * r.out) (concat (arrange b (word_groups d.L)))) (sym (unturned K d.L u)))
      put refl (record { at_is = refl; out_is = refl }) d.lays.stands
      (d.lays.worst
      ∙ ap₂ sooner o.kept_is
      (sym (its-fault z.k y o d one e tt ∙ ap (λ f. sooner f (fault_in x r.at d.pre)) (z.quiet x.draft (raw x r.at d.pre) w d.sorted h))))

-- What is behind a name and `::` with the refusals kept apart from there on.
clean-moved : {x : Text} {a b : State} → Moved x a b → Moved x (cleaned a) (cleaned b)
unfolding cleaned
clean-moved v = record { ahead = v.ahead; class_is = v.class_is; start_is = v.start_is; stop_is = v.stop_is; end_is = v.end_is; out_is = v.out_is; kept_is = refl }

clean-reserved : (st : State) → cleaned (reserved st) ≡ reserved (cleaned st)
unfolding cleaned reserved
clean-reserved st = refl

pub begun-apart : {x : Text} (st b : State) {c : State} → Begun x (reserved st) b → c ≡ cleaned b → Begun x (reserved (cleaned st)) c
unfolding cleaned
begun-apart {x} st b g e =
    record {
      a = cleaned g.a;
      first = law.moved-from (clean-reserved st) (clean-moved g.first);
      colons = g.colons;
      second = subst (λ u. Moved x (cleaned g.a) u) (sym e) (clean-moved g.second);
    }

pub apart-class : (b : State) {c : State} {k : ℕ} → c ≡ cleaned b → b.class ≡ k → c.class ≡ k
unfolding cleaned
apart-class b e f = ap (λ (u : State). u.class) e ∙ f
