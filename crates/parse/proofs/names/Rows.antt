-- What grammar's table has for a name, and which tokens are records where every name is one.
-- Assumes nothing.
use Rattle.std.proofs.Common.{◌≡◌, ℕ, zero, suc, ◌<◌, ◌≤◌, Bool, true, false, cond, not, ◌||◌, T, eqb, List, [], ◌∷◌, sym, refl, ap, ◌∙◌, ap₂, arith, subst, ltb, ltb-true, ltb-false, ne_eqb, eqb→eq}
use mathlib.Core.Option.{Option, none, some, none-ne-some}
use Rattle.text.proofs.Same.{differ}
use Rattle.text.proofs.Table.{is_true}
use Rattle.text.specs.Lists.{has}
use Rattle.theory.specs.Grammar.{Sym, tok, nt, row, look, alt, pick}
use Rattle.theory.specs.Machine.{choose, expand}
use Rattle.theory.specs.Ebnf as shape
use Rattle.theory.specs.Ebnf.{sort_of}
use Rattle.theory.specs.Same.{ex}
use Rattle.kinds.specs.Families as family
use Rattle.lexer.specs.Classes as t
use Rattle.grammar.specs.Shapes.Tables.{means, table}
use Rattle.grammar.specs.Shapes.TablesIndex.{n-identifier, n-function_name, n-alias_name, n-path-many-DoubleColon}
use Rattle.own.specs.Tree as own
use Rattle.own.specs.Tree.{Items, mark, sub}
use Rattle.own.specs.Kinds as kind
use Rattle.grammar.specs.Records.Records.{Role, aMark, asName, as_number, role_of, placed, arranged}
use Rattle.parse.specs.declared.names.NameSort.{NameSort}
use Rattle.parse.specs.declared.names.NameSort.TheVariants as name
use Rattle.parse.specs.Contract.{name_sort, name_nt, is_name, callees}
use Rattle.parse.specs.Choice as choice
use Rattle.parse.proofs.Rule.ByClass.{run, sweep, where-passed, beyond, past_classes}
use Rattle.parse.proofs.choice.Checks.{name-past}
use Rattle.parse.proofs.choice.Chosen.{Optionally, optionally, alone, is-alone}

-- nothing
abbrev lacking : Option (List Sym) → Bool
lacking none = true
lacking (some l) = false

is-lacking : (o : Option (List Sym)) → T (lacking o) → o ≡ none
is-lacking none h = refl
is-lacking (some l) h = absurd h

no-name-past : (c : ℕ) → past_classes ≤ c → name_sort c ≡ 0
no-name-past c h = sym (name-past c h)

-- Where a token is a name of the sort the table has it alone, otherwise nothing: one computation at the classes,
abbrev AsNamed : NameSort → ℕ → Bool → Type 0
AsNamed s c b = T (cond b (alone (expand table (name_nt s) c) c) (lacking (expand table (name_nt s) c)))

row-test : (s : NameSort) → T (run (λ c. cond (is_name s c) (alone (expand table (name_nt s) c) c) (lacking (expand table (name_nt s) c))) past_classes 0)
unfolding name_sort has choose row look alt pick table
row-test name.Identifier = tt
row-test name.Function = tt
row-test name.Alias = tt

-- and no name past them.
none-past : (s : NameSort) (c : ℕ) → past_classes ≤ c → is_name s c ≡ false
unfolding row table
none-past name.Identifier c h = rw (no-name-past c h) refl
none-past name.Function c h = rw (no-name-past c h) refl
none-past name.Alias c h = rw (beyond n-alias_name c h) refl

nothing-past : (s : NameSort) (c : ℕ) → past_classes ≤ c → T (lacking (expand table (name_nt s) c))
unfolding row alt pick table
nothing-past name.Identifier c h = rw (beyond n-identifier c h) tt
nothing-past name.Function c h = rw (beyond n-function_name c h) tt
nothing-past name.Alias c h = rw (beyond n-alias_name c h) tt

as-named : (s : NameSort) (c : ℕ) {b : Bool} → is_name s c ≡ b → AsNamed s c b
as-named s c {b} e = go (ltb c past_classes) refl
  where
    go : (u : Bool) → ltb c past_classes ≡ u → AsNamed s c b
    go true q = subst (AsNamed s c) e (sweep (λ c. cond (is_name s c) (alone (expand table (name_nt s) c) c) (lacking (expand table (name_nt s) c))) (row-test s) c (ltb-true c past_classes q))
    go false q = let h = ltb-false c past_classes q in subst (AsNamed s c) (sym (none-past s c h) ∙ e) (nothing-past s c h)

pub no-name : (s : NameSort) (c : ℕ) → is_name s c ≡ false → expand table (name_nt s) c ≡ none
no-name s c e = is-lacking (expand table (name_nt s) c) (as-named s c e)

pub a-name : (s : NameSort) (c : ℕ) → is_name s c ≡ true → expand table (name_nt s) c ≡ some (tok c ∷ [])
a-name s c e = is-alone (expand table (name_nt s) c) c (as-named s c e)

-- The end is no name.
no-end : (s : NameSort) → is_name s 0 ≡ false
unfolding name_sort has choose row look table
no-end name.Identifier = refl
no-end name.Function = refl
no-end name.Alias = refl

pub named-pos : (s : NameSort) (c : ℕ) → is_name s c ≡ true → 0 < c
named-pos s zero e = absurd (differ (sym (no-end s) ∙ e))
named-pos s (suc c) e = omega arith

pub flat-name : (s : NameSort) → sort_of (ex means (nt (name_nt s))) ≡ shape.flat
unfolding sort_of ex means
flat-name name.Identifier = refl
flat-name name.Function = refl
flat-name name.Alias = refl

-- Each name is an identifier.
identifier-test : (s : NameSort) → T (run (λ c. not (is_name s c) || has t.identifiers c) past_classes 0)
unfolding name_sort has choose row look table
identifier-test name.Identifier = tt
identifier-test name.Function = tt
identifier-test name.Alias = tt

named-identifier : (s : NameSort) (c : ℕ) → is_name s c ≡ true → has t.identifiers c ≡ true
named-identifier s c e =
    is_true (has t.identifiers c) (where-passed (λ c. has t.identifiers c) (is_name s) (identifier-test s) (λ c h t. absurd (rw (none-past s c h) at t)) c (rw e tt))

pub sort-identifier : (c : ℕ) → (name_sort c ≡ 0 → ⊥) → has t.identifiers c ≡ true
sort-identifier c h = named-identifier name.Identifier c (rw (ne_eqb (name_sort c) 0 h) refl)

-- A class that the table has as a name is one,
expanded : (s : NameSort) (c : ℕ) {rhs : List Sym} → expand table (name_nt s) c ≡ some rhs → is_name s c ≡ true
expanded s c e = go (is_name s c) refl
  where
    go : (b : Bool) → is_name s c ≡ b → is_name s c ≡ true
    go true q = q
    go false q = absurd (none-ne-some _ (sym (no-name s c q) ∙ e))

-- and so an identifier.
pub expanded-name : (s : NameSort) (c : ℕ) {rhs : List Sym} → expand table (name_nt s) c ≡ some rhs → has t.identifiers c ≡ true
expanded-name s c e = named-identifier s c (expanded s c e)

-- After a name: `::` and one more, or nothing.
pub names-optional : Optionally n-path-many-DoubleColon t.DoubleColon (tok t.DoubleColon ∷ nt n-identifier ∷ nt n-path-many-DoubleColon ∷ [])
unfolding sort_of ex means choose row look table alt pick
names-optional = optionally refl (λ c. refl) refl refl

pub other-sort : (c : ℕ) → has t.function_names c ≡ false → name_sort c ≡ choice.FunctionName → ⊥
unfolding name_sort
other-sort c q e = go (has t.identifiers c) (sym (ap (λ (b : Bool). cond b choice.FunctionName (cond (has t.identifiers c) choice.ReservedName 0)) q) ∙ e)
  where
    go : (b : Bool) → ◌≡◌ {A = ℕ} (cond b choice.ReservedName 0) choice.FunctionName → ⊥
    go true e = omega arith
    go false e = omega arith

-- A class that the table has as a function's name is one.
pub expanded-function-name : (c : ℕ) {rhs : List Sym} → expand table n-function_name c ≡ some rhs → has t.function_names c ≡ true
expanded-function-name c e = go (has t.function_names c) refl
  where
    go : (b : Bool) → has t.function_names c ≡ b → has t.function_names c ≡ true
    go true q = q
    go false q = absurd (other-sort c q (eqb→eq (name_sort c) choice.FunctionName (rw (expanded name.Function c e) tt)))

-- In a function, a parameter, an enum construction and an enum arm every name is a record.
pub role-named : (K c : ℕ) → has family.names_kept K ≡ true → role_of K c ≡ cond (has t.identifiers c) asName aMark
unfolding role_of
role-named K c h = λ i. cond (h i) (cond (has t.identifiers c) asName aMark) (cond (eqb K kind.Call) (cond (has callees c) asName (cond (eqb c t.DecLiteral) as_number aMark)) aMark)

pub name-role : (K c : ℕ) → has family.names_kept K ≡ true → has t.identifiers c ≡ true → role_of K c ≡ asName
name-role K c h e = role-named K c h ∙ ap (λ (b : Bool). cond b asName aMark) e

-- So such records differ in no token.
pub arranged-names : (K n : ℕ) → has family.names_kept K ≡ true → (is : Items) → arranged K n is ≡ arranged kind.EnumConstruction n is
unfolding arranged has
arranged-names K n h own.none = refl
arranged-names K n h (mark t r) = ap₂ (λ (ρ : Role) (u : Items). placed ρ n t u) (role-named K t.class h ∙ sym (role-named kind.EnumConstruction t.class refl)) (arranged-names K n h r)
arranged-names K n h (sub k l i js r) = ap (sub k l i js) (arranged-names K n h r)

-- In a call a function's name is one.
pub call-role : (c : ℕ) → has t.function_names c ≡ true → role_of kind.Call c ≡ asName
unfolding role_of has
call-role c e = go (eqb t.Jet c) refl
  where
    go : (b : Bool) → eqb t.Jet c ≡ b → role_of kind.Call c ≡ asName
    go true q = rw q refl
    go false q = rw (q, e) refl
