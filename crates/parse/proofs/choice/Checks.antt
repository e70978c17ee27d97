-- The constants of src/choice.rt say what grammar's table and the lists of names say, class by class.
-- Assumes nothing.
use Rattle.std.proofs.Common.{◌≡◌, ℕ, cond, ◌∙◌, ◌<◌, ◌≤◌, Bool, true, false, T, eqb, ltb, List, length, get_or, sym, refl, arith, eqb→eq, ltb-false, ltb-true}
use Rattle.text.specs.Table.{every}
use Rattle.text.proofs.Table.{table_at}
use Rattle.text.specs.Lists.{has}
use Rattle.lexer.specs.Classes as t
use Rattle.theory.specs.Grammar.{look, row}
use Rattle.theory.specs.Machine.{choose}
use Rattle.grammar.specs.Shapes.Tables.{table}
use Rattle.grammar.specs.Shapes.TablesIndex.{n-type, n-pattern, n-single, n-arm, n-alias_name}
use Rattle.parse.specs.Choice as choice
use Rattle.parse.specs.Contract.{entry_in, name_sort, head_sort}
use Rattle.parse.proofs.choice.Tables.{type_choices, pattern_choices, single_choices, name_choices, alias_choices, head_choices}
use Rattle.parse.proofs.Rule.ByClass.{past_classes, run, run_at, beyond, has-past}

-- The names of types, the classes from `bool` on, lead to one alternative: one test over them.
abbrev many : ℕ
many = length t.type_names

named : (f : ℕ → ℕ) (v : ℕ) → T (run (λ c. eqb v (f c)) many t.bool) → (c : ℕ) → t.bool ≤ c → c < past_classes → v ≡ f c
named f v u c l h = eqb→eq v (f c) (run_at (λ c. eqb v (f c)) many t.bool c u l (omega arith))

pub name-at : (c : ℕ) → c < t.bool → get_or name_choices c 0 ≡ name_sort c
unfolding name_choices name_sort has
name-at = table_at name_sort name_choices t.bool refl tt

pub name-named : (c : ℕ) → t.bool ≤ c → c < past_classes → choice.FunctionName ≡ name_sort c
unfolding name_sort has
name-named = named (name_sort) choice.FunctionName tt

pub name-past : (c : ℕ) → past_classes ≤ c → 0 ≡ name_sort c
unfolding name_sort
name-past c h = rw (has-past t.function_names c tt h, has-past t.identifiers c tt h) refl

pub head_at : (c : ℕ) → c < t.bool → get_or head_choices c 0 ≡ head_sort c
unfolding head_choices head_sort choose row look table
head_at = table_at head_sort head_choices t.bool refl tt

no_arm : (c : ℕ) → past_classes ≤ c → choose table n-arm c ≡ 0
unfolding row table
no_arm c h = beyond n-arm c h

pub head-named : (c : ℕ) → t.bool ≤ c → c < past_classes → choice.NamedHead ≡ head_sort c
unfolding head_sort choose row look table
head-named = named (head_sort) choice.NamedHead tt

pub head-past : (c : ℕ) → past_classes ≤ c → 0 ≡ head_sort c
unfolding head_sort
head-past c h = rw (no_arm c h) refl

-- What `Choices::at` gives is what f gives, where the list, the names of types and what is past them do.
pub entry-is : (f : ℕ → ℕ) (l : List ℕ) (k : ℕ) → ((c : ℕ) → c < t.bool → get_or l c 0 ≡ f c) → ((c : ℕ) → t.bool ≤ c → c < past_classes → k ≡ f c) → ((c : ℕ) → past_classes ≤ c → 0 ≡ f c)
    → (c : ℕ) → entry_in l c k ≡ f c
unfolding entry_in
entry-is f l k listed alike past c = go (ltb c t.bool) (ltb c past_classes) refl refl
  where
    go : (a b : Bool) → ltb c t.bool ≡ a → ltb c past_classes ≡ b → cond a (get_or l c 0) (cond b k 0) ≡ f c
    go true b p q = listed c (ltb-true c t.bool p)
    go false true p q = alike c (ltb-false c t.bool p) (ltb-true c past_classes q)
    go false false p q = past c (ltb-false c past_classes q)

-- Where f is what the table chooses for A, one test of each part says so.
chosen-is : (A : ℕ) (l : List ℕ) (k : ℕ) → length l ≡ t.bool → T (every (λ n x. eqb x (choose table A n)) 0 l) → T (run (λ c. eqb k (choose table A c)) many t.bool) → (row table A).other ≡ 0 → (c : ℕ) → entry_in l c k ≡ choose table A c
chosen-is A l k n u v o = entry-is (choose table A) l k (table_at (choose table A) l t.bool n u) (named (choose table A) k v) (λ c h. sym (beyond A c h ∙ o))

pub type-entry : (c : ℕ) → entry_in type_choices c choice.NamedType ≡ choose table n-type c
unfolding type_choices choose row look table
type-entry = chosen-is n-type type_choices choice.NamedType refl tt tt refl

pub pattern-entry : (c : ℕ) → entry_in pattern_choices c choice.NamePattern ≡ choose table n-pattern c
unfolding pattern_choices choose row look table
pattern-entry = chosen-is n-pattern pattern_choices choice.NamePattern refl tt tt refl

pub single-entry : (c : ℕ) → entry_in single_choices c choice.Named ≡ choose table n-single c
unfolding single_choices choose row look table
single-entry = chosen-is n-single single_choices choice.Named refl tt tt refl

pub alias-entry : (c : ℕ) → entry_in alias_choices c choice.Absent ≡ choose table n-alias_name c
unfolding alias_choices choose row look table
alias-entry = chosen-is n-alias_name alias_choices choice.Absent refl tt tt refl
