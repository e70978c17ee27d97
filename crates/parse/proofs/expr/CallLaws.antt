-- The steps of calls: the token that they begin with, arguments, a path, and a name whose record is written late.
-- Assumes nothing.
use Rattle.std.proofs.Common.{◌≡◌, ℕ, suc, ◌+◌, ◌*◌, ◌%◌, ◌<◌, ◌≤◌, Bool, true, false, cond, ◌||◌, eqb, List, [], ◌∷◌, ◌++◌, length, get_or, sym, refl, ap, ◌∙◌, subst, ap₂, arith, ne_eqb}
use mathlib.Core.Option.{Option, some}
use lib.Seq.{sets, length-sets}
use Rattle.text.proofs.Same.{differ}
use Rattle.num.specs.Value.{decimal_of}
use Rattle.theory.specs.Grammar.{Sym, tok, nt}
use Rattle.theory.specs.Machine.{expand}
use Rattle.theory.specs.Ebnf as shape
use Rattle.theory.specs.Ebnf.{sort_of}
use Rattle.theory.specs.Same.{ex}
use Rattle.own.specs.Tree.{Tok, Items, marks, concat}
use Rattle.text.specs.Widths.{rec_wide}
use Rattle.text.specs.Lists.{has}
use Rattle.own.specs.Words.{rec_then, sizes, word_groups}
use Rattle.own.specs.Flat.{blank_tok}
use Rattle.theory.specs.Walk.{n-tok}
use Rattle.own.specs.Law.{Sort, word, sorts}
use Rattle.own.specs.Kinds as kind
use Rattle.kinds.specs.Families as family
use Rattle.lexer.specs.Classes as t
use Rattle.grammar.specs.Shapes.Tables.{means, table}
use Rattle.grammar.specs.Shapes.TablesIndex.{n-arguments, n-path, n-function_name, n-identifier, n-path-many-DoubleColon, n-path-optional}
use Rattle.grammar.specs.Records.Records.{aMark, asName, role_of, sees, name_count, lone, text_of, first_of}
use Rattle.grammar.specs.Records.Faults.{Fault}
use Rattle.parse.specs.Contract.{Text, classes, tok_at, Read, raw, kept, fault, Stands, Ready, Near, Moved, Put, Turned, Info, as_items, Went, Parsed, read, reserved, Named, Decimal, value_at, Called, named, marked, Only, countable, u32_count}
use Rattle.parse.specs.Infos.{Args, Path, Begun}
use Rattle.parse.specs.declared.State.{State}
use Rattle.parse.specs.declared.Step.{Step}
use Rattle.parse.specs.declared.Step.TheVariants.{Next}
use Rattle.parse.proofs.Rule.Amid.{class-at, inside, went, Amid, starts, then-went}
use Rattle.parse.proofs.Rule.Lists.{length-words}
use Rattle.text.proofs.Sets.{sets-next, sets-append}
use Rattle.parse.proofs.Rule.Steps.{number_in, child-went}
use Rattle.parse.proofs.Rule.Commas.{AnyN, finish}
use Rattle.parse.proofs.Rule.Heads.{words_in, place, number_at, first-is}
use Rattle.parse.proofs.names.Joined.{function-name-class}
use Rattle.parse.proofs.choice.Chosen.{Forked, Optionally}
use Rattle.parse.proofs.Rule.Closing.{Opened, reserved-class, reserved-stands}
use Rattle.parse.proofs.Rule.Told.{Told, then-told}
use Rattle.parse.proofs.Rule.Chain.{turns, eats-as, advances}
use Rattle.parse.proofs.names.Chain.{NamePieces, then-named, then-decimal}
use Rattle.parse.proofs.Rule.Marks.{sign-mark}
use Rattle.parse.proofs.names.Rows.{name-role, call-role}
use Rattle.parse.proofs.expr.CallForms.{For, Apart, called-role, marked-role, number-role, flat-path, path-row, path-optional, no-angle-name, args-angle, args_count}
use Rattle.parse.proofs.Rule.Pieces.{sees-append, name_count-append}
-- A state to parse from is one to read arguments from.
pub use Rattle.parse.proofs.names.Steps.{ready-near as near}

-- In a rule whose record was reserved any state is one.
pub nearly : {x : Text} {K : ℕ} {N : ℕ → Type 0} {full left : List Sym} {st r : State} {F : Option Fault} {l : List ℕ} {w : List Sort} {ms : List Tok} {m : ℕ} {st₁ : State} {l₁ : List ℕ}
    → Ready x st → Opened x st r F → Amid x K N full left r l w ms m st₁ l₁ → Near x st₁
nearly y o d =
    let few = d.lays.few in
    let a = o.at_is in
    let b = o.out_is in
    let f = y.few in
    record { stands = d.lays.stands; short = y.short; few = omega arith }

-- Arguments: W is what stands between the parentheses, `more` are their tokens, k of which are no records.
pub record Argued (x : Text) (K : ℕ) (N : ℕ → Type 0) (full left : List Sym) (st : State) (l : List ℕ) (w : List Sort) (ms : List Tok) (m a : ℕ) (st₂ : State) (l₂ : List ℕ) : Type 0 where
  pub W : List Sort
  pub more : List Tok
  pub k : ℕ
  pub commas : Only t.Comma W
  pub lone_is : lone W ≡ eqb a 1
  pub one : 1 ≤ k
  pub amid : Amid x K N full left st l (w ++ (word t.LParen ∷ (W ++ (word t.RParen ∷ [])))) (ms ++ more) (m + k) st₂ l₂

-- A path: W is what it is made of; there are a names.
pub record PathPieces (a : ℕ) (W : List Sort) : Type 0 where
  pub count_is : name_count W ≡ a
  pub angles : sees t.LAngle W ≡ false

module _ {x : Text} {K : ℕ} {N : ℕ → Type 0} {full left : List Sym} {st : State} {l : List ℕ} {w : List Sort} {ms : List Tok} {m : ℕ} {st₁ : State} {l₁ : List ℕ} where
  pub then-args : {st₂ : State} {l₂ : List ℕ} {a b : ℕ} {r : Step} → Amid x K N full (nt n-arguments ∷ left) st l w ms m st₁ l₁ → Parsed x (nt n-arguments ∷ []) as_items Args st₁ l₁ l₂ r → r ≡ Next st₂ a b
      → Argued x K N full left st l w ms m a st₂ l₂
  then-args {st₂} {l₂} d p e =
      let q = went e p in
      let i = q.info in
      let z = then-went d q (λ n g. i.roles K n) in
      record {
        W = i.W;
        more = marks (raw x st₁.at q.items);
        k = q.m;
        commas = i.commas;
        lone_is = i.lone_is;
        one = i.own;
        amid = subst (λ u. Amid x K N full left st l (w ++ u) (ms ++ marks (raw x st₁.at q.items)) (m + q.m) st₂ l₂) i.sorts_is z;
      }

  -- One token, which is no record, by the symbol that stands for it.
  pub then-mark : {s : Sym} {c : ℕ} {st₂ : State} → For s c → Amid x K N full (s ∷ left) st l w ms m st₁ l₁ → st₁.class ≡ c → Moved x st₁ st₂ → role_of K c ≡ aMark
      → Amid x K N full left st l (w ++ (word c ∷ [])) (ms ++ (tok_at x st₁.at ∷ [])) (m + 1) st₂ l₁
  then-mark z d e v role = eats-as d e z.pos v role (λ i f. z.reads x st₁.at f i)

module _ {x : Text} {N : ℕ → Type 0} {full left : List Sym} {st : State} {l : List ℕ} {w : List Sort} {ms : List Tok} {m : ℕ} {st₁ : State} {l₁ : List ℕ} where
  pub then-path : {st₂ : State} {l₂ : List ℕ} {a b : ℕ} {r : Step} → Amid x kind.EnumConstruction N full (nt n-path ∷ left) st l w ms m st₁ l₁ → Parsed x (nt n-path ∷ []) as_items Path st₁ l₁ l₂ r → r ≡ Next st₂ a b
      → Told x kind.EnumConstruction N full left st l w ms m (PathPieces a) st₂ l₂
  then-path d p e =
      let q = went e p in
      then-told d q (λ n g. q.info.roles n) (record { count_is = q.info.count_is; angles = q.info.angles })

-- The state with a record more has moved as it had.
reserved-moved : {x : Text} {a b : State} → Moved x a b → Moved x (reserved a) (reserved b)
unfolding reserved
reserved-moved v =
    record {
      ahead = v.ahead;
      class_is = v.class_is;
      start_is = v.start_is;
      stop_is = v.stop_is;
      end_is = v.end_is;
      out_is = ap (λ (n : ℕ). (n + 1) % u32_count) v.out_is;
      kept_is = v.kept_is;
    }

pub names-kind : has family.names_kept kind.EnumConstruction ≡ true
unfolding has
names-kind = refl

-- The token that a call begins with, in its role.
pub record Begins (x : Text) (N : ℕ → Type 0) (full left : List Sym) (r : State) (l : List ℕ) (c : ℕ) (a b : State) (l' : List ℕ) : Type 0 where
  pub m : ℕ
  pub class_is : b.class ≡ a.class
  pub amid : Amid x kind.Call N full left r l (word c ∷ []) (tok_at x r.at ∷ []) m b l'
  pub ahead : r.at < b.at

module _ {x : Text} {st r : State} {F : Option Fault} (y : Ready x st) (o : Opened x st r F) {s : Sym} (z : For s st.class) where
  class-there : get_or (classes x) r.at 0 ≡ st.class
  class-there = sym o.stands.class_is ∙ o.class_is

  first-there : r.at < length x.ts
  first-there = inside x r.at z.pos class-there

  token-class : (tok_at x r.at).class ≡ st.class
  token-class = sym (class-at x.ts r.at) ∙ class-there

  -- It is a mark,
  pub first-mark : (K : ℕ) (N : ℕ → Type 0) (left : List Sym) (l : List ℕ) {a : State} → Moved x r a → role_of K st.class ≡ aMark → Amid x K N (s ∷ left) left r l (word st.class ∷ []) (tok_at x r.at ∷ []) 1 a l
  first-mark K N left l v role = then-mark z (starts K N (s ∷ left) l o.stands) o.class_is v role

  -- or a record of its own,
  start-there : st.start ≡ r.start
  start-there = y.stands.start_is ∙ ap (λ i. (tok_at x i).start) (sym o.at_is) ∙ sym o.stands.start_is

  stop-there : st.stop ≡ r.stop
  stop-there = y.stands.stop_is ∙ ap (λ i. (tok_at x i).stop) (sym o.at_is) ∙ sym o.stands.stop_is

  pub first-name : (K : ℕ) (N : ℕ → Type 0) (left : List Sym) {l l' : List ℕ} {a b : State} → Moved x r a → Put l a.out kind.Name st.start st.stop 0 0 1 l' → b ≡ reserved a → role_of K st.class ≡ asName
      → Amid x K N (s ∷ left) left r l (word st.class ∷ []) (tok_at x r.at ∷ []) 0 b l'
  first-name K N left {l} {l'} {a} {b} v put more role =
      let few : r.out ≤ countable = omega (arith, o.out_is, o.at_is, y.few, y.short, first-there) in
      let put₁ = subst (λ i. Put l a.out kind.Name i st.stop 0 0 1 l') start-there put in
      let put₂ = subst (λ i. Put l a.out kind.Name r.start i 0 0 1 l') stop-there put₁ in
      let q = child-went o.stands first-there v put₂ more few st.class (z.reads x r.at class-there first-there) in
      subst (λ i. Amid x K N (s ∷ left) left r l (word i ∷ []) (tok_at x r.at ∷ []) 0 b l') token-class
      (then-named (starts K N (s ∷ left) l o.stands) (read q) refl (ap (role_of K) token-class ∙ role))

  -- or either, as the callee of a call is.
  pub first-called : (N : ℕ → Type 0) (left : List Sym) {l l' : List ℕ} {a b : State} → Apart st.class → Moved x r a → Called st a l l' b → Begins x N (s ∷ left) left r l st.class a b l'
  unfolding reserved
  first-called N left {l} {l'} {a} {b} h v (named g put e) =
      let a₁ = v.ahead first-there in
      let a₂ : b.at ≡ a.at = ap (λ (y : State). y.at) e in
      record { m = 0; class_is = ap (λ (y : State). y.class) e; amid = first-name kind.Call N left v put e (called-role st.class g); ahead = omega arith }
  first-called N left {l} {l'} {a} {b} h v (marked g e₁ e₂) =
      let a₁ = v.ahead first-there in
      let a₂ : b.at ≡ a.at = ap (λ (y : State). y.at) e₂ in
      record {
        m = 1;
        class_is = ap (λ (y : State). y.class) e₂;
        amid = subst (λ u. Amid x kind.Call N (s ∷ left) left r l (word st.class ∷ []) (tok_at x r.at ∷ []) 1 u l') (sym e₂)
            (subst (λ u. Amid x kind.Call N (s ∷ left) left r l (word st.class ∷ []) (tok_at x r.at ∷ []) 1 a u) (sym e₁) (first-mark kind.Call N left l v (marked-role st.class g h.decimal)));
        ahead = omega arith;
      }

  -- A name whose record is written when `::` has been passed.
  pub late-name : (N : ℕ → Type 0) {B : ℕ} (rest : List Sym) {l l' : List ℕ} {a b d : State} → sort_of (ex means (nt B)) ≡ shape.flat → ((i : ℕ) → i ≡ t.DoubleColon → expand table B i ≡ some (tok t.DoubleColon ∷ rest)) → has t.identifiers st.class ≡ true
      → Moved x r a → a.class ≡ t.DoubleColon → Moved x a b → Put l b.out kind.Name st.start st.stop 0 0 1 l' → d ≡ reserved b
      → Amid x kind.EnumConstruction N (s ∷ nt B ∷ []) (rest ++ []) r l (word st.class ∷ word t.DoubleColon ∷ []) (tok_at x r.at ∷ tok_at x (reserved a).at ∷ []) 1 d l'
  late-name N {B} rest {l} {l'} {a} {b} {d} f k name v e v₂ put more =
      let put₁ = subst (λ i. Put l i kind.Name st.start st.stop 0 0 1 l') v₂.out_is put in
      let d₁ = first-name kind.EnumConstruction N (nt B ∷ []) v put₁ refl (name-role kind.EnumConstruction st.class names-kind name) in
      let cls : (reserved a).class ≡ t.DoubleColon = reserved-class a refl ∙ e in
      let d₂ = turns (tok t.DoubleColon ∷ rest) d₁ f (k (reserved a).class cls) in
      let v₃ : Moved x (reserved a) d = subst (λ u. Moved x (reserved a) u) (sym more) (reserved-moved v₂) in
      advances d₂ cls (omega arith) v₃ (sign-mark kind.EnumConstruction t.DoubleColon tt)

  -- A name, `::` and `<`, all marks.
  pub angled : (N : ℕ → Type 0) {B D : ℕ} {rest other : List Sym} (l : List ℕ) {b d : State} → Optionally B t.DoubleColon (tok t.DoubleColon ∷ nt D ∷ []) → Forked D t.LAngle (tok t.LAngle ∷ rest) other
      → role_of kind.Call st.class ≡ aMark → (g : Begun x r b) → b.class ≡ t.LAngle → Moved x b d
      → Amid x kind.Call N (s ∷ nt B ∷ []) (rest ++ []) r l (word st.class ∷ word t.DoubleColon ∷ word t.LAngle ∷ []) (tok_at x r.at ∷ tok_at x g.a.at ∷ tok_at x b.at ∷ []) 3 d l
  angled N {B} {D} {rest} l {b} p q role g e v =
      let d₁ = first-mark kind.Call N (nt B ∷ []) l g.first role in
      let d₂ = turns (tok t.DoubleColon ∷ nt D ∷ []) d₁ p.flat (p.there g.a.class g.colons) in
      let d₃ = advances d₂ g.colons (omega arith) g.second (sign-mark kind.Call t.DoubleColon tt) in
      let d₄ = turns (tok t.LAngle ∷ rest) d₃ q.flat (q.there b.class e) in
      advances d₄ e (omega arith) v (sign-mark kind.Call t.LAngle tt)

-- The function's name in `< >`.
pub then-function-name : {x : Text} {N : ℕ → Type 0} {full left : List Sym} {st : State} {l : List ℕ} {w : List Sort} {ms : List Tok} {m : ℕ} {st₁ : State} {l₁ : List ℕ} {st₂ : State} {l₂ : List ℕ} {a b : ℕ} {r : Step}
    → Amid x kind.Call N full (nt n-function_name ∷ left) st l w ms m st₁ l₁ → Parsed x (nt n-function_name ∷ []) as_items (Named (tok_at x st₁.at) kind.Name 0 0) st₁ l₁ l₂ r → r ≡ Next st₂ a b
    → Amid x kind.Call N full left st l (w ++ (word (tok_at x st₁.at).class ∷ [])) (ms ++ (tok_at x st₁.at ∷ [])) m st₂ l₂
then-function-name {x} {st₁ = st₁} d p e = then-named d p e (call-role (tok_at x st₁.at).class (function-name-class p e))

-- It is no decimal.
function-no-decimal : (c : ℕ) → has t.function_names c ≡ true → eqb c t.DecLiteral ≡ false
unfolding has
function-no-decimal c h = ne_eqb c t.DecLiteral (λ e. differ (sym (ap (has t.function_names) e) ∙ h))

pub name-no-decimal : {x : Text} {I : Info} {st : State} {l l' : List ℕ} {r : Step} {st₂ : State} {a b : ℕ} → Parsed x (nt n-function_name ∷ []) as_items I st l l' r → r ≡ Next st₂ a b → eqb (tok_at x st.at).class t.DecLiteral ≡ false
name-no-decimal {x} {st = st} p e = function-no-decimal (tok_at x st.at).class (function-name-class p e)

-- The number that a decimal's place has.
abbrev pub Valued : Text → ℕ → ℕ → Type 0
Valued x i n = n ≡ value_at x i

-- The token that was read as one of this class has it.
read-class : (x : Text) {c : ℕ} {σ : List Sym} {at j : ℕ} {u : shape.Items} → Read x (tok c ∷ σ) at u j → get_or (classes x) at 0 ≡ c
read-class x (n-tok i e k) = e

pub then-bound : {x : Text} {full left : List Sym} {st : State} {l : List ℕ} {w : List Sort} {ms : List Tok} {m : ℕ} {st₁ : State} {l₁ : List ℕ} {st₂ : State} {l₂ : List ℕ} {a b : ℕ} {r : Step}
    → Amid x kind.Call (Valued x st₁.at) full (tok t.DecLiteral ∷ left) st l w ms m st₁ l₁ → Parsed x (tok t.DecLiteral ∷ []) as_items (Decimal x st₁.at) st₁ l₁ l₂ r → r ≡ Next st₂ a b
    → Amid x kind.Call (Valued x st₁.at) full left st l (w ++ (word t.DecLiteral ∷ [])) (ms ++ (tok_at x st₁.at ∷ [])) m st₂ l₂
then-bound {x} {full} {left} {st} {l} {w} {ms} {m} {st₁} {st₂ = st₂} {l₂ = l₂} d p e =
    let c : (tok_at x st₁.at).class ≡ t.DecLiteral = sym (class-at x.ts st₁.at) ∙ read-class x (went e p).reads in
    subst (λ i. Amid x kind.Call (Valued x st₁.at) full left st l (w ++ (word i ∷ [])) (ms ++ (tok_at x st₁.at ∷ [])) m st₂ l₂) c
    (then-decimal d p e (ap (role_of kind.Call) c ∙ number-role))

-- Its place among the tokens of a fold.
fold-place : (c f : ℕ) (v : List ℕ) → eqb c t.DecLiteral ≡ false → eqb f t.DecLiteral ≡ false → place t.DecLiteral (c ∷ t.DoubleColon ∷ t.LAngle ∷ f ∷ t.Comma ∷ t.DecLiteral ∷ v) ≡ 5
fold-place c f v p q = λ i. cond (p i) 0 (suc (suc (suc (cond (q i) 0 (suc (suc 0))))))

module _ {x : Text} {K : ℕ} {N : ℕ → Type 0} {full left : List Sym} {st : State} {l : List ℕ} {c f : ℕ} {w : List Sort} {t₀ t₁ t₂ t₃ t₄ t₅ : Tok} {ms : List Tok} {m : ℕ} {st₁ : State} {l₁ : List ℕ}
    (d : Amid x K N full left st l (word c ∷ word t.DoubleColon ∷ word t.LAngle ∷ word f ∷ word t.Comma ∷ word t.DecLiteral ∷ w) (t₀ ∷ t₁ ∷ t₂ ∷ t₃ ∷ t₄ ∷ t₅ ∷ ms) m st₁ l₁) (p : eqb c t.DecLiteral ≡ false) (q : eqb f t.DecLiteral ≡ false) where
  pub fold-number : number_in x (t₀ ∷ t₁ ∷ t₂ ∷ t₃ ∷ t₄ ∷ t₅ ∷ ms) ≡ decimal_of (text_of x.draft t₅)
  fold-number = number_at d ∙ ap (λ i. decimal_of (text_of x.draft (get_or (t₀ ∷ t₁ ∷ t₂ ∷ t₃ ∷ t₄ ∷ t₅ ∷ ms) i blank_tok))) (fold-place c f (words_in w) p q)

  pub fold-first : (is : Items) → sorts is ≡ word c ∷ word t.DoubleColon ∷ word t.LAngle ∷ word f ∷ word t.Comma ∷ word t.DecLiteral ∷ w → marks is ≡ t₀ ∷ t₁ ∷ t₂ ∷ t₃ ∷ t₄ ∷ t₅ ∷ ms → first_of t.DecLiteral (marks is) ≡ t₅
  fold-first is e g = first-is is e g ∙ ap (λ i. get_or (t₀ ∷ t₁ ∷ t₂ ∷ t₃ ∷ t₄ ∷ t₅ ∷ ms) i blank_tok) (fold-place c f (words_in w) p q)

-- The state behind a name and `::`, from the reserved one.
pub moved-from : {x : Text} {r s a : State} → r ≡ s → Moved x r a → Moved x s a
moved-from {x} {a = a} e v = subst (λ u. Moved x u a) e v

pub begun : {x : Text} {r s a b : State} → r ≡ s → Moved x r a → a.class ≡ t.DoubleColon → Moved x a b → Begun x s b
begun {a = a} e v c v₂ = record { a = a; first = moved-from e v; colons = c; second = v₂ }

-- A path: its names,
pub path-starts : {x : Text} {st : State} (l : List ℕ) → Ready x st → Amid x kind.EnumConstruction AnyN (nt n-path ∷ []) (nt n-identifier ∷ nt n-path-many-DoubleColon ∷ nt n-path-optional ∷ []) st l [] [] 0 st l
path-starts {x} {st} l y = turns (nt n-identifier ∷ nt n-path-many-DoubleColon ∷ nt n-path-optional ∷ []) (starts kind.EnumConstruction AnyN (nt n-path ∷ []) l y.stands) flat-path (path-row st.class)

module _ {x : Text} {st : State} {l : List ℕ} {a : ℕ} {st₁ : State} {l₁ : List ℕ} (n : Told x kind.EnumConstruction AnyN (nt n-path ∷ []) (nt n-path-optional ∷ []) st l [] [] 0 (NamePieces a) st₁ l₁) where
  names-angle : sees t.LAngle n.W ≡ false
  names-angle = n.so.others t.LAngle no-angle-name (λ e. omega arith)

  -- and nothing more,
  pub path-ends : (st₁.class ≡ t.LParen → ⊥) → Went x (nt n-path ∷ []) as_items Path st l st₁ l₁ a 0
  path-ends h =
      let d = turns [] n.amid path-optional.flat (path-optional.elsewhere st₁.class h) in
      finish d (record { roles = λ i. d.roles i tt; count_is = ap name_count d.sorted ∙ n.so.count_is; bounded = n.so.bounded; angles = ap (sees t.LAngle) d.sorted ∙ names-angle })

  -- or arguments.
  pub path-into : st₁.class ≡ t.LParen → Amid x kind.EnumConstruction AnyN (nt n-path ∷ []) (nt n-arguments ∷ []) st l n.W n.more n.k st₁ l₁
  path-into h = shifted (turns (nt n-arguments ∷ []) n.amid path-optional.flat (path-optional.there st₁.class h))
    where
      shifted : Amid x kind.EnumConstruction AnyN (nt n-path ∷ []) (nt n-arguments ∷ []) st l n.W n.more (0 + n.k) st₁ l₁ → Amid x kind.EnumConstruction AnyN (nt n-path ∷ []) (nt n-arguments ∷ []) st l n.W n.more n.k st₁ l₁
      shifted d = let e : 0 + n.k ≡ n.k = omega arith in subst (λ i. Amid x kind.EnumConstruction AnyN (nt n-path ∷ []) (nt n-arguments ∷ []) st l n.W n.more i st₁ l₁) e d

  pub path-called : {u : ℕ} {st₂ : State} {l₂ : List ℕ} → Argued x kind.EnumConstruction AnyN (nt n-path ∷ []) [] st l n.W n.more n.k u st₂ l₂ → Went x (nt n-path ∷ []) as_items Path st l st₂ l₂ a 0
  path-called g =
      let d = g.amid in
      finish d (record {
        roles = λ i. d.roles i tt;
        count_is = ap name_count d.sorted ∙ name_count-append n.W (word t.LParen ∷ (g.W ++ (word t.RParen ∷ []))) ∙ counted;
        bounded = n.so.bounded;
        angles = ap (sees t.LAngle) d.sorted ∙ sees-append t.LAngle n.W (word t.LParen ∷ (g.W ++ (word t.RParen ∷ []))) ∙ ap₂ (λ (p q : Bool). p || q) names-angle (args-angle g.W g.commas);
      })
    where
      counted : name_count n.W + name_count (word t.LParen ∷ (g.W ++ (word t.RParen ∷ []))) ≡ a
      counted = omega (arith, n.so.count_is, args_count g.W g.commas)

-- Arguments before whose records that of a name is put: as if the name had been there before.
module _ {x : Text} {a b z : State} {l l₁ l₃ l₄ : List ℕ} {u v s e : ℕ} (y : Near x a) (q : Went x (nt n-arguments ∷ []) as_items Args a l b l₁ u v) (put : Put l₁ b.out kind.Name s e 0 0 1 l₃) (more : z ≡ reserved b) (turn : Turned l₃ a.out b.out z.out l₄) where
  abbrev pub name : List ℕ
  name = rec_then kind.Name s e 0 0 1 []

  abbrev pub before : List ℕ
  before = sets l (rec_wide * a.out) name

  pub put-before : Put l a.out kind.Name s e 0 0 1 before
  put-before = record { long = length-sets l (rec_wide * a.out) name; put = λ n h. refl }

  words : List ℕ
  words = concat (word_groups q.L)

  pub behind : Went x (nt n-arguments ∷ []) as_items Args (reserved a) before z l₄ u v
  unfolding reserved words has
  behind =
      let lay = q.lays in
      let few = lay.few in
      let sized = lay.sized in
      let ends = lay.ends in
      let long = lay.long in
      let within = lay.stands.within in
      let short = y.short in
      let near = y.few in
      let o : z.out ≡ (b.out + 1) % u32_count = ap (λ (w : State). w.out) more in
      let t : z.at ≡ b.at = ap (λ (w : State). w.at) more in
      let k : kept z ≡ kept b = ap (λ (w : State). fault w.fault) more in
      let o₁ : z.out ≡ b.out + 1 = omega arith in
      let o₂ : (a.out + 1) % u32_count ≡ a.out + 1 = omega arith in
      let n : length before ≡ length l = length-sets l (rec_wide * a.out) name in
      let size : length words ≡ rec_wide * sizes q.L = length-words q.L in
      let n₁ = put.long in
      record {
        items = q.items;
        L = q.L;
        m = q.m;
        reads = subst (λ j. Read x (nt n-arguments ∷ []) a.at q.items j) (sym t) q.reads;
        lays = record {
          ends = omega arith;
          sized = omega arith;
          few = omega arith;
          long = turn.long ∙ put.long ∙ lay.long ∙ sym n;
          laid = λ v h.
              let l₁-is = lay.laid v (omega arith) in
              let l₃-is = put.put (λ w. absurd w) (omega arith) in
              let both : l₃ ≡ sets l (rec_wide * a.out) (words ++ name) = sets-next l words name (rec_wide * a.out) (rec_wide * b.out) l₁-is l₃-is (omega arith) in
              let g : rec_wide * z.out ≤ length l₃ = omega arith in
              let g₁ : length l ≡ length l₃ = sym (put.long ∙ lay.long) in
              let g₂ : rec_wide * a.out + length words ≡ rec_wide * b.out = omega arith in
              let g₃ : rec_wide * b.out + rec_wide ≡ rec_wide * z.out = omega arith in
              let g₄ : rec_wide * a.out + rec_wide ≡ rec_wide * ((a.out + 1) % u32_count) = omega arith in
              turn.turn l words name g g₁ both g₂ g₃ ∙ sets-append name words l (rec_wide * a.out) ∙ ap (λ i. sets before i words) g₄;
          worst = k ∙ lay.worst;
          stands = subst (Stands x) (sym more) (reserved-stands lay.stands);
        };
        info = q.info;
      }

pub went-args : {x : Text} {σ : List Sym} {I : Info} {st : State} {l l' : List ℕ} {r : Step} {st₂ : State} {a b : ℕ} → Parsed x σ as_items I st l l' r → r ≡ Next st₂ a b → Went x σ as_items I st l st₂ l' a b
went-args p e = went e p
