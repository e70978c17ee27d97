-- What the functions of the parser require and ensure: they are proved against the relations `Reads` and `Sticks` over grammar's table,
-- and against the records and refusals that grammar gives to what was read.
-- Assumes nothing: these are definitions.
use Rattle.std.specs.Prelude.{◌≡◌, ℕ, suc, ◌+◌, ◌*◌, ◌/◌, ◌%◌, ◌<◌, ◌≤◌, Bool, true, false, not, cond, T, List, [], ◌∷◌, ◌++◌, length, map, get_or, drop, ◌==◌, ◌≢◌, nat_lt, slice_index, slice_index_or}
use Rattle.std.specs.Prelude as std
use Rattle.std.specs.Prelude.{Some, None}
use Rattle.std.proofs.Math.Option.{Option, none, some}
use Rattle.std.proofs.lemmas.List.Edits.{sets}
use Rattle.num.specs.Value.{Value, decimal_of}
use Rattle.num.specs.Bound.{bound_ok, size_ok, length_ok}
use Rattle.theory.specs.Grammar.{Sym, nt}
use Rattle.theory.specs.Machine.{choose}
use Rattle.theory.specs.Ebnf as shape
use Rattle.theory.specs.Walk.{Reads, Sticks}
use Rattle.own.specs.Tree as own
use Rattle.own.specs.Tree.{Tok, Items, Each, concat, classes_of}
use Rattle.own.specs.Flat.{blank_tok}
use Rattle.own.specs.Law.{Sort, word, child, sorts}
use Rattle.text.specs.Widths.{rec_wide}
use Rattle.text.specs.Refusals.{refusal_number}
use Rattle.text.specs.declared.refusal.Refusal.{Refusal}
use Rattle.text.specs.declared.refusal.Refusal.TheVariants as refusal
use Rattle.text.specs.Lists.{has}
use Rattle.own.specs.Words.{rec_then, sizes, word_groups}
use Rattle.own.specs.Kinds as kind
use Rattle.kinds.specs.Shape.{half_range}
use Rattle.kinds.specs.Fields.{counted, halves}
use Rattle.kinds.specs.Families as family
use Rattle.kinds.specs.Rules.{wrappers}
use Rattle.own.specs.Numbers.{kind_number}
use Rattle.own.specs.declared.kind.Kind.{Kind}
use Rattle.lexer.specs.Classes as t
use Rattle.lexer.specs.Lexemes.{Token}
use Rattle.lexer.specs.Limits.{large_limits}
use Rattle.lexer.specs.Starts.{tokens_at}
use Rattle.grammar.specs.Shapes.Shapes.{shapes}
use Rattle.grammar.specs.Shapes.Tables.{means, table}
use Rattle.grammar.specs.Shapes.TablesIndex.{n-arm, n-head, n-identifier, n-function_name, n-alias_name}
use Rattle.grammar.specs.Records.Records.{low_half, high_half, sees, name_count, wrapper_head, arranged, text_of, record_items}
use Rattle.grammar.specs.Records.Faults.{Fault, earlier, earliest, faults}
use Rattle.grammar.specs.Answers.Answer.{toks_of}
use Rattle.parse.specs.declared.State.{State}
use Rattle.parse.specs.declared.fault.Fault as code
use Rattle.parse.specs.declared.token.Lexeme.{Lexeme}
use Rattle.parse.specs.declared.token.Source.{Source}
use Rattle.parse.specs.declared.token.Brackets.{Brackets}
use Rattle.parse.specs.declared.token.Brackets.TheVariants as brackets
use Rattle.parse.specs.declared.Step.{Step}
use Rattle.parse.specs.declared.names.NameSort.{NameSort}
use Rattle.parse.specs.declared.names.NameSort.TheVariants as name
use Rattle.parse.specs.declared.Step.TheVariants.{Next, Refused}
use Rattle.parse.specs.Choice as choice

-- So many numbers a u32 has.
abbrev pub u32_count : ℕ
u32_count = half_range

-- No more tokens than the library may read: then neither their number nor that of the records' words leaves a u32.
abbrev pub countable : ℕ
countable = large_limits.tokens

-- What is read: a draft and its tokens.
pub record Text : Type 0 where
  pub draft : List ℕ
  pub ts : List Tok

-- How many tokens a source has,
abbrev pub count_of : Source → ℕ
count_of s = s.count

-- the token that three words say,
abbrev pub row_token : List ℕ → Token
row_token v = record { kind = get_or v 0 0; start = get_or v 1 0; end = get_or v 2 0 }

-- those of a source: of its rows, and then those found again at its starts,
abbrev pub source_tokens : Source → List Token
source_tokens s = map row_token s.rows.now ++ tokens_at s.draft.now s.starts.now

-- and the draft with those.
unfoldable pub text : Source → Text
text s = record { draft = s.draft.now; ts = toks_of s.draft.now (source_tokens s) }

abbrev pub classes : Text → List ℕ
classes x = classes_of x.ts

abbrev pub tok_at : Text → ℕ → Tok
tok_at x i = slice_index_or x.ts i blank_tok

-- The two relations of theory's Walk over grammar's table.
abbrev pub Read : Text → List Sym → ℕ → shape.Items → ℕ → Type 0
Read x = Reads shapes means table (classes x)

abbrev pub Stuck : Text → List Sym → ℕ → ℕ → Type 0
Stuck x = Sticks shapes means table (classes x)

-- The records of shapes that begin at a token, before any token of theirs becomes a record of its own.
unfoldable pub raw : Text → ℕ → shape.Items → Items
raw x at r = record_items x.draft r (drop at x.ts)

-- The earliest refusal of a shape in shapes that begin at a token.
unfoldable pub fault_in : Text → ℕ → shape.Items → Option Fault
fault_in x at r = earliest (faults x.draft r (drop at x.ts))

-- Of two refusals the earlier, if there is one.
abbrev pub sooner : Option Fault → Option Fault → Option Fault
sooner none g = g
sooner (some f) g = earlier f g

-- A refusal of the code, if there is one, at a place,
unfoldable pub fault_at : std.Option Refusal → ℕ → Option Fault
fault_at None p = none
fault_at (Some r) p = some (record { number = refusal_number r; place = p })

-- and with its place.
unfoldable pub fault : std.Option code.Fault → Option Fault
fault None = none
fault (Some f) = some (record { number = refusal_number f.refusal; place = f.place })

abbrev pub kept : State → Option Fault
kept st = fault st.fault

-- The state is at its token: class, start and end are those of the token, `end` that of the token before.
pub record Stands (x : Text) (st : State) : Type 0 where
  pub within : st.at ≤ length x.ts
  pub class_is : st.class ≡ slice_index (classes x) st.at
  pub start_is : st.start ≡ (tok_at x st.at).start
  pub stop_is : st.stop ≡ (tok_at x st.at).stop
  pub end_is : (p : ℕ) → st.at ≡ suc p → st.end ≡ (tok_at x p).stop

-- A state to parse from: as many records at most as tokens were passed, and few enough to be counted.
pub record Ready (x : Text) (st : State) : Type 0 where
  pub stands : Stands x st
  pub short : length x.ts ≤ countable
  pub few : st.out ≤ st.at

-- A state where a record has just been reserved: there may be one record more than tokens were passed.
pub record Near (x : Text) (st : State) : Type 0 where
  pub stands : Stands x st
  pub short : length x.ts ≤ countable
  pub few : st.out ≤ st.at + 1

-- The state at the next token.
pub record Moved (x : Text) (st st' : State) : Type 0 where
  pub ahead : st.at < length x.ts → st'.at ≡ st.at + 1
  pub class_is : st'.class ≡ slice_index (classes x) st'.at
  pub start_is : st'.start ≡ (tok_at x st'.at).start
  pub stop_is : st'.stop ≡ (tok_at x st'.at).stop
  pub end_is : st'.end ≡ st.stop
  pub out_is : st'.out ≡ st.out
  pub kept_is : kept st' ≡ kept st

-- What `eat` answers.
pub data Eaten (x : Text) (st : State) (c : ℕ) : Step → Type 0 where
  ate : {st' : State} → st.class ≡ c → Moved x st st' → Eaten x st c (Next st' 0 0)
  lacked : (st.class ≢ c) → Eaten x st c (Refused st.at)

-- The kinds of records that hold a number, those with fields `wide` or `bounded` in the kinds table.
abbrev pub number_kinds : List ℕ
number_kinds = kind.ArrayType ∷ kind.ListType ∷ kind.Number ∷ []

-- Low and high of such a kind are two halves of 32 bits.
abbrev pub Halved : ℕ → ℕ → ℕ → Type 0
Halved k low high = T (has number_kinds k) → T (halves low high)

abbrev pub Holds : own.Node → Type 0
Holds n = Halved n.kind n.low n.high

-- The record `here` is written where it fits: the buffer has room for it, and it for its number, if its kind holds one.
pub record Put (l : List ℕ) (here k b e low high z : ℕ) (l' : List ℕ) : Type 0 where
  pub long : length l' ≡ length l
  pub put : Halved k low high → rec_wide * here + rec_wide ≤ length l → l' ≡ sets l (rec_wide * here) (rec_then k b e low high z [])

-- The same of a record that holds the number v; if that is too large nothing is written.
pub data PutNumber (l : List ℕ) (here k b e : ℕ) (v : Value) (z : ℕ) (l' : List ℕ) : Type 0 where
  written : {n : ℕ} → v ≡ Some n → Put l here k b e (low_half n) (high_half n) z l' → PutNumber l here k b e v z l'
  unwritten : v ≡ None → l' ≡ l → PutNumber l here k b e v z l'

-- The records from `from` to `mid`, u, and those up to `to`, v, are exchanged where they fit.
pub record Turned (l : List ℕ) (from mid to : ℕ) (l' : List ℕ) : Type 0 where
  pub long : length l' ≡ length l
  pub turn : (l₀ u v : List ℕ) → rec_wide * to ≤ length l → length l₀ ≡ length l → l ≡ sets l₀ (rec_wide * from) (u ++ v)
      → rec_wide * from + length u ≡ rec_wide * mid → rec_wide * mid + length v ≡ rec_wide * to → l' ≡ sets l₀ (rec_wide * from) (v ++ u)

-- From st and the buffer l to st' and l': as many tokens were passed as r has; the records of L stand behind those before, where there is
-- room for them, and in them for their numbers; m tokens belong to no record yet; and the earliest refusal is kept.
pub record Laid (x : Text) (st : State) (l : List ℕ) (r : shape.Items) (L : Items) (m : ℕ) (st' : State) (l' : List ℕ) : Type 0 where
  pub ends : st'.at ≡ st.at + length (shape.yield r)
  pub sized : st'.out ≡ st.out + sizes L
  pub few : st'.out + st.at + m ≤ st.out + st'.at
  pub long : length l' ≡ length l
  pub laid : Each Holds L → rec_wide * st'.out ≤ length l → l' ≡ sets l (rec_wide * st.out) (concat (word_groups L))
  pub worst : kept st' ≡ sooner (kept st) (fault_in x st.at r)
  pub stands : Stands x st'

-- What an answer says besides: of the records before and after tokens became records, the tokens that belong to none, and its two numbers.
abbrev pub Info : Type 1
Info = Items → Items → ℕ → ℕ → ℕ → Type 0

-- What was read as items is laid as `wrap` of them: as they are, or as one node.
abbrev pub as_items : shape.Items → shape.Items
as_items r = r

abbrev pub as_node : ℕ → shape.Items → shape.Items
as_node k r = shape.sub k r shape.nil

-- The symbols σ were read.
pub record Went (x : Text) (σ : List Sym) (wrap : shape.Items → shape.Items) (I : Info) (st : State) (l : List ℕ) (st' : State) (l' : List ℕ) (a b : ℕ) : Type 0 where
  pub items : shape.Items
  pub L : Items
  pub m : ℕ
  pub reads : Read x σ st.at items st'.at
  pub lays : Laid x st l (wrap items) L m st' l'
  pub info : I (raw x st.at (wrap items)) L m a b

-- The symbols σ were read, or whatever comes after them the parser is stuck at p.
pub data Parsed (x : Text) (σ : List Sym) (wrap : shape.Items → shape.Items) (I : Info) (st : State) (l l' : List ℕ) : Step → Type 0 where
  read : {st' : State} {a b : ℕ} → Went x σ wrap I st l st' l' a b → Parsed x σ wrap I st l l' (Next st' a b)
  stuck : {p : ℕ} → p ≤ length x.ts → ((τ : List Sym) → Stuck x (σ ++ τ) st.at p) → Parsed x σ wrap I st l l' (Refused p)

-- The state with a record more.
unfoldable pub reserved : State → State
reserved st =
    record { at = st.at; class = st.class; start = st.start; stop = st.stop; end = st.end; out = (st.out + 1) % u32_count; fault = st.fault }

-- The state without a refusal.
unfoldable pub cleaned : State → State
cleaned st = record { at = st.at; class = st.class; start = st.start; stop = st.stop; end = st.end; out = st.out; fault = None }

-- One token that is no record of its own,
pub record Mark (t : Tok) (J L : Items) (m a b : ℕ) : Type 0 where
  pub raw_is : J ≡ own.mark t own.none
  pub laid_is : L ≡ own.mark t own.none
  pub one : m ≡ 1

-- one that is a record of this kind, low and high,
pub record Named (t : Tok) (kind low high : ℕ) (J L : Items) (m a b : ℕ) : Type 0 where
  pub raw_is : J ≡ own.mark t own.none
  pub laid_is : L ≡ own.sub kind low high (own.mark t own.none) own.none
  pub none_left : m ≡ 0

-- and one node of a kind that fulfils P.
pub record Node (P : ℕ → Type 0) (J L : Items) (m a b : ℕ) : Type 0 where
  pub kind : ℕ
  pub low : ℕ
  pub high : ℕ
  pub js : Items
  pub raw_is : J ≡ own.sub kind low high js own.none
  pub laid_is : L ≡ own.sub kind low high js own.none
  pub none_left : m ≡ 0
  pub its_kind : P kind

-- The token that the accessor gives.
pub record Gives (r : Lexeme) (t : Tok) : Type 0 where
  pub class_is : r.class ≡ t.class
  pub start_is : r.start ≡ t.start
  pub stop_is : r.stop ≡ t.stop

-- The number of the next token; past the last one it stays.
unfoldable pub next : ℕ → ℕ → ℕ
next at n = cond (nat_lt at n) (at + 1) at

-- The inner state with the earliest refusal: that of the outer state, this one, that of the inner state.
pub record Judged (outer inner : State) (own : Option Fault) (r : State) : Type 0 where
  pub at_is : r.at ≡ inner.at
  pub class_is : r.class ≡ inner.class
  pub start_is : r.start ≡ inner.start
  pub stop_is : r.stop ≡ inner.stop
  pub end_is : r.end ≡ inner.end
  pub out_is : r.out ≡ inner.out
  pub kept_is : kept r ≡ sooner (kept outer) (sooner own (kept inner))

-- The refusal of a bound, of a size and of a length, if there is one.
unfoldable pub bound_fault : Value → std.Option Refusal
bound_fault v = cond (bound_ok v) None (Some refusal.Bound)

unfoldable pub size_fault : Value → std.Option Refusal
size_fault v = cond (size_ok v) None (Some refusal.Size)

unfoldable pub length_fault : Value → std.Option Refusal
length_fault v = cond (length_ok v) None (Some refusal.Length)

-- The entry of a class in a table of alternatives: one of its list, then what all names of types lead to, and 0 past the classes.
unfoldable pub entry_in : List ℕ → ℕ → ℕ → ℕ
entry_in l c named = cond (nat_lt c t.bool) (slice_index l c) (cond (nat_lt c (t.last + 1)) named 0)

-- The sort of a name, one that a function may have or a reserved one, and 0 for any other token.
unfoldable pub name_sort : ℕ → ℕ
name_sort c = cond (has t.function_names c) choice.FunctionName (cond (has t.identifiers c) choice.ReservedName 0)

-- The nonterminal of each name that is a record of its own,
abbrev pub name_nt : NameSort → ℕ
name_nt name.Identifier = n-identifier
name_nt name.Function = n-function_name
name_nt name.Alias = n-alias_name

-- and whether a token of a class is one.
abbrev pub is_name : NameSort → ℕ → Bool
is_name name.Identifier c = not (name_sort c == 0)
is_name name.Function c = name_sort c == choice.FunctionName
is_name name.Alias c = not (choose table n-alias_name c == 0)

-- The alternative of an arm's head, or 0 where no arm begins.
unfoldable pub head_sort : ℕ → ℕ
head_sort c = cond (choose table n-arm c == 0) 0 (choose table n-head c)

-- The kind of a wrapper, none for any other class.
abbrev pub Wraps : ℕ → std.Option Kind → Type 0
Wraps c None = has wrappers c ≡ false
Wraps c (Some k) = (has wrappers c ≡ true) × (kind_number k ≡ (wrapper_head c).kind)

-- The classes of a call's name that is a record: "a jet's token or a function name".
abbrev pub callees : List ℕ
callees = t.Jet ∷ t.function_names

-- The name of a call: a record where it is a jet's token or a function's name, otherwise nothing is written.
pub data Called (st a : State) (l l' : List ℕ) (r : State) : Type 0 where
  named : has callees st.class ≡ true → Put l a.out kind.Name st.start st.stop 0 0 1 l' → r ≡ reserved a → Called st a l l' r
  marked : has callees st.class ≡ false → l' ≡ l → r ≡ a → Called st a l l' r

-- The number of the decimal at a place, of any size.
abbrev pub value_at : Text → ℕ → ℕ
value_at x at = decimal_of (text_of x.draft (tok_at x at))

-- A decimal that is a record of its own.
abbrev pub Decimal : Text → ℕ → Info
Decimal x at = Named (tok_at x at) kind.Number (low_half (value_at x at)) (high_half (value_at x at))

-- Names joined by `::`, each a record where every name of the record above is one, and how many.
pub record Names (J L : Items) (m a b : ℕ) : Type 0 where
  pub count_is : name_count (sorts J) ≡ a
  pub bounded : a ≤ countable
  pub roles : (K n : ℕ) → has family.names_kept K ≡ true → arranged K n J ≡ L
  pub others : (c : ℕ) → has t.identifiers c ≡ false → (c ≢ t.DoubleColon) → sees c (sorts J) ≡ false
  pub no_parts : (ks : List ℕ) → counted ks (sorts J) ≡ 0

-- Kinds of nodes: types, patterns, expressions.
abbrev pub TypeKind : ℕ → Type 0
TypeKind k = (kind.Alias ≤ k) × (k ≤ kind.ListType)

abbrev pub PatternKind : ℕ → Type 0
PatternKind k = (kind.IdentifierPattern ≤ k) × (k ≤ kind.ArrayPattern)

abbrev pub ExprKind : ℕ → Type 0
ExprKind k = (kind.Block ≤ k) × (k ≤ kind.Call) × (k ≢ kind.BuiltinArm) × (k ≢ kind.EnumArm)

-- Every token among the pieces is of the class c.
abbrev pub Only : ℕ → List Sort → Type 0
Only c [] = Unit {0}
Only c (word d ∷ w) = (d ≡ c) × Only c w
Only c (child k l h d ∷ w) = Only c w

-- The class that opens brackets,
abbrev pub opening_class : Brackets → ℕ
opening_class brackets.Round = t.LParen
opening_class brackets.Square = t.LBracket

-- the one that closes them,
abbrev pub closing_class : Brackets → ℕ
closing_class brackets.Round = t.RParen
closing_class brackets.Square = t.RBracket

-- the alternative of a pattern in them, and its kind;
abbrev pub pattern_choice : Brackets → ℕ
pattern_choice brackets.Round = choice.TuplePattern
pattern_choice brackets.Square = choice.ArrayPattern

abbrev pub pattern_kind : Brackets → ℕ
pattern_kind brackets.Round = kind.TuplePattern
pattern_kind brackets.Square = kind.ArrayPattern

-- and those of an expression in them: parentheses make no tuple of one expression without a comma, where the number is 1.
abbrev pub single_choice : Brackets → ℕ
single_choice brackets.Round = choice.Parens
single_choice brackets.Square = choice.Array

abbrev pub single_kind : Brackets → ℕ → ℕ
single_kind brackets.Round a = cond (a == 1) kind.Parenthesised kind.Tuple
single_kind brackets.Square a = kind.Array

-- Parts with commas between them.
pub record Commas (J L : Items) (m a b : ℕ) : Type 0 where
  pub same : L ≡ J
  pub commas : Only t.Comma (sorts J)

-- What a function says of a nonterminal: of what is read, the state from which it parses, and the tree buffer before and after.
abbrev pub Parses : ℕ → Info → Text → State → List ℕ → List ℕ → Step → Type 0
Parses A I x st l l' r = Parsed x (nt A ∷ []) as_items I st l l' r

-- The name at a token, as a record of its own.
abbrev pub NameAt : Text → ℕ → Info
NameAt x at = Named (tok_at x at) kind.Name 0 0
