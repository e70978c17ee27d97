-- Drafts and their records, from the text to the six numbers of each record, by computation: one of each kind of type, pattern, call, expression and
-- match. The drafts that the paper marks ● stand in Cases/Known.antt.
-- Assumes nothing.
use Rattle.std.specs.Prelude.{List, [], ◌∷◌, map, ◌≡◌, refl, ℕ, drop}
use Rattle.std.proofs.Math.Option.{Option, none, some}
use Prim.Native.String.{String}
use Rattle.kinds.specs.Class as kinds
use Rattle.lexer.specs.Limits.{tokens_of}
use Rattle.grammar.specs.Answers.Answer.{toks_of}
use Rattle.text.specs.Ascii.{ascii, ascii_from}
use Rattle.text.specs.Part.{part_of}
use Rattle.text.specs.Same.{same}
use Rattle.text.specs.Lists.{has, count, span}
use Rattle.utf8.specs.Utf8.{utf8_char, fits, sequence, bad_from, bad_at}
use Rattle.words.specs.Words.{KEYWORDS, MACROS, MODULE_RESERVED, RULE_WORDS, RULE_NAMES, FUNCTION_RESERVED, BOOLEANS, BOOL, UINT_TYPES, BUILTIN_ALIASES, TYPE_NAMES, find, word_of}
use Rattle.num.specs.Digits as digits
use Rattle.num.specs.Value.{decimal_from, decimal_of, fitted}
use Rattle.num.specs.Bound.{bound_ok, size_ok, length_ok, is_bound}
use Rattle.lexer.specs.Chars.{among, whitespace, line_ends, binary_digits, decimal_digits, hex_digits, underscore, name_starts, name_bytes, run, begins}
use Rattle.lexer.specs.Lexemes as lex
use Rattle.lexer.specs.Lexemes.{lexemes}
use Rattle.lexer.specs.Class.{class_of}
use Rattle.theory.specs.Grammar.{look, row, alt, pick}
use Rattle.theory.specs.Machine.{choose}
use Rattle.theory.specs.Ebnf as shape
use Rattle.theory.specs.Same.{ex}
use Rattle.theory.specs.Exec.{then_word, then_rest, then_sub, exec}
use Rattle.theory.specs.Fuel.{saves, need}
use Rattle.theory.specs.Parse.{Found, found, stuck, judge, parse}
use Rattle.own.specs.Tree.{Tok, partner, canonical, turned, Rec, records, classes_of}
use Rattle.own.specs.Kinds as kind
use Rattle.own.specs.Arms as arm
use Rattle.own.specs.Calls as call
use Rattle.kinds.specs.Fields.{counted}
use Rattle.grammar.specs.Shapes.Shapes.{shapes}
use Rattle.grammar.specs.Shapes.Tables.{table, means}
use Rattle.grammar.specs.Entry.{single_function}
use Rattle.grammar.specs.Shapes.WellShaped.{shape_of}
use Rattle.grammar.specs.Records.Records.{low_half, high_half, sees, opening, name_count, part_count, lone, unended, place_in, type_name_head, pattern_name_head}
use Rattle.grammar.specs.Records.Records.{literal_head, function_head, call_head, wrapper_head, called_head, alone_head, name_head, arm_head, head_of, form_of, role_of, placed, arranged}
use Rattle.grammar.specs.Records.Records.{text_of, first_tok, first_of, decimal, head_for, recorded, record_items, record_trees}
use Rattle.grammar.specs.Records.Faults.{Fault, unless, arm_lows, mates, arms_fault, faults_at, faults, earlier, earliest, fault_of}

-- The numbers of a record, and those other than its place.
abbrev pub line : Rec → List ℕ
line r = r.kind ∷ r.start ∷ r.stop ∷ r.low ∷ r.high ∷ r.size ∷ []

abbrev pub short : Rec → List ℕ
short r = r.kind ∷ r.low ∷ r.high ∷ r.size ∷ []

-- The lines of the records, or the refusal of a shape and its place.
unfoldable pub judged : (Rec → List ℕ) → Option Fault → List Rec → List (List ℕ)
judged show (some f) rs = (f.number ∷ f.place ∷ []) ∷ []
judged show none rs = map show rs

unfoldable pub handed : (Rec → List ℕ) → List ℕ → List Tok → Found → List (List ℕ)
handed show draft ts (found r) = judged show (fault_of draft ts r) (records (record_trees draft ts r))
handed show draft ts (stuck p) = []

-- The records of a draft; it opens all that it computes with.
unfoldable pub records_of : (Rec → List ℕ) → String → List (List ℕ)
unfolding toks_of classes_of kinds.class_of judged handed ascii ascii_from part_of same KEYWORDS MACROS MODULE_RESERVED RULE_WORDS RULE_NAMES FUNCTION_RESERVED
    BOOLEANS TYPE_NAMES BOOL UINT_TYPES BUILTIN_ALIASES find word_of digits.plain decimal_from decimal_of fitted is_bound bound_ok size_ok length_ok among whitespace line_ends
    binary_digits decimal_digits hex_digits underscore name_starts name_bytes run begins utf8_char fits sequence bad_from bad_at lex.space lex.comment lex.line_comment lex.inside
    lex.closing lex.block_comment lex.name_length lex.qualified lex.macro lex.word lex.digits lex.hexadecimal lex.binary lex.decimal lex.marks
    lex.mark lex.no_lexeme lex.lexeme lex.lexemes_from lexemes class_of look row alt pick choose shape.kinds_of shape.sort_of shape.yield ex then_word
    then_rest then_sub exec saves need judge parse partner canonical turned has count span counted shapes table means shape_of low_half high_half
    sees opening name_count part_count lone unended place_in type_name_head pattern_name_head literal_head function_head call_head
    wrapper_head called_head alone_head name_head arm_head head_of form_of role_of placed arranged text_of first_tok first_of decimal head_for recorded
    record_items record_trees unless arm_lows mates arms_fault faults_at faults earlier earliest fault_of
records_of show text =
    let draft = ascii text in
    let ts = toks_of draft (tokens_of (lexemes draft)) in
    handed show draft ts (shape_of single_function (classes_of ts))

-- The same numbers of the drafts that follow, without places.
abbrev pub made : String → List (List ℕ)
made text = records_of short text

-- Those of a record that has nothing beneath it, low and high 0.
abbrev pub leaf : ℕ → List ℕ
leaf k = k ∷ 0 ∷ 0 ∷ 1 ∷ []

-- A function that is public, with two parameters and a result type: its eleven records with their places.
pub a-function : records_of line "pub fn g(a:u8,b:Pubkey,)->bool{a}"
    ≡ (kind.Function ∷ 0 ∷ 33 ∷ 3 ∷ 2 ∷ 11 ∷ [])
    ∷ (kind.Name ∷ 7 ∷ 8 ∷ 0 ∷ 0 ∷ 1 ∷ [])
    ∷ (kind.Parameter ∷ 9 ∷ 13 ∷ 0 ∷ 0 ∷ 3 ∷ [])
    ∷ (kind.Name ∷ 9 ∷ 10 ∷ 0 ∷ 0 ∷ 1 ∷ [])
    ∷ (kind.Unsigned ∷ 11 ∷ 13 ∷ 8 ∷ 0 ∷ 1 ∷ [])
    ∷ (kind.Parameter ∷ 14 ∷ 22 ∷ 0 ∷ 0 ∷ 3 ∷ [])
    ∷ (kind.Name ∷ 14 ∷ 15 ∷ 0 ∷ 0 ∷ 1 ∷ [])
    ∷ (kind.Builtin ∷ 16 ∷ 22 ∷ 1 ∷ 0 ∷ 1 ∷ [])
    ∷ (kind.BoolType ∷ 26 ∷ 30 ∷ 0 ∷ 0 ∷ 1 ∷ [])
    ∷ (kind.Block ∷ 30 ∷ 33 ∷ 1 ∷ 0 ∷ 2 ∷ [])
    ∷ (kind.Variable ∷ 31 ∷ 32 ∷ 0 ∷ 0 ∷ 1 ∷ [])
    ∷ []
unfolding records_of
a-function = refl

-- Types of each kind, in `let _:T=1;`: from the type on, with the 1.
pub types : map (λ text. drop 5 (made text)) ("fn f(){let _:Either<A,_>=1;}"
    ∷ "fn f(){let _:Option<bool>=1;}"
    ∷ "fn f(){let _:List<u256,4>=1;}"
    ∷ "fn f(){let _:List<u1,9223372036854775808>=1;}"
    ∷ "fn f(){let _:[Nonce;18446744073709551615]=1;}"
    ∷ "fn f(){let _:[Nonce;00]=1;}"
    ∷ "fn f(){let _:[TokenAmount1;4294967297]=1;}"
    ∷ "fn f(){let _:()=1;}"
    ∷ "fn f(){let _:(u3,)=1;}"
    ∷ "fn f(){let _:Either=1;}"
    ∷ "fn f(){let _:fold=1;}"
    ∷ "fn f(){let _:Ctx8=1;}" ∷ [])
    ≡ ((kind.EitherType ∷ 0 ∷ 0 ∷ 3 ∷ []) ∷ leaf kind.Alias ∷ leaf kind.Alias ∷ leaf kind.Decimal ∷ [])
    ∷ ((kind.OptionType ∷ 0 ∷ 0 ∷ 2 ∷ []) ∷ leaf kind.BoolType ∷ leaf kind.Decimal ∷ [])
    ∷ ((kind.ListType ∷ 4 ∷ 0 ∷ 2 ∷ []) ∷ (kind.Unsigned ∷ 256 ∷ 0 ∷ 1 ∷ []) ∷ leaf kind.Decimal ∷ [])
    ∷ ((kind.ListType ∷ 0 ∷ 2147483648 ∷ 2 ∷ []) ∷ (kind.Unsigned ∷ 1 ∷ 0 ∷ 1 ∷ []) ∷ leaf kind.Decimal ∷ [])
    ∷ ((kind.ArrayType ∷ 4294967295 ∷ 4294967295 ∷ 2 ∷ []) ∷ (kind.Builtin ∷ 22 ∷ 0 ∷ 1 ∷ []) ∷ leaf kind.Decimal ∷ [])
    ∷ ((kind.ArrayType ∷ 0 ∷ 0 ∷ 2 ∷ []) ∷ (kind.Builtin ∷ 22 ∷ 0 ∷ 1 ∷ []) ∷ leaf kind.Decimal ∷ [])
    ∷ ((kind.ArrayType ∷ 1 ∷ 1 ∷ 2 ∷ []) ∷ (kind.Builtin ∷ 23 ∷ 0 ∷ 1 ∷ []) ∷ leaf kind.Decimal ∷ [])
    ∷ (leaf kind.TupleType ∷ leaf kind.Decimal ∷ [])
    ∷ ((kind.TupleType ∷ 0 ∷ 0 ∷ 2 ∷ []) ∷ leaf kind.Alias ∷ leaf kind.Decimal ∷ [])
    ∷ (leaf kind.Alias ∷ leaf kind.Decimal ∷ [])
    ∷ (leaf kind.Alias ∷ leaf kind.Decimal ∷ [])
    ∷ (leaf kind.Builtin ∷ leaf kind.Decimal ∷ []) ∷ []
unfolding records_of
types = refl

-- Patterns, in `let`: from the pattern on.
pub patterns : map (λ text. drop 4 (made text)) ("fn f(){let (a,[_,]):T=1;}"
    ∷ "fn f(){let []:T=1;}" ∷ [])
    ≡ ((kind.TuplePattern ∷ 0 ∷ 0 ∷ 4 ∷ []) ∷ leaf kind.IdentifierPattern ∷ (kind.ArrayPattern ∷ 0 ∷ 0 ∷ 2 ∷ []) ∷ leaf kind.IgnorePattern ∷ leaf kind.Alias ∷ leaf kind.Decimal ∷ [])
    ∷ (leaf kind.ArrayPattern ∷ leaf kind.Alias ∷ leaf kind.Decimal ∷ []) ∷ []
unfolding records_of
patterns = refl

-- Calls of each of the fourteen names: from the call on.
pub calls : map (λ text. drop 3 (made text)) ("fn f(){jet::eq_8(x)}"
    ∷ "fn f(){unwrap_left::<T>(x)}"
    ∷ "fn f(){unwrap_right::<T>(x)}"
    ∷ "fn f(){unwrap(x)}"
    ∷ "fn f(){is_none::<T>(x)}"
    ∷ "fn f(){assert!(x)}"
    ∷ "fn f(){panic!()}"
    ∷ "fn f(){dbg!(x,)}"
    ∷ "fn f(){<T>::into(x)}"
    ∷ "fn f(){g(x,x)}"
    ∷ "fn f(){fold::<g,2>(x)}"
    ∷ "fn f(){array_fold::<g,5>(x)}"
    ∷ "fn f(){for_while::<g>(x)}"
    ∷ "fn f(){raw_hash::<T>(x)}" ∷ [])
    ≡ ((kind.Call ∷ call.Jet ∷ 0 ∷ 3 ∷ []) ∷ leaf kind.Name ∷ leaf kind.Variable ∷ [])
    ∷ ((kind.Call ∷ call.UnwrapLeft ∷ 0 ∷ 3 ∷ []) ∷ leaf kind.Alias ∷ leaf kind.Variable ∷ [])
    ∷ ((kind.Call ∷ call.UnwrapRight ∷ 0 ∷ 3 ∷ []) ∷ leaf kind.Alias ∷ leaf kind.Variable ∷ [])
    ∷ ((kind.Call ∷ call.Unwrap ∷ 0 ∷ 2 ∷ []) ∷ leaf kind.Variable ∷ [])
    ∷ ((kind.Call ∷ call.IsNone ∷ 0 ∷ 3 ∷ []) ∷ leaf kind.Alias ∷ leaf kind.Variable ∷ [])
    ∷ ((kind.Call ∷ call.Assert ∷ 0 ∷ 2 ∷ []) ∷ leaf kind.Variable ∷ [])
    ∷ ((kind.Call ∷ call.Panic ∷ 0 ∷ 1 ∷ []) ∷ [])
    ∷ ((kind.Call ∷ call.Debug ∷ 0 ∷ 2 ∷ []) ∷ leaf kind.Variable ∷ [])
    ∷ ((kind.Call ∷ call.TypeCast ∷ 0 ∷ 3 ∷ []) ∷ leaf kind.Alias ∷ leaf kind.Variable ∷ [])
    ∷ ((kind.Call ∷ call.Custom ∷ 0 ∷ 4 ∷ []) ∷ leaf kind.Name ∷ leaf kind.Variable ∷ leaf kind.Variable ∷ [])
    ∷ ((kind.Call ∷ call.Fold ∷ 0 ∷ 4 ∷ []) ∷ leaf kind.Name ∷ (kind.Number ∷ 2 ∷ 0 ∷ 1 ∷ []) ∷ leaf kind.Variable ∷ [])
    ∷ ((kind.Call ∷ call.ArrayFold ∷ 0 ∷ 4 ∷ []) ∷ leaf kind.Name ∷ (kind.Number ∷ 5 ∷ 0 ∷ 1 ∷ []) ∷ leaf kind.Variable ∷ [])
    ∷ ((kind.Call ∷ call.ForWhile ∷ 0 ∷ 3 ∷ []) ∷ leaf kind.Name ∷ leaf kind.Variable ∷ [])
    ∷ ((kind.Call ∷ call.RawHash ∷ 0 ∷ 3 ∷ []) ∷ leaf kind.Alias ∷ leaf kind.Variable ∷ []) ∷ []
unfolding records_of
calls = refl

-- Other expressions: from the expression on.
pub expressions : map (λ text. drop 3 (made text)) ("fn f(){None}"
    ∷ "fn f(){false}"
    ∷ "fn f(){true}"
    ∷ "fn f(){0xf_f}"
    ∷ "fn f(){0b1}"
    ∷ "fn f(){witness::a}"
    ∷ "fn f(){param::a}"
    ∷ "fn f(){fold}"
    ∷ "fn f(){(1)}"
    ∷ "fn f(){(1,)}"
    ∷ "fn f(){()}"
    ∷ "fn f(){[1,]}"
    ∷ "fn f(){list![]}"
    ∷ "fn f(){A::B}"
    ∷ "fn f(){fold::B::C()}"
    ∷ "fn f(){None::x(1)}"
    ∷ "fn f(){Right(x)}"
    ∷ "fn f(){Some(x)}"
    ∷ "fn f(){Some(x,x)}"
    ∷ "fn f(){Left()}"
    ∷ "fn f(){{1}}" ∷ [])
    ≡ (leaf kind.None ∷ [])
    ∷ (leaf kind.Boolean ∷ [])
    ∷ ((kind.Boolean ∷ 1 ∷ 0 ∷ 1 ∷ []) ∷ [])
    ∷ (leaf kind.Hexadecimal ∷ [])
    ∷ (leaf kind.Binary ∷ [])
    ∷ (leaf kind.Witness ∷ [])
    ∷ (leaf kind.ParameterValue ∷ [])
    ∷ (leaf kind.Variable ∷ [])
    ∷ ((kind.Parenthesised ∷ 0 ∷ 0 ∷ 2 ∷ []) ∷ leaf kind.Decimal ∷ [])
    ∷ ((kind.Tuple ∷ 0 ∷ 0 ∷ 2 ∷ []) ∷ leaf kind.Decimal ∷ [])
    ∷ (leaf kind.Tuple ∷ [])
    ∷ ((kind.Array ∷ 0 ∷ 0 ∷ 2 ∷ []) ∷ leaf kind.Decimal ∷ [])
    ∷ (leaf kind.List ∷ [])
    ∷ ((kind.EnumConstruction ∷ 2 ∷ 0 ∷ 3 ∷ []) ∷ leaf kind.Name ∷ leaf kind.Name ∷ [])
    ∷ ((kind.EnumConstruction ∷ 3 ∷ 0 ∷ 4 ∷ []) ∷ leaf kind.Name ∷ leaf kind.Name ∷ leaf kind.Name ∷ [])
    ∷ ((kind.EnumConstruction ∷ 2 ∷ 0 ∷ 4 ∷ []) ∷ leaf kind.Name ∷ leaf kind.Name ∷ leaf kind.Decimal ∷ [])
    ∷ ((kind.Right ∷ 0 ∷ 0 ∷ 2 ∷ []) ∷ leaf kind.Variable ∷ [])
    ∷ ((kind.Some ∷ 0 ∷ 0 ∷ 2 ∷ []) ∷ leaf kind.Variable ∷ [])
    ∷ ((kind.Call ∷ call.Custom ∷ 0 ∷ 4 ∷ []) ∷ leaf kind.Name ∷ leaf kind.Variable ∷ leaf kind.Variable ∷ [])
    ∷ ((kind.Call ∷ call.Custom ∷ 0 ∷ 2 ∷ []) ∷ leaf kind.Name ∷ [])
    ∷ ((kind.Block ∷ 1 ∷ 0 ∷ 2 ∷ []) ∷ leaf kind.Decimal ∷ []) ∷ []
unfolding records_of
expressions = refl

-- Matches: one of enum arms, and two of built-in arms that are written the other way round; from the match on.
pub matches : map (λ text. drop 3 (made text)) ("fn f(){match x{A::B=>1,A::C(p:u1,(q,):u2)=>{}A::D(_:T,)=>2,}}"
    ∷ "fn f(){match x{Right(a:u1)=>a,Left(b:u2)=>b,}}"
    ∷ "fn f(){match x{Some(a:T)=>1,None=>{2}}}" ∷ [])
    ≡ ((kind.EnumMatch ∷ 0 ∷ 0 ∷ 21 ∷ []) ∷ leaf kind.Variable ∷ (kind.EnumArm ∷ 2 ∷ 0 ∷ 4 ∷ []) ∷ leaf kind.Name ∷ leaf kind.Name ∷ leaf kind.Decimal
    ∷ (kind.EnumArm ∷ 2 ∷ 2 ∷ 9 ∷ []) ∷ leaf kind.Name ∷ leaf kind.Name ∷ leaf kind.IdentifierPattern ∷ (kind.Unsigned ∷ 1 ∷ 0 ∷ 1 ∷ []) ∷ (kind.TuplePattern ∷ 0 ∷ 0 ∷ 2 ∷ [])
    ∷ leaf kind.IdentifierPattern ∷ (kind.Unsigned ∷ 2 ∷ 0 ∷ 1 ∷ []) ∷ leaf kind.Block ∷ (kind.EnumArm ∷ 2 ∷ 1 ∷ 6 ∷ []) ∷ leaf kind.Name ∷ leaf kind.Name
    ∷ leaf kind.IgnorePattern ∷ leaf kind.Alias ∷ leaf kind.Decimal ∷ [])
    ∷ ((kind.Match ∷ 0 ∷ 0 ∷ 10 ∷ []) ∷ leaf kind.Variable ∷ (kind.BuiltinArm ∷ arm.Left ∷ 0 ∷ 4 ∷ []) ∷ leaf kind.IdentifierPattern ∷ (kind.Unsigned ∷ 2 ∷ 0 ∷ 1 ∷ []) ∷ leaf kind.Variable
    ∷ (kind.BuiltinArm ∷ arm.Right ∷ 0 ∷ 4 ∷ []) ∷ leaf kind.IdentifierPattern ∷ (kind.Unsigned ∷ 1 ∷ 0 ∷ 1 ∷ []) ∷ leaf kind.Variable ∷ [])
    ∷ ((kind.Match ∷ 0 ∷ 0 ∷ 9 ∷ []) ∷ leaf kind.Variable ∷ (kind.BuiltinArm ∷ arm.None ∷ 0 ∷ 3 ∷ []) ∷ (kind.Block ∷ 1 ∷ 0 ∷ 2 ∷ []) ∷ leaf kind.Decimal ∷ (kind.BuiltinArm ∷ arm.Some ∷ 0 ∷ 4 ∷ [])
    ∷ leaf kind.IdentifierPattern ∷ leaf kind.Alias ∷ leaf kind.Decimal ∷ []) ∷ []
unfolding records_of
matches = refl
