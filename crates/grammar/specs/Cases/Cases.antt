-- Drafts with what the papers say of each, and what the definitions say of them in the same form, opened so that it computes.
-- Assumes nothing.
use Rattle.std.specs.Prelude.{List, ◌++◌, ℕ, suc, ◌*◌, length, get_or}
use Prim.Native.String.{String}
use Rattle.own.specs.Flat.{blank}
use Rattle.text.specs.Answers.{Answer, accepted, refused}
use Rattle.text.specs.Widths.{tok_wide, rec_wide}
use Rattle.text.specs.Ascii.{ascii, ascii_from}
use Rattle.text.specs.Part.{part_of}
use Rattle.text.specs.Same.{same}
use Rattle.text.specs.Lists.{has, some, count, span}
use Rattle.utf8.specs.Utf8.{utf8_char, fits, sequence, bad_from, bad_at}
use Rattle.words.specs.Words.{FUNCTION_RESERVED, KEYWORDS, MACROS, MODULE_RESERVED, RULE_NAMES, BOOLEANS, RULE_WORDS, BOOL, UINT_TYPES, BUILTIN_ALIASES, TYPE_NAMES, find, word_of}
use Rattle.num.specs.Digits as digits
use Rattle.num.specs.Value.{decimal_from, decimal_of, fitted}
use Rattle.num.specs.Bound.{bound_ok, size_ok, length_ok, is_bound}
use Rattle.lexer.specs.Chars.{among, whitespace, line_ends, binary_digits, decimal_digits, hex_digits, underscore, name_starts, name_bytes, run, begins}
use Rattle.lexer.specs.Lexemes as lexeme
use Rattle.lexer.specs.Class as class
use Rattle.lexer.specs.Limits.{Limits, small_tokens, small_limits, token_words, depth_after, row_after, first_too_deep, room, lexed_of}
use Rattle.theory.specs.Grammar.{look, row, alt, pick}
use Rattle.theory.specs.Machine.{choose}
use Rattle.theory.specs.Ebnf.{kinds_of, sort_of, yield}
use Rattle.theory.specs.Same.{ex}
use Rattle.theory.specs.Exec.{then_word, then_rest, then_sub, exec}
use Rattle.theory.specs.Fuel.{saves, need}
use Rattle.theory.specs.Parse.{judge, parse}
use Rattle.kinds.specs.Fields.{counted}
use Rattle.kinds.specs.Class.{class_of}
use Rattle.grammar.specs.Shapes.Shapes.{shapes}
use Rattle.grammar.specs.Shapes.Tables.{table, means}
use Rattle.grammar.specs.Entry.{Entry, single_function, whole_file}
use Rattle.grammar.specs.Shapes.WellShaped.{shape_of}
use Rattle.grammar.specs.Records.Records.{low_half, high_half, sees, opening, name_count, part_count, lone, unended, place_in, type_name_head, pattern_name_head}
use Rattle.grammar.specs.Records.Records.{literal_head, function_head, call_head, wrapper_head, called_head, alone_head, name_head, arm_head, head_of, form_of, role_of, placed, arranged}
use Rattle.grammar.specs.Records.Records.{text_of, first_tok, first_of, decimal, head_for, recorded, record_items, record_trees}
use Rattle.grammar.specs.Records.Faults.{unless, arm_lows, mates, arms_fault, faults_at, faults, earlier, earliest, fault_of}
use Rattle.own.specs.Tree.{partner, canonical, turned, Rec, classes_of}
use Rattle.grammar.specs.Answers.Answer.{toks_of, start_of, reading, answer, token_buffer, records_read, tree_buffer}
use Rattle.lines.specs.Hex.{upper_hex, hex}
use Rattle.lines.specs.Form.{line_of}
use Rattle.lines.specs.Lines.{lines_of, needs_more, is_long, listed_rows}
use Rattle.grammar.specs.Answers.Lines.{refusal_rec, listing}

-- What is said of a draft: refused with this number at this place; so many records; B is a record of this kind, of so many in all; a
-- listing of so many bytes, which are these; the words of the two buffers.
pub data Result : Type 0 where
  refused_with : ℕ → ℕ → Result
  records : ℕ → Result
  kind_of_b : ℕ → ℕ → Result
  lists : ℕ → List ℕ → Result
  buffers : List ℕ → List ℕ → Result

-- A draft with its result, for this entry, these limits and buffers of so many words.
pub record Case : Type 0 where
  pub entry : Entry
  pub limits : Limits
  pub token_space : ℕ
  pub tree_space : ℕ
  pub draft : List ℕ
  pub result : Result

-- What an answer says in the form of the given result, with the records, the listing and the two buffers. B is the fourth record, after
-- the function, its name and its block.
abbrev pub told : Answer → Result → List Rec → List ℕ → List ℕ → List ℕ → Result
told (refused c p) x rs bytes tb rb = refused_with c p
told (accepted n m) (refused_with c p) rs bytes tb rb = records m
told (accepted n m) (records k) rs bytes tb rb = records m
told (accepted n m) (kind_of_b c k) rs bytes tb rb = kind_of_b (get_or rs 3 blank).kind m
told (accepted n m) (lists k bs) rs bytes tb rb = lists (length bytes) bytes
told (accepted n m) (buffers x y) rs bytes tb rb = buffers tb rb

-- What the definitions say of a draft.
unfoldable pub defined : Case → Result
unfolding ascii ascii_from part_of same FUNCTION_RESERVED KEYWORDS MACROS MODULE_RESERVED RULE_NAMES BOOLEANS RULE_WORDS find word_of among whitespace
    line_ends binary_digits decimal_digits hex_digits underscore name_starts name_bytes run begins utf8_char fits sequence bad_from bad_at lexeme.space lexeme.comment
    lexeme.line_comment lexeme.inside lexeme.closing lexeme.block_comment lexeme.name_length lexeme.qualified lexeme.macro lexeme.word lexeme.digits
    lexeme.hexadecimal lexeme.binary lexeme.decimal lexeme.marks lexeme.mark lexeme.no_lexeme lexeme.lexeme lexeme.lexemes_from lexeme.lexemes
    class.class_of depth_after row_after first_too_deep room lexed_of look row alt pick choose kinds_of sort_of ex then_word then_rest then_sub exec saves need
    judge parse TYPE_NAMES BOOL UINT_TYPES BUILTIN_ALIASES digits.plain decimal_from decimal_of fitted is_bound bound_ok size_ok length_ok yield partner canonical turned has
    count span counted class_of shapes table means shape_of low_half high_half sees opening name_count part_count lone unended place_in
    type_name_head pattern_name_head literal_head function_head call_head wrapper_head called_head alone_head name_head arm_head head_of
    form_of role_of placed arranged text_of first_tok first_of decimal head_for recorded record_items record_trees unless arm_lows mates arms_fault
    faults_at faults earlier earliest fault_of classes_of toks_of start_of reading answer records_read upper_hex hex line_of refusal_rec lines_of some needs_more is_long listed_rows listing
    token_words token_buffer tree_buffer
defined k =
    let en = k.entry in
    let l = k.limits in
    let tw = k.token_space in
    let rw = k.tree_space in
    let d = k.draft in
    told (answer en l d tw rw) k.result (records_read en l d tw) (listing en l d tw rw) (token_buffer en l d tw rw) (tree_buffer en l d tw rw)

-- With the small limits, and words enough for every draft within them: three for each of 2,048 tokens, seven for each record, of which there are
-- no more than tokens.
abbrev pub roomy : List ℕ → Result → Case
roomy draft r = record { entry = single_function; limits = small_limits; token_space = tok_wide * small_tokens; tree_space = rec_wide * small_tokens; draft = draft; result = r }

-- A file, with room for one record more.
abbrev pub roomy_file : List ℕ → Result → Case
roomy_file draft r = record { entry = whole_file; limits = small_limits; token_space = tok_wide * small_tokens; tree_space = rec_wide * suc small_tokens; draft = draft; result = r }

abbrev pub as_file : String → Result → Case
as_file s r = roomy_file (ascii s) r

-- A whole draft.
abbrev pub whole : String → Result → Case
whole s r = roomy (ascii s) r

-- "B stands in braces after the head, from byte 7."
abbrev pub braced : String → List ℕ
braced s = ascii "fn f(){" ++ (ascii s ++ ascii "}")

abbrev pub in_braces : String → Result → Case
in_braces s r = roomy (braced s) r
