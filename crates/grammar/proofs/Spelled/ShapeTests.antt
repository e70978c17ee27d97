-- The computed tests of HeadLaws.antt and its like at each kind of shape.
-- Assumes nothing.
use Rattle.std.specs.Prelude.{Bool, true, false, cond, ℕ, T, eqb, get_or}
use Rattle.text.specs.Lists.{some, all, has, span, count}
use Rattle.theory.specs.Ebnf.{eps}
use Rattle.own.specs.Kinds as kind
use Rattle.kinds.specs.Shape.{Part, of, name, arm, bound, size, Shape, fits}
use Rattle.kinds.specs.Rules.{forms}
use Rattle.kinds.specs.Spelled.{forms_of}
use Rattle.lexer.specs.Classes as class
use Rattle.grammar.specs.Shapes.Shapes.{shapes}
use Rattle.grammar.proofs.Spelled.Rules.{kinds_in, both, seen, part_shapes, spelt}
use Rattle.grammar.proofs.Spelled.Rows.{pairs, variants}
use Rattle.grammar.proofs.Spelled.Inclusion.{row_in, atom_in, many_in, shape_in, piece_in, token_in, marks_of, is_part, kinds_of, only_kinds}
use Rattle.grammar.proofs.Spelled.Decisions.{free, free_of, sure, is_the, lacks}
use Rattle.grammar.proofs.Spelled.FormTests.{form_in, no_number, fixed, counts, any_number, a_bound, has_parts, lone_row, crowded_row, unroll, judge, all_below}
use Rattle.grammar.proofs.Spelled.HeadLaws.{opened, exact_in, lonely_row, class_row, pattern_row}
use Rattle.grammar.proofs.Spelled.CountedLaws.{function_case, function_row, angled_row, arm_row}
use Rattle.grammar.proofs.Spelled.NameLaws.{wraps_row, calls_row, generic_row, path_row, parens_row, alone_row, plain_row, name_row, name_rows}
use Rattle.grammar.specs.Records.Records.{role_of, place_in, type_name_head, literal_head, call_head, wrapper_head, alone_head}
use Rattle.grammar.specs.Records.Records as rec
use Rattle.grammar.specs.Shapes.ShapeKind.{FunctionShape, ParameterShape, EitherTypeShape, OptionTypeShape, ListTypeShape, NamedTypeShape}
use Rattle.grammar.specs.Shapes.ShapeKind.{TupleTypeShape, ArrayTypeShape, NamePatternShape, TuplePatternShape, ArrayPatternShape, AssignmentShape}
use Rattle.grammar.specs.Shapes.ShapeKind.{LiteralShape, ParensShape, ArrayShape, ListShape, SimpleCallShape, CastCallShape, NamedShape, BareShape}
use Rattle.grammar.specs.Shapes.ShapeKind.{TypedShape, FoldingShape, ForWhileShape, ArmShape, TypeItemShape}

-- The shape of a kind of shapes, as the rules see it.
unfoldable pub body_shape : ℕ → Shape
body_shape k = spelt (get_or shapes.bodies k eps)

-- Which part the number of a call is, by the word that the call begins with: a bound of `fold`, a size of `array_fold`.
unfoldable pub bound_part : Part → Bool
bound_part (of ks) = false
bound_part (name cs) = false
bound_part (arm n) = false
bound_part bound = true
bound_part size = false

unfoldable pub size_part : Part → Bool
size_part (of ks) = false
size_part (name cs) = false
size_part (arm n) = false
size_part bound = false
size_part size = true

unfoldable pub fold_number : ℕ → Part → Bool
unfolding bound_part size_part
fold_number c p = cond (eqb c class.fold) (bound_part p) (cond (eqb c class.array_fold) (size_part p) false)

-- The tests, of any number n.
pub record Tests (n : ℕ) : Type 0 where
  pub parameter : T (all (exact_in n (rec.plain kind.Parameter)) (variants (body_shape ParameterShape)))
  pub tuple_type : T (all (exact_in n (rec.plain kind.TupleType)) (variants (body_shape TupleTypeShape)))
  pub tuple_pattern : T (all (exact_in n (rec.plain kind.TuplePattern)) (variants (body_shape TuplePatternShape)))
  pub array_pattern : T (all (exact_in n (rec.plain kind.ArrayPattern)) (variants (body_shape ArrayPatternShape)))
  pub assignment : T (all (exact_in n (rec.plain kind.Let)) (variants (body_shape AssignmentShape)))
  pub array : T (all (exact_in n (rec.plain kind.Array)) (variants (body_shape ArrayShape)))
  pub list : T (all (exact_in n (rec.plain kind.List)) (variants (body_shape ListShape)))
  pub function : T (all (function_row n) (variants (body_shape FunctionShape)))
  pub either_type : T (all (angled_row n (exact_in n (rec.plain kind.EitherType))) (variants (body_shape EitherTypeShape)))
  pub option_type : T (all (angled_row n (exact_in n (rec.plain kind.OptionType))) (variants (body_shape OptionTypeShape)))
  pub list_type : T (all (angled_row n (form_in kind.ListType n no_number (counts a_bound))) (variants (body_shape ListTypeShape)))
  pub type_name : T (all (opened (class_row n type_name_head)) (variants (body_shape NamedTypeShape)))
  pub array_type : T (all (form_in kind.ArrayType n no_number (counts any_number)) (variants (body_shape ArrayTypeShape)))
  pub pattern_name : T (all (opened (pattern_row n)) (variants (body_shape NamePatternShape)))
  pub literal : T (all (opened (class_row n literal_head)) (variants (body_shape LiteralShape)))
  pub parens : T (all (judge (lonely_row n kind.Parenthesised kind.Tuple)) (variants (body_shape ParensShape)))
  pub simple_call : T (all (opened (name_rows n (λ c. no_number))) (variants (body_shape SimpleCallShape)))
  pub cast_call : T (all (opened (name_rows n (λ c. no_number))) (variants (body_shape CastCallShape)))
  pub named : T (all (opened (name_rows n (λ c. no_number))) (variants (body_shape NamedShape)))
  pub bare : T (all (opened (name_rows n (λ c. no_number))) (variants (body_shape BareShape)))
  pub typed : T (all (opened (name_rows n (λ c. no_number))) (variants (body_shape TypedShape)))
  pub for_while : T (all (opened (name_rows n (λ c. no_number))) (variants (body_shape ForWhileShape)))
  pub folding : T (all (opened (name_rows n fold_number)) (variants (body_shape FoldingShape)))
  pub arm : T (all (opened (arm_row n)) (variants (body_shape ArmShape)))
  pub type_item_form : T (all (exact_in n (rec.plain kind.TypeItem)) (variants (body_shape TypeItemShape)))

-- They pass, by computation.
pub tests : (n : ℕ) → Tests n
unfolding shapes seen part_shapes both kinds_in body_shape exact_in form_in forms_of forms fixed counts some all variants pairs row_in atom_in many_in
    shape_in piece_in token_in marks_of is_part kinds_of only_kinds role_of has span count fits free free_of sure is_the lacks has_parts lone_row
    crowded_row unroll judge opened lonely_row class_row pattern_row all_below function_case function_row angled_row arm_row place_in type_name_head literal_head
    call_head wrapper_head alone_head wraps_row calls_row generic_row path_row parens_row alone_row plain_row name_row name_rows fold_number
tests n =
    record {
      parameter = tt;
      tuple_type = tt;
      tuple_pattern = tt;
      array_pattern = tt;
      assignment = tt;
      array = tt;
      list = tt;
      function = tt;
      either_type = tt;
      option_type = tt;
      list_type = tt;
      type_name = tt;
      array_type = tt;
      pattern_name = tt;
      literal = tt;
      parens = tt;
      simple_call = tt;
      cast_call = tt;
      named = tt;
      bare = tt;
      typed = tt;
      for_while = tt;
      folding = tt;
      arm = tt;
      type_item_form = tt;
    }
