-- From the shape tree of a draft to its record tree: document 01, "Records and the marks they own". A shape becomes a record whose kind,
-- low and high are decided by what it is made of; some of its tokens become records of their own. All stays in the order of the text.
-- Assumes nothing.
use Rattle.std.specs.Prelude.{Bool, true, false, ◌&&◌, ◌||◌, not, cond, List, [], ◌∷◌, map, ℕ, suc, ◌+◌, ◌^◌, ◌/◌, ◌%◌, eqb, ltb, length, drop, get_or}
use Rattle.text.specs.Ascii.{ascii}
use Rattle.text.specs.Part.{part_of}
use Rattle.text.specs.Same.{same}
use Rattle.text.specs.Lists.{has}
use Rattle.num.specs.Value.{decimal_of}
use Rattle.theory.specs.Ebnf as shape
use Rattle.own.specs.Tree.{Tok, Items, none, mark, sub, Node, kids, marks}
use Rattle.own.specs.Flat.{blank_tok}
use Rattle.own.specs.Law.{Sort, word, child, sorts}
use Rattle.own.specs.Kinds as kind
use Rattle.own.specs.Arms as arm
use Rattle.own.specs.Calls as call
use Rattle.kinds.specs.Shape.{half_range}
use Rattle.kinds.specs.Families as family
use Rattle.kinds.specs.Fields.{counted}
use Rattle.kinds.specs.Rules.{wrappers}
use Rattle.lexer.specs.Classes as t
use Rattle.grammar.specs.Shapes.Row.{Form, always, numbered, angled, lonely, aFunction, aTypeName, aPatternName, aBlock, aLiteral, aMatch, aName, anArm}
use Rattle.grammar.specs.Shapes.Shapes.{rows}

-- The fields of a record that its shape decides.
pub record Head : Type 0 where
  pub kind : ℕ
  pub low : ℕ
  pub high : ℕ

-- "Low and high are 0 unless named": the head of this kind, low and high, and the one with neither.
abbrev pub head : ℕ → ℕ → ℕ → Head
head k l h = record { kind = k; low = l; high = h }

abbrev pub plain : ℕ → Head
plain k = head k 0 0

-- "together they hold a 64-bit number where `number` stands": its two halves of 32 bits. (The high one is larger only of a number that is refused.)
unfoldable pub low_half : ℕ → ℕ
low_half n = n % half_range

unfoldable pub high_half : ℕ → ℕ
high_half n = n / half_range

abbrev pub wide : ℕ → ℕ → Head
wide k n = head k (low_half n) (high_half n)

-- What the decisions look at: the pieces of a shape, as a rule sees them. Whether a token of a class is among its own,
unfoldable pub sees : ℕ → List Sort → Bool
sees c [] = false
sees c (word d ∷ w) = eqb d c || sees c w
sees c (child k l h d ∷ w) = sees c w

-- the class of the token that it begins with,
unfoldable pub opening : List Sort → ℕ
opening [] = 0
opening (word c ∷ w) = c
opening (child k l h d ∷ w) = 0

-- how many name tokens are its own,
unfoldable pub name_count : List Sort → ℕ
name_count [] = 0
name_count (word c ∷ w) = cond (has t.identifiers c) 1 0 + name_count w
name_count (child k l h d ∷ w) = name_count w

-- how many parts it has,
unfoldable pub part_count : List Sort → ℕ
part_count [] = 0
part_count (word c ∷ w) = part_count w
part_count (child k l h d ∷ w) = suc (part_count w)

-- that it has "one expression in parentheses and no comma",
unfoldable pub lone : List Sort → Bool
lone w = eqb (part_count w) 1 && not (sees t.Comma w)

-- and that its last part has no `;` after it (before any piece, as given).
unfoldable pub unended : Bool → List Sort → Bool
unended b [] = b
unended b (word c ∷ w) = unended (b && not (eqb c t.Semi)) w
unended b (child k l h d ∷ w) = unended true w

-- The place of a class in a list, counted from n; the number d if it has none.
unfoldable pub place_in : ℕ → ℕ → List ℕ → ℕ → ℕ
place_in d n [] c = d
place_in d n (a ∷ l) c = cond (eqb c a) n (place_in d (suc n) l c)

-- "4–7 alias, builtin (low 0–23 in `BuiltinAlias` order), bool, unsigned (`u1` to `u256`, powers of two only; low bits)"
unfoldable pub type_name_head : ℕ → Head
type_name_head c =
    cond (eqb c t.bool) (plain kind.BoolType)
    (cond (has t.unsigned_types c) (head kind.Unsigned (2 ^ place_in 0 0 t.unsigned_types c) 0)
    (cond (has t.builtin_types c) (head kind.Builtin (place_in 0 0 t.builtin_types c) 0) (plain kind.Alias)))

-- "13 identifier pattern, 14 `_`"
unfoldable pub pattern_name_head : List ℕ → ℕ → Head
pattern_name_head text c = cond (eqb c t.Ident && same text (ascii "_")) (plain kind.IgnorePattern) (plain kind.IdentifierPattern)

-- "22 None, 23 boolean (low 0 or 1), 24 decimal, 25 hexadecimal, 26 binary, 27 witness, 28 parameter value"
unfoldable pub literal_head : ℕ → Head
literal_head c =
    cond (eqb c t.false) (head kind.Boolean 0 0) (cond (eqb c t.true) (head kind.Boolean 1 0)
    (cond (eqb c t.DecLiteral) (plain kind.Decimal) (cond (eqb c t.HexLiteral) (plain kind.Hexadecimal)
    (cond (eqb c t.BinLiteral) (plain kind.Binary) (cond (eqb c t.Witness) (plain kind.Witness) (plain kind.ParameterValue))))))

-- "1 function | low 1 for pub, plus 2 for a result type; high parameters."
unfoldable pub function_head : List Sort → Head
function_head w = head kind.Function (cond (sees t.Pub w) 1 0 + cond (sees t.Arrow w) 2 0) (counted (kind.Parameter ∷ []) w)

-- "39 call | low 1–14 in `CallName` order": the tokens that calls begin with, in that order; `<T>::into` begins with `<`, a call of any other name with it.
abbrev pub call_words : List ℕ
call_words =
    t.Jet ∷ t.unwrap_left ∷ t.unwrap_right ∷ t.unwrap ∷ t.is_none ∷ t.assert! ∷ t.panic! ∷ t.dbg! ∷ t.LAngle ∷ t.Ident ∷ t.fold ∷ t.array_fold ∷ t.for_while ∷ t.raw_hash ∷ []

unfoldable pub call_head : ℕ → Head
call_head c = head kind.Call (place_in call.Custom call.Jet call_words c) 0

-- "19 Left, 20 Right, 21 Some"
unfoldable pub wrapper_head : ℕ → Head
wrapper_head c = plain (place_in 0 kind.Left wrappers c)

-- "`Left`, `Right`, `Some` with one expression in parentheses and no comma is that wrapper; with any other `(` it is a call of that name."
unfoldable pub called_head : List Sort → Head
called_head w = cond (has wrappers (opening w) && lone w) (wrapper_head (opening w)) (call_head (opening w))

-- A token alone: "`None` is itself unless `::` follows." "Other name tokens are variables".
unfoldable pub alone_head : ℕ → Head
alone_head c = cond (eqb c t.None) (plain kind.None) (plain kind.Variable)

-- What begins with a name, a macro, a jet or `<`: a call with `< >`; "34 enum construction | low names", where `::` joins them; a call or wrapper; a token alone.
unfoldable pub name_head : List Sort → Head
name_head w = cond (sees t.LAngle w) (call_head (opening w)) (cond (sees t.DoubleColon w) (head kind.EnumConstruction (name_count w) 0) (cond (sees t.LParen w) (called_head w) (alone_head (opening w))))

-- "37 built-in arm | low 1–6: Left, Right, None, Some, False, True": the tokens that these begin with, in that order.
abbrev pub arm_words : List ℕ
arm_words = t.Left ∷ t.Right ∷ t.None ∷ t.Some ∷ t.false ∷ t.true ∷ []

-- A built-in arm, or "38 enum arm | low names, high pairs", which has a `::`.
unfoldable pub arm_head : List Sort → Head
arm_head w =
    cond (sees t.DoubleColon w) (head kind.EnumArm (name_count w) (counted family.patterns w))
    (head kind.BuiltinArm (place_in 0 arm.Left arm_words (opening w)) 0)

-- The head of a form, from the text of its first token, its number and its pieces: "18 block | low 1 with a last expression"; "35 match, 36 enum match", by its arms.
unfoldable pub head_of : Form → List ℕ → ℕ → List Sort → Head
head_of (always k) text n w = plain k
head_of (numbered k) text n w = wide k n
head_of (angled k) text n w = cond (sees t.LAngle w) (wide k n) (plain kind.Alias)
head_of (lonely k j) text n w = cond (lone w) (plain k) (plain j)
head_of aFunction text n w = function_head w
head_of aTypeName text n w = type_name_head (opening w)
head_of aPatternName text n w = pattern_name_head text (opening w)
head_of aLiteral text n w = literal_head (opening w)
head_of aName text n w = name_head w
head_of anArm text n w = arm_head w
head_of aBlock text n w = head kind.Block (cond (unended false w) 1 0) 0
head_of aMatch text n w = cond (ltb 0 (counted (kind.EnumArm ∷ []) w)) (plain kind.EnumMatch) (plain kind.Match)

-- The form in the row of number k.
unfoldable pub form_of : ℕ → Form
form_of k = get_or (map (λ r. r.form) rows) k (always 0)

-- What a token of a record is: a mark of its own, or a record of its own, a name or a number.
pub data Role : Type 0 where
  aMark asName as_number : Role

-- "In a call a jet's token or a function name is a kind 2 child", and its decimal a kind 40; in a function, a parameter, an enum
-- construction, an enum arm and a type item every name is a kind 2 child; in any other record no token is a child. By kind and the token's class.
unfoldable pub role_of : ℕ → ℕ → Role
role_of k c =
    cond (has family.names_kept k) (cond (has t.identifiers c) asName aMark)
    (cond (eqb k kind.Call) (cond (has (t.Jet ∷ t.function_names) c) asName (cond (eqb c t.DecLiteral) as_number aMark)) aMark)

-- A token in its role, and what follows; the number is n.
unfoldable pub placed : Role → ℕ → Tok → Items → Items
placed aMark n t r = mark t r
placed asName n t r = sub kind.Name 0 0 (mark t none) r
placed as_number n t r = sub kind.Number (low_half n) (high_half n) (mark t none) r

-- The items of a record of this kind: each of its tokens in its role, its parts as they are.
unfoldable pub arranged : ℕ → ℕ → Items → Items
arranged kind n none = none
arranged kind n (mark t r) = placed (role_of kind t.class) n t (arranged kind n r)
arranged kind n (sub k l h js r) = sub k l h js (arranged kind n r)

unfoldable pub text_of : List ℕ → Tok → List ℕ
text_of draft t = part_of draft t.start t.stop

unfoldable pub first_tok : List Tok → Tok
first_tok ts = get_or ts 0 blank_tok

unfoldable pub first_of : ℕ → List Tok → Tok
first_of c [] = blank_tok
first_of c (t ∷ ts) = cond (eqb t.class c) t (first_of c ts)

-- The number that stands among a shape's tokens, of any size: whether 64 bits hold it the refusals ask (Faults.antt).
unfoldable pub decimal : List ℕ → Items → ℕ
decimal draft is = decimal_of (text_of draft (first_of t.DecLiteral (marks is)))

unfoldable pub head_for : List ℕ → ℕ → Items → Head
head_for draft k is = head_of (form_of k) (text_of draft (first_tok (marks is))) (decimal draft is) (sorts is)

unfoldable pub recorded : ℕ → Head → Items → Items → Items
recorded n h is r = sub h.kind h.low h.high (arranged h.kind n is) r

-- The records of shapes side by side, whose tokens are those that the list begins with.
unfoldable pub record_items : List ℕ → shape.Items → List Tok → Items
record_items draft shape.nil ts = none
record_items draft (shape.word c r) ts = mark (first_tok ts) (record_items draft r (drop 1 ts))
record_items draft (shape.sub k js r) ts =
    let is = record_items draft js ts in
    recorded (decimal draft is) (head_for draft k is) is (record_items draft r (drop (length (shape.yield js)) ts))

-- The record trees of a draft, side by side, from its tokens and their shape tree.
unfoldable pub record_trees : List ℕ → List Tok → shape.Items → List Node
record_trees draft ts r = kids (record_items draft r ts)
