-- The law of each kind of shape: without refusals 9 to 14 and 19 at it, its record spells the rule of its kind, and is of a kind of its category.
-- Assumes nothing.
use Rattle.std.specs.Prelude.{Bool, true, false, ◌&&◌, cond, List, [], ◌∷◌, ◌≡◌, refl, ℕ, zero, suc, ◌+◌, ◌<◌, T, eqb, ltb, length}
use Rattle.std.proofs.Math.Option.{some}
use Rattle.std.proofs.Common.{sym, ap, ◌∙◌, subst, arith, eq-eqb, ltb-true, ltb-false, lt-ltb, eqb→eq}
use Rattle.std.proofs.Math.ListN.{get_elem?, get_or-eq_default}
use Rattle.text.proofs.ListLaws.{all-has}
use Rattle.text.specs.Ascii.{ascii}
use Rattle.text.specs.Same.{same}
use Rattle.text.proofs.Table.{is_true, first-of, second-of, or_right}
use Rattle.text.specs.Lists.{all, has, span, count}
use Rattle.num.specs.Value.{fitted}
use Rattle.num.specs.Bound.{bound_ok, size_ok, length_ok, is_bound}
use Rattle.theory.specs.Ebnf as shape
use Rattle.own.specs.Law.{Sort}
use Rattle.own.specs.Kinds as kind
use Rattle.kinds.specs.Shape.{Part, of, name, arm, bound, size, number, fits, Spells}
use Rattle.kinds.specs.Fields.{counted}
use Rattle.kinds.specs.Families as family
use Rattle.kinds.specs.Rules.{wrappers}
use Rattle.lexer.specs.Classes as class
use Rattle.grammar.specs.Shapes.ShapeKind.{FunctionShape, ParameterShape, EitherTypeShape, OptionTypeShape, ListTypeShape, NamedTypeShape}
use Rattle.grammar.specs.Shapes.ShapeKind.{TupleTypeShape, ArrayTypeShape, NamePatternShape, TuplePatternShape, ArrayPatternShape, BlockShape}
use Rattle.grammar.specs.Shapes.ShapeKind.{AssignmentShape, LiteralShape, ParensShape, ArrayShape, ListShape, MatchShape, SimpleCallShape}
use Rattle.grammar.specs.Shapes.ShapeKind.{CastCallShape, NamedShape, BareShape, TypedShape, FoldingShape, ForWhileShape, ArmShape, TypeItemShape}
use Rattle.grammar.specs.Shapes.Categories as category
use Rattle.grammar.specs.Shapes.Shapes.{rows, shapes}
use Rattle.grammar.proofs.Spelled.Rules.{kinds_in, both, seen, part_shapes, has_within, nth-none}
use Rattle.grammar.proofs.Spelled.Decisions.{free_of, free-sound}
use Rattle.grammar.proofs.Spelled.FormTests.{SpelledAs, Numbers, no_number, no-numbers, good-bound, good-size, good_length, number_of, all_below, below_all}
use Rattle.grammar.proofs.Spelled.HeadLaws.{exact_in, exact-sound, always-law, lonely-law, class-law, pattern-law}
use Rattle.grammar.proofs.Spelled.CountedLaws.{function-law, number-law, angled-law, bound-row, arm-law}
use Rattle.grammar.proofs.Spelled.NameLaws.{name-law}
use Rattle.grammar.proofs.Spelled.BlockLaws.{block-law}
use Rattle.grammar.proofs.Spelled.MatchLaws.{match-law}
use Rattle.grammar.proofs.Spelled.ShapeTests.{body_shape, bound_part, size_part, fold_number, tests}
use Rattle.grammar.specs.Records.Records.{Head, head, wide, low_half, high_half, sees, opening, lone, place_in, type_name_head, pattern_name_head, literal_head}
use Rattle.grammar.specs.Shapes.Row.{Row, Form, always, numbered, angled, lonely, aFunction, aTypeName, aPatternName, aLiteral, aName, anArm, aBlock, aMatch}
use Rattle.grammar.specs.Records.Records.{function_head, call_head, wrapper_head, called_head, alone_head, name_head, arm_head, head_of, form_of}
use Rattle.grammar.specs.Records.Records as rec
use Rattle.grammar.specs.Records.Faults.{arm_lows, arms_fault}

-- How many categories and how many kinds of shapes there are.
abbrev pub category_count : ℕ
category_count = suc category.type_item

abbrev pub shape_count : ℕ
shape_count = length rows

-- What is given of a shape of kind k with the number n and these pieces: the number is 0 if there is no decimal, and no refusal of 9 to 14 and 19
-- is the shape's.
pub record Given (k n : ℕ) (w : List Sort) : Type 0 where
  pub absent : sees class.DecLiteral w ≡ false → n ≡ 0
  pub listed : k ≡ ListTypeShape → sees class.LAngle w ≡ true → bound_ok (fitted n) ≡ true
  pub long : k ≡ ArrayTypeShape → length_ok (fitted n) ≡ true
  pub sized : k ≡ FoldingShape → sees class.LAngle w ≡ true → opening w ≡ class.array_fold → size_ok (fitted n) ≡ true
  pub folded : k ≡ FoldingShape → sees class.LAngle w ≡ true → (opening w ≡ class.array_fold → ⊥) → bound_ok (fitted n) ≡ true
  pub armed : k ≡ MatchShape → arms_fault (counted (kind.EnumArm ∷ []) w) (arm_lows w) ≡ 0

-- The law of a kind of shapes.
abbrev pub Kept : ℕ → Type 0
Kept k = (text : List ℕ) (n : ℕ) (w : List Sort) → Given k n w → Spells (body_shape k) w → SpelledAs (head_of (form_of k) text n w) n w

-- no decimal among the tokens of `Either` and `Option`
no-decimal-either : T (free_of class.DecLiteral (body_shape EitherTypeShape))
unfolding body_shape shapes seen part_shapes both kinds_in free_of has
no-decimal-either = tt

no-decimal-option : T (free_of class.DecLiteral (body_shape OptionTypeShape))
unfolding body_shape shapes seen part_shapes both kinds_in free_of has
no-decimal-option = tt

empty-number : (K n : ℕ) (w : List Sort) → n ≡ 0 → SpelledAs (rec.plain K) n w → SpelledAs (wide K n) n w
unfolding low_half high_half
empty-number K n w e p = rw e (rw e at p)

-- the number of a fold
fold-numbers : (n : ℕ) (w : List Sort) → Given FoldingShape n w → (c : ℕ) → opening w ≡ c → sees class.LAngle w ≡ true → Numbers n (fold_number c)
unfolding fold_number bound_part size_part fits
fold-numbers n w g c e s p t = go (eqb c class.fold) refl (eqb c class.array_fold) refl p t
  where
    as-bound : c ≡ class.fold → T (is_bound (number (low_half n) (high_half n)))
    as-bound q = subst (λ (m : ℕ). T (is_bound m)) (sym (number_of n)) (good-bound n (g.folded refl s (λ f. omega arith))).0

    as-size : c ≡ class.array_fold → T (ltb 0 (number (low_half n) (high_half n)))
    as-size q = subst (λ (m : ℕ). T (ltb 0 m)) (sym (number_of n)) (rw (lt-ltb 0 n (good-size n (g.sized refl s (e ∙ q))).0) tt)

    go : (a : Bool) → eqb c class.fold ≡ a → (b : Bool) → eqb c class.array_fold ≡ b → (x : Part) → T (cond a (bound_part x) (cond b (size_part x) false)) → T (fits x kind.Number (low_half n) (high_half n) class.DecLiteral)
    go true q b r (of ks) u = absurd u
    go true q b r (name cs) u = absurd u
    go true q b r (arm m) u = absurd u
    go true q b r bound u = as-bound (eqb→eq c class.fold (subst (λ y. T y) (sym q) tt))
    go true q b r size u = absurd u
    go false q true r (of ks) u = absurd u
    go false q true r (name cs) u = absurd u
    go false q true r (arm m) u = absurd u
    go false q true r bound u = absurd u
    go false q true r size u = as-size (eqb→eq c class.array_fold (subst (λ y. T y) (sym r) tt))
    go false q false r x u = absurd u

module _ (text : List ℕ) (n : ℕ) (w : List Sort) where
  -- a function, a parameter
  kept-function : Given FunctionShape n w → Spells (body_shape FunctionShape) w → SpelledAs (function_head w) n w
  kept-function g p = function-law n (body_shape FunctionShape) (tests n).function p

  -- Either, Option, List
  kept_either : Given EitherTypeShape n w → Spells (body_shape EitherTypeShape) w → SpelledAs (cond (sees class.LAngle w) (wide kind.EitherType n) (rec.plain kind.Alias)) n w
  kept_either g p = angled-law n kind.EitherType (exact_in n (rec.plain kind.EitherType)) (body_shape EitherTypeShape) (λ e l t r. empty-number kind.EitherType n w (g.absent (free-sound class.DecLiteral no-decimal-either p)) (exact-sound n (rec.plain kind.EitherType) l t r)) (tests n).either_type p

  kept-option : Given OptionTypeShape n w → Spells (body_shape OptionTypeShape) w → SpelledAs (cond (sees class.LAngle w) (wide kind.OptionType n) (rec.plain kind.Alias)) n w
  kept-option g p = angled-law n kind.OptionType (exact_in n (rec.plain kind.OptionType)) (body_shape OptionTypeShape) (λ e l t r. empty-number kind.OptionType n w (g.absent (free-sound class.DecLiteral no-decimal-option p)) (exact-sound n (rec.plain kind.OptionType) l t r)) (tests n).option_type p

  kept-list : Given ListTypeShape n w → Spells (body_shape ListTypeShape) w → SpelledAs (cond (sees class.LAngle w) (wide kind.ListType n) (rec.plain kind.Alias)) n w
  kept-list g p = angled-law n kind.ListType _ (body_shape ListTypeShape) (λ e l t r. let b = good-bound n (g.listed refl e) in bound-row n b.1 b.0 l t r) (tests n).list_type p

  -- a block, a match
  kept_block : Spells (body_shape BlockShape) w → SpelledAs (head kind.Block (cond (rec.unended false w) 1 0) 0) n w
  unfolding body_shape shapes seen part_shapes
  kept_block p = block-law n p

  kept-match : Given MatchShape n w → Spells (body_shape MatchShape) w → SpelledAs (cond (ltb 0 (counted (kind.EnumArm ∷ []) w)) (rec.plain kind.EnumMatch) (rec.plain kind.Match)) n w
  unfolding body_shape shapes seen part_shapes both kinds_in
  kept-match g p = match-law n (g.armed refl) p

-- A law of the number of each row, where the first has the number n.
infixr 5 ◌&◌
data Each (P : ℕ → Type 0) : ℕ → List Row → Type 0 where
  end : {n : ℕ} → Each P n []
  ◌&◌ : {n : ℕ} {r : Row} {l : List Row} → P n → Each P (suc n) l → Each P n (r ∷ l)

each_at : {P : ℕ → Type 0} {n : ℕ} {l : List Row} → Each P n l → (i : ℕ) → i < length l → (k : ℕ) → k ≡ n + i → P k
each_at end i h k e = absurd (omega arith)
each_at {P} {n} (p & b) zero h k e =
    let q : n ≡ k = omega arith in
    subst P q p
each_at (p & b) (suc i) h k e = each_at b i (omega arith) k (omega arith)

-- One law a row.
all-kept : Each Kept 0 rows
unfolding head_of form_of
all-kept =
    (λ text n w g p. kept-function text n w g p)
    & (λ text n w g p. always-law n kind.Parameter (body_shape ParameterShape) (tests n).parameter p)
    & (λ text n w g p. kept_either text n w g p)
    & (λ text n w g p. kept-option text n w g p)
    & (λ text n w g p. kept-list text n w g p)
    & (λ text n w g p. class-law n type_name_head (body_shape NamedTypeShape) (tests n).type_name p)
    & (λ text n w g p. always-law n kind.TupleType (body_shape TupleTypeShape) (tests n).tuple_type p)
    & (λ text n w g p. number-law n kind.ArrayType (body_shape ArrayTypeShape) (good_length n (g.long refl)) (tests n).array_type p)
    & (λ text n w g p. pattern-law n text (body_shape NamePatternShape) (tests n).pattern_name p)
    & (λ text n w g p. always-law n kind.TuplePattern (body_shape TuplePatternShape) (tests n).tuple_pattern p)
    & (λ text n w g p. always-law n kind.ArrayPattern (body_shape ArrayPatternShape) (tests n).array_pattern p)
    & (λ text n w g p. kept_block text n w p)
    & (λ text n w g p. always-law n kind.Let (body_shape AssignmentShape) (tests n).assignment p)
    & (λ text n w g p. class-law n literal_head (body_shape LiteralShape) (tests n).literal p)
    & (λ text n w g p. lonely-law n kind.Parenthesised kind.Tuple (body_shape ParensShape) (tests n).parens p)
    & (λ text n w g p. always-law n kind.Array (body_shape ArrayShape) (tests n).array p)
    & (λ text n w g p. always-law n kind.List (body_shape ListShape) (tests n).list p)
    & (λ text n w g p. kept-match text n w g p)
    & (λ text n w g p. name-law n (λ c. no_number) (body_shape SimpleCallShape) (λ c e s. no-numbers n) (tests n).simple_call p)
    & (λ text n w g p. name-law n (λ c. no_number) (body_shape CastCallShape) (λ c e s. no-numbers n) (tests n).cast_call p)
    & (λ text n w g p. name-law n (λ c. no_number) (body_shape NamedShape) (λ c e s. no-numbers n) (tests n).named p)
    & (λ text n w g p. name-law n (λ c. no_number) (body_shape BareShape) (λ c e s. no-numbers n) (tests n).bare p)
    & (λ text n w g p. name-law n (λ c. no_number) (body_shape TypedShape) (λ c e s. no-numbers n) (tests n).typed p)
    & (λ text n w g p. name-law n fold_number (body_shape FoldingShape) (fold-numbers n w g) (tests n).folding p)
    & (λ text n w g p. name-law n (λ c. no_number) (body_shape ForWhileShape) (λ c e s. no-numbers n) (tests n).for_while p)
    & (λ text n w g p. arm-law n (body_shape ArmShape) (tests n).arm p)
    & (λ text n w g p. always-law n kind.TypeItem (body_shape TypeItemShape) (tests n).type_item_form p)
    & end

-- The law of every kind of shapes.
pub kept : (k : ℕ) → k < shape_count → Kept k
kept k h = each_at all-kept k h k (omega arith)

-- ---- the kind of a record is one of its category

-- The kinds that a form may decide.
unfoldable pub possible : Form → List ℕ
possible (always k) = k ∷ []
possible (numbered k) = k ∷ []
possible (angled k) = k ∷ kind.Alias ∷ []
possible (lonely k j) = k ∷ j ∷ []
possible aFunction = kind.Function ∷ []
possible aTypeName = span kind.Alias kind.Unsigned
possible aPatternName = kind.IdentifierPattern ∷ kind.IgnorePattern ∷ []
possible aLiteral = span kind.Boolean kind.ParameterValue
possible aName = kind.Call ∷ kind.EnumConstruction ∷ kind.Left ∷ kind.Right ∷ kind.Some ∷ kind.None ∷ kind.Variable ∷ []
possible anArm = family.arms
possible aBlock = family.blocks
possible aMatch = kind.Match ∷ kind.EnumMatch ∷ []

-- either of two heads
either-kind : (ks : List ℕ) (b : Bool) (x y : Head) → T (has ks x.kind) → T (has ks y.kind) → T (has ks (cond b x y).kind)
either-kind ks true x y p q = p
either-kind ks false x y p q = q

self-has : (k : ℕ) (l : List ℕ) → T (has (k ∷ l) k)
unfolding has
self-has k l = rw (eq-eqb k k refl) tt

next-has : (a k : ℕ) (l : List ℕ) → T (has l k) → T (has (a ∷ l) k)
unfolding has
next-has a k l t = or_right (eqb a k) (has l k) t

type-kind : (c : ℕ) → T (has (span kind.Alias kind.Unsigned) (type_name_head c).kind)
unfolding type_name_head has span count
type-kind c =
    let ks = span kind.Alias kind.Unsigned in
    either-kind ks (eqb c class.bool) (rec.plain kind.BoolType) _ tt
    (either-kind ks (has class.unsigned_types c) (head kind.Unsigned _ 0) _ tt (either-kind ks (has class.builtin_types c) (head kind.Builtin _ 0) (rec.plain kind.Alias) tt tt))

wrapper-kinds : T (all (λ c. has (possible aName) (wrapper_head c).kind) wrappers)
unfolding all has possible wrapper_head place_in
wrapper-kinds = tt

called-kind : (w : List Sort) → T (has (possible aName) (called_head w).kind)
unfolding called_head call_head possible
called-kind w = go (has wrappers (opening w)) refl (lone w)
  where
    go : (a : Bool) → has wrappers (opening w) ≡ a → (b : Bool) → T (has (possible aName) (cond (a && b) (wrapper_head (opening w)) (call_head (opening w))).kind)
    go true e true = all-has (λ c. has (possible aName) (wrapper_head c).kind) wrappers (opening w) wrapper-kinds (subst (λ y. T y) (sym e) tt)
    go true e false = self-has kind.Call _
    go false e b = self-has kind.Call _

name-kind : (w : List Sort) → T (has (possible aName) (name_head w).kind)
unfolding name_head call_head alone_head possible has
name-kind w =
    either-kind (possible aName) (sees class.LAngle w) (call_head (opening w)) _ tt
    (either-kind (possible aName) (sees class.DoubleColon w) (head kind.EnumConstruction _ 0) _ tt
    (either-kind (possible aName) (sees class.LParen w) (called_head w) _ (called-kind w)
    (either-kind (possible aName) (eqb (opening w) class.None) (rec.plain kind.None) (rec.plain kind.Variable) tt tt)))

literal-kind : (c : ℕ) → T (has (span kind.Boolean kind.ParameterValue) (literal_head c).kind)
unfolding literal_head has span count
literal-kind c = go (eqb c class.false) (eqb c class.true) (eqb c class.DecLiteral) (eqb c class.HexLiteral) (eqb c class.BinLiteral) (eqb c class.Witness)
  where
    go : (a b d e f g : Bool) → T (has (span kind.Boolean kind.ParameterValue) (cond a (head kind.Boolean 0 0) (cond b (head kind.Boolean 1 0) (cond d (rec.plain kind.Decimal) (cond e (rec.plain kind.Hexadecimal) (cond f (rec.plain kind.Binary) (cond g (rec.plain kind.Witness) (rec.plain kind.ParameterValue))))))).kind)
    go true b d e f g = tt
    go false true d e f g = tt
    go false false true e f g = tt
    go false false false true f g = tt
    go false false false false true g = tt
    go false false false false false true = tt
    go false false false false false false = tt

-- A form decides one of its kinds.
pub kind-possible : (f : Form) (text : List ℕ) (n : ℕ) (w : List Sort) → T (has (possible f) (head_of f text n w).kind)
unfolding head_of possible has function_head pattern_name_head arm_head
kind-possible (always k) text n w = self-has k []
kind-possible (numbered k) text n w = self-has k []
kind-possible (angled k) text n w = either-kind (k ∷ kind.Alias ∷ []) (sees class.LAngle w) (wide k n) (rec.plain kind.Alias) (self-has k (kind.Alias ∷ [])) (next-has k kind.Alias (kind.Alias ∷ []) tt)
kind-possible (lonely k j) text n w = either-kind (k ∷ j ∷ []) (lone w) (rec.plain k) (rec.plain j) (self-has k (j ∷ [])) (next-has k j (j ∷ []) (self-has j []))
kind-possible aFunction text n w = tt
kind-possible aTypeName text n w = type-kind (opening w)
kind-possible aPatternName text n w = either-kind (kind.IdentifierPattern ∷ kind.IgnorePattern ∷ []) (eqb (opening w) class.Ident && same text (ascii "_")) (rec.plain kind.IgnorePattern) (rec.plain kind.IdentifierPattern) tt tt
kind-possible aLiteral text n w = literal-kind (opening w)
kind-possible aName text n w = name-kind w
kind-possible anArm text n w = either-kind family.arms (sees class.DoubleColon w) (head kind.EnumArm _ _) (head kind.BuiltinArm _ 0) tt tt
kind-possible aBlock text n w = tt
kind-possible aMatch text n w = either-kind (kind.Match ∷ kind.EnumMatch ∷ []) (ltb 0 (counted (kind.EnumArm ∷ []) w)) (rec.plain kind.EnumMatch) (rec.plain kind.Match) tt tt

-- Each shape of each category has a law, and only kinds of its category.
unfoldable pub sound_kind : ℕ → ℕ → Bool
sound_kind C k = ltb k shape_count && all (has (kinds_in C)) (possible (form_of k))

sound-kinds : T (all_below (λ C. all (sound_kind C) (shape.kinds_of shapes C)) category_count)
unfolding all_below all sound_kind shape.kinds_of shapes kinds_in possible form_of has span count
sound-kinds = tt

nth-all : {A : Type 0} (f : A → Bool) (l : List A) (i : ℕ) {a : A} → T (all f l) → get_elem? l i ≡ some a → T (f a)
unfolding all
nth-all f [] i t e = nth-none i e
nth-all f (x ∷ l) zero {a} t e = let q : x ≡ a = cc in subst (λ y. T (f y)) q (first-of (f x) (all f l) t)
nth-all f (x ∷ l) (suc i) t e = nth-all f l i (second-of (f x) (all f l) t) e

sound-at : (C i k : ℕ) → get_elem? (shape.kinds_of shapes C) i ≡ some k → T (sound_kind C k)
unfolding shape.kinds_of shapes
sound-at C i k e = go (ltb C category_count) refl
  where
    go : (b : Bool) → ltb C category_count ≡ b → T (sound_kind C k)
    go true q = nth-all (sound_kind C) (shape.kinds_of shapes C) i (below_all (λ D. all (sound_kind D) (shape.kinds_of shapes D)) category_count sound-kinds C (ltb-true C category_count q)) e
    go false q =
        let l = ltb-false C category_count q in
        let z = get_or-eq_default shapes.kinds [] {n = C} (omega arith) in
        nth-none i (ap (λ x. get_elem? x i) (sym z) ∙ e)

pub has-law : (C i k : ℕ) → get_elem? (shape.kinds_of shapes C) i ≡ some k → k < shape_count
unfolding sound_kind
has-law C i k e = ltb-true k shape_count (is_true (ltb k shape_count) (first-of (ltb k shape_count) (all (has (kinds_in C)) (possible (form_of k))) (sound-at C i k e)))

-- The record of a shape is of a kind of its category.
pub kind-of-category : (C i k : ℕ) → get_elem? (shape.kinds_of shapes C) i ≡ some k → (text : List ℕ) (n : ℕ) (w : List Sort) → T (has (kinds_in C) (head_of (form_of k) text n w).kind)
unfolding sound_kind
kind-of-category C i k e text n w =
    has_within (possible (form_of k)) (kinds_in C) (second-of (ltb k shape_count) (all (has (kinds_in C)) (possible (form_of k))) (sound-at C i k e)) (head_of (form_of k) text n w).kind
    (kind-possible (form_of k) text n w)
