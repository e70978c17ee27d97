-- Tokens in their roles, as a rule sees them, and a computed test that what one shape spells, its tokens in their roles, another spells.
-- Assumes nothing.
use Rattle.std.specs.Prelude.{Bool, true, false, ◌&&◌, ◌≡◌, refl, ℕ, eqb}
use mathlib.Core.List.{List, [], ◌∷◌, ◌++◌}
use Rattle.std.proofs.Common.{sym, ap, ◌∙◌}
use Rattle.std.proofs.Math.Path.{subst}
use Rattle.std.proofs.Math.Dec.{T, eqb→eq}
use Rattle.text.proofs.Table.{first-of, second-of}
use Rattle.text.specs.Lists.{some, all, has}
use Rattle.text.proofs.ListLaws.{some-sound, all-some, from_some, all-has}
use Rattle.own.specs.Tree.{Tok, Items, none, mark, sub, yield}
use Rattle.own.specs.Law.{Sort, word, child, sorts, first_class}
use Rattle.own.specs.Kinds as kind
use Rattle.kinds.specs.Shape.{Part, of, name, arm, bound, size, Shape, nothing, never, part, ◌▸◌, ◌¦◌, many, fits, Spells, one_mark, one_part, right, stop, more}
use Rattle.kinds.specs.Shape as k
use Rattle.lexer.specs.Classes as class
use Rattle.grammar.proofs.Spelled.Rules.{has_within}
use Rattle.grammar.proofs.Spelled.Rows.{Row, r_end, r_more, variants, variants-in, variants-out}
use Rattle.grammar.specs.Records.Records.{Role, aMark, asName, as_number, role_of, placed, arranged, low_half, high_half}

-- A token of a class in its role; the number is n.
unfoldable pub roled : Role → ℕ → ℕ → Sort
roled aMark n c = word c
roled asName n c = child kind.Name 0 0 c
roled as_number n c = child kind.Number (low_half n) (high_half n) c

-- The pieces of a record of this kind, each token in its role.
unfoldable pub dealt : ℕ → ℕ → List Sort → List Sort
dealt K n [] = []
dealt K n (word c ∷ w) = roled (role_of K c) n c ∷ dealt K n w
dealt K n (child k l h d ∷ w) = child k l h d ∷ dealt K n w

pub dealt-append : (K n : ℕ) (v w : List Sort) → dealt K n (v ++ w) ≡ dealt K n v ++ dealt K n w
unfolding dealt
dealt-append K n [] w = refl
dealt-append K n (word c ∷ v) w = ap (λ l. roled (role_of K c) n c ∷ l) (dealt-append K n v w)
dealt-append K n (child k l h d ∷ v) w = ap (λ m. child k l h d ∷ m) (dealt-append K n v w)

sorts-placed : (o : Role) (n : ℕ) (t : Tok) (r : Items) → sorts (placed o n t r) ≡ roled o n t.class ∷ sorts r
unfolding placed roled
sorts-placed aMark n t r = refl
sorts-placed asName n t r = refl
sorts-placed as_number n t r = refl

-- They are the pieces of the arranged record.
pub sorts-arranged : (K n : ℕ) (is : Items) → sorts (arranged K n is) ≡ dealt K n (sorts is)
unfolding arranged dealt
sorts-arranged K n none = refl
sorts-arranged K n (mark t r) =
    sorts-placed (role_of K t.class) n t (arranged K n r) ∙ ap (λ l. roled (role_of K t.class) n t.class ∷ l) (sorts-arranged K n r)
sorts-arranged K n (sub k l h js r) = ap (λ m. child k l h (first_class (yield js)) ∷ m) (sorts-arranged K n r)

-- ---- the test

-- The classes of a mark; none of any other shape.
unfoldable pub marks_of : Shape → List ℕ
marks_of nothing = []
marks_of never = []
marks_of (k.mark cs) = cs
marks_of (part p) = []
marks_of (a ▸ b) = []
marks_of (a ¦ b) = []
marks_of (many a) = []

marks-spell : (b : Shape) (c : ℕ) → T (has (marks_of b) c) → Spells b (word c ∷ [])
unfolding marks_of has
marks-spell nothing c h = absurd h
marks-spell never c h = absurd h
marks-spell (k.mark cs) c h = one_mark c h
marks-spell (part p) c h = absurd h
marks-spell (a ▸ b) c h = absurd h
marks-spell (a ¦ b) c h = absurd h
marks-spell (many a) c h = absurd h

-- Whether a shape is a part that passes a test.
unfoldable pub is_part : (Part → Bool) → Shape → Bool
is_part f nothing = false
is_part f never = false
is_part f (k.mark cs) = false
is_part f (part p) = f p
is_part f (a ▸ b) = false
is_part f (a ¦ b) = false
is_part f (many a) = false

part-spells : (f : Part → Bool) (x : Sort) → ((p : Part) → T (f p) → Spells (part p) (x ∷ [])) → (b : Shape) → T (is_part f b) → Spells b (x ∷ [])
unfolding is_part
part-spells f x g nothing h = absurd h
part-spells f x g never h = absurd h
part-spells f x g (k.mark cs) h = absurd h
part-spells f x g (part p) h = g p h
part-spells f x g (a ▸ b) h = absurd h
part-spells f x g (a ¦ b) h = absurd h
part-spells f x g (many a) h = absurd h

-- The kinds of a part; none of one that asks for more than a kind.
unfoldable pub kinds_of : Part → List ℕ
kinds_of (of ks) = ks
kinds_of (name cs) = []
kinds_of (arm m) = []
kinds_of bound = []
kinds_of size = []

kinds-fit : (p : Part) (k l h c : ℕ) → T (has (kinds_of p) k) → T (fits p k l h c)
unfolding kinds_of fits has
kinds-fit (of ks) k l h c t = t
kinds-fit (name cs) k l h c t = absurd t
kinds-fit (arm m) k l h c t = absurd t
kinds-fit bound k l h c t = absurd t
kinds-fit size k l h c t = absurd t

-- the same the other way round, for a part that asks for a kind only
unfoldable pub only_kinds : Part → Bool
only_kinds (of ks) = true
only_kinds (name cs) = false
only_kinds (arm m) = false
only_kinds bound = false
only_kinds size = false

pub fit-kinds : (p : Part) (k l h c : ℕ) → T (only_kinds p) → T (fits p k l h c) → T (has (kinds_of p) k)
unfolding kinds_of fits only_kinds
fit-kinds (of ks) k l h c u t = t
fit-kinds (name cs) k l h c u t = absurd u
fit-kinds (arm m) k l h c u t = absurd u
fit-kinds bound k l h c u t = absurd u
fit-kinds size k l h c u t = absurd u

-- In rows, shape by shape.
unfoldable pub row_in : (Shape → Shape → Bool) → List Shape → List Shape → Bool
row_in f [] [] = true
row_in f [] (b ∷ m) = false
row_in f (a ∷ l) [] = false
row_in f (a ∷ l) (b ∷ m) = f a b && row_in f l m

-- Each row of the first is in some row of the second.
unfoldable pub shape_in : (Shape → Shape → Bool) → Shape → Shape → Bool
shape_in f a b = all (λ l. some (row_in f l) (variants b)) (variants a)

-- The kind of the record, the number of its decimal, and the parts that this number is.
module _ (K n : ℕ) (ok : Part → Bool) where
  -- a token in its role
  unfoldable pub token_in : Role → ℕ → Shape → Bool
  token_in aMark c b = has (marks_of b) c
  token_in asName c b = is_part (λ p. fits p kind.Name 0 0 c) b
  token_in as_number c b = eqb c class.DecLiteral && is_part ok b

  -- a token or a part
  unfoldable pub piece_in : Shape → Shape → Bool
  piece_in nothing b = false
  piece_in never b = false
  piece_in (k.mark cs) b = all (λ c. token_in (role_of K c) c b) cs
  piece_in (part p) b = only_kinds p && is_part (λ q. all (has (kinds_of q)) (kinds_of p)) b
  piece_in (x ▸ y) b = false
  piece_in (x ¦ y) b = false
  piece_in (many a) b = false

  -- any number of times
  unfoldable pub many_in : Shape → Shape → Bool
  many_in a nothing = false
  many_in a never = false
  many_in a (k.mark cs) = false
  many_in a (part p) = false
  many_in a (x ▸ y) = false
  many_in a (x ¦ y) = false
  many_in a (many b) = shape_in piece_in a b

  -- a token, a part, or any number of rows of them
  unfoldable pub atom_in : Shape → Shape → Bool
  atom_in nothing b = false
  atom_in never b = false
  atom_in (k.mark cs) b = piece_in (k.mark cs) b
  atom_in (part p) b = piece_in (part p) b
  atom_in (x ▸ y) b = false
  atom_in (x ¦ y) b = false
  atom_in (many a) b = many_in a b

  -- The test.
  unfoldable pub into : Shape → Shape → Bool
  into a b = shape_in atom_in a b

  abbrev Into : Shape → Shape → Type 0
  Into a b = (w : List Sort) → Spells a w → Spells b (dealt K n w)

  abbrev Sound : (Shape → Shape → Bool) → Type 0
  Sound f = (a b : Shape) → T (f a b) → Into a b

  row-sound : (f : Shape → Shape → Bool) → Sound f → (l m : List Shape) → T (row_in f l m) → {w : List Sort} → Row l w → Row m (dealt K n w)
  unfolding row_in dealt
  row-sound f s [] [] t r_end = r_end
  row-sound f s [] (b ∷ m) t r = absurd t
  row-sound f s (a ∷ l) [] t r = absurd t
  row-sound f s (a ∷ l) (b ∷ m) t (r_more {v = v} {w = w} p r) =
      subst (λ (u : List Sort). Row (b ∷ m) u) (sym (dealt-append K n v w))
      (r_more (s a b (first-of (f a b) (row_in f l m) t) v p) (row-sound f s l m (second-of (f a b) (row_in f l m) t) r))

  shape-sound : (f : Shape → Shape → Bool) → Sound f → Sound (shape_in f)
  unfolding shape_in
  shape-sound f s a b t w p =
      variants-out b (from_some (λ l x. some-sound (row_in f l) (λ m u. row-sound f s l m u x.1) (variants b) x.0)
      (all-some (λ l. some (row_in f l) (variants b)) t (variants-in p)))

  module _ (right : (p : Part) → T (ok p) → T (fits p kind.Number (low_half n) (high_half n) class.DecLiteral)) where
    token-sound : (o : Role) (c : ℕ) (b : Shape) → T (token_in o c b) → Spells b (roled o n c ∷ [])
    unfolding token_in roled
    token-sound aMark c b t = marks-spell b c t
    token-sound asName c b t = part-spells (λ p. fits p kind.Name 0 0 c) (child kind.Name 0 0 c) (λ p u. one_part kind.Name 0 0 c u) b t
    token-sound as_number c b t =
        let e = eqb→eq c class.DecLiteral (first-of (eqb c class.DecLiteral) (is_part ok b) t) in
        part-spells ok (child kind.Number (low_half n) (high_half n) c)
        (λ p u. one_part kind.Number (low_half n) (high_half n) c (subst (λ (x : ℕ). T (fits p kind.Number (low_half n) (high_half n) x)) (sym e) (right p u))) b
        (second-of (eqb c class.DecLiteral) (is_part ok b) t)

    piece-sound : Sound piece_in
    unfolding piece_in dealt
    piece-sound nothing b t w p = absurd t
    piece-sound never b t w p = absurd t
    piece-sound (k.mark cs) b t w (one_mark c h) = token-sound (role_of K c) c b (all-has (λ x. token_in (role_of K x) x b) cs c t h)
    piece-sound (part p) b t w (one_part k l h c i) =
        let u = first-of (only_kinds p) (is_part (λ q. all (has (kinds_of q)) (kinds_of p)) b) t in
        part-spells (λ q. all (has (kinds_of q)) (kinds_of p)) (child k l h c)
        (λ q v. one_part k l h c (kinds-fit q k l h c (has_within (kinds_of p) (kinds_of q) v k (fit-kinds p k l h c u i)))) b
        (second-of (only_kinds p) (is_part (λ q. all (has (kinds_of q)) (kinds_of p)) b) t)
    piece-sound (x ▸ y) b t w p = absurd t
    piece-sound (x ¦ y) b t w p = absurd t
    piece-sound (many a) b t w p = absurd t

    many-deals : {a b : Shape} → Into a b → {w : List Sort} → Spells (many a) w → Spells (many b) (dealt K n w)
    unfolding dealt
    many-deals f stop = stop
    many-deals {a} {b} f (more {v = v} {w = w} p q) =
        subst (λ (u : List Sort). Spells (many b) u) (sym (dealt-append K n v w)) (more (f v p) (many-deals f q))

    many-sound : (a b : Shape) → T (many_in a b) → Into (many a) b
    unfolding many_in
    many-sound a nothing t w p = absurd t
    many-sound a never t w p = absurd t
    many-sound a (k.mark cs) t w p = absurd t
    many-sound a (part q) t w p = absurd t
    many-sound a (x ▸ y) t w p = absurd t
    many-sound a (x ¦ y) t w p = absurd t
    many-sound a (many b) t w p = many-deals (shape-sound piece_in piece-sound a b t) p

    atom-sound : Sound atom_in
    unfolding atom_in
    atom-sound nothing b t w p = absurd t
    atom-sound never b t w p = absurd t
    atom-sound (k.mark cs) b t w p = piece-sound (k.mark cs) b t w p
    atom-sound (part q) b t w p = piece-sound (part q) b t w p
    atom-sound (x ▸ y) b t w p = absurd t
    atom-sound (x ¦ y) b t w p = absurd t
    atom-sound (many a) b t w p = many-sound a b t w p

    -- Where the test passes, what the first shape spells, its tokens in their roles, the second spells.
    pub into-sound : Sound into
    unfolding into
    into-sound a b t w p = shape-sound atom_in atom-sound a b t w p

    -- The same of one row.
    pub row-into : (l : List Shape) (b : Shape) → T (some (row_in atom_in l) (variants b)) → {w : List Sort} → Row l w → Spells b (dealt K n w)
    row-into l b t r = variants-out b (some-sound (row_in atom_in l) (λ m u. row-sound atom_in atom-sound l m u r) (variants b) t)
