-- The answers of the functions on comments, by the definition.
-- Assumes nothing.
use Rattle.std.specs.Prelude.{Bool, true, cond, not, ◌&&◌, ◌||◌, ◌≡◌, List, ℕ, ◌+◌, ◌-◌, ◌≤◌, ◌<◌, eqb, leb, length, get_or, take, drop}
use Rattle.std.proofs.Math.Option.{Option, none, some}
use Rattle.text.specs.Counts.{place_of}
use Rattle.text.specs.declared.refusal.Refusal.TheVariants as code
use Rattle.lexer.specs.Chars.{is}
use Rattle.utf8.specs.Utf8.{bad_at}
use Rattle.lexer.specs.Lexemes.{in_line, closing}
use Rattle.lexer.specs.declared.Step.{Step}
use Rattle.lexer.specs.Step.{refused_step}
use Rattle.lexer.specs.declared.trivia.Edge.{Edge}
use Rattle.lexer.specs.declared.trivia.Edge.TheVariants.{Opens, Closes, Neither}
use Rattle.lexer.specs.declared.trivia.Walked.{Walked}
use Rattle.lexer.specs.declared.trivia.Walked.TheVariants.{Closed, Unclosed, Bad}

-- a `/` stands at i and this byte behind it: a line comment, or a block comment
abbrev pub CommentAt : List ℕ → ℕ → ℕ → Type 0
CommentAt s i b = (get_or s i 0 ≡ 47) × (get_or s (i + 1) 0 ≡ b)

-- a byte up to 127 that is neither of two others
abbrev pub plain_beside : ℕ → ℕ → ℕ → Bool
plain_beside larger smaller b = leb b 127 && not (eqb b larger || eqb b smaller)

-- a byte up to 127 that does not end a line comment, and one that is of no mark of a block comment
abbrev pub plain_in_line : ℕ → Bool
plain_in_line b = leb b 127 && in_line b

abbrev pub plain_in_block : ℕ → Bool
plain_in_block b = leb b 127 && not (is "/" b || is "*" b)

-- two bytes, one behind the other
abbrev pub edge_of : ℕ → ℕ → Edge
edge_of b c = cond (is "/" b && is "*" c) Opens (cond (is "*" b && is "/" c) Closes Neither)

-- the block comment at i with a bad sequence at k, by how many bytes are left of it
abbrev pub broken_of : Option ℕ → ℕ → ℕ → Step
broken_of none i k = refused_step code.Unclosed i
broken_of (some n) i k = refused_step code.NotUtf8 k

-- the place behind what closes a block comment, from a place on and with so many comments open within it
abbrev pub closed_at : List ℕ → ℕ → ℕ → Option ℕ
closed_at s k inner = place_of (closing (drop k s) inner 0) k

-- the first bad place of the bytes from a place up to another
abbrev pub bad_between : List ℕ → ℕ → ℕ → Option ℕ
bad_between s k e = place_of (bad_at (take (e - k) (drop k s))) k

-- how a walk from a place on ends; only one by sequences says that those it passed are well-formed, or that one is not
abbrev pub WalkEnds : Bool → List ℕ → ℕ → ℕ → Walked → Type 0
WalkEnds sequences s from inner (Closed end) = (closed_at s from inner ≡ some end) × (sequences ≡ true → (from ≤ end) × (bad_between s from end ≡ none))
WalkEnds sequences s from inner Unclosed = closed_at s from inner ≡ none
WalkEnds sequences s from inner (Bad place depth) =
    (sequences ≡ true) × (place < length s) × (from ≤ place) × (depth ≤ place) × (closed_at s place depth ≡ closed_at s from inner)
    × ((e : ℕ) → place < e → bad_between s from e ≡ some place)
