-- Two matches side by side, the second with its arms written the other way round: what the definitions come to.
-- Classes are plain numbers here, since trees know no lexer.
-- Assumes nothing.
use Rattle.std.specs.Prelude.{◌≡◌, refl, List, [], ◌∷◌, ℕ, ◌+◌}
use Rattle.own.specs.Tree.{Tok, Items, none, mark, sub, Node, node, partner, canonical, turned, Rec, tokens, records}
use Rattle.own.specs.Flat.{children, owned}
use Rattle.own.specs.Law.{word, child, made}
use Rattle.own.specs.Words.{recs, words}
use Rattle.own.specs.Kinds as kind
use Rattle.own.specs.Arms as arm

abbrev tk : ℕ → ℕ → ℕ → Tok
tk c s e = record { class = c; start = s; stop = e }

abbrev rc : ℕ → ℕ → ℕ → ℕ → ℕ → ℕ → Rec
rc k s e l h n = record { kind = k; start = s; stop = e; low = l; high = h; size = n }

-- `match b{` a b `}` from a place on, with two arms of three tokens: a head, a literal and a comma
abbrev armed : ℕ → ℕ → ℕ → Items → Items
armed low head at r =
    sub kind.BuiltinArm low 0 (mark (tk head at (at + 1)) (mark (tk 19 (at + 1) (at + 2))
    (sub kind.Decimal 0 0 (mark (tk 28 (at + 2) (at + 3)) none) (mark (tk 17 (at + 3) (at + 4)) none)))) r

abbrev two : ℕ → Items → Node
two at arms = node kind.Match 0 0 (mark (tk 9 at (at + 1)) (sub kind.Variable 0 0 (mark (tk 32 (at + 1) (at + 2)) none) (mark (tk 24 (at + 2) (at + 3)) arms)))

-- false before true, then true before false
abbrev trees : List Node
trees =
    two 0 (armed arm.False 61 3 (armed arm.True 62 7 (mark (tk 25 11 12) none)))
    ∷ two 20 (armed arm.True 62 23 (armed arm.False 61 27 (mark (tk 25 31 32) none)))
    ∷ []

its-records : records trees
    ≡ rc kind.Match 0 12 0 0 6 ∷ rc kind.Variable 1 2 0 0 1
    ∷ rc kind.BuiltinArm 3 7 arm.False 0 2 ∷ rc kind.Decimal 5 6 0 0 1
    ∷ rc kind.BuiltinArm 7 11 arm.True 0 2 ∷ rc kind.Decimal 9 10 0 0 1
    ∷ rc kind.Match 20 32 0 0 6 ∷ rc kind.Variable 21 22 0 0 1
    ∷ rc kind.BuiltinArm 27 31 arm.False 0 2 ∷ rc kind.Decimal 29 30 0 0 1
    ∷ rc kind.BuiltinArm 23 27 arm.True 0 2 ∷ rc kind.Decimal 25 26 0 0 1 ∷ []
unfolding partner canonical turned
its-records = refl

its-children : children (records trees) 6 ≡ rc kind.Variable 21 22 0 0 1 ∷ rc kind.BuiltinArm 27 31 arm.False 0 2 ∷ rc kind.BuiltinArm 23 27 arm.True 0 2 ∷ []
unfolding partner canonical turned
its-children = refl

-- what the second match owns, and how a rule sees it: in order of place, so the arm `true` comes first
its_own : owned (tokens trees) (records trees) 6 ≡ tk 9 20 21 ∷ tk 24 22 23 ∷ tk 25 31 32 ∷ []
unfolding partner canonical turned
its_own = refl

its-rule : made (tokens trees) (records trees) 6 ≡ word 9 ∷ child kind.Variable 0 0 32 ∷ word 24 ∷ child kind.BuiltinArm arm.True 0 62 ∷ child kind.BuiltinArm arm.False 0 61 ∷ word 25 ∷ []
unfolding partner canonical turned
its-rule = refl

-- the words of a record buffer, and back
its-words : recs 12 (words trees) ≡ records trees
unfolding partner canonical turned
its-words = refl
