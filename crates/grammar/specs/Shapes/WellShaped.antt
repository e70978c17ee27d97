-- Well-shaped drafts, over the classes of their tokens: what a shape tree is, and the function that finds it (document 01, "Well-shaped drafts" and row
-- 8 of "What the reader hands over"; limits and refusals 9 to 14, and so 19, are left aside, as it says; "8 now speaks of well-shaped files at the new
-- entry", document 02, order 3). The laws of both stand in proofs/Shapes/WellShapedLaws.antt.
-- Assumes nothing.
use Rattle.std.specs.Prelude.{List, [], ◌∷◌, ◌≡◌, ℕ}
use Rattle.theory.specs.Ebnf.{Items, yield, Match}
use Rattle.theory.specs.Parse.{Found, parse}
use Rattle.grammar.specs.Shapes.Shapes.{shapes}
use Rattle.grammar.specs.Shapes.Tables.{table, means}
use Rattle.grammar.specs.Entry.{Entry, start_ex, start_nt}

-- A shape tree of a draft: items that are what the entry reads. Its tokens in order are its `yield`.
abbrev pub Shape : Entry → Items → Type 0
Shape en r = Match shapes (start_ex en ∷ []) r

-- Well-shaped: some shape tree has these classes of tokens as its yield.
abbrev pub WellShaped : Entry → List ℕ → Type 0
WellShaped en cs = (r : Items) × Shape en r × (yield r ≡ cs)

-- The shape tree of these classes of tokens, or the place of the token (or the end) where they are stuck.
unfoldable pub shape_of : Entry → List ℕ → Found
shape_of en cs = parse shapes means table (start_nt en) cs
