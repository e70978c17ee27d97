-- How the shapes are written: short names for forms of expressions.
-- Assumes nothing.
use Rattle.std.specs.Prelude.{cond, List, [], ◌∷◌, ℕ}
use Rattle.text.specs.Lists.{has}
use Rattle.theory.specs.Ebnf.{Ex, eps, mark, seq, or, list, tail}
use Rattle.lexer.specs.Classes as t

-- How expressions are written: `e ⨾ f` is e and then f, `e ¦ f` is e or f, `optional e` is e or nothing.
infixr 42 ◌⨾◌
infixr 41 ◌¦◌
abbrev pub ◌⨾◌ : Ex → Ex → Ex
e ⨾ f = seq e f

abbrev pub ◌¦◌ : Ex → Ex → Ex
e ¦ f = or e f

abbrev pub optional : Ex → Ex
optional e = eps ¦ e

-- a token of one of the classes, of which there is at least one
abbrev pub one_of : List ℕ → Ex
one_of [] = eps
one_of (c ∷ []) = mark c
one_of (c ∷ d ∷ l) = mark c ¦ one_of (d ∷ l)

-- the classes of the first list that are not in the second
infixl 61 ◌but◌
abbrev pub ◌but◌ : List ℕ → List ℕ → List ℕ
[] but l = []
(a ∷ k) but l = cond (has l a) (k but l) (a ∷ (k but l))

-- "Lists may be empty and may end in a comma, save where said"; `commas1` is a list of at least one.
abbrev pub commas : Ex → Ex
commas e = list e t.Comma

abbrev pub commas1 : Ex → Ex
commas1 e = e ⨾ tail e t.Comma

-- e in round, square, curly and angle brackets
abbrev pub round : Ex → Ex
round e = mark t.LParen ⨾ e ⨾ mark t.RParen

abbrev pub square : Ex → Ex
square e = mark t.LBracket ⨾ e ⨾ mark t.RBracket

abbrev pub curly : Ex → Ex
curly e = mark t.LBrace ⨾ e ⨾ mark t.RBrace

abbrev pub angle : Ex → Ex
angle e = mark t.LAngle ⨾ e ⨾ mark t.RAngle
