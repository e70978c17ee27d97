-- Every token of a shape tree is of a class that tokens have: so a draft can be written for every yield.
-- Assumes nothing.
use Rattle.std.specs.Prelude.{Bool, true, ◌&&◌, ◌≡◌, ℕ, zero, suc, T, get_or}
use mathlib.Core.List.{List, [], ◌∷◌, Memᴰ}
use Rattle.std.proofs.Math.Option.{some}
use mathlib.Core.Option.{none-ne-some}
use Rattle.std.proofs.Common.{sym, subst}
use Rattle.std.proofs.Math.ListN.{get_elem?}
use Rattle.text.specs.Lists.{all}
use Rattle.text.specs.Ascii.{ascii, ascii_from}
use Rattle.text.specs.Same.{same}
use Rattle.text.proofs.Table.{first-of, second-of}
use Rattle.words.specs.Words.{FUNCTION_RESERVED, MACROS, RULE_NAMES, BOOLEANS, BOOL, UINT_TYPES, BUILTIN_ALIASES, TYPE_NAMES, RULE_WORDS, find, word_of}
use Rattle.lexer.specs.ClassTexts.{never_given, given, AllGiven}
use Rattle.lexer.specs.Class.{class_of}
use Rattle.own.specs.Lists.{All, nil, ◌&◌}
use Rattle.own.proofs.Lists.{all_append}
use Rattle.theory.specs.Ebnf.{Ex, eps, mark, child, part, seq, or, many, list, tail, items, branches, choices, body_of, Items, yield, Match, m_end, m_word, m_sub, m_choice}
use Rattle.grammar.specs.Shapes.Shapes.{shapes}
use Rattle.grammar.specs.Entry.{Entry, single_function, whole_file}
use Rattle.grammar.specs.Shapes.WellShaped.{WellShaped}

-- The tokens that an expression names are of such classes,
unfoldable marks_given : Ex → Bool
marks_given eps = true
marks_given (mark c) = given c
marks_given (child C) = true
marks_given (part P) = true
marks_given (seq e f) = marks_given e && marks_given f
marks_given (or e f) = marks_given e && marks_given f
marks_given (many e) = marks_given e
marks_given (list e c) = marks_given e && given c
marks_given (tail e c) = marks_given e && given c

-- and so in a row of expressions.
abbrev Fine : Ex → Type 0
Fine e = T (marks_given e)

abbrev Rows : List (List Ex) → Type 0
Rows = All (All Fine)

items-fine : (e : Ex) → Fine e → All Fine (items e)
unfolding marks_given items
items-fine eps h = nil
items-fine (mark c) h = h & nil
items-fine (child C) h = h & nil
items-fine (part P) h = h & nil
items-fine (seq e f) h = all_append (items-fine e (first-of (marks_given e) (marks_given f) h)) (items-fine f (second-of (marks_given e) (marks_given f) h))
items-fine (or e f) h = h & nil
items-fine (many e) h = h & nil
items-fine (list e c) h = h & nil
items-fine (tail e c) h = h & nil

branches-fine : (e : Ex) → Fine e → Rows (branches e)
unfolding marks_given branches items
branches-fine eps h = nil & nil
branches-fine (mark c) h = (h & nil) & nil
branches-fine (child C) h = (h & nil) & nil
branches-fine (part P) h = (h & nil) & nil
branches-fine (seq e f) h = items-fine (seq e f) h & nil
branches-fine (or e f) h = all_append (branches-fine e (first-of (marks_given e) (marks_given f) h)) (branches-fine f (second-of (marks_given e) (marks_given f) h))
branches-fine (many e) h = (h & nil) & nil
branches-fine (list e c) h = (h & nil) & nil
branches-fine (tail e c) h = (h & nil) & nil

-- those of a list, and the one past its end
at-fine : {l : List Ex} → All Fine l → (i : ℕ) → Fine (get_or l i eps)
unfolding marks_given
at-fine nil i = tt
at-fine (h & a) zero = h
at-fine (h & a) (suc i) = at-fine a i

all-fine : (l : List Ex) → T (all marks_given l) → All Fine l
unfolding all
all-fine [] h = nil
all-fine (e ∷ l) h = first-of (marks_given e) (all marks_given l) h & all-fine l (second-of (marks_given e) (all marks_given l) h)

-- computed over the shapes and the parts
shapes-pass : T (all marks_given shapes.bodies) × T (all marks_given shapes.parts)
unfolding shapes all marks_given given never_given class_of word_of find same FUNCTION_RESERVED MACROS RULE_NAMES BOOLEANS BOOL UINT_TYPES BUILTIN_ALIASES TYPE_NAMES RULE_WORDS ascii ascii_from
shapes-pass = (tt, tt)

bodies-fine : All Fine shapes.bodies
bodies-fine = all-fine shapes.bodies shapes-pass.0

parts-fine : All Fine shapes.parts
parts-fine = all-fine shapes.parts shapes-pass.1

choices-fine : (e : Ex) → Fine e → Rows (choices shapes e)
unfolding choices branches marks_given items
choices-fine eps h = nil & nil
choices-fine (mark c) h = nil
choices-fine (child C) h = nil
choices-fine (part P) h = branches-fine (get_or shapes.parts P eps) (at-fine parts-fine P)
choices-fine (seq e f) h = items-fine (seq e f) h & nil
choices-fine (or e f) h = branches-fine (or e f) h
choices-fine (many e) h = nil & (all_append (items-fine e h) (h & nil)) & nil
choices-fine (list e c) h = nil & (all_append (items-fine e (first-of (marks_given e) (given c) h)) (h & nil)) & nil
choices-fine (tail e c) h = nil & (second-of (marks_given e) (given c) h & h & nil) & nil

nth-fine : {l : List (List Ex)} → Rows l → (i : ℕ) {α : List Ex} → get_elem? l i ≡ some α → All Fine α
nth-fine nil i e = absurd (none-ne-some _ e)
nth-fine (h & a) zero e = subst (All Fine) (cc) h
nth-fine (h & a) (suc i) e = nth-fine a i e

all-tail-of : {A : Type 0} {P : A → Type 0} {a : A} {l : List A} → All P (a ∷ l) → P a × All P l
all-tail-of (p & h) = (p, h)

yield-given : {es : List Ex} {r : Items} → Match shapes es r → All Fine es → All (λ c. T (given c)) (yield r)
unfolding yield body_of marks_given
yield-given m_end a = nil
yield-given (m_word m) a = let h = all-tail-of a in h.0 & yield-given m h.1
yield-given (m_sub {k = k} i e m n) a =
    all_append (yield-given m (items-fine (get_or shapes.bodies k eps) (at-fine bodies-fine k))) (yield-given n (all-tail-of a).1)
yield-given (m_choice {e = e} i q m) a = let h = all-tail-of a in yield-given m (all_append (nth-fine (choices-fine e h.0) i q) h.1)

each : {P : ℕ → Type 0} {l : List ℕ} → All P l → (c : ℕ) → Memᴰ c l → P c
each {P = P} nil c x3 = elim x3 [ ]
each {P} (p & a) c (Memᴰ.head e) = subst P (sym e) p
each (p & a) c (Memᴰ.tail m) = each a c m

-- The classes of a well-shaped draft are classes that tokens have.
pub well-shaped-given : (en : Entry) (cs : List ℕ) → WellShaped en cs → AllGiven cs
unfolding marks_given
well-shaped-given single_function cs w = subst AllGiven w.2 (each (yield-given w.1 (tt & nil)))
well-shaped-given whole_file cs w = subst AllGiven w.2 (each (yield-given w.1 (tt & nil)))
