-- The drafts of document 01 that are marked ●, "Drafts with known results" and the listing's example, as one list with what the paper
-- says of each; and one proof by computation that the definitions agree. Where the paper's drafts have ~ the fat arrow `=>` stands.
-- Refusals and kinds are in the paper's figures, so that the names for them are tested too.
-- Assumes nothing.
use Rattle.std.specs.Prelude.{List, [], ◌∷◌, ◌++◌, map, ◌≡◌, refl, ℕ}
use Prim.Native.String.{String}
use Rattle.text.specs.Ascii.{ascii, ascii_from}
use Rattle.lines.specs.Form.{LF}
use Rattle.grammar.specs.Cases.Cases.{refused_with, records, kind_of_b, lists, Case, defined, whole, in_braces}

-- Lines of text as bytes, LF after each.
unfoldable pub text_lines : List String → List ℕ
text_lines [] = []
text_lines (s ∷ ss) = ascii s ++ (LF ∷ text_lines ss)

-- The drafts marked ●.
unfoldable pub known : List Case
known =
    in_braces "match b{true=>1,false=>2,}"
    (lists 369 (text_lines (
    "01 0000 0022 00000000 00000000 0009 0000"
    ∷ "02 0003 0004 00000000 00000000 0001 0001"
    ∷ "12 0006 0022 00000001 00000000 0007 0002"
    ∷ "23 0007 0021 00000000 00000000 0006 0001"
    ∷ "1D 000D 000E 00000000 00000000 0001 0001"
    ∷ "25 0017 0020 00000005 00000000 0002 0002"
    ∷ "18 001E 001F 00000000 00000000 0001 0001"
    ∷ "25 000F 0017 00000006 00000000 0002 0004"
    ∷ "18 0015 0016 00000000 00000000 0001 0001"
    ∷ [])))
    ∷ whole "" (refused_with 8 0)
    ∷ in_braces "" (records 3)
    ∷ in_braces "Left(1)" (kind_of_b 19 5)
    ∷ in_braces "Left(1,)" (kind_of_b 39 6)
    ∷ in_braces "match x{A::B()=>1,}" (refused_with 8 20)
    ∷ in_braces "{1} 2" (refused_with 8 11)
    ∷ in_braces "fold(x)" (refused_with 8 11)
    ∷ in_braces "match x{true=>1,false=>2}" (refused_with 8 31)
    ∷ in_braces "match x{}" (refused_with 11 7)
    ∷ in_braces "match x{true=>1,}" (refused_with 13 7)
    ∷ in_braces "match x{None=>1,true=>2,}" (refused_with 14 7)
    ∷ in_braces "fold::<g,3>(x)" (refused_with 9 16)
    ∷ in_braces "array_fold::<g,0>(x)" (refused_with 10 22)
    ∷ []

-- The definitions agree with the paper.
pub known-agree : map defined known ≡ map (λ k. k.result) known
unfolding known defined text_lines ascii ascii_from
known-agree = refl
