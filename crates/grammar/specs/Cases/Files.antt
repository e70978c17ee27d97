-- Files (document 02, order 3): what the definitions make of some is computed. What is said of each is worked out by hand from the order; refusals and
-- kinds are in its figures.
-- Assumes nothing.
use Rattle.std.specs.Prelude.{List, [], ◌∷◌, map, ◌≡◌, refl}
use Rattle.text.specs.Ascii.{ascii, ascii_from}
use Rattle.grammar.specs.Cases.Cases.{refused_with, records, lists, Case, defined, as_file, whole}
use Rattle.grammar.specs.Cases.Known.{text_lines}

unfoldable files : List Case
files =
    -- "an empty file is now accepted by this entry"
    as_file "" (lists 41 (text_lines ("29 0000 0000 00000000 00000000 0001 0000" ∷ [])))
    ∷ as_file " // no item" (lists 41 (text_lines ("29 0000 000B 00000000 00000000 0001 0000" ∷ [])))
    -- a type item and a function; the program above them, "from 0 to the draft's length"
    ∷ as_file " type A=u8; fn f(){} "
    (lists 287 (text_lines (
    "29 0000 0015 00000000 00000000 0007 0000"
    ∷ "2A 0001 000B 00000000 00000000 0003 0001"
    ∷ "02 0006 0007 00000000 00000000 0001 0001"
    ∷ "07 0008 000A 00000008 00000000 0001 0002"
    ∷ "01 000C 0014 00000000 00000000 0003 0004"
    ∷ "02 000F 0010 00000000 00000000 0001 0001"
    ∷ "12 0012 0014 00000000 00000000 0001 0002"
    ∷ [])))
    -- items of both sorts in any order; names that the rules tell apart but ALIAS_RESERVED has not
    ∷ as_file "fn f(){}pub fn g(){}type Left=Either;type fold=();" (records 13)
    -- names in ALIAS_RESERVED, and one that is near
    ∷ as_file "type u8=A;" (refused_with 8 5)
    ∷ as_file "type Nonce=A;" (refused_with 8 5)
    ∷ as_file "type Either=A;" (refused_with 8 5)
    ∷ as_file "type bool_=A;" (records 4)
    -- 8 speaks of files: what is no item, what an item cannot go on with, the end
    ∷ as_file "fn f(){};" (refused_with 8 8)
    ∷ as_file "pub type A=u8;" (refused_with 8 4)
    ∷ as_file "type A:u8;" (refused_with 8 6)
    ∷ as_file "type A=u8" (refused_with 8 9)
    ∷ as_file "pub" (refused_with 8 3)
    -- the refusals of a type, in an item
    ∷ as_file "type A=List<u8,3>;" (refused_with 9 15)
    ∷ as_file "type A=[u8;18446744073709551616];" (refused_with 19 11)
    -- the other entry: "The single-function entry answers as before"
    ∷ whole "" (refused_with 8 0)
    ∷ whole "type A=u8;" (refused_with 8 0)
    ∷ whole "fn f(){}fn g(){}" (refused_with 8 8)
    ∷ []

-- The definitions say so.
files-agree : map defined files ≡ map (λ k. k.result) files
unfolding files defined text_lines ascii ascii_from
files-agree = refl
