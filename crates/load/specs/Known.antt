-- Listings with known results: the example of document 01, and what orders 1, 3, 7 and 9 say of others, as one list and one proof by computation. Refusals
-- are in the papers' figures, so that the names for them are tested too.
-- Assumes nothing.
use Rattle.std.specs.Prelude.{List, [], ◌∷◌, ◌++◌, map, ◌≡◌, refl, ℕ, suc, take, drop}
use Prim.Native.String.{String}
use Rattle.text.specs.Answers.{Answer, accepted, refused}
use Rattle.text.specs.Ascii.{ascii, ascii_from}
use Rattle.text.specs.Lists.{has, all, some, count, span}
use Rattle.text.specs.Same.{same}
use Rattle.own.specs.Tree.{partner, canonical}
use Rattle.lines.specs.Form.{LF}
use Rattle.lines.specs.Hex.{upper_hex}
use Rattle.lines.specs.Lines.{needs_more, is_long}
use Rattle.num.specs.Bound.{is_bound}
use Rattle.kinds.specs.Derive as derive
use Rattle.kinds.specs.Shape as shape
use Rattle.kinds.specs.Fields.{counted, halves, holds}
use Rattle.kinds.specs.Rules.{forms, all_forms}
use Rattle.kinds.specs.Decide.{forms_for}
use Rattle.load.specs.Bare.{bare_part, bare_shape}
use Rattle.load.specs.FunctionTest.{fits, inside, placed, right, is_whole}
use Rattle.load.specs.Listing.Read.{place_in, digit_of, are_digits, number_of, in_form, values_of, bad_from, bad_line, rows_from, lines_read}
use Rattle.load.specs.Load.{ways_right, load_as, load_of}

-- A listing, a buffer of so many words, and the answer.
record Case : Type 0 where
  text : List ℕ
  room : ℕ
  result : Answer

-- Lines of text as bytes, LF after each, and what stands behind the last LF.
abbrev ended : List String → String → List ℕ
ended [] s = ascii s
ended (l ∷ ls) s = ascii l ++ (LF ∷ ended ls s)

abbrev whole : List String → ℕ → Answer → Case
whole ls n a = record { text = ended ls ""; room = n; result = a }

-- Behind these lines bytes that are no line.
abbrev behind : List String → String → Answer → Case
behind ls s a = record { text = ended ls s; room = 60; result = a }

-- Lines that end with these ways up.
abbrev climbing : List String → List String → List ℕ
climbing [] us = []
climbing (l ∷ ls) [] = []
climbing (l ∷ ls) (u ∷ us) = ascii l ++ (ascii u ++ (LF ∷ climbing ls us))

abbrev higher : List String → List String → ℕ → Answer → Case
higher ls us n a = record { text = climbing ls us; room = n; result = a }

-- Lines with ways up, and behind them others.
abbrev mixed : List String → List String → List String → Answer → Case
mixed ls us ms a = record { text = climbing ls us ++ ended ms ""; room = 63; result = a }

-- Another line in the place of line i, from 0.
abbrev put : ℕ → String → List String → List String
put i s ls = take i ls ++ (s ∷ drop (suc i) ls)

-- Document 01's example,
abbrev paper : List String
paper =
    "01 0000 0022 00000000 00000000 0009"
    ∷ "02 0003 0004 00000000 00000000 0001"
    ∷ "12 0006 0022 00000001 00000000 0007"
    ∷ "23 0007 0021 00000000 00000000 0006"
    ∷ "1D 000D 000E 00000000 00000000 0001"
    ∷ "25 0017 0020 00000005 00000000 0002"
    ∷ "18 001E 001F 00000000 00000000 0001"
    ∷ "25 000F 0017 00000006 00000000 0002"
    ∷ "18 0015 0016 00000000 00000000 0001"
    ∷ []

-- the same with the arms as they are written,
abbrev unexchanged : List String
unexchanged = take 5 paper ++ (drop 7 paper ++ take 2 (drop 5 paper))

-- `fn f(){fold::<g,4>(x)}`,
abbrev folded : List String
folded =
    "01 0000 0016 00000000 00000000 0007"
    ∷ "02 0003 0004 00000000 00000000 0001"
    ∷ "12 0006 0016 00000001 00000000 0005"
    ∷ "27 0007 0015 0000000B 00000000 0004"
    ∷ "02 000E 000F 00000000 00000000 0001"
    ∷ "28 0010 0011 00000004 00000000 0001"
    ∷ "1D 0013 0014 00000000 00000000 0001"
    ∷ []

-- and a file, `type A=u8;fn f(){}`: the program, a type item, a function.
abbrev file : List String
file =
    "29 0000 0012 00000000 00000000 0007"
    ∷ "2A 0000 000A 00000000 00000000 0003"
    ∷ "02 0005 0006 00000000 00000000 0001"
    ∷ "07 0007 0009 00000008 00000000 0001"
    ∷ "01 000A 0012 00000000 00000000 0003"
    ∷ "02 000D 000E 00000000 00000000 0001"
    ∷ "12 0010 0012 00000000 00000000 0001"
    ∷ []

-- Spaces, and behind them a function, in lines of 49 bytes.
abbrev far : List String
far =
    "01 00FFF8 010000 00000000 00000000 000003 000000"
    ∷ "02 00FFFB 00FFFC 00000000 00000000 000001 000001"
    ∷ "12 00FFFE 010000 00000000 00000000 000001 000002"
    ∷ []

-- How many records back the parent of each begins: of the example, and of the file.
abbrev paper_ups : List String
paper_ups = " 0000" ∷ " 0001" ∷ " 0002" ∷ " 0001" ∷ " 0001" ∷ " 0002" ∷ " 0001" ∷ " 0004" ∷ " 0001" ∷ []

abbrev file_ups : List String
file_ups = " 0000" ∷ " 0001" ∷ " 0001" ∷ " 0002" ∷ " 0004" ∷ " 0001" ∷ " 0002" ∷ []

abbrev type_item : List String
type_item = take 3 (drop 1 file)

abbrev known : List Case
known =
    whole paper 63 (accepted 0 9)
    ∷ whole folded 63 (accepted 0 7)
    -- a file, its items in either order, and files without any
    ∷ whole file 49 (accepted 0 7)
    ∷ whole (take 1 file ++ (drop 4 file ++ type_item)) 63 (accepted 0 7)
    ∷ whole ("29 0000 0000 00000000 00000000 0001" ∷ []) 7 (accepted 0 1)
    ∷ whole ("29 0000 4000 00000000 00000000 0001" ∷ []) 63 (accepted 0 1)
    -- lines of 41 bytes
    ∷ higher paper paper_ups 63 (accepted 0 9)
    ∷ higher file file_ups 49 (accepted 0 7)
    -- 16: a line of another form than the first, in either order; a way up that is cut, or has a small letter
    ∷ mixed (take 1 file) file_ups (drop 1 file) (refused 16 2)
    ∷ mixed (take 4 file) file_ups (drop 4 file) (refused 16 5)
    ∷ record { text = ended (take 4 file) "" ++ climbing (drop 4 file) (drop 4 file_ups); room = 63; result = refused 16 5 }
    ∷ higher file (put 6 " 002" file_ups) 63 (refused 16 7)
    ∷ higher file (put 6 " 000a" file_ups) 63 (refused 16 7)
    -- lines of 49 bytes: a draft of 65,536 spaces, of which the program ends there
    ∷ whole ("29 000000 010000 00000000 00000000 000001 000000" ∷ []) 7 (accepted 0 1)
    -- and one with a function that ends there
    ∷ whole far 21 (accepted 0 3)
    -- 16: that four digits would hold, at line 1, also where 17 or 18 would come; but a bad line is named before, one of 41 bytes too, and 17 behind it
    ∷ whole ("29 000000 00FFFF 00000000 00000000 000001 000000" ∷ []) 7 (refused 16 1)
    ∷ whole ("29 000001 00FFFF 00000000 00000000 000002 000001" ∷ []) 0 (refused 16 1)
    ∷ behind ("29 000000 00FFFF 00000000 00000000 000001 000000" ∷ []) "0" (refused 16 2)
    ∷ whole (put 2 "12 FFFE FFFF 00000000 00000000 0001 0001" far) 21 (refused 16 3)
    ∷ whole ("29 0000 FFFF 00000000 00000000 0003 0000" ∷ drop 1 far) 21 (refused 16 2)
    ∷ whole (put 2 "12 00FFFE 010000 00000000 00000000 000001 000001" far) 21 (refused 17 0)
    ∷ whole far 20 (refused 18 0)
    -- 17: a wrong parent word: the parent's parent, a brother, and again; a top with 1, also where there is no room
    ∷ higher paper (put 7 " 0005" paper_ups) 63 (refused 17 0)
    ∷ higher file (put 4 " 0003" file_ups) 63 (refused 17 0)
    ∷ higher file (put 6 " 0001" file_ups) 63 (refused 17 0)
    ∷ higher file (put 0 " 0001" file_ups) 63 (refused 17 0)
    ∷ higher file (put 0 " 0001" file_ups) 48 (refused 17 0)
    ∷ higher file file_ups 48 (refused 18 0)
    -- 16: a small letter; a line that is cut, or has no LF; a byte over
    ∷ whole (put 4 "1d 000D 000E 00000000 00000000 0001" paper) 63 (refused 16 5)
    ∷ behind (take 8 paper) "18 0015 0016 00000000 000" (refused 16 9)
    ∷ behind (take 8 paper) "18 0015 0016 00000000 00000000 0001" (refused 16 9)
    ∷ behind paper "0" (refused 16 10)
    -- 17: no line; a refusal's; two functions;
    ∷ whole [] 63 (refused 17 0)
    ∷ whole ("00 001F 001F 00000008 00000000 0001" ∷ []) 63 (refused 17 0)
    ∷ whole (paper ++ paper) 126 (refused 17 0)
    -- arms not exchanged, arms that are no partners, a parameter that is not there, fold's bound;
    ∷ whole unexchanged 63 (refused 17 0)
    ∷ whole (put 7 "25 000F 0017 00000004 00000000 0002" paper) 63 (refused 17 0)
    ∷ whole (put 0 "01 0000 0022 00000000 00000001 0009" paper) 63 (refused 17 0)
    ∷ whole (put 5 "28 0010 0011 00000003 00000000 0001" folded) 63 (refused 17 0)
    -- a size one too large, a place without bytes, a child that begins before its parent, one that ends after it
    ∷ whole (put 2 "12 0006 0022 00000001 00000000 0008" paper) 63 (refused 17 0)
    ∷ whole (put 6 "18 001E 001E 00000000 00000000 0001" paper) 63 (refused 17 0)
    ∷ whole (put 8 "18 000E 0016 00000000 00000000 0001" paper) 63 (refused 17 0)
    ∷ whole (put 8 "18 0015 0018 00000000 00000000 0001" paper) 63 (refused 17 0)
    -- a program that starts later, empty or not; a type item as the top; a program in a program, a type item in a function, a name in a program;
    ∷ whole ("29 0001 0001 00000000 00000000 0001" ∷ []) 63 (refused 17 0)
    ∷ whole ("29 0001 0012 00000000 00000000 0004" ∷ drop 4 file) 63 (refused 17 0)
    ∷ whole type_item 63 (refused 17 0)
    ∷ whole ("29 0000 0012 00000000 00000000 0008" ∷ file) 63 (refused 17 0)
    ∷ whole ("01 0000 0012 00000000 00000000 0006" ∷ "02 000D 000E 00000000 00000000 0001" ∷ (type_item ++ drop 6 file)) 63 (refused 17 0)
    ∷ whole ("29 0000 0012 00000000 00000000 0002" ∷ "02 000D 000E 00000000 00000000 0001" ∷ []) 63 (refused 17 0)
    -- a program with a low, one that ends before its items, a type item without bytes
    ∷ whole (put 0 "29 0000 0012 00000001 00000000 0007" file) 63 (refused 17 0)
    ∷ whole (put 0 "29 0000 0011 00000000 00000000 0007" file) 63 (refused 17 0)
    ∷ whole ("29 0000 0000 00000000 00000000 0004" ∷ "2A 0000 0000 00000000 00000000 0003" ∷ "02 0000 0000 00000000 00000000 0001" ∷ "04 0000 0000 00000000 00000000 0001" ∷ []) 63 (refused 17 0)
    -- 18: a word too few; and "tested in this order"
    ∷ whole paper 62 (refused 18 0)
    ∷ whole file 48 (refused 18 0)
    ∷ whole unexchanged 62 (refused 17 0)
    ∷ whole (put 0 "1" unexchanged) 62 (refused 16 1)
    ∷ []

-- The definitions agree with the papers.
pub known-agree : map (λ k. load_of k.text k.room) known ≡ map (λ k. k.result) known
unfolding ascii ascii_from has all some count span partner canonical upper_hex is_bound derive.blank derive.dead derive.then derive.either derive.is_mark
    derive.is_part derive.after derive.spells shape.number shape.fits counted halves holds forms all_forms forms_for bare_part bare_shape fits inside placed right
    is_whole place_in digit_of are_digits number_of in_form values_of bad_from bad_line rows_from lines_read same is_long needs_more ways_right load_as
known-agree = refl
