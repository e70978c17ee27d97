-- The numbers of refusals by name (document 01, "What the reader hands over"), in the order of its rows, and the two families of which "the
-- earliest place" wins; those of the later requests (document 02) after them.
-- Assumes nothing.
use Rattle.std.specs.Prelude.{Bool, true, ◌&&◌, not, List, [], ◌∷◌, ◌++◌, map, ℕ, T}
use Rattle.text.specs.Lists.{has}
use Rattle.text.specs.Answers.{Answer, refused}
use Rattle.text.specs.declared.refusal.Refusal.{Refusal}
use Rattle.text.specs.declared.refusal.Refusal.TheVariants as refusal
use Rattle.text.specs.declared.refusal.Refused.{Refused}

-- Of a listing that is loaded (order 1): 16 of its lines, 17 of its records, 18 of the record buffer. Each row stands above its case in Promised.antt
-- of `load`.
abbrev pub BadLine : ℕ
BadLine = 16

abbrev pub NotWhole : ℕ
NotWhole = 17

abbrev pub NoLoadRoom : ℕ
NoLoadRoom = 18

-- Of the draft 1; of its bytes 2 to 5 and 21 (order 6); of its tokens 6 to 8; of its shapes 9 to 14 and 19 (order 2); of the tree buffer 15. Each row
-- stands above its case: in lexer's Rows.antt, and in Outcome.antt and Faults.antt of `grammar`.
abbrev pub refusal_number : Refusal → ℕ
refusal_number refusal.TooLong = 1
refusal_number refusal.NotAscii = 2
refusal_number refusal.NoLexeme = 3
refusal_number refusal.Unclosed = 4
refusal_number refusal.Simc = 5
refusal_number refusal.TooMany = 6
refusal_number refusal.TooDeep = 7
refusal_number refusal.Misshapen = 8
refusal_number refusal.Bound = 9
refusal_number refusal.Size = 10
refusal_number refusal.NoArms = 11
refusal_number refusal.MixedArms = 12
refusal_number refusal.ArmCount = 13
refusal_number refusal.NoPartners = 14
refusal_number refusal.NoRoom = 15
refusal_number refusal.BadLine = BadLine
refusal_number refusal.NotWhole = NotWhole
refusal_number refusal.NoLoadRoom = NoLoadRoom
refusal_number refusal.Length = 19
refusal_number refusal.NotUtf8 = 21

-- "a refusal", by its number, at its place
abbrev pub refused_by : Refused → Answer
refused_by r = refused (refusal_number r.refusal) r.place

-- "of 2 to 5 the earliest place wins", and 21 "among 2 to 5 by earliest place": those of the bytes, which the lexer finds,
abbrev pub of_bytes : List ℕ
of_bytes = map refusal_number (refusal.NotAscii ∷ refusal.NoLexeme ∷ refusal.Unclosed ∷ refusal.Simc ∷ refusal.NotUtf8 ∷ [])

-- "of 9 to 14 the earliest place", and 19 "among 9 to 14 by earliest place": those of the shapes, which a well-shaped draft may have.
abbrev pub of_shapes : List ℕ
of_shapes = map refusal_number (refusal.Bound ∷ refusal.Size ∷ refusal.NoArms ∷ refusal.MixedArms ∷ refusal.ArmCount ∷ refusal.NoPartners ∷ refusal.Length ∷ [])

-- Every number of a reading, in the order of the tests: "Refusal 1 is tested first; of 2 to 5 the earliest place wins; then 6, 7 and 8 in turn [..];
-- of 9 to 14 the earliest place; last 15."
abbrev pub in_order : List ℕ
in_order =
    refusal_number refusal.TooLong ∷ (of_bytes ++ (map refusal_number (refusal.TooMany ∷ refusal.TooDeep ∷ refusal.Misshapen ∷ []) ++ (of_shapes ++ (refusal_number refusal.NoRoom ∷ []))))

-- Those of a listing: "they are tested in this order".
abbrev pub of_listings : List ℕ
of_listings = BadLine ∷ NotWhole ∷ NoLoadRoom ∷ []

-- no number stands twice
abbrev pub distinct : List ℕ → Bool
distinct [] = true
distinct (n ∷ ns) = not (has ns n) && distinct ns

-- Each refusal has a number of its own, none is in both families, and none is 0, which stands for no refusal: computed.
pub numbers-distinct : T (distinct (0 ∷ (in_order ++ of_listings)))
unfolding has
numbers-distinct = tt
