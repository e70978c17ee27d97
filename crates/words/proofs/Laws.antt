-- The rules of the constants against the lists of words, each computed once over the whole table, and what the proofs cite of them.
-- Assumes nothing.
use mathlib.Core.Bool.{Bool, true, ◌&&◌}
use mathlib.Core.List.{List, [], ◌∷◌}
use mathlib.Core.Path.{◌≡◌, refl, sym, ◌∙◌, ap}
use Prim.Native.Nat.{ℕ, ◌+◌, ◌≤◌, ◌<◌}
use native.Mathlib.Omega.{arith}
use lib.Dec.{T, eqb, leb, eqb→eq, leb→le}
use lib.ListN.{length, get_or, take, drop}
use Rattle.std.specs.Prelude.{None}
use Rattle.std.proofs.lemmas.List.{length-take-le, length-drop, get_or-take, get_or-drop}
use Rattle.text.specs.Ascii.{ascii, ascii_from}
use Rattle.text.specs.Same.{same}
use Rattle.text.specs.Table.{every, all}
use Rattle.text.proofs.Table.{at, each, is_true, first-of, second-of}
use Rattle.text.proofs.SameLaws.{same_true}
use Rattle.words.specs.Words.{FUNCTION_RESERVED, KEYWORDS, MACROS, MODULE_RESERVED, RULE_NAMES, BOOLEANS, RULE_WORDS, UINT_TYPES, BUILTIN_ALIASES, BOOL, TYPE_NAMES}
use Rattle.words.specs.declared.lookup.Words.{Words}
use Rattle.words.specs.Layout.{entries, letters, slot_of}
use Rattle.words.specs.Lies.{Lies, listed, AtMost, Finds, Only}
use Rattle.words.proofs.Right.{Says}
use Rattle.words.proofs.Constants.{places}

-- ---- one test for each word of a table

entry-count : length entries ≡ 77
unfolding entries FUNCTION_RESERVED KEYWORDS MACROS MODULE_RESERVED RULE_NAMES BOOLEANS RULE_WORDS UINT_TYPES BUILTIN_ALIASES BOOL TYPE_NAMES
entry-count = refl

-- what is tested of the word at place k, whose bytes are l: it has two bytes or more, and no more than the longest, and its slot holds its place
abbrev word_tests : Words → ℕ → List ℕ → List Bool
word_tests w k l =
    leb 2 (length l) ∷
    leb (length l) w.longest ∷
    eqb (get_or w.slots (slot_of w.multipliers l) 0) k ∷ []

-- the words of a table's constants are found, as a test
abbrev pub are_found : Words → Bool
are_found w = leb (w.first + w.count) (length entries) && every (λ k l. all (word_tests w k l)) 0 (listed w)

pub listed-length : (w : Words) → w.first + w.count ≤ length entries → length (listed w) ≡ w.count
unfolding listed
listed-length w h = length-take-le w.count (drop w.first entries) (omega (arith, length-drop w.first entries))

pub listed-at : (w : Words) (k : ℕ) → k < w.count → get_or (listed w) k [] ≡ get_or entries (w.first + k) []
unfolding listed
listed-at w k h = get_or-take w.count (drop w.first entries) k [] h ∙ get_or-drop w.first entries k []

pub found : (w : Words) → T (are_found w) → Finds w
found w t =
    let within : w.first + w.count ≤ length entries = leb→le (w.first + w.count) (length entries) (first-of _ _ t) in
    let counted : (k : ℕ) → k < length (listed w) → k < w.count = λ k h. omega (arith, h, listed-length w within) in
    let pass : (k : ℕ) → k < w.count → (i : ℕ) → T (get_or (word_tests w k (get_or (listed w) k [])) i true) =
    λ k h. each (word_tests w k (get_or (listed w) k [])) (at (λ k l. all (word_tests w k l)) (listed w) [] (second-of _ _ t) k (omega (arith, listed-length w within))) in
    record {
      within = within;
      least = λ k h. leb→le _ _ (pass k h 0);
      most = record { short = λ k h. leb→le _ _ (pass k (counted k h) 1) };
      held = λ k h. eqb→eq _ _ (pass k h 2);
    }

-- bytes that are longer than every word of a list are none of them
pub too_long : {ws : List (List ℕ)} {n : ℕ} → AtMost ws n → (p : List ℕ) → n < length p → Says ws p None
too_long m p s k l e = omega (arith, m.short k l, ap length e)

-- What it means for a part that the words are found: none has another length, and it can be no other than the one that its slot holds.
pub beyond : (w : Words) (p : List ℕ) → Finds w → (2 ≤ length p → length p ≤ w.longest → ⊥) → Says (listed w) p None
beyond w p f n k h e =
    let l : k < w.count = omega (arith, listed-length w f.within) in
    let n₁ : 2 ≤ length p = omega (arith, f.least k l, ap length e) in
    let n₂ : length p ≤ w.longest = omega (arith, f.most.short k h, ap length e) in
    n n₁ n₂

pub only_at : (w : Words) (p : List ℕ) {s r : ℕ} → Finds w → s ≡ slot_of w.multipliers p → r ≡ get_or w.slots s 0 → Only (listed w) p r
only_at w p f d e =
    record {
      is = λ k h g.
          e ∙ ap (λ s. get_or w.slots s 0) (d ∙ ap (slot_of w.multipliers) (sym g)) ∙ f.held k (omega (arith, listed-length w f.within));
    }

-- Its words stand among the entries.
pub entry_in : (w : Words) → Finds w → (k : ℕ) → k < w.count → w.first + k < 77
entry_in w f k h = omega (arith, f.within, entry-count)

-- ---- one test for each entry

pub letter-count : length letters ≡ 359
unfolding letters ascii ascii_from
letter-count = refl

-- what is tested of entry e, whose bytes are w: its size, and that it stands among the letters
abbrev entry_tests : ℕ → List ℕ → List Bool
entry_tests e w =
    let place = get_or places e (0, 0) in
    eqb place.1 (length w) ∷
    leb (place.0 + length w) 359 ∷
    same (take (length w) (drop place.0 letters)) w ∷ []

entries-pass : T (every (λ e w. all (entry_tests e w)) 0 entries)
unfolding same entries letters places FUNCTION_RESERVED KEYWORDS MACROS MODULE_RESERVED RULE_NAMES BOOLEANS RULE_WORDS UINT_TYPES BUILTIN_ALIASES BOOL TYPE_NAMES ascii ascii_from
entries-pass = tt

module _ (e : ℕ) (h : e < 77) where
  entry-pass : (i : ℕ) → T (get_or (entry_tests e (get_or entries e [])) i true)
  entry-pass = each (entry_tests e (get_or entries e [])) (at (λ e w. all (entry_tests e w)) entries [] entries-pass e (omega (arith, entry-count)))

  size-at : (get_or places e (0, 0)).1 ≡ length (get_or entries e [])
  size-at = eqb→eq _ _ (entry-pass 0)

  start-at : Lies ((get_or places e (0, 0)).0) (get_or entries e [])
  start-at =
      let i = leb→le ((get_or places e (0, 0)).0 + length (get_or entries e [])) 359 (entry-pass 1) in
      record { inside = omega (arith, letter-count); spelt = same_true _ _ (is_true _ (entry-pass 2)) }

  pub stands : (get_or places e (0, 0)).0 + (get_or places e (0, 0)).1 ≤ 359
  stands = omega (arith, start-at.inside, size-at, letter-count)

  pub letters_of : take ((get_or places e (0, 0)).1) (drop ((get_or places e (0, 0)).0) letters) ≡ get_or entries e []
  letters_of = ap (λ n. take n (drop ((get_or places e (0, 0)).0) letters)) size-at ∙ start-at.spelt
