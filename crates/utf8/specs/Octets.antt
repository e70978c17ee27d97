-- What the ABNF of RFC 3629 says of whole texts: "UTF8-octets = *( UTF8-char )", a concatenation of sequences.
-- Assumes nothing.
use Rattle.std.specs.Prelude.{Bool, true, false, ◌&&◌, ◌||◌, List, [], ◌∷◌, ◌++◌, ◌≡◌, ℕ, ◌≤◌, ◌<◌, length, take, drop}
use Rattle.text.specs.Ranges.{Range, of}
use Rattle.utf8.specs.Utf8.{utf8_char}

-- a text is one byte of each range, and no more
unfoldable pub spells : List Range → List ℕ → Bool
spells [] [] = true
spells [] (b ∷ c) = false
spells (g ∷ gs) [] = false
spells (g ∷ gs) (b ∷ c) = of g b && spells gs c

-- it is one of the alternatives
unfoldable pub is_one : List (List Range) → List ℕ → Bool
is_one [] c = false
is_one (a ∷ others) c = spells a c || is_one others c

-- "UTF8-char"
abbrev pub is_char : List ℕ → Bool
is_char c = is_one utf8_char c

abbrev pub all_chars : List (List ℕ) → Bool
all_chars [] = true
all_chars (c ∷ cs) = is_char c && all_chars cs

abbrev pub joined : List (List ℕ) → List ℕ
joined [] = []
joined (c ∷ cs) = c ++ joined cs

-- "UTF8-octets": the text is these sequences, one behind the other
pub record Octets (r : List ℕ) (cs : List (List ℕ)) : Type 0 where
  pub chars : all_chars cs ≡ true
  pub whole : joined cs ≡ r

-- a text is well-formed: it is some such sequences
pub record WellFormed (r : List ℕ) : Type 0 where
  pub sequences : List (List ℕ)
  pub octets : Octets r sequences

-- no sequence stands at the front of a text
abbrev pub NoChar : List ℕ → Type 0
NoChar r = (c t : List ℕ) → is_char c ≡ true → r ≡ c ++ t → ⊥

-- a place of a text is bad: what is before it is well-formed, and no sequence stands there
pub record Bad (r : List ℕ) (p : ℕ) : Type 0 where
  pub before : WellFormed (take p r)
  pub within : p < length r
  pub nothing : NoChar (drop p r)

-- what a number of bytes says of the sequence at the front of a text: 0 that none stands there, any other that these bytes are one
pub record Told (r : List ℕ) (n : ℕ) : Type 0 where
  pub within : n ≤ length r
  pub nothing : n ≡ 0 → NoChar r
  pub char : 0 < n → is_char (take n r) ≡ true
