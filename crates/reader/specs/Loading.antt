-- What `load_listing` hands over (order 1) besides the words of the buffer, which are those of `load`: the number of records; and the number and the line of
-- the refusal, 0 and 0 where the listing is loaded.
-- Assumes nothing.
use Rattle.std.specs.Prelude.{List, [], ◌∷◌, ℕ}
use Rattle.text.specs.Answers.{Answer, accepted, refused, values}
use Rattle.load.specs.Load.{load_of}

-- As many records as are loaded; 0 on a refusal.
abbrev pub records_loaded : List ℕ → ℕ → ℕ
records_loaded listing room = (values (load_of listing room)).records

-- The number of the refusal, and its line.
abbrev pub refusal_loaded : List ℕ → ℕ → List ℕ
refusal_loaded listing room = (values (load_of listing room)).number ∷ (values (load_of listing room)).place ∷ []

-- An answer that is a refusal.
abbrev pub Refusing : Answer → Type 0
Refusing (accepted n m) = ⊥
Refusing (refused c l) = Unit {0}
