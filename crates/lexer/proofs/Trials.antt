-- What holds of the lexeme at the front of a text, by what holds of each trial.
-- Assumes nothing.
use Rattle.std.specs.Prelude.{Bool, true, false, cond, List, [], ◌∷◌, ◌≡◌, refl, ℕ}
use Rattle.std.proofs.Math.Option.{Option, none, some}
use Rattle.lexer.specs.Lexemes.{Lexeme, ◌or_else◌, first_of}
use Rattle.lexer.specs.Rows.{NoneFinds}
pub use Rattle.text.proofs.Table.{both_left, both_right}

-- P holds of what a trial finds, if it finds something
abbrev pub Finds : (Lexeme → Type 0) → Option Lexeme → Type 0
Finds P none = Unit {0}
Finds P (some x) = P x

-- and so with each of the trials
infixr 60 ◌&◌
pub data AllFind (P : Lexeme → Type 0) (r : List ℕ) : List (List ℕ → Option Lexeme) → Type 0 where
  nil : AllFind P r []
  ◌&◌ : {f : List ℕ → Option Lexeme} {fs : List (List ℕ → Option Lexeme)} → Finds P (f r) → AllFind P r fs → AllFind P r (f ∷ fs)

-- what holds of both values holds of the one that the test chooses
pub cond-if : {A : Type 0} (P : A → Type 0) (b : Bool) {x y : A} → (b ≡ true → P x) → (b ≡ false → P y) → P (cond b x y)
cond-if P true f g = f refl
cond-if P false f g = g refl

-- a trial that finds nothing if its test fails
pub try-if : (P : Lexeme → Type 0) (b : Bool) (x : Option Lexeme) → (b ≡ true → Finds P x) → Finds P (cond b x none)
try-if P true x f = f refl
try-if P false x f = tt

-- What holds of all that is found, and of y where nothing is, holds of the first that is found.
pub first_finds : (P : Lexeme → Type 0) (fs : List (List ℕ → Option Lexeme)) (r : List ℕ) (y : Lexeme) → AllFind P r fs → (NoneFinds fs r → P y) → P (first_of fs r y)
first_finds P [] r y nil k = k tt
first_finds P (f ∷ fs) r y (a & later) k = go (f r) refl a (first_finds P fs r y later)
  where
    go : (o : Option Lexeme) → f r ≡ o → Finds P o → ((NoneFinds fs r → P y) → P (first_of fs r y)) → P (o or_else first_of fs r y)
    go none e t rest = rest (λ n. k (e, n))
    go (some x) e t rest = t

-- Where nothing is found, y is left.
pub none_first : (fs : List (List ℕ → Option Lexeme)) (r : List ℕ) (y : Lexeme) → NoneFinds fs r → first_of fs r y ≡ y
none_first [] r y n = refl
none_first (f ∷ fs) r y n = rw n.0 (none_first fs r y n.1)
