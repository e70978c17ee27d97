-- A text of ASCII characters as its list of bytes, so that definitions can quote words as the papers write them.
-- Assumes nothing.
use Rattle.std.specs.Prelude.{List, [], ◌∷◌, ℕ, zero, suc}
use Prim.Native.Char.{code}
use Prim.Native.String.{String, len, char_at}

-- n characters from i on
unfoldable pub ascii_from : String → ℕ → ℕ → List ℕ
ascii_from s i zero = []
ascii_from s i (suc n) = code (char_at s i) ∷ ascii_from s (suc i) n

unfoldable pub ascii : String → List ℕ
ascii s = ascii_from s 0 (len s)
