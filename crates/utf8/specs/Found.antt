-- What is answered of a sequence: how many bytes it has, if one stands there.
-- Assumes nothing.
use Rattle.std.specs.Prelude.{ℕ, zero, suc, Option, None, Some, List}
use Rattle.utf8.specs.Utf8.{char_length}

-- no sequence has 0 bytes
abbrev pub if_any : ℕ → Option ℕ
if_any zero = None
if_any (suc n) = Some (suc n)

abbrev pub char_found : List ℕ → Option ℕ
char_found r = if_any (char_length r)
