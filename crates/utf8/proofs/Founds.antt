-- What a sequence that is found, or none, says of the bytes there.
-- Assumes nothing.
use Rattle.std.specs.Prelude.{Option, List, ℕ, zero, suc, ◌≡◌, refl, ◌≤◌, ◌<◌, None, Some, unwrap_or, is_some, length, get_or, drop}
use Rattle.std.proofs.Common.{ap, arith, sym, ◌∙◌, subst}
use Rattle.text.proofs.Same.{differ}
use Rattle.utf8.specs.Octets.{Told}
use Rattle.utf8.specs.Utf8.{char_length}
use Rattle.utf8.specs.Found.{if_any, char_found}
use Rattle.utf8.proofs.Sequences.{told, none-past, ascii-at}

pub found-length : (x n : ℕ) → Some n ≡ if_any x → n ≡ x
found-length zero n e = differ (sym (ap is_some e))
found-length (suc x) n e = ap (λ o. unwrap_or o 0) e

pub found-some : (x n : ℕ) → Some n ≡ if_any x → n ≡ 0 → ⊥
found-some zero n e z = differ (sym (ap is_some e))
found-some (suc x) n e z = let h = found-length (suc x) n e in omega arith

pub none-length : (x : ℕ) → None ≡ if_any x → 0 ≡ x
none-length zero e = refl
none-length (suc x) e = differ (ap is_some e)

-- ---- what the number says of the text is said of whatever is answered

counted : (n : ℕ) → unwrap_or (if_any n) 0 ≡ n
counted zero = refl
counted (suc n) = refl

pub lawful : (r : List ℕ) {o : Option ℕ} → o ≡ char_found r → Told r (unwrap_or o 0)
lawful r e = subst (Told r) (sym (ap (λ o. unwrap_or o 0) e ∙ counted (char_length r))) (told r)

-- ---- past the end there is none; a byte up to 127 is one

pub past : (s : List ℕ) (i : ℕ) → length s ≤ i → char_found (drop i s) ≡ None
past s i h = ap if_any (none-past s i h)

pub ascii : (s : List ℕ) (i : ℕ) → i < length s → get_or s i 0 ≤ 127 → char_found (drop i s) ≡ Some 1
ascii s i h l = ap if_any (ascii-at s i h l)
