-- The figures of both sets of limits, and the place of a refusal, which is within them.
-- Assumes nothing.
use Rattle.std.specs.Prelude.{Result, Ok, Err, List, ◌≡◌, ℕ, ◌≤◌, length}
use Rattle.std.proofs.Common.{Fits, w32, sym, arith}
use Rattle.text.specs.Answers.{refused}
use Rattle.text.specs.Refusals.{refused_by}
use Rattle.text.specs.declared.refusal.Refused.{Refused}
use Rattle.lexer.specs.Limits.{Limits, large_limits, limits_for}
use Rattle.lexer.specs.declared.Limits as code
use Rattle.lexer.specs.declared.Limits.TheVariants.{Small, Large}
use Rattle.grammar.specs.Entry.{Entry}
use Rattle.grammar.specs.Answers.Answer.{answer}
use Rattle.grammar.specs.Answers.Outcome.{Refusal, too_long, bad_bytes, too_many, too_deep, misshapen, faulted, no_room}
use Rattle.grammar.proofs.Answers.OutcomeLaws.{refused-exactly}
use Rattle.grammar.proofs.Answers.Places.{place-within}
use Rattle.reader.specs.declared.Counts.{Counts}
use Rattle.reader.specs.Read.{meant}
use Rattle.reader.specs.Listed.{Early}

-- The large limits are no smaller than those of either set.
pub most-bytes : (c : code.Limits) → (limits_for c).bytes ≤ large_limits.bytes
most-bytes Small = omega arith
most-bytes Large = omega arith

pub most-tokens : (c : code.Limits) → (limits_for c).tokens ≤ large_limits.tokens
most-tokens Small = omega arith
most-tokens Large = omega arith

-- The place of a refusal is no more than the bytes that a draft may have.
pub place-limited : (en : Entry) (l : Limits) (draft : List ℕ) (tw rw c p : ℕ) → answer en l draft tw rw ≡ refused c p → p ≤ l.bytes
place-limited en l draft tw rw c p e = go ((refused-exactly en l draft tw rw c p).0 e) (place-within en l draft tw rw c p e)
  where
    go : {c p : ℕ} → Refusal en l draft tw rw c p → p ≤ length draft → p ≤ l.bytes
    go (too_long h) i = omega arith
    go (bad_bytes h x) i = omega (arith, h, i)
    go (too_many h x k) i = omega (arith, h, i)
    go (too_deep h x k q) i = omega (arith, h, i)
    go (misshapen w) i = omega (arith, w.within.short, i)
    go (faulted s x) i = omega (arith, s.within.short, i)
    go (no_room s x h) i = omega arith

-- A word holds it, in either set.
pub place-fits : (en : Entry) (c : code.Limits) (draft : List ℕ) (tw rw : ℕ) (r : Refused) → refused_by r ≡ answer en (limits_for c) draft tw rw → Fits w32 r.place
place-fits en c draft tw rw r e = omega (arith, place-limited en (limits_for c) draft tw rw _ _ (sym e), most-bytes c)

-- So of what was read: a refusal has a place that a word holds.
pub early : (en : Entry) (c : code.Limits) (draft : List ℕ) (tw rw : ℕ) (r : Result Counts Refused) → meant r ≡ answer en (limits_for c) draft tw rw → Early r
early en c draft tw rw (Ok x) e = tt
early en c draft tw rw (Err x) e = place-fits en c draft tw rw x e
