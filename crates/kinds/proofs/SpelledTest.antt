-- The test of the rule of law 3 (c) and the rule agree.
-- Assumes nothing.
use Rattle.std.specs.Prelude.{List, ℕ, T}
use Rattle.text.proofs.Table.{first-of, second-of, pair}
use Rattle.text.proofs.ListLaws.{some-sound, some-complete}
use Rattle.own.specs.Law.{Sort}
use Rattle.kinds.specs.Derive.{spells}
use Rattle.kinds.proofs.Derive.{spells-sound, spells-complete}
use Rattle.kinds.specs.Fields.{holds}
use Rattle.kinds.specs.Spelled.{forms_of, Spelled}
use Rattle.kinds.specs.SpelledTest.{written, spelled}

-- Where the test passes the rule holds.
pub spelled-sound : (kind low high : ℕ) (w : List Sort) → T (spelled kind low high w) → Spelled kind low high w
unfolding spelled written
spelled-sound kind low high w t =
    some-sound (written low high w)
    (λ f u. record {
      fields = first-of (holds f.fields low high w) (spells f.shape w) u;
      shape = spells-sound f.shape w
          (second-of (holds f.fields low high w) (spells f.shape w) u);
    })
    (forms_of kind) t

-- The rule holds only where the test passes.
pub spelled-complete : (kind low high : ℕ) (w : List Sort) → Spelled kind low high w → T (spelled kind low high w)
unfolding spelled written
spelled-complete kind low high w s =
    some-complete (written low high w) (λ f x. pair (holds f.fields low high w) (spells f.shape w) x.fields
    (spells-complete f.shape w x.shape)) s
