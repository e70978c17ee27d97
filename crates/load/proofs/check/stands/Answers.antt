-- `stands` meets its contract.
-- Assumes nothing.
use Rattle.std.proofs.Common.{sym, ◌∙◌, arith, leb→le, true≢false}
use Rattle.load.proofs.Listing.RecordLaws.{records-many, records-counted}
use Rattle.load.proofs.CheckLaws.{stands-none, stands-over, stands-place, stands-is}
use Rattle.load.proofs.Told.{told-so}
use Rattle.load.proofs.check.stands.Goals.{then-r-ne0, else-r-ne0, then-r-left, else-r-left}
use Rattle.load.proofs.check.stands.Goals as goal

pub returns-then-placed : goal.returns-then-placed
returns-then-placed g c =
    elim c.if-r-left.branch [
      | then-r-left w ↦ elim c.if-r-ne0.branch [
        | then-r-ne0 v ↦ stands-is _ _ _ c.record-r.ensures (omega arith) (omega arith) (omega (arith, v.if-r-ne0.true))
            (omega (arith, leb→le _ _ (told-so _ w.if-r-left.true v.value-is), c.count.ensures, records-many c.args.listing.now, c.requires))
            (told-so _ (sym w.value-is ∙ c.if-placed.true) w.placed.ensures) c.walk.ensures.is c.verdict.ensures
        | else-r-ne0 v ↦ absurd (true≢false (sym w.if-r-left.true ∙ v.value-is ∙ simp v.if-r-ne0.false))
      ]
      | else-r-left w ↦ absurd (true≢false (sym c.if-placed.true ∙ w.value-is ∙ w.if-r-left.false))
    ]

pub returns-else-placed : goal.returns-else-placed
returns-else-placed g c =
    elim c.if-r-left.branch [
      | then-r-left w ↦ c.if-placed.false ∙ stands-place _ _ _ c.record-r.ensures w.placed.ensures (sym w.value-is ∙ c.if-placed.false)
      | else-r-left w ↦ elim c.if-r-ne0.branch [
        | then-r-ne0 v ↦ w.value-is ∙ w.if-r-left.false ∙ stands-over _ _ _ c.record-r.ensures (records-counted c.args.listing.now c.count.ensures) (sym v.value-is ∙ w.if-r-left.false)
        | else-r-ne0 v ↦ w.value-is ∙ w.if-r-left.false ∙ stands-none _ _ _ c.record-r.ensures v.if-r-ne0.false
      ]
    ]
