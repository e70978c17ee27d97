-- The range is there just where both tests pass.
-- Assumes nothing.
use Rattle.std.proofs.Common.{◌≡◌, ℕ, ◌+◌, ◌<◌, ◌≤◌, List, [], length, ap, refl, ◌∙◌, inl, inr, le-leb, Bor}
use Rattle.std.proofs.lemmas.Bool.{lt-leb}
use Rattle.std.proofs.Math.Bool.{and-false}
use Rattle.std.specs.Prelude.{Option, None, Some, unwrap_or, ◌⊎◌}
use Rattle.std.specs.Option.{MatchOption}
use Rattle.std.specs.List.{slice_range}
use Rattle.text.specs.Part.{part_of}
use Rattle.text.proofs.part.Goals as goal

picked : (draft : List ℕ) (start end : ℕ) (none : Bor (List ℕ)) → none.now ≡ [] → (o : Option (Bor (List ℕ)))
    → MatchOption o ((end < start) ⊎ (length draft < end)) (λ x. (start ≤ end) × (end ≤ length draft) × (x.now ≡ slice_range draft start end) × (length x.now + start ≡ end))
    → (unwrap_or o none).now ≡ part_of draft start end
unfolding part_of
picked draft start end none e None (inl h) = simp (e, lt-leb _ _ h)
picked draft start end none e None (inr h) = simp (e, lt-leb _ _ h, and-false)
picked draft start end none e (Some x) h = simp (h.2, le-leb _ _ h.0, le-leb _ _ h.1)

pub returns : goal.returns
returns c = ap (λ (r : Bor (List ℕ)). r.now) c.unwrap_or.ensures ∙ picked _ _ _ _ refl _ c.get.ensures.lookup.0
