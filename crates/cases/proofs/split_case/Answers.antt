-- A case's line, text and line end stand at the front of the stream; its numbers passed the test of the limits; what is left is behind a line.
-- Assumes nothing.
use Rattle.std.proofs.Common.{◌≡◌, refl, ℕ, List, ◌∷◌, ◌++◌, take, drop}
use Rattle.std.proofs.lemmas.List.{take-append-drop}
use Rattle.cases.proofs.split_case.Goals as goal

joined : (line behind : List ℕ) (n : ℕ) {stream text left rest : List ℕ} {end : ℕ} →
    stream ≡ line ++ 10 ∷ behind → text ≡ take n behind → left ≡ drop n behind → left ≡ end ∷ rest → end ≡ 10 →
    stream ≡ line ++ 10 ∷ (text ++ 10 ∷ rest)
joined line behind n s t l r e = let h = take-append-drop n behind in cc

pub returns-clause-case : goal.returns-clause-case
returns-clause-case g c =
    let (_, front, back, bytes, _) = c.in_ok-text.ensures.cases in
    record {
      line = c.in_ok-line.line.now;
      parts = joined _ _ _ c.in_ok-line.ensures front back c.in_ok-end.ensures.cases.0 c.if-end-ne10.false;
      size = let last = c.in_ok-last.ensures.value in cc;
    }

pub returns-clause-within : goal.returns-clause-within
returns-clause-within g c = c.if-not-is_within.ensures refl
