-- What crate `lines` lists is what the definitions list: all records that a buffer holds, and the line of a refusal.
-- Assumes nothing.
use mathlib.Core.List.{List, []}
use mathlib.Core.Path.{◌≡◌, refl, sym, ap, ◌∙◌}
use Rattle.std.specs.Prelude.{Result, Ok}
use Rattle.std.proofs.Common.{subst}
use Prim.Native.Nat.{ℕ}
use Rattle.own.specs.Words.{rec_then}
use Rattle.up.specs.Ways.{rows_in}
use Rattle.lines.specs.Lines.{widths, lines_of, lines}
use Rattle.lines.specs.Written.{used, padded, held, lines_in}
use Rattle.lines.proofs.Lines.{listed-short}
use Rattle.text.specs.declared.refusal.Refused.{Refused}
use Rattle.reader.specs.declared.Counts.{Counts}
use Rattle.reader.specs.Listed.{HandsOver, Short, written}
use Rattle.text.specs.Answers.{refused}
use Rattle.grammar.specs.Answers.Lines.{listed, refusal_rec}

-- What is handed over of a text is that of any equal to it.
pub same_is : {text other : List ℕ} (k : ℕ) {r : ℕ} {o : List ℕ} → text ≡ other → HandsOver text k r o → HandsOver other k r o
same_is k f h = (h.0 ∙ ap (λ (x : List ℕ). used x k) f, h.1 ∙ ap (λ (x : List ℕ). padded x k) f)

-- The words of a refusal
abbrev pub refusal_words : ℕ → ℕ → List ℕ
refusal_words c p = rec_then 0 p p c 0 1 []

-- are listed as its line.
pub refusal_is : (c p : ℕ) → lines_in (refusal_words c p) 1 ≡ lines (listed (refused c p) [])
unfolding lines_in refusal_rec
refusal_is c p = refl

-- Records whose places four digits hold are listed in such lines.
pub short-lines : (tree : List ℕ) (r : Result Counts Refused) {k : Counts} → r ≡ Ok k → Short r tree → lines_of widths (rows_in (held tree k.records) tree) ≡ written r tree
unfolding lines_in
short-lines tree r {k} e s = sym (ap (λ (x : Result Counts Refused). written x tree) e ∙ listed-short (rows_in (held tree k.records) tree) (subst (λ (x : Result Counts Refused). Short x tree) e s))
