-- The way up of a listing that is taken leads to the parent: from each record but the first to one of which it is a child, so that a walk from parent to parent
-- ends at the first record.
-- Assumes nothing.
use Rattle.std.specs.Prelude.{List, ◌++◌, ◌≡◌, ℕ, ◌-◌, ◌*◌, ◌<◌, length, replicate}
use Rattle.std.proofs.Common.{sym, ap, ◌∙◌, subst, arith}
use Rattle.text.specs.Answers.{accepted}
use Rattle.text.specs.Widths.{rec_wide}
use Rattle.own.specs.Tree.{Rec}
use Rattle.own.specs.Words.{recs}
use Rattle.up.specs.Ways.{way_up, size_of, up_words}
use Rattle.up.proofs.Laws.{back-within, up-word, recs-up}
use Rattle.up.specs.Children.{ChildOf}
use Rattle.up.proofs.Children.{back-some, leads}
use Rattle.load.specs.Function.{Whole}
use Rattle.load.specs.Load.{load_of, words_of}
use Rattle.load.specs.Promised.{loaded}
use Rattle.load.proofs.Laws.{row-only, accepted-taken}
use Rattle.load.specs.Led.{Led}

module _ (rs : List Rec) (o : Whole rs) (j : ℕ) (h : j < length rs) where
  its-way : 0 < j → 0 < way_up (size_of rs) j
  its-way k = back-some (size_of rs) j j 0 k (omega arith) (omega (arith, o.counts_all, h))

  -- Records that form a whole function or program, with their ways up:
  pub whole-led : (z : List ℕ) → Led (up_words rs ++ z) (length rs) j
  whole-led z =
      let s : ℕ → ℕ = size_of rs in
      let u = up-word rs z j h in
      record {
        first = λ e. u ∙ ap (way_up s) e;
        some = λ k. omega (arith, u, its-way k);
        within = omega (arith, u, back-within s j j);
        child = λ k.
            subst (λ (v : ℕ). ChildOf (recs (length rs) (up_words rs ++ z)) (j - v) j) (sym u)
            (subst (λ (l : List Rec). ChildOf l (j - way_up s j) j) (sym (recs-up rs z)) (leads rs j h (λ i l. omega (arith, (o.each i l).adds)) (its-way k)));
      }

-- those of every listing that is loaded.
pub loaded-led : (text : List ℕ) (room n : ℕ) → load_of text room ≡ accepted 0 n → (j : ℕ) → j < n → Led (words_of text room) n j
loaded-led text room n e j h =
    let t = accepted-taken text room e in
    let rs = t.its in
    let k = t.number in
    let below : j < length rs = omega (arith, h, k) in
    let z = replicate (room - rec_wide * length rs) 0 in
    let w : words_of text room ≡ up_words rs ++ z = (row-only text room (loaded t.form rs t.lists t.whole t.fits)).1 in
    subst (λ (k : ℕ). Led (words_of text room) k j) (sym t.number)
    (subst (λ (l : List ℕ). Led l (length rs) j) (sym w) (whole-led rs t.whole j below z))
