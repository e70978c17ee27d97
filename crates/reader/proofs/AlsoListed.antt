-- What is accepted within the small limits is accepted within the large ones, and listed alike.
-- Assumes nothing.
use Rattle.std.specs.Prelude.{List, ◌≡◌, ℕ, ◌*◌, ◌≤◌}
use Rattle.std.proofs.Common.{sym, ap₂, ◌∙◌, arith}
use Rattle.text.specs.Answers.{Answer, accepted}
use Rattle.text.specs.Widths.{tok_wide, rec_wide}
use Rattle.own.specs.Tree.{Rec}
use Rattle.lexer.specs.Limits.{Limits, small_limits, large_limits}
use Rattle.lexer.specs.declared.Limits.TheVariants.{Small}
use Rattle.lines.specs.Lines.{lines}
use Rattle.grammar.specs.Entry.{Entry, whole_file}
use Rattle.grammar.specs.Answers.Answer.{answer}
use Rattle.grammar.specs.Answers.Outcome.{Accepted}
use Rattle.grammar.specs.Answers.Lines.{listed, listing}
use Rattle.grammar.proofs.Answers.Laws.{law-1}
use Rattle.reader.specs.Listed.{records_most, listing_of}
use Rattle.reader.proofs.BothLimits.{most-bytes, most-tokens}
use Rattle.reader.proofs.EntryLaws.{were-read}

-- A draft that is accepted within some limits is accepted within larger ones, where the buffers suffice: as the same tokens and the same tree,
module _ (l m : Limits) (bytes : l.bytes ≤ m.bytes) (count : l.tokens ≤ m.tokens) (en : Entry) (draft : List ℕ) (tw rw tw' rw' a b : ℕ) (third : tok_wide * a ≤ tw') (fits : rec_wide * b ≤ rw') where
  also-accepted : Accepted en l draft tw rw a b → Accepted en m draft tw' rw' a b
  also-accepted x =
      let w = x.shaped.within in
      record {
        its_tokens = x.its_tokens;
        shape = x.shape;
        shaped = record {
          within = record {
            short = omega (arith, w.short);
            lexes = w.lexes;
            few = omega (arith, w.few);
            third = omega (arith, third, x.tokens_number);
            shallow = w.shallow;
          };
          is_shape = x.shaped.is_shape;
          its_yield = x.shaped.its_yield;
        };
        no_fault = x.no_fault;
        fits = omega (arith, fits, x.records_number);
        tokens_number = x.tokens_number;
        records_number = x.records_number;
      }

  -- so that its listing is the same.
  also-listed : answer en l draft tw rw ≡ accepted a b → listing en m draft tw' rw' ≡ listing en l draft tw rw
  unfolding listing also-accepted
  also-listed e =
      let x = (law-1 en l draft tw rw a b).0 e in
      let y = also-accepted x in
      ap₂ (λ (z : Answer) (rs : List Rec). lines (listed z rs)) ((law-1 en m draft tw' rw' a b).1 y) (were-read en m draft tw' rw' a b y)
      ∙ sym (ap₂ (λ (z : Answer) (rs : List Rec). lines (listed z rs)) e (were-read en l draft tw rw a b x))

-- So what `list_draft` lists of a draft that it accepts, `list_large` lists of it, by buffers that have room for its tokens and records.
pub large-as-small : (draft : List ℕ) (tw rw a b : ℕ) → answer whole_file small_limits draft (tok_wide * small_limits.tokens) (rec_wide * records_most) ≡ accepted a b
    → tok_wide * a ≤ tw → rec_wide * b ≤ rw → listing whole_file large_limits draft tw rw ≡ listing_of draft
large-as-small draft tw rw a b e third fits =
    also-listed small_limits large_limits (most-bytes Small) (most-tokens Small) whole_file draft (tok_wide * small_limits.tokens) (rec_wide * records_most) tw rw a b third fits e
