-- What is promised of a reading, whichever entry reads: the answer, every word of both buffers, and the ownership of what is handed over. All of it
-- is said in the terms of the papers, without the function `answer` and its tables.
-- Assumes nothing: these are definitions. That `answer` and the buffers keep the promise stands in proofs/Answers/Laws.antt.
use Rattle.std.specs.Prelude.{List, ◌↔◌, ◌≡◌, ℕ, length, replicate}
use Rattle.text.specs.Answers.{Answer, accepted, refused}
use Rattle.text.specs.Refusals.{refusal_number}
use Rattle.text.specs.declared.refusal.Refusal.TheVariants as refusal
use Rattle.lexer.specs.Limits.{Limits}
use Rattle.own.specs.Words.{toks, recs}
use Rattle.kinds.specs.Class.{class_of}
use Rattle.grammar.specs.Entry.{Entry, Owned}
use Rattle.grammar.specs.Answers.Answer.{ups_for, records_for}
use Rattle.grammar.specs.Answers.Outcome.{Misshapen, Refusal, Accepted, Written}

-- The answer a to a draft, with buffers of tw and rw words that hold ts and rs afterwards.
pub record Promised (en : Entry) (l : Limits) (draft : List ℕ) (tw rw : ℕ) (a : Answer) (ts rs : List ℕ) : Type 0 where
  -- Accepted exactly when no row applies: the draft lexes, is within the limits, is well-shaped, has no refusal of the shapes, and its tree fits;
  pub accepts : (n m : ℕ) → (a ≡ accepted n m) ↔ Accepted en l draft tw rw n m
  -- then every word is that of its tokens and of the tree that the rules give, the ways up with it, and zeros after them.
  pub written : (n m : ℕ) (d : Accepted en l draft tw rw n m) → Written tw rw d.its_tokens (ups_for en draft d.its_tokens d.shape) (records_for en draft d.its_tokens d.shape) ts rs
  -- Otherwise refused, in the order of the refusals; row 8 both ways;
  pub refuses : (c p : ℕ) → (a ≡ refused c p) ↔ Refusal en l draft tw rw c p
  pub misshapen : (p : ℕ) → (a ≡ refused (refusal_number refusal.Misshapen) p) ↔ Misshapen en l draft tw p
  -- "every word of both buffers 0".
  pub zeros : (c p : ℕ) → a ≡ refused c p → (ts ≡ replicate tw 0) × (rs ≡ replicate rw 0)
  -- Demand 3, of the words that are handed over.
  pub owned : (n m : ℕ) → a ≡ accepted n m → Owned en (length draft) (toks (class_of draft) n ts) (recs m rs)
