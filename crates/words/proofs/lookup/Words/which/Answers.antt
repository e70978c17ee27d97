-- Bytes of no word's length; the slot, and the entry of what it holds.
-- Assumes nothing.
use Rattle.std.proofs.Common.{arith, rules, refl, sym}
use Rattle.text.specs.Ascii.{ascii, ascii_from}
use Rattle.words.specs.Layout.{letters, slot_of}
use Rattle.words.proofs.Laws.{entry_in}
use Rattle.words.proofs.Held.{other_size}
use Rattle.words.proofs.lookup.Words.which.Goals as goal

pub returns-then-not-contains : goal.returns-then-not-contains
returns-then-not-contains c = sym (other_size _ _ c.requires (λ a b. search (rules, c.if-not-contains.ensures, c.if-not-contains.true, c.new.ensures)))

pub bounds-self-slot : goal.bounds-self-slot
unfolding slot_of
bounds-self-slot c = rw c.slot.ensures (omega arith)

pub overflow_add-self : goal.overflow_add-self
overflow_add-self c = omega (arith, entry_in _ c.requires _ c.if-k-self.false)

pub text_of-w-requires : goal.text_of-w-requires
unfolding letters ascii ascii_from
text_of-w-requires c = (refl, entry_in _ c.requires _ (omega arith))
