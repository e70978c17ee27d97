-- What the entry's small functions say: whether there are too many tokens, the first state, and what the last one says.
-- Assumes nothing.
use Rattle.std.proofs.Common.{◌≡◌, ℕ, ◌*◌, ◌<◌, ◌≤◌, Bool, false, ◌||◌, ltb, List, [], ◌∷◌, length, sym, refl, ap, ◌∙◌, subst, arith, ltb-false, leb-false}
use Rattle.std.proofs.lemmas.Bool.{or_parts}
use Rattle.text.specs.Widths.{tok_wide}
use Rattle.std.specs.Prelude.{None}
use Rattle.theory.specs.Grammar.{nt}
use Rattle.grammar.specs.Shapes.TablesIndex.{n-function}
use Rattle.parse.specs.Contract.{Text, countable, u32_count, tok_at, fault, Ready, Gives, as_items, Parsed, Node}
use Rattle.parse.specs.Infos.{FunctionKind, FileRead}
use Rattle.parse.specs.Entry.{entry_of, too_many, too_many_starts, too_long, WholeRead, one_read, all_read, Starts}
use Rattle.parse.specs.declared.ReadAs.{ReadAs}
use Rattle.parse.specs.declared.ReadAs.TheVariants.{Function, File}
use Rattle.parse.specs.declared.State.{State}
use Rattle.parse.specs.declared.Step.{Step}
use Rattle.parse.proofs.Rule.Amid.{class-at}

few : {b : Bool} (most n size wanted : ℕ) → b ≡ ltb most n || ltb size wanted → b ≡ false → (n ≤ most) × (wanted ≤ size)
few most n size wanted e f = let h = or_parts (ltb most n) (ltb size wanted) (sym e ∙ f) in (ltb-false most n h.0, ltb-false size wanted h.1)

pub few-tokens : {b : Bool} (most n tw : ℕ) → b ≡ too_many most n tw → b ≡ false → (n ≤ most) × (tok_wide * n ≤ tw)
unfolding too_many
few-tokens most n tw = few most n tw (tok_wide * n)

pub few-starts : {b : Bool} (most n sw : ℕ) → b ≡ too_many_starts most n sw → b ≡ false → (n ≤ most) × (n ≤ sw)
unfolding too_many_starts
few-starts most n sw = few most n sw n

-- The first state.
pub starts-at : (x : Text) {c b s : ℕ} → Gives (record { class = c; start = b; stop = s }) (tok_at x 0)
    → Starts x (record { at = 0; class = c; start = b; stop = s; end = 0; out = 0; fault = None })
unfolding fault
starts-at x g = record {
  stands = record {
    within = omega arith;
    class_is = g.class_is ∙ sym (class-at x.ts 0);
    start_is = g.start_is;
    stop_is = g.stop_is;
    end_is = λ p e. absurd (omega arith);
  };
  at_is = refl;
  out_is = refl;
  kept_is = refl;
}

pub starts-ready : {x : Text} {st : State} → Starts x st → length x.ts ≤ countable → Ready x st
starts-ready s h = record { stands = s.stands; short = h; few = omega (arith, s.out_is) }

-- A file that is too long, or not.
module _ {f : ReadAs} (len : ℕ) where
  pub short_file : f ≡ File → too_long (entry_of f) len ≡ false → len < u32_count
  unfolding too_long
  short_file e g = leb-false u32_count len (ap (λ (b : ReadAs). too_long (entry_of b) len) (sym e) ∙ g)

-- What is read at each entry.
module _ {x : Text} {len : ℕ} {st : State} {l l' : List ℕ} {r : Step} {f : ReadAs} where
  pub at_file : f ≡ File → FileRead x len st l l' r → WholeRead x len st l l' r (entry_of f)
  at_file e p = subst (λ b. WholeRead x len st l l' r (entry_of b)) (sym e) (all_read p)

  pub at_function : f ≡ Function → Parsed x (nt n-function ∷ []) as_items (Node FunctionKind) st l l' r → WholeRead x len st l l' r (entry_of f)
  at_function e p = subst (λ b. WholeRead x len st l l' r (entry_of b)) (sym e) (one_read p)
