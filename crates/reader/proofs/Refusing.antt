-- A loaded listing has a record, so that 0 is returned exactly on a refusal.
-- Assumes nothing.
use Rattle.std.specs.Prelude.{List, ◌↔◌, ◌≡◌, refl, ℕ}
use Rattle.std.proofs.Common.{sym, ◌∙◌, arith}
use Rattle.text.specs.Answers.{Answer, accepted, refused, values}
use Rattle.load.specs.Load.{load_of}
use Rattle.load.specs.Taken.{Taken}
use Rattle.load.proofs.Laws.{accepted-taken, some-record}
use Rattle.reader.specs.Loading.{records_loaded, Refusing}

-- A function or program has a record,
by_answer : (listing : List ℕ) (room : ℕ) (a : Answer) → load_of listing room ≡ a → ((values a).records ≡ 0) ↔ Refusing a
by_answer listing room (refused c l) e = (λ z. tt, λ u. refl)
by_answer listing room (accepted n m) e = ((λ z. none (accepted-taken listing room e) z), λ u. absurd u)
  where
    none : Taken listing room m → m ≡ 0 → ⊥
    none t z = let h = some-record t.its t.whole in let k = t.number in omega arith

-- so that 0 is returned exactly on a refusal.
pub nothing-only : (listing : List ℕ) (room : ℕ) {n : ℕ} → n ≡ records_loaded listing room → (n ≡ 0) ↔ Refusing (load_of listing room)
nothing-only listing room {n} e =
    let h = by_answer listing room (load_of listing room) refl in
    ((λ z. h.0 (sym e ∙ z)), λ u. e ∙ h.1 u)
