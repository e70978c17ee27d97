-- The test that a grammar's table is right, which antt computes, and the laws that it gives: of each alternative, that what it may
-- begin with is in `first`, that the table chooses it there, and that what may follow its nonterminals is in their `follow`;
-- of each nonterminal, that it has a word.
-- Assumes nothing.
use Rattle.std.specs.Prelude.{◌≡◌, ◌⊎◌, true, not, ◌&&◌, ◌||◌, ℕ, zero, suc, T}
use Rattle.std.proofs.Math.Logic.{inl, inr}
use Rattle.std.proofs.Math.Bool.{Bool, false}
use mathlib.Core.List.{List, [], ◌∷◌, ◌++◌}
use Rattle.std.proofs.Math.Option.{Option, none, some}
use Rattle.std.proofs.Common.{arith}
use Rattle.std.proofs.Math.Dec.{eqb}
use Rattle.text.proofs.Table.{first-of, second-of}
use Rattle.text.specs.Lists.{has, all}
use Rattle.text.proofs.ListLaws.{all-has, all_get_or}
use Rattle.theory.specs.Grammar.{Sym, tok, nt, Row, row, look, alt, pick, blank}
use Rattle.theory.specs.Machine.{choose}

-- Whether the test passes at each alternative and its number, counted from 1.
unfoldable pub numbered : (ℕ → List Sym → Bool) → List (List Sym) → Bool
numbered f [] = true
numbered f (x ∷ l) = f 1 x && numbered (λ i. f (suc i)) l

-- Of two tests one of which passes, the second if the first does not.
pub other-of : (a b : Bool) → T (not a || b) → T a → T b
other-of true b t h = t
other-of false b t h = absurd h

some-eq : {x y : List Sym} → some x ≡ some y → x ≡ y
some-eq e = cc

no-some : {X : Type 0} {y : List Sym} → ◌≡◌ {A = Option (List Sym)} none (some y) → X
no-some e = let z : ◌≡◌ {A = ℕ} 0 1 = cc in absurd (omega arith)

-- A test that passes at each alternative passes at the one of a number.
pub numbered-at : (f : ℕ → List Sym → Bool) (l : List (List Sym)) → T (numbered f l) → (i : ℕ) {y : List Sym} → pick l i ≡ some y → T (f i y)
unfolding numbered pick
numbered-at f l t zero e = no-some e
numbered-at f [] t (suc i) e = no-some e
numbered-at f (x ∷ l) t (suc zero) e = rw (← some-eq e) (first-of (f 1 x) (numbered (λ i. f (suc i)) l) t)
numbered-at f (x ∷ l) t (suc (suc i)) e = numbered-at (λ i. f (suc i)) l (second-of (f 1 x) (numbered (λ i. f (suc i)) l) t) (suc i) e

module _ (g : List Row) where
  -- The symbols may start with the class a, where what comes after them does if C.
  abbrev pub Starts : Type 0 → ℕ → List Sym → Type 0
  Starts C a [] = C
  Starts C a (tok b ∷ σ) = a ≡ b
  Starts C a (nt B ∷ σ) = T (has (row g B).first a) ⊎ (T (row g B).null × Starts C a σ)

  -- Whether p passes at each class with which the symbols may start, and `end` does where they may be empty.
  unfoldable pub scan : (ℕ → Bool) → Bool → List Sym → Bool
  scan p end [] = end
  scan p end (tok b ∷ σ) = p b
  scan p end (nt B ∷ σ) = all p (row g B).first && (not (row g B).null || scan p end σ)

  -- What `scan` says of a class with which the symbols start.
  pub scan-at : (p : ℕ → Bool) (end : Bool) (C : Type 0) (a : ℕ) (σ : List Sym) → T (scan p end σ) → Starts C a σ → T (p a) ⊎ (T end × C)
  unfolding scan
  scan-at p end C a [] t s = inr (t, s)
  scan-at p end C a (tok b ∷ σ) t s = inl (rw s t)
  scan-at p end C a (nt B ∷ σ) t (inl m) = inl (all-has p (row g B).first a (first-of (all p (row g B).first) (not (row g B).null || scan p end σ) t) m)
  scan-at p end C a (nt B ∷ σ) t (inr s) =
      scan-at p end C a σ (other-of (row g B).null (scan p end σ) (second-of (all p (row g B).first) (not (row g B).null || scan p end σ) t) s.0) s.1

  -- Whether, after each nonterminal among the symbols of the row r, the rest starts with what may follow that nonterminal.
  unfoldable pub follows : Row → List Sym → Bool
  follows r [] = true
  follows r (tok b ∷ σ) = follows r σ
  follows r (nt B ∷ σ) = scan (has (row g B).follow) (all (has (row g B).follow) r.follow) σ && follows r σ

  -- Whether the symbols come to a word in n steps by the alternatives `least`.
  unfoldable pub short : ℕ → List Sym → Bool
  short zero σ = false
  short (suc n) [] = true
  short (suc n) (tok b ∷ σ) = short n σ
  short (suc n) (nt B ∷ σ) = elim (alt g B (row g B).least) [ none ↦ false | some rhs ↦ short n (rhs ++ σ) ]

  -- The test of an alternative of the row r: its beginnings are in `first`, the table chooses it there, `follow` is right.
  unfoldable pub good_alt : Row → ℕ → List Sym → Bool
  good_alt r i rhs =
      scan (has r.first) r.null rhs &&
      (scan (λ b. eqb (look r.cases r.other b) i) (all (λ b. eqb (look r.cases r.other b) i) r.follow) rhs &&
      follows r rhs)

  -- The test of a row: each alternative, and that it has a word.
  unfoldable pub good_row : Row → Bool
  good_row r = numbered (good_alt r) r.alts && elim (pick r.alts r.least) [ none ↦ false | some rhs ↦ short 1000 rhs ]

  -- The test of the whole table.
  unfoldable pub good : Bool
  good = good_row blank && all good_row g

  module _ (ok : T good) where
    -- Each row passes its test.
    pub row-good : (A : ℕ) → T (good_row (row g A))
    unfolding good row
    row-good A = all_get_or good_row g blank (second-of (good_row blank) (all good_row g) ok) (first-of (good_row blank) (all good_row g) ok) A

    alt-good : (A i : ℕ) {rhs : List Sym} → alt g A i ≡ some rhs → T (good_alt (row g A) i rhs)
    unfolding good_row alt
    alt-good A i e =
        numbered-at (good_alt (row g A)) (row g A).alts
        (first-of (numbered (good_alt (row g A)) (row g A).alts) (elim (pick (row g A).alts (row g A).least) [ none ↦ false | some rhs ↦ short 1000 rhs ]) (row-good A))
        i e

    -- Each alternative passes its three tests.
    pub parts : (A i : ℕ) {rhs : List Sym} → alt g A i ≡ some rhs → record { firsts : T (scan (has (row g A).first) (row g A).null rhs); choice : T (scan (λ b. eqb (choose g A b) i) (all (λ b. eqb (choose g A b) i) (row g A).follow) rhs); after : T (follows (row g A) rhs) }
    unfolding good_alt choose
    parts A i {rhs} e =
        let r : Row = row g A in
        let a : Bool = scan (has r.first) r.null rhs in
        let b : Bool = scan (λ b. eqb (look r.cases r.other b) i) (all (λ b. eqb (look r.cases r.other b) i) r.follow) rhs in
        let p = second-of a (b && follows r rhs) (alt-good A i e) in
        record { firsts = first-of a (b && follows r rhs) (alt-good A i e); choice = first-of b (follows r rhs) p; after = second-of b (follows r rhs) p }
