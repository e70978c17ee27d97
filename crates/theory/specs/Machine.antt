-- The predictive machine as two relations: with these symbols left to read it accepts the tokens, or it refuses them at a place.
-- Assumes nothing.
use Rattle.std.specs.Prelude.{◌≡◌, List, [], ◌∷◌, ◌++◌, ℕ}
use Rattle.std.proofs.Math.Option.{Option, none, some}
use Rattle.theory.specs.Grammar.{Sym, tok, nt, Row, row, look, alt}

-- The class of the next token, 0 at the end.
abbrev pub la : List ℕ → ℕ
la [] = 0
la (a ∷ ts) = a

-- The number of the alternative that the table has for the nonterminal A at the class a.
unfoldable pub choose : List Row → ℕ → ℕ → ℕ
choose g A a = look (row g A).cases (row g A).other a

-- That alternative, if there is one.
abbrev pub expand : List Row → ℕ → ℕ → Option (List Sym)
expand g A a = alt g A (choose g A a)

-- The symbols accept the tokens.
pub data Acc (g : List Row) : List Sym → List ℕ → Type 0 where
  a_end : Acc g [] []
  a_tok : {a b : ℕ} {σ : List Sym} {ts : List ℕ} → a ≡ b → Acc g σ ts → Acc g (tok b ∷ σ) (a ∷ ts)
  a_nt : {A : ℕ} {σ : List Sym} {ts : List ℕ} {rhs : List Sym} → expand g A (la ts) ≡ some rhs → Acc g (rhs ++ σ) ts → Acc g (nt A ∷ σ) ts

-- The symbols take the tokens of the first list and refuse what is left, the second list, at its beginning.
pub data Ref (g : List Row) : List Sym → List ℕ → List ℕ → Type 0 where
  r_long : {a : ℕ} {ts : List ℕ} → Ref g [] [] (a ∷ ts)
  r_short : {b : ℕ} {σ : List Sym} → Ref g (tok b ∷ σ) [] []
  r_other : {a b : ℕ} {σ : List Sym} {ts : List ℕ} → ¬ (a ≡ b) → Ref g (tok b ∷ σ) [] (a ∷ ts)
  r_stuck : {A : ℕ} {σ : List Sym} {ts : List ℕ} → expand g A (la ts) ≡ none → Ref g (nt A ∷ σ) [] ts
  r_tok : {b : ℕ} {σ : List Sym} {d r : List ℕ} → Ref g σ d r → Ref g (tok b ∷ σ) (b ∷ d) r
  r_nt : {A : ℕ} {σ : List Sym} {d r : List ℕ} {rhs : List Sym} → expand g A (la (d ++ r)) ≡ some rhs → Ref g (rhs ++ σ) d r → Ref g (nt A ∷ σ) d r

-- Two rests of tokens that the machine cannot tell apart at once: both at the end, or with the same next token.
pub data Same : List ℕ → List ℕ → Type 0 where
  same_end : Same [] []
  same_head : {x : ℕ} {r s : List ℕ} → Same (x ∷ r) (x ∷ s)
