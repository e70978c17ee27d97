-- What the proofs of the count of brackets and `match` rows cite: counted token by token it is what the definition says.
-- Assumes nothing.
use mathlib.Core.Bool.{Bool, true, false, cond}
use mathlib.Core.List.{List, [], ◌∷◌, ◌++◌}
use mathlib.Core.Option.{some}
use mathlib.Core.Path.{◌≡◌, refl, sym, ◌∙◌, ap, ap₂}
use Prim.Native.Nat.{ℕ, ◌+◌, ◌≤◌, ◌<◌}
use native.Mathlib.Omega.{arith}
use borrow.Author.Tests.{le-ltb, ne_eqb}
use lib.Dec.{eqb}
use Rattle.lexer.specs.Classes as t
use Rattle.lexer.specs.Lexemes.{Token}
use Rattle.lexer.specs.Limits.{most_open, most_in_row, depth_after, row_after, passes, first_too_deep}
use Rattle.lexer.specs.Nesting.{Nesting, within, past, counted, Passes, Counted, nest_after, nest_of, passed_at, Uncounted}

-- ---- both counts against their limits

pub passes-not : (d m : ℕ) → d ≤ most_open → m ≤ most_in_row → passes d m ≡ false
passes-not d m h k = simp (le-ltb most_open d h, le-ltb most_in_row m k)

-- one `match` more in a row, within the limit
pub row_within : (d i : ℕ) → d ≤ most_open → (m : ℕ) → m < most_in_row → within d (m + 1) ≡ counted d (m + 1) i
row_within d i h m k = ap (λ b. cond b (past i) (within d (m + 1))) (sym (passes-not d (m + 1) h (omega arith)))

-- any other kind than `match` and the brackets
pub uncounted : (k : ℕ) → (k ≡ t.Match → ⊥) → ((b : ℕ) → t.LParen ≤ b → b ≤ t.RAngle → k ≡ b → ⊥) → Uncounted k
unfolding depth_after row_after
uncounted k m n =
    let no : (b : ℕ) → t.LParen ≤ b → b ≤ t.RAngle → eqb k b ≡ false = λ b h l. ne_eqb k b (n b h l) in
    record {
      depth = λ d. simp (
        no t.LParen (omega arith) (omega arith),
        no t.LBracket (omega arith) (omega arith),
        no t.LBrace (omega arith) (omega arith),
        no t.LAngle (omega arith) (omega arith),
        no t.RParen (omega arith) (omega arith),
        no t.RBracket (omega arith) (omega arith),
        no t.RBrace (omega arith) (omega arith),
        no t.RAngle (omega arith) (omega arith),
      );
      row = λ r. simp (ne_eqb k t.Match m);
    }

-- ---- one token more

-- a token that is counted: what is known behind it, as its counts are within the limits or not
module _ (d m k i : ℕ) where
  after : Bool → Nesting
  after b = cond b (past i) (within (depth_after k d) (row_after k m))

  pub counted_past : Passes (depth_after k d) (row_after k m) → past i ≡ nest_after (within d m) k i
  unfolding after
  counted_past h = ap after (sym h)

  pub counted_within : {d' m' : ℕ} → Counted (depth_after k d) (row_after k m) d' m' → within d' m' ≡ nest_after (within d m) k i
  unfolding after
  counted_within h = ap₂ within h.1 h.2 ∙ ap after (sym h.0)

  -- a token that is not
  pub uncounted_within : Uncounted k → d ≤ most_open → {d' m' : ℕ} → d' ≡ d → m' ≡ 0 → within d' m' ≡ nest_after (within d m) k i
  unfolding after
  uncounted_within u h e f =
      ap₂ within (e ∙ sym (u.depth d)) (f ∙ sym (u.row m))
      ∙ ap after (sym (ap₂ passes (u.depth d) (u.row m) ∙ passes-not d 0 h (omega arith)))

-- ---- some tokens

nest-stays : (p : ℕ) (ts : List Token) → nest_of (past p) ts ≡ past p
nest-stays p [] = refl
nest-stays p (t ∷ ts) = nest-stays p ts

pub nest-snoc : (x : Nesting) (ts : List Token) (t : Token) → nest_of x (ts ++ t ∷ []) ≡ nest_after (nest_of x ts) t.kind t.start
nest-snoc x [] t = refl
nest-snoc x (u ∷ ts) t = nest-snoc (nest_after x u.kind u.start) ts t

-- the token that passes a limit is the one of the definition
pub nest_deep : (ts : List Token) (d m : ℕ) → passed_at (nest_of (within d m) ts) ≡ first_too_deep d m ts
unfolding first_too_deep
nest_deep [] d m = refl
nest_deep (t ∷ ts) d m = go (passes d' m') (nest_deep ts d' m')
  where
    d' : ℕ
    d' = depth_after t.kind d

    m' : ℕ
    m' = row_after t.kind m

    go : (b : Bool) → passed_at (nest_of (within d' m') ts) ≡ first_too_deep d' m' ts → passed_at (nest_of (cond b (past t.start) (within d' m')) ts) ≡ cond b (some t.start) (first_too_deep d' m' ts)
    go true ih = ap passed_at (nest-stays t.start ts)
    go false ih = ih
