-- `word_of` says what it should: word number k exactly where the bytes are that word, and `None` exactly where they are none of the list's.
-- Assumes nothing.
use Rattle.std.specs.Prelude.{Bool, true, false, cond, List, [], ◌∷◌, ◌≡◌, refl, ℕ, zero, suc, ◌+◌, ◌≤◌, ◌<◌, length, get_or}
use Rattle.std.proofs.Common.{sym, ◌∙◌, ap, subst, le_of_suc-le-suc, not-suc-le-zero, arith}
use Rattle.text.specs.Same.{same}
use Rattle.text.proofs.Same.{differ}
use Rattle.text.proofs.SameLaws.{same_true, same_self}
use Rattle.words.specs.Lies.{Only}
use Rattle.words.specs.Words.{find, word_of}
use Rattle.std.specs.Prelude.{Option, Some, None}
use Rattle.std.specs.Bool.{then_some}

-- What an answer says of p and a list of words: this word of the list, or none of them.
abbrev pub Says : List (List ℕ) → List ℕ → Option ℕ → Type 0
Says ws p (Some k) = (k < length ws) × (get_or ws k [] ≡ p)
Says ws p None = (k : ℕ) → k < length ws → get_or ws k [] ≡ p → ⊥

-- the same, counted from k
From : List (List ℕ) → List ℕ → ℕ → Option ℕ → Type 0
From ws p k (Some m) = (j : ℕ) × (m ≡ k + j) × (j < length ws) × (get_or ws j [] ≡ p)
From ws p k None = Says ws p None

none_of : (ws : List (List ℕ)) (w p : List ℕ) → same p w ≡ false → Says ws p None → Says (w ∷ ws) p None
none_of ws w p q r zero h e = differ (sym q ∙ ap (λ l. same p l) e ∙ same_self p)
none_of ws w p q r (suc j) h e = r j (le_of_suc-le-suc h) e

later : (ws : List (List ℕ)) (w p : List ℕ) (k : ℕ) (t : Option ℕ) → same p w ≡ false → From ws p (k + 1) t → From (w ∷ ws) p k t
unfolding From
later ws w p k (Some m) q r = (suc r.0, omega arith, omega arith, r.3)
later ws w p k None q r = none_of ws w p q r

found : (ws : List (List ℕ)) (p : List ℕ) (k : ℕ) → From ws p k (find p k ws)
unfolding find From
found [] p k = λ j h e. absurd (not-suc-le-zero h)
found (w ∷ ws) p k = go (same p w) refl (found ws p (k + 1))
  where
    go : (b : Bool) → same p w ≡ b → From ws p (k + 1) (find p (k + 1) ws) → From (w ∷ ws) p k (cond b (Some k) (find p (k + 1) ws))
    go true q r = (0, omega arith, omega arith, sym (same_true p w q))
    go false q r = later ws w p k (find p (k + 1) ws) q r

whole : (ws : List (List ℕ)) (p : List ℕ) (t : Option ℕ) → From ws p 0 t → Says ws p t
unfolding From
whole ws p (Some m) r =
    let e : m ≡ r.0 = omega arith in
    (omega (arith, r.2), ap (λ n. get_or ws n []) e ∙ r.3)
whole ws p None r = r

-- The answer of `word_of` is true.
pub says : (ws : List (List ℕ)) (p : List ℕ) → Says ws p (word_of ws p)
unfolding word_of
says ws p = whole ws p (find p 0 ws) (found ws p 0)

-- The place of a word that was found is one of the list's.
pub below : (ws : List (List ℕ)) (p : List ℕ) (k : ℕ) → word_of ws p ≡ Some k → k < length ws
below ws p k e = (subst (λ f. Says ws p f) e (says ws p)).0

-- A word that p is, and that alone it can be, is the answer.
pub is_word : (ws : List (List ℕ)) (p : List ℕ) (k : ℕ) → Only ws p k → k < length ws → get_or ws k [] ≡ p → word_of ws p ≡ Some k
is_word ws p k only h e = go (word_of ws p) (says ws p)
  where
    go : (t : Option ℕ) → Says ws p t → t ≡ Some k
    go (Some m) s = ap Some (sym (only.is m s.0 s.1))
    go None s = absurd (s k h e)

-- Bytes that are no word of the list are plain.
pub is_plain : (ws : List (List ℕ)) (p : List ℕ) → Says ws p None → word_of ws p ≡ None
is_plain ws p none = go (word_of ws p) (says ws p)
  where
    go : (t : Option ℕ) → Says ws p t → t ≡ None
    go (Some m) s = absurd (none m s.0 s.1)
    go None s = refl

-- What a candidate decides: p is no word if the candidate is past the words, or if p is not the candidate.
module _ (ws : List (List ℕ)) (p : List ℕ) (r : ℕ) (only : Only ws p r) where
  pub past : length ws ≤ r → Says ws p None
  past h k l e = omega (arith, only.is k l e)

  pub other : (p ≡ get_or ws r [] → ⊥) → Says ws p None
  other n k l e = n (sym e ∙ ap (λ m. get_or ws m []) (sym (only.is k l e)))

  pub settled : r < length ws → then_some (same p (get_or ws r [])) r ≡ word_of ws p
  settled h = go (same p (get_or ws r [])) refl
    where
      go : (b : Bool) → same p (get_or ws r []) ≡ b → then_some b r ≡ word_of ws p
      go true e = sym (is_word ws p r only h (sym (same_true p (get_or ws r []) e)))
      go false e = sym (is_plain ws p (other (λ f. differ (sym e ∙ ap (same p) (sym f) ∙ same_self p))))
