-- The chunks of a text: the first of them that is no line of a form, and the numbers of those that are.
-- Assumes nothing.
use Rattle.std.specs.Prelude.{MatchOption, IsSomeAnd, Option, Some, None, Bool, true, false, not, cond, ◌||◌, List, [], ◌∷◌, ◌++◌, map, ◌≡◌, refl, ℕ, zero, suc, ◌+◌, ◌/◌, ◌<◌, ◌≤◌, T, eqb, ltb, length, take, drop, min}
use Rattle.std.proofs.Common.{true≢false, drop_of_length-le, sym, ap, ◌∙◌, subst, arith, eqb→eq, length-append, take-append-drop, append-nil, append_assoc}
use borrow.Author.Tests.{eq-eqb, lt-ltb, le-ltb}
use native.Mathlib.Decide.{dec_lt}
use Rattle.std.specs.Iterator.{AlwaysYields}
use Rattle.std.proofs.lemmas.Iterator.{YieldsList}
use Rattle.std.specs.Slice.Iter.{chunks_steps, chunks_rest, chunks_size}
use Rattle.std.specs.List.{list_any, position_or_len}
use Rattle.std.specs.Simd.{first_chunks}
use Rattle.text.proofs.Table.{is_true, is_false}
use Rattle.lines.specs.Form.{line_of, wide}
use Rattle.lines.specs.Lines.{long_widths, needs_more, is_long}
use Rattle.lines.proofs.Lines.{long-any}
use Rattle.load.specs.Listing.Read.{in_form, values_of, bad_from, bad_line, first_bad, rows_from, lines_read}
use Rattle.load.proofs.LineLaws.{values-part, some-bad}
use Rattle.load.proofs.Listing.LineLaws.{line-is, line-then, line-in}
use Rattle.std.proofs.lemmas.List.{take_all, drop_at}
use Rattle.std.proofs.Math.Seq.{take-append_seam}

-- A list in chunks of n, the last of which may be short; at most f of them.
unfoldable pub chunks_of : ℕ → ℕ → List ℕ → List (List ℕ)
chunks_of n zero l = []
chunks_of n (suc f) l = cond (eqb (length l) 0) [] (take n l ∷ chunks_of n f (drop n l))

nothing : (x : List ℕ) → length x ≡ 0 → x ≡ []
nothing [] q = refl
nothing (y ∷ x) q = absurd (omega arith)

-- A part of a list that is as long as n, or all of it.
first-part : (n : ℕ) (l a b : List ℕ) → l ≡ a ++ b → length a ≡ min n (length l) → (a ≡ take n l) × (b ≡ drop n l)
first-part n l a b e h = go (dec_lt (length l) n)
  where
    long : length l ≡ length a + length b
    long = ap length e ∙ length-append a b

    go : Dec (length l < n) → (a ≡ take n l) × (b ≡ drop n l)
    go (yes k) =
        let z : b ≡ [] = nothing b (omega (arith, long)) in
        (sym (append-nil a) ∙ ap (λ (x : List ℕ). a ++ x) (sym z) ∙ sym e ∙ sym (take_all n l (omega arith)), z ∙ sym (drop_of_length-le l (omega arith)))
    go (no k) =
        let m : length a ≡ n = omega arith in
        (sym (take-append_seam a b) ∙ (λ i. take (m i) (sym e i)), sym (ap (drop n) e ∙ drop_at a b n m))

-- What is left behind the first chunk.
rest-less : (n f : ℕ) (l a b : List ℕ) → 0 < n → 0 < length l → length l ≤ suc f → l ≡ a ++ b → length a ≡ min n (length l) → length b ≤ f
rest-less n f l a b p q h e m = omega (arith, ap length e, length-append a b)

pub chunks-yield : (f : ℕ) (s : _) → 0 < chunks_size {T = ℕ} s → length (chunks_rest s) ≤ f → AlwaysYields chunks_steps (λ y. y.now) s (chunks_of (chunks_size s) f (chunks_rest s))
unfolding chunks_of
chunks-yield zero s n h = λ x t p. omega (arith, p.1.2)
chunks-yield (suc f) s n h = go (eqb (length (chunks_rest s)) 0) refl (chunks-yield f)
  where
    go : (b : Bool) → eqb (length (chunks_rest s)) 0 ≡ b
        → ((t : _) → 0 < chunks_size {T = ℕ} t → length (chunks_rest t) ≤ f → AlwaysYields chunks_steps (λ y. y.now) t (chunks_of (chunks_size t) f (chunks_rest t)))
        → AlwaysYields chunks_steps (λ y. y.now) s (cond b [] (take (chunks_size s) (chunks_rest s) ∷ chunks_of (chunks_size s) f (drop (chunks_size s) (chunks_rest s))))
    go true e r = λ x t p. let z = eqb→eq (length (chunks_rest s)) 0 (subst T (sym e) tt) in omega (arith, p.1.2)
    go false e r = (
      (λ t p. true≢false (sym (eq-eqb (length (chunks_rest s)) 0 p.1.0) ∙ e)),
      λ x t p.
          let q = first-part (chunks_size s) (chunks_rest s) x.now (chunks_rest t) p.1.0 p.1.1 in
          let small = rest-less (chunks_size s) f (chunks_rest s) x.now (chunks_rest t) n p.1.2 h p.1.0 p.1.1 in
          (q.0, subst (AlwaysYields chunks_steps (λ y. y.now) t) (λ i. chunks_of (p.0 i) f (q.1 i)) (r t (omega (arith, p.0)) small)),
    )

-- The chunks of a text are what the iterator of the library yields.
pub chunks-listed : (step : ℕ) (text : List ℕ) (s : _) → 0 < step → chunks_size {T = ℕ} s ≡ step → chunks_rest s ≡ text
    → YieldsList chunks_steps (λ y. y.now) s (chunks_of step (length text) text)
chunks-listed step text s n e r =
    record { runs = subst (AlwaysYields chunks_steps (λ y. y.now) s) (λ i. chunks_of (e i) (length text) (r i)) (chunks-yield (length text) s (omega arith) (omega (arith, ap length r))) }

-- A chunk is bad that is no line of the form, as one that is too short is.
abbrev pub is_bad : List ℕ → List ℕ → Bool
is_bad ws l = not (in_form ws l)

-- The first bad one is that of the first bad line.
module _ (ws : List ℕ) (step : ℕ) (e : step ≡ wide ws) where
  abbrev bad : List ℕ → Bool
  bad l = is_bad ws l

  in-form-front : (bs : List ℕ) → T (in_form ws bs) → T (in_form ws (take step bs))
  in-form-front bs t =
      let l : take step bs ≡ line_of ws (values_of ws bs) ++ [] = ap (λ (n : ℕ). take n bs) e ∙ line-is ws bs t ∙ sym (append-nil (line_of ws (values_of ws bs))) in
      subst (λ (x : List ℕ). T (in_form ws x)) (sym l) (line-in ws (values_of ws bs) [])

  in-form-back : (bs : List ℕ) → T (in_form ws (take step bs)) → T (in_form ws bs)
  in-form-back bs t =
      let vs = values_of ws (take step bs) in
      let r = drop (wide ws) (take step bs) in
      let l : bs ≡ line_of ws vs ++ (r ++ drop step bs) = sym (take-append-drop step bs) ∙ ap (λ (x : List ℕ). x ++ drop step bs) (line-then ws (take step bs) t) ∙ append_assoc (line_of ws vs) r (drop step bs) in
      subst (λ (x : List ℕ). T (in_form ws x)) (sym l) (line-in ws vs (r ++ drop step bs))

  bad-is : (bs : List ℕ) → bad (take step bs) ≡ not (in_form ws bs)
  bad-is bs = go (in_form ws bs) refl
    where
      go : (b : Bool) → in_form ws bs ≡ b → not (in_form ws (take step bs)) ≡ not b
      go true f = ap not (is_true (in_form ws (take step bs)) (in-form-front bs (subst T (sym f) tt)))
      go false f = ap not (is_false (in_form ws (take step bs)) (λ t. true≢false (sym (is_true (in_form ws bs) (in-form-back bs t)) ∙ f)))

  -- its number, from 1, or 0
  pub number-at : ℕ → ℕ → ℕ → ℕ
  number-at i k n = cond (ltb k n) (i + k + 1) 0

  -- the place of the first of some chunks, by whether this first one is bad
  placed : ℕ → ℕ → ℕ → Bool → ℕ
  placed i k n b = number-at i (cond (not b) (1 + k) 0) (suc n)

  further : (i k n : ℕ) → number-at (suc i) k n ≡ placed i k n false
  unfolding placed number-at
  further i k n = go (dec_lt k n)
    where
      go : Dec (k < n) → cond (ltb k n) (suc i + k + 1) 0 ≡ cond (ltb (1 + k) (suc n)) (i + (1 + k) + 1) 0
      go (yes l) = let j : suc i + k + 1 ≡ i + (1 + k) + 1 = omega arith in (simp (lt-ltb k n l, lt-ltb (1 + k) (suc n) (omega arith), j))
      go (no l) = simp (le-ltb k n (omega arith), le-ltb (1 + k) (suc n) (omega arith))

  here : (i k n : ℕ) → suc i ≡ placed i k n true
  unfolding placed number-at
  here i k n = let j : suc i ≡ i + 0 + 1 = omega arith in j ∙ sym (ap (λ (b : Bool). cond b (i + 0 + 1) 0) (lt-ltb 0 (suc n) (omega arith)))

  pub bad-place : (f i : ℕ) (bs : List ℕ) → bad_from ws f i bs ≡ number-at i (position_or_len bad (chunks_of step f bs)) (length (chunks_of step f bs))
  unfolding bad_from chunks_of number-at placed
  bad-place zero i bs = refl
  bad-place (suc f) i bs = go (eqb (length bs) 0) (in_form ws bs) refl (bad-place f (suc i) (drop step bs))
    where
      rest : List (List ℕ)
      rest = chunks_of step f (drop step bs)

      all : Bool → List (List ℕ)
      all z = cond z [] (take step bs ∷ rest)

      go : (z b : Bool) → in_form ws bs ≡ b → bad_from ws f (suc i) (drop step bs) ≡ number-at (suc i) (position_or_len bad rest) (length rest)
          → cond z 0 (cond b (bad_from ws f (suc i) (drop (wide ws) bs)) (suc i)) ≡ number-at i (position_or_len bad (all z)) (length (all z))
      go true b d r = refl
      go false true d r =
          ap (λ (n : ℕ). bad_from ws f (suc i) (drop n bs)) (sym e) ∙ r ∙ further i (position_or_len bad rest) (length rest)
          ∙ ap (placed i (position_or_len bad rest) (length rest)) (sym (bad-is bs ∙ ap not d))
      go false false d r = here i (position_or_len bad rest) (length rest) ∙ ap (placed i (position_or_len bad rest) (length rest)) (sym (bad-is bs ∙ ap not d))

  pub first-bad : (text : List ℕ) → let cs = chunks_of step (length text) text in first_bad (cond (ltb (position_or_len bad cs) (length cs)) (0 + position_or_len bad cs + 1) 0) ≡ first_bad (bad_line ws text)
  unfolding bad_line number-at
  first-bad text = ap first_bad (sym (bad-place (length text) 0 text))

-- The number of the line, from the place of the chunk.
pub from-place : {P : ℕ → ℕ → Type 0} (k n : ℕ) {r m : Option ℕ} → r ≡ cond (ltb k n) (Some k) None → MatchOption r (m ≡ None) (λ x. IsSomeAnd m (P x)) → ((x y : ℕ) → P x y → y ≡ x + 1)
    → m ≡ first_bad (cond (ltb k n) (0 + k + 1) 0)
from-place {P} k n {r} {m} e c f = go (ltb k n) (subst (λ (o : Option ℕ). MatchOption o (m ≡ None) (λ x. IsSomeAnd m (P x))) e c)
  where
    some-one : (o : Option ℕ) → IsSomeAnd o (P k) → o ≡ first_bad (0 + k + 1)
    some-one None q = absurd q
    some-one (Some y) q = let j : k + 1 ≡ 0 + k + 1 = omega arith in ap Some (f k y q) ∙ some-bad k j

    go : (b : Bool) → MatchOption (cond b (Some k) None) (m ≡ None) (λ x. IsSomeAnd m (P x)) → m ≡ first_bad (cond b (0 + k + 1) 0)
    go true q = some-one m q
    go false q = q

-- The numbers of the lines are those of the chunks.
pub chunks-read : (ws : List ℕ) (n : ℕ) (bs : List ℕ) → map (values_of ws) (first_chunks (wide ws) n bs) ≡ rows_from ws n bs
unfolding rows_from
chunks-read ws zero bs = refl
chunks-read ws (suc n) bs = λ i. values-part ws (wide ws) bs (omega arith) i ∷ chunks-read ws n (drop (wide ws) bs) i

any-map : {A B : Type 0} (p : B → Bool) (f : A → B) (l : List A) → list_any (λ a. p (f a)) l ≡ list_any p (map f l)
any-map p f [] = refl
any-map p f (a ∷ l) = ap (λ (b : Bool). p (f a) || b) (any-map p f l)

-- Whether a line of a listing needs 49 bytes, from the chunks of the text.
pub long-chunks : (text : List ℕ) {cs : List (List ℕ)} {b : Bool} → b ≡ list_any (λ l. needs_more (values_of long_widths l)) cs
    → cs ≡ first_chunks (wide long_widths) (length text / wide long_widths) text → b ≡ is_long (lines_read long_widths text)
unfolding lines_read
long-chunks text {cs} e c =
    e
    ∙ any-map needs_more (values_of long_widths) cs
    ∙ ap (list_any needs_more) (ap (map (values_of long_widths)) c ∙ chunks-read long_widths (length text / wide long_widths) text)
    ∙ long-any (lines_read long_widths text)
