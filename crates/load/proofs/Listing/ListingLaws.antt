-- Whole listings read back, of any form: where no line is bad they are the lines of the numbers read, and the first bad line stands behind lines
-- that are not.
-- Assumes nothing.
use Rattle.std.specs.Prelude.{Bool, false, ◌⊎◌, ◌≡◌, T}
use Rattle.std.proofs.Math.Bool.{true, cond}
use mathlib.Core.List.{List, [], ◌∷◌, ◌++◌, append_assoc, append-nil}
use Rattle.std.proofs.Math.Logic.{inl}
use Rattle.std.proofs.Common.{inr, ◌∙◌, subst, add-zero, eq-eqb, ne_eqb}
use Rattle.std.proofs.Math.Path.{refl, sym, ap, ap₂}
use Prim.Native.Nat.{ℕ, zero, suc, ◌+◌, ◌-◌, ◌*◌, ◌/◌, ◌<◌, ◌≤◌}
use native.Mathlib.Omega.{arith}
use Rattle.std.proofs.Math.Nat.{mul-div_right, mul-le-mul_right}
use Rattle.std.proofs.Math.Decide.{dec_lt}
use Rattle.std.proofs.Math.ListN.{length, drop, length-append, length-drop}
use Rattle.std.proofs.Math.Seq.{drop_at}
use Rattle.text.proofs.Table.{is_true, is_false}
use Rattle.own.specs.Lists.{nil, ◌&◌}
use Rattle.own.proofs.Lists.{all_head, all_tail}
use Rattle.lines.specs.Form.{wide, line_of}
use Rattle.lines.proofs.Form.{line-wide}
use Rattle.lines.specs.Lines.{lines_of}
use Rattle.lines.proofs.Lines.{lines-wide}
use Rattle.load.specs.Listing.InForm.{Fitting, Begins}
use Rattle.load.specs.Listing.Read.{in_form, bad_from, bad_line, rows_from, lines_read}
use Rattle.load.proofs.Listing.LineLaws.{line-in, line-back}
use Rattle.load.proofs.Listing.RecordLaws.{begins-exactly}

-- No line is bad where there is none;
pub bad-none : (ws : List ℕ) (f i : ℕ) (bs : List ℕ) → length bs ≡ 0 → bad_from ws f i bs ≡ 0
unfolding bad_from
bad-none ws zero i bs e = refl
bad-none ws (suc f) i bs e = ap (λ (t : Bool). cond t 0 (cond (in_form ws bs) (bad_from ws f (suc i) (drop (wide ws) bs)) (suc i))) (eq-eqb (length bs) 0 e)

module _ (ws : List ℕ) (f i : ℕ) (bs : List ℕ) (h : 0 < length bs) where
  bad-by : {t : Bool} → in_form ws bs ≡ t → bad_from ws (suc f) i bs ≡ cond t (bad_from ws f (suc i) (drop (wide ws) bs)) (suc i)
  unfolding bad_from
  bad-by e =
      ap₂ (λ (s t : Bool). cond s 0 (cond t (bad_from ws f (suc i) (drop (wide ws) bs)) (suc i))) (ne_eqb (length bs) 0 (λ z. omega arith)) e

  -- a line in form is passed, and one that is not is the first.
  pub bad-past : in_form ws bs ≡ true → bad_from ws (suc f) i bs ≡ bad_from ws f (suc i) (drop (wide ws) bs)
  bad-past e = bad-by e

  pub bad-here : in_form ws bs ≡ false → bad_from ws (suc f) i bs ≡ suc i
  bad-here e = bad-by e

-- A text that is lines of the form.
pub record Good (ws text : List ℕ) : Type 0 where
  pub its : List (List ℕ)
  pub fitting : Fitting ws its
  pub they_are : text ≡ lines_of ws its

-- A text whose first i lines are of the form, and the next, of which there is a byte at least, is not.
pub record Bad (ws text : List ℕ) (i : ℕ) : Type 0 where
  pub its : List (List ℕ)
  pub rest : List ℕ
  pub fitting : Fitting ws its
  pub many : length its ≡ i
  pub they_are : text ≡ lines_of ws its ++ rest
  pub some : 0 < length rest
  pub other : Begins ws rest → ⊥

-- Lines begin with the first.
pub lines-begin : (ws : List ℕ) (vs : List (List ℕ)) (rest : List ℕ) → 0 < length vs → T (in_form ws (lines_of ws vs ++ rest))
unfolding lines_of
lines-begin ws [] rest h = absurd (omega arith)
lines-begin ws (v ∷ vs) rest h = subst (λ (l : List ℕ). T (in_form ws l)) (sym (append_assoc (line_of ws v) (lines_of ws vs) rest)) (line-in ws v (lines_of ws vs ++ rest))

some-wide : (ws : List ℕ) → 0 < length ws → 0 < wide ws
some-wide [] h = h
some-wide (n ∷ ns) h = omega arith

module _ (ws : List ℕ) (fields : 0 < length ws) where
  line-some : 0 < wide ws
  line-some = some-wide ws fields

  -- Every text is one or the other:
  good-then : (bs : List ℕ) → Begins ws bs → Good ws (drop (wide ws) bs) → Good ws bs
  unfolding lines_of
  good-then bs b g =
      let l = line_of ws b.its in
      let e : drop (wide ws) bs ≡ b.rest = ap (drop (wide ws)) b.they_are ∙ drop_at l b.rest (wide ws) (line-wide ws b.its) in
      record { its = b.its ∷ g.its; fitting = b.fit & g.fitting; they_are = b.they_are ∙ ap (λ (x : List ℕ). l ++ x) (sym e ∙ g.they_are) }

  bad-then : (bs : List ℕ) (i : ℕ) → Begins ws bs → Bad ws (drop (wide ws) bs) i → Bad ws bs (suc i)
  unfolding lines_of
  bad-then bs i b g =
      let l = line_of ws b.its in
      let e : drop (wide ws) bs ≡ b.rest = ap (drop (wide ws)) b.they_are ∙ drop_at l b.rest (wide ws) (line-wide ws b.its) in
      record {
        its = b.its ∷ g.its;
        rest = g.rest;
        fitting = b.fit & g.fitting;
        many = ap suc g.many;
        they_are = b.they_are ∙ ap (λ (x : List ℕ). l ++ x) (sym e ∙ g.they_are) ∙ sym (append_assoc l (lines_of ws g.its) g.rest);
        some = g.some;
        other = g.other;
      }

  good_none : (bs : List ℕ) → length bs ≤ 0 → Good ws bs
  unfolding lines_of
  good_none [] h = record { its = []; fitting = nil; they_are = refl }
  good_none (b ∷ bs) h = absurd (omega arith)

  -- by as many steps as it has bytes.
  cut : (f : ℕ) (bs : List ℕ) → length bs ≤ f → Good ws bs ⊎ ((i : ℕ) × Bad ws bs i)
  unfolding lines_of
  cut zero bs h = inl (good_none bs h)
  cut (suc f) bs h = go (dec_lt 0 (length bs)) (in_form ws bs) refl (cut f (drop (wide ws) bs))
    where
      go : Dec (0 < length bs) → (t : Bool) → in_form ws bs ≡ t → (length (drop (wide ws) bs) ≤ f → Good ws (drop (wide ws) bs) ⊎ ((i : ℕ) × Bad ws (drop (wide ws) bs) i))
          → Good ws bs ⊎ ((i : ℕ) × Bad ws bs i)
      go (no l) t e r = inl (good_none bs (omega arith))
      go (yes l) true e r = next (r (omega (arith, length-drop (wide ws) bs, line-some)))
        where
          b : Begins ws bs
          b = (begins-exactly ws bs).0 (rw e tt)

          next : Good ws (drop (wide ws) bs) ⊎ ((i : ℕ) × Bad ws (drop (wide ws) bs) i) → Good ws bs ⊎ ((i : ℕ) × Bad ws bs i)
          next (inl g) = inl (good-then bs b g)
          next (inr g) = inr (suc g.0, bad-then bs g.0 b g.1)
      go (yes l) false e r =
          inr (0, record { its = []; rest = bs; fitting = nil; many = refl; they_are = refl; some = l; other = λ x. subst T e ((begins-exactly ws bs).1 x) })

  -- Lines of the form are passed, one after the other.
  past-lines : (vs : List (List ℕ)) (f i : ℕ) (rest : List ℕ) → bad_from ws (length vs + f) i (lines_of ws vs ++ rest) ≡ bad_from ws f (length vs + i) rest
  unfolding lines_of
  past-lines [] f i rest = let e : 0 + f ≡ f = omega arith in let d : i ≡ 0 + i = omega arith in λ j. bad_from ws (e j) (d j) rest
  past-lines (v ∷ vs) f i rest =
      let l = line_of ws v in
      let bs = (l ++ lines_of ws vs) ++ rest in
      let k = line-wide ws v in
      let a = append_assoc l (lines_of ws vs) rest in
      let e : suc (length vs) + f ≡ suc (length vs + f) = omega arith in
      let d : length vs + suc i ≡ suc (length vs) + i = omega arith in
      let t : in_form ws bs ≡ true = ap (in_form ws) a ∙ is_true (in_form ws (l ++ (lines_of ws vs ++ rest))) (line-in ws v (lines_of ws vs ++ rest)) in
      ap (λ (n : ℕ). bad_from ws n i bs) e
      ∙ bad-past ws (length vs + f) i bs (omega (arith, line-some, ap length a, length-append l (lines_of ws vs ++ rest))) t
      ∙ ap (bad_from ws (length vs + f) (suc i)) (ap (drop (wide ws)) a ∙ drop_at l (lines_of ws vs ++ rest) (wide ws) k)
      ∙ past-lines vs f (suc i) rest
      ∙ ap (λ (n : ℕ). bad_from ws f n rest) d

  -- So there are enough steps for what stands behind them.
  bad-behind : (vs : List (List ℕ)) (rest : List ℕ) → (f : ℕ) × (length rest ≤ f) × (bad_line ws (lines_of ws vs ++ rest) ≡ bad_from ws f (length vs) rest)
  unfolding bad_line
  bad-behind vs rest =
      let text = lines_of ws vs ++ rest in
      let n = length vs in
      let k : 1 * n ≤ wide ws * n = mul-le-mul_right n line-some in
      let m = length-append (lines_of ws vs) rest in
      let w = lines-wide ws vs in
      let e : length text ≡ n + (length text - n) = omega arith in
      (length text - n, omega arith, ap (λ (f : ℕ). bad_from ws f 0 text) e ∙ past-lines vs (length text - n) 0 rest ∙ ap (λ (i : ℕ). bad_from ws (length text - n) i rest) (add-zero n))

  no_line : {text : List ℕ} → Good ws text → bad_line ws text ≡ 0
  no_line g =
      let b = bad-behind g.its [] in
      ap (bad_line ws) (g.they_are ∙ sym (append-nil (lines_of ws g.its))) ∙ b.2 ∙ bad-none ws b.0 (length g.its) [] refl

  -- The converse of `first-bad`.
  pub bad-first : {text : List ℕ} {i : ℕ} → Bad ws text i → bad_line ws text ≡ suc i
  bad-first {text} {i} g =
      let b = bad-behind g.its g.rest in
      let h = g.some in
      let l = b.1 in
      let e : b.0 ≡ suc (b.0 - 1) = omega arith in
      let n = is_false (in_form ws g.rest) (λ t. g.other ((begins-exactly ws g.rest).0 t)) in
      ap (bad_line ws) g.they_are ∙ b.2 ∙ ap (λ (f : ℕ). bad_from ws f (length g.its) g.rest) e
      ∙ bad-here ws (b.0 - 1) (length g.its) g.rest h n
      ∙ ap suc g.many

  read_back : (vs : List (List ℕ)) → Fitting ws vs → rows_from ws (length vs) (lines_of ws vs) ≡ vs
  unfolding lines_of rows_from
  read_back [] f = refl
  read_back (v ∷ vs) f =
      let l = line_of ws v in
      (λ i. line-back ws v (lines_of ws vs) (all_head f) i ∷ rows_from ws (length vs) (drop_at l (lines_of ws vs) (wide ws) (line-wide ws v) i))
      ∙ ap (λ (x : List (List ℕ)). v ∷ x) (read_back vs (all_tail f))

  lines-back : (vs : List (List ℕ)) → Fitting ws vs → lines_read ws (lines_of ws vs) ≡ vs
  unfolding lines_read
  lines-back vs f =
      let e : length (lines_of ws vs) / wide ws ≡ length vs = ap (λ (n : ℕ). n / wide ws) (lines-wide ws vs) ∙ mul-div_right (length vs) line-some in
      ap (λ (n : ℕ). rows_from ws n (lines_of ws vs)) e ∙ read_back vs f

  -- "Writing and then loading restores the same records": no line is bad, and the numbers are those written;
  pub lines-good : (vs : List (List ℕ)) → Fitting ws vs → (bad_line ws (lines_of ws vs) ≡ 0) × (lines_read ws (lines_of ws vs) ≡ vs)
  lines-good vs f = (no_line (record { its = vs; fitting = f; they_are = refl }), lines-back vs f)

  -- and where no line is bad, "loading and then writing restores the same bytes".
  pub no-bad : (text : List ℕ) → bad_line ws text ≡ 0 → (text ≡ lines_of ws (lines_read ws text)) × Fitting ws (lines_read ws text)
  no-bad text e = go (cut (length text) text (omega arith))
    where
      go : Good ws text ⊎ ((i : ℕ) × Bad ws text i) → (text ≡ lines_of ws (lines_read ws text)) × Fitting ws (lines_read ws text)
      go (inl g) =
          let k : g.its ≡ lines_read ws text = sym (ap (lines_read ws) g.they_are ∙ lines-back g.its g.fitting) in
          (g.they_are ∙ ap (lines_of ws) k, subst (Fitting ws) k g.fitting)
      go (inr g) = absurd (omega (arith, bad-first g.1))

  -- The first bad line, counted from 1, stands behind i lines of the form.
  pub first-bad : (text : List ℕ) (i : ℕ) → bad_line ws text ≡ suc i → Bad ws text i
  first-bad text i e = go (cut (length text) text (omega arith))
    where
      go : Good ws text ⊎ ((i : ℕ) × Bad ws text i) → Bad ws text i
      go (inl g) = absurd (omega (arith, no_line g))
      go (inr g) = subst (Bad ws text) (omega (arith, bad-first g.1)) g.1
