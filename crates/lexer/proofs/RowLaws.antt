-- The lexemes of a draft are refused exactly with the earliest of rows 2 to 5 and 21 that apply to it, and it lexes exactly where none does.
-- Assumes nothing.
use Rattle.std.specs.Prelude.{Bool, false, ◌↔◌, ◌≡◌, ltb, take}
use Rattle.std.proofs.Math.Bool.{true}
use mathlib.Core.List.{List, [], ◌∷◌}
use Rattle.std.proofs.Math.Option.{some}
use Rattle.std.proofs.Math.Path.{refl, ap, subst}
use Rattle.std.proofs.Common.{sym, ◌∙◌, add-zero, ltb-true, ltb-false, get_or-drop, drop-drop}
use Prim.Native.Nat.{ℕ, zero, suc, ◌+◌, ◌-◌, ◌≤◌, ◌<◌}
use native.Mathlib.Omega.{arith}
use Rattle.std.proofs.Math.ListN.{length, get_or, drop, length-drop}
use Rattle.text.specs.Ascii.{ascii, ascii_from}
use Rattle.text.specs.Refusals.{refusal_number}
use Rattle.text.specs.declared.refusal.Refusal.TheVariants as refusal
use Rattle.text.proofs.Rest.{part-short}
use Rattle.text.proofs.Same.{differ}
use Rattle.lexer.specs.Chars.{among, name_starts, underscore, first}
use Rattle.utf8.proofs.Laws.{bad-place}
use Rattle.utf8.specs.Utf8.{bad_at}
use Rattle.lexer.proofs.Faults.{Fault, over, nothing, Clear, low_bytes, a_comment, Tells, lexeme-tells}
use Rattle.lexer.proofs.Faults as fault
use Rattle.lexer.specs.Lexemes.{Lexeme, token, trivia, refused, closing, is_name, lexeme, Token, Lexemes, tokens, refused_at, with_token, add, lexemes_from, lexemes}
use Rattle.lexer.proofs.Moves.{Moves, lexeme-moves, rest-first, begins-le}
use Rattle.lexer.proofs.Plain.{Plain, low-among, begins-plain}
use Rattle.lexer.specs.Rows.{Takes, Reached, start, behind, Comment, Commented, within, Row, not_ascii, no_lexeme, unclosed, simc, not_utf8, Earliest}
use Rattle.lexer.proofs.Stops.{stops-nothing, stops-unclosed, stops-simc, StopsBy, stops-bad, bad-later, comment-takes, comment-first}

module _ (draft : List ℕ) where
  -- ---- what a row says of its place: the byte is over 127 and in no comment; or it is not, and lexing comes to it and is refused there; or the place is
  -- a bad one of a comment that lexing comes to

  data Kind (p : ℕ) : ℕ → Type 0 where
    big : p < length draft → 127 < get_or draft p 0 → (Commented draft p → ⊥) → Kind p (refusal_number refusal.NotAscii)
    stop : {c : ℕ} → Reached draft p → p < length draft → get_or draft p 0 ≤ 127 → lexeme (drop p draft) ≡ refused c 0 → Kind p c
    bad : {q n k : ℕ} → Reached draft q → Comment (drop q draft) n → bad_at (take n (drop q draft)) ≡ some k → p ≡ q + k → Kind p (refusal_number refusal.NotUtf8)

  -- where a name starts the draft has not ended
  starts-there : (p : ℕ) → is_name (drop p draft) ≡ true → p < length draft
  unfolding among name_starts underscore
  starts-there p i = go (drop p draft) refl i
    where
      go : (l : List ℕ) → drop p draft ≡ l → is_name l ≡ true → p < length draft
      go [] e i = differ i
      go (b ∷ l) e i = let z = ap length e in omega (arith, length-drop p draft)

  kind : (c p : ℕ) → Row draft c p → Kind p c
  unfolding ascii ascii_from name_starts underscore
  kind c p (not_ascii h b n) = big h (omega arith) n
  kind c p (not_utf8 v m e) = bad v m e refl
  kind c p (no_lexeme v h b n) = stop v h b (stops-nothing (drop p draft) (subst (λ x. x ≤ 127) (sym (rest-first draft p)) b) n)
  kind c p (unclosed v b n) =
      let r = drop p draft in
      let h : p < length draft = omega (arith, begins-le (ascii "/*") r b, length-drop p draft) in
      let l : get_or draft p 0 ≤ 127 = subst (λ x. x ≤ 127) (rest-first draft p) (begins-plain (ascii "/*") r tt b 0 (omega arith)) in
      stop v h l (stops-unclosed r b (ap (λ s. closing s 0 0) (drop-drop 2 p draft) ∙ n))
  kind c p (simc v i e) =
      let r = drop p draft in
      let h : p < length draft = starts-there p i in
      let l : get_or draft p 0 ≤ 127 = subst (λ x. x ≤ 127) (rest-first draft p) (low-among name_starts tt (first r) i) in
      stop v h l (stops-simc r e)

  -- ---- lexing from a place on

  -- from place i lexing comes to q
  data From (q : ℕ) : ℕ → Type 0 where
    here : From q q
    later : {i : ℕ} (n : ℕ) → i < length draft → Takes n (lexeme (drop i draft)) → From q (i + n) → From q i

  from_le : (q i : ℕ) → From q i → i ≤ q
  from_le q i here = omega arith
  from_le q i (later n h t f) = let l = from_le q (i + n) f in omega arith

  from_on : (q i n : ℕ) → From q i → q < length draft → Takes n (lexeme (drop q draft)) → From (q + n) i
  from_on q i n here h t = later n h t here
  from_on q i n (later m g u f) h t = later m g u (from_on q (i + m) n f h t)

  from_start : (q : ℕ) → Reached draft q → From q 0
  from_start q start = here
  from_start q (behind i n v h t) = from_on i 0 n (from_start i v) h t

  -- what may be refused from i on: a byte over 127 in no comment, a place that lexing comes to, or a bad one of a comment that it comes to
  data Ahead (i q : ℕ) : Type 0 where
    over_at : i ≤ q → q < length draft → 127 < get_or draft q 0 → (Commented draft q → ⊥) → Ahead i q
    stop_at : (c : ℕ) → From q i → q < length draft → lexeme (drop q draft) ≡ refused c 0 → Ahead i q
    bad_comment_at : (p n k : ℕ) → From p i → Comment (drop p draft) n → bad_at (take n (drop p draft)) ≡ some k → q ≡ p + k → Ahead i q

  ahead : (c q : ℕ) → Row draft c q → Ahead 0 q
  ahead c q v = go (kind c q v)
    where
      go : {c : ℕ} → Kind q c → Ahead 0 q
      go (big h b n) = over_at (omega arith) h b n
      go (stop {c = c} v h b e) = stop_at c (from_start q v) h e
      go (bad {q = p} {n = n} {k = k} v m e z) = bad_comment_at p n k (from_start p v) m e z

  -- a bad place is one of the comment's bytes
  bad-inside : (p n k : ℕ) → bad_at (take n (drop p draft)) ≡ some k → (k < n) × (p + k < length draft)
  bad-inside p n k e =
      let h = (bad-place (take n (drop p draft)) k e).within in
      let s = part-short n (drop p draft) in
      let l = s.0 in
      let m = s.1 in
      (omega arith, omega (arith, length-drop p draft))

  ahead_in : (i q : ℕ) → Ahead i q → (i ≤ q) × (q < length draft)
  ahead_in i q (over_at l h b n) = (l, h)
  ahead_in i q (stop_at c f h e) = (from_le q i f, h)
  ahead_in i q (bad_comment_at p n k f m e z) = let l = from_le p i f in let b = (bad-inside p n k e).1 in (omega arith, omega arith)

  -- a byte over 127 is behind the plain ones
  behind-plain : (i n q : ℕ) → Plain n (drop i draft) → i ≤ q → 127 < get_or draft q 0 → i + n ≤ q
  behind-plain i n q p l b = go (ltb q (i + n)) refl
    where
      go : (t : Bool) → ltb q (i + n) ≡ t → i + n ≤ q
      go false e = ltb-false q (i + n) e
      go true e =
          let h = ltb-true q (i + n) e in
          let z : i + (q - i) ≡ q = omega arith in
          let w : get_or draft q 0 ≤ 127 = subst (λ x. x ≤ 127) (get_or-drop i draft (q - i) 0 ∙ ap (λ j. get_or draft j 0) z) (p (q - i) (omega arith)) in
          absurd (omega arith)

  takes_one : (x : Lexeme) (m n : ℕ) → Takes m x → Takes n x → m ≡ n
  takes_one (token k j) m n a b = sym a ∙ b
  takes_one (trivia j) m n a b = sym a ∙ b
  takes_one (refused c j) m n a b = absurd a

  -- what is refused takes nothing
  not-both : (k n : ℕ) (x : Lexeme) → StopsBy k x → Takes n x → ⊥
  not-both k n (token j m) s t = s
  not-both k n (trivia m) s t = s
  not-both k n (refused c m) s t = t

  -- a byte over 127 in no comment is behind a comment
  behind-comment : (i n k q : ℕ) → Reached draft i → Comment (drop i draft) n → k ≤ n → i ≤ q → (Commented draft q → ⊥) → i + k ≤ q
  behind-comment i n k q v m h l c = go (ltb q (i + k)) refl
    where
      go : (t : Bool) → ltb q (i + k) ≡ t → i + k ≤ q
      go false e = ltb-false q (i + k) e
      go true e = let x = ltb-true q (i + k) e in absurd (c (within v m l (omega arith)))

  behind-clear : (i n q : ℕ) → Reached draft i → Clear (drop i draft) n → i ≤ q → 127 < get_or draft q 0 → (Commented draft q → ⊥) → i + n ≤ q
  behind-clear i n q v (low_bytes p) l b c = behind-plain i n q p l b
  behind-clear i n q v (a_comment m) l b c = behind-comment i n n q v m (omega arith) l c

  -- behind a token or trivia the same is ahead
  passed : (i n q : ℕ) → Reached draft i → Takes n (lexeme (drop i draft)) → Clear (drop i draft) n → Ahead i q → Ahead (i + n) q
  passed i n q v t p (over_at l h b c) = over_at (behind-clear i n q v p l b c) h b c
  passed i n q v t p (stop_at c here h e) = absurd (subst (Takes n) e t)
  passed i n q v t p (stop_at c (later m g u f) h e) = stop_at c (subst (λ k. From q (i + k)) (takes_one (lexeme (drop i draft)) m n u t) f) h e
  passed i n q v t p (bad_comment_at j m k here c e z) = absurd (not-both k n (lexeme (drop i draft)) (stops-bad (drop i draft) c e) t)
  passed i n q v t p (bad_comment_at j m k (later o g u f) c e z) = bad_comment_at j m k (subst (λ k. From j (i + k)) (takes_one (lexeme (drop i draft)) o n u t) f) c e z

  -- and where the lexeme is refused nothing is ahead before that place
  stopped : (i c n q : ℕ) → Reached draft i → lexeme (drop i draft) ≡ refused c n → Fault (drop i draft) c n → Ahead i q → i + n ≤ q
  stopped i c n q v r p (over_at l h b o) = go p
    where
      go : {c n : ℕ} → Fault (drop i draft) c n → i + n ≤ q
      go (over x y) = omega arith
      go (nothing x y) = omega arith
      go (fault.unclosed x y) = omega arith
      go (fault.simc x y) = omega arith
      go (fault.bad {n = n} {k = k} m e) = behind-comment i n k q v m (let z = (bad-inside i n k e).0 in omega arith) l o
  stopped i c n q v r p (stop_at d here h e) = let z : refused c n ≡ refused d 0 = sym r ∙ e in let y : n ≡ 0 = cc in omega arith
  stopped i c n q v r p (stop_at d (later m g u f) h e) = absurd (subst (Takes m) r u)
  stopped i c n q v r p (bad_comment_at j m k here o e z) = let l = subst (StopsBy k) r (stops-bad (drop i draft) o e) in omega arith
  stopped i c n q v r p (bad_comment_at j m k (later o g u f) d e z) = absurd (subst (Takes o) r u)

  -- where lexing comes to two places, the lexeme at the first ends at the second or before
  between : (p q i : ℕ) → From p i → From q i → q < p → (n : ℕ) × Takes n (lexeme (drop q draft)) × (q + n ≤ p)
  between p q i here g l = let z = from_le q p g in absurd (omega arith)
  between p q i (later n h t f) here l = (n, t, from_le p (i + n) f)
  between p q i (later n h t f) (later m k u g) l = between p q (i + n) f (subst (λ j. From q (i + j)) (takes_one (lexeme (drop i draft)) m n u t) g) l

  -- so a byte over 127 that it comes to is in no comment
  outside : (i : ℕ) → Reached draft i → 127 < first (drop i draft) → Commented draft i → ⊥
  outside i v b (within {q = q} {n = n} w m l h) = go (ltb q i) refl
    where
      go : (t : Bool) → ltb q i ≡ t → ⊥
      go true e =
          let s = between i q 0 (from_start i v) (from_start q w) (ltb-true q i e) in
          let z = comment-takes (drop q draft) m s.0 s.1 in
          let y = s.2 in
          omega arith
      go false e =
          let x = ltb-false q i e in
          let z : q ≡ i = omega arith in
          let y = comment-first (drop q draft) m in
          let w : first (drop q draft) ≡ first (drop i draft) = ap (λ j. first (drop j draft)) z in
          omega arith

  -- the row of a refusal
  fault-row : (i c n : ℕ) → Reached draft i → i < length draft → Fault (drop i draft) c n → Row draft c (i + n)
  fault-row i c n v h (over l b) =
      subst (Row draft (refusal_number refusal.NotAscii)) (sym (add-zero i)) (not_ascii h (subst (λ x. 127 < x) (rest-first draft i) b) (outside i v b))
  fault-row i c n v h (nothing b z) = subst (Row draft (refusal_number refusal.NoLexeme)) (sym (add-zero i)) (no_lexeme v h (subst (λ x. x ≤ 127) (rest-first draft i) b) z)
  fault-row i c n v h (fault.unclosed b e) =
      subst (Row draft (refusal_number refusal.Unclosed)) (sym (add-zero i)) (unclosed v b (ap (λ s. closing s 0 0) (sym (drop-drop 2 i draft)) ∙ e))
  fault-row i c n v h (fault.simc b e) = subst (Row draft (refusal_number refusal.Simc)) (sym (add-zero i)) (simc v b e)
  fault-row i c n v h (fault.bad m e) = not_utf8 v m e

  -- ---- all lexemes

  -- what the lexemes from i on say of what is ahead
  abbrev Judged : ℕ → Lexemes → Type 0
  Judged i (tokens ts) = (q : ℕ) → Ahead i q → ⊥
  Judged i (refused_at c p) = Row draft c p × ((q : ℕ) → Ahead i q → p ≤ q)

  judged-with : (i : ℕ) (t : Token) (x : Lexemes) → Judged i x → Judged i (with_token t x)
  judged-with i t (tokens ts) j = j
  judged-with i t (refused_at c p) j = j

  judged-before : (i j : ℕ) (x : Lexemes) → ((q : ℕ) → Ahead i q → Ahead j q) → Judged j x → Judged i x
  judged-before i j (tokens ts) f a = λ q v. a q (f q v)
  judged-before i j (refused_at c p) f a = (a.0, λ q v. a.1 q (f q v))

  judged-from : (r : List ℕ) (i k : ℕ) → drop i draft ≡ r → Reached draft (i + k) → Judged (i + k) (lexemes_from r i k)
  unfolding lexemes_from
  judged-from [] i k e v = λ q a.
      let b = ahead_in (i + k) q a in
      let l = b.0 in
      let m = b.1 in
      let z = ap length e in
      omega (arith, length-drop i draft)
  judged-from (b ∷ r) i (suc k) e v =
      let z : i + 1 + k ≡ i + suc k = omega arith in
      subst (λ j. Judged j (lexemes_from r (i + 1) k)) z (judged-from r (i + 1) k (sym (drop-drop 1 i draft) ∙ ap (drop 1) e) (subst (Reached draft) (sym z) v))
  judged-from (b ∷ r) i zero e v =
      subst (λ j. Judged j (add (lexeme (b ∷ r)) i (λ n. lexemes_from r (i + 1) (n - 1)))) (sym (add-zero i))
      (go (lexeme (b ∷ r)) (ap lexeme e) (lexeme-moves b r) (subst (λ l. Tells l (lexeme (b ∷ r))) (sym e) (lexeme-tells (b ∷ r) (omega arith)))
      (λ n. judged-from r (i + 1) (n - 1) (sym (drop-drop 1 i draft) ∙ ap (drop 1) e)))
    where
      inside : i < length draft
      inside = let z = ap length e in omega (arith, length-drop i draft)

      at : Reached draft i
      at = subst (Reached draft) (add-zero i) v

      -- a token or trivia of n bytes
      on : (n : ℕ) (x : Lexemes) → 1 ≤ n → Takes n (lexeme (drop i draft)) → Clear (drop i draft) n → (Reached draft (i + 1 + (n - 1)) → Judged (i + 1 + (n - 1)) x) → Judged i x
      on n x h t p f =
          let z : i + 1 + (n - 1) ≡ i + n = omega arith in
          judged-before i (i + n) x (λ q. passed i n q at t p) (subst (λ j. Judged j x) z (f (subst (Reached draft) (sym z) (behind i n at inside t))))

      go : (x : Lexeme) → lexeme (drop i draft) ≡ x → Moves (suc (length r)) x → Tells (drop i draft) x
          → ((n : ℕ) → Reached draft (i + 1 + (n - 1)) → Judged (i + 1 + (n - 1)) (lexemes_from r (i + 1) (n - 1)))
          → Judged i (add x i (λ n. lexemes_from r (i + 1) (n - 1)))
      go (token k n) q m p f = judged-with i _ (lexemes_from r (i + 1) (n - 1)) (on n (lexemes_from r (i + 1) (n - 1)) m.0 (subst (Takes n) (sym q) refl) (low_bytes p) (f n))
      go (trivia n) q m p f = on n (lexemes_from r (i + 1) (n - 1)) m.0 (subst (Takes n) (sym q) refl) p (f n)
      go (refused c n) q m p f = (fault-row i c n at inside p, λ j a. stopped i c n j at q p a)

  judged : Judged 0 (lexemes draft)
  unfolding lexemes
  judged = judged-from draft 0 0 refl start

  -- a bad place is inside its comment
  in-bad : {p q n k : ℕ} → Reached draft q → Comment (drop q draft) n → bad_at (take n (drop q draft)) ≡ some k → p ≡ q + k → Commented draft p
  in-bad {p} {q} {n} {k} v m e z = let l = (bad-inside q n k e).0 in within v m (omega arith) (omega arith)

  stops-once : (p : ℕ) {c q n k : ℕ} → Reached draft p → lexeme (drop p draft) ≡ refused c 0 → Reached draft q → Comment (drop q draft) n → bad_at (take n (drop q draft)) ≡ some k
      → p ≡ q + k → ⊥
  stops-once p {c} {q} {n} {k} v f w m e z =
      let l = bad-later (drop q draft) m e in
      let s = between p q 0 (from_start p v) (from_start q w) (omega arith) in
      not-both k s.0 (lexeme (drop q draft)) (stops-bad (drop q draft) m e) s.1

  -- at one place at most one row applies
  pub one-row : (c d p : ℕ) → Row draft c p → Row draft d p → c ≡ d
  one-row c d p v w = go (kind c p v) (kind d p w)
    where
      go : {c d : ℕ} → Kind p c → Kind p d → c ≡ d
      go (big h b n) (big k l m) = refl
      go (big h b n) (stop v k l e) = absurd (omega arith)
      go (big h b n) (bad v m e z) = absurd (n (in-bad v m e z))
      go (stop v h b e) (big k l n) = absurd (omega arith)
      go (stop v h b f) (bad v' m e z) = absurd (stops-once p v f v' m e z)
      go (bad v m e z) (big h b n) = absurd (n (in-bad v m e z))
      go (bad v m e z) (stop v' h b f) = absurd (stops-once p v' f v m e z)
      go (bad v m e z) (bad v' m' e' z') = refl
      go (stop {c = c} v h b e) (stop {c = d} w k l f) = let z : refused c 0 ≡ refused d 0 = sym e ∙ f in cc

  -- Refused with a number at a place, exactly where that row applies there and none applies before.
  pub refused-exactly : (c p : ℕ) → (lexemes draft ≡ refused_at c p) ↔ Earliest draft c p
  refused-exactly c p = (λ e. let j = subst (Judged 0) e judged in record { applies = j.0; first = λ d q v. (let l = j.1 q (ahead d q v) in omega arith) }, λ v. go v (lexemes draft) judged)
    where
      go : Earliest draft c p → (x : Lexemes) → Judged 0 x → x ≡ refused_at c p
      go v (tokens ts) j = absurd (j p (ahead c p v.applies))
      go v (refused_at d q) j =
          let l = v.first d q j.0 in
          let m = j.1 p (ahead c p v.applies) in
          let z : q ≡ p = omega arith in
          let w : d ≡ c = one-row d c p (subst (Row draft d) z j.0) v.applies in
          cc

  -- Lexed exactly where no row applies.
  pub lexes-exactly : ((ts : List Token) × (lexemes draft ≡ tokens ts)) ↔ ((c p : ℕ) → Row draft c p → ⊥)
  lexes-exactly = (λ e c p v. subst (Judged 0) e.1 judged p (ahead c p v), λ n. go n (lexemes draft) judged)
    where
      go : ((c p : ℕ) → Row draft c p → ⊥) → (x : Lexemes) → Judged 0 x → (ts : List Token) × (x ≡ tokens ts)
      go n (tokens ts) j = (ts, refl)
      go n (refused_at c p) j = absurd (n c p j.0)
