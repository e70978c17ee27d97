-- The text of each token of a draft is that token alone; and texts that are, joined by whitespace, make a draft of exactly those tokens.
-- Assumes nothing.
use Rattle.std.specs.Prelude.{Bool, true, false, ◌⊎◌, ◌≡◌, ℕ, zero, suc, ◌+◌, ◌-◌, ◌≤◌, ◌<◌, take}
use mathlib.Core.List.Memᴰ
use mathlib.Core.List.{List, [], ◌∷◌, ◌++◌, map, append_assoc, append-nil, Memᴰ}
use Rattle.std.proofs.Common.{inl, inr, ◌∙◌, subst, arith, le-leb, drop-drop}
use Rattle.std.proofs.Math.Path.{refl, sym, ap, ap₂}
use Rattle.std.proofs.Math.ListN.{length, drop, length-append, length-drop}
use Rattle.std.proofs.Math.Seq.{drop-append_seam, take-append_seam}
use Rattle.text.specs.Part.{part_of}
use Rattle.lexer.specs.Chars.{among, whitespace, run}
use Rattle.lexer.specs.Class.{class_of}
use Rattle.lexer.specs.Lexemes.{Lexeme, token, trivia, refused, space, lexeme, Token, Lexemes, tokens, refused_at, with_token, add, lexemes_from, lexemes}
use Rattle.lexer.proofs.Moves.{Moves, lexeme-moves}
use Rattle.lexer.proofs.Trials.{both_left, both_right}
use Rattle.lexer.specs.Texts.{text_in, class_in, OneToken, blank, gap, Piece, Sounds, joined, tokens_at, with_tokens, moved_token, moved}
use Rattle.lexer.proofs.Alone.{not-empty, before-gap, alone}

-- a part by its length
pub part-rest : (s : List ℕ) (i n e : ℕ) → i + n ≡ e → e ≤ length s → part_of s i e ≡ take n (drop i s)
unfolding part_of
part-rest s i n e q h =
    let k : e - i ≡ n = omega arith in
    simp (le-leb i e (omega arith), le-leb e (length s) h, k)

-- ---- the tokens of a draft

-- what holds of the first and of each other holds of each
each-cons : {A : Type 0} {P : A → Type 0} (a : A) (l : List A) → P a → ((b : A) → Memᴰ b l → P b) → (b : A) → Memᴰ b (a ∷ l) → P b
each-cons {A} {P} a l p f b m = go (Memᴰ.cases_cons m)
  where
    go : (b ≡ a) ⊎ Memᴰ b l → P b
    go (inl e) = subst P (sym e) p
    go (inr n) = f b n

-- each of some tokens of the draft has a text that is the token alone
abbrev Texts : List ℕ → List Token → Type 0
Texts draft ts = (t : Token) → Memᴰ t ts → OneToken t.kind (text_in draft t)

first-token : {x : Lexemes} {u : Token} {ts : List Token} → with_token u x ≡ tokens ts → (vs : List Token) × (ts ≡ u ∷ vs) × (x ≡ tokens vs)
first-token {x = tokens vs} q = (vs, cc, refl)
first-token {x = refused_at c p} q = let z : ◌≡◌ {A = ℕ} 0 1 = cc in absurd (omega arith)

texts-from : (d r : List ℕ) (i k : ℕ) (ts : List Token) → drop i d ≡ r → lexemes_from r i k ≡ tokens ts → Texts d ts
unfolding lexemes_from text_in
texts-from d [] i k ts q e = let z : ts ≡ [] = cc in subst (Texts d) (sym z) (λ t m. absurd (Memᴰ.not-nil m))
texts-from d (b ∷ r) i (suc k) ts q e = texts-from d r (i + 1) k ts (sym (drop-drop 1 i d) ∙ ap (drop 1) q) e
texts-from d (b ∷ r) i zero ts q e = go (lexeme (b ∷ r)) refl (lexeme-moves b r) (λ k vs. texts-from d r (i + 1) k vs (sym (drop-drop 1 i d) ∙ ap (drop 1) q)) e
  where
    go : (x : Lexeme) → lexeme (b ∷ r) ≡ x → Moves (suc (length r)) x → ((k : ℕ) (vs : List Token) → lexemes_from r (i + 1) k ≡ tokens vs → Texts d vs)
        → add x i (λ n. lexemes_from r (i + 1) (n - 1)) ≡ tokens ts → Texts d ts
    go (token k n) p m ih f =
        let u : (vs : List Token) × (ts ≡ record { kind = k; start = i; end = i + n } ∷ vs) × (lexemes_from r (i + 1) (n - 1) ≡ tokens vs) = first-token f in
        let l = length-drop i d in
        let l' = ap length q in
        let m₀ = m.0 in
        let m₁ = m.1 in
        let o : OneToken k (part_of d i (i + n)) = subst (OneToken k) (ap (take n) (sym q) ∙ sym (part-rest d i n (i + n) refl (omega arith))) (alone (b ∷ r) k n p) in
        subst (Texts d) (sym u.1) (each-cons (record { kind = k; start = i; end = i + n }) u.0 o (ih (n - 1) u.0 u.2))
    go (trivia n) p m ih f = ih (n - 1) ts f
    go (refused c n) p m ih f = let z : ◌≡◌ {A = ℕ} 0 1 = cc in absurd (omega arith)

-- The text of a token is one lexeme, a token of its kind.
pub token-texts : (draft : List ℕ) (ts : List Token) → lexemes draft ≡ tokens ts → (t : Token) → Memᴰ t ts → OneToken t.kind (text_in draft t)
unfolding lexemes
token-texts draft ts e = texts-from draft draft 0 0 ts refl e

-- ---- the lexemes of a text further on

moved-with : (n : ℕ) (t : Token) (x : Lexemes) → with_token (moved_token n t) (moved n x) ≡ moved n (with_token t x)
moved-with n t (tokens ts) = refl
moved-with n t (refused_at c p) = refl

pub moved-from : (n : ℕ) (r : List ℕ) (i k : ℕ) → lexemes_from r (n + i) k ≡ moved n (lexemes_from r i k)
unfolding lexemes_from
moved-from n [] i k = refl
moved-from n (b ∷ r) i (suc k) = ap (λ (j : ℕ). lexemes_from r j k) (omega arith) ∙ moved-from n r (i + 1) k
moved-from n (b ∷ r) i zero = go (lexeme (b ∷ r)) (λ k. ap (λ (j : ℕ). lexemes_from r j k) (let z : n + i + 1 ≡ n + (i + 1) = omega arith in z) ∙ moved-from n r (i + 1) k)
  where
    go : (x : Lexeme) → ((k : ℕ) → lexemes_from r (n + i + 1) k ≡ moved n (lexemes_from r (i + 1) k))
        → add x (n + i) (λ m. lexemes_from r (n + i + 1) (m - 1)) ≡ moved n (add x i (λ m. lexemes_from r (i + 1) (m - 1)))
    go (token k m) f =
        let z : n + i + m ≡ n + (i + m) = omega arith in
        ap₂ (λ (e : ℕ) y. with_token (record { kind = k; start = n + i; end = e }) y) z (f (m - 1))
        ∙ moved-with n (record { kind = k; start = i; end = i + m }) (lexemes_from r (i + 1) (m - 1))
    go (trivia m) f = f (m - 1)
    go (refused c m) f = ap (refused_at c) (omega arith)

-- ---- texts joined

-- the rest of a lexeme is passed over
passed : (a r : List ℕ) (i : ℕ) → lexemes_from (a ++ r) i (length a) ≡ lexemes_from r (i + length a) 0
unfolding lexemes_from
passed [] r i = ap (λ (j : ℕ). lexemes_from r j 0) (omega arith)
passed (x ∷ a) r i = passed a r (i + 1) ∙ ap (λ (j : ℕ). lexemes_from r j 0) (omega arith)

-- whitespace is passed over, and so byte by byte
white-lexeme : (b : ℕ) (r : List ℕ) → among whitespace b ≡ true → lexeme (b ∷ r) ≡ trivia (suc (run (among whitespace) r))
unfolding lexeme space run
white-lexeme b r e = rw (e, run) refl

white-passed : (b : ℕ) (r : List ℕ) (i : ℕ) → among whitespace b ≡ true → lexemes_from (b ∷ r) i 0 ≡ lexemes_from r (i + 1) (run (among whitespace) r)
unfolding lexemes_from
white-passed b r i e =
    ap (λ x. add x i (λ n. lexemes_from r (i + 1) (n - 1))) (white-lexeme b r e) ∙ ap (lexemes_from r (i + 1)) (omega arith)

spaces-passed : (r : List ℕ) (i : ℕ) → lexemes_from r i (run (among whitespace) r) ≡ lexemes_from r i 0
unfolding lexemes_from run
spaces-passed [] i = refl
spaces-passed (b ∷ r) i = go (among whitespace b) refl
  where
    go : (c : Bool) → among whitespace b ≡ c → lexemes_from (b ∷ r) i (elim c [ true ↦ suc (run (among whitespace) r) | false ↦ 0 ]) ≡ lexemes_from (b ∷ r) i 0
    go true q = sym (white-passed b r i q)
    go false q = refl

blank-passed : (g r : List ℕ) (i : ℕ) → blank g ≡ true → lexemes_from (g ++ r) i 0 ≡ lexemes_from r (i + length g) 0
unfolding blank
blank-passed [] r i e = ap (λ (j : ℕ). lexemes_from r j 0) (omega arith)
blank-passed (b ∷ g) r i e =
    white-passed b (g ++ r) i (both_left (among whitespace b) (blank g) e)
    ∙ spaces-passed (g ++ r) (i + 1)
    ∙ blank-passed g r (i + 1) (both_right (among whitespace b) (blank g) e)
    ∙ ap (λ (j : ℕ). lexemes_from r j 0) (omega arith)

-- a text that is one token, before a gap
token-passed : {k : ℕ} {w : List ℕ} → OneToken k w → (r : List ℕ) (i : ℕ) → gap r ≡ true
    → lexemes_from (w ++ r) i 0 ≡ with_token (record { kind = k; start = i; end = i + length w }) (lexemes_from r (i + length w) 0)
unfolding lexemes_from
token-passed {k} {w = []} o r i g = absurd (omega (arith, not-empty o))
token-passed {k} {w = b ∷ w} o r i g =
    ap (λ x. add x i (λ n. lexemes_from (w ++ r) (i + 1) (n - 1))) (before-gap o r g)
    ∙ ap (with_token (record { kind = k; start = i; end = i + suc (length w) }))
    (ap (lexemes_from (w ++ r) (i + 1)) (let z : suc (length w) - 1 ≡ length w = omega arith in z) ∙ passed w r (i + 1) ∙ ap (λ (j : ℕ). lexemes_from r j 0) (let z : i + 1 + length w ≡ i + suc (length w) = omega arith in z))

blank-gap : (g r : List ℕ) → 0 < length g → blank g ≡ true → gap (g ++ r) ≡ true
unfolding blank gap
blank-gap [] r h e = absurd (omega arith)
blank-gap (b ∷ g) r h e = both_left (among whitespace b) (blank g) e

joined-from : (ps : List Piece) → Sounds ps → (x : List ℕ) (i : ℕ)
    → lexemes_from (joined ps ++ x) i 0 ≡ with_tokens (tokens_at i ps) (lexemes_from x (i + length (joined ps)) 0)
unfolding joined tokens_at with_tokens
joined-from [] s x i = ap (λ (j : ℕ). lexemes_from x j 0) (omega arith)
joined-from (p ∷ ps) s x i =
    let h = s p (Memᴰ.head refl) in
    let w = p.text in
    let g = p.between in
    let r = joined ps ++ x in
    let a : (w ++ (g ++ joined ps)) ++ x ≡ w ++ (g ++ r) = append_assoc w (g ++ joined ps) x ∙ ap (λ y. w ++ y) (append_assoc g (joined ps) x) in
    let l = length-append w (g ++ joined ps) in
    let m = length-append g (joined ps) in
    let n : i + length w + length g + length (joined ps) ≡ i + length (w ++ (g ++ joined ps)) = omega arith in
    ap (λ y. lexemes_from y i 0) a
    ∙ token-passed h.one (g ++ r) i (blank-gap g r h.apart h.white)
    ∙ ap (with_token (record { kind = p.kind; start = i; end = i + length w }))
    (blank-passed g r (i + length w) h.white
    ∙ joined-from ps (λ q k. s q (Memᴰ.tail k)) x (i + length w + length g)
    ∙ ap (λ (j : ℕ). with_tokens (tokens_at (i + length w + length g) ps) (lexemes_from x j 0)) n)

-- Texts that are one token each, joined by whitespace: the lexemes of the draft are these tokens, and behind them the lexemes of what follows.
pub joined-lexed : (ps : List Piece) → Sounds ps → (x : List ℕ) → lexemes (joined ps ++ x) ≡ with_tokens (tokens_at 0 ps) (moved (length (joined ps)) (lexemes x))
unfolding lexemes
joined-lexed ps s x =
    joined-from ps s x 0
    ∙ ap (with_tokens (tokens_at 0 ps)) (ap (λ (j : ℕ). lexemes_from x j 0) (let z : 0 + length (joined ps) ≡ length (joined ps) + 0 = omega arith in z) ∙ moved-from (length (joined ps)) x 0 0)

with-no-more : (ts : List Token) → with_tokens ts (tokens []) ≡ tokens ts
unfolding with_tokens
with-no-more [] = refl
with-no-more (t ∷ ts) = ap (with_token t) (with-no-more ts)

-- With nothing behind them, they are the draft's tokens.
pub joined-tokens : (ps : List Piece) → Sounds ps → lexemes (joined ps) ≡ tokens (tokens_at 0 ps)
unfolding lexemes lexemes_from
joined-tokens ps s = ap lexemes (sym (append-nil (joined ps))) ∙ joined-lexed ps s [] ∙ with-no-more (tokens_at 0 ps)

-- ---- their texts

module _ {A : Type 0} (f : ℕ → List ℕ → A) (d x : List ℕ) where
  texts-at : (ps : List Piece) → Sounds ps → (i : ℕ) → drop i d ≡ joined ps ++ x → map (λ t. f t.kind (text_in d t)) (tokens_at i ps) ≡ map (λ p. f p.kind p.text) ps
  unfolding joined tokens_at text_in
  texts-at [] s i q = refl
  texts-at (p ∷ ps) s i q =
      let h = not-empty (s p (Memᴰ.head refl)).one in
      let w = p.text in
      let g = p.between in
      let r = joined ps ++ x in
      let a : drop i d ≡ w ++ (g ++ r) = q ∙ append_assoc w (g ++ joined ps) x ∙ ap (λ y. w ++ y) (append_assoc g (joined ps) x) in
      let l = length-drop i d in
      let l' = ap length a in
      let m = length-append w (g ++ r) in
      let e : part_of d i (i + length w) ≡ w = part-rest d i (length w) (i + length w) refl (omega arith) ∙ ap (take (length w)) a ∙ take-append_seam w (g ++ r) in
      let b : drop (i + length w) d ≡ g ++ r = sym (drop-drop (length w) i d) ∙ ap (drop (length w)) a ∙ drop-append_seam w (g ++ r) in
      let c : drop (i + length w + length g) d ≡ r = sym (drop-drop (length g) (i + length w) d) ∙ ap (drop (length g)) b ∙ drop-append_seam g r in
      ap₂ (λ y ys. y ∷ ys) (ap (f p.kind) e) (texts-at ps (λ q k. s q (Memᴰ.tail k)) (i + length w + length g) c)

-- What kinds and texts decide is the same of the tokens of texts joined: their texts themselves,
pub joined-each : {A : Type 0} (f : ℕ → List ℕ → A) (ps : List Piece) → Sounds ps → (x : List ℕ)
    → map (λ t. f t.kind (text_in (joined ps ++ x) t)) (tokens_at 0 ps) ≡ map (λ p. f p.kind p.text) ps
joined-each f ps s x = texts-at f (joined ps ++ x) x ps s 0 refl

pub joined-texts : (ps : List Piece) → Sounds ps → (x : List ℕ) → map (text_in (joined ps ++ x)) (tokens_at 0 ps) ≡ map (λ p. p.text) ps
joined-texts = joined-each (λ k w. w)

-- and their classes.
pub joined-classes : (ps : List Piece) → Sounds ps → (x : List ℕ) → map (class_in (joined ps ++ x)) (tokens_at 0 ps) ≡ map (λ p. class_of p.kind p.text) ps
unfolding class_in
joined-classes = joined-each class_of
