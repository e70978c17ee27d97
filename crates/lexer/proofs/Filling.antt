-- What the proofs of the lexing loop cite: how the buffer is filled with the tokens of a draft.
-- Assumes nothing.
use mathlib.Core.List.{List, [], ◌∷◌, ◌++◌, append-nil, append_assoc}
use mathlib.Core.Option.{Option}
use mathlib.Core.Path.{◌≡◌, refl, sym, ◌∙◌, ap, ap₂, subst}
use Prim.Native.Nat.{ℕ, ◌+◌, ◌-◌, ◌*◌, ◌≤◌, ◌<◌}
use native.Mathlib.Omega.{arith}
use borrow.Author.Tests.{lt-ltb, le-ltb}
use Rattle.std.proofs.Math.Nat.{mul-suc, mul-zero, mul-le-mul_left, le_trans}
use lib.ListN.{length, get_or, drop, length-drop, length-append}
use lib.Seq.{sets, sets-eq, take_at, drop_at, drop-drop, get_or_at}
use Rattle.text.specs.Answers.{Answer, refused}
use Rattle.text.specs.declared.refusal.Refusal.TheVariants as refusal
use Rattle.text.specs.Front.{front, Held}
use Rattle.lexer.specs.Lexemes.{Token, Lexemes, tokens, refused_at, with_token, lexemes_from, lexemes}
use Rattle.lexer.specs.Limits.{no_token, first_too_deep, deep, judged_in, too_many, tokens_of}
use Rattle.lexer.specs.Buffer.{kept, Keeps, words_kept, put_at}
use Rattle.lexer.proofs.Kept.{kept-snoc, kept-length, length-put}
use Rattle.lexer.specs.Nesting.{Nesting, nest_after, nest_of, outermost, passed_at}
use Rattle.lexer.specs.Step.{step_of}
use Rattle.lexer.specs.declared.Step.{Step}
use Rattle.lexer.specs.declared.Step.TheVariants as S
use Rattle.text.specs.declared.refusal.Refused.{Refused}
use Rattle.text.specs.Refusals.{refusal_number, refused_by}
use Rattle.lexer.proofs.Nesting.{nest-snoc, nest_deep}
use Rattle.lexer.proofs.Steps.{follow, Leads, rest-follows, step-leads}

-- ---- the words of the buffer

-- the words of one token more, behind those that lie before them
token-more : (p o ws : List ℕ) (m : ℕ) → length p ≡ m → m + length ws ≤ length o → sets (p ++ drop m o) m ws ≡ (p ++ ws) ++ drop (m + length ws) o
token-more p o ws m l h =
    let q = p ++ drop m o in
    let n : m + length ws ≤ length q = omega (arith, length-append p (drop m o), length-drop m o) in
    let f : drop (m + length ws) q ≡ drop (m + length ws) o =
    sym (drop-drop (length ws) m q) ∙ ap (λ x. drop (length ws) x) (drop_at p (drop m o) m l) ∙ drop-drop (length ws) m o in
    sets-eq ws q m n
    ∙ ap₂ (λ x y. x ++ ws ++ y) (take_at p (drop m o) m l) f

-- ---- the tokens found so far

-- the lexemes with these tokens before them
abbrev pub before : List Token → Lexemes → Lexemes
before ts (tokens us) = tokens (ts ++ us)
before ts (refused_at c p) = refused_at c p

before-none : (x : Lexemes) → before [] x ≡ x
before-none (tokens us) = refl
before-none (refused_at c p) = refl

before-snoc : (ts : List Token) (t : Token) (x : Lexemes) → before (ts ++ t ∷ []) x ≡ before ts (with_token t x)
before-snoc ts t (tokens us) = ap tokens (append_assoc ts (t ∷ []) us)
before-snoc ts t (refused_at c p) = refl

-- at place i of s, with n tokens found, which are within the room: they stand in the buffer, w words each; x is what is counted of them all
pub record Filling (w : ℕ) (s : List ℕ) (room : ℕ) (o : List ℕ) (i n : ℕ) (x : Nesting) (out : List ℕ) : Type 0 where
  pub done : List Token
  pub number : length done ≡ n
  pub within : i ≤ length s
  pub few : n ≤ i
  pub fits : n ≤ room
  pub rest : before done (lexemes_from (drop i s) i 0) ≡ lexemes s
  pub long : length out ≡ length o
  pub written : out ≡ words_kept w done ++ drop (w * n) o
  pub nested : nest_of outermost done ≡ x

-- where a step leads
pub leads-to : (s : List ℕ) (i : ℕ) (t : Step) → step_of s i ≡ t → Leads i (length s) t
leads-to s i t q = subst (Leads i (length s)) q (step-leads s i)

-- and less is left behind it
pub nearer-token : (s : List ℕ) (i k e : ℕ) → step_of s i ≡ S.Token k e → length s - e < length s - i
nearer-token s i k e q = let m = leads-to s i (S.Token k e) q in omega (arith, m.0, m.1)

pub nearer-trivia : (s : List ℕ) (i e : ℕ) → step_of s i ≡ S.Trivia e → length s - e < length s - i
nearer-trivia s i e q = let m = leads-to s i (S.Trivia e) q in omega (arith, m.0, m.1)

-- where one token more is within the room, its words are within the buffer
pub room-left : (w n room m : ℕ) → w * room ≤ m → n < room → w * (n + 1) ≤ m
room-left w n room m g h = le_trans (mul-le-mul_left w (omega arith)) g

pub fill_start : (w : ℕ) (s : List ℕ) (room : ℕ) (o : List ℕ) (x : Nesting) → x ≡ outermost → Filling w s room o 0 0 x o
unfolding lexemes words_kept
fill_start w s room o x e = record {
  done = [];
  number = refl;
  within = omega arith;
  few = omega arith;
  fits = omega arith;
  rest = before-none _;
  long = refl;
  written = ap (λ (k : ℕ). drop k o) (sym (mul-zero w));
  nested = sym e;
}

module _ {w : ℕ} {s : List ℕ} {room : ℕ} {o : List ℕ} {i n : ℕ} {x : Nesting} {out : List ℕ} (v : Filling w s room o i n x out) (t : Step) (q : step_of s i ≡ t) where
  -- what is left, as the step has it
  left : before v.done (follow t i (λ j. lexemes_from (drop j s) j 0)) ≡ lexemes s
  left = sym (ap (before v.done) (rest-follows s i ∙ ap (λ x. follow x i (λ j. lexemes_from (drop j s) j 0)) q)) ∙ v.rest

module _ {w : ℕ} {s : List ℕ} {room : ℕ} {o : List ℕ} {i n : ℕ} {x : Nesting} {out : List ℕ} (v : Filling w s room o i n x out) where
  pub fill-trivia : (e : ℕ) → step_of s i ≡ S.Trivia e → Filling w s room o e n x out
  fill-trivia e q =
      let m = leads-to s i (S.Trivia e) q in
      record {
        done = v.done;
        number = v.number;
        within = m.1;
        few = omega (arith, m.0, v.few);
        fits = v.fits;
        rest = left v (S.Trivia e) q;
        long = v.long;
        written = v.written;
        nested = v.nested;
      }

  pub fill-refused : (r : Refused) → step_of s i ≡ S.Refused r → lexemes s ≡ refused_at (refusal_number r.refusal) r.place
  fill-refused r q = sym (left v (S.Refused r) q)

  fill-end : step_of s i ≡ S.Nothing → lexemes s ≡ tokens v.done
  fill-end q = sym (left v S.Nothing q) ∙ ap tokens (append-nil v.done)

  module _ (k e : ℕ) (q : step_of s i ≡ S.Token k e) where
    abbrev this : Token
    this = record { kind = k; start = i; end = e }

    -- one token more than fit: what is said of those that are left is said of all
    pub fill-over : n ≡ room → too_many (lexemes_from (drop i s) i 0) i ≡ judged_in room (lexemes s)
    fill-over h =
        ap (λ x. too_many x i) next
        ∙ go (lexemes_from (drop e s) e 0)
        ∙ ap (judged_in room) (left v (S.Token k e) q)
      where
        next : lexemes_from (drop i s) i 0 ≡ with_token this (lexemes_from (drop e s) e 0)
        next = rest-follows s i ∙ ap (λ x. follow x i (λ j. lexemes_from (drop j s) j 0)) q

        go : (y : Lexemes) → too_many (with_token this y) i ≡ judged_in room (before v.done (with_token this y))
        go (refused_at c p) = refl
        go (tokens ts) =
            let l : room < length (v.done ++ this ∷ ts) = omega (arith, length-append v.done (this ∷ ts), v.number) in
            let f : get_or (v.done ++ this ∷ ts) room no_token ≡ this = get_or_at v.done this ts no_token room (omega (arith, v.number)) in
            simp (lt-ltb _ _ l, f)

    put_written : Keeps w → w * (n + 1) ≤ length o → put_at w out n k i e ≡ words_kept w (v.done ++ this ∷ []) ++ drop (w * (n + 1)) o
    put_written f h =
        let l : length (words_kept w v.done) ≡ w * n = kept-length w f v.done ∙ ap (λ x. w * x) v.number in
        let a : w * n + length (kept w this) ≡ w * (n + 1) = ap (λ x. w * n + x) (f this) ∙ sym (mul-suc w n) ∙ ap (λ x. w * x) (omega arith) in
        ap (λ x. sets x (w * n) (kept w this)) v.written
        ∙ token-more (words_kept w v.done) o (kept w this) (w * n) l (omega (arith, a, h))
        ∙ ap₂ (λ x y. x ++ drop y o) (sym (kept-snoc w v.done this)) a

    pub fill-token : Keeps w → w * room ≤ length o → n < room → Filling w s room o e (n + 1) (nest_after x k i) (put_at w out n k i e)
    fill-token f g h =
        let m = leads-to s i (S.Token k e) q in
        record {
          done = v.done ++ this ∷ [];
          number = length-append v.done (this ∷ []) ∙ ap (λ x. x + 1) v.number;
          within = m.1;
          few = omega (arith, m.0, v.few);
          fits = omega arith;
          rest = before-snoc v.done this (lexemes_from (drop e s) e 0) ∙ left v (S.Token k e) q;
          long = length-put w out n k i e ∙ v.long;
          written = put_written f (room-left w n room (length o) g h);
          nested = nest-snoc outermost v.done this ∙ ap (λ (y : Nesting). nest_after y k i) v.nested;
        }

  -- every token is found: the answer and the buffer
  deep_is : deep (passed_at x) n ≡ deep (first_too_deep 0 0 v.done) n
  deep_is = ap (λ (p : Option ℕ). deep p n) (sym (ap passed_at v.nested) ∙ nest_deep v.done 0 0)

  pub fill-answer : step_of s i ≡ S.Nothing → deep (passed_at x) n ≡ judged_in room (lexemes s)
  fill-answer q =
      deep_is
      ∙ sym (rw (v.number, le-ltb room n v.fits) refl)
      ∙ sym (ap (judged_in room) (fill-end q))

  pub fill-held : Keeps w → (a : Answer) → step_of s i ≡ S.Nothing → Held a (words_kept w (tokens_of (lexemes s))) o out
  fill-held f a q =
      let l : length (words_kept w v.done) ≡ w * n = kept-length w f v.done ∙ ap (λ y. w * y) v.number in
      record {
        holds = λ k m h. v.written ∙ ap (λ (k : ℕ). words_kept w v.done ++ drop k o) (sym l) ∙ ap (λ (y : Lexemes). front (words_kept w (tokens_of y)) o) (sym (fill-end q));
      }

-- ---- behind the first token too many

-- what is said from place i on, where the token at p is one too many
abbrev pub over_from : List ℕ → ℕ → ℕ → Answer
over_from s p i = too_many (lexemes_from (drop i s) i 0) p

module _ (s : List ℕ) (p i : ℕ) where
  over-follow : (t : Step) → step_of s i ≡ t → over_from s p i ≡ too_many (follow t i (λ j. lexemes_from (drop j s) j 0)) p
  over-follow t q = ap (λ x. too_many x p) (rest-follows s i ∙ ap (λ x. follow x i (λ j. lexemes_from (drop j s) j 0)) q)

  pub over-token : (k e : ℕ) → step_of s i ≡ S.Token k e → over_from s p i ≡ over_from s p e
  over-token k e q = over-follow _ q ∙ go (lexemes_from (drop e s) e 0)
    where
      go : (y : Lexemes) → too_many (with_token (record { kind = k; start = i; end = e }) y) p ≡ too_many y p
      go (tokens ts) = refl
      go (refused_at c q) = refl

  pub over-trivia : (e : ℕ) → step_of s i ≡ S.Trivia e → over_from s p i ≡ over_from s p e
  over-trivia e q = over-follow _ q

  pub over-refused : (r : Refused) → step_of s i ≡ S.Refused r → over_from s p i ≡ refused_by r
  over-refused r q = over-follow _ q

  pub over-end : step_of s i ≡ S.Nothing → over_from s p i ≡ refused (refusal_number refusal.TooMany) p
  over-end q = over-follow _ q
