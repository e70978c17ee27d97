-- Each class that tokens have is that of its sample, and the class of a word is that of one text alone; so there is a draft for every list of classes.
-- Assumes nothing.
use Rattle.std.specs.Prelude.{Bool, true, false, ◌&&◌, ◌||◌, ◌↔◌, ◌⊎◌, ◌≡◌, refl, T, eqb, ltb, length, get_or, replicate}
use Rattle.std.proofs.Math.Bool.{not}
use mathlib.Core.List.Memᴰ
use mathlib.Core.List.{List, [], ◌∷◌, ◌++◌, map, map-map, map-append, Memᴰ, append-nil}
use Rattle.std.proofs.Common.{inl, inr, sym, ap₂, ◌∙◌, subst, arith, eqb→eq, le→leb, ltb→lt}
use Rattle.std.proofs.Math.Path.{ap}
use Prim.Native.Nat.{ℕ, ◌+◌, ◌-◌, ◌≤◌, ◌<◌}
use Rattle.std.proofs.Math.Dec.{leb, leb→le}
use Rattle.text.specs.Lists.{has}
use Rattle.text.specs.Ascii.{ascii, ascii_from}
use Rattle.text.specs.Same.{same}
use Rattle.text.proofs.SameLaws.{same_true}
use Rattle.text.specs.Table.{all, every}
use Rattle.text.proofs.Table.{each, at, is_true, first-of, second-of, implied}
use Rattle.words.proofs.Right.{Says, says}
use Rattle.words.specs.Words.{FUNCTION_RESERVED, KEYWORDS, MACROS, MODULE_RESERVED, RULE_NAMES, BOOLEANS, BOOL, UINT_TYPES, BUILTIN_ALIASES, TYPE_NAMES, RULE_WORDS, find, word_of}
use Rattle.std.specs.Prelude.{Some, None}
use Rattle.std.specs.Prelude as std
use Rattle.lexer.specs.Chars.{among, whitespace, line_ends, plain_bytes, binary_digits, decimal_digits, hex_digits, underscore, name_starts, name_bytes, run, begins}
use Rattle.lexer.specs.Class.{word_class, class_of}
use Rattle.lexer.specs.Classes as t
use Rattle.lexer.proofs.ClassLaws.{other-class, identifier-class, function-name-class, alias-name-class}
use Rattle.lexer.specs.ClassLaw.{ClassLaw}
use Rattle.lexer.specs.ClassTexts.{Sample, samples, word_kinds, never_given, given, AllGiven, sample_in, sample_of, sampled, draft_of, continued_with}
use Rattle.lexer.specs.Lexemes.{token, space, comment, line_comment, inside, closing, block_comment, name_length, qualified, macro, word, digits, hexadecimal, binary, decimal, marks, mark, no_lexeme, lexeme, Token, tokens, lexemes}
use Rattle.lexer.proofs.SameLexeme.{same_lexeme, same-lexeme}
use Rattle.lexer.proofs.TextLaws.{token-texts, joined-tokens, joined-each, joined-classes}
use Rattle.lexer.specs.Texts.{text_in, class_in, OneToken, blank, Piece, Sound, Sounds, spaced, respaced, joined, tokens_at}
use Rattle.lexer.proofs.TokenKinds.{Kind, a_name, a_boolean, a_macro, another, kind-of}

-- ---- the words of the rules

abbrev place_is : std.Option ℕ → ℕ → Bool
place_is (Some m) i = eqb m i
place_is None i = false

-- each is found at its place
places-pass : T (every (λ i w. place_is (word_of RULE_WORDS w) i) 0 RULE_WORDS)
unfolding word_of find same FUNCTION_RESERVED MACROS RULE_NAMES BOOLEANS BOOL UINT_TYPES BUILTIN_ALIASES TYPE_NAMES RULE_WORDS ascii ascii_from
places-pass = tt

found_at : (i : ℕ) → i < length RULE_WORDS → word_of RULE_WORDS (get_or RULE_WORDS i []) ≡ Some i
found_at i h = go (word_of RULE_WORDS (get_or RULE_WORDS i [])) (at (λ i w. place_is (word_of RULE_WORDS w) i) RULE_WORDS [] places-pass i h)
  where
    go : (f : std.Option ℕ) → T (place_is f i) → f ≡ Some i
    go (Some m) p = ap Some (eqb→eq m i p)
    go None p = absurd p

by_word : (k : ℕ) (w : List ℕ) → Memᴰ k word_kinds → (class_of k w ≡ word_class (word_of RULE_WORDS w) k) × (k < t.words)
unfolding class_of
by_word k w (Memᴰ.head e) = subst (λ k. (class_of k w ≡ word_class (word_of RULE_WORDS w) k) × (k < t.words)) (sym e) (refl, omega arith)
by_word k w (Memᴰ.tail (Memᴰ.head e)) = subst (λ k. (class_of k w ≡ word_class (word_of RULE_WORDS w) k) × (k < t.words)) (sym e) (refl, omega arith)
by_word k w (Memᴰ.tail (Memᴰ.tail (Memᴰ.head e))) = subst (λ k. (class_of k w ≡ word_class (word_of RULE_WORDS w) k) × (k < t.words)) (sym e) (refl, omega arith)
by_word k w (Memᴰ.tail (Memᴰ.tail (Memᴰ.tail m))) = absurd (Memᴰ.not-nil m)

-- The names, macros and booleans that the rules tell apart: a name, macro or boolean is of the class of word number i exactly when it is that word.
pub word-class : (k : ℕ) (w : List ℕ) → Memᴰ k word_kinds → (i : ℕ) → i < length RULE_WORDS → (class_of k w ≡ t.words + i) ↔ (w ≡ get_or RULE_WORDS i [])
word-class k w m i h = (λ e. one (word_of RULE_WORDS w) (says RULE_WORDS w) (sym b.0 ∙ e), λ e. b.0 ∙ ap (λ f. word_class f k) (ap (word_of RULE_WORDS) e ∙ found_at i h))
  where
    b : (class_of k w ≡ word_class (word_of RULE_WORDS w) k) × (k < t.words)
    b = by_word k w m

    one : (f : std.Option ℕ) → Says RULE_WORDS w f → word_class f k ≡ t.words + i → w ≡ get_or RULE_WORDS i []
    one (Some j) s e = let q : j ≡ i = omega arith in sym s.1 ∙ ap (λ (n : ℕ). get_or RULE_WORDS n []) q
    one None s e = let l = b.1 in absurd (omega arith)

-- ---- the samples

-- a sample of c is a token of its kind and of the class c; if that is a word's, it is that word
abbrev sample_tests : ℕ → Sample → List Bool
sample_tests c s =
    same_lexeme (lexeme (ascii s.text)) (token s.kind (length (ascii s.text))) ∷
    eqb (class_of s.kind (ascii s.text)) c ∷
    (not (leb t.words c) || ltb (c - t.words) (length RULE_WORDS)) ∷
    (not (leb t.words c) || same (get_or RULE_WORDS (c - t.words) []) (ascii s.text)) ∷ []

-- computed over all classes
samples-pass : T (every {A = ℕ} (λ c x. not (given c) || all (sample_tests c (sample_of c))) 0 (replicate (t.last + 1) 0))
unfolding same_lexeme samples sample_in given never_given class_of word_of find same FUNCTION_RESERVED KEYWORDS MACROS MODULE_RESERVED RULE_NAMES BOOLEANS
    BOOL UINT_TYPES BUILTIN_ALIASES TYPE_NAMES RULE_WORDS ascii ascii_from among whitespace line_ends plain_bytes binary_digits decimal_digits hex_digits underscore name_starts name_bytes run begins
    space comment line_comment inside closing block_comment name_length qualified macro word digits hexadecimal binary decimal marks mark no_lexeme lexeme
    has
samples-pass = tt

module _ (c : ℕ) (g : T (given c)) where
  -- the text of its sample
  abbrev v : List ℕ
  v = ascii (sample_of c).text

  passes : (i : ℕ) → T (get_or (sample_tests c (sample_of c)) i true)
  unfolding given
  passes =
      let l = leb→le c t.last (second-of (leb t.Pub c) (leb c t.last) (first-of (leb t.Pub c && leb c t.last) _ g)) in
      each (sample_tests c (sample_of c))
      (implied (given c) _ (at {A = ℕ} (λ c x. not (given c) || all (sample_tests c (sample_of c))) (replicate (t.last + 1) 0) 0 samples-pass c (omega arith)) g)

  -- A class's sample is one token, and has that class.
  pub sample-token : OneToken (sample_of c).kind v
  sample-token = record { lexed = same-lexeme (lexeme v) (token (sample_of c).kind (length v)) (passes 0) }

  pub sample-class : class_of (sample_of c).kind v ≡ c
  sample-class = eqb→eq (class_of (sample_of c).kind v) c (passes 1)

  -- Each word that the rules name: a token is of its class exactly when it is that text.
  pub named-class : t.words ≤ c → {k : ℕ} {w : List ℕ} → OneToken k w → (class_of k w ≡ c) ↔ (w ≡ ascii (sample_of c).text)
  named-class h {k} {w} o = (λ e. go (kind-of w k o) e, back)
    where
      i : ℕ
      i = c - t.words

      a : T (leb t.words c)
      a = le→leb t.words c h

      of_word : Memᴰ k word_kinds → class_of k w ≡ c → w ≡ v
      of_word m e =
          let q : c ≡ t.words + i = omega arith in
          let l = ltb→lt i (length RULE_WORDS) (implied (leb t.words c) (ltb i (length RULE_WORDS)) (passes 2) a) in
          (word-class k w m i l).0 (e ∙ q) ∙ same_true (get_or RULE_WORDS i []) v (is_true _ (implied (leb t.words c) (same (get_or RULE_WORDS i []) v) (passes 3) a))

      go : Kind w k → class_of k w ≡ c → w ≡ v
      go (a_name e l q) r = of_word (Memᴰ.tail (Memᴰ.head e)) r
      go (a_boolean j e q b) r = of_word (Memᴰ.head e) r
      go (a_macro j e q) r = of_word (Memᴰ.tail (Memᴰ.tail (Memᴰ.head e))) r
      go (another p) r =
          let l = ltb→lt k t.words (second-of (leb t.Pub k) (ltb k t.words) (first-of (leb t.Pub k && ltb k t.words) _ p)) in
          let z = other-class k w p in
          absurd (omega arith)

      back : w ≡ v → class_of k w ≡ c
      back e =
          let x = o.lexed in
          let y = sample-token.lexed in
          let q : k ≡ (sample_of c).kind = cc in
          ap₂ class_of q e ∙ sample-class

-- ---- drafts of classes

space-sound : {k : ℕ} {w : List ℕ} → OneToken k w → Sound (spaced k w)
unfolding blank among whitespace ascii ascii_from
space-sound o = record { one = o; apart = omega arith; white = refl }

sampled-sound : (cs : List ℕ) → AllGiven cs → Sounds (map sampled cs)
sampled-sound cs g p m = let r = Memᴰ.of_map sampled cs m in subst Sound r.2 (space-sound (sample-token r.0 (g r.0 r.1)))

sampled-classes : (cs : List ℕ) → AllGiven cs → map (λ c. class_of (sample_of c).kind (ascii (sample_of c).text)) cs ≡ cs
sampled-classes [] g = refl
sampled-classes (c ∷ cs) g = ap₂ (λ x l. x ∷ l) (sample-class c (g c (Memᴰ.head refl))) (sampled-classes cs (λ e m. g e (Memᴰ.tail m)))

-- For every list of classes that tokens have there is a draft whose tokens have exactly these.
pub drafted : (cs : List ℕ) → AllGiven cs → (ts : List Token) × (lexemes (draft_of cs) ≡ tokens ts) × (map (class_in (draft_of cs)) ts ≡ cs)
unfolding draft_of
drafted cs g =
    let ps = map sampled cs in
    let s = sampled-sound cs g in
    (tokens_at 0 ps, joined-tokens ps s, ap (λ d. map (class_in d) (tokens_at 0 ps)) (sym (append-nil (joined ps))) ∙ joined-classes ps s [] ∙ map-map (λ p. class_of p.kind p.text) sampled cs ∙ sampled-classes cs g)

-- ---- the first tokens of a draft, continued

module _ (draft : List ℕ) (front rest : List Token) (e : lexemes draft ≡ tokens (front ++ rest)) (cs : List ℕ) (g : AllGiven cs) where
  abbrev parts : List Piece
  parts = map (respaced draft) front ++ map sampled cs

  parts-sound : Sounds parts
  parts-sound p m = go (Memᴰ.append_cases (map (respaced draft) front) m)
    where
      go : Memᴰ p (map (respaced draft) front) ⊎ Memᴰ p (map sampled cs) → Sound p
      go (inl m) = let r = Memᴰ.of_map (respaced draft) front m in subst Sound r.2 (space-sound (token-texts draft (front ++ rest) e r.0 (Memᴰ.append_left rest r.1)))
      go (inr m) = sampled-sound cs g p m

  -- what kinds and texts decide
  parts-each : {A : Type 0} (f : ℕ → List ℕ → A)
      → map (λ t. f t.kind (text_in (joined parts) t)) (tokens_at 0 parts)
      ≡ map (λ t. f t.kind (text_in draft t)) front ++ map (λ c. f (sample_of c).kind (ascii (sample_of c).text)) cs
  parts-each f =
      ap (λ d. map (λ t. f t.kind (text_in d t)) (tokens_at 0 parts)) (sym (append-nil (joined parts)))
      ∙ joined-each f parts parts-sound []
      ∙ map-append (λ p. f p.kind p.text) (map (respaced draft) front) (map sampled cs)
      ∙ ap₂ (λ x y. x ++ y) (map-map (λ p. f p.kind p.text) (respaced draft) front) (map-map (λ p. f p.kind p.text) sampled cs)

  -- The first tokens of a draft can be continued by tokens of any classes that tokens have: there is a draft whose tokens are those, with the same
  -- kinds, texts and classes, and then tokens of exactly these classes.
  pub continued : (ts : List Token) × (lexemes (continued_with draft front cs) ≡ tokens ts)
      × (map {B = ℕ × List ℕ} (λ t. (t.kind, text_in (continued_with draft front cs) t)) ts ≡ map {B = ℕ × List ℕ} (λ t. (t.kind, text_in draft t)) front ++ map {B = ℕ × List ℕ} (λ c. ((sample_of c).kind, ascii (sample_of c).text)) cs)
      × (map (class_in (continued_with draft front cs)) ts ≡ map (class_in draft) front ++ cs)
  unfolding continued_with class_in
  continued = (
    tokens_at 0 parts,
    joined-tokens parts parts-sound,
    parts-each {A = ℕ × List ℕ} (λ k w. (k, w)),
    parts-each class_of ∙ ap (λ l. map (λ t. class_of t.kind (text_in draft t)) front ++ l) (sampled-classes cs g),
  )

-- ---- the class of a token, whatever its text

pub class_law : {k : ℕ} {w : List ℕ} {c : ℕ} → c ≡ class_of k w → OneToken k w → ClassLaw k w c
class_law {k} {w} e o =
    subst (ClassLaw k w) (sym e)
    (record { identifier = identifier-class o; function_name = function-name-class o; alias_name = alias-name-class o; word = λ d g h. named-class d g h o })
