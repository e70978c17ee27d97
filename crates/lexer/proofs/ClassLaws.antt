-- The classes of Classes.antt are right for every token: which names are function names and which are reserved, which classes tokens have, and which
-- text each word of the rules is. Every law is computed over the tables of words once.
-- Assumes nothing.
use Rattle.std.specs.Prelude.{Bool, true, false, cond, ◌&&◌, ◌||◌, not, ◌↔◌, ◌≡◌, ℕ, ◌+◌, ◌<◌, T, eqb, ltb, leb, length, replicate}
use mathlib.Core.List.{List, [], ◌∷◌, Memᴰ}
use Rattle.std.proofs.Math.Path.{refl}
use Rattle.std.proofs.Common.{sym, subst, arith, eq-eqb, eqb-true, ltb→lt, T_not}
use Rattle.text.specs.Ascii.{ascii, ascii_from}
use Rattle.text.specs.Lists.{has, all}
use Rattle.text.specs.Same.{same}
use Rattle.text.specs.Table.{every}
use Rattle.text.proofs.Table.{at, first-of, second-of, implied}
use Rattle.words.proofs.Members.{found_in, plain_out, found-passes}
use Rattle.words.specs.Words.{FUNCTION_RESERVED, KEYWORDS, MACROS, RULE_NAMES, BOOLEANS, BOOL, UINT_TYPES, BUILTIN_ALIASES, TYPE_NAMES, RULE_WORDS, ALIAS_RESERVED, find, word_of}
use Rattle.std.specs.Prelude.{Some, None}
use Rattle.std.specs.Prelude as std
use Rattle.lexer.specs.Chars.{among, decimal_digits, underscore, name_starts, name_bytes, run}
use Rattle.lexer.specs.Class.{word_class, class_of}
use Rattle.lexer.specs.Classes as t
use Rattle.lexer.specs.ClassTexts.{never_given, given}
use Rattle.lexer.specs.Lexemes.{name_length}
use Rattle.lexer.specs.Texts.{OneToken}
use Rattle.lexer.proofs.TokenKinds.{other_kind, Kind, a_name, a_boolean, a_macro, another, kind-of}

-- ---- members by their test

listed : (l : List ℕ) (n : ℕ) → T (has l n) → Memᴰ n l
unfolding has
listed [] n h = absurd h
listed (m ∷ l) n h = go (eqb m n) refl h (listed l n)
  where
    go : (b : Bool) → eqb m n ≡ b → T (b || has l n) → (T (has l n) → Memᴰ n l) → Memᴰ n (m ∷ l)
    go true q h f = Memᴰ.head (sym (eqb-true m n q))
    go false q h f = Memᴰ.tail (f h)

member-test : {n : ℕ} {l : List ℕ} → Memᴰ n l → T (has l n)
unfolding has
member-test {n = n} (Memᴰ.head {x = x} {xs = l} e) = subst (λ b. T (b || has l n)) (sym (eq-eqb x n (sym e))) tt
member-test {n = n} (Memᴰ.tail {x = x} {xs = l} m) = go (eqb x n) (member-test m)
  where
    go : (b : Bool) → T (has l n) → T (b || has l n)
    go true h = tt
    go false h = h

unlisted : (l : List ℕ) (n : ℕ) → T (not (has l n)) → ¬ Memᴰ n l
unlisted l n h m = T_not (has l n) h (member-test m)

-- a list within another
within : (k : List ℕ) {c : ℕ} {l : List ℕ} → T (all (has k) l) → Memᴰ c l → Memᴰ c k
unfolding all
within k {c = c} t (Memᴰ.head {x = x} {xs = l} e) = listed k c (subst (λ n. T (has k n)) (sym e) (first-of (has k x) (all (has k) l) t))
within k t (Memᴰ.tail {x = x} {xs = l} m) = within k (second-of (has k x) (all (has k) l) t) m

abbrev is_word : std.Option ℕ → Bool
is_word (Some i) = true
is_word None = false

-- ---- the tables

-- names that a list of words reserves: those of the classes r are in the list, those of the classes f are free
abbrev sorted : List ℕ → List ℕ → Bool → ℕ → Bool
sorted f r true c = has r c && not (has f c)
sorted f r false c = has f c && not (has r c)

-- a word of the rules that is a name token's text: its class is given, and sorted so
abbrev name_test : List (List ℕ) → List ℕ → List ℕ → ℕ → List ℕ → Bool
name_test ws f r i w = is_word (word_of KEYWORDS w) || (not (eqb (name_length w) (length w)) || (given (t.words + i) && sorted f r (is_word (word_of ws w)) (t.words + i)))

-- What is computed of a list of reserved words and the classes of names: the words of the rules are sorted, the list has no other words, any other
-- name is free, and the classes are names'.
record Reserves (ws : List (List ℕ)) (f r : List ℕ) : Type 0 where
  words : T (every (name_test ws f r) 0 RULE_WORDS)
  known : T (every (λ i w. is_word (word_of RULE_WORDS w)) 0 ws)
  plain : T (sorted f r false t.Ident)
  names : T (all (has t.identifiers) f && all (has t.identifiers) r)

functions : Reserves FUNCTION_RESERVED t.function_names t.reserved
unfolding word_of find same FUNCTION_RESERVED KEYWORDS MACROS RULE_NAMES BOOLEANS BOOL UINT_TYPES BUILTIN_ALIASES TYPE_NAMES RULE_WORDS ascii ascii_from name_length run among name_bytes name_starts underscore decimal_digits given never_given class_of has all
functions = record { words = tt; known = tt; plain = tt; names = tt }

aliases : Reserves ALIAS_RESERVED t.alias_names t.alias_reserved
unfolding ALIAS_RESERVED word_of find same FUNCTION_RESERVED KEYWORDS MACROS RULE_NAMES BOOLEANS BOOL UINT_TYPES BUILTIN_ALIASES TYPE_NAMES RULE_WORDS ascii ascii_from name_length run among name_bytes name_starts underscore decimal_digits given never_given class_of has all
aliases = record { words = tt; known = tt; plain = tt; names = tt }

-- a class is given, and no name's
abbrev nameless : ℕ → Bool
nameless c = given c && not (has t.identifiers c)

booleans-pass : T (every (λ i w. not (ltb t.Simc (t.Pub + i)) || nameless (class_of t.Bool w)) 0 KEYWORDS)
unfolding word_of find same FUNCTION_RESERVED KEYWORDS MACROS RULE_NAMES BOOLEANS BOOL UINT_TYPES BUILTIN_ALIASES TYPE_NAMES RULE_WORDS ascii ascii_from given never_given class_of has
booleans-pass = tt

macros-pass : T (every (λ i w. nameless (class_of t.Macro w)) 0 MACROS)
unfolding word_of find same FUNCTION_RESERVED MACROS RULE_NAMES BOOLEANS BOOL UINT_TYPES BUILTIN_ALIASES TYPE_NAMES RULE_WORDS ascii ascii_from given never_given class_of has
macros-pass = tt

-- the kinds that are classes themselves
others-pass : T (every {A = ℕ} (λ k x. not (other_kind k) || (not (eqb k t.Bool || eqb k t.Ident || eqb k t.Macro) && nameless k)) 0 (replicate t.words 0))
unfolding word_of find same FUNCTION_RESERVED MACROS RULE_NAMES BOOLEANS BOOL UINT_TYPES BUILTIN_ALIASES TYPE_NAMES RULE_WORDS ascii ascii_from given never_given class_of has
others-pass = tt

-- ---- names

-- how a name token's text and class go together
data Sorted (ws : List (List ℕ)) (f r : List ℕ) (w : List ℕ) (c : ℕ) : Type 0 where
  free : ¬ Memᴰ w ws → Memᴰ c f → ¬ Memᴰ c r → Sorted ws f r w c
  taken : Memᴰ w ws → Memᴰ c r → ¬ Memᴰ c f → Sorted ws f r w c

-- of a name that is no keyword
name-passes : {ws : List (List ℕ)} {f r : List ℕ} → Reserves ws f r → (w : List ℕ) → name_length w ≡ length w → word_of KEYWORDS w ≡ None → (i : ℕ) → word_of RULE_WORDS w ≡ Some i
    → T (given (t.words + i) && sorted f r (is_word (word_of ws w)) (t.words + i))
name-passes {ws} {f} {r} s w l q i e =
    let h = found-passes (name_test ws f r) RULE_WORDS s.words w i e in
    rw (q, eq-eqb (name_length w) (length w) l) at h

module _ {ws : List (List ℕ)} {f r : List ℕ} (s : Reserves ws f r) where
  by-test : (w : List ℕ) (x : std.Option ℕ) → word_of ws w ≡ x → (c : ℕ) → T (sorted f r (is_word x) c) → Sorted ws f r w c
  by-test w (Some i) q c h = taken (found_in ws w i q) (listed r c (first-of (has r c) _ h)) (unlisted f c (second-of (has r c) _ h))
  by-test w None q c h = free (plain_out ws w q) (listed f c (first-of (has f c) _ h)) (unlisted r c (second-of (has f c) _ h))

  -- a name that is no word of the rules is no reserved one
  unreserved : (w : List ℕ) → word_of RULE_WORDS w ≡ None → word_of ws w ≡ None
  unreserved w e = go (word_of ws w) refl
    where
      go : (x : std.Option ℕ) → word_of ws w ≡ x → x ≡ None
      go (Some i) q = absurd (subst (λ x. T (is_word x)) e (found-passes (λ i w. is_word (word_of RULE_WORDS w)) ws s.known w i q))
      go None q = refl

  name-sorted : (w : List ℕ) → name_length w ≡ length w → word_of KEYWORDS w ≡ None → Sorted ws f r w (class_of t.Ident w)
  unfolding class_of
  name-sorted w l q = go (word_of RULE_WORDS w) refl
    where
      go : (x : std.Option ℕ) → word_of RULE_WORDS w ≡ x → Sorted ws f r w (word_class x t.Ident)
      go (Some i) e = by-test w (word_of ws w) refl (t.words + i) (second-of (given (t.words + i)) _ (name-passes s w l q i e))
      go None e = by-test w None (unreserved w e) t.Ident s.plain

  sorted-identifier : {w : List ℕ} {c : ℕ} → Sorted ws f r w c → Memᴰ c t.identifiers
  sorted-identifier (free a b d) = within t.identifiers (first-of (all (has t.identifiers) f) _ s.names) b
  sorted-identifier (taken a b d) = within t.identifiers (second-of (all (has t.identifiers) f) _ s.names) b

name-given : (w : List ℕ) → name_length w ≡ length w → word_of KEYWORDS w ≡ None → T (given (class_of t.Ident w))
unfolding class_of given never_given word_of find same FUNCTION_RESERVED MACROS RULE_NAMES BOOLEANS BOOL UINT_TYPES BUILTIN_ALIASES TYPE_NAMES RULE_WORDS ascii ascii_from has
name-given w l q = go (word_of RULE_WORDS w) refl
  where
    go : (x : std.Option ℕ) → word_of RULE_WORDS w ≡ x → T (given (word_class x t.Ident))
    go (Some i) e = first-of (given (t.words + i)) _ (name-passes functions w l q i e)
    go None e = tt

-- ---- the other tokens

other-passes : (k : ℕ) → T (other_kind k) → T (not (eqb k t.Bool || eqb k t.Ident || eqb k t.Macro) && nameless k)
other-passes k h =
    let l : k < t.words = ltb→lt k t.words (second-of (leb t.Pub k) (ltb k t.words) (first-of (leb t.Pub k && ltb k t.words) _ h)) in
    implied (other_kind k) _
    (at {A = ℕ} (λ k x. not (other_kind k) || (not (eqb k t.Bool || eqb k t.Ident || eqb k t.Macro) && nameless k)) (replicate t.words 0) 0 others-pass k l) h

-- a kind that is a class itself
pub other-class : (k : ℕ) (w : List ℕ) → T (other_kind k) → class_of k w ≡ k
unfolding class_of
other-class k w h = go (eqb k t.Bool || eqb k t.Ident || eqb k t.Macro) (first-of (not (eqb k t.Bool || eqb k t.Ident || eqb k t.Macro)) (nameless k) (other-passes k h))
  where
    go : (b : Bool) → T (not b) → cond b (word_class (word_of RULE_WORDS w) k) k ≡ k
    go true h = absurd h
    go false h = refl

data Sort (k : ℕ) (w : List ℕ) : Type 0 where
  named : k ≡ t.Ident → name_length w ≡ length w → word_of KEYWORDS w ≡ None → Sort k w
  unnamed : ¬ (k ≡ t.Ident) → T (nameless (class_of k w)) → Sort k w

sort-of : {k : ℕ} {w : List ℕ} → OneToken k w → Sort k w
unfolding has
sort-of {k} {w} o = go (kind-of w k o)
  where
    go : Kind w k → Sort k w
    go (a_name e l q) = named e l q
    go (a_boolean i e q b) =
        unnamed (λ f. omega arith)
        (subst (λ j. T (nameless (class_of j w))) (sym e)
        (implied (ltb t.Simc (t.Pub + i)) _ (found-passes (λ i w. not (ltb t.Simc (t.Pub + i)) || nameless (class_of t.Bool w)) KEYWORDS booleans-pass w i q) (subst T (sym b) tt)))
    go (a_macro i e q) =
        unnamed (λ f. omega arith) (subst (λ j. T (nameless (class_of j w))) (sym e) (found-passes (λ i w. nameless (class_of t.Macro w)) MACROS macros-pass w i q))
    go (another h) =
        unnamed (λ f. subst (λ j. T (other_kind j)) f h)
        (subst (λ c. T (nameless c)) (sym (other-class k w h)) (second-of (not (eqb k t.Bool || eqb k t.Ident || eqb k t.Macro)) (nameless k) (other-passes k h)))

-- ---- the laws

-- "An identifier is any name token."
pub identifier-class : {k : ℕ} {w : List ℕ} → OneToken k w → Memᴰ (class_of k w) t.identifiers ↔ (k ≡ t.Ident)
identifier-class {k} {w} o = go (sort-of o)
  where
    go : Sort k w → Memᴰ (class_of k w) t.identifiers ↔ (k ≡ t.Ident)
    go (named e l q) =
        (λ m. e, λ z. sorted-identifier functions (subst (λ j. Sorted FUNCTION_RESERVED t.function_names t.reserved w (class_of j w)) (sym e) (name-sorted functions w l q)))
    go (unnamed n h) = (λ m. absurd (unlisted t.identifiers (class_of k w) (second-of (given (class_of k w)) _ h) m), λ q. absurd (n q))

-- The free names are those that are not reserved.
module _ {ws : List (List ℕ)} {f r : List ℕ} (s : Reserves ws f r) {k : ℕ} {w : List ℕ} (o : OneToken k w) where
  free-class : Memᴰ (class_of k w) f ↔ ((k ≡ t.Ident) × ¬ Memᴰ w ws)
  free-class = go (sort-of o)
    where
      by_name : k ≡ t.Ident → Sorted ws f r w (class_of k w) → Memᴰ (class_of k w) f ↔ ((k ≡ t.Ident) × ¬ Memᴰ w ws)
      by_name e (free a b d) = (λ m. (e, a), λ q. b)
      by_name e (taken a b d) = (λ m. absurd (d m), λ q. absurd (q.1 a))

      go : Sort k w → Memᴰ (class_of k w) f ↔ ((k ≡ t.Ident) × ¬ Memᴰ w ws)
      go (named e l q) = by_name e (subst (λ j. Sorted ws f r w (class_of j w)) (sym e) (name-sorted s w l q))
      go (unnamed n h) = (λ m. absurd (n ((identifier-class o).0 (within t.identifiers (first-of (all (has t.identifiers) f) _ s.names) m))), λ q. absurd (n q.0))

-- "A function name is any not in `FUNCTION_RESERVED`": any such name token. (`match` is in it, and never a name token, so it needs no word here.)
pub function-name-class : {k : ℕ} {w : List ℕ} → OneToken k w → Memᴰ (class_of k w) t.function_names ↔ ((k ≡ t.Ident) × ¬ Memᴰ w FUNCTION_RESERVED)
function-name-class = free-class functions

-- "A type's own name may not be in `ALIAS_RESERVED`": any name token that is not.
pub alias-name-class : {k : ℕ} {w : List ℕ} → OneToken k w → Memᴰ (class_of k w) t.alias_names ↔ ((k ≡ t.Ident) × ¬ Memᴰ w ALIAS_RESERVED)
alias-name-class = free-class aliases

-- Each token's class is one of those that are given.
pub class-given : {k : ℕ} {w : List ℕ} → OneToken k w → T (given (class_of k w))
class-given {k} {w} o = go (sort-of o)
  where
    go : Sort k w → T (given (class_of k w))
    go (named e l q) = subst (λ j. T (given (class_of j w))) (sym e) (name-given w l q)
    go (unnamed n h) = first-of (given (class_of k w)) _ h
