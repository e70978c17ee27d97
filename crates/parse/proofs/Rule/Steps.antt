-- One token more, as a mark or as a record; and a record over all that was read.
-- Assumes nothing.
use Rattle.std.proofs.Common.{◌≡◌, ℕ, zero, suc, ◌+◌, ◌*◌, ◌%◌, ◌<◌, ◌≤◌, Bool, true, false, List, [], ◌∷◌, ◌++◌, length, get_or, take, drop, sym, refl, ap, ◌∙◌, subst, ap₂, append-nil, arith, length-drop, take-append-drop, length-take-le}
use mathlib.Core.Option.{none, some, none-ne-some}
use lib.Seq.{sets}
use Rattle.num.specs.Value.{decimal_of}
use Rattle.theory.specs.Grammar.{Sym, tok, nt}
use Rattle.theory.specs.Machine.{expand}
use Rattle.theory.specs.Ebnf as shape
use Rattle.theory.specs.Ebnf.{sort_of}
use Rattle.theory.specs.Same.{ex}
use Rattle.theory.specs.Walk.{n-end, n-tok, n-flat, k_nt, k_in}
use Rattle.own.specs.Tree as own
use Rattle.own.specs.Tree.{Tok, Items, mark, sub, marks, begin, end, turned, arrange, concat, classes_of}
use Rattle.own.specs.Flat.{blank_tok}
use Rattle.own.specs.Law.{Sort, sorts}
use Rattle.text.specs.Widths.{rec_wide}
use Rattle.own.specs.Words.{rec_then, word_groups}
use Rattle.own.proofs.WordLaws.{place-start, place-stop}
use Rattle.grammar.specs.Shapes.Tables.{means, table}
use Rattle.grammar.specs.Records.Records.{Head, head, arranged, first_tok, first_of, text_of, decimal, head_of, form_of, head_for, recorded, record_items}
use Rattle.grammar.specs.Records.Faults.{faults_at, faults, earliest}
use Rattle.grammar.proofs.Spelled.TreeTokens.{length-classes, yield-records}
use Rattle.lexer.specs.Classes as t
use Rattle.parse.specs.Contract.{Text, classes, tok_at, Read, Stuck, raw, fault_in, sooner, kept, fault, Stands, Moved, Put, Laid, as_items, Went, reserved, Mark, Named, countable, u32_count}
use Rattle.parse.specs.declared.State.{State}
use Rattle.parse.proofs.Rule.Lists.{sooner-none, earliest-append}

-- Where the table has nothing for a nonterminal, it is stuck there.
pub stuck-here : (x : Text) {A : ℕ} {σ : List Sym} {at p : ℕ} → expand table A (get_or (classes x) at 0) ≡ none → Stuck x (nt A ∷ σ) at p → p ≡ at
stuck-here x e (k_nt f) = refl
stuck-here x e (k_in f h) = absurd (none-ne-some _ (sym e ∙ f))

first-drop : (ts : List Tok) (i : ℕ) → first_tok (drop i ts) ≡ get_or ts i blank_tok
unfolding first_tok
first-drop [] zero = refl
first-drop [] (suc i) = refl
first-drop (t ∷ ts) zero = refl
first-drop (t ∷ ts) (suc i) = first-drop ts i

-- the record of one token, before it is one
raw_word : (x : Text) (at c : ℕ) → raw x at (shape.word c shape.nil) ≡ mark (tok_at x at) own.none
unfolding raw record_items
raw_word x at c = ap (λ t. mark t own.none) (first-drop x.ts at)

no-faults : (x : Text) (at c : ℕ) → fault_in x at (shape.word c shape.nil) ≡ none
unfolding fault_in faults earliest
no-faults x at c = refl

arrange-nil : (b : Bool) → arrange {A = List ℕ} b [] ≡ []
arrange-nil true = refl
arrange-nil false = refl

-- the words of the record of one token
leaf-words : (kind low high : ℕ) (t : Tok) → concat (word_groups (sub kind low high (mark t own.none) own.none)) ≡ rec_then kind t.start t.stop low high 1 []
leaf-words kind low high t = ap (λ (g : List (List ℕ)). rec_then kind t.start t.stop low high 1 (concat g ++ [])) (arrange-nil (turned kind (mark t own.none)))

module _ {x : Text} {st st' : State} (h : Stands x st) (i : st.at < length x.ts) (v : Moved x st st') where
  -- The state after a token stands at the next one.
  pub moved : Stands x st'
  moved =
      let a = v.ahead i in
      record {
        within = omega arith;
        class_is = v.class_is;
        start_is = v.start_is;
        stop_is = v.stop_is;
        end_is = λ p e. let q : p ≡ st.at = omega arith in v.end_is ∙ h.stop_is ∙ ap (λ j. (tok_at x j).stop) (sym q);
      }

  word-laid : (c : ℕ) (l : List ℕ) → Laid x st l (shape.word c shape.nil) (mark (tok_at x st.at) own.none) 1 st' l
  unfolding shape.yield
  word-laid c l =
      let a = v.ahead i in
      let o = v.out_is in
      record {
        ends = omega arith;
        sized = omega arith;
        few = omega arith;
        long = refl;
        laid = λ n g. refl;
        worst = v.kept_is ∙ sym (sooner-none (kept st)) ∙ ap (sooner (kept st)) (sym (no-faults x st.at c));
        stands = moved;
      }

  -- A symbol that stands for one token, which is no record.
  pub word-went : {s : Sym} (c : ℕ) (l : List ℕ) → Read x (s ∷ []) st.at (shape.word c shape.nil) (st.at + 1) → Went x (s ∷ []) as_items (Mark (tok_at x st.at)) st l st' l 0 0
  word-went {s} c l k =
      record {
        items = shape.word c shape.nil;
        L = mark (tok_at x st.at) own.none;
        m = 1;
        reads = subst (λ j. Read x (s ∷ []) st.at (shape.word c shape.nil) j) (sym (v.ahead i)) k;
        lays = word-laid c l;
        info = record { raw_is = raw_word x st.at c; laid_is = refl; one = refl };
      }

  module _ {l l' : List ℕ} {kind low high : ℕ} {st'' : State} (put : Put l st'.out kind st.start st.stop low high 1 l') (more : st'' ≡ reserved st') (few : st.out ≤ countable) where
    child-laid : (c : ℕ) → Laid x st l (shape.word c shape.nil) (sub kind low high (mark (tok_at x st.at) own.none) own.none) 0 st'' l'
    unfolding shape.yield reserved
    child-laid c =
        let a = v.ahead i in
        let o = v.out_is in
        let o₂ : st''.out ≡ (st'.out + 1) % u32_count = ap (λ (y : State). y.out) more in
        let a₂ : st''.at ≡ st'.at = ap (λ (y : State). y.at) more in
        let k₂ : kept st'' ≡ kept st' = ap (λ (y : State). fault y.fault) more in
        let o₃ : st'.out + 1 < u32_count = omega arith in
        record {
          ends = omega arith;
          sized = omega arith;
          few = omega arith;
          long = put.long;
          laid = λ n g. put.put n.0 (omega arith)
              ∙ (λ j. sets l (rec_wide * o j) (rec_then kind (h.start_is j) (h.stop_is j) low high 1 []))
              ∙ ap (sets l (rec_wide * st.out)) (sym (leaf-words kind low high (tok_at x st.at)));
          worst = k₂ ∙ v.kept_is ∙ sym (sooner-none (kept st)) ∙ ap (sooner (kept st)) (sym (no-faults x st.at c));
          stands = subst (Stands x) (sym more) (stands_on moved);
        }
      where
        stands_on : Stands x st' → Stands x (reserved st')
        stands_on s = record { within = s.within; class_is = s.class_is; start_is = s.start_is; stop_is = s.stop_is; end_is = s.end_is }

    -- A symbol that stands for one token, which is a record of its own.
    pub child-went : {s : Sym} (c : ℕ) → Read x (s ∷ []) st.at (shape.word c shape.nil) (st.at + 1) → Went x (s ∷ []) as_items (Named (tok_at x st.at) kind low high) st l st'' l' 0 0
    unfolding reserved
    child-went {s} c k =
        let a₂ : st''.at ≡ st'.at = ap (λ (y : State). y.at) more in
        record {
          items = shape.word c shape.nil;
          L = sub kind low high (mark (tok_at x st.at) own.none) own.none;
          m = 0;
          reads = subst (λ j. Read x (s ∷ []) st.at (shape.word c shape.nil) j) (sym (a₂ ∙ v.ahead i)) k;
          lays = child-laid c;
          info = record { raw_is = raw_word x st.at c; laid_is = refl; none_left = refl };
        }

-- A token of a class is read,
pub reads-tok : (x : Text) {at : ℕ} (c : ℕ) → get_or (classes x) at 0 ≡ c → at < length x.ts → Read x (tok c ∷ []) at (shape.word c shape.nil) (at + 1)
reads-tok x {at} c e i = n-tok (subst (λ n. at < n) (sym (length-classes x.ts)) i) e n-end

-- and one of a class that a nonterminal has as an alternative.
pub reads-one : (x : Text) {at : ℕ} (A c : ℕ) → sort_of (ex means (nt A)) ≡ shape.flat → expand table A c ≡ some (tok c ∷ []) → get_or (classes x) at 0 ≡ c → at < length x.ts
    → Read x (nt A ∷ []) at (shape.word c shape.nil) (at + 1)
reads-one x A c f g e i = n-flat f (ap (expand table A) e ∙ g) (reads-tok x c e i)

-- A record begins and ends with its tokens.
module _ (x : Text) (at : ℕ) (r : shape.Items) (h : at + length (shape.yield r) ≤ length x.ts) (g : 0 < length (shape.yield r)) where
  abbrev its : List Tok
  its = take (length (shape.yield r)) (drop at x.ts)

  its_yield : own.yield (raw x at r) ≡ its
  unfolding raw
  its_yield = yield-records x.draft r (drop at x.ts) (omega (arith, length-drop at x.ts))

  its-length : length its ≡ length (shape.yield r)
  its-length = length-take-le (length (shape.yield r)) (drop at x.ts) (omega (arith, length-drop at x.ts))

  parted : x.ts ≡ take at x.ts ++ (its ++ drop (length (shape.yield r)) (drop at x.ts))
  parted = sym (ap (λ u. take at x.ts ++ u) (take-append-drop (length (shape.yield r)) (drop at x.ts)) ∙ take-append-drop at x.ts)

  before : length (take at x.ts) ≡ at
  before = length-take-le at x.ts (omega arith)

  pub begins : begin (own.yield (raw x at r)) ≡ (tok_at x at).start
  begins =
      ap begin its_yield ∙ place-start (take at x.ts) its (drop (length (shape.yield r)) (drop at x.ts)) blank_tok (omega (arith, its-length))
      ∙ ap₂ (λ (u : List Tok) (i : ℕ). (get_or u i blank_tok).start) (sym parted) before

  pub stops : (p : ℕ) → suc p ≡ at + length (shape.yield r) → end 0 (own.yield (raw x at r)) ≡ (tok_at x p).stop
  stops p e =
      ap (end 0) its_yield ∙ place-stop p (take at x.ts) its (drop (length (shape.yield r)) (drop at x.ts)) blank_tok (omega (arith, its-length, before)) (omega (arith, its-length))
      ∙ ap (λ (u : List Tok). (get_or u p blank_tok).stop) (sym parted)

-- The number among the tokens of a record.
abbrev pub number_in : Text → List Tok → ℕ
number_in x ms = decimal_of (text_of x.draft (first_of t.DecLiteral ms))

-- The head that the pieces and the tokens of a shape decide.
abbrev pub decided : Text → ℕ → List Sort → List Tok → Head
decided x k w ms = head_of (form_of k) (text_of x.draft (first_tok ms)) (number_in x ms) w

module _ (x : Text) (at k : ℕ) (pre : shape.Items) (K low high : ℕ) {w : List Sort} {ms : List Tok} (sorted : sorts (raw x at pre) ≡ w) (marked : marks (raw x at pre) ≡ ms)
    (hd : decided x k w ms ≡ head K low high) where
  its-head : head_for x.draft k (raw x at pre) ≡ head K low high
  unfolding head_for decimal
  its-head = ap₂ (λ (u : List Sort) (v : List Tok). decided x k u v) sorted marked ∙ hd

  its-number : decimal x.draft (raw x at pre) ≡ number_in x ms
  unfolding decimal
  its-number = ap (number_in x) marked

  -- The record of a node, of what it is made of.
  pub raw-node : (L : Items) → arranged K (number_in x ms) (raw x at pre) ≡ L → raw x at (shape.sub k pre shape.nil) ≡ sub K low high L own.none
  unfolding raw record_items recorded
  raw-node L e =
      ap₂ (λ (n : ℕ) (h : Head). recorded n h (raw x at pre) own.none) its-number its-head ∙ ap (λ (u : Items). sub K low high u own.none) e

  -- Its refusals: its own, and those of its parts.
  pub fault-node : fault_in x at (shape.sub k pre shape.nil) ≡ sooner (earliest (faults_at x.draft k (raw x at pre))) (fault_in x at pre)
  unfolding fault_in faults raw
  fault-node =
      earliest-append (faults_at x.draft k (raw x at pre)) (faults x.draft pre (drop at x.ts) ++ [])
      ∙ ap (λ u. sooner (earliest (faults_at x.draft k (raw x at pre))) (earliest u)) (append-nil (faults x.draft pre (drop at x.ts)))
