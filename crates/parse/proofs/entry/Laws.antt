-- The laws of the entry: what the parser says of a whole draft is what grammar's `Answer` says of it.
-- Assumes nothing.
use Rattle.std.proofs.Common.{◌≡◌, ℕ, zero, suc, ◌+◌, ◌*◌, ◌<◌, ◌≤◌, Bool, true, false, cond, ltb, List, [], ◌∷◌, ◌++◌, length, map, get_or, take, drop, sym, refl, ap, ◌∙◌, subst, ap₂, arith, ltb-false, ltb-true, le-ltb, lt-ltb}
use mathlib.Core.Option.{Option, none, some}
use lib.Seq.{sets, sets-eq}
use Rattle.std.specs.Simd.{first_chunks}
use Rattle.std.proofs.lemmas.List.{get_or-take}
use Rattle.own.proofs.WordLaws.{record-words-length}
use Rattle.lexer.specs.Lexemes.{Token}
use Rattle.lexer.specs.Buffer.{tokens_in}
use Rattle.lexer.proofs.Fits.{not-both}
use Rattle.lexer.specs.Limits.{no_token}
use Rattle.theory.specs.Grammar.{nt}
use Rattle.theory.specs.Ebnf as shape
use Rattle.theory.specs.Parse.{Found, found, stuck}
use Rattle.own.specs.Tree.{Tok, Items, Node, Each, Rec, roots, records, concat, classes_of}
use Rattle.own.specs.Law.{Keeps}
use Rattle.own.proofs.Rules.{each_map}
use Rattle.own.specs.Flat.{blank_tok}
use Rattle.text.specs.Widths.{tok_wide, rec_wide}
use Rattle.text.specs.Front.{front, Held}
use Rattle.text.specs.Answers as paper
use Rattle.std.specs.Prelude as std
use Rattle.std.specs.Prelude.{Some, None, Result, Ok}
use Rattle.text.specs.declared.refusal.Refusal.TheVariants as refusal
use Rattle.text.specs.Refusals.{refusal_number}
use Rattle.text.specs.declared.refusal.Refusal.{Refusal}
use Rattle.text.specs.declared.refusal.Refused.{Refused}
use Rattle.own.specs.Words.{word_groups, rec_words}
use Rattle.own.proofs.WordLaws.{words_are}
use Rattle.kinds.specs.Spelled.{Spelled}
use Rattle.grammar.specs.Entry.{Entry, single_function, whole_file, start_nt, records_of}
use Rattle.grammar.specs.Shapes.WellShaped.{shape_of}
use Rattle.grammar.proofs.Shapes.WellShapedLaws.{reads-shape, reads-too-few, sticks-shape}
use Rattle.grammar.proofs.Spelled.TreeTokens.{length-classes, whole-trees, is_shape}
use Rattle.grammar.proofs.Spelled.RecordLaws.{all-spelled}
use Rattle.grammar.specs.Records.Records.{record_items}
use Rattle.grammar.specs.Records.Faults.{Fault, faults, earliest, fault_of}
use Rattle.grammar.specs.Answers.Answer.{toks_of, start_of, trees_of, Reading, unread, read, faulty, shaped, fitted, records_in}
use Rattle.parse.specs.Contract as contract
use Rattle.parse.specs.Contract.{Text, count_of, row_token, source_tokens, text, countable, classes, tok_at, Read, Stuck, raw, fault_in, sooner, kept, fault, Holds, Info, as_items, Went}
use Rattle.parse.specs.Infos.{file_read, file_stuck}
use Rattle.parse.specs.Entry.{too_long, WholeRead, one_read, all_read, reading_of, meant, refuses, unless_kept, answer_for, answer_by, Starts, ended, judged}
use Rattle.parse.specs.declared.State.{State}
use Rattle.parse.specs.declared.Step.{Step}
use Rattle.parse.specs.declared.token.Source.{Source}
use Rattle.parse.specs.declared.fault.Fault as code
use Rattle.parse.proofs.Rule.Lists.{length-words}
use Rattle.parse.proofs.token.Tokens.{length-source, length-text}
use Rattle.parse.proofs.entry.Holds.{spelled_holds}
use Rattle.parse.proofs.entry.Closed.{Closed, closed-function, closed-file}

start-toks : (draft : List ℕ) (ts : List Token) (i : ℕ) → (get_or ts i no_token).start ≡ (get_or (toks_of draft ts) i blank_tok).start
unfolding toks_of
start-toks draft [] i = refl
start-toks draft (t ∷ ts) zero = refl
start-toks draft (t ∷ ts) (suc i) = start-toks draft ts i

module _ (src : Source) where
  abbrev x : Text
  x = text src

  abbrev draft : List ℕ
  draft = src.draft.now

  abbrev n : ℕ
  n = count_of src

  abbrev ts : List Token
  ts = source_tokens src

  text-is : x.ts ≡ toks_of draft ts
  unfolding text
  text-is = refl

  pub length-is : length ts ≡ n
  length-is = length-source src

  -- Where a token starts, or the length at the end.
  pub starts_in : (at : ℕ) → at < n → (tok_at x at).start ≡ start_of draft ts at
  unfolding start_of
  starts_in at i =
      ap (λ (l : List Tok). (get_or l at blank_tok).start) text-is ∙ sym (start-toks draft ts at)
      ∙ sym (ap (λ (b : Bool). cond b (get_or ts at no_token).start (length draft)) (lt-ltb at (length ts) (omega (arith, length-is))))

  pub starts_out : (at : ℕ) → n ≤ at → length draft ≡ start_of draft ts at
  unfolding start_of
  starts_out at i = sym (ap (λ (b : Bool). cond b (get_or ts at no_token).start (length draft)) (le-ltb at (length ts) (omega (arith, length-is))))

  -- What is read of the draft, at any entry.
  module _ (en : Entry) where
    abbrev R : Reading
    R = reading_of en draft ts

    reading-is : (f : Found) → shape_of en (classes x) ≡ f → R ≡ shaped en draft ts f
    unfolding reading_of
    reading-is f e = ap (shaped en draft ts) (ap (λ (u : List Tok). shape_of en (classes_of u)) (sym text-is) ∙ e)

    module _ (o : List ℕ) where
      -- What a step says, of the buffer that it makes of o.
      abbrev Says : List ℕ → Result ℕ Refused → Type 0
      Says l a = (meant n a ≡ fitted (length o) R) × Held (meant n a) (rec_words (records_in R)) o l

      says-refused : {l : List ℕ} (r : Refusal) (p : ℕ) → R ≡ unread (refusal_number r) p → Says l (refuses r p)
      says-refused r p e = (sym (ap (λ u. fitted (length o) u) e), record { holds = λ i m q. absurd (not-both q) })

      sticks : {l : List ℕ} (p : ℕ) → shape_of en (classes x) ≡ stuck p → Says l (refuses refusal.Misshapen (start_of draft ts p))
      sticks p e = says-refused refusal.Misshapen (start_of draft ts p) (reading-is (stuck p) e)

  -- What is read at an entry from the first state on, into a buffer l; each token of what is laid is as it was.
  module _ (en : Entry) {st : State} (s : Starts x st) {l l' : List ℕ} {I : Info} {z : State} {a b : ℕ} (w : Went x (nt (start_nt en) ∷ []) as_items I st l z l' a b)
      (same : w.L ≡ raw x st.at w.items) where
    abbrev r : shape.Items
    r = w.items

    its-read : Read x (nt (start_nt en) ∷ []) 0 r z.at
    its-read = subst (λ i. Read x (nt (start_nt en) ∷ []) i r z.at) s.at_is w.reads

    its-length : length (classes x) ≡ n
    its-length = length-classes x.ts ∙ length-text src

    -- Read to the end: the shape tree, its refusal and its records.
    module _ (e : z.at ≡ n) where
      its_shape : shape_of en (classes x) ≡ found r
      its_shape = reads-shape en (classes x) r (subst (λ j. Read x (nt (start_nt en) ∷ []) 0 r j) (e ∙ sym its-length) its-read)

      shape-of : shape_of en (classes_of (toks_of draft ts)) ≡ found r
      shape-of = ap (λ (u : List Tok). shape_of en (classes_of u)) (sym text-is) ∙ its_shape

      fault_is : fault_of draft (toks_of draft ts) r ≡ kept z
      unfolding fault_of fault_in text
      fault_is =
          ap (λ (u : List Tok). earliest (faults draft r u)) (sym text-is)
          ∙ sym (w.lays.worst ∙ ap₂ (λ (f : Option Fault) (i : ℕ). sooner f (fault_in x i r)) s.kept_is s.at_is)

      abbrev ns : List Node
      ns = trees_of draft ts r

      laid_is : w.L ≡ roots ns
      unfolding raw text
      laid_is =
          same ∙ ap (λ (i : ℕ). raw x i r) s.at_is ∙ ap (λ (u : List Tok). record_items draft r u) text-is
          ∙ sym (whole-trees en draft (toks_of draft ts) (is_shape en draft (toks_of draft ts) r shape-of))

      its-words : concat (word_groups w.L) ≡ rec_words (records ns)
      its-words = ap (λ (u : Items). concat (word_groups u)) laid_is ∙ sym (words_are ns)

      its-count : length (records ns) ≡ z.out
      its-count = omega (arith, length-words w.L, ap length its-words, record-words-length (records ns), w.lays.sized, s.out_is)

      its-fit : Each Holds w.L → rec_wide * z.out ≤ length l → l' ≡ front (rec_words (records ns)) l
      its-fit hold g =
          let ws : List ℕ = concat (word_groups w.L) in
          let v = length-words w.L in
          let t₀ : 0 + length ws ≡ length ws = omega arith in
          w.lays.laid hold g ∙ ap (λ (o : ℕ). sets l (rec_wide * o) ws) s.out_is ∙ sets-eq ws l 0 (omega (arith, w.lays.sized, s.out_is))
          ∙ ap (λ (i : ℕ). ws ++ drop i l) t₀ ∙ ap (λ (u : List ℕ). front u l) its-words

      its-kept : (f : std.Option code.Fault) → z.fault ≡ f → kept z ≡ fault f
      its-kept f g = ap fault g

      abbrev rs : List Rec
      rs = records_of en (length draft) ns

      reading-faulty : (o : Option Fault) → kept z ≡ o → R en ≡ faulty o ts rs
      reading-faulty o f = reading-is en (found r) its_shape ∙ ap (λ (p : Option Fault). faulty p ts rs) (fault_is ∙ f)

      -- No number is too large where nothing is refused.
      numbers_fit : z.fault ≡ None → Each Holds w.L
      unfolding fault
      numbers_fit f =
          let clear : fault_of draft (toks_of draft ts) r ≡ none = fault_is ∙ its-kept None f in
          subst (Each Holds) (sym laid_is) (each_map (Keeps Spelled) Holds spelled_holds (roots ns) (all-spelled en draft (toks_of draft ts) r shape-of clear))

    -- The last state z' and the whole buffer l'', made of o, that are made of these.
    module _ {z' : State} {o l'' : List ℕ} (c : Closed en (length draft) z l l' z' o l'') where
      abbrev k : ℕ
      k = length o

      abbrev end_of : Result ℕ Refused
      end_of = cond (ltb k (rec_wide * z'.out)) (refuses refusal.NoRoom 0) (Ok z'.out)

      module _ (e : z.at ≡ n) (f : z.fault ≡ None) where
        read_all : R en ≡ read ts (rs e)
        unfolding fault
        read_all = reading-faulty e none (its-kept e None f)

        fitted-is : (b : Bool) → ltb k (rec_wide * z'.out) ≡ b → fitted k (R en) ≡ cond b (paper.refused (refusal_number refusal.NoRoom) 0) (paper.accepted (length ts) z'.out)
        fitted-is b g =
            ap (fitted k) read_all ∙ ap (λ (m : ℕ). cond (ltb k (rec_wide * m)) (paper.refused (refusal_number refusal.NoRoom) 0) (paper.accepted (length ts) m)) (c.counts (ns e) (its-count e))
            ∙ ap (λ (b : Bool). cond b (paper.refused (refusal_number refusal.NoRoom) 0) (paper.accepted (length ts) z'.out)) g

        says-read : (b : Bool) → ltb k (rec_wide * z'.out) ≡ b → Says en o l'' (cond b (refuses refusal.NoRoom 0) (Ok z'.out))
        says-read true g = (sym (fitted-is true g), record { holds = λ i m q. absurd (not-both q) })
        says-read false g = (
          ap (λ i. paper.accepted i z'.out) (sym length-is) ∙ sym (fitted-is false g),
          record {
            holds = λ i m q.
                c.words_are (ns e) (its-count e) (ltb-false k (rec_wide * z'.out) g) (its-fit e (numbers_fit e f))
                ∙ sym (ap (λ (q : Reading). front (rec_words (records_in q)) o) read_all);
          },
        )

      its-end : ltb z.at n ≡ false → z.at ≡ n
      its-end e = omega (arith, ltb-false z.at n e, w.lays.stands.within, length-text src)

      by_state : (b : Bool) → ltb z.at n ≡ b → (d : std.Option code.Fault) → z.fault ≡ d → Says en o l'' (cond b (refuses refusal.Misshapen (start_of draft ts z.at)) (unless_kept d end_of))
      unfolding fault
      by_state true e d f = sticks en o z.at (reads-too-few en (classes x) r z.at its-read (omega (arith, ltb-true z.at n e, its-length)))
      by_state false e None f = says-read (its-end e) f (ltb k (rec_wide * z'.out)) refl
      by_state false e (Some d) f = says-refused en o d.refusal d.place (reading-faulty (its-end e) (some (record { number = refusal_number d.refusal; place = d.place })) (its-kept (its-end e) (Some d) f))

      says-ended : Says en o l'' (ended src k z')
      unfolding ended
      says-ended =
          subst (λ (i : ℕ). Says en o l'' (cond (ltb i n) (refuses refusal.Misshapen (start_of draft ts i)) (unless_kept z'.fault end_of))) (sym c.at_is)
          (subst (λ (f : std.Option code.Fault). Says en o l'' (cond (ltb z.at n) (refuses refusal.Misshapen (start_of draft ts z.at)) (unless_kept f end_of))) (sym c.fault_is)
          (by_state (ltb z.at n) refl z.fault refl))

  -- What a whole draft says is the reader's answer, and the buffer holds what the reader says.
  module _ {st : State} (s : Starts x st) (l : List ℕ) (few : n ≤ countable) where
    stuck_at : (en : Entry) {l' : List ℕ} {p : ℕ} → Stuck x (nt (start_nt en) ∷ []) st.at p → Says en l l' (refuses refusal.Misshapen (start_of draft ts p))
    stuck_at en {p = p} g = sticks en l p (sticks-shape en (classes x) p (subst (λ i. Stuck x (nt (start_nt en) ∷ []) i p) s.at_is g))

    says : {en : Entry} {l' : List ℕ} {p : Step} → WholeRead x (length draft) st l l' p en → Says en l l' (judged src (length l) p)
    says {l' = l'} (one_read (contract.read {st' = z} w)) = says-ended single_function s w (w.info.laid_is ∙ sym w.info.raw_is) (closed-function (length draft) z l l')
    says (one_read (contract.stuck h g)) = stuck_at single_function (g [])
    says {l' = l'} (all_read (file_read {l₁ = l₁} (contract.read {st' = z} w) p)) =
        says-ended whole_file s w w.info.same
        (closed-file (length draft) l l₁ l' z (omega (arith, w.lays.few, s.out_is, s.at_is, w.lays.stands.within, length-text src)) w.lays.long p)
    says (all_read (file_stuck (contract.stuck h g))) = stuck_at whole_file (g [])

    module _ (en : Entry) {l' : List ℕ} {p : Step} (v : WholeRead x (length draft) st l l' p en) {k : ℕ} {a : Result ℕ Refused} (room : k ≡ length l)
        (e : a ≡ judged src k p) where
      judged_is : a ≡ judged src (length l) p
      judged_is = e ∙ ap (λ (i : ℕ). judged src i p) room

      pub read-answer : too_long en (length draft) ≡ false → meant n a ≡ answer_for en draft ts (length l)
      read-answer short =
          ap (meant n) judged_is ∙ (says v).0
          ∙ sym (ap (λ (c : Bool). cond c (paper.refused (refusal_number refusal.TooLong) 0) (fitted (length l) (R en))) short)

      pub read-held : Held (meant n a) (rec_words (records_in (R en))) l l'
      read-held = subst (λ (a : Result ℕ Refused). Held (meant n a) (rec_words (records_in (R en))) l l') (sym judged_is) (says v).1

-- The rows of so many tokens say the same ones.
pub rows-tokens : (n : ℕ) (w : List ℕ) → map row_token (first_chunks tok_wide n w) ≡ tokens_in n w
unfolding tokens_in
rows-tokens zero w = refl
rows-tokens (suc n) w =
    ap₂ (λ (t : Token) (l : List Token). t ∷ l)
    (λ i. record { kind = word 0 (omega arith) i; start = word 1 (omega arith) i; end = word 2 (omega arith) i }) (rows-tokens n (drop tok_wide w))
  where
    word : (k : ℕ) → k < tok_wide → get_or (take tok_wide w) k 0 ≡ get_or w k 0
    word k l = get_or-take tok_wide w k 0 l

-- What is read of a source is what is read of the draft and the tokens that it was made of.
module _ (en : Entry) (src : Source) {draft : List ℕ} {ts : List Token} {n : ℕ} (d : src.draft.now ≡ draft) (t : source_tokens src ≡ ts) (c : count_of src ≡ n)
    (a : Result ℕ Refused) where
  pub front-answer : {many : Bool} (room : ℕ) → many ≡ false → meant (count_of src) a ≡ answer_for en src.draft.now (source_tokens src) room
      → meant n a ≡ answer_by many en draft ts room
  front-answer room fewer e =
      ap (λ (i : ℕ). meant i a) (sym c) ∙ e ∙ ap₂ (λ (d : List ℕ) (ts : List Token). answer_for en d ts room) d t
      ∙ ap (λ (b : Bool). answer_by b en draft ts room) (sym fewer)

  pub front-held : {l l' : List ℕ} → Held (meant (count_of src) a) (rec_words (records_in (reading_of en src.draft.now (source_tokens src)))) l l'
      → Held (meant n a) (rec_words (records_in (reading_of en draft ts))) l l'
  front-held {l} {l'} h =
      subst (λ (r : Reading). Held (meant n a) (rec_words (records_in r)) l l') (ap₂ (reading_of en) d t)
      (subst (λ (i : ℕ). Held (meant i a) (rec_words (records_in (reading_of en src.draft.now (source_tokens src)))) l l') c h)

-- Too many tokens, or a file that is too long.
pub too-many-answer : {many : Bool} (en : Entry) (draft : List ℕ) (ts : List Token) (k : ℕ) → many ≡ true
    → paper.refused (refusal_number refusal.TooMany) 0 ≡ answer_by many en draft ts k
too-many-answer en draft ts k e = sym (ap (λ (b : Bool). answer_by b en draft ts k) e)

pub too-long-answer : (en : Entry) (draft : List ℕ) (ts : List Token) (k : ℕ) → too_long en (length draft) ≡ true
    → paper.refused (refusal_number refusal.TooLong) 0 ≡ answer_for en draft ts k
too-long-answer en draft ts k e = sym (ap (λ (b : Bool). cond b (paper.refused (refusal_number refusal.TooLong) 0) (fitted k (reading_of en draft ts))) e)
