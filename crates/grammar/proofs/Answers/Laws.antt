-- The laws of the reader's answer, each with its sentence of the papers. `answer` and the two buffers are those of Answer.antt.
-- Assumes nothing.
use Rattle.std.specs.Prelude.{List, [], ◌∷◌, ◌++◌, ◌↔◌, ◌≡◌, ℕ, ◌+◌, ◌-◌, ◌*◌, ◌≤◌, length, drop}
use Rattle.std.proofs.Math.Option.{none}
use Rattle.std.proofs.Math.Path.{refl, sym, ap, ap₂, subst}
use Rattle.std.proofs.Common.{◌∙◌, length-append, drop_at}
use native.Mathlib.Omega.{arith}
use Rattle.std.proofs.Math.Dec.{T}
use Rattle.std.proofs.Math.ListN.{replicate}
use Rattle.std.proofs.lemmas.List.{length-replicate}
use Rattle.theory.specs.Ebnf.{Items}
use Rattle.theory.specs.Parse.{found}
use Rattle.lexer.specs.Lexemes.{Token}
use Rattle.lexer.specs.Limits.{Limits, token_words, tokens_of, buffer_of}
use Rattle.lexer.proofs.Fits.{token-words-length}
use Rattle.lexer.specs.Limits as lexer
use Rattle.lexer.proofs.RowLaws as rows
use Rattle.lexer.proofs.Tokens.{lexeme-refused}
use Rattle.own.specs.Tree.{Tok, Node, Rec, concat, roots, end, tokens, classes_of}
use Rattle.own.specs.Law.{sorts}
use Rattle.text.specs.Widths.{tok_wide, rec_wide}
use Rattle.text.specs.Answers.{Answer, accepted, refused}
use Rattle.text.specs.Refusals as refusals
use Rattle.text.specs.Refusals.{refusal_number}
use Rattle.text.specs.declared.refusal.Refusal.TheVariants as refusal
use Rattle.text.specs.Lists.{has}
use Rattle.own.specs.Words.{toks, recs}
use Rattle.up.specs.Ways.{ways_up, sevens, up_words}
use Rattle.up.proofs.Laws.{sevens-long, recs-sevens}
use Rattle.up.proofs.Parents.{parents, file-parents}
use Rattle.kinds.specs.Shape.{Spells}
use Rattle.kinds.specs.Ownership.{Right}
use Rattle.kinds.proofs.Ownership as kinds
use Rattle.kinds.specs.Class.{class_of}
use Rattle.grammar.specs.Entry.{Entry, single_function, whole_file, start_ex, records_of, ups_of, Owned, over}
use Rattle.grammar.specs.Shapes.WellShaped.{shape_of}
use Rattle.grammar.proofs.Shapes.WellShapedLaws.{shape-exactly, one-shape}
use Rattle.grammar.proofs.Spelled.TreeTokens.{keeps-tokens}
use Rattle.grammar.specs.Records.Faults.{fault_of}
use Rattle.grammar.proofs.Records.FaultNumbers.{fault-numbers}
use Rattle.grammar.proofs.Spelled.RecordLaws.{is_right, tops-spelled, file-spelled}
use Rattle.grammar.proofs.Spelled.Rules.{row}
use Rattle.grammar.specs.Answers.Answer.{toks_of, trees_of, records_for, ups_for, read, reading, answer, content, tokens_read, records_in, token_buffer, records_read, tree_buffer}
use Rattle.grammar.specs.Answers.Outcome.{Shaped, Misshapen, Refusal, too_long, bad_bytes, too_many, too_deep, misshapen, faulted, no_room, Accepted, Written}
use Rattle.grammar.proofs.Answers.OutcomeLaws.{refused-exactly, accepted-exactly, lexed-within, read-faultless}
use Rattle.grammar.specs.Answers.Promised.{Promised}
use Rattle.grammar.proofs.Answers.TokensInOrder.{tokens-in-order, tokens-inside, toks-length, tokens-read-back}

-- Right trees that are what an entry reads, none of whose tokens ends past the draft, are owned as it promises; and then there are no more records
-- than it says.
owned_at : (en : Entry) (len : ℕ) (ns : List Node) → Right ns → end 0 (tokens ns) ≤ len → Spells (row (start_ex en ∷ [])) (sorts (roots ns)) → Owned en len (tokens ns) (records_of en len ns)
owned_at single_function len ns r h p = kinds.law-3 ns r
owned_at whole_file len ns r h p = kinds.law-3-file ns len r h (file-spelled p)

few-owned : (en : Entry) (len : ℕ) (ts : List Tok) (rs : List Rec) → Owned en len ts rs → length rs ≤ over en + length ts
few-owned single_function len ts rs o = omega (arith, o.few)
few-owned whole_file len ts rs o = omega (arith, o.few)

-- The ways up that are found through the sizes are those of the tree.
pub ups-found : (en : Entry) (len : ℕ) (ns : List Node) → ways_up (records_of en len ns) ≡ ups_of en ns
ups-found single_function len ns = parents ns
ups-found whole_file len ns = file-parents len ns

module _ (en : Entry) (l : Limits) (draft : List ℕ) (tw rw : ℕ) where
  -- Law 1. "An accepted draft, to which no row below applies": accepted exactly when the draft lexes, is within the limits, some shape
  -- tree has the classes of its tokens as yield, no refusal of the shapes applies to it, and the tree fits; with the numbers of its tokens
  -- and of that tree's records.
  pub law-1 : (n m : ℕ) → (answer en l draft tw rw ≡ accepted n m) ↔ Accepted en l draft tw rw n m
  law-1 = accepted-exactly en l draft tw rw

  -- The order of refusals. "Refusal 1 is tested first; of 2 to 5 the earliest place wins; then 6, 7 and 8 in turn, each over all
  -- tokens; of 9 to 14 the earliest place; last 15." 19 is "among 9 to 14", 21 "among 2 to 5".
  pub refusals-in-order : (c p : ℕ) → (answer en l draft tw rw ≡ refused c p) ↔ Refusal en l draft tw rw c p
  refusals-in-order = refused-exactly en l draft tw rw

  -- Law 1. "the tree" is one: two accounts of one draft have the same tokens and the same shape tree.
  pub law-1-one : {n m n' m' : ℕ} (a : Accepted en l draft tw rw n m) (b : Accepted en l draft tw rw n' m') → (a.its_tokens ≡ b.its_tokens) × (a.shape ≡ b.shape)
  law-1-one a b =
      let e = a.shaped.within.lexes in
      let f = b.shaped.within.lexes in
      let g : a.its_tokens ≡ b.its_tokens = cc in
      (g, one-shape en a.shape b.shape a.shaped.is_shape b.shaped.is_shape (a.shaped.its_yield ∙ ap (λ ts. classes_of (toks_of draft ts)) g ∙ sym b.shaped.its_yield))

  -- Law 1. "the numbers of tokens and records, tokens and tree written, zeros after them": the words are those of that tree.
  pub law-1-words : (n m : ℕ) (a : Accepted en l draft tw rw n m)
      → Written tw rw a.its_tokens (ups_for en draft a.its_tokens a.shape) (records_for en draft a.its_tokens a.shape) (token_buffer en l draft tw rw) (tree_buffer en l draft tw rw)
  unfolding token_buffer tree_buffer records_read
  law-1-words n m a =
      let ts = a.its_tokens in
      let us = ups_for en draft ts a.shape in
      let rs = records_for en draft ts a.shape in
      let e = (accepted-exactly en l draft tw rw n m).1 a in
      let f : reading en l draft tw ≡ read ts rs = read-faultless en l draft tw rw ts a.shape a.shaped a.no_fault in
      record {
        token_words_are =
            ap₂ (λ x y. content x (token_words (tokens_read y)) tw) e f
            ∙ ap (λ (k : ℕ). token_words ts ++ replicate (tw - k) 0) (token-words-length ts);
        record_words_are =
            ap₂ (λ x y. content x (up_words (records_in y)) rw) e f
            ∙ ap (λ (vs : List ℕ). concat (sevens vs rs) ++ replicate (rw - length (concat (sevens vs rs))) 0) (ups-found en (length draft) (trees_of draft ts a.shape))
            ∙ ap (λ (k : ℕ). concat (sevens us rs) ++ replicate (rw - k) 0) (sevens-long us rs);
      }

  -- The token buffer of an accepted draft is the one that the lexer fills.
  pub token-buffer-lexed : (n m : ℕ) → answer en l draft tw rw ≡ accepted n m → token_buffer en l draft tw rw ≡ buffer_of l draft tw
  unfolding buffer_of
  token-buffer-lexed n m e =
      let a = (accepted-exactly en l draft tw rw n m).0 e in
      let w = a.shaped.within in
      (law-1-words n m a).token_words_are
      ∙ sym (ap₂ (λ x y. lexer.content x (tokens_of y) tw) (lexed-within en l draft tw rw a.its_tokens w) w.lexes)

  -- a row with the number of row 8 is row 8
  row-misshapen : {c p : ℕ} → Refusal en l draft tw rw c p → c ≡ (refusal_number refusal.Misshapen) → Misshapen en l draft tw p
  unfolding has
  row-misshapen (too_long h) q = absurd (omega arith)
  row-misshapen (bad_bytes {c = c} {p = p} h e) q = absurd (subst (λ n. T (has refusals.of_bytes n)) q (lexeme-refused draft c p ((rows.refused-exactly draft c p).1 e)).0)
  row-misshapen (too_many h e k) q = absurd (omega arith)
  row-misshapen (too_deep h e k f) q = absurd (omega arith)
  row-misshapen (misshapen w) q = w
  row-misshapen (faulted {ts = ts} {r = r} {f = f} s e) q = absurd (subst (λ n. T (has refusals.of_shapes n)) q (fault-numbers draft (toks_of draft ts) r f e))
  row-misshapen (no_room s e h) q = absurd (omega arith)

  -- Law 2. Row 8, both halves: "the tokens before this one can be continued to a well-shaped draft, but not with this one", at "its
  -- start, or the length at the end". "In 8, limits and refusals 9 to 14 are left aside", 19 among them.
  pub law-2 : (p : ℕ) → (answer en l draft tw rw ≡ refused (refusal_number refusal.Misshapen) p) ↔ Misshapen en l draft tw p
  law-2 p = ((λ e. row-misshapen ((refused-exactly en l draft tw rw (refusal_number refusal.Misshapen) p).0 e) refl), λ w. (refused-exactly en l draft tw rw (refusal_number refusal.Misshapen) p).1 (misshapen w))

  -- Law 4. "A refusal: [..] every word of both buffers 0."
  pub law-4-refused : (c p : ℕ) → answer en l draft tw rw ≡ refused c p → (token_buffer en l draft tw rw ≡ replicate tw 0) × (tree_buffer en l draft tw rw ≡ replicate rw 0)
  unfolding token_buffer tree_buffer
  law-4-refused c p e =
      (ap (λ x. content x (token_words (tokens_read (reading en l draft tw))) tw) e, ap (λ x. content x (up_words (records_read en l draft tw)) rw) e)

  -- Law 4. "zeros after them": behind three words a token and seven words a record every word is 0.
  pub law-4-accepted : (n m : ℕ) → answer en l draft tw rw ≡ accepted n m
      → (drop (tok_wide * n) (token_buffer en l draft tw rw) ≡ replicate (tw - tok_wide * n) 0) × (drop (rec_wide * m) (tree_buffer en l draft tw rw) ≡ replicate (rw - rec_wide * m) 0)
  law-4-accepted n m e =
      let a = (accepted-exactly en l draft tw rw n m).0 e in
      let w = law-1-words n m a in
      let ts = a.its_tokens in
      let rs = records_for en draft ts a.shape in
      let x : length (token_words ts) ≡ tok_wide * n = omega (arith, token-words-length ts, a.tokens_number) in
      let us = ups_for en draft ts a.shape in
      let y : length (concat (sevens us rs)) ≡ rec_wide * m = omega (arith, sevens-long us rs, a.records_number) in
      let x' : tok_wide * length ts ≡ tok_wide * n = omega (arith, a.tokens_number) in
      let y' : rec_wide * length rs ≡ rec_wide * m = omega (arith, a.records_number) in (
        ap (drop (tok_wide * n)) w.token_words_are ∙ drop_at (token_words ts) (replicate (tw - tok_wide * length ts) 0) (tok_wide * n) x
            ∙ ap (λ (k : ℕ). replicate (tw - k) 0) x',
        ap (drop (rec_wide * m)) w.record_words_are ∙ drop_at (concat (sevens us rs)) (replicate (rw - rec_wide * length rs) 0) (rec_wide * m) y
            ∙ ap (λ (k : ℕ). replicate (rw - k) 0) y',
      )

  -- Law 4. The lengths of both buffers are kept.
  pub law-4-lengths : (length (token_buffer en l draft tw rw) ≡ tw) × (length (tree_buffer en l draft tw rw) ≡ rw)
  law-4-lengths = go (answer en l draft tw rw) refl
    where
      go : (x : Answer) → answer en l draft tw rw ≡ x → (length (token_buffer en l draft tw rw) ≡ tw) × (length (tree_buffer en l draft tw rw) ≡ rw)
      go (refused c p) e =
          let z = law-4-refused c p e in (ap length z.0 ∙ length-replicate tw 0, ap length z.1 ∙ length-replicate rw 0)
      go (accepted n m) e =
          let a = (accepted-exactly en l draft tw rw n m).0 e in
          let w = law-1-words n m a in
          let ts = a.its_tokens in
          let us = ups_for en draft ts a.shape in
          let rs = records_for en draft ts a.shape in
          let h = a.shaped.within.third in
          let k = a.fits in (
            ap length w.token_words_are
                ∙ omega (arith, length-append (token_words ts) (replicate (tw - tok_wide * length ts) 0), token-words-length ts, length-replicate {A = ℕ} (tw - tok_wide * length ts) 0),
            ap length w.record_words_are
                ∙ omega (arith, length-append (concat (sevens us rs)) (replicate (rw - rec_wide * length rs) 0), sevens-long us rs, length-replicate {A = ℕ} (rw - rec_wide * length rs) 0),
          )

  -- The buffers of an accepted draft, read back: its tokens with their classes, and the records of its tree.
  pub handed-over : (n m : ℕ) (a : Accepted en l draft tw rw n m)
      → (toks (class_of draft) n (token_buffer en l draft tw rw) ≡ toks_of draft a.its_tokens)
      × (recs m (tree_buffer en l draft tw rw) ≡ records_for en draft a.its_tokens a.shape)
  handed-over n m a =
      let ts = a.its_tokens in
      let rs = records_for en draft ts a.shape in
      let w = law-1-words n m a in (
        ap₂ (λ x y. toks (class_of draft) x y) a.tokens_number w.token_words_are ∙ tokens-read-back draft ts (replicate (tw - tok_wide * length ts) 0),
        ap₂ (λ x y. recs x y) a.records_number w.record_words_are ∙ recs-sevens (ups_for en draft ts a.shape) rs (replicate (rw - rec_wide * length rs) 0),
      )

  module _ (ts : List Token) (r : Items) (s : Shaped en l draft tw ts r) (clear : fault_of draft (toks_of draft ts) r ≡ none) where
    its_shape : shape_of en (classes_of (toks_of draft ts)) ≡ found r
    its_shape = (shape-exactly en (classes_of (toks_of draft ts)) r).1 (s.is_shape, s.its_yield)

    -- The trees' tokens are the draft's, none dropped and none read twice; they are in order; and each record spells the rule of its kind.
    pub tree-tokens : tokens (trees_of draft ts r) ≡ toks_of draft ts
    tree-tokens = keeps-tokens en draft (toks_of draft ts) r its_shape

    pub tree-right : Right (trees_of draft ts r)
    tree-right = is_right en draft (toks_of draft ts) r its_shape clear (tokens-in-order draft ts s.within.lexes)

    -- Law 3 of its tokens and records.
    pub tree-owned : Owned en (length draft) (toks_of draft ts) (records_for en draft ts r)
    tree-owned =
        subst (λ u. Owned en (length draft) u (records_for en draft ts r)) tree-tokens
        (owned_at en (length draft) (trees_of draft ts r) tree-right
        (subst (λ u. end 0 u ≤ length draft) (sym tree-tokens) (tokens-inside draft ts s.within.lexes))
        (tops-spelled en draft (toks_of draft ts) r its_shape clear))

    -- There are no more records than tokens, but for those that the entry may have over.
    pub few-records : length (records_for en draft ts r) ≤ over en + length ts
    few-records = let h = few-owned en (length draft) (toks_of draft ts) (records_for en draft ts r) tree-owned in omega (arith, h, toks-length draft ts)

  -- Law 3. Ownership (demand 3) of what is handed over, tokens and records, children found through the sizes; the classes of the tokens
  -- come from the draft: each token has exactly one owner, each record owns a token and spells the rule of its kind, low and high, the
  -- sums agree, and the arms of a match are in the canonical order (Law.antt of `own`, with the kinds table of `kinds` as the rule).
  pub law-3 : (n m : ℕ) → answer en l draft tw rw ≡ accepted n m
      → Owned en (length draft) (toks (class_of draft) n (token_buffer en l draft tw rw)) (recs m (tree_buffer en l draft tw rw))
  law-3 n m e =
      let a = (accepted-exactly en l draft tw rw n m).0 e in
      let h = handed-over n m a in
      subst (λ u. Owned en (length draft) (toks (class_of draft) n (token_buffer en l draft tw rw)) u) (sym h.1)
      (subst (λ u. Owned en (length draft) u (records_for en draft a.its_tokens a.shape)) (sym h.0) (tree-owned a.its_tokens a.shape a.shaped a.no_fault))

  -- So a tree buffer of seven words for each token that fits, and for each record over, is never too small.
  pub space-enough : rec_wide * (over en + l.tokens) ≤ rw → (p : ℕ) → answer en l draft tw rw ≡ refused (refusal_number refusal.NoRoom) p → ⊥
  unfolding has
  space-enough h p e = row-no-room ((refused-exactly en l draft tw rw (refusal_number refusal.NoRoom) p).0 e) refl
    where
      row-no-room : {c q : ℕ} → Refusal en l draft tw rw c q → c ≡ (refusal_number refusal.NoRoom) → ⊥
      row-no-room (too_long x) y = omega arith
      row-no-room (bad_bytes {c = c} {p = q} x e) y = subst (λ n. T (has refusals.of_bytes n)) y (lexeme-refused draft c q ((rows.refused-exactly draft c q).1 e)).0
      row-no-room (too_many x e k) y = omega arith
      row-no-room (too_deep x e k f) y = omega arith
      row-no-room (misshapen w) y = omega arith
      row-no-room (faulted {ts = ts} {r = r} {f = f} s e) y = subst (λ n. T (has refusals.of_shapes n)) y (fault-numbers draft (toks_of draft ts) r f e)
      row-no-room (no_room {ts = ts} {r = r} s e x) y = let z = few-records ts r s e in let w = s.within.few in omega arith

-- All laws at once, of any answer and words that are the definition's.
pub promised : {en : Entry} {l : Limits} {draft : List ℕ} {tw rw : ℕ} {a : Answer} {ts rs : List ℕ} → a ≡ answer en l draft tw rw → ts ≡ token_buffer en l draft tw rw → rs ≡ tree_buffer en l draft tw rw
    → Promised en l draft tw rw a ts rs
promised {en} {l} {draft} {tw} {rw} {a} {ts} {rs} e f g =
    record {
      accepts = λ n m. ((λ h. (law-1 en l draft tw rw n m).0 (sym e ∙ h)), λ h. e ∙ (law-1 en l draft tw rw n m).1 h);
      written = λ n m d. let w = law-1-words en l draft tw rw n m d in record { token_words_are = f ∙ w.token_words_are; record_words_are = g ∙ w.record_words_are };
      refuses = λ c p. ((λ h. (refusals-in-order en l draft tw rw c p).0 (sym e ∙ h)), λ h. e ∙ (refusals-in-order en l draft tw rw c p).1 h);
      misshapen = λ p. ((λ h. (law-2 en l draft tw rw p).0 (sym e ∙ h)), λ h. e ∙ (law-2 en l draft tw rw p).1 h);
      zeros = λ c p h. let z = law-4-refused en l draft tw rw c p (sym e ∙ h) in (f ∙ z.0, g ∙ z.1);
      owned = λ n m h. subst (λ u. Owned en (length draft) (toks (class_of draft) n u) (recs m rs)) (sym f) (subst (λ u. Owned en (length draft) (toks (class_of draft) n (token_buffer en l draft tw rw)) (recs m u)) (sym g) (law-3 en l draft tw rw n m (sym e ∙ h)));
    }

-- What keeps the promise is the definition's answer, with its words:
pub promised-is : {en : Entry} {l : Limits} {draft : List ℕ} {tw rw : ℕ} {a : Answer} {ts rs : List ℕ} → Promised en l draft tw rw a ts rs
    → (a ≡ answer en l draft tw rw) × (ts ≡ token_buffer en l draft tw rw) × (rs ≡ tree_buffer en l draft tw rw)
promised-is {en} {l} {draft} {tw} {rw} {a} {ts} {rs} p = go (answer en l draft tw rw) refl
  where
    go : (x : Answer) → answer en l draft tw rw ≡ x → (a ≡ answer en l draft tw rw) × (ts ≡ token_buffer en l draft tw rw) × (rs ≡ tree_buffer en l draft tw rw)
    go (accepted n m) e =
        let d = (law-1 en l draft tw rw n m).0 e in
        let v = p.written n m d in
        let w = law-1-words en l draft tw rw n m d in
        ((p.accepts n m).1 d ∙ sym e, v.token_words_are ∙ sym w.token_words_are, v.record_words_are ∙ sym w.record_words_are)
    go (refused c q) e =
        let f = (p.refuses c q).1 ((refusals-in-order en l draft tw rw c q).0 e) in
        let z = p.zeros c q f in
        let y = law-4-refused en l draft tw rw c q e in
        (f ∙ sym e, z.0 ∙ sym y.0, z.1 ∙ sym y.1)

-- so two answers, with their words, that keep it are the same.
pub one-promise : {en : Entry} {l : Limits} {draft : List ℕ} {tw rw : ℕ} {a b : Answer} {ts us rs vs : List ℕ}
    → Promised en l draft tw rw a ts rs → Promised en l draft tw rw b us vs → (a ≡ b) × (ts ≡ us) × (rs ≡ vs)
one-promise p q = let x = promised-is p in let y = promised-is q in (x.0 ∙ sym y.0, x.1 ∙ sym y.1, x.2 ∙ sym y.2)
