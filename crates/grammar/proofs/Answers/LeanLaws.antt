-- The laws of the answer with one word a token (Lean.antt): it is the other entry's with a buffer that holds as many whole tokens, so every law of that
-- entry speaks of this one too; it is the other entry's whenever both buffers suffice; and it keeps its promise.
-- Assumes nothing.
use Rattle.std.specs.Prelude.{Bool, cond, List, ◌++◌, ◌↔◌, ◌≡◌, ℕ, ◌-◌, ◌/◌, ◌^◌, ◌≤◌, ◌<◌, min, length, get_or, take, replicate}
use Rattle.std.proofs.Math.Bool.{true, false}
use Rattle.std.proofs.Math.Option.{Option, none, some}
use Rattle.std.proofs.Math.Path.{refl, sym, ap, ap₂, subst}
use Rattle.std.proofs.Common.{◌∙◌, ltb-true, ltb-false, lt-ltb, le-ltb}
use native.Mathlib.Omega.{arith}
use Rattle.std.proofs.Math.Dec.{ltb, T}
use Rattle.std.proofs.lemmas.List.{length-map, take_at}
use Rattle.lexer.specs.Lexemes.{Token, Lexemes, tokens, refused_at, lexemes}
use Rattle.lexer.specs.Limits.{Limits, first_too_deep, room, no_token, deep, judged_in, lexed_in, lexed_of, tokens_of}
use Rattle.lexer.specs.Starts.{start_words, start_room, starts_lexed, tokens_at}
use Rattle.lexer.proofs.RowLaws as rows
use Rattle.lexer.proofs.Tokens.{lexeme-refused}
use Rattle.lexer.proofs.FoundAgain.{found-again}
use Rattle.own.specs.Tree.{Rec}
use Rattle.own.specs.Words.{recs}
use Rattle.up.specs.Ways.{up_words}
use Rattle.text.specs.Widths.{tok_wide}
use Rattle.text.specs.Answers.{Answer, accepted, refused}
use Rattle.text.specs.Refusals as refusals
use Rattle.text.specs.Refusals.{refusal_number}
use Rattle.text.specs.declared.refusal.Refusal.TheVariants as refusal
use Rattle.text.specs.Lists.{has}
use Rattle.lines.specs.Lines.{lines}
use Rattle.lines.specs.Written.{used, padded}
use Rattle.grammar.specs.Entry.{Entry, Owned}
use Rattle.grammar.proofs.Records.FaultNumbers.{fault-numbers}
use Rattle.grammar.specs.Answers.Answer.{toks_of, Reading, reading, reading_in, lexed, fitted, answer, content, tokens_read, records_in, token_buffer, records_read, tree_buffer}
use Rattle.grammar.specs.Answers.Lines.{listed, listing}
use Rattle.grammar.specs.Answers.Outcome.{Refusal, too_long, bad_bytes, too_many, too_deep, misshapen, faulted, no_room, Accepted}
use Rattle.grammar.specs.Answers.Lean.{lean_reading, lean_answer, start_buffer, lean_records, lean_tree, lean_listing, Suffices, TooSmall, AsOther, ListedAsOther, whole_words, TooManyStarts, PromisedLean}
use Rattle.grammar.specs.Answers.Promised.{Promised}
use Rattle.grammar.proofs.Answers.OutcomeLaws.{read-faultless}
use Rattle.grammar.proofs.Answers.Laws.{law-1, law-1-words, law-4-refused, refusals-in-order, handed-over, promised, promised-is}

-- ---- a buffer of starts has the room of one that holds as many whole tokens

pub same-room : (l : Limits) (sw : ℕ) → room l (whole_words sw) ≡ start_room l sw
unfolding room start_room
same-room l sw = let e : whole_words sw / tok_wide ≡ sw = omega arith in ap (min l.tokens) e

module _ (l : Limits) (draft : List ℕ) (sw : ℕ) where
  pub lean-lexed : starts_lexed l draft sw ≡ lexed_of l draft (whole_words sw)
  unfolding starts_lexed lexed_of
  lean-lexed = ap (lexed_in l draft) (sym (same-room l sw))

module _ (en : Entry) (l : Limits) (draft : List ℕ) (sw : ℕ) where
  pub lean-reading : lean_reading en l draft sw ≡ reading en l draft (whole_words sw)
  unfolding lean_reading reading
  lean-reading = ap (reading_in en l draft) (sym (same-room l sw))

  pub lean-records-are : lean_records en l draft sw ≡ records_read en l draft (whole_words sw)
  unfolding lean_records records_read
  lean-records-are = ap records_in lean-reading

module _ (en : Entry) (l : Limits) (draft : List ℕ) (sw rw : ℕ) where
  pub lean-is : lean_answer en l draft sw rw ≡ answer en l draft (whole_words sw) rw
  unfolding lean_answer answer
  lean-is = ap (fitted rw) (lean-reading en l draft sw)

  pub lean-tree-is : lean_tree en l draft sw rw ≡ tree_buffer en l draft (whole_words sw) rw
  unfolding lean_tree tree_buffer
  lean-tree-is = ap₂ (λ (x : Answer) (rs : List Rec). content x (up_words rs) rw) lean-is (lean-records-are en l draft sw)

  pub lean-listing-is : lean_listing en l draft sw rw ≡ listing en l draft (whole_words sw) rw
  unfolding lean_listing listing
  lean-listing-is = ap₂ (λ (x : Answer) (rs : List Rec). lines (listed x rs)) lean-is (lean-records-are en l draft sw)

-- ---- the answer is the same with every room that suffices

-- what rows 6 and 7 say of tokens with room for r
abbrev counted : List Token → ℕ → Bool → Answer
counted ts r b = cond b (refused (refusal_number refusal.TooMany) (get_or ts r no_token).start) (deep (first_too_deep 0 0 ts) (length ts))

module _ (l : Limits) (draft : List ℕ) (r : ℕ) where
  -- the lexer's answer with room for so many, by whether the draft is over the limit of bytes, and by its lexemes
  abbrev judged_by : ℕ → Bool → Lexemes → Answer
  judged_by m b x = cond b (refused (refusal_number refusal.TooLong) l.bytes) (judged_in m x)

  enough_judged : (x : Lexemes) → min l.tokens (length (tokens_of x)) ≤ r → judged_in (min l.tokens r) x ≡ judged_in l.tokens x
  enough_judged (refused_at c p) h = refl
  enough_judged (tokens ts) h = go (ltb l.tokens (length ts)) refl
    where
      go : (b : Bool) → ltb l.tokens (length ts) ≡ b → judged_in (min l.tokens r) (tokens ts) ≡ judged_in l.tokens (tokens ts)
      go true e =
          let k = ltb-true _ _ e in
          let m : min l.tokens r ≡ l.tokens = omega arith in
          ap (λ (n : ℕ). judged_in n (tokens ts)) m
      go false e =
          let k = ltb-false _ _ e in
          let m : length ts ≤ min l.tokens r = omega arith in
          ap (counted ts (min l.tokens r)) (le-ltb _ _ m) ∙ sym (ap (counted ts l.tokens) e)

  -- that with room for as many as there may be
  enough : Suffices l draft r → lexed_in l draft (min l.tokens r) ≡ lexed_in l draft l.tokens
  enough h = go (ltb l.bytes (length draft)) refl
    where
      go : (b : Bool) → ltb l.bytes (length draft) ≡ b → judged_by (min l.tokens r) b (lexemes draft) ≡ judged_by l.tokens b (lexemes draft)
      go true e = refl
      go false e = enough_judged (lexemes draft) (h (ltb-false _ _ e))

-- So what is read is the same,
same-reading : (en : Entry) (l : Limits) (draft : List ℕ) (sw tw : ℕ) → Suffices l draft (tw / tok_wide) → Suffices l draft sw → lean_reading en l draft sw ≡ reading en l draft tw
unfolding lean_reading reading room start_room
same-reading en l draft sw tw h g =
    ap (λ (x : Answer). lexed en x draft (tokens_of (lexemes draft))) (enough l draft sw g ∙ sym (enough l draft (tw / tok_wide) h))

-- and: "Its tree, numbers and refusals equal the old entry's on every draft, over tree buffers of one length, whenever both scratch buffers suffice."
pub as-other : (en : Entry) (l : Limits) (draft : List ℕ) (sw rw : ℕ) → AsOther en l draft sw rw (lean_answer en l draft sw rw) (lean_tree en l draft sw rw)
unfolding lean_answer lean_tree lean_records answer tree_buffer records_read
as-other en l draft sw rw tw h g =
    let e = same-reading en l draft sw tw h g in
    (ap (fitted rw) e, ap (λ (x : Reading). content (fitted rw x) (up_words (records_in x)) rw) e)

same-listing : (en : Entry) (l : Limits) (draft : List ℕ) (sw rw tw : ℕ) → Suffices l draft (tw / tok_wide) → Suffices l draft sw → lean_listing en l draft sw rw ≡ listing en l draft tw rw
unfolding lean_listing lean_answer lean_records listing answer records_read
same-listing en l draft sw rw tw h g = ap (λ (x : Reading). lines (listed (fitted rw x) (records_in x))) (same-reading en l draft sw tw h g)

pub listed-as-other : (en : Entry) (l : Limits) (draft : List ℕ) (sw rw size : ℕ) {n : ℕ} {bytes : List ℕ} → n ≡ used (lean_listing en l draft sw rw) size
    → bytes ≡ padded (lean_listing en l draft sw rw) size → ListedAsOther en l draft sw rw size n bytes
listed-as-other en l draft sw rw size u b tw h g =
    let e = same-listing en l draft sw rw tw h g in
    (u ∙ ap (λ (t : List ℕ). used t size) e, b ∙ ap (λ (t : List ℕ). padded t size) e)

-- ---- a room suffices exactly where it is not too small

abbrev number : Answer → ℕ
number (accepted n m) = 0
number (refused c p) = c

not_many : (o : Option ℕ) (n : ℕ) → number (deep o n) ≡ refusal_number refusal.TooMany → ⊥
not_many none n e = absurd (omega arith)
not_many (some p) n e = absurd (omega arith)

module _ (l : Limits) (draft : List ℕ) (r : ℕ) where
  too-small : (Suffices l draft r → ⊥) → TooSmall l draft r
  too-small n = go (ltb l.bytes (length draft)) refl (lexemes draft) refl
    where
      -- the lexemes have more than r tokens
      more : (x : Lexemes) → lexemes draft ≡ x → r < min l.tokens (length (tokens_of x))
      more x e = subst (λ y. r < min l.tokens (length (tokens_of y))) e (go (ltb r (min l.tokens (length (tokens_of (lexemes draft))))) refl)
        where
          go : (b : Bool) → ltb r (min l.tokens (length (tokens_of (lexemes draft)))) ≡ b → r < min l.tokens (length (tokens_of (lexemes draft)))
          go true q = ltb-true _ _ q
          go false q = absurd (n (λ h. ltb-false _ _ q))

      go : (b : Bool) → ltb l.bytes (length draft) ≡ b → (x : Lexemes) → lexemes draft ≡ x → TooSmall l draft r
      go true e x f = let k = ltb-true _ _ e in absurd (n (λ h. absurd (omega arith)))
      go false e (refused_at c p) f = let k = more (refused_at c p) f in absurd (omega arith)
      go false e (tokens ts) f =
          let k = more (tokens ts) f in
          let m : min l.tokens r < length ts = omega arith in
          (omega arith, (get_or ts (min l.tokens r) no_token).start, ap₂ (judged_by l draft r (min l.tokens r)) e f ∙ ap (counted ts (min l.tokens r)) (lt-ltb _ _ m))

  not-too-small : TooSmall l draft r → Suffices l draft r → ⊥
  unfolding has
  not-too-small (k, p, q) h = go (ltb l.bytes (length draft)) refl (lexemes draft) refl
    where
      go : (b : Bool) → ltb l.bytes (length draft) ≡ b → (x : Lexemes) → lexemes draft ≡ x → ⊥
      go b e x f = by b x (ap number (sym (ap₂ (judged_by l draft r (min l.tokens r)) e f) ∙ q)) e f
        where
          by : (b : Bool) (x : Lexemes) → number (judged_by l draft r (min l.tokens r) b x) ≡ refusal_number refusal.TooMany
              → ltb l.bytes (length draft) ≡ b → lexemes draft ≡ x → ⊥
          by true x z e f = absurd (omega arith)
          by false (refused_at c i) z e f = subst (λ n. T (has refusals.of_bytes n)) z (lexeme-refused draft c i f).0
          by false (tokens ts) z e f =
              let u = subst (λ y. min l.tokens (length (tokens_of y)) ≤ r) f (h (ltb-false _ _ e)) in
              let m : length ts ≤ min l.tokens r = omega arith in
              not_many (first_too_deep 0 0 ts) (length ts) (ap number (sym (ap (counted ts (min l.tokens r)) (le-ltb _ _ m))) ∙ z)

  -- So `Suffices` is neither too narrow nor too wide: where it fails the draft is refused for want of words.
  pub suffices-exactly : (Suffices l draft r → ⊥) ↔ TooSmall l draft r
  suffices-exactly = (too-small, not-too-small)

-- ---- what is promised

module _ (en : Entry) (l : Limits) (draft : List ℕ) (sw rw : ℕ) where
  -- the words for the starts of an accepted draft,
  starts-written : (n m : ℕ) (a : Accepted en l draft (whole_words sw) rw n m)
      → start_buffer en l draft sw rw ≡ start_words a.its_tokens ++ replicate (sw - length a.its_tokens) 0
  unfolding start_buffer
  starts-written n m a =
      let ts = a.its_tokens in
      let e : lean_answer en l draft sw rw ≡ accepted n m = lean-is en l draft sw rw ∙ (law-1 en l draft (whole_words sw) rw n m).1 a in
      let f = lean-reading en l draft sw ∙ read-faultless en l draft (whole_words sw) rw ts a.shape a.shaped a.no_fault in
      ap₂ (λ x y. content x (start_words (tokens_read y)) sw) e f
      ∙ ap (λ (k : ℕ). start_words ts ++ replicate (sw - k) 0) (length-map ts (λ t. t.start))

  -- and of a refused one
  starts-zeros : (c p : ℕ) → lean_answer en l draft sw rw ≡ refused c p → start_buffer en l draft sw rw ≡ replicate sw 0
  unfolding start_buffer
  starts-zeros c p e = ap (λ x. content x (start_words (tokens_read (lean_reading en l draft sw))) sw) e

  -- The tokens are found again at the starts.
  starts-tokens : l.bytes < 2 ^ 32 → (n m : ℕ) (a : Accepted en l draft (whole_words sw) rw n m) → tokens_at draft (take n (start_buffer en l draft sw rw)) ≡ a.its_tokens
  starts-tokens b n m a =
      let ts = a.its_tokens in
      let w = a.shaped.within in
      let s = w.short in
      let k : length (start_words ts) ≡ n = length-map ts (λ t. t.start) ∙ sym a.tokens_number in
      ap (λ us. tokens_at draft (take n us)) (starts-written n m a)
      ∙ ap (tokens_at draft) (take_at (start_words ts) (replicate (sw - length ts) 0) n k)
      ∙ found-again draft ts (omega arith) w.lexes

  -- a row with the number of row 6 is row 6
  row-too-many : {c p : ℕ} → Refusal en l draft (whole_words sw) rw c p → c ≡ refusal_number refusal.TooMany → TooManyStarts l draft sw p
  unfolding has
  row-too-many (too_long h) q = absurd (omega arith)
  row-too-many (bad_bytes {c = c} {p = p} h e) q = absurd (subst (λ n. T (has refusals.of_bytes n)) q (lexeme-refused draft c p ((rows.refused-exactly draft c p).1 e)).0)
  row-too-many (too_many {ts = ts} h e k) q =
      let z = same-room l sw in
      record { short = h; its_tokens = ts; lexes = e; many = subst (λ r. r < length ts) z k; place = ap (λ r. (get_or ts r no_token).start) z }
  row-too-many (too_deep h e k f) q = absurd (omega arith)
  row-too-many (misshapen w) q = absurd (omega arith)
  row-too-many (faulted {ts = ts} {r = r} {f = f} s e) q = absurd (subst (λ n. T (has refusals.of_shapes n)) q (fault-numbers draft (toks_of draft ts) r f e))
  row-too-many (no_room s e h) q = absurd (omega arith)

  too-many-row : (p : ℕ) → TooManyStarts l draft sw p → Refusal en l draft (whole_words sw) rw (refusal_number refusal.TooMany) p
  too-many-row p w =
      let ts = w.its_tokens in
      let z = sym (same-room l sw) in
      subst (Refusal en l draft (whole_words sw) rw (refusal_number refusal.TooMany)) (sym (w.place ∙ ap (λ r. (get_or ts r no_token).start) z))
      (too_many w.short w.lexes (subst (λ r. r < length ts) z w.many))

-- All laws at once, of any answer and words that are the definition's: those of the tree are the other entry's, with a buffer for as many whole tokens.
pub promised-lean : {en : Entry} {l : Limits} {draft : List ℕ} {sw rw : ℕ} {a : Answer} {ss rs : List ℕ} → l.bytes < 2 ^ 32
    → a ≡ lean_answer en l draft sw rw → ss ≡ start_buffer en l draft sw rw → rs ≡ lean_tree en l draft sw rw
    → PromisedLean en l draft sw rw a ss rs
promised-lean {en} {l} {draft} {sw} {rw} {a} {ss} {rs} b e f g =
    let tw = whole_words sw in
    let q : Promised en l draft tw rw a (token_buffer en l draft tw rw) rs = promised (e ∙ lean-is en l draft sw rw) refl (g ∙ lean-tree-is en l draft sw rw) in
    let row = q.refuses (refusal_number refusal.TooMany) in
    record {
      accepts = q.accepts;
      written = λ n m d. record { starts_are = f ∙ starts-written en l draft sw rw n m d; record_words_are = (q.written n m d).record_words_are };
      refuses = q.refuses;
      too_many = λ p. ((λ h. row-too-many en l draft sw rw ((row p).0 h) refl), λ w. (row p).1 (too-many-row en l draft sw rw p w));
      misshapen = q.misshapen;
      zeros = λ c p h. (f ∙ starts-zeros en l draft sw rw c p (sym e ∙ h), (q.zeros c p h).1);
      owned = λ n m h.
          let d = (q.accepts n m).0 h in
          let t : tokens_at draft (take n ss) ≡ d.its_tokens = ap (λ us. tokens_at draft (take n us)) f ∙ starts-tokens en l draft sw rw b n m d in
          subst (λ u. Owned en (length draft) u (recs m rs)) ((handed-over en l draft tw rw n m d).0 ∙ sym (ap (toks_of draft) t)) (q.owned n m h);
      as_other = λ tw h k. let o = as-other en l draft sw rw tw h k in (e ∙ o.0, g ∙ o.1);
    }

-- What keeps the promise is the definition's answer, with its words:
pub promised-lean-is : {en : Entry} {l : Limits} {draft : List ℕ} {sw rw : ℕ} {a : Answer} {ss rs : List ℕ} → PromisedLean en l draft sw rw a ss rs
    → (a ≡ lean_answer en l draft sw rw) × (ss ≡ start_buffer en l draft sw rw) × (rs ≡ lean_tree en l draft sw rw)
promised-lean-is {en} {l} {draft} {sw} {rw} {a} {ss} {rs} p = go (lean_answer en l draft sw rw) refl
  where
    tw : ℕ
    tw = whole_words sw

    go : (x : Answer) → lean_answer en l draft sw rw ≡ x → (a ≡ lean_answer en l draft sw rw) × (ss ≡ start_buffer en l draft sw rw) × (rs ≡ lean_tree en l draft sw rw)
    go (accepted n m) e =
        let d = (law-1 en l draft tw rw n m).0 (sym (lean-is en l draft sw rw) ∙ e) in
        let v = p.written n m d in
        let w = (law-1-words en l draft tw rw n m d).record_words_are in
        ((p.accepts n m).1 d ∙ sym e, v.starts_are ∙ sym (starts-written en l draft sw rw n m d), v.record_words_are ∙ sym (lean-tree-is en l draft sw rw ∙ w))
    go (refused c q) e =
        let f = sym (lean-is en l draft sw rw) ∙ e in
        let h = (p.refuses c q).1 ((refusals-in-order en l draft tw rw c q).0 f) in
        let z = p.zeros c q h in
        let y = (law-4-refused en l draft tw rw c q f).1 in
        (h ∙ sym e, z.0 ∙ sym (starts-zeros en l draft sw rw c q e), z.1 ∙ sym (lean-tree-is en l draft sw rw ∙ y))

-- so two answers, with their words, that keep it are the same.
pub one-lean-promise : {en : Entry} {l : Limits} {draft : List ℕ} {sw rw : ℕ} {a b : Answer} {ss us rs vs : List ℕ}
    → PromisedLean en l draft sw rw a ss rs → PromisedLean en l draft sw rw b us vs → (a ≡ b) × (ss ≡ us) × (rs ≡ vs)
one-lean-promise p q = let x = promised-lean-is p in let y = promised-lean-is q in (x.0 ∙ sym y.0, x.1 ∙ sym y.1, x.2 ∙ sym y.2)

-- The answer and the tree of the one entry and of the other, whoever keeps their promises: equal, whenever both buffers suffice.
pub same-as-other : {en : Entry} {l : Limits} {draft : List ℕ} {sw tw rw : ℕ} {a b : Answer} {ss ts rs us : List ℕ}
    → Suffices l draft (tw / tok_wide) → Suffices l draft sw → PromisedLean en l draft sw rw a ss rs → Promised en l draft tw rw b ts us → (a ≡ b) × (rs ≡ us)
same-as-other {tw = tw} h g p q = let x = p.as_other tw h g in let y = promised-is q in (x.0 ∙ sym y.0, x.1 ∙ sym y.2)
