-- Every draft that is accepted, listed and loaded, gives back its records word for word (order 1); one that is refused gives back none.
-- Assumes nothing.
use Rattle.std.specs.Prelude.{Bool, false, List, [], ◌∷◌, ◌++◌, ◌≡◌, refl, ℕ, suc, ◌-◌, ◌*◌, ◌≤◌, ◌<◌, T, ltb, replicate}
use Rattle.std.proofs.Math.Path.{sym, ap}
use Rattle.std.proofs.Common.{subst, ◌∙◌, ltb→lt}
use native.Mathlib.Omega.{arith}
use Rattle.std.proofs.Math.ListN.{length}
use Rattle.lexer.specs.Limits.{Limits, small_limits, limits_for}
use Rattle.lexer.specs.declared.Limits as code
use Rattle.lexer.specs.declared.Limits.TheVariants.{Small, Large}
use Rattle.lexer.proofs.RowLaws as rows
use Rattle.lexer.proofs.Tokens.{lexeme-refused}
use Rattle.theory.specs.Parse.{found}
use Rattle.text.specs.Answers.{Answer, accepted, refused, values}
use Rattle.text.specs.Lists.{has, all}
use Rattle.text.proofs.ListLaws.{all-has}
use Rattle.text.specs.Refusals as refusal
use Rattle.text.specs.Widths.{tok_wide, rec_wide}
use Rattle.own.specs.Tree.{Tok, Node, Rec, end, tokens, records, classes_of}
use Rattle.own.specs.Lists.{nil, ◌&◌}
use Rattle.up.specs.Ways.{rows, up_words}
use Rattle.up.proofs.Laws.{up-words-long}
use Rattle.lines.specs.Hex.{power}
use Rattle.lines.specs.Lines.{half_digits, with_way, is_long, widths_for, widths_by}
use Rattle.kinds.specs.Ownership as kinds
use Rattle.grammar.specs.Entry.{Entry, single_function, whole_file, records_of}
use Rattle.grammar.specs.Answers.Answer as answers
use Rattle.grammar.specs.Answers.Answer.{toks_of, trees_of, answer, content, records_read, tree_buffer}
use Rattle.grammar.specs.Answers.Outcome.{Accepted, Refusal, too_long, bad_bytes, too_many, too_deep, misshapen, faulted, no_room}
use Rattle.grammar.proofs.Answers.OutcomeLaws.{read-faultless, refused-exactly}
use Rattle.grammar.proofs.Answers.TokensInOrder.{tokens-inside, toks-length}
use Rattle.grammar.proofs.Answers.Laws.{law-1, law-4-refused, tree-tokens, tree-right}
use Rattle.grammar.specs.Answers.Lines.{refusal_rec, listed, listing}
use Rattle.grammar.proofs.Records.FaultNumbers.{fault-numbers}
use Rattle.grammar.specs.Shapes.WellShaped.{shape_of}
use Rattle.grammar.proofs.Shapes.WellShapedLaws.{shape-exactly}
use Rattle.grammar.proofs.Spelled.RecordLaws.{tops-spelled, file-spelled}
use Rattle.grammar.proofs.Spelled.TreeTokens.{top-function}
use Rattle.load.specs.Listing.InForm.{Fitting}
use Rattle.load.specs.Function.{Whole}
use Rattle.load.proofs.Handed.{one_function, whole-file}
use Rattle.load.proofs.FormLaws.{fits-short, widths-fit}
use Rattle.load.proofs.Fitting.{fitting, file-fitting}
use Rattle.load.specs.Load.{load_of, words_of}
use Rattle.load.proofs.Laws.{none-written, write-then-load}
use Rattle.load.specs.Led.{Led}
use Rattle.load.proofs.Led.{loaded-led}
use Rattle.reader.specs.Digits.{digits_for}
use Rattle.reader.specs.Listed.{records_most, listing_of}
use Rattle.reader.proofs.BothLimits.{place-limited}

hold-bytes : (c : code.Limits) → (limits_for c).bytes < power (digits_for c)
hold-bytes Small = omega arith
hold-bytes Large = omega arith

few-digits : (c : code.Limits) → digits_for c ≤ half_digits
few-digits Small = omega arith
few-digits Large = omega arith

hold-tokens : (c : code.Limits) → suc (limits_for c).tokens < power (digits_for c)
hold-tokens Small = omega arith
hold-tokens Large = omega arith

-- Numbers that fit those digits fit the lines that are written of them.
fit-written : (c : code.Limits) (vs : List (List ℕ)) → Fitting (with_way (digits_for c)) vs → Fitting (widths_for vs) vs
fit-written Small vs h = subst (λ (ws : List ℕ). Fitting ws vs) (sym (ap (λ (b : Bool). widths_by b) (fits-short vs h))) h
fit-written Large vs h = widths-fit vs h

-- An accepted draft, read as one function or as a file, within either set of limits.
module _ (en : Entry) (c : code.Limits) (draft : List ℕ) (tw rw n m : ℕ) (a : Accepted en (limits_for c) draft tw rw n m) where
  abbrev l : Limits
  l = limits_for c

  abbrev its : List Tok
  its = toks_of draft a.its_tokens

  abbrev trees : List Node
  trees = trees_of draft a.its_tokens a.shape

  are-read : records_of en (length draft) trees ≡ records_read en l draft tw
  unfolding records_read
  are-read = sym (ap answers.records_in (read-faultless en l draft tw rw a.its_tokens a.shape a.shaped a.no_fault))

  are-right : kinds.Right trees
  are-right = tree-right en l draft tw rw a.its_tokens a.shape a.shaped a.no_fault

  are-tokens : tokens trees ≡ its
  are-tokens = tree-tokens en l draft tw rw a.its_tokens a.shape a.shaped a.no_fault

  its_shape : shape_of en (classes_of its) ≡ found a.shape
  its_shape = (shape-exactly en (classes_of its) a.shape).1 (a.shaped.is_shape, a.shaped.its_yield)

  inside : end 0 (tokens trees) ≤ length draft
  inside = omega (arith, ap (end 0) are-tokens, tokens-inside draft a.its_tokens a.shaped.within.lexes)

  held : length draft < power (digits_for c)
  held = omega (arith, a.shaped.within.short, hold-bytes c)

  few : suc (length (tokens trees)) < power (digits_for c)
  few = omega (arith, ap length are-tokens, toks-length draft a.its_tokens, a.shaped.within.few, hold-tokens c)

-- The records of an accepted draft, with their ways up, fit those digits,
pub records-fit : (en : Entry) (c : code.Limits) (draft : List ℕ) (tw rw n m : ℕ) → Accepted en (limits_for c) draft tw rw n m
    → Fitting (with_way (digits_for c)) (rows (records_read en (limits_for c) draft tw))
records-fit en c draft tw rw n m a = subst (λ (rs : List Rec). Fitting (with_way (digits_for c)) (rows rs)) (are-read en c draft tw rw n m a) (go en a)
  where
    go : (en : Entry) (a : Accepted en (limits_for c) draft tw rw n m) → Fitting (with_way (digits_for c)) (rows (records_of en (length draft) (trees en c draft tw rw n m a)))
    go single_function a =
        let h = inside single_function c draft tw rw n m a in
        let k = few single_function c draft tw rw n m a in
        let d = held single_function c draft tw rw n m a in
        fitting (digits_for c) (few-digits c) (trees single_function c draft tw rw n m a) (are-right single_function c draft tw rw n m a) (omega (arith, h, d)) (omega (arith, k))
    go whole_file a =
        file-fitting (digits_for c) (few-digits c) (trees whole_file c draft tw rw n m a) (length draft) (are-right whole_file c draft tw rw n m a) (inside whole_file c draft tw rw n m a)
        (held whole_file c draft tw rw n m a) (few whole_file c draft tw rw n m a)

-- and form a whole function or program.
pub records-form : (en : Entry) (c : code.Limits) (draft : List ℕ) (tw rw n m : ℕ) → Accepted en (limits_for c) draft tw rw n m → Whole (records_read en (limits_for c) draft tw)
records-form en c draft tw rw n m a = subst Whole (are-read en c draft tw rw n m a) (go en a)
  where
    go : (en : Entry) (a : Accepted en (limits_for c) draft tw rw n m) → Whole (records_of en (length draft) (trees en c draft tw rw n m a))
    go single_function a =
        let (top, e, k) = top-function draft (its single_function c draft tw rw n m a) a.shape (its_shape single_function c draft tw rw n m a) in
        subst Whole (ap records (sym e)) (one_function top k (subst kinds.Right e (are-right single_function c draft tw rw n m a)))
    go whole_file a =
        whole-file (trees whole_file c draft tw rw n m a) (length draft) (are-right whole_file c draft tw rw n m a) (inside whole_file c draft tw rw n m a)
        (file-spelled (tops-spelled whole_file draft (its whole_file c draft tw rw n m a) a.shape (its_shape whole_file c draft tw rw n m a) a.no_fault))

module _ (en : Entry) (c : code.Limits) (draft : List ℕ) (tw size : ℕ) where
  abbrev k : Limits
  k = limits_for c

  -- The listing of the draft, by a reader with buffers of so many words.
  abbrev pub listing_by : List ℕ
  listing_by = listing en k draft tw size

  few_codes : (ns : List ℕ) → T (all (λ n. ltb n (power half_digits)) ns) → (x : ℕ) → T (has ns x) → x < power half_digits
  few_codes ns t x h = ltb→lt x (power half_digits) (all-has (λ n. ltb n (power half_digits)) ns x t h)

  -- The number of a refusal fits the digits of its line,
  number_fits : {x p : ℕ} → Refusal en k draft tw size x p → x < power half_digits
  unfolding all
  number_fits (too_long h) = omega arith
  number_fits (bad_bytes {c = x} {p = p} h e) = few_codes refusal.of_bytes tt x (lexeme-refused draft x p ((rows.refused-exactly draft x p).1 e)).0
  number_fits (too_many h e j) = omega arith
  number_fits (too_deep h e j q) = omega arith
  number_fits (misshapen w) = omega arith
  number_fits (faulted {ts = ts} {r = r} {f = f} s e) = few_codes refusal.of_shapes tt f.number (fault-numbers draft (toks_of draft ts) r f e)
  number_fits (no_room s e h) = omega arith

  -- and so does its place: all numbers of the line do.
  pub refusal-fits : (x p : ℕ) → answer en k draft tw size ≡ refused x p → Fitting (with_way (digits_for c)) (rows (refusal_rec (values (refused x p)) ∷ []))
  unfolding refusal_rec
  refusal-fits x p e = go c (number_fits ((refused-exactly en k draft tw size x p).0 e)) (omega (arith, place-limited en k draft tw size x p e, hold-bytes c))
    where
      go : (d : code.Limits) → x < power half_digits → p < power (digits_for d) → Fitting (with_way (digits_for d)) (rows (refusal_rec (values (refused x p)) ∷ []))
      go Small a b = (omega arith, (b, (b, (a, (omega arith, (omega arith, (omega arith, tt))))))) & nil
      go Large a b = (omega arith, (b, (b, (a, (omega arith, (omega arith, (omega arith, tt))))))) & nil

  -- So do the numbers of every listing.
  pub listing-fits : Fitting (with_way (digits_for c)) (rows (listed (answer en k draft tw size) (records_read en k draft tw)))
  listing-fits = go (answer en k draft tw size) refl
    where
      go : (x : Answer) → answer en k draft tw size ≡ x → Fitting (with_way (digits_for c)) (rows (listed x (records_read en k draft tw)))
      go (accepted n m) e = records-fit en c draft tw size n m ((law-1 en k draft tw size n m).0 e)
      go (refused x p) e = refusal-fits x p e

  -- "Writing and then loading restores the same records": those of every draft that is accepted, word for word.
  pub listing-loads : (n m : ℕ) → answer en k draft tw size ≡ accepted n m → (room : ℕ) → rec_wide * m ≤ room
      → (load_of listing_by room ≡ accepted 0 m) × (words_of listing_by room ≡ up_words (records_read en k draft tw) ++ replicate (room - rec_wide * m) 0)
  unfolding listing
  listing-loads n m e room h =
      let a = (law-1 en k draft tw size n m).0 e in
      let rs = records_read en k draft tw in
      let j : m ≡ length rs = a.records_number ∙ ap length (are-read en c draft tw size n m a) in
      rw (e, j) (write-then-load rs (records-form en c draft tw size n m a) (fit-written c (rows rs) (records-fit en c draft tw size n m a)) room (omega arith))

  -- A refusal's line is the top of nothing: a draft that is refused gives back nothing.
  pub refusal-loads : (x p : ℕ) → answer en k draft tw size ≡ refused x p → (room : ℕ)
      → (load_of listing_by room ≡ refused refusal.NotWhole 0) × (words_of listing_by room ≡ replicate room 0)
  unfolding listing refusal_rec
  refusal-loads x p e room =
      let rs = refusal_rec (values (refused x p)) ∷ [] in
      rw (e) (none-written rs (fit-written c (rows rs) (refusal-fits x p e)) (λ o. o.top) room)

  -- So a buffer of the same length comes back, word for word, whatever the draft.
  pub same-buffer : words_of listing_by size ≡ tree_buffer en k draft tw size
  unfolding tree_buffer
  same-buffer = go (answer en k draft tw size) refl
    where
      go : (x : Answer) → answer en k draft tw size ≡ x → words_of listing_by size ≡ tree_buffer en k draft tw size
      go (refused x p) e = (refusal-loads x p e size).1 ∙ sym (law-4-refused en k draft tw size x p e).1
      go (accepted n m) e =
          let a = (law-1 en k draft tw size n m).0 e in
          let rs = records_read en k draft tw in
          let long : rec_wide * m ≡ length (up_words rs) = omega (arith, a.records_number, ap length (are-read en c draft tw size n m a), up-words-long rs) in
          (listing-loads n m e size (omega (arith, a.fits, a.records_number))).1
          ∙ ap (λ (j : ℕ). up_words rs ++ replicate (size - j) 0) long
          ∙ sym (ap (λ (x : Answer). content x (up_words rs) size) e)

  -- And the way up of each of its records leads to the parent.
  pub tree-led : (n m : ℕ) → answer en k draft tw size ≡ accepted n m → (j : ℕ) → j < m → Led (tree_buffer en k draft tw size) m j
  tree-led n m e j h =
      let a = (law-1 en k draft tw size n m).0 e in
      let q = a.records_number in
      let f = a.fits in
      subst (λ (w : List ℕ). Led w m j) same-buffer (loaded-led listing_by size m (listing-loads n m e size (omega (arith, f, q))).0 j h)

-- No listing within the small limits needs lines of 49 bytes.
pub never-long : (en : Entry) (draft : List ℕ) (tw size : ℕ) → is_long (rows (listed (answer en small_limits draft tw size) (records_read en small_limits draft tw))) ≡ false
never-long en draft tw size = fits-short _ (listing-fits en Small draft tw size)

-- All this is said of the listing that `list_draft` hands over, too.
pub of-limits : (draft : List ℕ) → listing_by whole_file Small draft (tok_wide * small_limits.tokens) (rec_wide * records_most) ≡ listing_of draft
of-limits draft = refl
