-- From what the lexer and the parser ensure of starts to what the entries with one word a token hand over.
-- Assumes nothing.
use mathlib.Core.Bool.{Bool, false, ◌||◌}
use mathlib.Core.List.{List, ◌++◌}
use mathlib.Core.Path.{◌≡◌, refl, sym, ap, ap₂, subst, ◌∙◌}
use Prim.Native.Nat.{ℕ, ◌-◌, ◌*◌, ◌≤◌, ◌<◌}
use native.Mathlib.Omega.{arith}
use borrow.Author.Tests.{le-ltb}
use lib.ListN.{length, replicate, take, drop, length-append}
use lib.Seq.{take_at}
use Rattle.std.specs.Prelude.{◌↔◌, Result}
use Rattle.std.specs.Result.{result_unwrap_or}
use Rattle.std.proofs.lemmas.List.{length-map}
use Rattle.text.specs.Front.{front, Held}
use Rattle.text.proofs.Front.{front-cleared}
use Rattle.text.specs.Widths.{rec_wide}
use Rattle.text.specs.Answers.{Answer, accepted, refused}
use Rattle.text.specs.declared.refusal.Refused.{Refused}
use Rattle.lexer.specs.Lexemes.{Token, Lexemes, tokens, refused_at, lexemes}
use Rattle.lexer.specs.Limits.{large_limits, lexed_of, tokens_of}
use Rattle.lexer.specs.Starts.{start_words, starts_lexed, tokens_at}
use Rattle.lexer.proofs.Fits.{lexed-fits, lexed-few, lexed-short}
use Rattle.lexer.proofs.FoundAgain.{found-again}
use Rattle.own.specs.Words.{rec_words}
use Rattle.up.specs.Ways.{up_words, upward}
use Rattle.grammar.specs.Entry.{Entry}
use Rattle.grammar.specs.Answers.Answer.{answer, records_in}
use Rattle.grammar.specs.Answers.Lean.{lean_answer, start_buffer, lean_records, lean_tree, whole_words, PromisedLean}
use Rattle.grammar.proofs.Answers.LeanLaws.{lean-lexed, lean-is, lean-records-are, lean-tree-is, lean-listing-is, promised-lean}
use Rattle.parse.specs.Contract.{u32_count}
use Rattle.parse.specs.Entry.{too_many_starts, reading_of, starts_answer}
use Rattle.reader.specs.declared.Counts.{Counts}
use Rattle.reader.specs.Read.{meant}
use Rattle.reader.proofs.Laws.{cleared-is, not-long, parsed-by, raised-by, lexer-refused, its-records-fit, its-tree}
use Rattle.grammar.specs.Entry.{whole_file}
use Rattle.grammar.specs.Answers.Lean.{lean_listing}
use Rattle.lines.specs.Written.{used}
use Rattle.reader.specs.Listed.{HandsOver, Early, written}
use Rattle.reader.proofs.BothLimits.{early}
use Rattle.reader.proofs.LineLaws.{same_is}
use Rattle.reader.proofs.EntryLaws.{buffer-written}
use Rattle.reader.proofs.Nothing.{nothing-only}
use Rattle.lexer.specs.declared.Limits.TheVariants.{Large}

-- What is promised holds of the large limits.
pub promised : {en : Entry} {draft : List ℕ} {sw rw : ℕ} {a : Answer} {ss rs : List ℕ} → a ≡ lean_answer en large_limits draft sw rw → ss ≡ start_buffer en large_limits draft sw rw
    → rs ≡ lean_tree en large_limits draft sw rw → PromisedLean en large_limits draft sw rw a ss rs
promised = promised-lean (omega arith)

-- What the lexer refuses is refused.
pub starts-refused : (en : Entry) (draft : List ℕ) (sw rw : ℕ) {c p : ℕ} → starts_lexed large_limits draft sw ≡ refused c p → lean_answer en large_limits draft sw rw ≡ refused c p
starts-refused en draft sw rw e = lean-is en large_limits draft sw rw ∙ lexer-refused en large_limits draft (whole_words sw) rw (sym (lean-lexed large_limits draft sw) ∙ e)

-- The parser over the starts that were lexed into a buffer.
module _ (en : Entry) (draft old words : List ℕ) (rw n : ℕ) (e : starts_lexed large_limits draft (length old) ≡ accepted n 0) (w : words ≡ front (start_words (tokens_of (lexemes draft))) old) where
  abbrev tw : ℕ
  tw = whole_words (length old)

  abbrev ts : List Token
  ts = tokens_of (lexemes draft)

  counted : lexed_of large_limits draft tw ≡ accepted n 0
  counted = sym (lean-lexed large_limits draft (length old)) ∙ e

  many : length ts ≡ n
  many = (lexed-fits large_limits draft tw n counted).0

  short : length draft < u32_count
  short = omega (arith, lexed-short large_limits draft tw n counted)

  starts-many : length (start_words ts) ≡ n
  starts-many = length-map ts (λ t. t.start) ∙ many

  -- The tokens are found again.
  found : tokens_at draft (take n words) ≡ ts
  found =
      ap (λ us. tokens_at draft (take n us)) w
      ∙ ap (tokens_at draft) (take_at (start_words ts) (drop (length (start_words ts)) old) n starts-many)
      ∙ again (lexemes draft) refl
    where
      again : (x : Lexemes) → lexemes draft ≡ x → tokens_at draft (start_words (tokens_of x)) ≡ tokens_of x
      again (refused_at c p) q = refl
      again (tokens us) q = found-again draft us short q

  few : too_many_starts large_limits.tokens n (length words) ≡ false
  unfolding too_many_starts
  few =
      let h = lexed-few large_limits draft tw n counted in
      let l : n ≤ length words = omega (arith, ap length w, length-append (start_words ts) (drop (length (start_words ts)) old), starts-many) in
      ap₂ (λ (u v : Bool). u || v) (le-ltb large_limits.tokens n h) (le-ltb (length words) n l)

  pub parsed-answer : starts_answer en large_limits.tokens draft words n rw ≡ lean_answer en large_limits draft (length old) rw
  unfolding starts_answer
  parsed-answer =
      parsed-by en large_limits draft tw rw counted (tokens_at draft (take n words)) found few (not-long en draft short) ∙ sym (lean-is en large_limits draft (length old) rw)

  pub parsed-raised : (l : List ℕ) {out : List ℕ} {k m : ℕ} → lean_answer en large_limits draft (length old) rw ≡ accepted k m
      → out ≡ front (rec_words (records_in (reading_of en draft (tokens_at draft (take n words))))) l → upward m out ≡ front (up_words (lean_records en large_limits draft (length old))) l
  parsed-raised l a h =
      raised-by en large_limits draft tw rw counted (tokens_at draft (take n words)) found l (sym (lean-is en large_limits draft (length old) rw) ∙ a) h
      ∙ ap (λ rs. front (up_words rs) l) (sym (lean-records-are en large_limits draft (length old)))

-- Whatever is answered, of a refusal no word: the starts fit, and cleared behind them the buffer is the one that is handed over.
module _ (en : Entry) (draft old : List ℕ) (rw : ℕ) (r : Result Counts Refused) (e : meant r ≡ lean_answer en large_limits draft (length old) rw) {k : Counts} (none : Counts) (k_is : k ≡ result_unwrap_or r none) (zero_is : none.tokens ≡ 0) where
  pub its-starts : {out : List ℕ} → length out ≡ length old → Held (meant r) (start_words (tokens_of (lexemes draft))) old out
      → take k.tokens out ++ replicate (length out - k.tokens) 0 ≡ start_buffer en large_limits draft (length old) rw
  its-starts {out} long h =
      cleared-is (λ c. c.tokens) out old r none k_is zero_is long (λ c q. written c (sym e ∙ ap meant q) (h.holds _ _ (ap meant q))) (λ x q. zeros (sym e ∙ ap meant q))
    where
      zeros : {c p : ℕ} → lean_answer en large_limits draft (length old) rw ≡ refused c p → replicate (length old) 0 ≡ start_buffer en large_limits draft (length old) rw
      zeros {c} {p} f = sym ((promised refl refl refl).zeros c p f).0

      written : (c : Counts) → lean_answer en large_limits draft (length old) rw ≡ accepted c.tokens c.records → out ≡ front (start_words (tokens_of (lexemes draft))) old
          → take c.tokens out ++ replicate (length out - c.tokens) 0 ≡ start_buffer en large_limits draft (length old) rw
      written c f o =
          let p : PromisedLean en large_limits draft (length old) rw _ _ _ = promised refl refl refl in
          let d = (p.accepts c.tokens c.records).0 f in
          let ws = start_words (tokens_of (lexemes draft)) in
          let t : tokens_of (lexemes draft) ≡ d.its_tokens = ap tokens_of d.shaped.within.lexes in
          let m : length ws ≡ length d.its_tokens = ap (λ us. length (start_words us)) t ∙ length-map d.its_tokens (λ t. t.start) in
          let k : length ws ≡ c.tokens = m ∙ sym d.tokens_number in
          let fits : c.tokens ≤ length old = omega (arith, d.shaped.within.third, d.tokens_number) in
          ap (λ (z : List ℕ). take c.tokens z ++ replicate (length z - c.tokens) 0) o
          ∙ front-cleared ws old c.tokens k fits
          ∙ ap₂ (λ us j. start_words us ++ replicate (length old - j) 0) t m
          ∙ sym (p.written c.tokens c.records d).starts_are

-- And so do the records.
module _ (en : Entry) (draft old : List ℕ) (sw : ℕ) (r : Result Counts Refused) (e : meant r ≡ lean_answer en large_limits draft sw (length old)) {k : Counts} (none : Counts) (k_is : k ≡ result_unwrap_or r none) (zero_is : none.records ≡ 0) where
  as-whole : meant r ≡ answer en large_limits draft (whole_words sw) (length old)
  as-whole = e ∙ lean-is en large_limits draft sw (length old)

  pub lean-records-fit : rec_wide * k.records ≤ length old
  lean-records-fit = its-records-fit en draft old (whole_words sw) r as-whole none k_is zero_is

  pub its-lean-tree : {out : List ℕ} → length out ≡ length old → Held (meant r) (up_words (lean_records en large_limits draft sw)) old out
      → take (rec_wide * k.records) out ++ replicate (length out - rec_wide * k.records) 0 ≡ lean_tree en large_limits draft sw (length old)
  its-lean-tree {out} long h =
      its-tree en draft old (whole_words sw) r as-whole none k_is zero_is long (subst (λ rs. Held (meant r) (up_words rs) old out) (lean-records-are en large_limits draft sw) h)
      ∙ sym (lean-tree-is en large_limits draft sw (length old))

-- What is read to a tree buffer is listed.
module _ (draft : List ℕ) (sw rw : ℕ) (r : Result Counts Refused) (e : meant r ≡ lean_answer whole_file large_limits draft sw rw) where
  whole : meant r ≡ answer whole_file large_limits draft (whole_words sw) rw
  whole = e ∙ lean-is whole_file large_limits draft sw rw

  pub lean-early : Early r
  lean-early = early whole_file Large draft (whole_words sw) rw r whole

  pub lean-listed : (size : ℕ) {tree bytes : List ℕ} {n : ℕ} → tree ≡ lean_tree whole_file large_limits draft sw rw → HandsOver (written r tree) size n bytes
      → HandsOver (lean_listing whole_file large_limits draft sw rw) size n bytes
  lean-listed size t h =
      same_is size
      (buffer-written whole_file large_limits draft (whole_words sw) rw r whole (t ∙ lean-tree-is whole_file large_limits draft sw rw) ∙ sym (lean-listing-is whole_file large_limits draft sw rw))
      h

pub lean-nothing : (draft : List ℕ) (sw rw size : ℕ) {n : ℕ} → n ≡ used (lean_listing whole_file large_limits draft sw rw) size
    → (n ≡ 0) ↔ (size < length (lean_listing whole_file large_limits draft sw rw))
lean-nothing draft sw rw size {n} e =
    let t = lean-listing-is whole_file large_limits draft sw rw in
    subst (λ u. (n ≡ 0) ↔ (size < length u)) (sym t) (nothing-only large_limits draft (whole_words sw) rw size (e ∙ ap (λ u. used u size) t))
