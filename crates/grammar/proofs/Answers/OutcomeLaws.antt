-- `answer` accepts and refuses just as Outcome.antt says.
-- Assumes nothing.
use Rattle.std.specs.Prelude.{Bool, cond, List, ◌↔◌, ◌≡◌, ℕ, ◌*◌, ◌≤◌, ◌<◌, length, get_or}
use Rattle.std.proofs.Math.Bool.{true, false}
use Rattle.std.proofs.Math.Option.{Option, none, some}
use Rattle.std.proofs.Math.Path.{refl, ap}
use Rattle.std.proofs.Common.{sym, ap₂, ◌∙◌, subst, arith, ltb-true, ltb-false, lt-ltb, le-ltb}
use Rattle.std.proofs.Math.Dec.{ltb}
use Rattle.own.specs.Tree.{classes_of}
use Rattle.theory.specs.Ebnf.{Items}
use Rattle.theory.specs.Parse.{Found, found, stuck}
use Rattle.lexer.specs.Lexemes.{Token, Lexemes, tokens, refused_at, lexemes}
use Rattle.lexer.proofs.RowLaws as rows
use Rattle.lexer.specs.Limits.{Limits, first_too_deep, room, no_token, deep, judged, lexed_of, tokens_of}
use Rattle.text.specs.Widths.{rec_wide}
use Rattle.text.specs.Answers.{Answer, accepted, refused}
use Rattle.text.specs.Refusals.{refusal_number}
use Rattle.text.specs.declared.refusal.Refusal.TheVariants as refusal
use Rattle.grammar.specs.Entry.{Entry}
use Rattle.grammar.specs.Shapes.WellShaped.{shape_of}
use Rattle.grammar.proofs.Shapes.WellShapedLaws.{shape-exactly, stuck-shape-exactly}
use Rattle.grammar.specs.Records.Faults.{Fault, fault_of}
use Rattle.grammar.specs.Answers.Answer.{toks_of, start_of, records_for, Reading, unread, read, faulty, shaped, lexed, reading, fitted, answer}
use Rattle.grammar.specs.Answers.Outcome.{Within, Shaped, Refusal, too_long, bad_bytes, too_many, too_deep, misshapen, faulted, no_room, Accepted}
use Rattle.grammar.proofs.Answers.Continuations.{misshapen-at, first-wrong-at}

module _ (en : Entry) (l : Limits) (draft : List ℕ) (tw rw : ℕ) where
  -- what an answer says
  abbrev Outcome : Answer → Type 0
  Outcome (accepted n m) = Accepted en l draft tw rw n m
  Outcome (refused c p) = Refusal en l draft tw rw c p

  module _ (ts : List Token) (short : length draft ≤ l.bytes) (lexes : lexemes draft ≡ tokens ts) (h : length ts ≤ room l tw) where
    is_within : first_too_deep 0 0 ts ≡ none → Within l draft tw ts
    unfolding room
    is_within e = record { short = short; lexes = lexes; few = omega arith; third = omega arith; shallow = e }

  module _ (ts : List Token) (r : Items) (s : Shaped en l draft tw ts r) where
    says-fitted : fault_of draft (toks_of draft ts) r ≡ none → Outcome (fitted rw (read ts (records_for en draft ts r)))
    says-fitted e = go (ltb rw (rec_wide * length (records_for en draft ts r))) refl
      where
        go : (b : Bool) → ltb rw (rec_wide * length (records_for en draft ts r)) ≡ b
            → Outcome (cond b (refused (refusal_number refusal.NoRoom) 0) (accepted (length ts) (length (records_for en draft ts r))))
        go true q = no_room s e (ltb-true _ _ q)
        go false q =
            record { its_tokens = ts; shape = r; shaped = s; no_fault = e; fits = ltb-false _ _ q; tokens_number = refl; records_number = refl }

    says-faulty : (o : Option Fault) → fault_of draft (toks_of draft ts) r ≡ o → Outcome (fitted rw (faulty o ts (records_for en draft ts r)))
    says-faulty none e = says-fitted e
    says-faulty (some f) e = faulted s e

  says-shaped : (ts : List Token) → Within l draft tw ts → (x : Found) → shape_of en (classes_of (toks_of draft ts)) ≡ x → Outcome (fitted rw (shaped en draft ts x))
  says-shaped ts w (stuck k) e = misshapen (misshapen-at en l draft tw ts w k ((stuck-shape-exactly en (classes_of (toks_of draft ts)) k).0 e))
  says-shaped ts w (found r) e =
      let m = (shape-exactly en (classes_of (toks_of draft ts)) r).0 e in
      says-faulty ts r (record { within = w; is_shape = m.0; its_yield = m.1 }) (fault_of draft (toks_of draft ts) r) refl

  says-deep : (ts : List Token) → length draft ≤ l.bytes → lexemes draft ≡ tokens ts → length ts ≤ room l tw → (o : Option ℕ) → first_too_deep 0 0 ts ≡ o
      → Outcome (fitted rw (lexed en (deep o (length ts)) draft ts))
  says-deep ts short e h none q = says-shaped ts (is_within ts short e h q) (shape_of en (classes_of (toks_of draft ts))) refl
  says-deep ts short e h (some p) q = too_deep short e h q

  says-judged : (x : Lexemes) → length draft ≤ l.bytes → lexemes draft ≡ x → Outcome (fitted rw (lexed en (judged l tw x) draft (tokens_of x)))
  says-judged (refused_at c p) short e = bad_bytes short ((rows.refused-exactly draft c p).0 e)
  says-judged (tokens ts) short e = go (ltb (room l tw) (length ts)) refl
    where
      go : (b : Bool) → ltb (room l tw) (length ts) ≡ b
          → Outcome (fitted rw (lexed en (cond b (refused (refusal_number refusal.TooMany) (get_or ts (room l tw) no_token).start) (deep (first_too_deep 0 0 ts) (length ts))) draft ts))
      go true q = too_many short e (ltb-true _ _ q)
      go false q = says-deep ts short e (ltb-false _ _ q) (first_too_deep 0 0 ts) refl

  -- The answer is as its rows say.
  says : Outcome (answer en l draft tw rw)
  unfolding answer reading lexed_of
  says = go (ltb l.bytes (length draft)) refl
    where
      go : (b : Bool) → ltb l.bytes (length draft) ≡ b
          → Outcome (fitted rw (lexed en (cond b (refused (refusal_number refusal.TooLong) l.bytes) (judged l tw (lexemes draft))) draft (tokens_of (lexemes draft))))
      go true q = too_long (ltb-true _ _ q)
      go false q = says-judged (lexemes draft) (ltb-false _ _ q) refl

  -- the lexer's answer decides
  read-lexed : (x : Answer) → lexed_of l draft tw ≡ x → reading en l draft tw ≡ lexed en x draft (tokens_of (lexemes draft))
  unfolding reading lexed_of
  read-lexed x e = ap (λ y. lexed en y draft (tokens_of (lexemes draft))) e

  whole : length draft ≤ l.bytes → lexed_of l draft tw ≡ judged l tw (lexemes draft)
  unfolding lexed_of
  whole h = simp (le-ltb _ _ h)

  first : l.bytes < length draft → lexed_of l draft tw ≡ refused (refusal_number refusal.TooLong) l.bytes
  unfolding lexed_of
  first h = simp (lt-ltb _ _ h)

  counted : (ts : List Token) → length draft ≤ l.bytes → lexemes draft ≡ tokens ts → length ts ≤ room l tw → lexed_of l draft tw ≡ deep (first_too_deep 0 0 ts) (length ts)
  counted ts h e k =
      whole h ∙ ap (judged l tw) e
      ∙ ap (λ b. cond b (refused (refusal_number refusal.TooMany) (get_or ts (room l tw) no_token).start) (deep (first_too_deep 0 0 ts) (length ts))) (le-ltb (room l tw) (length ts) k)

  -- Within the limits the lexer has no refusal;
  pub lexed-within : (ts : List Token) → Within l draft tw ts → lexed_of l draft tw ≡ accepted (length ts) 0
  unfolding room
  lexed-within ts w = counted ts w.short w.lexes (omega (arith, w.few, w.third)) ∙ ap (λ o. deep o (length ts)) w.shallow

  -- the shapes decide,
  pub read-within : (ts : List Token) → Within l draft tw ts → reading en l draft tw ≡ shaped en draft ts (shape_of en (classes_of (toks_of draft ts)))
  read-within ts w =
      read-lexed (accepted (length ts) 0) (lexed-within ts w)
      ∙ ap (λ x. shaped en draft (tokens_of x) (shape_of en (classes_of (toks_of draft (tokens_of x))))) w.lexes

  -- and then the refusals of the shapes.
  pub read-shaped : (ts : List Token) (r : Items) → Shaped en l draft tw ts r → reading en l draft tw ≡ faulty (fault_of draft (toks_of draft ts) r) ts (records_for en draft ts r)
  read-shaped ts r s =
      read-within ts s.within ∙ ap (shaped en draft ts) ((shape-exactly en (classes_of (toks_of draft ts)) r).1 (s.is_shape, s.its_yield))

  -- What is read of a draft to which no refusal but the last may apply.
  pub read-faultless : (ts : List Token) (r : Items) → Shaped en l draft tw ts r → fault_of draft (toks_of draft ts) r ≡ none → reading en l draft tw ≡ read ts (records_for en draft ts r)
  read-faultless ts r s e = read-shaped ts r s ∙ ap (λ o. faulty o ts (records_for en draft ts r)) e

  by-reading : (x : Reading) → reading en l draft tw ≡ x → answer en l draft tw rw ≡ fitted rw x
  unfolding answer
  by-reading x e = ap (fitted rw) e

  refused-only : {c p : ℕ} → Refusal en l draft tw rw c p → answer en l draft tw rw ≡ refused c p
  refused-only (too_long h) = by-reading (unread (refusal_number refusal.TooLong) l.bytes) (read-lexed (refused (refusal_number refusal.TooLong) l.bytes) (first h))
  refused-only (bad_bytes {c = c} {p = p} h e) = by-reading (unread c p) (read-lexed (refused c p) (whole h ∙ ap (judged l tw) ((rows.refused-exactly draft c p).1 e)))
  refused-only (too_many {ts = ts} h e k) =
      by-reading (unread (refusal_number refusal.TooMany) (get_or ts (room l tw) no_token).start)
      (read-lexed (refused (refusal_number refusal.TooMany) (get_or ts (room l tw) no_token).start)
      (whole h ∙ ap (judged l tw) e
      ∙ ap (λ b. cond b (refused (refusal_number refusal.TooMany) (get_or ts (room l tw) no_token).start) (deep (first_too_deep 0 0 ts) (length ts))) (lt-ltb (room l tw) (length ts) k)))
  refused-only (too_deep {ts = ts} {p = p} h e k q) =
      by-reading (unread (refusal_number refusal.TooDeep) p) (read-lexed (refused (refusal_number refusal.TooDeep) p) (counted ts h e k ∙ ap (λ o. deep o (length ts)) q))
  refused-only (misshapen w) =
      let ts = w.its_tokens in
      let f = first-wrong-at en l draft tw ts w.within w.at w.there w.before w.further w.ended in
      by-reading (unread (refusal_number refusal.Misshapen) (start_of draft ts w.at)) (read-within ts w.within ∙ ap (shaped en draft ts) ((stuck-shape-exactly en (classes_of (toks_of draft ts)) w.at).1 f))
      ∙ ap (refused (refusal_number refusal.Misshapen)) (sym w.place)
  refused-only (faulted {ts = ts} {r = r} {f = f} s e) =
      by-reading (unread f.number f.place) (read-shaped ts r s ∙ ap (λ o. faulty o ts (records_for en draft ts r)) e)
  refused-only (no_room {ts = ts} {r = r} s e h) =
      by-reading (read ts (records_for en draft ts r)) (read-faultless ts r s e)
      ∙ ap (λ b. cond b (refused (refusal_number refusal.NoRoom) 0) (accepted (length ts) (length (records_for en draft ts r)))) (lt-ltb rw (rec_wide * length (records_for en draft ts r)) h)

  accepted-only : (n m : ℕ) → Accepted en l draft tw rw n m → answer en l draft tw rw ≡ accepted n m
  accepted-only n m a =
      let ts = a.its_tokens in
      let r = a.shape in
      by-reading (read ts (records_for en draft ts r)) (read-faultless ts r a.shaped a.no_fault)
      ∙ ap (λ b. cond b (refused (refusal_number refusal.NoRoom) 0) (accepted (length ts) (length (records_for en draft ts r)))) (le-ltb rw (rec_wide * length (records_for en draft ts r)) a.fits)
      ∙ ap₂ (λ x y. accepted x y) (sym a.tokens_number) (sym a.records_number)

  -- Refused exactly by one of the rows, each with no row before it: the order of refusals.
  pub refused-exactly : (c p : ℕ) → (answer en l draft tw rw ≡ refused c p) ↔ Refusal en l draft tw rw c p
  refused-exactly c p = ((λ e. subst Outcome e says), refused-only)

  -- Accepted exactly when no row applies.
  pub accepted-exactly : (n m : ℕ) → (answer en l draft tw rw ≡ accepted n m) ↔ Accepted en l draft tw rw n m
  accepted-exactly n m = ((λ e. subst Outcome e says), accepted-only n m)
