-- The place of every refusal lies in the draft, or is its length.
-- Assumes nothing.
use Rattle.std.specs.Prelude.{Bool, true, false, cond, List, [], ◌∷◌, ◌≡◌, refl, ℕ, zero, suc, ◌≤◌, ◌<◌, eqb, ltb, length, get_or, drop}
use Rattle.std.proofs.Math.Option.{some}
use mathlib.Core.Option.{none-ne-some}
use Rattle.std.proofs.Common.{arith, ltb-true}
use Rattle.own.specs.Law.{sorts}
use Rattle.text.specs.Answers.{refused}
use Rattle.text.specs.Refusals.{refusal_number}
use Rattle.text.specs.declared.refusal.Refusal.TheVariants as refusal
use Rattle.theory.specs.Ebnf as shape
use Rattle.lexer.specs.Lexemes.{Token}
use Rattle.lexer.specs.Limits.{Limits, no_token, depth_after, row_after, passes, first_too_deep, room}
use Rattle.lexer.proofs.RowLaws as rows
use Rattle.lexer.proofs.Tokens.{Between, tokens-between, lexeme-refused}
use Rattle.own.specs.Tree.{Tok, Items, marks}
use Rattle.own.specs.Lists.{All, nil, ◌&◌}
use Rattle.own.proofs.Lists.{all_append}
use Rattle.lexer.specs.Classes as t
use Rattle.grammar.specs.Shapes.Row.{Refused, never, byBound, byLength, byFold, byArms}
use Rattle.grammar.specs.Records.Records.{opening, first_tok, first_of, recorded, record_items}
use Rattle.grammar.specs.Records.Faults.{Fault, unless, faults_by, refused_of, faults_at, faults, fault_of}
use Rattle.grammar.proofs.Records.FaultNumbers.{chosen, of-answered}
use Rattle.grammar.specs.Entry.{Entry}
use Rattle.grammar.specs.Answers.Answer.{toks_of, start_of, answer}
use Rattle.grammar.specs.Answers.Outcome.{Refusal, too_long, bad_bytes, too_many, too_deep, misshapen, faulted, no_room}
use Rattle.grammar.proofs.Answers.OutcomeLaws.{refused-exactly}

-- a token of the list starts before the place m
at_before : (at m : ℕ) (ts : List Token) (k : ℕ) → Between at m ts → k < length ts → (get_or ts k no_token).start < m
at_before at m [] k b h = absurd (omega arith)
at_before at m (u ∷ ts) zero b h = let x = b.1 in let y = b.2 in omega arith
at_before at m (u ∷ ts) (suc k) b h = at_before u.end m ts k b.3 (omega arith)

-- so does the one that passes refusal 7's limit
deep-before : (at m d n : ℕ) (ts : List Token) (p : ℕ) → Between at m ts → first_too_deep d n ts ≡ some p → p < m
unfolding first_too_deep
deep-before at m d n [] p b e = absurd (none-ne-some p e)
deep-before at m d n (u ∷ ts) p b e =
    go (passes (depth_after u.kind d) (row_after u.kind n)) e (deep-before u.end m (depth_after u.kind d) (row_after u.kind n) ts p b.3)
  where
    go : (c : Bool) → cond c (some u.start) (first_too_deep (depth_after u.kind d) (row_after u.kind n) ts) ≡ some p
        → (first_too_deep (depth_after u.kind d) (row_after u.kind n) ts ≡ some p → p < m) → p < m
    go true q f = let x = b.1 in let y = b.2 in let z : u.start ≡ p = cc in omega arith
    go false q f = f q

-- Tokens that start at m or before it.
abbrev Starts : ℕ → List Tok → Type 0
Starts m [] = Unit {0}
Starts m (u ∷ ts) = (u.start ≤ m) × Starts m ts

starts-of : (draft : List ℕ) (at m : ℕ) (ts : List Token) → Between at m ts → Starts m (toks_of draft ts)
unfolding toks_of
starts-of draft at m [] b = tt
starts-of draft at m (u ∷ ts) b = let x = b.1 in let y = b.2 in (omega arith, starts-of draft u.end m ts b.3)

starts-drop : (m n : ℕ) (ts : List Tok) → Starts m ts → Starts m (drop n ts)
starts-drop m zero ts s = s
starts-drop m (suc n) [] s = tt
starts-drop m (suc n) (u ∷ ts) s = starts-drop m n ts s.1

first-starts : (m : ℕ) (ts : List Tok) → Starts m ts → (first_tok ts).start ≤ m
unfolding first_tok
first-starts m [] s = omega arith
first-starts m (u ∷ ts) s = s.0

first-of-starts : (m c : ℕ) (ts : List Tok) → Starts m ts → (first_of c ts).start ≤ m
unfolding first_of
first-of-starts m c [] s = omega arith
first-of-starts m c (u ∷ ts) s = go (eqb u.class c) (first-of-starts m c ts s.1)
  where
    go : (b : Bool) → (first_of c ts).start ≤ m → (cond b u (first_of c ts)).start ≤ m
    go true h = s.0
    go false h = h

marks-start : (draft : List ℕ) (m : ℕ) (r : shape.Items) (ts : List Tok) → Starts m ts → Starts m (marks (record_items draft r ts))
unfolding record_items recorded
marks-start draft m shape.nil ts s = tt
marks-start draft m (shape.word c r) ts s = (first-starts m ts s, marks-start draft m r (drop 1 ts) (starts-drop m 1 ts s))
marks-start draft m (shape.sub k js r) ts s = marks-start draft m r (drop (length (shape.yield js)) ts) (starts-drop m (length (shape.yield js)) ts s)

unless-start : (m : ℕ) (ok : Bool) (n : ℕ) (u : Tok) → u.start ≤ m → All (λ f. f.place ≤ m) (unless ok n u)
unfolding unless
unless-start m true n u h = nil
unless-start m false n u h = h & nil

by-start : (r : Refused) (draft : List ℕ) (m : ℕ) (is : Items) → Starts m (marks is) → All (λ f. f.place ≤ m) (faults_by r draft is)
by-start never draft m is s = nil
by-start byBound draft m is s = unless-start m _ (refusal_number refusal.Bound) _ (first-of-starts m t.DecLiteral (marks is) s)
by-start byLength draft m is s = unless-start m _ (refusal_number refusal.Length) _ (first-of-starts m _ (marks is) s)
by-start byFold draft m is s =
    let a = first-of-starts m t.DecLiteral (marks is) s in
    chosen (λ g. g.place ≤ m) (eqb (opening (sorts is)) t.array_fold) (unless-start m _ (refusal_number refusal.Size) _ a) (unless-start m _ (refusal_number refusal.Bound) _ a)
by-start byArms draft m is s = unless-start m _ _ _ (first-starts m (marks is) s)

at-start : (draft : List ℕ) (m k : ℕ) (is : Items) → Starts m (marks is) → All (λ f. f.place ≤ m) (faults_at draft k is)
unfolding faults_at
at-start draft m k is s = by-start (refused_of k) draft m is s

faults-start : (draft : List ℕ) (m : ℕ) (r : shape.Items) (ts : List Tok) → Starts m ts → All (λ f. f.place ≤ m) (faults draft r ts)
unfolding faults
faults-start draft m shape.nil ts s = nil
faults-start draft m (shape.word c r) ts s = faults-start draft m r (drop 1 ts) (starts-drop m 1 ts s)
faults-start draft m (shape.sub k js r) ts s =
    all_append (at-start draft m k (record_items draft js ts) (marks-start draft m js ts s))
    (all_append (faults-start draft m js ts s)
    (faults-start draft m r (drop (length (shape.yield js)) ts) (starts-drop m (length (shape.yield js)) ts s)))

fault-start : (draft : List ℕ) (m : ℕ) (ts : List Tok) (r : shape.Items) (f : Fault) → Starts m ts → fault_of draft ts r ≡ some f → f.place ≤ m
fault-start draft m ts r f s e = of-answered (λ g. g.place ≤ m) draft ts r f (faults-start draft m r ts s) e

start-within : (draft : List ℕ) (ts : List Token) (k : ℕ) → Between 0 (length draft) ts → start_of draft ts k ≤ length draft
unfolding start_of
start-within draft ts k b = go (ltb k (length ts)) refl
  where
    go : (c : Bool) → ltb k (length ts) ≡ c → cond c (get_or ts k no_token).start (length draft) ≤ length draft
    go true e = let h = at_before 0 (length draft) ts k b (ltb-true k (length ts) e) in omega arith
    go false e = omega arith

module _ (en : Entry) (l : Limits) (draft : List ℕ) (tw rw : ℕ) where
  row_within : {c p : ℕ} → Refusal en l draft tw rw c p → p ≤ length draft
  row_within (too_long h) = omega arith
  row_within (bad_bytes {c = c} {p = p} h e) = let z = (lexeme-refused draft c p ((rows.refused-exactly draft c p).1 e)).1 in omega arith
  row_within (too_many {ts = ts} h e k) = let z = at_before 0 (length draft) ts (room l tw) (tokens-between draft ts e) k in omega arith
  row_within (too_deep {ts = ts} {p = p} h e k q) = let z = deep-before 0 (length draft) 0 0 ts p (tokens-between draft ts e) q in omega arith
  row_within (misshapen w) = let z = start-within draft w.its_tokens w.at (tokens-between draft w.its_tokens w.within.lexes) in let q = w.place in omega arith
  row_within (faulted {ts = ts} {r = r} {f = f} s e) =
      fault-start draft (length draft) (toks_of draft ts) r f (starts-of draft 0 (length draft) ts (tokens-between draft ts s.within.lexes)) e
  row_within (no_room s e h) = omega arith

  -- "Places are byte numbers from 0": that of a refusal is at most the length.
  pub place-within : (c p : ℕ) → answer en l draft tw rw ≡ refused c p → p ≤ length draft
  place-within c p e = row_within ((refused-exactly en l draft tw rw c p).0 e)
